-- Atoms by number, as the tables number their kinds: the words, and what the grammar says of each.
use Rattle.std.specs.Prelude.{◌≡◌, Option, Some, None, Bool, cond, ◌||◌, List, [], ◌∷◌, ℕ, suc, eqb, length, get_or}
use Prim.Native.String.{String}
use Rattle.rules.specs.Base.{Name, bytes}
use Rattle.rules.specs.Text.{is_rel, is_permit}
use Rattle.rules.specs.Grammar.{Operand}
use Rattle.rules.specs.Scope.{atom_operands}
use Rattle.tables.specs.declared.kinds.AtomKind.{AtomKind}
use Rattle.tables.specs.Numbers.{read_atom}
use Rattle.tables.specs.Kinds.{kind_number}
use Rattle.read_words.specs.Words.{packed}
use Rattle.read_grammar.specs.Rows.{operands_number}
use Rattle.read_atoms.specs.declared.Row.{Row}

-- from the kind of `read` on
abbrev pub atom_words : List String
atom_words = "read" ∷ "acc" ∷ "chain" ∷ "eq" ∷ "ne" ∷ []

-- the word of a kind; nothing where there is none
unfoldable pub atom_word : ℕ → Name
atom_word k = bytes (get_or ("" ∷ atom_words) k "")

-- "An atom is three fields: `acc x f`, `eq e e` or `ne e e`."; W8: `read x f`; W9: `chain x f`
unfoldable pub begins_atom : Name → Bool
begins_atom w = is_permit w || is_rel w

-- the operands of a kind; none where there is no such kind
unfoldable pub operands_of : ℕ → List Operand
operands_of k = cond (begins_atom (atom_word k)) (atom_operands (atom_word k)) []

abbrev pub row_with : ℕ → ℕ → ℕ → Bool → Row
row_with w n o c = record { word = w; bytes = n; operands = o; condition = c }

unfoldable pub atom_row : ℕ → Row
atom_row k =
    row_with (packed 0 (atom_word k)) (length (atom_word k)) (operands_number (operands_of k)) (is_rel (atom_word k))

-- the number of the word in a list, numbered from n on, that begins with the letter b; or 0
unfoldable pub begun_in : List String → ℕ → ℕ → ℕ
begun_in [] n b = 0
begun_in (s ∷ ss) n b = let r : ℕ = begun_in ss (suc n) b in cond (eqb b (get_or (bytes s) 0 0)) n r

-- the kind of the atom whose word begins with the letter b, or 0
unfoldable pub begun_by : ℕ → ℕ
begun_by b = begun_in atom_words read_atom b

-- what a letter begins, by its number
abbrev pub Begins : ℕ → Option AtomKind → Type 0
Begins b None = begun_by b ≡ 0
Begins b (Some k) = kind_number k ≡ begun_by b

-- Everything above computes where this unfolds.
unfoldable pub opened : Unit {0}
unfolding atom_word begins_atom operands_of atom_row begun_in begun_by
opened = tt
