-- Words by number: first those that begin lines, as kinds are numbered, then the reserved ones.
use Rattle.std.specs.Prelude.{cond, List, [], ◌∷◌, ℕ, suc, ◌+◌, ◌*◌, eqb}
use Rattle.std.proofs.Math.Option.{Option, none, some}
use Prim.Native.String.{String}
use Rattle.rules.specs.Base.{Name, bytes, is, first}
use Rattle.rules.specs.Grammar.{Kind, kinds, last_kind, kind_number}
use Rattle.read_bytes.specs.Marks.{byte_values}

-- in the order of `kind_number`, then the reserved ones
abbrev pub words : List String
words =
    "class" ∷ "field" ∷ "method" ∷ "requires" ∷ "ensures" ∷ "main" ∷ "var" ∷
    "set" ∷ "let" ∷ "new" ∷ "call" ∷ "return" ∷ "assert" ∷ "release" ∷ "if" ∷ "else" ∷ "join" ∷ "end" ∷ "add" ∷ "sub" ∷ "loop" ∷ "again" ∷
    "open" ∷ "shut" ∷ "int" ∷ "null" ∷ "this" ∷ "result" ∷ []

-- the numbers of those that begin no line
abbrev pub int_word : ℕ
int_word = suc last_kind

abbrev pub null_word : ℕ
null_word = suc int_word

abbrev pub this_word : ℕ
this_word = suc null_word

abbrev pub result_word : ℕ
result_word = suc this_word

-- the number of w in a list that is numbered from n on, or 0
unfoldable pub place_in : List String → ℕ → Name → ℕ
place_in [] n w = 0
place_in (s ∷ ss) n w = let r : ℕ = place_in ss (suc n) w in cond (is s w) n r

unfoldable pub word_number : Name → ℕ
word_number w = place_in words 1 w

-- the kind that has a number
unfoldable pub kind_at : ℕ → Option Kind
kind_at n = first (λ k. eqb n (kind_number k)) kinds

-- the number of a kind of line, or 0 where there is none
abbrev pub kind_or0 : Option Kind → ℕ
kind_or0 none = 0
kind_or0 (some k) = kind_number k

-- a word as one number: its bytes, after n, to the base 256
unfoldable pub packed : ℕ → Name → ℕ
packed n [] = n
packed n (b ∷ t) = packed (n * byte_values + b) t

-- the number of a packed word in a list that is numbered from n on, or 0
unfoldable pub packed_in : List String → ℕ → ℕ → ℕ
packed_in [] n k = 0
packed_in (s ∷ ss) n k = let r : ℕ = packed_in ss (suc n) k in cond (eqb k (packed 0 (bytes s))) n r

-- Everything above computes where this unfolds.
unfoldable pub opened : Unit {0}
unfolding place_in word_number kind_at packed packed_in
opened = tt
