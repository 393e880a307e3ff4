-- What a formula of a line becomes: the row of `assert`, `release`, `join` or `loop`; the requires or ensures of a method.
use Rattle.std.specs.Prelude.{Result, Ok, Err, ◌≡◌, Bool, true, false, cond, ◌||◌, List, [], ◌∷◌, ℕ, suc, ◌+◌, ◌-◌, eqb, length}
use Rattle.read_types.specs.declared.Fault.{Fault}
use Rattle.rules.specs.Grammar.{assert_kind, release_kind, join_kind, loop_kind}
use Rattle.rules.specs.Limits.{work_bytes}
use Rattle.rules.specs.Syntax.{Formula, Stmt, own, cmp, simple, assert, release, join, loop, end}
use Rattle.rules.specs.Items.{Item, a_statement}
use Rattle.tables.specs.Layout.{atom_limit, names_at}
use Rattle.tables.specs.Decode.{atoms_from}
use Rattle.tables.specs.Stores.{Kept}
use Rattle.read_scopes.specs.declared.Names.{Names}
use Rattle.rules.specs.Syntax.{Program}
use Rattle.rules.specs.Reading.{with_item}
use Rattle.tables.specs.declared.Operands.{Operands}
use Rattle.tables.specs.Tables.{Declared}
use Rattle.write_rows.specs.Holds.{Holds}
use Rattle.resolve_atoms.specs.Written.{formula_after, judged_after, FormulaFollows}

-- by the number of the kind
unfoldable pub is_claim : ℕ → Bool
is_claim k = eqb k assert_kind || (eqb k release_kind || (eqb k join_kind || eqb k loop_kind))

-- its first atom is a condition
unfoldable pub has_condition : Formula ℕ → Bool
has_condition [] = false
has_condition (own k x f ∷ φ) = false
has_condition (cmp n a b ∷ φ) = true

-- the `loop` with it, and with the others as its invariant
unfoldable pub loop_with : Formula ℕ → Stmt
loop_with [] = end
loop_with (own k x f ∷ φ) = end
loop_with (cmp n a b ∷ φ) = loop n a b φ

unfoldable pub claim_of : ℕ → Formula ℕ → Stmt
claim_of k φ =
    cond (eqb k assert_kind) (simple (assert φ))
    (cond (eqb k release_kind) (simple (release φ))
    (cond (eqb k join_kind) (join φ)
    (loop_with φ)))

-- where its own formula begins, if the atoms of its line do so at n
unfoldable pub own_first : ℕ → ℕ → ℕ
own_first k n = cond (eqb k loop_kind) (n + 1) n

-- its row, with the formula of the atoms from n up to m
abbrev pub claim_row : ℕ → ℕ → ℕ → ℕ → Operands
claim_row k n m l = record { kind = k; x = 0; y = 0; z = 0; member = 0; atoms = m - n; first = n; line = l }

-- the fields after r are the formula of a line of this kind, and there is room for its atoms from n on
pub record ClaimFollows (t w : List ℕ) (c : Names) (k r n : ℕ) : Type 0 where
  pub claim : is_claim k ≡ true
  pub formula : FormulaFollows t w c (atom_limit k) r n
  pub condition : k ≡ loop_kind → has_condition (formula_after t w c r) ≡ true

-- The formula after r is written as the atoms from n up to m, and the statement with it as the row i.
pub record ClaimPut (t w : List ℕ) (c : Names) (k r i n l : ℕ) (w' : List ℕ) (m : ℕ) : Type 0 where
  pub built :
      (D : Declared) (F : Program) → length F.rows ≡ i → Holds D w F n →
      Holds D w' (with_item F l (a_statement (claim_of k (formula_after t w c r)))) m
  pub count : m ≡ n + length (formula_after t w c r)
  pub formula : (D : Declared) (F : Program) → Holds D w F n → atoms_from w' n (m - n) ≡ formula_after t w c r
  pub names : Kept names_at work_bytes w w'
  pub size : length w' ≡ length w

-- The formula after r is written as the atoms from n up to e, and is what `item` makes of it in the last method, m.
pub record HeaderPut (item : Formula ℕ → Item) (t w : List ℕ) (c : Names) (r m n : ℕ) (w' : List ℕ) (e : ℕ) : Type 0 where
  pub built :
      (D : Declared) (F : Program) (l : ℕ) → length F.methods ≡ suc m → Holds D w F n →
      Holds D w' (with_item F l (item (formula_after t w c r))) e
  pub count : e ≡ n + length (formula_after t w c r)
  pub formula : (D : Declared) (F : Program) → Holds D w F n → atoms_from w' n (e - n) ≡ formula_after t w c r
  pub names : Kept names_at work_bytes w w'
  pub size : length w' ≡ length w

-- It is written just if its atoms are good.
unfoldable pub ClaimTried : (t w : List ℕ) (c : Names) (k r i n l : ℕ) (w' : List ℕ) → Result ℕ Fault → Type 0
ClaimTried t w c k r i n l w' (Ok m) = (judged_after t w c r ≡ Ok tt) × ClaimPut t w c k r i n l w' m
ClaimTried t w c k r i n l w' (Err f) = (judged_after t w c r ≡ Err f) × (length w' ≡ length w)

unfoldable pub HeaderTried : (item : Formula ℕ → Item) (t w : List ℕ) (c : Names) (r m n : ℕ) (w' : List ℕ) → Result ℕ Fault → Type 0
HeaderTried item t w c r m n w' (Ok e) = (judged_after t w c r ≡ Ok tt) × HeaderPut item t w c r m n w' e
HeaderTried item t w c r m n w' (Err f) = (judged_after t w c r ≡ Err f) × (length w' ≡ length w)
