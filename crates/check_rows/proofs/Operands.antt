-- The rule of a row from its operands.
use mathlib.Core.Path.{◌≡◌, refl, ap, ◌∙◌}
use mathlib.Core.Logic.{◌⊎◌}
use mathlib.Core.Bool.{Bool, true, false, ◌||◌}
use borrow.Author.Tests.{eqb-false}
use mathlib.Core.List.{List}
use Prim.Native.Nat.{ℕ, ◌+◌, ◌≤◌, ◌<◌}
use native.Mathlib.Omega.{arith}
use lib.Dec.{T, eqb}
use Rattle.rules.specs.Grammar.{Let, If, Loop, IsStatementNumber, GoesOn, statement_number, is_closing_number}
use Rattle.rules.specs.Syntax as Syntax
use Rattle.rules.specs.State as Rules
use Rattle.rules.specs.Rules.{rule, new_rule, call_rule, opposite}
use Rattle.tables.specs.Decode.{first_atom_at, atom_count_at, rel_of, row_count, class_count, method_count, class_at, method_at, program_in}
use Rattle.tables.specs.Layout.{most_atom_rows}
use Rattle.tables.specs.declared.kinds.AtomKind.{AtomKind}
use Rattle.tables.specs.contracts.kinds.AtomKind.{the_type}
use Rattle.tables.specs.Kinds.{kind_of, kind_number}
use Rattle.tables.proofs.AtomKinds.{rel-kind}
use denote.Enum.Bare.{sameb}
use Rattle.tables.specs.Tables.{Tables}
use Rattle.tables.proofs.Rows.{class-get, method-get}
use Rattle.check_equality.specs.Links as Links
use Rattle.check_rows.specs.Rows.{RowIs}

-- the opposite of `eq` and of `ne`, by the kind of their atom
opposite-kind : (k : AtomKind) → Links.rel_of (sameb the_type k AtomKind.Eq) ≡ opposite (rel_of (kind_number k))
unfolding Links.rel_of rel_of opposite
opposite-kind AtomKind.Read = refl
opposite-kind AtomKind.Acc = refl
opposite-kind AtomKind.Chain = refl
opposite-kind AtomKind.Eq = refl
opposite-kind AtomKind.Ne = refl

pub opposite-relation : (k : AtomKind) (b : ℕ) → k ≡ kind_of b → Links.rel_of (sameb the_type k AtomKind.Eq) ≡ opposite (rel_of b)
opposite-relation k b e = opposite-kind k ∙ ap opposite (ap (λ k. rel_of (kind_number k)) e ∙ rel-kind b)

-- the atoms of a loop: its condition and its invariant
pub loop_atoms :
    (w : List ℕ) → Tables w → (i : ℕ) → i < row_count w → RowIs w i Loop →
    (1 ≤ first_atom_at w i) × (first_atom_at w i + atom_count_at w i ≤ most_atom_rows)
unfolding statement_number
loop_atoms w T i h k =
    let F = (T.row_fits i h).operands in
    (F.condition k, omega (arith, F.atoms.1, T.atoms))

-- the one atom of a `let` or an `if`
pub first_atom : (w : List ℕ) → Tables w → (i : ℕ) → i < row_count w → RowIs w i Let ⊎ RowIs w i If → first_atom_at w i < most_atom_rows
unfolding statement_number
first_atom w T i h k =
    let F = (T.row_fits i h).operands in omega (arith, F.atoms.1, F.one_atom k, T.atoms)

pub new-at :
    (w : List ℕ) (x x' c c' : ℕ) (s : Rules.State) → x' ≡ x → c' ≡ c → c < class_count w →
    new_rule x' (class_at w c') s ≡ rule (program_in w) (Syntax.new x c) s
unfolding rule
new-at w x x' c c' s e d h = rw (e, d, class-get w c h)

pub call_at :
    (w : List ℕ) (x x' y y' m m' z z' : ℕ) (s : Rules.State) → x' ≡ x → y' ≡ y → m' ≡ m → z' ≡ z → m < method_count w →
    call_rule x' y' (method_at w m') z' s ≡ rule (program_in w) (Syntax.call x y m z) s
unfolding rule
call_at w x x' y y' m m' z z' s a b c d h = rw (a, b, c, d, method-get w m h)

above : (k n : ℕ) → n ≤ k → (k ≡ n → ⊥) → n + 1 ≤ k
above k n h d = omega arith

neither : (a b : Bool) → (a || b) ≡ false → (a ≡ false) × (b ≡ false)
neither false b e = (refl, e)
neither true b e = absurd (let z : ◌≡◌ {A = ℕ} 0 1 = cc in omega arith)

-- each kind that goes on has its rule
pub no_kind :
    (k : ℕ) → IsStatementNumber k → GoesOn k → (k ≡ 8 → ⊥) → (k ≡ 9 → ⊥) → (k ≡ 10 → ⊥) → (k ≡ 11 → ⊥) → (k ≡ 13 → ⊥) → (k ≡ 14 → ⊥) →
    (k ≡ 19 → ⊥) → (k ≡ 20 → ⊥) → (k ≡ 23 → ⊥) → (k ≡ 24 → ⊥) → ⊥
unfolding is_closing_number statement_number
no_kind k (low, high) (o, i, p, r) a b c d f g m n s t =
    let (x, others) = neither (eqb k 16) (eqb k 17 || (eqb k 18 || eqb k 22)) o in
    let (y, more) = neither (eqb k 17) (eqb k 18 || eqb k 22) others in
    let (z, v) = neither (eqb k 18) (eqb k 22) more in
    let l16 = above k 15 (above k 14 (above k 13 (above k 12 (above k 11 (above k 10 (above k 9 (above k 8 low a) b) c) d) r) f) g) i in
    let l19 = above k 18 (above k 17 (above k 16 l16 (eqb-false k 16 x)) (eqb-false k 17 y)) (eqb-false k 18 z) in
    let l23 = above k 22 (above k 21 (above k 20 (above k 19 l19 m) n) p) (eqb-false k 22 v) in
    omega (arith, high, above k 24 (above k 23 l23 s) t)
