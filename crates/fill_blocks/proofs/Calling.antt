-- A block's calls, row by row, and a block that is walked by its rows.
use mathlib.Core.Path.{◌≡◌, refl, sym, ap, ◌∙◌}
use mathlib.Core.Bool.{Bool, true, false, ◌||◌}
use mathlib.Core.Option.{none}
use mathlib.Core.List.{List, []}
use mathlib.Core.Logic.{◌⊎◌, inl, inr}
use Prim.Native.Nat.{ℕ, suc, ◌+◌, ◌≤◌, ◌<◌}
use native.Mathlib.Omega.{arith}
use native.Mathlib.Numerals.{add-one}
use lib.Dec.{eqb, ltb}
use lib.ListN.{length}
use borrow.Author.Tests.{eq-eqb, ne_eqb, lt-ltb, le-ltb}
use Rattle.rules.specs.Base.{any}
use Rattle.rules.specs.Syntax.{Stmt, Method, Program, row_numbered}
use Rattle.rules.specs.Rules.{check_method, check_blocks}
use Rattle.rules.specs.Bounds.{is_end, called, block, callees}
use Rattle.tables.specs.Decode.{row_count, method_count, first_row_at, main_first, method_at, program_in}
use Rattle.tables.specs.Tables.{Tables}
use Rattle.tables.proofs.Rows.{method-get}
use Rattle.tables.proofs.Runs.{run_length}
use Rattle.bound_laws.proofs.Blocks.{block_goes, block-ends, callees-nil, callees-none, callees-some}
use Rattle.bound_rows.specs.declared.Line.{Line}
use Rattle.bound_rows.specs.declared.Line.TheVariants.{Plain, Call, Loop, End}
use Rattle.bound_rows.specs.Lines.{line_in, Says}
use Rattle.bound_rows.proofs.Lines.{says, row-after}
use Rattle.fill_blocks.specs.Blocks.{block_verdict, first_row, calls_from}

pub clash : {A : Type 0} → true ≡ false → A
clash e = absurd (let z : ◌≡◌ {A = ℕ} 0 1 = cc in omega arith)

module _ (P : Program) (m i : ℕ) where
  s : Stmt
  s = (row_numbered P i).stmt

  end-here : Says End s → calls_from P m i ≡ false
  unfolding calls_from any s
  end-here y = rw (block-ends P i y.0, callees-none (row_numbered P i) [] y.1, callees-nil) refl

  call-first : (n : ℕ) → Says (Call n) s → (b : Bool) → eqb m n ≡ b → calls_from P m i ≡ (b || calls_from P m (suc i))
  unfolding calls_from any s
  call-first n y b e =
      rw (block_goes P i y.0, callees-some (row_numbered P i) (block P (suc i)) n y.1) (ap (λ b. b || any (eqb m) (callees (block P (suc i)))) e)

  plain-later : (is_end s ≡ false) × (called s ≡ none) → calls_from P m i ≡ calls_from P m (suc i)
  unfolding calls_from any s
  plain-later y = rw (block_goes P i y.0, callees-none (row_numbered P i) (block P (suc i)) y.1) refl

module _ (w : List ℕ) (m i : ℕ) where
  says-so : (v : Line) → v ≡ line_in w i → Says v (row_numbered (program_in w) i).stmt
  says-so v e = rw e (says _)

  pub ends : End ≡ line_in w i → calls_from (program_in w) m i ≡ false
  unfolding s
  ends e = end-here (program_in w) m i (says-so End e)

  pub calls : (n : ℕ) → Call n ≡ line_in w i → n ≡ m → calls_from (program_in w) m i ≡ true
  unfolding s
  calls n e d = call-first (program_in w) m i n (says-so (Call n) e) true (eq-eqb m n (sym d))

  -- any other row leaves it to the next, and there is one
  module _ (t : Tables w) (l : i < row_count w) where
    follows : (v : Line) → v ≡ line_in w i → (v ≡ End → ⊥) → i + 1 < row_count w
    follows v e d = let h = row-after w t i l (λ f. d (e ∙ f)) in omega arith

    pub on_call :
        (v : Line) → v ≡ line_in w i → (n : ℕ) → v ≡ Call n → (n ≡ m → ⊥) →
        (i + 1 < row_count w) × (calls_from (program_in w) m i ≡ calls_from (program_in w) m (i + 1))
    unfolding s
    on_call v e n f d =
        let c = call-first (program_in w) m i n (says-so (Call n) (sym f ∙ e)) false (ne_eqb m n (λ k. d (sym k))) in
        (follows v e (λ g. absurd (let z : Call n ≡ End = sym f ∙ g in cc)), c ∙ ap (calls_from (program_in w) m) (sym (add-one i)))

    plain : (v : Line) → v ≡ line_in w i → (v ≡ End → ⊥) → (is_end (row_numbered (program_in w) i).stmt ≡ false) × (called (row_numbered (program_in w) i).stmt ≡ none) →
        (i + 1 < row_count w) × (calls_from (program_in w) m i ≡ calls_from (program_in w) m (i + 1))
    unfolding s
    plain v e d y =
        (follows v e d, plain-later (program_in w) m i y ∙ ap (calls_from (program_in w) m) (sym (add-one i)))

    pub on_plain :
        (v : Line) → v ≡ line_in w i → (v ≡ Plain) ⊎ (v ≡ Loop) →
        (i + 1 < row_count w) × (calls_from (program_in w) m i ≡ calls_from (program_in w) m (i + 1))
    on_plain v e (inl f) =
        let y = says-so Plain (sym f ∙ e) in
        plain v e (λ g. absurd (let z : Plain ≡ End = sym f ∙ g in cc)) (y.0, y.1)
    on_plain v e (inr f) =
        let y = says-so Loop (sym f ∙ e) in
        plain v e (λ g. absurd (let z : Loop ≡ End = sym f ∙ g in cc)) (y.0, y.1)

-- WHERE BLOCKS START
module _ (w : List ℕ) (j : ℕ) where
  pub methods-are : length (program_in w).methods ≡ method_count w
  unfolding program_in
  methods-are = run_length (method_at w) 0 (method_count w)

  pub is-method : j < method_count w → ltb j (length (program_in w).methods) ≡ true
  is-method l = rw methods-are (lt-ltb _ _ l)

  pub is-main : method_count w ≤ j → ltb j (length (program_in w).methods) ≡ false
  is-main l = rw methods-are (le-ltb _ _ l)

  pub method-starts : j < method_count w → first_row (program_in w) j ≡ first_row_at w j
  unfolding first_row method_at
  method-starts l = rw (is-method l) (ap (λ (M : Method). M.first) (method-get w j l))

  pub main-starts : method_count w ≤ j → first_row (program_in w) j ≡ main_first w
  unfolding first_row program_in
  main-starts l = rw (is-main l) refl

-- as the code counts the methods
module _ (w : List ℕ) (j n : ℕ) where
  pub below : j < n → n ≡ method_count w → j < method_count w
  below l e = omega arith

  pub not-below : n ≤ j → n ≡ method_count w → method_count w ≤ j
  not-below l e = omega arith

  pub block-of-method-at : j < n → n ≡ method_count w → block_verdict (program_in w) j ≡ check_method (program_in w) (method_at w j)
  unfolding block_verdict
  block-of-method-at l e =
      rw (is-method w j (below l e)) (ap (check_method (program_in w)) (method-get w j (below l e)))

  pub block-of-main-at : n ≤ j → n ≡ method_count w → block_verdict (program_in w) j ≡ check_blocks (program_in w) []
  unfolding block_verdict
  block-of-main-at l e = rw (is-main w j (not-below l e)) refl
