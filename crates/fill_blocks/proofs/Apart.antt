-- A block that does not call a method does not depend on its requires.
use mathlib.Core.Path.{◌≡◌, refl, sym, ap, ◌∙◌}
use mathlib.Core.Bool.{Bool, true, false, cond, not, ◌||◌}
use mathlib.Core.List.{List, [], ◌∷◌}
use mathlib.Core.Option.{Option, none, some}
use Prim.Native.Nat.{ℕ, zero, suc}
use lib.Dec.{eqb, ltb}
use lib.ListN.{length, get_or, drop}
use borrow.Author.Tests.{eqb-false}
use Rattle.rules.specs.Base.{any, all}
use Rattle.rules.specs.Answers.{at_line}
use Rattle.rules.specs.Syntax.{Formula, Simple, Stmt, Row, Method, Program, no_method, method_numbered}
use Rattle.rules.specs.Syntax.{set, assign, compute, new, call, assert, release, open_chain, shut_chain, simple, return, if, else, join, loop, again, end}
use Rattle.rules.specs.State.{State, add, empty}
use Rattle.rules.specs.Reading.{with_requires}
use Rattle.rules.specs.Rules.{End, Open, Following, rule, call_rule, else_row, join_row, again_row, reached, check_row, check_rows, check_from, check_method, check_blocks}
use Rattle.rules.specs.Bounds.{is_end, called, up_to_end, block, callees}
use Rattle.rules.specs.Fill.{places_from}
use Rattle.rules.specs.Calls.{is_accepted}
use Rattle.bound_laws.proofs.Blocks.{callees-none, callees-some}
use Rattle.filling.specs.Sets.{methods_with, program_with}
use Rattle.fill_blocks.specs.Blocks.{block_verdict, first_row, calls_from, is_looked_at, passes, others_pass}
use Rattle.fill_blocks.proofs.Calling.{clash}

-- THE OTHER METHODS
others_same : (m n : ℕ) (φ : Formula ℕ) (d : Method) (Ms : List Method) → (m ≡ n → ⊥) → get_or (methods_with m φ Ms) n d ≡ get_or Ms n d
unfolding methods_with
others_same m n φ d [] o = refl
others_same zero zero φ d (M ∷ Ms) o = absurd (o refl)
others_same zero (suc n) φ d (M ∷ Ms) o = refl
others_same (suc m) zero φ d (M ∷ Ms) o = refl
others_same (suc m) (suc n) φ d (M ∷ Ms) o = others_same m n φ d Ms (λ e. o (ap suc e))

pub methods-length : (m : ℕ) (φ : Formula ℕ) (Ms : List Method) → length (methods_with m φ Ms) ≡ length Ms
unfolding methods_with
methods-length m φ [] = refl
methods-length zero φ (M ∷ Ms) = refl
methods-length (suc m) φ (M ∷ Ms) = ap suc (methods-length m φ Ms)

firsts_same : (m n : ℕ) (φ : Formula ℕ) (d : Method) (Ms : List Method) → (get_or (methods_with m φ Ms) n d).first ≡ (get_or Ms n d).first
unfolding methods_with with_requires
firsts_same m n φ d [] = refl
firsts_same zero zero φ d (M ∷ Ms) = refl
firsts_same zero (suc n) φ d (M ∷ Ms) = refl
firsts_same (suc m) zero φ d (M ∷ Ms) = refl
firsts_same (suc m) (suc n) φ d (M ∷ Ms) = firsts_same m n φ d Ms

module _ (P : Program) (m : ℕ) (φ : Formula ℕ) where
  pub method-apart : (n : ℕ) → (m ≡ n → ⊥) → method_numbered (program_with m φ P) n ≡ method_numbered P n
  unfolding program_with method_numbered
  method-apart n o = others_same m n φ (no_method P) P.methods o

  -- ROWS

  -- a line that is no call of m
  rule-apart : (p : Simple) (s : State) → ((n : ℕ) → called (simple p) ≡ some n → m ≡ n → ⊥) → rule (program_with m φ P) p s ≡ rule P p s
  unfolding rule program_with called
  rule-apart (set x f y) s o = refl
  rule-apart (assign x e) s o = refl
  rule-apart (compute u x y z) s o = refl
  rule-apart (new x c) s o = refl
  rule-apart (call x y n z) s o = ap (λ M. call_rule x y M z s) (method-apart n (o n refl))
  rule-apart (assert ψ) s o = refl
  rule-apart (release ψ) s o = refl
  rule-apart (open_chain y x f) s o = refl
  rule-apart (shut_chain x f) s o = refl

  row_apart :
      (t : Stmt) (l : ℕ) (ψ : Formula ℕ) (k k' : Following) (e : End) (os : List Open) →
      ((n : ℕ) → called t ≡ some n → m ≡ n → ⊥) → (is_end t ≡ false → k ≡ k') →
      check_row (program_with m φ P) t l ψ k e os ≡ check_row P t l ψ k' e os
  unfolding check_row is_end
  row_apart (simple p) l ψ k k' e os o c =
      λ i. reached l e λ s. at_line l (rule-apart p s o i) λ s'. c refl i (some s') os
  row_apart (return x) l ψ k k' e os o c = ap (λ k. check_row P (return x) l ψ k e os) (c refl)
  row_apart (if n a b) l ψ k k' e os o c = ap (λ k. check_row P (if n a b) l ψ k e os) (c refl)
  row_apart else l ψ k k' e os o c = ap (λ k. else_row l k e os) (c refl)
  row_apart (join χ) l ψ k k' e os o c = ap (λ k. join_row l χ k e os) (c refl)
  row_apart (loop n a b χ) l ψ k k' e os o c = ap (λ k. check_row P (loop n a b χ) l ψ k e os) (c refl)
  row_apart again l ψ k k' e os o c = ap (λ k. again_row l k e os) (c refl)
  row_apart end l ψ k k' e os o c = refl

  -- what the first row calls, and what follows it
  first-apart : (r : Row) (rs : List Row) → any (eqb m) (callees (up_to_end (r ∷ rs))) ≡ false → (n : ℕ) → called r.stmt ≡ some n → m ≡ n → ⊥
  unfolding up_to_end any
  first-apart r rs e n c =
      eqb-false m n (left_false (eqb m n) _ (ap (any (eqb m)) (sym (callees-some r _ n c)) ∙ e))
    where
      left_false : (a b : Bool) → (a || b) ≡ false → a ≡ false
      left_false true b e = e
      left_false false b e = refl

  rest-apart :
      (r : Row) (rs : List Row) → any (eqb m) (callees (up_to_end (r ∷ rs))) ≡ false → is_end r.stmt ≡ false →
      any (eqb m) (callees (up_to_end rs)) ≡ false
  unfolding up_to_end any
  rest-apart r rs e d = go (called r.stmt) refl (rw d at e)
    where
      right-false : (a b : Bool) → (a || b) ≡ false → b ≡ false
      right-false true b e = clash e
      right-false false b e = e

      go : (o : Option ℕ) → called r.stmt ≡ o → any (eqb m) (callees (r ∷ up_to_end rs)) ≡ false → any (eqb m) (callees (up_to_end rs)) ≡ false
      go none c e = ap (any (eqb m)) (sym (callees-none r _ c)) ∙ e
      go (some n) c e = right-false (eqb m n) _ (ap (any (eqb m)) (sym (callees-some r _ n c)) ∙ e)

  rows_apart :
      (ψ : Formula ℕ) (rs : List Row) (e : End) (os : List Open) → any (eqb m) (callees (up_to_end rs)) ≡ false →
      check_rows (program_with m φ P) ψ rs e os ≡ check_rows P ψ rs e os
  unfolding check_rows
  rows_apart ψ [] e os o = refl
  rows_apart ψ (r ∷ rs) e os o =
      row_apart r.stmt r.line ψ _ _ e os (first-apart r rs o)
      (λ d i e os. rows_apart ψ rs e os (rest-apart r rs o d) i)

  -- BLOCKS
  pub calls_same : (i : ℕ) → calls_from (program_with m φ P) m i ≡ calls_from P m i
  unfolding calls_from block program_with
  calls_same i = refl

  pub count_same : length (program_with m φ P).methods ≡ length P.methods
  unfolding program_with
  count_same = methods-length m φ P.methods

  first-same : (j : ℕ) → first_row (program_with m φ P) j ≡ first_row P j
  unfolding first_row method_numbered program_with
  first-same j =
      λ i. cond (ltb j (methods-length m φ P.methods i)) (firsts_same m j φ (no_method P) P.methods i) P.main

  looked-same : (b : Bool) (j : ℕ) → is_looked_at (program_with m φ P) m b j ≡ is_looked_at P m b j
  unfolding is_looked_at
  looked-same b j = rw (calls_same (first_row (program_with m φ P) j), first-same j) refl

  main-apart : calls_from P m P.main ≡ false → check_blocks (program_with m φ P) [] ≡ check_blocks P []
  unfolding check_blocks check_from calls_from block program_with
  main-apart o = rows_apart [] (drop P.main P.rows) _ [] o

  from-apart :
      (ψ : Formula ℕ) (i : ℕ) (s : State) → calls_from P m i ≡ false →
      check_from (program_with m φ P) ψ i (some s) [] ≡ check_from P ψ i (some s) []
  unfolding check_from calls_from block program_with
  from-apart ψ i s o = rows_apart ψ (drop i P.rows) (some s) [] o

  method-verdict :
      (j : ℕ) → (m ≡ j → ⊥) → calls_from P m (method_numbered P j).first ≡ false →
      check_method (program_with m φ P) (method_numbered (program_with m φ P) j) ≡ check_method P (method_numbered P j)
  unfolding check_method
  method-verdict j d o =
      ap (check_method (program_with m φ P)) (method-apart j d)
      ∙ (λ i. at_line 0 (add (method_numbered P j).requires empty) λ s. from-apart (method_numbered P j).ensures (method_numbered P j).first s o i)

  -- a block that is looked at since it does not call m
  verdict-apart : (j : ℕ) → is_looked_at P m false j ≡ true → block_verdict (program_with m φ P) j ≡ block_verdict P j
  unfolding block_verdict is_looked_at first_row
  verdict-apart j t =
      rw count_same (go (eqb j m) refl (ltb j (length P.methods)) t)
    where
      not-false : (b : Bool) → not b ≡ true → b ≡ false
      not-false true e = sym e
      not-false false e = refl

      go :
          (c : Bool) → eqb j m ≡ c → (b : Bool) → cond c false (not (calls_from P m (cond b (method_numbered P j).first P.main))) ≡ true →
          cond b (check_method (program_with m φ P) (method_numbered (program_with m φ P) j)) (check_blocks (program_with m φ P) [])
          ≡ cond b (check_method P (method_numbered P j)) (check_blocks P [])
      go true c b t = clash (sym t)
      go false c true t = method-verdict j (λ e. eqb-false j m c (sym e)) (not-false _ t)
      go false c false t = main-apart (not-false _ t)

  pub others_apart : others_pass (program_with m φ P) m false ≡ others_pass P m false
  unfolding others_pass passes
  others_apart = rw count_same (ap (λ p. all p (places_from 0 (suc (length P.methods)))) (λ i j. each j i))
    where
      go : (j : ℕ) (b : Bool) → is_looked_at P m false j ≡ b → (not b || is_accepted (block_verdict (program_with m φ P) j)) ≡ (not b || is_accepted (block_verdict P j))
      go j true t = ap is_accepted (verdict-apart j t)
      go j false t = refl

      each : (j : ℕ) → (not (is_looked_at (program_with m φ P) m false j) || is_accepted (block_verdict (program_with m φ P) j)) ≡ (not (is_looked_at P m false j) || is_accepted (block_verdict P j))
      each j = rw (looked-same false j) (go j (is_looked_at P m false j) refl)
