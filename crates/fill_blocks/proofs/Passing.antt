-- A program is accepted just if the method's own block is, and so are all other blocks, those that call it and those that do not.
use mathlib.Core.Path.{◌≡◌, refl, sym, ap, subst, ◌∙◌}
use mathlib.Core.Bool.{Bool, true, false, not, ◌&&◌, ◌||◌}
use mathlib.Core.List.{List, [], ◌∷◌}
use mathlib.Core.Logic.{⊎_elim}
use Prim.Native.Nat.{ℕ, zero, suc, ◌+◌, ◌-◌, ◌≤◌, ◌<◌}
use native.Mathlib.Omega.{arith}
use lib.Dec.{T}
use Rattle.std.proofs.Common.{Result, Ok, Err, is_ok}
use lib.ListN.{length, get_or}
use borrow.Author.Tests.{lt-ltb, le-ltb, ne_eqb}
use Rattle.rules.specs.Base.{all}
use Rattle.tables.proofs.Runs.{less-or-not}
use Rattle.rules.specs.Answers.{Verdict, accepted, refused, then}
use Rattle.rules.specs.Syntax.{Method, Program, no_method, method_numbered}
use Rattle.rules.specs.Rules.{check_method, check_blocks, check_program}
use Rattle.rules.specs.Fill.{places_from}
use Rattle.rules.specs.Calls.{is_accepted}
use Rattle.rules.proofs.Lists.{T_true, F-false, and_intro, and_both, or_right, decide_eq}
use Rattle.checker.specs.declared.RefusedLine.{RefusedLine}
use Rattle.checker.specs.Checked.{verdict_of}
use Rattle.fill_blocks.specs.Blocks.{block_verdict, calls_from, first_row, is_looked_at, passes, others_pass}

-- ONE BLOCK
pub ok-accepted : (r : Result (Unit {0}) RefusedLine) → is_ok r ≡ is_accepted (verdict_of r)
unfolding is_accepted verdict_of
ok-accepted (Ok u) = refl
ok-accepted (Err e) = refl

-- TESTS OF PLACES
pub all-at : (p : ℕ → Bool) (a n : ℕ) → T (all p (places_from a n)) → (j : ℕ) → a ≤ j → j < a + n → T (p j)
unfolding places_from all
all-at p a zero t j l h = absurd (omega arith)
all-at p a (suc n) t j l h =
    let (here, later) = and_both (p a) (all p (places_from (suc a) n)) t in
    ⊎_elim (λ e. subst (λ i. T (p i)) e here) (λ d. all-at p (suc a) n later j (omega arith) (omega arith)) (decide_eq a j)

pub at_all : (p : ℕ → Bool) (a n : ℕ) → ((j : ℕ) → a ≤ j → j < a + n → T (p j)) → T (all p (places_from a n))
unfolding places_from all
at_all p a zero h = tt
at_all p a (suc n) h =
    and_intro (p a) (all p (places_from (suc a) n)) (h a (omega arith) (omega arith))
    (at_all p (suc a) n (λ j l k. h j (omega arith) (omega arith)))

pub both_ways : (a b : Bool) → (T a → T b) → (T b → T a) → a ≡ b
both_ways true b f g = sym (T_true b (f tt))
both_ways false b f g = sym (F-false b g)

-- ALL BLOCKS
module _ (P : Program) where
  then-tests :
      {A B : Type 0} (v : Verdict A) (w : Verdict B) → T (is_accepted (then v λ u. w)) → T (is_accepted v) × T (is_accepted w)
  unfolding then is_accepted
  then-tests (accepted a) w t = (tt, t)
  then-tests (refused r l) w t = absurd t

  tests_then :
      {A B : Type 0} (v : Verdict A) (w : Verdict B) → T (is_accepted v) → T (is_accepted w) → T (is_accepted (then v λ u. w))
  unfolding then is_accepted
  tests_then (accepted a) w s t = t
  tests_then (refused r l) w s t = absurd s

  each-method :
      (Ms : List Method) (d : Method) → T (is_accepted (check_blocks P Ms)) → (k : ℕ) → k < length Ms → T (is_accepted (check_method P (get_or Ms k d)))
  unfolding check_blocks
  each-method [] d t k l = absurd (omega arith)
  each-method (M ∷ Ms) d t zero l = (then-tests (check_method P M) (check_blocks P Ms) t).0
  each-method (M ∷ Ms) d t (suc k) l = each-method Ms d (then-tests (check_method P M) (check_blocks P Ms) t).1 k (omega arith)

  main-too : (Ms : List Method) → T (is_accepted (check_blocks P Ms)) → T (is_accepted (check_blocks P []))
  unfolding check_blocks
  main-too [] t = t
  main-too (M ∷ Ms) t = main-too Ms (then-tests (check_method P M) (check_blocks P Ms) t).1

  methods-main :
      (Ms : List Method) (d : Method) → ((k : ℕ) → k < length Ms → T (is_accepted (check_method P (get_or Ms k d)))) →
      T (is_accepted (check_blocks P [])) → T (is_accepted (check_blocks P Ms))
  unfolding check_blocks
  methods-main [] d h t = t
  methods-main (M ∷ Ms) d h t =
      tests_then (check_method P M) (check_blocks P Ms) (h 0 (omega arith)) (methods-main Ms d (λ k l. h (suc k) (omega arith)) t)

  block-of-method : (j : ℕ) → j < length P.methods → block_verdict P j ≡ check_method P (get_or P.methods j (no_method P))
  unfolding block_verdict method_numbered
  block-of-method j l = rw (lt-ltb _ _ l) refl

  block-of-main : (j : ℕ) → length P.methods ≤ j → block_verdict P j ≡ check_blocks P []
  unfolding block_verdict
  block-of-main j l = rw (le-ltb _ _ l) refl

  to-blocks : T (is_accepted (check_program P)) → (j : ℕ) → T (is_accepted (block_verdict P j))
  unfolding check_program
  to-blocks t j =
      ⊎_elim
      (λ l. rw (block-of-method j (omega (arith, l))) (each-method P.methods (no_method P) t j (omega (arith, l))))
      (λ l. rw (block-of-main j (omega (arith, l))) (main-too P.methods t))
      (less-or-not j (length P.methods) _ refl)

  from-blocks : ((j : ℕ) → j < suc (length P.methods) → T (is_accepted (block_verdict P j))) → T (is_accepted (check_program P))
  unfolding check_program
  from-blocks h =
      methods-main P.methods (no_method P)
      (λ k l. subst (λ v. T (is_accepted v)) (block-of-method k l) (h k (omega arith)))
      (subst (λ v. T (is_accepted v)) (block-of-main (length P.methods) (omega arith)) (h (length P.methods) (omega arith)))

  module _ (m : ℕ) (l : m < length P.methods) where
    -- any other block is looked at in one of the two ways
    seen : (b : Bool) (j : ℕ) → T (is_accepted (block_verdict P j)) → T (passes P m b j)
    unfolding passes
    seen b j t = or_right (not (is_looked_at P m b j)) _ t

    one_way :
        (j : ℕ) → (j ≡ m → ⊥) → T (passes P m true j) → T (passes P m false j) → T (is_accepted (block_verdict P j))
    unfolding is_looked_at passes
    one_way j d = rw (ne_eqb j m d) (go (calls_from P m (first_row P j)))
      where
        go :
            (c : Bool) → T (not c || is_accepted (block_verdict P j)) → T (not (not c) || is_accepted (block_verdict P j)) →
            T (is_accepted (block_verdict P j))
        go true s t = s
        go false s t = t

    pub accepted-by-parts :
        is_accepted (check_program P) ≡ (is_accepted (block_verdict P m) && (others_pass P m true && others_pass P m false))
    unfolding others_pass
    accepted-by-parts =
        let n : ℕ = suc (length P.methods) in
        let own : Bool = is_accepted (block_verdict P m) in
        let calling : Bool = all (passes P m true) (places_from 0 n) in
        let apart : Bool = all (passes P m false) (places_from 0 n) in
        both_ways (is_accepted (check_program P)) (own && (calling && apart))
        (λ t.
        and_intro own (calling && apart) (to-blocks t m)
        (and_intro calling apart
        (at_all (passes P m true) 0 n (λ j _ _. seen true j (to-blocks t j)))
        (at_all (passes P m false) 0 n (λ j _ _. seen false j (to-blocks t j)))))
        (λ t.
        let (o, others) = and_both own (calling && apart) t in
        let (c, a) = and_both calling apart others in
        from-blocks (λ j k.
        ⊎_elim (λ e. subst (λ i. T (is_accepted (block_verdict P i))) (sym e) o)
        (λ d. one_way j d (all-at (passes P m true) 0 n c j (omega arith) (omega arith)) (all-at (passes P m false) 0 n a j (omega arith) (omega arith)))
        (decide_eq j m)))

-- ONE BY ONE
module _ (P : Program) (m : ℕ) (b : Bool) where
  -- those from j on
  unfoldable pub pass_from : ℕ → Bool
  pass_from j = all (passes P m b) (places_from j (suc (length P.methods) - j))

  pub all-to-come : others_pass P m b ≡ pass_from 0
  unfolding others_pass pass_from
  all-to-come = ap (λ n. all (passes P m b) (places_from 0 n)) (let z : suc (length P.methods) ≡ suc (length P.methods) - 0 = omega arith in z)

  pub none-to-come : (j n : ℕ) → n ≡ length P.methods → n < j → pass_from j ≡ true
  unfolding pass_from places_from all
  none-to-come j n e l = let z : suc (length P.methods) - j ≡ 0 = omega arith in rw z refl

  next : (j n : ℕ) → n ≡ length P.methods → j ≤ n → pass_from j ≡ (passes P m b j && pass_from (j + 1))
  unfolding pass_from places_from all
  next j n e l =
      let z : suc (length P.methods) - j ≡ suc (suc (length P.methods) - (j + 1)) = omega arith in
      let y : j + 1 ≡ suc j = omega arith in rw (z, y) refl

  pub one_passes : (j n : ℕ) → n ≡ length P.methods → j ≤ n → passes P m b j ≡ true → pass_from j ≡ pass_from (j + 1)
  one_passes j n e l t = next j n e l ∙ ap (λ a. a && pass_from (j + 1)) t

  pub one-fails : (j n : ℕ) → n ≡ length P.methods → j ≤ n → passes P m b j ≡ false → pass_from j ≡ false
  one-fails j n e l t = next j n e l ∙ ap (λ a. a && pass_from (j + 1)) t
