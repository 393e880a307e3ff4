-- The ways in which an inequality is shown.
use mathlib.Core.Path.{◌≡◌, refl, sym, ap, ◌∙◌}
use mathlib.Core.Bool.{Bool, true, false, not, ◌&&◌, ◌||◌}
use mathlib.Core.List.{List, ◌∷◌}
use Prim.Native.Nat.{ℕ, ◌+◌, ◌*◌, ◌-◌, ◌≤◌}
use native.Mathlib.Omega.{arith}
use lib.Dec.{eqb}
use borrow.Author.Tests.{ne_eqb}
use Rattle.rules.specs.Base.{any}
use Rattle.rules.specs.Syntax.{ne, num, same}
use Rattle.rules.specs.State.{Term, Fact, Equality, numbers, terms_of, representative, equal_by, equal_in, holds_in, listed_unequal, different_numbers, null_and_object, two_entries}
use Rattle.rules.proofs.Closure.{same_refl}
use Rattle.rules.proofs.Lists.{T_true}
use Rattle.check_equality.specs.Keys.{term_of, first_number}
use Rattle.check_equality.specs.Links.{Labelled}
use Rattle.check_equality.proofs.Keys.{of_number}
use Rattle.check_equality.proofs.Listing.{or-false}
use Rattle.check_state.specs.States.{Wf, state_of, facts, facts_of, permissions_of}
use Rattle.check_state.specs.Questions.{places}
use Rattle.check_inequality.specs.Ways.{unequal_in}
use Rattle.check_inequality.proofs.Searches.{unequal-law}

or-3 : (A B : Bool) → true ≡ (A || (B || true))
or-3 true B = refl
or-3 false true = refl
or-3 false false = refl

or-4 : (A B C : Bool) → true ≡ (A || (B || (C || true)))
or-4 true B C = refl
or-4 false B C = or-3 B C

or-5 : (A B C D : Bool) → true ≡ (A || (B || (C || (D || true))))
or-5 true B C D = refl
or-5 false B C D = or-4 B C D

any-first : (p : ℕ → Bool) (a : ℕ) (l : List ℕ) → p a ≡ true → any p (a ∷ l) ≡ true
unfolding any
any-first p a l e = rw e

any-second : (p : ℕ → Bool) (a b : ℕ) (l : List ℕ) → p b ≡ true → any p (a ∷ b ∷ l) ≡ true
unfolding any
any-second p a b l e = rw e (or-true (p a))
  where
    or-true : (A : Bool) → (A || true) ≡ true
    or-true true = refl
    or-true false = refl

-- (b) for two numbers: each is ~ to itself
values-differ : (r : Term → Term) (fs : List Fact) (m n : ℕ) → eqb m n ≡ false → different_numbers (equal_by r) fs (num m) (num n) ≡ true
unfolding different_numbers numbers equal_by
values-differ r fs m n d =
    let l : List ℕ = numbers (terms_of fs) in
    let q : any (λ b. not (eqb m b) && same (r (num b)) (r (num n))) (m ∷ n ∷ l) ≡ true = any-second _ m n l (rw (d, T_true (same (r (num n)) (r (num n))) (same_refl (r (num n))))) in
    any-first _ m (n ∷ l) (rw (T_true (same (r (num m)) (r (num m))) (same_refl (r (num m))), q))

module _ (key c : List ℕ) (w : Wf key c) (t u : ℕ) where
  abbrev ◌~◌ : Equality
  ◌~◌ = equal_by (representative (facts_of key c))

  abbrev Unequal : Bool → Type 0
  Unequal r = r ≡ holds_in (equal_in (state_of key c)) (state_of key c) ne (term_of t) (term_of u)

  abbrev Numbers : Bool
  Numbers = different_numbers ◌~◌ (facts_of key c) (term_of t) (term_of u)

  abbrev Null : Bool
  Null = null_and_object ◌~◌ (permissions_of c) (term_of t) (term_of u)

  abbrev Object : Bool
  Object = null_and_object ◌~◌ (permissions_of c) (term_of u) (term_of t)

  abbrev Entries : Bool
  Entries = two_entries ◌~◌ (permissions_of c) (term_of t) (term_of u)

  module _ (a b : ℕ) (wt : Labelled key c (16 + 2 * facts c) t a) (wu : Labelled key c (16 + 2 * facts c) u b) where
    abbrev Facts : Bool
    Facts = any (unequal_in c a b) (places (facts c))

    listed-law : Facts ≡ listed_unequal ◌~◌ (facts_of key c) (term_of t) (term_of u)
    listed-law = unequal-law key c (facts c) t a u b w.linked.fit w.linked.decides wt wu

    pub by-fact : true ≡ Facts → Unequal true
    unfolding holds_in equal_in
    by-fact e = rw (← listed-law, ← e)

    pub by-null : true ≡ Null → Unequal true
    unfolding holds_in equal_in
    by-null e = rw (← e) (or-3 (listed_unequal ◌~◌ (facts_of key c) (term_of t) (term_of u)) Numbers)

    pub by-object : true ≡ Object → Unequal true
    unfolding holds_in equal_in
    by-object e = rw (← e) (or-4 (listed_unequal ◌~◌ (facts_of key c) (term_of t) (term_of u)) Numbers Null)

    pub by_entries : true ≡ Entries → Unequal true
    unfolding holds_in equal_in
    by_entries e = rw (← e) (or-5 (listed_unequal ◌~◌ (facts_of key c) (term_of t) (term_of u)) Numbers Null Object)

    pub by-numbers : false ≡ Facts → false ≡ Null → false ≡ Object → false ≡ Entries → (r : Bool) → r ≡ Numbers → Unequal r
    unfolding holds_in equal_in
    by-numbers p q x y r e = e ∙ rw (← listed-law, ← p, ← q, ← x, ← y) (sym (or-false Numbers))

  -- two numbers
  pub by_values : first_number ≤ t → first_number ≤ u → (t ≡ u → ⊥) → Unequal true
  unfolding holds_in equal_in
  by_values h k d = rw values (or-2 (listed_unequal ◌~◌ (facts_of key c) (term_of t) (term_of u)) (Null || (Object || Entries)))
    where
      number_of : (k : ℕ) → first_number ≤ k → term_of k ≡ num (k - first_number)
      number_of k h = let e : k ≡ first_number + (k - first_number) = omega arith in ap term_of e ∙ of_number (k - first_number)

      values : Numbers ≡ true
      values =
          rw (number_of t h, number_of u k)
          (values-differ (representative (facts_of key c)) (facts_of key c) (t - first_number) (u - first_number) (ne_eqb (t - first_number) (u - first_number) (λ e. d (omega (arith, e)))))

      or-2 : (A B : Bool) → true ≡ (A || (true || B))
      or-2 true B = refl
      or-2 false B = refl
