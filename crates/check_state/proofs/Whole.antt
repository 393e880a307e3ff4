-- From the fact that a `Known` carries, which says only that there is a proof of `Wf`, such a proof: each part of `Wf` is decided.
use mathlib.Core.Path.{◌≡◌, refl, sym, ◌∙◌, subst}
use mathlib.Core.Bool.{Bool, true, false}
use mathlib.Core.List.{List}
use mathlib.Core.Logic.{◌⊎◌, inl, inr, ⊎_elim, ∥∥₁_elim}
use Prim.Native.Nat.{ℕ, zero, suc, ◌+◌, ◌*◌, ◌≤◌, ◌<◌}
use native.Mathlib.Omega.{arith}
use lib.Dec.{T, eqb, ltb}
use lib.ListN.{get_or}
use borrow.Author.Tests.{eqb-true, eqb-false, ltb-true, ltb-false}
use Rattle.rules.specs.State.{Term}
use Rattle.rules.specs.Syntax.{same}
use Rattle.rules.proofs.Closure.{same→≡, same_refl}
use Rattle.check_equality.specs.Layout.{left_sides}
use Rattle.check_equality.specs.Links.{Together, term_at}
use Rattle.check_state.specs.States.{Wf, facts, slots_in}
use Rattle.check_state.specs.Questions.{Slots}

-- WHAT IS NOT FALSE
sure : {P : Type 0} → ∥ P ∥₁ → (P → ⊥) → ⊥
sure t f = ∥∥₁_elim t (λ x y. absurd x) f

number : (a b : ℕ) → ((a ≡ b → ⊥) → ⊥) → a ≡ b
number a b f = go (eqb a b) refl
  where
    go : (c : Bool) → eqb a b ≡ c → a ≡ b
    go true e = eqb-true a b e
    go false e = absurd (f (eqb-false a b e))

below : (a b : ℕ) → ((a < b → ⊥) → ⊥) → a < b
below a b f = go (ltb a b) refl
  where
    go : (c : Bool) → ltb a b ≡ c → a < b
    go true e = ltb-true a b e
    go false e = let n : b ≤ a = ltb-false a b e in absurd (f (λ h. omega (arith, n, h)))

most : (a b : ℕ) → ((a ≤ b → ⊥) → ⊥) → a ≤ b
most a b f = let h : a < suc b = below a (suc b) (λ g. f (λ k. g (omega (arith, k)))) in omega (arith, h)

decided : (t u : Term) → (t ≡ u) ⊎ (t ≡ u → ⊥)
decided t u = go (same t u) refl
  where
    go : (c : Bool) → same t u ≡ c → (t ≡ u) ⊎ (t ≡ u → ⊥)
    go true e = inl (same→≡ t u (subst T (sym e) tt))
    go false e = inr (λ d. subst T e (subst (λ (v : Term). T (same v u)) (sym d) (same_refl u)))

term : (t u : Term) → ((t ≡ u → ⊥) → ⊥) → t ≡ u
term t u f = ⊎_elim (λ e. e) (λ n. absurd (f n)) (decided t u)

-- a slot before m that holds t, or none does
record Slot (key : List ℕ) (m : ℕ) (t : Term) : Type 0 where
  place : ℕ
  within : place < m
  is : term_at key place ≡ t

slot : (key : List ℕ) (m : ℕ) (t : Term) → Slot key m t ⊎ (Slot key m t → ⊥)
slot key zero t = inr (λ s. omega (arith, s.within))
slot key (suc m) t =
    ⊎_elim (λ e. inl (record { place = m; within = omega arith; is = e }))
    (λ n. ⊎_elim (λ s. inl (record { place = s.place; within = omega (arith, s.within); is = s.is })) (λ f. inr (neither n f)) (slot key m t))
    (decided (term_at key m) t)
  where
    neither : (term_at key m ≡ t → ⊥) → (Slot key m t → ⊥) → Slot key (suc m) t → ⊥
    neither n f s =
        ⊎_elim (λ (e : s.place ≡ m). n (subst (λ (i : ℕ). term_at key i ≡ t) e s.is))
        (λ (h : s.place < m). f (record { place = s.place; within = h; is = s.is }))
        (last s.place s.within)
      where
        last : (i : ℕ) → i < suc m → (i ≡ m) ⊎ (i < m)
        last i h = go (ltb i m) refl
          where
            go : (c : Bool) → ltb i m ≡ c → (i ≡ m) ⊎ (i < m)
            go true e = inr (ltb-true i m e)
            go false e = let g : m ≤ i = ltb-false i m e in inl (omega (arith, g, h))

-- two terms that some slots of one label hold, if they are not one term
together :
    (key label : List ℕ) (m : ℕ) (t u : Term) → ((i j : ℕ) → i < m → j < m → term_at key i ≡ term_at key j → get_or label i 0 ≡ get_or label j 0) →
    ((((t ≡ u) ⊎ Together key label m t u) → ⊥) → ⊥) → (t ≡ u) ⊎ Together key label m t u
together key label m t u unique f =
    ⊎_elim (λ e. inl e)
    (λ n. ⊎_elim (λ a. ⊎_elim (λ b. inr (both n a b)) (λ b. absurd (f (λ s. ⊎_elim n (λ g. b (record { place = g.other; within = g.other_within; is = g.other_is })) s))) (slot key m u))
    (λ a. absurd (f (λ s. ⊎_elim n (λ g. a (record { place = g.one; within = g.one_within; is = g.one_is })) s))) (slot key m t))
    (decided t u)
  where
    both : (t ≡ u → ⊥) → Slot key m t → Slot key m u → Together key label m t u
    both n a b =
        record {
          one = a.place;
          other = b.place;
          one_within = a.within;
          other_within = b.within;
          one_is = a.is;
          other_is = b.is;
          agree = number _ _ (λ d. f (λ s. ⊎_elim n (λ g. d (labels g)) s));
        }
      where
        labels : Together key label m t u → get_or label a.place 0 ≡ get_or label b.place 0
        labels g = unique a.place g.one a.within g.one_within (a.is ∙ sym g.one_is) ∙ g.agree ∙ unique g.other b.place g.other_within b.within (g.other_is ∙ sym b.is)

pub whole : {key b : List ℕ} → ∥ Wf key b ∥₁ → Wf key b
whole {key} {b} w =
    record {
      linked =
          record {
            header =
                record {
                  size = number _ _ (λ n. sure w (λ x. n x.linked.header.size));
                  variables = λ i h. number _ _ (λ n. sure w (λ x. n (x.linked.header.variables i h)));
                  null = number _ _ (λ n. sure w (λ x. n x.linked.header.null));
                };
            size = number _ _ (λ n. sure w (λ x. n x.linked.size));
            fit = most _ _ (λ n. sure w (λ x. n x.linked.fit));
            decides =
                record {
                  low = λ i h. below _ _ (λ n. sure w (λ x. n (x.linked.decides.low i h)));
                  unique = unique;
                  sound = λ i j h g e. term _ _ (λ n. sure w (λ x. n (x.linked.decides.sound i j h g e)));
                  linked = λ t u e. together key b _ t u unique (λ n. sure w (λ x. n (x.linked.decides.linked t u e)));
                };
          };
      fit = most _ _ (λ n. sure w (λ x. n x.fit));
      kinds = λ i h. (most _ _ (λ n. sure w (λ x. n (x.kinds i h).0)), most _ _ (λ n. sure w (λ x. n (x.kinds i h).1)));
    }
  where
    unique : (i j : ℕ) → i < left_sides + 2 * facts b → j < left_sides + 2 * facts b → term_at key i ≡ term_at key j → get_or b i 0 ≡ get_or b j 0
    unique i j h g e = number _ _ (λ n. sure w (λ x. n (x.linked.decides.unique i j h g e)))

-- its slots
pub slots-of : {key b : List ℕ} → Wf key b → Slots key b (slots_in b)
slots-of w = record { header = w.linked.header; some = omega arith; most = omega (arith, w.linked.fit) }
