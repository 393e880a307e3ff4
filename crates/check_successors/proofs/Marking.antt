-- Marks of the keys that may be ~ a term.
use mathlib.Core.Path.{◌≡◌, refl, sym, ap, ◌∙◌}
use mathlib.Core.Bool.{Bool, true, false}
use mathlib.Core.List.{List}
use mathlib.Core.Logic.{◌⊎◌, inl, inr}
use Prim.Native.Nat.{ℕ, ◌≤◌, ◌<◌}
use native.Mathlib.Omega.{arith}
use native.Mathlib.Decide.{dec_lt}
use lib.ListN.{get_or}
use Rattle.rules.specs.Syntax.{same}
use Rattle.rules.specs.State.{Fact, representative, equal_by}
use Rattle.rules.proofs.Closure.{same→≡}
use Rattle.rules.proofs.Lists.{decide_eq}
use Rattle.check_equality.specs.Layout.{left_sides}
use Rattle.check_equality.specs.Keys.{term_of}
use Rattle.check_equality.specs.Links.{Labelled, Together, Decides, place_of}
use Rattle.check_equality.proofs.Keys.{one_key}
use Rattle.check_state.specs.Questions.{Slots}
use Rattle.check_successors.specs.Successors.{MarksLike}

clash : {A : Type 0} → false ≡ true → A
clash e = absurd (let z : ◌≡◌ {A = ℕ} 0 1 = cc in omega arith)

-- ONE SIDE MORE
-- A PATH WHOSE PLACE IS NOT MARKED
module _ {fs : List Fact} {key b : List ℕ} {m : ℕ} (S : Slots key b m) (D : Decides fs key b m) (t a : ℕ) (L : Labelled key b m t a) (marks : List Bool)
    (M : MarksLike key b m t a marks) (k : ℕ) (g : 257 ≤ k) (none : get_or marks (place_of k) false ≡ false) where
  -- a slot with the label of t does not hold it
  not_there : (i : ℕ) → i < m → get_or key i 0 ≡ k → get_or b i 0 ≡ a → ⊥
  not_there i h e l = clash (sym none ∙ ap (λ (z : ℕ). get_or marks (place_of z) false) (sym e) ∙ M.at i (high i e (decide_eq i 15)) h l)
    where
      high : (i : ℕ) → get_or key i 0 ≡ k → (i ≡ 15) ⊎ (i ≡ 15 → ⊥) → left_sides ≤ i
      high i e (inl d) = let z : get_or key i 0 ≡ 256 = rw d S.header.null in absurd (omega (arith, z, e, g))
      high i e (inr d) = low (dec_lt i 15)
        where
          low : Dec (i < 15) → left_sides ≤ i
          low (yes l) = let z : get_or key i 0 ≡ i = S.header.variables i l in absurd (omega (arith, z, e, g, l))
          low (no n) = omega (arith, d, n)

  together : Together key b m (term_of k) (term_of t) → Labelled key b m t a → ⊥
  together W (inl H) =
      not_there W.one W.one_within (one_key _ _ W.one_is)
      (W.agree ∙ D.unique W.other H.place W.other_within H.within (W.other_is ∙ ap term_of (sym H.is)) ∙ sym H.shown)
  together W (inr N) = N.nowhere W.other W.other_within (one_key _ _ W.other_is)

  linked : (term_of k ≡ term_of t) ⊎ Together key b m (term_of k) (term_of t) → ⊥
  linked (inl e) = clash (sym none ∙ ap (λ (z : ℕ). get_or marks (place_of z) false) (one_key _ _ e) ∙ M.own)
  linked (inr W) = together W L

  pub unmarked-apart : equal_by (representative fs) (term_of k) (term_of t) ≡ false
  unfolding equal_by
  unmarked-apart = go (same (representative fs (term_of k)) (representative fs (term_of t))) refl
    where
      go : (c : Bool) → same (representative fs (term_of k)) (representative fs (term_of t)) ≡ c → c ≡ false
      go true e = absurd (linked (D.linked _ _ (same→≡ _ _ (rw e tt))))
      go false e = refl
