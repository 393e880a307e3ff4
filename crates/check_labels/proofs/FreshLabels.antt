-- Labels made anew: each slot before the facts' has its own number.
use mathlib.Core.Path.{◌≡◌, sym, ap, ◌∙◌}
use mathlib.Core.List.{List, []}
use mathlib.Core.Logic.{◌⊎◌, inl, inr}
use Prim.Native.Nat.{ℕ, ◌<◌}
use native.Mathlib.Omega.{arith}
use lib.ListN.{length, get_or}
use Rattle.rules.specs.State.{representative}
use Rattle.rules.proofs.Lists.{decide_eq}
use Rattle.check_equality.specs.Listing.{listed}
use Rattle.check_equality.specs.Links.{Header, Decides, term_at}
use Rattle.check_equality.specs.Layout.{left_sides, bytes}
use Rattle.check_equality.proofs.Keys.{one_key}
use Rattle.check_state.specs.States.{Linked}

header-place : (key : List ℕ) → Header key → (i j : ℕ) → i < left_sides → j < left_sides → get_or key i 0 ≡ get_or key j 0 → i ≡ j
header-place key H i j h g e = go (decide_eq i 15) (decide_eq j 15)
  where
    go : (i ≡ 15) ⊎ (i ≡ 15 → ⊥) → (j ≡ 15) ⊎ (j ≡ 15 → ⊥) → i ≡ j
    go (inl a) (inl b) = a ∙ sym b
    go (inl a) (inr b) = let p : get_or key i 0 ≡ 256 = rw a H.null in omega (arith, H.variables j (omega arith))
    go (inr a) (inl b) = let p : get_or key j 0 ≡ 256 = rw b H.null in omega (arith, H.variables i (omega arith))
    go (inr a) (inr b) = omega (arith, H.variables i (omega arith), H.variables j (omega arith))

pub fresh-decides : (key label : List ℕ) → Header key → ((i : ℕ) → i < left_sides → get_or label i 0 ≡ i) → Decides [] key label 16
unfolding representative
fresh-decides key label H own =
    record {
      low = λ i h. omega (arith, own i h);
      unique = λ i j h g e. ap (λ (k : ℕ). get_or label k 0) (header-place key H i j h g (one_key _ _ e));
      sound = λ i j h g e. let d : i ≡ j = omega (arith, own i h, own j g) in ap (term_at key) d;
      linked = λ t u e. inl e;
    }

pub fresh-linked : (key b : List ℕ) → Header key → length b ≡ bytes → ((i : ℕ) → i < left_sides → get_or b i 0 ≡ i) → Linked key b 0
unfolding listed
fresh-linked key b H l own = record { header = H; size = l; fit = omega arith; decides = fresh-decides key b H own }
