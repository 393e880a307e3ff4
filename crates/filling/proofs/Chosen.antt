-- The sets have at most 4 places, each of them one of the atoms'.
use mathlib.Core.Path.{◌≡◌, sym, subst}
use mathlib.Core.List.{List, [], ◌∷◌, map}
use mathlib.Core.Logic.{⊎_elim}
use Prim.Native.Nat.{ℕ, zero, suc, ◌+◌, ◌≤◌, ◌<◌}
use native.Mathlib.Omega.{arith}
use lib.ListN.{length}
use Rattle.rules.specs.Base.{Member, at_head, further}
use Rattle.rules.specs.Limits.{most_filled}
use Rattle.rules.specs.Fill.{places_from, choose, choose_up_to, sets_of}
use Rattle.rules.proofs.Lists.{head-or, append-member, map-member}
use Rattle.filling.proofs.Listed.{All, every}
use Rattle.filling.proofs.Accesses.{Within}

-- k of these
record Of (qs : List ℕ) (k : ℕ) (ps : List ℕ) : Type 0 where
  among : (p : ℕ) → Member p ps → Member p qs
  count : length ps ≤ k

none_of : (qs : List ℕ) (k : ℕ) (ps : List ℕ) → ps ≡ [] → Of qs k ps
none_of qs k ps e = subst (Of qs k) (sym e) none
  where
    none : Of qs k []
    none = record { among = λ p i. elim i [ ]; count = omega arith }

one_more : (q : ℕ) (qs : List ℕ) (k : ℕ) (ps : List ℕ) → Of qs k ps → Of (q ∷ qs) (suc k) (q ∷ ps)
one_more q qs k ps O =
    let h : length ps ≤ k = O.count in
    record {
      among = λ p i. ⊎_elim (λ j. further (O.among p j)) (λ e. subst (λ r. Member r (q ∷ qs)) (sym e) at_head) (head-or i);
      count = omega arith;
    }

chosen : (k : ℕ) (qs ps : List ℕ) → Member ps (choose k qs) → Of qs k ps
unfolding choose
chosen zero qs ps i = ⊎_elim (λ j. elim j [ ]) (λ e. none_of qs zero ps e) (head-or i)
chosen (suc k) [] ps i = elim i [ ]
chosen (suc k) (q ∷ qs) ps i =
    ⊎_elim
    (λ j.
    let (rs, h, e) = map-member (λ r. q ∷ r) (choose k qs) ps j in
    subst (Of (q ∷ qs) (suc k)) (sym e) (one_more q qs k rs (chosen k qs rs h)))
    (λ j. let O = chosen (suc k) qs ps j in record { among = λ p i. further (O.among p i); count = O.count })
    (append-member (map (λ r. q ∷ r) (choose k qs)) (choose (suc k) qs) ps i)

chosen-up-to : (k : ℕ) (qs ps : List ℕ) → Member ps (choose_up_to k qs) → Of qs k ps
unfolding choose_up_to
chosen-up-to zero qs ps i = chosen zero qs ps i
chosen-up-to (suc k) qs ps i =
    ⊎_elim
    (λ j.
    let O = chosen-up-to k qs ps j in
    let h : length ps ≤ k = O.count in
    record { among = O.among; count = omega arith })
    (λ j. chosen (suc k) qs ps j)
    (append-member (choose_up_to k qs) (choose (suc k) qs) ps i)

places-within : (a n p : ℕ) → Member p (places_from a n) → (a ≤ p) × (p < a + n)
unfolding places_from
places-within a zero p i = elim i [ ]
places-within a (suc n) p i =
    ⊎_elim (λ j. let (x, y) = places-within (suc a) n p j in (omega arith, omega arith)) (λ e. (omega arith, omega arith)) (head-or i)

pub set-within : (n : ℕ) (ps : List ℕ) → Member ps (sets_of n) → All (Within n) ps × (length ps ≤ most_filled)
unfolding sets_of
set-within n ps i =
    let O : Of (places_from 1 n) most_filled ps = chosen-up-to most_filled (places_from 1 n) ps i in
    (every (Within n) ps (λ p j. let (x, y) = places-within 1 n p (O.among p j) in (omega arith, omega arith)), O.count)
