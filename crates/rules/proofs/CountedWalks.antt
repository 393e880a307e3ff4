-- A walk that counts: it has no list of what it passed, and takes a walk that is too long for a ring. It answers as `walk` does.
use mathlib.Core.Path.{◌≡◌, refl, sym, ap, ◌∙◌, subst}
use mathlib.Core.Bool.{Bool, true, false, cond, ◌&&◌}
use mathlib.Core.List.{List, [], ◌∷◌, map}
use mathlib.Core.Logic.{◌⊎◌, inl, inr, ⊎_elim}
use Prim.Native.Nat.{ℕ, zero, suc, ◌+◌, ◌≤◌}
use native.Mathlib.Omega.{arith}
use lib.Dec.{T, eqb, eqb→eq, leb, leb→le}
use lib.ListN.{length}
use Rattle.rules.specs.Base.{Member, at_head, further, Try, ok, no, check, ◌>>=◌, ◌>>◌}
use Rattle.rules.specs.Answers.{Stop, permission_missing, formula_false}
use Rattle.rules.specs.Machine.{Frame, Heap, Location, halves, value_at, walk}
use Rattle.rules.proofs.Lists.{T_true, F-false, and_both, decide_eq, head-or}
use Rattle.rules.proofs.Tries.{ok-inj, no_ok}
use Rattle.rules.proofs.Sets.{at_same, at-cases, halves-nil, halves-cons}
use Rattle.rules.proofs.Walks.{fewer, walk-bound, walk_ends, walk-goes, walk-ring, walk-stuck}

-- from object to object by `next`, over those that it may pass, fewer than n; the last first
unfoldable pub count : (ℕ → ℕ) → (ℕ → Bool) → ℕ → ℕ → Try Stop (List ℕ)
count next may zero o = no formula_false
count next may (suc n) o =
    let r : Try Stop (List ℕ) = check (may o) permission_missing >> (count next may n (next o) >>= λ os. ok (o ∷ os)) in
    cond (eqb o 0) (ok []) r

-- the last of these, or else d
unfoldable pub last_of : ℕ → List ℕ → ℕ
last_of d [] = d
last_of d (o ∷ os) = last_of o os

stops-apart : {A : Type 0} → permission_missing ≡ formula_false → A
stops-apart e = absurd (let z : ◌≡◌ {A = ℕ} 0 1 = cc in omega arith)

no-inj : {A : Type 0} {s t : Stop} → ◌≡◌ {A = Try Stop A} (no s) (no t) → s ≡ t
no-inj e = cc

true-false : {A : Type 0} {b : Bool} → b ≡ true → b ≡ false → A
true-false e f = absurd (let z : ◌≡◌ {A = ℕ} 0 1 = cc in omega arith)

before-no : {s : Stop} (o : ℕ) (t : Try Stop (List ℕ)) → (t >>= λ os. ok (o ∷ os)) ≡ no s → t ≡ no s
unfolding ◌>>=◌
before-no o (ok os) q = no_ok (sym q)
before-no o (no s) q = ap no (no-inj q)

pub decide-bool : (b : Bool) → (b ≡ true) ⊎ (b ≡ false)
decide-bool true = inl refl
decide-bool false = inr refl

module _ (next : ℕ → ℕ) (may : ℕ → Bool) where
  pub count-null : (n o : ℕ) → o ≡ 0 → count next may (suc n) o ≡ ok []
  unfolding count
  count-null n o z = rw (T_true (eqb o 0) (subst (λ (v : ℕ). T (eqb v 0)) (sym z) tt))

  pub count_stuck : (n o : ℕ) → (o ≡ 0 → ⊥) → may o ≡ false → count next may (suc n) o ≡ no permission_missing
  unfolding count check ◌>>◌
  count_stuck n o z e = rw (F-false (eqb o 0) (λ t. z (eqb→eq o 0 t)), e)

  pub count-on :
      (n o : ℕ) → (o ≡ 0 → ⊥) → may o ≡ true → count next may (suc n) o ≡ count next may n (next o) >>= λ os. ok (o ∷ os)
  unfolding count check ◌>>◌
  count-on n o z e = rw (F-false (eqb o 0) (λ t. z (eqb→eq o 0 t)), e)

  -- it comes to null
  pub data Goes : ℕ → ℕ → List ℕ → Type 0 where
    ended : {n o : ℕ} → o ≡ 0 → Goes (suc n) o []
    went : {n o : ℕ} {os : List ℕ} → (o ≡ 0 → ⊥) → may o ≡ true → Goes n (next o) os → Goes (suc n) o (o ∷ os)

  pub goes-count : {n o : ℕ} {os : List ℕ} → Goes n o os → count next may n o ≡ ok os
  unfolding ◌>>=◌
  goes-count (ended {n} {o} z) = count-null n o z
  goes-count (went {n} {o} z m G) = count-on n o z m ∙ rw (goes-count G)

  -- what it comes to
  pub data Outcome (n o : ℕ) : Type 0 where
    through : (os : List ℕ) → Goes n o os → Outcome n o
    stuck : count next may n o ≡ no permission_missing → Outcome n o
    too_long : count next may n o ≡ no formula_false → Outcome n o

  pub outcome : (n o : ℕ) → Outcome n o
  unfolding count ◌>>=◌
  outcome zero o = too_long refl
  outcome (suc n) o =
      ⊎_elim
      (λ z. through [] (ended z))
      (λ z. ⊎_elim (λ e. passes z e (outcome n (next o))) (λ e. stuck (count_stuck n o z e)) (decide-bool (may o)))
      (decide_eq o 0)
    where
      passes : (o ≡ 0 → ⊥) → may o ≡ true → Outcome n (next o) → Outcome (suc n) o
      passes z e (through os G) = through (o ∷ os) (went z e G)
      passes z e (stuck q) = stuck (count-on n o z e ∙ rw q)
      passes z e (too_long q) = too_long (count-on n o z e ∙ rw q)

  pub count-goes : (n o : ℕ) (os : List ℕ) → count next may n o ≡ ok os → Goes n o os
  count-goes n o os e =
      elim (outcome n o) [
        | through us G ↦ subst (Goes n o) (ok-inj (sym (goes-count G) ∙ e)) G
        | stuck q ↦ no_ok (sym q ∙ e)
        | too_long q ↦ no_ok (sym q ∙ e)
      ]

  -- what it passed
  pub goes-more : {n o : ℕ} {os : List ℕ} (m : ℕ) → Goes n o os → n ≤ m → Goes m o os
  goes-more zero (ended z) l = absurd (omega arith)
  goes-more (suc m) (ended z) l = ended z
  goes-more zero (went z e G) l = absurd (omega arith)
  goes-more (suc m) (went {n = n} z e G) l = went z e (goes-more {n = n} m G (omega arith))

  pub goes-may : {n o : ℕ} {os : List ℕ} → Goes n o os → (x : ℕ) → Member x os → (may x ≡ true) × (x ≡ 0 → ⊥)
  goes-may (ended z) x i = elim i [ ]
  goes-may (went z e G) x i =
      ⊎_elim (goes-may G x) (λ q. (ap may q ∙ e, λ y. z (sym q ∙ y))) (head-or i)

  -- from each that it passed it goes on as it did
  pub goes-from :
      {n o : ℕ} {os : List ℕ} → Goes n o os → (x : ℕ) → Member x os →
      (us : List ℕ) × Goes n x us × ((y : ℕ) → Member y us → Member y os)
  goes-from (ended z) x i = elim i [ ]
  goes-from (went {n} {o} {os} z e G) x i =
      ⊎_elim
      (λ j. let (us, H, k) = goes-from G x j in (us, goes-more (suc n) H (omega arith), λ y l. further (k y l)))
      (λ q. (o ∷ os, subst (λ y. Goes (suc n) y (o ∷ os)) (sym q) (went z e G), λ y l. l))
      (head-or i)

  -- it never comes back to the object that led to its start
  goes-behind : {n o : ℕ} {os : List ℕ} → Goes n o os → (x : ℕ) → Member x os → (us : List ℕ) × Goes n x us × (length us ≤ length os)
  goes-behind (ended z) x i = elim i [ ]
  goes-behind (went {n} {o} {os} z e G) x i =
      ⊎_elim
      (λ j. let (us, H, l) = goes-behind G x j in (us, goes-more (suc n) H (omega arith), omega (arith, l)))
      (λ q. (o ∷ os, subst (λ y. Goes (suc n) y (o ∷ os)) (sym q) (went z e G), omega arith))
      (head-or i)

  same_length : {n m o : ℕ} {os us : List ℕ} → Goes n o os → Goes m o us → length os ≡ length us
  same_length (ended z) (ended y) = refl
  same_length (ended z) (went y e G) = absurd (y z)
  same_length (went z e G) (ended y) = absurd (z y)
  same_length (went z e G) (went y f H) = ap suc (same_length G H)

  longer : {n m o : ℕ} {os us : List ℕ} → (o ≡ 0 → ⊥) → Goes n (next o) os → Goes m o us → length us ≤ length os → ⊥
  longer y G (ended z) l = y z
  longer y G (went z e H) l = omega (arith, l, same_length G H)

  pub goes-away : {n o : ℕ} {os : List ℕ} → Goes n (next o) os → Member o os → ⊥
  goes-away {o = o} G i = let (us, H, l) = goes-behind G o i in longer (goes-may G o i).1 G H l

  pub goes-next : {n o : ℕ} {os : List ℕ} → Goes n o os → (x : ℕ) → Member x os → (next x ≡ 0 → ⊥) → Member (next x) os
  goes-next (ended z) x i d = elim i [ ]
  goes-next (went {n} {o} {os} z e G) x i d =
      ⊎_elim (λ j. further (goes-next G x j d))
      (λ q. further (subst (λ y. Member (next y) os) (sym q) (first G (λ y. d (ap next q ∙ y)))))
      (head-or i)
    where
      first : {n o : ℕ} {os : List ℕ} → Goes n o os → (o ≡ 0 → ⊥) → Member o os
      first (ended z) d = absurd (d z)
      first (went z e G) d = at_head

  -- its last
  pub goes_last : {n o : ℕ} {os : List ℕ} (d : ℕ) → Goes n o os → (o ≡ 0 → ⊥) → Member (last_of d os) os × (next (last_of d os) ≡ 0)
  unfolding last_of
  goes_last d (ended z) y = absurd (y z)
  goes_last d (went {n} {o} {os} z e G) y =
      ⊎_elim
      (λ q. (subst (λ us. Member (last_of o us) (o ∷ us)) (sym (none G q)) at_head, subst (λ us. next (last_of o us) ≡ 0) (sym (none G q)) q))
      (λ q. let (i, l) = goes_last o G q in (further i, l))
      (decide_eq (next o) 0)
    where
      none : {n o : ℕ} {os : List ℕ} → Goes n o os → o ≡ 0 → os ≡ []
      none (ended z) q = refl
      none (went z e G) q = absurd (z q)

  pub goes_end : {n o : ℕ} {os : List ℕ} (d : ℕ) → Goes n o os → (x : ℕ) → Member x os → next x ≡ 0 → last_of d os ≡ x
  unfolding last_of
  goes_end d (ended z) x i q = elim i [ ]
  goes_end d (went {n} {o} {os} z e G) x i q =
      ⊎_elim (λ j. goes_end o G x j q) (λ y. last G (ap next (sym y) ∙ q) ∙ sym y) (head-or i)
    where
      last : {n o : ℕ} {os : List ℕ} → Goes n o os → o ≡ 0 → {d : ℕ} → last_of d os ≡ d
      last (ended z) q = refl
      last (went z e G) q = absurd (z q)

pub goes_by :
    (next : ℕ → ℕ) (may may' : ℕ → Bool) {n o : ℕ} {os : List ℕ} → Goes next may n o os →
    ((x : ℕ) → Member x os → may' x ≡ true) → Goes next may' n o os
goes_by next may may' (ended z) k = ended z
goes_by next may may' (went z e G) k = went z (k _ at_head) (goes_by next may may' G (λ x i. k x (further i)))

-- TWO TESTS: what only the weaker one lets pass lies on ways to null, which no walk leaves
module _
    (next : ℕ → ℕ) (may free : ℕ → Bool) (D : ℕ → Type 0) (less : (o : ℕ) → may o ≡ true → free o ≡ true)
    (taken : (o : ℕ) → D o → may o ≡ false) (other : (o : ℕ) → free o ≡ true → may o ≡ false → D o)
    (onward : (o : ℕ) → D o → (next o ≡ 0 → ⊥) → D (next o)) where
  -- where the weaker one stops, the stronger one stops
  pub both-stuck : (n o : ℕ) → count next free n o ≡ no permission_missing → count next may n o ≡ no permission_missing
  unfolding count ◌>>=◌
  both-stuck zero o e = stops-apart (sym (no-inj e))
  both-stuck (suc n) o e =
      ⊎_elim
      (λ z. no_ok (sym e ∙ count-null next free n o z))
      (λ z.
      ⊎_elim
      (λ m. count-on next may n o z m ∙ rw (both-stuck n (next o) (before-no o (count next free n (next o)) (sym (count-on next free n o z (less o m)) ∙ e))))
      (λ m. count_stuck next may n o z m)
      (decide-bool (may o)))
      (decide_eq o 0)

  -- a walk that is too long for every bound meets no such way
  pub both_long :
      (t : ℕ) → ((o : ℕ) → D o → (os : List ℕ) × Goes next free t o os) → (n o : ℕ) →
      ((m : ℕ) → count next free m o ≡ no formula_false) → count next may n o ≡ no formula_false
  unfolding count ◌>>=◌
  both_long t way zero o e = refl
  both_long t way (suc n) o e =
      ⊎_elim
      (λ z. no_ok (sym (e (suc t)) ∙ count-null next free t o z))
      (λ z.
      ⊎_elim
      (λ f.
      ⊎_elim
      (λ m.
      count-on next may n o z m
      ∙ rw (both_long t way n (next o)
      (λ k. before-no o (count next free k (next o)) (sym (count-on next free k o z f) ∙ e (suc k)))))
      (λ m. let (os, G) = way o (other o f m) in no_ok (sym (e t) ∙ goes-count next free G))
      (decide-bool (may o)))
      (λ f. stops-apart (no-inj (sym (count_stuck next free t o z f) ∙ e (suc t))))
      (decide-bool (free o)))
      (decide_eq o 0)

  -- a walk to null met one where its last is on it, and else none
  to_last : {n o : ℕ} {os : List ℕ} (d : ℕ) → D d → next d ≡ o → Goes next free n o os → D (last_of d os)
  unfolding last_of
  to_last d i e (ended z) = i
  to_last d i e (went {n} {o} z f G) = to_last o (subst D e (onward d i (λ q. z (sym e ∙ q)))) refl G

  pub apart : {n o : ℕ} {os : List ℕ} (d : ℕ) → Goes next free n o os → ((o ≡ 0 → ⊥) → D (last_of d os) → ⊥) → Goes next may n o os
  unfolding last_of
  apart d (ended z) k = ended z
  apart d (went {n} {o} z f G) k =
      ⊎_elim (λ m. went z m (apart o G (λ _. k z))) (λ m. absurd (k z (to_last o (other o f m) refl G))) (decide-bool (may o))

  pub meets : {n o : ℕ} {os : List ℕ} (d : ℕ) → Goes next free n o os → (o ≡ 0 → ⊥) → D (last_of d os) → count next may n o ≡ no permission_missing
  unfolding last_of ◌>>=◌
  meets d (ended z) y i = absurd (y z)
  meets d (went {n} {o} {os} z f G) y i =
      ⊎_elim
      (λ m.
      count-on next may n o z m
      ∙ ⊎_elim
      (λ q. true-false m (taken o (subst (λ us. D (last_of o us)) (none G q) i)))
      (λ q. rw (meets o G q i))
      (decide_eq (next o) 0))
      (λ m. count_stuck next may n o z m)
      (decide-bool (may o))
    where
      none : {n o : ℕ} {os : List ℕ} → Goes next free n o os → o ≡ 0 → os ≡ []
      none (ended z) q = refl
      none (went z e G) q = absurd (z q)

-- A RING
abbrev at : ℕ → ℕ → Location
at o f = record { object = o; field = f }

-- the objects that are passed stand as their locations by f
module _ (f : ℕ) (next : ℕ → ℕ) (may : ℕ → Bool) where
  -- the way that led to o
  data Trail : List Location → ℕ → Type 0 where
    start : {o : ℕ} → Trail [] o
    on : {passed : List Location} {o : ℕ} → (o ≡ 0 → ⊥) → Trail passed o → Trail (at o f ∷ passed) (next o)

  -- each location on it is of an object by f, and the next is on it or is o
  record Along (passed : List Location) (o : ℕ) (p : Location) : Type 0 where
    by : p ≡ at p.object f
    object : p.object ≡ 0 → ⊥
    onward : (next p.object ≡ o) ⊎ (1 ≤ halves passed (at (next p.object) f))

  along : {passed : List Location} {o : ℕ} → Trail passed o → (p : Location) → 1 ≤ halves passed p → Along passed o p
  along start p l = absurd (omega (arith, l, halves-nil p))
  along (on {passed} {o} z t) p l =
      ⊎_elim
      (λ (e, _). subst (Along (at o f ∷ passed) (next o)) (sym e) (record { by = refl; object = z; onward = inl refl }))
      (λ (_, a).
      let I = along t p (omega (arith, l, a, halves-cons (at o f) passed p)) in
      record {
        by = I.by;
        object = I.object;
        onward =
            inr
            (⊎_elim
            (λ e. subst (λ x. 1 ≤ halves (at o f ∷ passed) (at x f)) (sym e) (omega (arith, halves-cons (at o f) passed (at o f), at_same (at o f))))
            (λ j. omega (arith, j, halves-cons (at o f) passed (at (next p.object) f)))
            I.onward);
      })
      (at-cases (at o f) p)

  -- each was passed once, and may be passed
  abbrev Clean : List Location → Type 0
  Clean passed = (p : Location) → 1 ≤ halves passed p → (halves passed p ≡ 1) × (may p.object ≡ true)

  clean-more : (o : ℕ) (passed : List Location) → Clean passed → halves passed (at o f) ≡ 0 → may o ≡ true → Clean (at o f ∷ passed)
  clean-more o passed K a m p i =
      ⊎_elim
      (λ (e, _).
      subst (λ (r : Location). (halves (at o f ∷ passed) r ≡ 1) × (may r.object ≡ true)) (sym e)
      (omega (arith, halves-cons (at o f) passed (at o f), at_same (at o f), a), m))
      (λ (_, z).
      let k = halves-cons (at o f) passed p in
      let (x, y) = K p (omega (arith, i, k, z)) in
      (omega (arith, x, k, z), y))
      (at-cases (at o f) p)

  clean-none : Clean []
  clean-none p j = absurd (omega (arith, j, halves-nil p))

  -- a ring is too long for every bound
  ring :
      {passed : List Location} {o : ℕ} → Trail passed o → Clean passed → 1 ≤ halves passed (at o f) → (n x : ℕ) →
      1 ≤ halves passed (at x f) → count next may n x ≡ no formula_false
  unfolding count ◌>>=◌
  ring t K l zero x i = refl
  ring {passed} {o} t K l (suc n) x i =
      let I = along t (at x f) i in
      count-on next may n x I.object (K (at x f) i).1
      ∙ rw (ring t K l n (next x) (⊎_elim (λ e. subst (λ v. 1 ≤ halves passed (at v f)) (sym e) l) (λ j. j) I.onward))

  all : ℕ → List Location
  all zero = []
  all (suc n) = at (suc n) f ∷ all n

  all-length : (n : ℕ) → length (all n) ≡ n
  unfolding all
  all-length zero = refl
  all-length (suc n) = ap suc (all-length n)

  all-has : (n o : ℕ) → (o ≡ 0 → ⊥) → o ≤ n → 1 ≤ halves (all n) (at o f)
  unfolding all
  all-has zero o z l = absurd (z (omega arith))
  all-has (suc n) o z l =
      ⊎_elim
      (λ (e : o ≡ suc n). rw e (omega (arith, halves-cons (at (suc n) f) (all n) (at (suc n) f), at_same (at (suc n) f))))
      (λ (d : o ≡ suc n → ⊥). omega (arith, all-has n o z (omega arith), halves-cons (at (suc n) f) (all n) (at o f)))
      (decide_eq o (suc n))

  -- ONE OF N OBJECTS is each that it may pass
  module _ (N : ℕ) (exists : (o : ℕ) → may o ≡ true → o ≤ N) where
    short : {passed : List Location} {o : ℕ} → Trail passed o → Clean passed → length passed ≤ N
    short {passed} t K =
        omega (
          arith,
          all-length N,
          fewer passed (all N)
              (λ p.
              ⊎_elim
              (λ z. omega (arith, z))
              (λ z.
              let i : 1 ≤ halves passed p = omega (arith, z) in
              let (x, y) = K p i in
              let I = along t p i in
              let j : 1 ≤ halves (all N) p =
              subst (λ q. 1 ≤ halves (all N) q) (sym I.by) (all-has N p.object I.object (exists p.object y)) in
              omega (arith, x, j))
              (decide_eq (halves passed p) 0)),
        )

    long-from :
        (n o : ℕ) (passed : List Location) → Trail passed o → Clean passed → n + length passed ≡ suc N →
        count next may n o ≡ no formula_false → (m : ℕ) → count next may m o ≡ no formula_false
    unfolding count ◌>>=◌
    long-from zero o passed t K e q m = absurd (omega (arith, short t K))
    long-from (suc n) o passed t K e q m =
        ⊎_elim
        (λ z. no_ok (sym q ∙ count-null next may n o z))
        (λ z.
        ⊎_elim
        (λ y.
        ⊎_elim
        (λ a.
        more z y
        (λ k.
        long-from n (next o) (at o f ∷ passed) (on z t) (clean-more o passed K a y) (omega arith)
        (before-no o (count next may n (next o)) (sym (count-on next may n o z y) ∙ q)) k) m)
        (λ a. ring t K (omega (arith, a)) m o (omega (arith, a)))
        (decide_eq (halves passed (at o f)) 0))
        (λ y. stops-apart (no-inj (sym (count_stuck next may n o z y) ∙ q)))
        (decide-bool (may o)))
        (decide_eq o 0)
      where
        more :
            (o ≡ 0 → ⊥) → may o ≡ true → ((k : ℕ) → count next may k (next o) ≡ no formula_false) → (m : ℕ) →
            count next may m o ≡ no formula_false
        more z y h zero = refl
        more z y h (suc k) = count-on next may k o z y ∙ rw (h k)

    -- what passes more than N of them is a ring: too long for every bound
    pub long-ever : (o : ℕ) → count next may (suc N) o ≡ no formula_false → (m : ℕ) → count next may m o ≡ no formula_false
    long-ever o = long-from (suc N) o [] start clean-none (omega arith)

-- THE WALK OF THE DEFINITIONS

-- these objects' locations
unfoldable pub places : ℕ → List ℕ → List Location
places f os = map (λ o. at o f) os

-- the same locations beside those passed before; or the same stop
pub data Same (f : ℕ) (passed : List Location) : Try Stop (List Location) → Try Stop (List ℕ) → Type 0 where
  both :
      {B : List Location} {os : List ℕ} → ((p : Location) → halves B p ≡ halves (places f os) p + halves passed p) →
      Same f passed (ok B) (ok os)
  neither : {s : Stop} → Same f passed (no s) (no s)

same-as :
    {f : ℕ} {passed : List Location} {a a' : Try Stop (List Location)} {b b' : Try Stop (List ℕ)} → a ≡ a' → b ≡ b' → Same f passed a' b' →
    Same f passed a b
same-as {f} {passed} {a} {a'} {b} {b'} e g S = subst (λ x. Same f passed x b) (sym e) (subst (Same f passed a') (sym g) S)

-- one location more
same_more :
    (f o : ℕ) (passed : List Location) {a : Try Stop (List Location)} {b : Try Stop (List ℕ)} → Same f (at o f ∷ passed) a b →
    Same f passed a (b >>= λ os. ok (o ∷ os))
unfolding places ◌>>=◌
same_more f o passed (both {B} {os} k) =
    both {B = B} {os = o ∷ os} (λ q. omega (arith, k q, halves-cons (at o f) (places f os) q, halves-cons (at o f) passed q))
same_more f o passed neither = neither

module _ (h : Heap) (F : Frame) (A : List Location) (f : ℕ) where
  abbrev pub on_by : ℕ → ℕ
  on_by o = value_at h o f

  abbrev pub may_pass : ℕ → Bool
  may_pass o = leb 2 (halves F.held (at o f)) && eqb (halves A (at o f)) 0

  passes : (o : ℕ) → may_pass o ≡ true → (2 ≤ halves F.held (at o f)) × (halves A (at o f) ≡ 0)
  passes o m =
      let (c, d) = and_both (leb 2 (halves F.held (at o f))) _ (subst T (sym m) tt) in
      (leb→le _ _ c, eqb→eq _ _ d)

  module _ (N : ℕ) (exists : (p : Location) → 2 ≤ halves F.held p → p.object ≤ N) where
    counted :
        (n o : ℕ) (passed : List Location) → Trail f on_by may_pass passed o → Clean f on_by may_pass passed → n + length passed ≡ suc N →
        Same f passed (walk h F A f (n + length F.held) o passed) (count on_by may_pass n o)
    unfolding places
    counted zero o passed t K e =
        absurd (omega (arith, short f on_by may_pass N (λ o m. exists (at o f) (passes o m).0) t K))
    counted (suc n) o passed t K e =
        let L : ℕ = n + length F.held in
        let s : walk h F A f (suc n + length F.held) o passed ≡ walk h F A f (suc L) o passed =
        ap (λ (m : ℕ). walk h F A f m o passed) (omega arith) in
        ⊎_elim
        (λ z.
        same-as (s ∙ walk_ends h F A f (suc L) o passed z) (count-null on_by may_pass n o z)
        (both {B = passed} {os = []} (λ p. omega (arith, halves-nil p))))
        (λ z.
        ⊎_elim
        (λ a.
        ⊎_elim
        (λ m.
        let (c, d) = passes o m in
        same-as (s ∙ walk-goes h F A f L o passed z a c d) (count-on on_by may_pass n o z m)
        (same_more f o passed
        (counted n (on_by o) (at o f ∷ passed) (on z t) (clean-more f on_by may_pass o passed K a m) (omega arith))))
        (λ m. same-as (s ∙ walk-stuck h F A f L o passed z a m) (count_stuck on_by may_pass n o z m) neither)
        (decide-bool (may_pass o)))
        (λ a.
        same-as (s ∙ walk-ring h F A f L o passed z a)
        (ring f on_by may_pass t K (omega (arith, a)) (suc n) o (omega (arith, a))) neither)
        (decide_eq (halves passed (at o f)) 0))
        (decide_eq o 0)

    -- "The walk stops with 26 at a location that it has passed itself": as one that passes more than N does
    pub walk-counts : (o : ℕ) → Same f [] (walk h F A f (length F.held) o []) (count on_by may_pass (suc N) o)
    walk-counts o =
        same-as (sym (walk-bound h F A f (suc N) o)) refl (counted (suc N) o [] start (clean-none f on_by may_pass) (omega arith))
