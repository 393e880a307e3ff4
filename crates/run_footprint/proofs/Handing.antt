-- Halves handed over: what each store leaves, and how many halves of a cell are with a number then.
use mathlib.Core.Path.{◌≡◌, refl, sym, ap, ◌∙◌}
use mathlib.Core.Bool.{Bool, true, false, cond}
use mathlib.Core.List.{List, [], ◌∷◌}
use mathlib.Core.Logic.{◌⊎◌, inl, inr, ⊎_elim}
use Prim.Native.Nat.{ℕ, ◌+◌, ◌≤◌, ◌<◌}
use native.Mathlib.Omega.{arith}
use lib.Dec.{eqb, ltb, eqb_refl}
use lib.ListN.{length}
use borrow.Author.Tests.{eq-eqb, ne_eqb, eqb-true, eqb-false}
use Rattle.rules.specs.Limits.{work_bytes, heap_fields}
use Rattle.rules.specs.Base.{any}
use Rattle.rules.proofs.Lists.{decide_eq, or_left, or_right}
use Rattle.tables.specs.Layout.{holders_at, objects_at}
use Rattle.tables.specs.Decode.{word_at}
use Rattle.tables.specs.Stores.{put_word}
use Rattle.tables.proofs.BytesRead.{put-word-length, word-put, word_kept}
use Rattle.run_heap.specs.Views.{cell_holders_at, first_holder, second_holder, one, halves_at, whole_put, half_put, handed}
use Rattle.run_heap.proofs.Halves.{one-other, one-cases, halves-at, halves-most}
use Rattle.run_footprint.specs.Footprints.{cell_in, halves_in, part_of, taken, marked, ShareFits, SharesFit}
use Rattle.run_footprint.proofs.Regions.{Only, only-refl, only-trans, only-word, only_kept, apart}
use Rattle.run_footprint.proofs.Shares.{part_same, part-other, taken_none, taken-cons}

-- WHAT STAYS
put_other : (w : List ℕ) (a b v : ℕ) → (a + 4 ≤ b) ⊎ (b + 4 ≤ a) → word_at (put_word w a v) b ≡ word_at w b
put_other w a b v o =
    word_kept b (b + 4) w (put_word w a v)
    (only_kept (only-word a (a + 4) w a v (omega arith) (omega arith)) b (b + 4) (⊎_elim (λ l. inr l) (λ l. inl l) o))
    b (omega arith) (omega arith)

pub only-handed :
    (w : List ℕ) (k n from to : ℕ) → k < heap_fields → Only holders_at objects_at w (handed w k n from to)
unfolding handed whole_put half_put
only-handed w k n from to l = go (ltb n 2) (eqb (first_holder w k) from)
  where
    go :
        (a b : Bool) →
        Only holders_at objects_at w
        (cond a (put_word w (cond b (cell_holders_at k) (cell_holders_at k + 4)) to) (put_word (put_word w (cell_holders_at k) to) (cell_holders_at k + 4) to))
    go true true = only-word _ _ w (cell_holders_at k) to (omega arith) (omega arith)
    go true false = only-word _ _ w (cell_holders_at k + 4) to (omega arith) (omega arith)
    go false b =
        only-trans (only-word _ _ w (cell_holders_at k) to (omega arith) (omega arith))
        (only-word _ _ (put_word w (cell_holders_at k) to) (cell_holders_at k + 4) to (omega arith) (omega arith))

fit-rest : (s : ℕ) (ss : List ℕ) → SharesFit (s ∷ ss) → SharesFit ss
unfolding any
fit-rest s ss F j t = F j (or_right (eqb j s) (any (eqb j) ss) t)

fit-first : (s : ℕ) (ss : List ℕ) → SharesFit (s ∷ ss) → ShareFits s
unfolding any
fit-first s ss F = F s (or_left (eqb s s) (any (eqb s) ss) (eqb_refl s))

pub only-marked : (w ss : List ℕ) (from to : ℕ) → SharesFit ss → Only holders_at objects_at w (marked w ss from to)
unfolding marked
only-marked w [] from to F = only-refl holders_at objects_at w
only-marked w (s ∷ ss) from to F =
    only-trans (only-handed w (cell_in s) (halves_in s) from to (fit-first s ss F).0)
    (only-marked (handed w (cell_in s) (halves_in s) from to) ss from to (fit-rest s ss F))

-- A CELL'S HOLDERS
module _ (w : List ℕ) (k m : ℕ) where
  halves-by : {a b : ℕ} → first_holder w k ≡ a → second_holder w k ≡ b → halves_at w m k ≡ one (eqb a m) + one (eqb b m)
  halves-by e f = halves-at w m k ∙ rw (e, f)

  both_by : 2 ≤ halves_at w m k → (first_holder w k ≡ m) × (second_holder w k ≡ m)
  both_by l =
      ⊎_elim
      (λ (a, p). ⊎_elim (λ (b, q). (a, b)) (λ (b, q). absurd (omega (arith, p, q, halves-at w m k))) (one-cases (second_holder w k) m))
      (λ (a, p).
      ⊎_elim (λ (b, q). absurd (omega (arith, p, q, halves-at w m k))) (λ (b, q). absurd (omega (arith, p, q, halves-at w m k)))
      (one-cases (second_holder w k) m))
      (one-cases (first_holder w k) m)

  second-by : (first_holder w k ≡ m → ⊥) → 1 ≤ halves_at w m k → second_holder w k ≡ m
  second-by n l =
      ⊎_elim (λ (b, q). b) (λ (b, q). absurd (omega (arith, one-other n, q, halves-at w m k))) (one-cases (second_holder w k) m)

module _ (w : List ℕ) (k to : ℕ) (size : length w ≡ work_bytes) (lk : k < heap_fields) (lt : to < 4294967296) where
  first-first : first_holder (put_word w (cell_holders_at k) to) k ≡ to
  unfolding first_holder
  first-first = word-put w (cell_holders_at k) to (omega (arith, size)) lt

  first-second : second_holder (put_word w (cell_holders_at k) to) k ≡ second_holder w k
  unfolding second_holder
  first-second = put_other w (cell_holders_at k) (cell_holders_at k + 4) to (inl (omega arith))

  second-first : first_holder (put_word w (cell_holders_at k + 4) to) k ≡ first_holder w k
  unfolding first_holder
  second-first = put_other w (cell_holders_at k + 4) (cell_holders_at k) to (inr (omega arith))

  second-second : second_holder (put_word w (cell_holders_at k + 4) to) k ≡ to
  unfolding second_holder
  second-second = word-put w (cell_holders_at k + 4) to (omega (arith, size)) lt

-- so many, if
amount : Bool → ℕ → ℕ
amount b n = cond b n 0

amount-one : (b : Bool) → amount b 1 ≡ one b
unfolding amount one
amount-one b = refl

amount-two : (b : Bool) → amount b 2 ≡ one b + one b
unfolding amount one
amount-two true = refl
amount-two false = refl

amount-none : (b : Bool) → amount b 0 ≡ 0
unfolding amount
amount-none true = refl
amount-none false = refl

amount-all : {b : Bool} (n : ℕ) → b ≡ true → amount b n ≡ n
unfolding amount
amount-all n e = rw e

amount-no : {b : Bool} (n : ℕ) → b ≡ false → amount b n ≡ 0
unfolding amount
amount-no n e = rw e

amount-sum : (b : Bool) (n o : ℕ) → amount b (n + o) ≡ amount b n + amount b o
unfolding amount
amount-sum true n o = refl
amount-sum false n o = refl

-- ONE SHARE
module _ (w : List ℕ) (k n from to : ℕ) (size : length w ≡ work_bytes) (lk : k < heap_fields) (lt : to < 4294967296) where
  -- n halves of the cell k: those of `from` are so many fewer, those of `to` so many more
  hand-same :
      (m : ℕ) → 1 ≤ n → n ≤ halves_at w from k →
      halves_at (handed w k n from to) m k + amount (eqb from m) n ≡ halves_at w m k + amount (eqb to m) n
  unfolding handed whole_put half_put
  hand-same m l h = ⊎_elim all half (decide_eq n 2)
    where
      all : n ≡ 2 → halves_at (handed w k n from to) m k + amount (eqb from m) n ≡ halves_at w m k + amount (eqb to m) n
      all e =
          let u : List ℕ = put_word w (cell_holders_at k) to in
          let us : length u ≡ work_bytes = put-word-length w (cell_holders_at k) to ∙ size in
          let (a, b) = both_by w k from (omega arith) in
          rw e
          (omega (
            arith,
            halves-by w k m a b,
            halves-by (put_word u (cell_holders_at k + 4) to) k m (second-first u k to us lk lt ∙ first-first w k to size lk lt)
                (second-second u k to us lk lt),
            amount-two (eqb from m),
            amount-two (eqb to m),
          ))

      one-moved :
          (b : Bool) → eqb (first_holder w k) from ≡ b →
          halves_at (put_word w (cond b (cell_holders_at k) (cell_holders_at k + 4)) to) m k + amount (eqb from m) 1 ≡ halves_at w m k + amount (eqb to m) 1
      one-moved true t =
          omega (
            arith,
            halves-by w k m (eqb-true (first_holder w k) from t) refl,
            halves-by (put_word w (cell_holders_at k) to) k m (first-first w k to size lk lt) (first-second w k to size lk lt),
            amount-one (eqb from m),
            amount-one (eqb to m),
          )
      one-moved false t =
          omega (
            arith,
            halves-by w k m refl (second-by w k from (eqb-false (first_holder w k) from t) (omega arith)),
            halves-by (put_word w (cell_holders_at k + 4) to) k m (second-first w k to size lk lt) (second-second w k to size lk lt),
            amount-one (eqb from m),
            amount-one (eqb to m),
          )

      half : (n ≡ 2 → ⊥) → halves_at (handed w k n from to) m k + amount (eqb from m) n ≡ halves_at w m k + amount (eqb to m) n
      half d =
          let e : n ≡ 1 = omega (arith, halves-most w from k) in
          rw e (one-moved (eqb (first_holder w k) from) refl)

  -- another cell stays
  hand-other : (j m : ℕ) → (j ≡ k → ⊥) → halves_at (handed w k n from to) m j ≡ halves_at w m j
  unfolding handed whole_put half_put halves_at first_holder second_holder
  hand-other j m d = go (ltb n 2) (eqb (first_holder w k) from)
    where
      stays : (u : List ℕ) (a : ℕ) → cell_holders_at k ≤ a → a ≤ cell_holders_at k + 4 → halves_at (put_word u a to) m j ≡ halves_at u m j
      stays u a l h =
          let away : (b : ℕ) → cell_holders_at j ≤ b → b ≤ cell_holders_at j + 4 → word_at (put_word u a to) b ≡ word_at u b =
          λ b p q. put_other u a b to (⊎_elim (λ o. inr (omega arith)) (λ o. inl (omega arith)) (apart j k d)) in
          rw (away (cell_holders_at j) (omega arith) (omega arith), away (cell_holders_at j + 4) (omega arith) (omega arith))

      go :
          (a b : Bool) →
          halves_at (cond a (put_word w (cond b (cell_holders_at k) (cell_holders_at k + 4)) to) (put_word (put_word w (cell_holders_at k) to) (cell_holders_at k + 4) to)) m j
          ≡ halves_at w m j
      go true true = stays w (cell_holders_at k) (omega arith) (omega arith)
      go true false = stays w (cell_holders_at k + 4) (omega arith) (omega arith)
      go false b =
          stays (put_word w (cell_holders_at k) to) (cell_holders_at k + 4) (omega arith) (omega arith)
          ∙ stays w (cell_holders_at k) (omega arith) (omega arith)

-- ALL SHARES
module _ (from to k : ℕ) (lk : k < heap_fields) (lt : to < 4294967296) where
  one-handed :
      (w : List ℕ) (s m : ℕ) → length w ≡ work_bytes → ShareFits s → part_of k s ≤ halves_at w from k →
      halves_at (handed w (cell_in s) (halves_in s) from to) m k + amount (eqb from m) (part_of k s)
      ≡ halves_at w m k + amount (eqb to m) (part_of k s)
  one-handed w s m size (l, h) held = ⊎_elim here there (decide_eq (cell_in s) k)
    where
      here :
          cell_in s ≡ k →
          halves_at (handed w (cell_in s) (halves_in s) from to) m k + amount (eqb from m) (part_of k s)
          ≡ halves_at w m k + amount (eqb to m) (part_of k s)
      here e =
          rw (part_same k s e)
          (ap (λ (j : ℕ). halves_at (handed w j (halves_in s) from to) m k + amount (eqb from m) (halves_in s)) e
          ∙ hand-same w k (halves_in s) from to size lk lt m h (omega (arith, held, part_same k s e)))

      there :
          (cell_in s ≡ k → ⊥) →
          halves_at (handed w (cell_in s) (halves_in s) from to) m k + amount (eqb from m) (part_of k s)
          ≡ halves_at w m k + amount (eqb to m) (part_of k s)
      there d =
          rw (part-other k s d)
          (omega (
            arith,
            hand-other w (cell_in s) (halves_in s) from to size l lt k m (λ e. d (sym e)),
            amount-none (eqb from m),
            amount-none (eqb to m),
          ))

  all-handed :
      (w ss : List ℕ) (m : ℕ) → length w ≡ work_bytes → SharesFit ss → taken k ss ≤ halves_at w from k →
      halves_at (marked w ss from to) m k + amount (eqb from m) (taken k ss) ≡ halves_at w m k + amount (eqb to m) (taken k ss)
  unfolding marked
  all-handed w [] m size F held = rw (taken_none k) (omega (arith, amount-none (eqb from m), amount-none (eqb to m)))
  all-handed w (s ∷ ss) m size F held =
      let u : List ℕ = handed w (cell_in s) (halves_in s) from to in
      let f : ShareFits s = fit-first s ss F in
      let e = taken-cons k s ss in
      let p : part_of k s ≤ halves_at w from k = omega (arith, held, e) in
      let us : length u ≡ work_bytes = (only-handed w (cell_in s) (halves_in s) from to f.0).size ∙ size in
      let left : taken k ss ≤ halves_at u from k =
      omega (arith, one-handed w s from size f p, amount-all (part_of k s) (eq-eqb from from refl), held, e) in
      rw e
      (omega (
        arith,
        all-handed u ss m us (fit-rest s ss F) left,
        one-handed w s m size f p,
        amount-sum (eqb from m) (part_of k s) (taken k ss),
        amount-sum (eqb to m) (part_of k s) (taken k ss),
      ))

  module _ (w ss : List ℕ) (size : length w ≡ work_bytes) (F : SharesFit ss) (held : taken k ss ≤ halves_at w from k) where
    -- the one who had them has so many fewer
    pub marked-lost : (to ≡ from → ⊥) → halves_at (marked w ss from to) from k + taken k ss ≡ halves_at w from k
    marked-lost d =
        omega (
          arith,
          all-handed w ss from size F held,
          amount-all (taken k ss) (eq-eqb from from refl),
          amount-no (taken k ss) (ne_eqb to from d),
        )

    -- who gets them so many more
    pub marked-gained : (to ≡ from → ⊥) → halves_at (marked w ss from to) to k ≡ halves_at w to k + taken k ss
    marked-gained d =
        omega (
          arith,
          all-handed w ss to size F held,
          amount-all (taken k ss) (eq-eqb to to refl),
          amount-no (taken k ss) (ne_eqb from to (λ e. d (sym e))),
        )

    -- and all others as many as before
    pub marked_other : (m : ℕ) → (m ≡ from → ⊥) → (m ≡ to → ⊥) → halves_at (marked w ss from to) m k ≡ halves_at w m k
    marked_other m a b =
        omega (
          arith,
          all-handed w ss m size F held,
          amount-no (taken k ss) (ne_eqb from m (λ e. a (sym e))),
          amount-no (taken k ss) (ne_eqb to m (λ e. b (sym e))),
        )

-- A NUMBER THAT GETS NOTHING has no more than before, whoever had what is handed over
module _ (to m : ℕ) (d : m ≡ to → ⊥) (lt : to < 4294967296) where
  first-most :
      (w : List ℕ) (k : ℕ) → length w ≡ work_bytes → k < heap_fields → halves_at (put_word w (cell_holders_at k) to) m k ≤ halves_at w m k
  first-most w k size l =
      omega (
        arith,
        halves-by (put_word w (cell_holders_at k) to) k m (first-first w k to size l lt) (first-second w k to size l lt),
        one-other (λ e. d (sym e)),
        halves-at w m k,
      )

  second-most :
      (w : List ℕ) (k : ℕ) → length w ≡ work_bytes → k < heap_fields → halves_at (put_word w (cell_holders_at k + 4) to) m k ≤ halves_at w m k
  second-most w k size l =
      omega (
        arith,
        halves-by (put_word w (cell_holders_at k + 4) to) k m (second-first w k to size l lt) (second-second w k to size l lt),
        one-other (λ e. d (sym e)),
        halves-at w m k,
      )

  same-most :
      (w : List ℕ) (k n from : ℕ) → length w ≡ work_bytes → k < heap_fields → halves_at (handed w k n from to) m k ≤ halves_at w m k
  unfolding handed whole_put half_put
  same-most w k n from size l = go (ltb n 2) (eqb (first_holder w k) from)
    where
      go :
          (a b : Bool) →
          halves_at (cond a (put_word w (cond b (cell_holders_at k) (cell_holders_at k + 4)) to) (put_word (put_word w (cell_holders_at k) to) (cell_holders_at k + 4) to)) m k
          ≤ halves_at w m k
      go true true = first-most w k size l
      go true false = second-most w k size l
      go false b =
          omega (
            arith,
            first-most w k size l,
            second-most (put_word w (cell_holders_at k) to) k (put-word-length w (cell_holders_at k) to ∙ size) l,
          )

  pub marked-most :
      (w ss : List ℕ) (from k : ℕ) → length w ≡ work_bytes → SharesFit ss → halves_at (marked w ss from to) m k ≤ halves_at w m k
  unfolding marked
  marked-most w [] from k size F = omega arith
  marked-most w (s ∷ ss) from k size F =
      let u : List ℕ = handed w (cell_in s) (halves_in s) from to in
      let l : cell_in s < heap_fields = (fit-first s ss F).0 in
      let us : length u ≡ work_bytes = (only-handed w (cell_in s) (halves_in s) from to l).size ∙ size in
      let one_less : halves_at u m k ≤ halves_at w m k =
      ⊎_elim
      (λ (e : k ≡ cell_in s). rw e (same-most w (cell_in s) (halves_in s) from size l))
      (λ (n : k ≡ cell_in s → ⊥). omega (arith, hand-other w (cell_in s) (halves_in s) from to size l lt k m n))
      (decide_eq k (cell_in s)) in
      omega (arith, marked-most u ss from k us (fit-rest s ss F), one_less)
