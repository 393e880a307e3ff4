-- The walk of the code is a counting walk over the state that a view sees; and what chains among the shares are.
use mathlib.Core.Path.{◌≡◌, refl, sym, ap, ◌∙◌, subst}
use mathlib.Core.Bool.{Bool, true, false, ◌&&◌, ◌||◌}
use mathlib.Core.List.{List, [], ◌∷◌, map}
use mathlib.Core.Logic.{⊎_elim}
use mathlib.Core.Option.{Option, none, some}
use Prim.Native.Nat.{ℕ, zero, suc, ◌+◌, ◌≤◌}
use native.Mathlib.Omega.{arith}
use lib.Dec.{T, eqb, leb, eqb→eq, leb→le}
use borrow.Author.Tests.{eq-eqb, ne_eqb, eqb-true, le-leb}
use Rattle.rules.specs.Base.{Member, at_head, further, Try, ok, no, ◌>>=◌, ◌>>◌, check, any}
use Rattle.rules.specs.Answers.{Stop, permission_missing}
use Rattle.rules.specs.Machine.{Heap, Frame, Location, halves, value_at}
use Rattle.rules.proofs.Lists.{T_true, and_both, or_cases, decide_eq, head-or, some_inj}
use Rattle.rules.proofs.Sets.{at-cases, halves-nil, halves-cons}
use Rattle.rules.proofs.CountedWalks.{count, last_of, count-null, count_stuck, count-on, Goes, ended, went, places, decide-bool}
use Rattle.run_heap.specs.declared.View.{View}
use Rattle.run_heap.specs.Views.{cell_value, halves_at, cell_of, present, found_of, held_cell}
use Rattle.run_heap.specs.Chains.{whole_cell, free_cell, walk_in, walk_end, cells_by}
use Rattle.run_heap.proofs.Reading.{cell-null}
use Rattle.run_heap.proofs.Walking.{walk-on, walk-off, cells-more, cells-end}
use Rattle.run_footprint.specs.Footprints.{share_of, taken, ShareFits, SharesFit}
use Rattle.run_footprint.proofs.Shares.{share_cell, share_halves, taken_none}
use Rattle.run_steps.proofs.Sights.{Sees, at}
use Rattle.run_steps.proofs.Sums.{cell-here, cell-there, cell-part}

module _ {w : List ℕ} {v : View} {h : Heap} {F : Frame} (S : Sees w v h F) where
  -- is the cell held whole and free?
  passable : (ℕ → Bool) → Option ℕ → Bool
  passable free none = false
  passable free (some k) = leb 2 (halves_at w v.holder k) && free k

  -- may the code pass the object?
  pub may_in : ℕ → (ℕ → Bool) → ℕ → Bool
  may_in f free o = passable free (cell_of w v.objects o f)

  abbrev pub next : ℕ → ℕ → ℕ
  next f o = value_at h o f

  -- the cell of an object that it may pass
  pub record Passes (f : ℕ) (free : ℕ → Bool) (o k : ℕ) : Type 0 where
    pub cell : cell_of w v.objects o f ≡ some k
    pub whole : 2 ≤ halves_at w v.holder k
    pub is_free : free k ≡ true

  pub may-cell : (f : ℕ) (free : ℕ → Bool) (o : ℕ) → may_in f free o ≡ true → (k : ℕ) × Passes f free o k
  unfolding may_in passable
  may-cell f free o e = go (cell_of w v.objects o f) refl e
    where
      go : (c : Option ℕ) → cell_of w v.objects o f ≡ c → passable free c ≡ true → (k : ℕ) × Passes f free o k
      go none q e = absurd (let z : ◌≡◌ {A = ℕ} 0 1 = cc in omega arith)
      go (some k) q e =
          let (a, b) = and_both (leb 2 (halves_at w v.holder k)) (free k) (subst T (sym e) tt) in
          (k, record { cell = q; whole = leb→le _ _ a; is_free = T_true (free k) b })

  pub cell-may : (f : ℕ) (free : ℕ → Bool) (o k : ℕ) → Passes f free o k → may_in f free o ≡ true
  unfolding may_in passable
  cell-may f free o k P = rw (P.cell, le-leb 2 (halves_at w v.holder k) P.whole, P.is_free)

  free-passes : (f : ℕ) (free : ℕ → Bool) (o k : ℕ) → (o ≡ 0 → ⊥) → Passes f free o k → free_cell w v free f o ≡ ok k
  unfolding free_cell whole_cell found_of present held_cell check ◌>>◌ ◌>>=◌
  free-passes f free o k z P =
      rw (ne_eqb o 0 z, P.cell, le-leb 2 (halves_at w v.holder k) P.whole, P.is_free)

  free-stops : (f : ℕ) (free : ℕ → Bool) (o : ℕ) → (o ≡ 0 → ⊥) → may_in f free o ≡ false → free_cell w v free f o ≡ no permission_missing
  unfolding may_in passable free_cell whole_cell found_of present held_cell check ◌>>◌ ◌>>=◌
  free-stops f free o z e = rw (ne_eqb o 0 z) (go (cell_of w v.objects o f) e)
    where
      go :
          (c : Option ℕ) → passable free c ≡ false →
          (((present c >>= held_cell w v.holder 2) >>= λ k. check (free k) permission_missing >> ok k)) ≡ no permission_missing
      go none e = refl
      go (some k) e = tests (leb 2 (halves_at w v.holder k)) e
        where
          last : (b : Bool) → b ≡ false → check b permission_missing >> ok k ≡ no permission_missing
          last true e = absurd (let z : ◌≡◌ {A = ℕ} 0 1 = cc in omega arith)
          last false e = refl

          tests :
              (a : Bool) → (a && free k) ≡ false →
              ((check a permission_missing >> ok k) >>= λ i. check (free i) permission_missing >> ok i) ≡ no permission_missing
          tests true e = last (free k) e
          tests false e = refl

  -- THE WALK OF THE CODE
  pub walk-counted :
      (f : ℕ) (free : ℕ → Bool) (n o last : ℕ) →
      walk_in w v free f n o last ≡ (count (next f) (may_in f free) n o >>= λ os. ok (last_of last os))
  unfolding walk_in walk_end count last_of ◌>>=◌
  walk-counted f free zero o last = refl
  walk-counted f free (suc n) o last =
      ⊎_elim
      (λ z. at_null z ∙ sym (ap after (count-null (next f) (may_in f free) n o z)))
      (λ z.
      ⊎_elim
      (λ m.
      let (k, P) = may-cell f free o m in
      walk-on w v f free o n last k (free-passes f free o k z P)
      ∙ (ap (λ (i : ℕ). walk_in w v free f n i o) (sym (S.cells o f k P.cell))
      ∙ (walk-counted f free n (next f o) o
      ∙ (later (count (next f) (may_in f free) n (next f o)) ∙ sym (ap after (count-on (next f) (may_in f free) n o z m))))))
      (λ m.
      walk-off w v f free o n last permission_missing (free-stops f free o z m)
      ∙ (stops z ∙ sym (ap after (count_stuck (next f) (may_in f free) n o z m))))
      (decide-bool (may_in f free o)))
      (decide_eq o 0)
    where
      after : Try Stop (List ℕ) → Try Stop ℕ
      after t = t >>= λ os. ok (last_of last os)

      at_null : o ≡ 0 → walk_in w v free f (suc n) o last ≡ ok last
      at_null z = rw (eq-eqb o 0 z)

      later : (t : Try Stop (List ℕ)) → (t >>= λ os. ok (last_of o os)) ≡ after (t >>= λ os. ok (o ∷ os))
      later (ok os) = refl
      later (no s) = refl

      stops : (o ≡ 0 → ⊥) → walk_end o last ≡ no permission_missing
      stops z = rw (ne_eqb o 0 z)

  -- A WAY by f from the object o to null, over objects whose locations are held whole
  abbrev pub Way : ℕ → ℕ → List ℕ → Type 0
  Way f o os = Goes (next f) (may_in f (λ _. true)) (suc v.objects) o os

  module _ (f : ℕ) (free : ℕ → Bool) where
    or-true : (b : Bool) → (b || true) ≡ true
    or-true true = refl
    or-true false = refl

    -- its cells are those of its objects
    pub way-cell :
        (n : ℕ) {o : ℕ} {os : List ℕ} → Goes (next f) (may_in f free) (suc n) o os → (x k : ℕ) → Member x os →
        cell_of w v.objects x f ≡ some k → any (eqb k) (cells_by w v.objects f n o) ≡ true
    unfolding any
    way-cell n (ended z) x k i e = elim i [ ]
    way-cell zero (went z y G) x k i e = elim G [ ]
    way-cell (suc n) (went {o = o} z y G) x k i e =
        let (j, P) = may-cell f free o y in
        ⊎_elim
        (λ l.
        rw (cells-more w v.objects f n o j P.cell, ← S.cells o f j P.cell, way-cell n G x k l e) (or-true (eqb k j)))
        (λ q.
        rw (
          cells-more w v.objects f n o j P.cell,
          eq-eqb k j (some_inj (sym e ∙ (ap (λ (u : ℕ). cell_of w v.objects u f) q ∙ P.cell))),
        ))
        (head-or i)

    pub cell-way :
        (n : ℕ) {o : ℕ} {os : List ℕ} → Goes (next f) (may_in f free) (suc n) o os → (k : ℕ) →
        any (eqb k) (cells_by w v.objects f n o) ≡ true → (x : ℕ) × Member x os × (cell_of w v.objects x f ≡ some k)
    unfolding any cells_by
    cell-way zero (ended z) k e = absurd (let y : ◌≡◌ {A = ℕ} 0 1 = cc in omega arith)
    cell-way (suc n) (ended {o = o} z) k e =
        let q = rw (cells-end w v.objects f n o (ap (λ (u : ℕ). cell_of w v.objects u f) z ∙ cell-null w v.objects f)) at e in
        absurd (let y : ◌≡◌ {A = ℕ} 0 1 = cc in omega arith)
    cell-way zero (went z y G) k e = elim G [ ]
    cell-way (suc n) (went {o = o} z y G) k e =
        let (j, P) = may-cell f free o y in
        let q = rw (cells-more w v.objects f n o j P.cell, ← S.cells o f j P.cell) at e in
        ⊎_elim
        (λ (t : eqb k j ≡ true). (o, at_head, P.cell ∙ ap some (sym (eqb-true k j t))))
        (λ (t : eqb k j ≡ false). let (x, i, c) = cell-way n G k (rw t at q) in (x, further i, c))
        (decide-bool (eqb k j))

    -- each of them taken whole is each of its locations taken whole
    pub cells-places :
        (n : ℕ) {o : ℕ} {os : List ℕ} → Goes (next f) (may_in f free) (suc n) o os → (p : Location) (k : ℕ) →
        cell_of w v.objects p.object p.field ≡ some k →
        taken k (map (λ i. share_of i 2) (cells_by w v.objects f n o)) ≡ halves (places f os) p + halves (places f os) p
    unfolding places cells_by
    cells-places zero (ended z) p k e = omega (arith, taken_none k, halves-nil p)
    cells-places (suc n) (ended {o = o} z) p k e =
        rw (cells-end w v.objects f n o (ap (λ (u : ℕ). cell_of w v.objects u f) z ∙ cell-null w v.objects f))
        (omega (arith, taken_none k, halves-nil p))
    cells-places zero (went z y G) p k e = elim G [ ]
    cells-places (suc n) (went {o = o} {os = os} z y G) p k e =
        let (j, P) = may-cell f free o y in
        let c = halves-cons (at o f) (places f os) p in
        let d = cell-part w v.objects k j (cells_by w v.objects f n (next f o)) in
        let i = cells-places n G p k e in
        rw (cells-more w v.objects f n o j P.cell, ← S.cells o f j P.cell)
        (⊎_elim
        (λ (q, a).
        let b : j ≡ k = some_inj (sym P.cell ∙ (ap (λ (r : Location). cell_of w v.objects r.object r.field) (sym q) ∙ e)) in
        omega (arith, a, c, d, i, cell-here w v.objects k j b))
        (λ (q, a).
        omega (arith, a, c, d, i, cell-there w v.objects k j (λ b. q (S.apart p (at o f) k e (P.cell ∙ ap some b)))))
        (at-cases (at o f) p))

  -- cells of a chain are cells of the heap
  pub cells_fit : (f n o : ℕ) → SharesFit (map (λ i. share_of i 2) (cells_by w v.objects f n o))
  unfolding any cells_by
  cells_fit f zero o = λ j t. absurd t
  cells_fit f (suc n) o = go (cell_of w v.objects o f) refl (cells_fit f n)
    where
      go :
          (c : Option ℕ) → cell_of w v.objects o f ≡ c →
          ((i : ℕ) → SharesFit (map (λ i. share_of i 2) (cells_by w v.objects f n i))) →
          SharesFit (map (λ i. share_of i 2) (cells_by w v.objects f (suc n) o))
      go none e h j t =
          absurd (subst (λ (l : List ℕ). T (any (eqb j) (map (λ i. share_of i 2) l))) (cells-end w v.objects f n o e) t)
      go (some k) e h j t =
          ⊎_elim
          (λ q.
          subst ShareFits (sym (eqb→eq j (share_of k 2) q))
          (rw (share_cell k 2 (omega arith)) (S.small o f k e), rw (share_halves k 2 (omega arith)) (omega arith)))
          (h (cell_value w k) j)
          (or_cases (eqb j (share_of k 2)) (any (eqb j) (map (λ i. share_of i 2) (cells_by w v.objects f n (cell_value w k))))
          (subst (λ (l : List ℕ). T (any (eqb j) (map (λ i. share_of i 2) l))) (cells-more w v.objects f n o k e) t))
