-- Laws of walks as the code does them.
use Rattle.std.proofs.Common.{◌≡◌, ℕ, suc, ◌+◌, ◌-◌, ◌%◌, ◌<◌, ◌≤◌, Bool, true, false, leb, List, [], ◌∷◌, sym, refl, ap, ◌∙◌, subst, ⊎_elim, arith, leb→le, eq-eqb, ne_eqb}
use mathlib.Core.Option.{Option, none, some}
use Rattle.rules.specs.Limits.{heap_objects, heap_fields}
use Rattle.rules.specs.Base.{Try, ok, no, ◌>>=◌, ◌>>◌, check}
use Rattle.rules.specs.Answers.{Stop, permission_missing, formula_false}
use Rattle.rules.proofs.Lists.{decide_eq, none-some}
use Rattle.rules.proofs.Tries.{bind_ok, check-ok, ok-inj, no_ok}
use Rattle.tables.specs.Numbers.{word_values}
use Rattle.run_heap.specs.declared.View.{View}
use Rattle.run_heap.specs.Views.{halves_at, cell_value, cell_of, present, found_of, held_cell, Readable}
use Rattle.run_heap.specs.Chains.{whole_cell, free_cell, walk_in, walk_end, at_cell, cells_by}
use Rattle.run_heap.proofs.Reading.{cell-null, cell-beyond, cell-small, found-is, found-next}

module _ (w : List ℕ) (v : View) (f : ℕ) where
  -- the cell of an object whose location is held whole
  pub whole_is : (o k : ℕ) → whole_cell w v f o ≡ ok k → (cell_of w v.objects o f ≡ some k) × (2 ≤ halves_at w v.holder k)
  unfolding whole_cell held_cell
  whole_is o k e =
      let (j, a, b) = bind_ok (found_of w v.objects o f) e in
      let (t, q) = check-ok (leb 2 (halves_at w v.holder j)) permission_missing b in
      subst (λ i. (cell_of w v.objects o f ≡ some i) × (2 ≤ halves_at w v.holder i)) (ok-inj q)
      (found-is w v.objects o f j a, leb→le _ _ t)

  pub whole-small : (o k : ℕ) → Readable w v → whole_cell w v f o ≡ ok k → k < heap_fields
  whole-small o k R e = cell-small o f R.tables R.object (whole_is o k e).0

  pub whole-free : (o : ℕ) → free_cell w v (λ _. true) f o ≡ whole_cell w v f o
  unfolding free_cell check ◌>>◌ ◌>>=◌
  whole-free o = go (whole_cell w v f o)
    where
      go : (t : Try Stop ℕ) → (t >>= λ k. check true permission_missing >> ok k) ≡ t
      go (ok k) = refl
      go (no s) = refl

  whole-object : (o k : ℕ) → whole_cell w v f o ≡ ok k → o ≡ 0 → ⊥
  whole-object o k e z =
      none-some (sym (cell-null w v.objects f) ∙ (ap (λ (i : ℕ). cell_of w v.objects i f) (sym z) ∙ (whole_is o k e).0))

  -- of an object it is only the permission that can be missing
  whole-lacks : (o : ℕ) (s : Stop) → (o ≡ 0 → ⊥) → whole_cell w v f o ≡ no s → s ≡ permission_missing
  unfolding whole_cell found_of present held_cell check ◌>>◌ ◌>>=◌
  whole-lacks o s z e = go (cell_of w v.objects o f) (rw (ne_eqb o 0 z) at e)
    where
      go : (c : Option ℕ) → (present c >>= held_cell w v.holder 2) ≡ no s → s ≡ permission_missing
      go none q = cc
      go (some k) q = held (leb 2 (halves_at w v.holder k)) q
        where
          held : (b : Bool) → (check b permission_missing >> ok k) ≡ no s → s ≡ permission_missing
          held true q = no_ok (sym q)
          held false q = cc

  module _ (free : ℕ → Bool) (o : ℕ) where
    free-whole : (k : ℕ) → free_cell w v free f o ≡ ok k → whole_cell w v f o ≡ ok k
    unfolding free_cell
    free-whole k e =
        let (j, a, b) = bind_ok (whole_cell w v f o) e in
        a ∙ ap ok (ok-inj (check-ok (free j) permission_missing b).1)

    free-lacks : (s : Stop) → (o ≡ 0 → ⊥) → free_cell w v free f o ≡ no s → s ≡ permission_missing
    unfolding free_cell check ◌>>◌ ◌>>=◌
    free-lacks s z e = go (whole_cell w v f o) refl e
      where
        go : (t : Try Stop ℕ) → whole_cell w v f o ≡ t → (t >>= λ k. check (free k) permission_missing >> ok k) ≡ no s → s ≡ permission_missing
        go (no r) q e = whole-lacks o s z (q ∙ e)
        go (ok k) q e = last-test (free k) e
          where
            last-test : (b : Bool) → (check b permission_missing >> ok k) ≡ no s → s ≡ permission_missing
            last-test true q = no_ok (sym q)
            last-test false q = cc

    -- where the location is held whole, it is free or not
    pub free-ok : (k : ℕ) → whole_cell w v f o ≡ ok k → free k ≡ true → free_cell w v free f o ≡ ok k
    unfolding free_cell check ◌>>◌ ◌>>=◌
    free-ok k e t = rw (e, t)

    pub free-stops : (s : Stop) → whole_cell w v f o ≡ no s → free_cell w v free f o ≡ no s
    unfolding free_cell ◌>>=◌
    free-stops s e = rw e

    free-taken : (k : ℕ) → whole_cell w v f o ≡ ok k → free k ≡ false → free_cell w v free f o ≡ no permission_missing
    unfolding free_cell check ◌>>◌ ◌>>=◌
    free-taken k e t = rw (e, t)

    pub walk-on :
        (n last k : ℕ) → free_cell w v free f o ≡ ok k → walk_in w v free f (suc n) o last ≡ walk_in w v free f n (cell_value w k) o
    unfolding walk_in ◌>>=◌
    walk-on n last k e = rw (ne_eqb o 0 (whole-object o k (free-whole k e)), e)

    pub walk-off : (n last : ℕ) (s : Stop) → free_cell w v free f o ≡ no s → walk_in w v free f (suc n) o last ≡ walk_end o last
    unfolding walk_in walk_end ◌>>=◌
    walk-off n last s e =
        ⊎_elim
        (λ z. rw (eq-eqb o 0 z))
        (λ z. rw (ne_eqb o 0 z, e) (ap no (free-lacks s z e)))
        (decide_eq o 0)

-- a walk of fewer than n + 1 cells, of which i are passed
module _ (w : List ℕ) (v : View) (f : ℕ) (free : ℕ → Bool) (n i o last : ℕ) where
  pub walk-next :
      (k : ℕ) → i ≤ n → free_cell w v free f o ≡ ok k →
      walk_in w v free f (suc n - (i + 1)) (cell_value w k) o ≡ walk_in w v free f (suc n - i) o last
  walk-next k l e =
      let a : suc n - (i + 1) ≡ n - i = omega arith in
      let b : suc n - i ≡ suc (n - i) = omega arith in
      rw (a, b) (sym (walk-on w v f free o (n - i) last k e))

  pub walk-stops : (s : Stop) → i ≤ n → free_cell w v free f o ≡ no s → walk_in w v free f (suc n - i) o last ≡ walk_end o last
  walk-stops s l e = let b : suc n - i ≡ suc (n - i) = omega arith in rw b (walk-off w v f free o (n - i) last s e)

  pub walk-taken :
      (k : ℕ) → i ≤ n → whole_cell w v f o ≡ ok k → free k ≡ false → walk_in w v free f (suc n - i) o last ≡ no permission_missing
  unfolding walk_end
  walk-taken k l e t =
      walk-stops permission_missing l (free-taken w v f free o k e t) ∙ rw (ne_eqb o 0 (whole-object w v f o k e))

  pub walk-over : n < i → walk_in w v free f (suc n - i) o last ≡ no formula_false
  unfolding walk_in
  walk-over l = let b : suc n - i ≡ 0 = omega arith in rw b

-- OBJECTS BY INDEX, r the number before o, round the end of a word
pub found-object :
    (w : List ℕ) (n o f r : ℕ) → r < heap_objects → (r + 1) % word_values ≡ o → found_of w n o f ≡ present (cell_of w n (suc r) f)
found-object w n o f r h e =
    let q : r ≡ o - 1 = omega arith in rw q (found-next w n o f (omega arith))

pub found-beyond :
    (w : List ℕ) (n o f r : ℕ) → r < word_values → (o ≡ 0 → ⊥) → n ≤ r → (r + 1) % word_values ≡ o →
    found_of w n o f ≡ no permission_missing
unfolding present
found-beyond w n o f r h z l e =
    let q : n ≤ o - 1 = omega arith in found-next w n o f z ∙ rw (cell-beyond w n (o - 1) f q)

-- an object without a cell
pub found_none : (w : List ℕ) (n o f : ℕ) (s : Stop) → found_of w n o f ≡ no s → cell_of w n o f ≡ none
unfolding found_of present check ◌>>◌
found_none w n o f s e = ⊎_elim (λ z. ap (λ (i : ℕ). cell_of w n i f) z ∙ cell-null w n f) (λ z. go (cell_of w n o f) (rw (ne_eqb o 0 z) at e)) (decide_eq o 0)
  where
    go : (c : Option ℕ) → present c ≡ no s → c ≡ none
    go none q = refl
    go (some k) q = no_ok (sym q)

-- CELLS of a chain
module _ (w : List ℕ) (n f m o : ℕ) where
  pub cells-more : (k : ℕ) → cell_of w n o f ≡ some k → cells_by w n f (suc m) o ≡ k ∷ cells_by w n f m (cell_value w k)
  unfolding cells_by at_cell
  cells-more k e = rw e

  pub cells-end : cell_of w n o f ≡ none → cells_by w n f (suc m) o ≡ []
  unfolding cells_by at_cell
  cells-end e = rw e
