-- Laws of what the code reads: cells of locations, expressions and formulas, as the bytes have them.
use Rattle.std.proofs.Common.{◌≡◌, ℕ, zero, suc, ◌+◌, ◌-◌, ◌<◌, ◌≤◌, Bool, true, false, cond, not, ◌&&◌, T, eqb, ltb, leb, List, sym, refl, ap, ◌∙◌, subst, ⊎_elim, arith, leb→le, ltb-true, le-ltb, lt-ltb, ne_eqb}
use mathlib.Core.Option.{Option, none, some}
use borrow.Author.Tests.{eqb-false}
use Rattle.rules.specs.Limits.{heap_fields}
use Rattle.rules.specs.Base.{Try, ok, no, ◌>>=◌, ◌>>◌, check}
use Rattle.rules.specs.Answers.{Stop, permission_missing, null_followed}
use Rattle.rules.proofs.Lists.{some_inj, none-some, T_true, and_both}
use Rattle.rules.proofs.Tries.{check-ok, ok-inj}
use Rattle.tables.specs.declared.Expr as Tables
use Rattle.tables.specs.Layout.{most_names}
use Rattle.tables.specs.Decode.{field_count_at, field_name_at}
use Rattle.tables.specs.Tables.{Tables, ClassFits, place_at}
use Rattle.run_heap.specs.declared.View.{View}
use Rattle.run_heap.specs.declared.Fault.{Fault}
use Rattle.std.specs.Prelude.{Result, Ok, Err, IsErrAnd}
use Rattle.run_heap.specs.Views.{variable_at, halves_at, class_in, first_in, placed, cell_of, present, found_of, found, held_cell, spot, stop_of, answered, ObjectFits, Readable}

-- ANSWERS BY CASES
pub answered-ok : {A : Type 0} (r : Result A Fault) (k : A) {t : Try Stop A} → r ≡ Ok k → answered r ≡ t → t ≡ ok k
unfolding answered
answered-ok r k e s = sym s ∙ rw e

pub answered-err : {A : Type 0} (r : Result A Fault) (s : Fault) {t : Try Stop A} → r ≡ Err s → answered r ≡ t → t ≡ no (stop_of s)
unfolding answered
answered-err r k e s = sym s ∙ rw e

-- an answer that a `?` passes on
pub passed-on : {A E : Type 0} (r : Result A E) (s : E) → IsErrAnd r (λ x. x ≡ s) → r ≡ Err s
passed-on (Ok x) s p = absurd p
passed-on (Err x) s p = ap Err p

-- CELLS

-- where the cell of a field stands
pub record Placed (w : List ℕ) (n o f k : ℕ) : Type 0 where
  pub index : ℕ
  pub is-object : o ≡ suc index
  pub exists : index < n
  pub named : f < most_names
  pub present : place_at w (class_in w index) f ≡ 255 → ⊥
  pub is_cell : k ≡ first_in w index + place_at w (class_in w index) f

placed-some : (a p k : ℕ) → placed a p ≡ some k → (p ≡ 255 → ⊥) × (k ≡ a + p)
unfolding placed
placed-some a p k e = go (eqb p 255) refl e
  where
    go : (b : Bool) → eqb p 255 ≡ b → cond b none (some (a + p)) ≡ some k → (p ≡ 255 → ⊥) × (k ≡ a + p)
    go true t e = none-some e
    go false t e = (eqb-false p 255 t, sym (some_inj e))

pub cell-placed : (w : List ℕ) (n o f k : ℕ) → cell_of w n o f ≡ some k → Placed w n o f k
unfolding cell_of
cell-placed w n zero f k e = none-some e
cell-placed w n (suc i) f k e = go (ltb i n && ltb f most_names) refl e
  where
    go :
        (b : Bool) → (ltb i n && ltb f most_names) ≡ b → cond b (placed (first_in w i) (place_at w (class_in w i) f)) none ≡ some k →
        Placed w n (suc i) f k
    go true t e =
        let (x, y) = and_both (ltb i n) (ltb f most_names) (subst T (sym t) tt) in
        let (p, q) = placed-some (first_in w i) (place_at w (class_in w i) f) k e in
        record {
          index = i;
          is-object = refl;
          exists = ltb-true i n (T_true _ x);
          named = ltb-true f most_names (T_true _ y);
          present = p;
          is_cell = q;
        }
    go false t e = none-some e

-- the cell of a field that is there
pub cell-some :
    (w : List ℕ) (n i f : ℕ) → i < n → f < most_names → (place_at w (class_in w i) f ≡ 255 → ⊥) →
    cell_of w n (suc i) f ≡ some (first_in w i + place_at w (class_in w i) f)
unfolding cell_of placed
cell-some w n i f l h p = rw (lt-ltb i n l, lt-ltb f most_names h, ne_eqb _ _ p)

pub cell-is :
    (w : List ℕ) (n i f c p a : ℕ) → c ≡ class_in w i → p ≡ place_at w c f → (p ≡ 255 → ⊥) → a ≡ first_in w i → i < n → f < most_names →
    cell_of w n (suc i) f ≡ some (a + p)
cell-is w n i f c p a ec ep np ea l h =
    let q : p ≡ place_at w (class_in w i) f = rw (← ec) ep in
    cell-some w n i f l h (λ z. np (q ∙ z)) ∙ rw (ea, q)

pub cell-absent :
    (w : List ℕ) (n i f : ℕ) → place_at w (class_in w i) f ≡ 255 → cell_of w n (suc i) f ≡ none
unfolding cell_of placed
cell-absent w n i f p = rw p (go (ltb i n && ltb f most_names))
  where
    go : (b : Bool) → ◌≡◌ {A = Option ℕ} (cond b none none) none
    go true = refl
    go false = refl

pub cell-beyond : (w : List ℕ) (n i f : ℕ) → n ≤ i → cell_of w n (suc i) f ≡ none
unfolding cell_of
cell-beyond w n i f l = rw (le-ltb i n l)

pub cell-null : (w : List ℕ) (n f : ℕ) → cell_of w n 0 f ≡ none
unfolding cell_of
cell-null w n f = refl

-- how many objects there are does not matter for one of them
pub bound-free : (w : List ℕ) (n m i f : ℕ) → i < n → i < m → cell_of w n (suc i) f ≡ cell_of w m (suc i) f
unfolding cell_of
bound-free w n m i f l h = rw (lt-ltb i n l, lt-ltb i m h)

-- the place of a field that is there is one of its class's
pub place_found :
    {w : List ℕ} {c f : ℕ} → ClassFits w c → f < most_names → (place_at w c f ≡ 255 → ⊥) →
    (place_at w c f < field_count_at w c) × (field_name_at w c (place_at w c f) ≡ f)
place_found {w} {c} {f} F l n = ⊎_elim (λ e. absurd (n e)) (λ p. p) (F.found f l)

pub cell-small :
    {w : List ℕ} {most n k : ℕ} (o f : ℕ) → Tables w → ((i : ℕ) → i < n → ObjectFits w most i) → cell_of w n o f ≡ some k → k < most
cell-small {w} {most} {n} {k} o f t fits e =
    let P = cell-placed w n o f k e in
    let O = fits P.index P.exists in
    let F = place_found {f = f} (t.class_fits (class_in w P.index) O.class) P.named P.present in
    omega (arith, O.cells, F.0, P.is_cell)

present-is : (o : Option ℕ) (k : ℕ) → present o ≡ ok k → o ≡ some k
unfolding present
present-is none k e = absurd (let z : ◌≡◌ {A = ℕ} 0 1 = cc in omega arith)
present-is (some j) k e = ap some (ok-inj e)

pub found-is : (w : List ℕ) (n o f k : ℕ) → found_of w n o f ≡ ok k → cell_of w n o f ≡ some k
unfolding found_of
found-is w n o f k e = let (_, e') = check-ok (not (eqb o 0)) null_followed e in present-is _ k e'

-- an object that is not null has a number, one more than its index
pub found-next : (w : List ℕ) (n o f : ℕ) → (o ≡ 0 → ⊥) → found_of w n o f ≡ present (cell_of w n (suc (o - 1)) f)
unfolding found_of check ◌>>◌
found-next w n zero f z = absurd (z refl)
found-next w n (suc i) f z = let e : suc i - 1 ≡ i = omega arith in rw (e, ne_eqb (suc i) 0 z)

pub found-small : {w : List ℕ} {v : View} {k : ℕ} (x f : ℕ) → Readable w v → found w v x f ≡ ok k → k < heap_fields
unfolding found
found-small {w} {v} {k} x f r e =
    cell-small (variable_at w v.base x) f r.tables r.object (found-is w v.objects (variable_at w v.base x) f k e)

-- what is located is found, and so many halves of it are held
pub spot-found :
    (w : List ℕ) (v : View) (n x f k : ℕ) → spot w v n x f ≡ ok k → (found w v x f ≡ ok k) × (n ≤ halves_at w v.holder k)
unfolding spot held_cell ◌>>=◌
spot-found w v n x f k e = go (found w v x f) e
  where
    go : (t : Try Stop ℕ) → t >>= held_cell w v.holder n ≡ ok k → (t ≡ ok k) × (n ≤ halves_at w v.holder k)
    go (no s) e = absurd (let z : ◌≡◌ {A = ℕ} 0 1 = cc in omega arith)
    go (ok j) e =
        let (t, e') = check-ok (leb n (halves_at w v.holder j)) permission_missing e in
        let q : j ≡ k = ok-inj e' in
        (ap ok q, subst (λ i. n ≤ halves_at w v.holder i) q (leb→le _ _ t))

pub spot-is :
    (w : List ℕ) (v : View) (n x f k : ℕ) → spot w v n x f ≡ ok k →
    (cell_of w v.objects (variable_at w v.base x) f ≡ some k) × (n ≤ halves_at w v.holder k)
unfolding found
spot-is w v n x f k e =
    let (a, b) = spot-found w v n x f k e in (found-is w v.objects (variable_at w v.base x) f k a, b)

pub spot-small : {w : List ℕ} {v : View} {k : ℕ} (n x f : ℕ) → Readable w v → spot w v n x f ≡ ok k → k < heap_fields
spot-small {w} {v} {k} n x f r e = found-small x f r (spot-found w v n x f k e).0
