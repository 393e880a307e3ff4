-- `new`: the heap grows by an object, whose locations the running frame holds.
use mathlib.Core.Path.{◌≡◌, refl, sym, ap, ◌∙◌, subst}
use mathlib.Core.Bool.{Bool, true, false, cond, ◌&&◌, ◌||◌}
use mathlib.Core.List.{List, [], ◌∷◌, ◌++◌, map}
use mathlib.Core.Logic.{◌⊎◌, inl, inr, ⊎_elim}
use mathlib.Core.Option.{Option, none, some}
use Prim.Native.Nat.{ℕ, zero, suc, ◌+◌, ◌*◌, ◌-◌, ◌≤◌, ◌<◌}
use native.Mathlib.Nat.{add-zero}
use native.Mathlib.Omega.{arith}
use lib.Dec.{T, eqb, ltb, leb, eqb→eq, eqb_refl}
use lib.ListN.{length, get_or, length-append, length-map, get_or-append}
use lib.Seq.{get_or-append_seam}
use borrow.Author.Tests.{eqb-true, eqb-false, lt-ltb, le-ltb, le-leb, lt-leb}
use Rattle.rules.specs.Limits.{heap_objects, heap_fields, most_fields, most_classes}
use Rattle.rules.specs.Base.{Try, ok, no, ◌>>◌, check, any}
use Rattle.rules.specs.Answers.{Stop, heap_full}
use Rattle.rules.specs.Grammar.{New, statement_number}
use Rattle.rules.specs.Machine.{Heap, Cell, Location, Config, took, halves, fields_in, object, value_at, holding, bind, advance, with_frame, new_cell, whole_of, grown, new_step}
use Rattle.rules.specs.declared.Machine.{Machine}
use Rattle.rules.proofs.Lists.{T_true, F-false, or_left, or_right, or_cases, none-some, decide_eq}
use Rattle.rules.proofs.Heaps.{grown-other, grown-new}
use Rattle.rules.proofs.Sets.{at-cases, halves-append, whole-cons, whole-nil, whole-new}
use Rattle.tables.specs.Layout.{frame_variables, most_names, values_at, frames_at}
use Rattle.tables.specs.Decode.{run, kind_at, x_at, member_at, class_count, class_at, fields_from, field_at, field_count_at, field_name_at}
use Rattle.tables.specs.Tables.{ClassFits, place_at}
use Rattle.tables.specs.Stores.{SameTables, put_word}
use Rattle.tables.proofs.Rows.{class-length}
use Rattle.tables.proofs.BytesRead.{same-trans}
use Rattle.tables.proofs.Decoding.{tables-same, rows-count-same, kind-same, classes-count-same, field-count-same, place_same}
use Rattle.run_heap.specs.declared.Fault.{Fault}
use Rattle.std.specs.Prelude.{Some, Ok, Err}
use Rattle.run_heap.specs.declared.View.{View}
use Rattle.run_heap.specs.Views.{frame_at, cell_value, one, halves_at, class_in, first_in, cell_of, halves_in, halves_of, made, view_of, stop_of, ObjectFits}
use Rattle.run_steps.specs.States.{HeapIs, Represents, Follows, Does, CanStep, AtKind, at_row, NotEnd}
use Rattle.run_calls.specs.Calls.{larger, new_here}
use Rattle.run_heap.proofs.Halves.{one_same, one-other}
use Rattle.run_heap.proofs.Reading.{Placed, cell-placed, cell-small, cell-beyond, cell-null, cell-some, bound-free, place_found}
use Rattle.run_steps.proofs.Sights.{at}
use Rattle.run_footprint.proofs.Regions.{Only, only-tables, only-word}
use Rattle.run_footprint.proofs.Cells.{SameObjects, cell-kept, fits_kept}
use Rattle.run_steps.proofs.Keeping.{same-frame, ensures-kept, callers-kept}
use Rattle.run_steps.proofs.Moves.{moved_to, next-is, next_fits, follow-stop, follow-on}
use Rattle.run_steps.proofs.Changes.{put-variable}
use Rattle.run_steps.proofs.Steps.{frame-holding}
use Rattle.run_steps.proofs.Heaps.{Has}
use Rattle.run_steps.proofs.Doing.{does-on, does-stop, fits, frames-fit}
use Rattle.run_calls.proofs.Making.{made-only, made-class, made-first, made-objects, old-value, old-halves, new-value, new-halves}

-- FIELDS OF A CLASS
class-has :
    (w : List ℕ) (c j n p : ℕ) → p < n → Has (map new_cell (fields_from w c j n)) (field_name_at w c (j + p))
unfolding run any new_cell field_at
class-has w c j zero p l = absurd (omega arith)
class-has w c j (suc n) zero l =
    or_left (eqb (field_name_at w c j) (field_name_at w c (j + 0))) _ (rw add-zero (eqb_refl (field_name_at w c j)))
class-has w c j (suc n) (suc p) l =
    let e : j + suc p ≡ suc j + p = omega arith in
    or_right (eqb (field_name_at w c j) (field_name_at w c (j + suc p))) _
    (subst (λ (x : ℕ). Has (map new_cell (fields_from w c (suc j) n)) (field_name_at w c x)) (sym e) (class-has w c (suc j) n p (omega arith)))

has-name :
    (w : List ℕ) (c j n f : ℕ) → Has (map new_cell (fields_from w c j n)) f → (p : ℕ) × (p < n) × (field_name_at w c (j + p) ≡ f)
unfolding run any new_cell field_at
has-name w c j zero f t = absurd t
has-name w c j (suc n) f t =
    ⊎_elim
    (λ q. (0, omega arith, rw add-zero (eqb→eq (field_name_at w c j) f q)))
    (λ q.
    let (p, l, e) = has-name w c (suc j) n f q in
    let s : suc j + p ≡ j + suc p = omega arith in
    (suc p, omega arith, rw s at e))
    (or_cases (eqb (field_name_at w c j) f) _ t)

-- the locations of a new object: of each field both halves
whole-made :
    (o f : ℕ) (cs : List Cell) → halves (whole_of o cs) (at o f) ≡ cond (any (λ c. eqb c.name f) cs) 2 0
unfolding any
whole-made o f [] = whole-nil o (at o f)
whole-made o f (c ∷ cs) = go (whole-made o f cs) (eqb c.name f) refl
  where
    named : (b : Bool) → 1 ≤ cond b 2 0 → ◌≡◌ {A = ℕ} (cond b 2 0) 2
    named true l = refl
    named false l = absurd (omega arith)

    go :
        halves (whole_of o cs) (at o f) ≡ cond (any (λ c. eqb c.name f) cs) 2 0 → (b : Bool) → eqb c.name f ≡ b →
        halves (whole_of o (c ∷ cs)) (at o f) ≡ cond (b || any (λ c. eqb c.name f) cs) 2 0
    go g true e =
        let q : at o f ≡ at o c.name = ap (at o) (sym (eqb-true c.name f e)) in
        let r : halves (whole_of o cs) (at o f) ≡ halves (whole_of o cs) (at o c.name) = ap (halves (whole_of o cs)) q in
        ⊎_elim
        (λ (z, h). ⊎_elim (λ (_, i). omega (arith, z, h, r, i)) (λ (d, _). absurd (d q)) (at-cases (at o c.name) (at o f)))
        (λ (z, h). h ∙ (g ∙ named (any (λ c. eqb c.name f) cs) (omega (arith, g, z, r))))
        (whole-cons o c cs (at o f))
    go g false e =
        let d : at o f ≡ at o c.name → ⊥ = λ q. eqb-false c.name f e (ap (λ (p : Location). p.field) (sym q)) in
        ⊎_elim
        (λ (z, h).
        ⊎_elim (λ (q, _). absurd (d q)) (λ (_, i). omega (arith, h, i, g)) (at-cases (at o c.name) (at o f)))
        (λ (z, h). h ∙ g)
        (whole-cons o c cs (at o f))

other-made : (o : ℕ) (p : Location) (cs : List Cell) → (p.object ≡ o → ⊥) → halves (whole_of o cs) p ≡ 0
other-made o p cs d =
    ⊎_elim (λ z. z) (λ z. absurd (d (whole-new o cs p (omega arith)))) (decide_eq (halves (whole_of o cs) p) 0)

fields-more : (h : Heap) (o : List Cell) → fields_in (h ++ (o ∷ [])) ≡ fields_in h + length o
unfolding fields_in
fields-more [] o = omega arith
fields-more (x ∷ h) o = rw (fields-more h o) (let e : length x + (fields_in h + length o) ≡ length x + fields_in h + length o = omega arith in e)

below_or : (i n : ℕ) → (i < n) ⊎ (n ≤ i)
below_or i zero = inr (omega arith)
below_or zero (suc n) = inl (omega arith)
below_or (suc i) (suc n) = ⊎_elim (λ l. inl (omega arith)) (λ l. inr (omega arith)) (below_or i n)

later : {n : ℕ} (i : ℕ) → (i ≡ n → ⊥) → n ≤ i → n + 1 ≤ i
later i d l = omega arith

module _ {w : List ℕ} {c : Machine} {m : Config} (R : Represents w c m) (class : ℕ) (lc : class < class_count w)
    (lo : c.objects < heap_objects) (lf : c.fields + field_count_at w class ≤ heap_fields) (lh : c.holder < 4294967296) where
  abbrev n : ℕ
  n = c.objects

  abbrev count : ℕ
  count = field_count_at w class

  abbrev w' : List ℕ
  w' = made w c.objects c.fields (field_count_at w class) class c.holder

  abbrev cells : List Cell
  cells = map new_cell (class_at w class)

  abbrev gained : List Location
  gained = whole_of (suc (length m.heap)) (map new_cell (class_at w class))

  s : Only values_at frames_at w w'
  s = made-only w n c.fields count class c.holder R.tables.size lo lf lh

  t : SameTables w w'
  t = only-tables s (omega arith)

  S : SameObjects n w w'
  S = made-objects w n c.fields count class c.holder R.tables.size lo lf lh

  class_fits : ClassFits w class
  class_fits = R.tables.class_fits class lc

  small-class : class < most_classes
  small-class = omega (arith, lc, R.tables.classes)

  last-class : class_in w' n ≡ class
  last-class = made-class w n c.fields count class c.holder R.tables.size lo lf lh

  last-first : first_in w' n ≡ c.fields
  last-first = made-first w n c.fields count class c.holder R.tables.size lo lf lh

  -- CELLS
  old-cell : (i f : ℕ) → i < n → cell_of w' (n + 1) (suc i) f ≡ cell_of w n (suc i) f
  old-cell i f l = same_test ∙ cell-kept w w' t R.tables n c.fields (suc i) f R.heap.fit S
    where
      same_test : cell_of w' (n + 1) (suc i) f ≡ cell_of w' n (suc i) f
      same_test = bound-free w' (n + 1) n i f (omega arith) l

  place_in : (f : ℕ) → f < most_names → place_at w' class f ≡ place_at w class f
  place_in f l = place_same w w' t class small-class f l

  -- a cell of the new object
  new-cell : (f k : ℕ) → cell_of w' (n + 1) (suc n) f ≡ some k → (j : ℕ) × (j < count) × (field_name_at w class j ≡ f) × (k ≡ c.fields + j)
  new-cell f k e = go (cell-placed w' (n + 1) (suc n) f k e)
    where
      go : Placed w' (n + 1) (suc n) f k → (j : ℕ) × (j < count) × (field_name_at w class j ≡ f) × (k ≡ c.fields + j)
      go P =
          let q : P.index ≡ n = omega (arith, P.is-object) in
          let cl : class_in w' P.index ≡ class = ap (class_in w') q ∙ last-class in
          let pl : place_at w' (class_in w' P.index) f ≡ place_at w class f = ap (λ (i : ℕ). place_at w' i f) cl ∙ place_in f P.named in
          let pr : place_at w class f ≡ 255 → ⊥ = λ z. P.present (pl ∙ z) in
          let F = place_found {f = f} class_fits P.named pr in
          (place_at w class f, F.0, F.1, P.is_cell ∙ rw (pl, q, last-first))

  -- WHO HOLDS
  old-cells-held : (number j : ℕ) → j < c.fields → halves_at w' number j ≡ halves_at w number j
  old-cells-held number j l = old-halves w n c.fields count class c.holder R.tables.size lo lf lh number j l

  -- a field of the class has a cell
  no_cell : (f : ℕ) → cell_of w' (n + 1) (suc n) f ≡ none → T (any (λ c. eqb c.name f) cells) → ⊥
  unfolding class_at
  no_cell f e h =
      let (j, l, q) = has-name w class 0 count f h in
      let z : 0 + j ≡ j = omega arith in
      let q' : field_name_at w class j ≡ f = rw z at q in
      let lf' : f < most_names = subst (λ (i : ℕ). i < most_names) q' (class_fits.names j l) in
      let pl : place_at w class f ≡ j = subst (λ (i : ℕ). place_at w class i ≡ j) q' (class_fits.places j l) in
      let here : place_at w' (class_in w' n) f ≡ j = ap (λ (i : ℕ). place_at w' i f) last-class ∙ (place_in f lf' ∙ pl) in
      none-some (sym e ∙ cell-some w' (n + 1) n f (omega arith) lf' (λ z. omega (arith, z, here, l, class_fits.count)))

  beyond : (number : ℕ) (p : Location) → p.object ≡ suc n → halves_of w n number p ≡ 0
  unfolding halves_of halves_in
  beyond number p e = rw (e, cell-beyond w n n p.field (omega arith))

  -- an older object's locations are held as before
  old-held : (number : ℕ) (p : Location) → (p.object ≡ suc n → ⊥) → halves_of w' (n + 1) number p ≡ halves_of w n number p
  unfolding halves_of halves_in
  old-held number p d = go p.object refl
    where
      held_same : (o : Option ℕ) → ((k : ℕ) → o ≡ some k → k < c.fields) → halves_in w' number o ≡ halves_in w number o
      held_same none h = refl
      held_same (some k) h = old-cells-held number k (h k refl)

      go :
          (o : ℕ) → p.object ≡ o →
          halves_in w' number (cell_of w' (n + 1) o p.field) ≡ halves_in w number (cell_of w n o p.field)
      go zero e = rw (cell-null w' (n + 1) p.field, cell-null w n p.field)
      go (suc i) e =
          ⊎_elim
          (λ (l : i < n).
          rw (old-cell i p.field l) (held_same (cell_of w n (suc i) p.field) (λ k q. cell-small (suc i) p.field R.tables R.heap.fit q)))
          (λ (l : n ≤ i).
          let l' : n + 1 ≤ i = later i (λ z. d (e ∙ ap suc z)) l in
          rw (cell-beyond w' (n + 1) i p.field l', cell-beyond w n i p.field l))
          (below_or i n)

  -- has the new object a field of this name?
  abbrev named : Location → Bool
  named p = any (λ c. eqb c.name p.field) cells

  -- both halves of the new object's are with the running frame's number
  new-held :
      (number : ℕ) (p : Location) → p.object ≡ suc n →
      halves_of w' (n + 1) number p ≡ cond (named p) (one (eqb c.holder number) + one (eqb c.holder number)) 0
  unfolding halves_of halves_in class_at
  new-held number p e = rw e (go (cell_of w' (n + 1) (suc n) p.field) refl)
    where
      both : ℕ
      both = one (eqb c.holder number) + one (eqb c.holder number)

      go : (o : Option ℕ) → cell_of w' (n + 1) (suc n) p.field ≡ o → halves_in w' number o ≡ cond (named p) both 0
      go none q = rw (F-false (named p) (λ h. no_cell p.field q h))
      go (some k) q =
          let (j, l, f, g) = new-cell p.field k q in
          let h : Has (map new_cell (fields_from w class 0 count)) (field_name_at w class (0 + j)) = class-has w class 0 count j l in
          let z : 0 + j ≡ j = omega arith in
          let h' : T (named p) = subst (λ i. Has (map new_cell (fields_from w class 0 count)) i) (ap (field_name_at w class) z ∙ f) h in
          ap (halves_at w' number) g
          ∙ (new-halves w n c.fields count class c.holder R.tables.size lo lf lh number j l
          ∙ sym (ap (λ (b : Bool). cond b both 0) (T_true (named p) h')))

  -- the set of the running frame
  heap-next : suc (length m.heap) ≡ suc n
  heap-next = ap suc R.heap.count

  more-held : (p : Location) → halves (m.frame.held ++ gained) p ≡ halves_of w' (n + 1) c.holder p
  more-held p = ⊎_elim at_new at_old (decide_eq p.object (suc n))
    where
      at_new : p.object ≡ suc n → halves (m.frame.held ++ gained) p ≡ halves_of w' (n + 1) c.holder p
      at_new e =
          let q : halves gained p ≡ cond (named p) 2 0 =
          ap (λ (i : ℕ). halves gained (at i p.field)) (e ∙ sym heap-next) ∙ whole-made (suc (length m.heap)) p.field cells in
          let h : halves_of w' (n + 1) c.holder p ≡ cond (named p) 2 0 =
          new-held c.holder p e ∙ ap (λ (i : ℕ). cond (named p) (i + i) 0) (one_same {a = c.holder} refl) in
          omega (arith, halves-append m.frame.held gained p, R.frame.held p, beyond c.holder p e, q, h)

      at_old : (p.object ≡ suc n → ⊥) → halves (m.frame.held ++ gained) p ≡ halves_of w' (n + 1) c.holder p
      at_old d =
          omega (
            arith,
            halves-append m.frame.held gained p,
            other-made (suc (length m.heap)) p cells (λ e. d (e ∙ heap-next)),
            R.frame.held p,
            old-held c.holder p d,
          )

  others-held :
      (number : ℕ) → 1 ≤ number → number < c.holder → (p : Location) → halves_of w' (n + 1) number p ≡ halves_of w n number p
  others-held number o b p = ⊎_elim at_new (old-held number p) (decide_eq p.object (suc n))
    where
      none-with : (a : Bool) → ◌≡◌ {A = ℕ} (cond a 0 0) 0
      none-with true = refl
      none-with false = refl

      at_new : p.object ≡ suc n → halves_of w' (n + 1) number p ≡ halves_of w n number p
      at_new e =
          new-held number p e
          ∙ (ap (λ (i : ℕ). cond (named p) (i + i) 0) (one-other {a = c.holder} {h = number} (λ z. omega (arith, z, b)))
          ∙ (none-with (named p) ∙ sym (beyond number p e)))

  -- THE HEAP
  index-cases : (i : ℕ) → i < n + 1 → (i < n) ⊎ (i ≡ n)
  index-cases i l = ⊎_elim (λ h. inl h) (λ h. inr (omega arith)) (below_or i n)

  old-fits : (i : ℕ) → i < n → ObjectFits w' (c.fields + count) i
  old-fits i l =
      let O = fits_kept w w' t R.tables c.fields i (S.class i l) (S.first i l) (R.heap.fit i l) in
      record { class = O.class; cells = omega (arith, O.cells) }

  count_kept : field_count_at w' class ≡ count
  count_kept = field-count-same w w' t class small-class

  grown-fits : (i : ℕ) → i < n + 1 → ObjectFits w' (c.fields + count) i
  grown-fits i l =
      ⊎_elim (old-fits i)
      (λ (e : i ≡ n).
      rw e
      (record {
        class = rw last-class (omega (arith, lc, classes-count-same w w' t));
        cells = rw (last-first, last-class, count_kept) (omega arith);
      }))
      (index-cases i l)

  old-count : (i : ℕ) → i < n → first_in w' i + field_count_at w' (class_in w' i) ≤ c.fields
  old-count i l = (fits_kept w w' t R.tables c.fields i (S.class i l) (S.first i l) (R.heap.fit i l)).cells

  grown-apart : (i j : ℕ) → i < j → j < n + 1 → first_in w' i + field_count_at w' (class_in w' i) ≤ first_in w' j
  grown-apart i j l h =
      ⊎_elim
      (λ (k : j < n).
      let il : i < n = omega arith in
      let cf : field_count_at w' (class_in w i) ≡ field_count_at w (class_in w i) =
      field-count-same w w' t (class_in w i) (omega (arith, (R.heap.fit i il).class, R.tables.classes)) in
      rw (S.class i il, S.first i il, S.first j k, cf) (R.heap.apart i j l k))
      (λ (e : j ≡ n). rw (e, last-first) (old-count i (omega arith)))
      (index-cases j h)

  by-object :
      (B : ℕ → ℕ → ℕ → Type 0) → ((i f k : ℕ) → i < n → cell_of w n (suc i) f ≡ some k → B (suc i) f k) →
      ((f k : ℕ) → cell_of w' (n + 1) (suc n) f ≡ some k → B (suc n) f k) → (o f k : ℕ) → cell_of w' (n + 1) o f ≡ some k → B o f k
  by-object B old new o f k e =
      let P = cell-placed w' (n + 1) o f k e in
      subst (λ (i : ℕ). B i f k) (sym P.is-object)
      (⊎_elim
      (λ (l : P.index < n).
      old P.index f k l (sym (old-cell P.index f l) ∙ (ap (λ (i : ℕ). cell_of w' (n + 1) i f) (sym P.is-object) ∙ e)))
      (λ (q : P.index ≡ n).
      subst (λ (i : ℕ). B (suc i) f k) (sym q)
      (new f k (ap (λ (i : ℕ). cell_of w' (n + 1) i f) (sym (P.is-object ∙ ap suc q)) ∙ e)))
      (index-cases P.index P.exists))

  grown-value : (o f k : ℕ) → cell_of w' (n + 1) o f ≡ some k → value_at (m.heap ++ (cells ∷ [])) o f ≡ cell_value w' k
  grown-value =
      by-object (λ o f k. value_at (m.heap ++ (cells ∷ [])) o f ≡ cell_value w' k)
      (λ i f k l e.
      grown-other m.heap cells (suc i) f (omega (arith, l, R.heap.count))
      ∙ (R.heap.value (suc i) f k e
      ∙ sym (old-value w n c.fields count class c.holder R.tables.size lo lf lh k (cell-small (suc i) f R.tables R.heap.fit e))))
      (λ f k e.
      let (j, l, q, g) = new-cell f k e in
      ap (λ (i : ℕ). value_at (m.heap ++ (cells ∷ [])) i f) (sym heap-next)
      ∙ (grown-new m.heap (class_at w class) f
      ∙ sym (ap (cell_value w') g ∙ new-value w n c.fields count class c.holder R.tables.size lo lf lh j l)))

  grown-has : (o f k : ℕ) → cell_of w' (n + 1) o f ≡ some k → Has (object (m.heap ++ (cells ∷ [])) o) f
  unfolding object class_at
  grown-has =
      by-object (λ o f k. Has (object (m.heap ++ (cells ∷ [])) o) f)
      (λ i f k l e. rw (get_or-append m.heap (cells ∷ []) [] i (omega (arith, l, R.heap.count))) (R.heap.has (suc i) f k e))
      (λ f k e.
      let seam : get_or (m.heap ++ (cells ∷ [])) n [] ≡ cells =
      ap (λ (i : ℕ). get_or (m.heap ++ (cells ∷ [])) i []) (sym R.heap.count) ∙ get_or-append_seam m.heap cells [] [] in
      rw seam (has-cell f k e))
    where
      has-cell : (f k : ℕ) → cell_of w' (n + 1) (suc n) f ≡ some k → Has cells f
      has-cell f k e =
          let (j, l, q, g) = new-cell f k e in
          let z : 0 + j ≡ j = omega arith in
          subst (λ (i : ℕ). Has (map new_cell (fields_from w class 0 count)) i) (ap (field_name_at w class) z ∙ q) (class-has w class 0 count j l)

  grown-marks : (k number : ℕ) → k < c.fields + count → c.holders < number → halves_at w' number k ≡ 0
  grown-marks k number l o =
      ⊎_elim
      (λ (h : k < c.fields). old-cells-held number k h ∙ R.heap.marks k number h o)
      (λ (h : c.fields ≤ k).
      let j : k ≡ c.fields + (k - c.fields) = omega arith in
      let z : one (eqb c.holder number) ≡ 0 = one-other {a = c.holder} {h = number} (λ e. omega (arith, e, o, R.last)) in
      subst (λ (i : ℕ). halves_at w' number i ≡ 0) (sym j)
      (omega (
        arith,
        new-halves w n c.fields count class c.holder R.tables.size lo lf lh number (k - c.fields) (omega arith),
        z,
      )))
      (below_or k c.fields)

  size-of-cells : length cells ≡ count
  size-of-cells = length-map (class_at w class) new_cell ∙ class-length w class

  pub grown-heap : HeapIs w' (n + 1) (c.fields + count) c.holders (m.heap ++ (cells ∷ []))
  grown-heap =
      record {
        count = length-append m.heap (cells ∷ []) ∙ ap (λ (i : ℕ). i + 1) R.heap.count;
        fields_count = fields-more m.heap cells ∙ rw (R.heap.fields_count, size-of-cells);
        most_objects = omega arith;
        most_fields = lf;
        fit = grown-fits;
        apart = grown-apart;
        value = grown-value;
        has = grown-has;
        marks = grown-marks;
      }

  pub grown-state :
      Represents w' (larger c count c.steps)
      (record { heap = m.heap ++ (cells ∷ []); frame = holding (m.frame.held ++ gained) m.frame; callers = m.callers })
  unfolding holding
  grown-state =
      record {
        tables = tables-same w w' t R.tables;
        heap = grown-heap;
        frames = R.frames;
        most = R.most;
        frame =
            frame-holding (m.frame.held ++ gained) (same-frame values_at frames_at w w' (length m.callers) s (inr (omega arith))).variables
            (rows-count-same w w' t) more-held R.frame;
        ensures =
            ensures-kept w w' t R.tables _ m.frame (same-frame values_at frames_at w w' (length m.callers) s (inr (omega arith))).method
            R.ensures;
        callers =
            callers-kept w w' t R.tables n (n + 1) c.holder m.callers
            (λ j l. same-frame values_at frames_at w w' j s (inr (omega arith))) others-held R.callers;
        last = R.last;
        given = R.given;
      }

  pub grown-tables : SameTables w w'
  grown-tables = t

  pub new-on :
      (x mo mf : ℕ) → x < frame_variables → NotEnd w c → c.objects < mo → c.fields + count ≤ mf →
      Follows (put_word w' (frame_at (length m.callers) + x * 4) (c.objects + 1)) c
      (Ok (Some (at_row (larger c count c.steps) (c.row + 1) (c.steps + 1)))) m
      (took (new_step (record { objects = mo; fields = mf }) x (class_at w class) m))
  unfolding new_step grown with_frame advance bind holding check ◌>>◌
  new-on x mo mf lx k l h =
      let R1 = grown-state in
      let R2 = put-variable R1 x (c.objects + 1) lx (omega (arith, lo)) in
      let w'' : List ℕ = put_word w' (frame_at (length m.callers) + x * 4) (c.objects + 1) in
      let t2 : SameTables w w'' =
      same-trans t
      (only-tables (only-word frames_at (frames_at + 8192) w' (frame_at (length m.callers) + x * 4) (c.objects + 1) (omega arith) (omega (arith, R.most, R.frames))) (omega arith)) in
      let k2 : kind_at w'' c.row ≡ kind_at w c.row = kind-same w w'' t2 c.row (omega (arith, R.frame.row_fits, R.tables.rows)) in
      let a : ltb (length m.heap) mo ≡ true = lt-ltb (length m.heap) mo (omega (arith, R.heap.count)) in
      let b : leb (fields_in m.heap + length (class_at w class)) mf ≡ true =
      le-leb (fields_in m.heap + length (class_at w class)) mf (omega (arith, R.heap.fields_count, class-length w class)) in
      let o : suc (length m.heap) ≡ c.objects + 1 = omega (arith, R.heap.count) in
      follow-on R _ _ _ (rw (a, b) (ap (λ (i : ℕ). ok (record { heap = m.heap ++ (cells ∷ []); frame = advance (bind x i (holding (m.frame.held ++ gained) m.frame)); callers = m.callers })) o)) refl
      (moved_to R2 (c.row + 1) (c.steps + 1) _ (next_fits R2 (λ z. k (sym k2 ∙ z))) (next-is R2) (omega arith))

-- the heap is full
pub new-stop :
    {w : List ℕ} {c : Machine} {m : Config} (R : Represents w c m) (class x mo mf : ℕ) →
    (mo ≤ c.objects) ⊎ (mf < c.fields + field_count_at w class) →
    Follows w c (Err Fault.HeapFull) m (took (new_step (record { objects = mo; fields = mf }) x (class_at w class) m))
unfolding new_step check ◌>>◌ stop_of
new-stop {w} {c} {m} R class x mo mf (inl l) =
    let a : ltb (length m.heap) mo ≡ false = le-ltb (length m.heap) mo (omega (arith, R.heap.count)) in
    follow-stop R Fault.HeapFull (new_step (record { objects = mo; fields = mf }) x (class_at w class) m) (rw a)
new-stop {w} {c} {m} R class x mo mf (inr l) =
    let b : leb (fields_in m.heap + length (class_at w class)) mf ≡ false =
    lt-leb (fields_in m.heap + length (class_at w class)) mf (omega (arith, R.heap.fields_count, class-length w class)) in
    follow-stop R Fault.HeapFull (new_step (record { objects = mo; fields = mf }) x (class_at w class) m) (rw b (go (ltb (length m.heap) mo)))
  where
    go : (a : Bool) → ◌≡◌ {A = Try Stop Config} (check (a && false) heap_full >> ok (grown m x (map new_cell (class_at w class)))) (no heap_full)
    go true = refl
    go false = refl

-- THE CODE
module _ {w : List ℕ} {c : Machine} (ready : CanStep w c) (k : AtKind w c New) (mo mf : ℕ) (lmo : mo ≤ heap_objects) (lmf : mf ≤ heap_fields)
    (class n : ℕ) (ec : class ≡ member_at w c.row) (en : n ≡ field_count_at w class) where
  pub new-class : class < class_count w
  unfolding statement_number
  new-class = omega (arith, ec, (fits ready).class k)

  pub new-small : (class < most_classes) × (n ≤ 8)
  new-small = (omega (arith, new-class, ready.represents.tables.classes), omega (arith, en, (ready.represents.tables.class_fits class new-class).count))

  pub new-stops :
      (mo ≤ c.objects) ⊎ (mf < c.fields + n) →
      Does w c w (Err Fault.HeapFull)
      (new_here w c (record { objects = mo; fields = mf }))
  new-stops o =
      does-stop Fault.HeapFull
      (λ m R.
      subst (λ i. Follows w c (Err Fault.HeapFull) m (took (new_step (record { objects = mo; fields = mf }) (x_at w c.row) (class_at w i) m))) ec
      (new-stop R class (x_at w c.row) mo mf (⊎_elim inl (λ l. inr (omega (arith, l, en))) o)))

  pub new-does :
      (v : View) (x : ℕ) {w' : List ℕ} {d : Machine} → c.objects < mo → c.fields + n ≤ mf → v ≡ view_of c → x ≡ x_at w c.row →
      w' ≡ put_word (made w c.objects c.fields n class c.holder) (v.base + x * 4) (c.objects + 1) →
      d ≡ at_row (larger c n c.steps) (c.row + 1) (c.steps + 1) →
      Does w c w' (Ok (Some d)) (new_here w c (record { objects = mo; fields = mf }))
  unfolding statement_number
  new-does v x {w'} {d} l h ev ex p q =
      let p' : w' ≡ put_word (made w c.objects c.fields (field_count_at w class) class c.holder) (frame_at (c.frames - 1) + x_at w c.row * 4) (c.objects + 1) =
      p ∙ rw (ev, ex, en) in
      let q' : d ≡ at_row (larger c (field_count_at w class) c.steps) (c.row + 1) (c.steps + 1) =
      q ∙ ap (λ (i : ℕ). at_row (larger c i c.steps) (c.row + 1) (c.steps + 1)) en in
      does-on p' q'
      (same-trans (grown-tables ready.represents class new-class (omega arith) (omega arith) lh)
      (only-tables (only-word frames_at (frames_at + 8192) _ (frame_at (c.frames - 1) + x_at w c.row * 4) (c.objects + 1) (omega arith) (omega (arith, (fits ready).x, (frames-fit ready).1))) (omega arith)))
      (λ m R.
      let b : frame_at (c.frames - 1) ≡ frame_at (length m.callers) = omega (arith, R.frames) in
      rw b
      (subst (λ i. Follows (put_word (made w c.objects c.fields (field_count_at w class) class c.holder) (frame_at (length m.callers) + x_at w c.row * 4) (c.objects + 1)) c
      (Ok (Some (at_row (larger c (field_count_at w class) c.steps) (c.row + 1) (c.steps + 1)))) m (took (new_step (record { objects = mo; fields = mf }) (x_at w c.row) (class_at w i) m))) ec
      (new-on R class new-class (omega arith) (omega (arith, en)) lh (x_at w c.row) mo mf (fits ready).x (λ z. omega (arith, z, k)) l (omega (arith, en)))))
    where
      lh : c.holder < 4294967296
      lh = omega (arith, ready.represents.last, ready.represents.given, ready.represents.most, ready.more)
