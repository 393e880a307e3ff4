-- What the stores stand for stays where the stores are changed elsewhere.
use mathlib.Core.Path.{◌≡◌, refl, sym, ◌∙◌}
use mathlib.Core.List.{List, [], ◌∷◌}
use mathlib.Core.Logic.{◌⊎◌, inl, inr, ⊎_elim}
use mathlib.Core.Option.{Option, none, some}
use Prim.Native.Nat.{ℕ, ◌+◌, ◌≤◌, ◌<◌}
use native.Mathlib.Omega.{arith}
use lib.Dec.{T, eqb}
use lib.ListN.{length}
use Rattle.rules.specs.Limits.{most_statements}
use Rattle.rules.specs.Base.{any}
use Rattle.rules.specs.Machine.{Heap, Frame, Location, fields_in, object, value_at}
use Rattle.tables.specs.Layout.{frame_variables}
use Rattle.tables.specs.Decode.{field_count_at}
use Rattle.tables.specs.Tables.{Tables}
use Rattle.tables.specs.Stores.{SameTables}
use Rattle.tables.proofs.Decoding.{rows-count-same, kind-same, methods-count-same, field-count-same, ensures-same}
use Rattle.run_heap.specs.Views.{frame_at, variable_at, saved_holder, saved_row, method_of, cell_value, halves_at, class_in, cell_of, halves_in, halves_of, ObjectFits}
use Rattle.run_steps.specs.States.{HeapIs, FrameIs, EnsuresIs, CallerIs, CallersAre}
use Rattle.run_heap.proofs.Reading.{cell-small}
use Rattle.run_footprint.proofs.Regions.{Only, variable-kept, saved-holder-kept, saved-row-kept, method-kept}
use Rattle.run_footprint.proofs.Cells.{SameObjects, small-class, fits_kept, cell-kept}

-- frame n is the same
pub record SameFrame (n : ℕ) (w w' : List ℕ) : Type 0 where
  pub variables : (x : ℕ) → x < frame_variables → variable_at w' (frame_at n) x ≡ variable_at w (frame_at n) x
  pub holder : saved_holder w' n ≡ saved_holder w n
  pub row : saved_row w' n ≡ saved_row w n
  pub method : method_of w' n ≡ method_of w n

module _ (w w' : List ℕ) (same : SameTables w w') (tables : Tables w) where
  halves-in-kept :
      (number : ℕ) (c : Option ℕ) → ((k : ℕ) → c ≡ some k → halves_at w' number k ≡ halves_at w number k) →
      halves_in w' number c ≡ halves_in w number c
  unfolding halves_in
  halves-in-kept number none h = refl
  halves-in-kept number (some k) h = h k refl

  pub halves-of-kept :
      (n most number : ℕ) (p : Location) → ((i : ℕ) → i < n → ObjectFits w most i) → SameObjects n w w' →
      ((k : ℕ) → k < most → halves_at w' number k ≡ halves_at w number k) → halves_of w' n number p ≡ halves_of w n number p
  unfolding halves_of
  halves-of-kept n most number p fit S h =
      rw (cell-kept w w' same tables n most p.object p.field fit S)
      (halves-in-kept number _ (λ k e. h k (cell-small p.object p.field tables fit e)))

  -- FRAMES
  pub frame-kept :
      (n n' b number row : ℕ) (F : Frame) → ((x : ℕ) → x < frame_variables → variable_at w' b x ≡ variable_at w b x) →
      ((p : Location) → halves_of w' n' number p ≡ halves_of w n number p) →
      FrameIs w n b number row F → FrameIs w' n' b number row F
  frame-kept n n' b number row F v h I =
      record {
        size = I.size;
        values = λ x l. I.values x l ∙ sym (v x l);
        row_is = I.row_is;
        row_fits = omega (arith, I.row_fits, rows-count-same w w' same);
        held = λ p. I.held p ∙ sym (h p);
        numbered = I.numbered;
      }

  pub ensures-kept : (n : ℕ) (F : Frame) → method_of w' n ≡ method_of w n → EnsuresIs w n F → EnsuresIs w' n F
  ensures-kept n F e (inl z) = inl z
  ensures-kept n F e (inr (l, q)) =
      inr (rw (e, methods-count-same w w' same) l, rw e (q ∙ sym (ensures-same w w' same tables (method_of w n) l)))

  caller-kept :
      (n n' i bound : ℕ) (F : Frame) → SameFrame i w w' →
      ((number : ℕ) → 1 ≤ number → number < bound → (p : Location) → halves_of w' n' number p ≡ halves_of w n number p) →
      CallerIs w n i bound F → CallerIs w' n' i bound F
  caller-kept n n' i bound F S h C =
      let r : saved_row w i < most_statements = omega (arith, C.frame.row_fits, tables.rows) in
      record {
        frame =
            rw (S.holder, S.row)
            (frame-kept n n' (frame_at i) (saved_holder w i) (saved_row w i) F S.variables
            (h (saved_holder w i) C.frame.numbered C.below) C.frame);
        below = rw S.holder C.below;
        at_call = rw S.row (kind-same w w' same (saved_row w i) r ∙ C.at_call);
        ensures = ensures-kept i F S.method C.ensures;
      }

  pub callers-kept :
      (n n' bound : ℕ) (Fs : List Frame) → ((i : ℕ) → i < length Fs → SameFrame i w w') →
      ((number : ℕ) → 1 ≤ number → number < bound → (p : Location) → halves_of w' n' number p ≡ halves_of w n number p) →
      CallersAre w n bound Fs → CallersAre w' n' bound Fs
  unfolding CallersAre
  callers-kept n n' bound [] S h C = tt
  callers-kept n n' bound (F ∷ Fs) S h C = (
    caller-kept n n' (length Fs) bound F (S (length Fs) (omega arith)) h C.0,
    rw (S (length Fs) (omega arith)).holder
        (callers-kept n n' (saved_holder w (length Fs)) Fs (λ i l. S i (omega arith))
        (λ number o l. h number o (omega (arith, C.0.below))) C.1),
  )

  -- THE HEAP
  pub heap-changed :
      (objects fields holders holders' : ℕ) (h h' : Heap) → SameObjects objects w w' → length h' ≡ length h → fields_in h' ≡ fields_in h →
      ((o f k : ℕ) → cell_of w objects o f ≡ some k → value_at h' o f ≡ cell_value w' k) →
      ((o f : ℕ) → T (any (λ c. eqb c.name f) (object h o)) → T (any (λ c. eqb c.name f) (object h' o))) →
      ((k n : ℕ) → k < fields → holders' < n → halves_at w' n k ≡ 0) → HeapIs w objects fields holders h → HeapIs w' objects fields holders' h'
  heap-changed objects fields holders holders' h h' S n g v s m H =
      record {
        count = n ∙ H.count;
        fields_count = g ∙ H.fields_count;
        most_objects = H.most_objects;
        most_fields = H.most_fields;
        fit = λ i l. fits_kept w w' same tables fields i (S.class i l) (S.first i l) (H.fit i l);
        apart = λ i j l k.
            let s : field_count_at w' (class_in w i) ≡ field_count_at w (class_in w i) =
            field-count-same w w' same (class_in w i) (small-class w w' same tables i fields (H.fit i (omega arith))) in
            rw (S.class i (omega arith), S.first i (omega arith), S.first j k, s) (H.apart i j l k);
        value = λ o f k e. v o f k (sym (cell-kept w w' same tables objects fields o f H.fit S) ∙ e);
        has = λ o f k e. s o f (H.has o f k (sym (cell-kept w w' same tables objects fields o f H.fit S) ∙ e));
        marks = m;
      }

  pub heap-kept :
      (objects fields holders holders' : ℕ) (h : Heap) → SameObjects objects w w' →
      ((k : ℕ) → k < fields → cell_value w' k ≡ cell_value w k) → ((k n : ℕ) → k < fields → holders' < n → halves_at w' n k ≡ 0) →
      HeapIs w objects fields holders h → HeapIs w' objects fields holders' h
  heap-kept objects fields holders holders' h S v m H =
      heap-changed objects fields holders holders' h h S refl refl
      (λ o f k e. H.value o f k e ∙ sym (v k (cell-small o f tables H.fit e))) (λ o f t. t) m H

-- ONE REGION CHANGES
pub same-frame : (a b : ℕ) (w w' : List ℕ) (n : ℕ) → Only a b w w' → (frame_at n + 72 ≤ a) ⊎ (b ≤ frame_at n) → SameFrame n w w'
same-frame a b w w' n s o =
    record {
      variables = λ x l. variable-kept a b w w' s (frame_at n) x (⊎_elim (λ p. inl (omega arith)) (λ p. inr p) o) l;
      holder = saved-holder-kept a b w w' s n o;
      row = saved-row-kept a b w w' s n o;
      method = method-kept a b w w' s n o;
    }
