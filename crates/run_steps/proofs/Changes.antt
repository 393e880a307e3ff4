-- A variable of the running frame, a value of the heap, and holders: how the represented state changes with the store.
use mathlib.Core.Path.{◌≡◌, refl, sym, ap, ◌∙◌, subst}
use mathlib.Core.List.{List}
use mathlib.Core.Logic.{◌⊎◌, inl, inr, ⊎_elim}
use mathlib.Core.Option.{Option, none, some}
use Prim.Native.Nat.{ℕ, suc, ◌+◌, ◌*◌, ◌≤◌, ◌<◌}
use native.Mathlib.Omega.{arith}
use lib.ListN.{length}
use Rattle.rules.specs.Limits.{heap_fields, most_frames}
use Rattle.rules.specs.Machine.{Location, Config, halves, value_at, object, fields_in, store, bind, with_frame}
use Rattle.rules.specs.declared.Machine.{Machine}
use Rattle.rules.proofs.Lists.{decide_eq, some_inj}
use Rattle.rules.proofs.Heaps.{store_same, store_other}
use Rattle.tables.specs.Layout.{frame_variables, values_at, holders_at, objects_at}
use Rattle.tables.specs.Stores.{SameTables, put_word}
use Rattle.tables.proofs.BytesRead.{word-put, word_kept}
use Rattle.tables.proofs.Decoding.{tables-same, rows-count-same}
use Rattle.run_heap.specs.Views.{frame_at, variable_at, cell_value, halves_at, cell_of, halves_in, halves_of, method_of, frame_holder, frame_method}
use Rattle.run_footprint.specs.Footprints.{taken, marked}
use Rattle.run_steps.specs.States.{HeapIs, Represents}
use Rattle.run_heap.proofs.Reading.{Placed, cell-placed, cell-small}
use Rattle.run_steps.proofs.Sights.{cells-apart}
use Rattle.run_steps.proofs.Seeing.{Matches}
use Rattle.run_footprint.proofs.Regions.{Only, only-word, only_kept, only-tables, value-kept, halves-kept, apart}
use Rattle.run_footprint.proofs.Handing.{only-marked, marked-lost, marked-gained, marked_other, marked-most}
use Rattle.run_footprint.proofs.Cells.{SameObjects, same-objects, cell-kept}
use Rattle.run_steps.proofs.Keeping.{same-frame, halves-of-kept, frame-kept, ensures-kept, callers-kept, heap-kept, heap-changed}
use Rattle.run_steps.proofs.Moves.{frame-bind}
use Rattle.run_steps.proofs.Heaps.{Has, store-size, store-fields, store-has}

-- another word of the frame
pub other-variable :
    (w : List ℕ) (b x y v : ℕ) → (y ≡ x → ⊥) → variable_at (put_word w (b + x * 4) v) b y ≡ variable_at w b y
unfolding variable_at
other-variable w b x y v d =
    word_kept (b + y * 4) (b + y * 4 + 4) w (put_word w (b + x * 4) v)
    (only_kept (only-word (b + x * 4) (b + x * 4 + 4) w (b + x * 4) v (omega arith) (omega arith)) (b + y * 4) (b + y * 4 + 4)
    (⊎_elim (λ l. inl (omega arith)) (λ l. inr (omega arith)) (apart y x d)))
    (b + y * 4) (omega arith) (omega arith)

pub this_variable :
    (w : List ℕ) (b x v : ℕ) → b + x * 4 + 4 ≤ length w → v < 4294967296 → variable_at (put_word w (b + x * 4) v) b x ≡ v
unfolding variable_at
this_variable w b x v l h = word-put w (b + x * 4) v l h

module _ {w : List ℕ} {c : Machine} {m : Config} (R : Represents w c m) where
  frame-number : length m.callers < most_frames
  frame-number = omega (arith, R.frames, R.most)

  -- A VARIABLE
  module _ (x v : ℕ) (lx : x < frame_variables) (lv : v < 4294967296) where
    pub put-variable :
        Represents (put_word w (frame_at (length m.callers) + x * 4) v) c (with_frame m (bind x v m.frame))
    unfolding with_frame bind method_of
    put-variable =
        let i : ℕ = length m.callers in
        let b : ℕ = frame_at i in
        let w' : List ℕ = put_word w (b + x * 4) v in
        let il : i < most_frames = frame-number in
        let s : Only b (b + frame_holder) w w' = only-word b (b + frame_holder) w (b + x * 4) v (omega arith) (omega arith) in
        let t : SameTables w w' = only-tables s (omega arith) in
        let S : SameObjects c.objects w w' = same-objects b (b + frame_holder) w w' c.objects s (inl (omega arith)) R.heap.most_objects in
        let K : (n k : ℕ) → k < c.fields → halves_at w' n k ≡ halves_at w n k =
        λ n k l. halves-kept b (b + frame_holder) w w' s (inl (omega arith)) n k (omega (arith, R.heap.most_fields)) in
        let H : (n : ℕ) (p : Location) → halves_of w' c.objects n p ≡ halves_of w c.objects n p =
        λ n p. halves-of-kept w w' t R.tables c.objects c.fields n p R.heap.fit S (K n) in
        record {
          tables = tables-same w w' t R.tables;
          heap =
              heap-kept w w' t R.tables c.objects c.fields c.holders c.holders m.heap S
              (λ k l. value-kept b (b + frame_holder) w w' s (inl (omega arith)) k (omega (arith, R.heap.most_fields)))
              (λ k n l h. K n k l ∙ R.heap.marks k n l h) R.heap;
          frames = R.frames;
          most = R.most;
          frame =
              frame-bind x v lx (this_variable w b x v (omega (arith, R.tables.size)) lv)
              (λ y _ d. other-variable w b x y v d) (H c.holder) (rows-count-same w w' t) R.frame;
          ensures = ensures-kept w w' t R.tables i m.frame (s.bytes (b + frame_method) (inr (omega arith))) R.ensures;
          callers =
              callers-kept w w' t R.tables c.objects c.objects c.holder m.callers
              (λ j l. same-frame b (b + frame_holder) w w' j s (inl (omega arith)))
              (λ number _ _ p. H number p) R.callers;
          last = R.last;
          given = R.given;
        }

  -- A VALUE
  pub put-value :
      (o f k v : ℕ) → v < 4294967296 → cell_of w c.objects o f ≡ some k →
      Represents (put_word w (values_at + k * 4) v) c (record { heap = store m.heap o f v; frame = m.frame; callers = m.callers })
  unfolding cell_value
  put-value o f k v lv e =
      let w' : List ℕ = put_word w (values_at + k * 4) v in
      let kl : k < c.fields = cell-small o f R.tables R.heap.fit e in
      let km : k < heap_fields = omega (arith, R.heap.most_fields) in
      let s : Only values_at holders_at w w' = only-word values_at holders_at w (values_at + k * 4) v (omega arith) (omega arith) in
      let t : SameTables w w' = only-tables s (omega arith) in
      let S : SameObjects c.objects w w' = same-objects values_at holders_at w w' c.objects s (inr (omega arith)) R.heap.most_objects in
      let K : (n k : ℕ) → k < c.fields → halves_at w' n k ≡ halves_at w n k =
      λ n k l. halves-kept values_at holders_at w w' s (inr (omega arith)) n k (omega (arith, R.heap.most_fields)) in
      let H : (n : ℕ) (p : Location) → halves_of w' c.objects n p ≡ halves_of w c.objects n p =
      λ n p. halves-of-kept w w' t R.tables c.objects c.fields n p R.heap.fit S (K n) in
      record {
        tables = tables-same w w' t R.tables;
        heap = stored (cell-placed w c.objects o f k e) t S K;
        frames = R.frames;
        most = R.most;
        frame =
            frame-kept w w' t R.tables c.objects c.objects _ c.holder c.row m.frame
            (λ x l. (same-frame values_at holders_at w w' (length m.callers) s (inr (omega arith))).variables x l) (H c.holder) R.frame;
        ensures =
            ensures-kept w w' t R.tables _ m.frame
            (same-frame values_at holders_at w w' (length m.callers) s (inr (omega arith))).method R.ensures;
        callers =
            callers-kept w w' t R.tables c.objects c.objects c.holder m.callers
            (λ j l. same-frame values_at holders_at w w' j s (inr (omega arith))) (λ number _ _ p. H number p) R.callers;
        last = R.last;
        given = R.given;
      }
    where
      there : k < heap_fields → cell_value (put_word w (values_at + k * 4) v) k ≡ v
      there l = word-put w (values_at + k * 4) v (omega (arith, R.tables.size)) lv

      elsewhere : (j : ℕ) → (j ≡ k → ⊥) → cell_value (put_word w (values_at + k * 4) v) j ≡ cell_value w j
      elsewhere j d =
          word_kept (values_at + j * 4) (values_at + j * 4 + 4) w (put_word w (values_at + k * 4) v)
          (only_kept (only-word (values_at + k * 4) (values_at + k * 4 + 4) w (values_at + k * 4) v (omega arith) (omega arith))
          (values_at + j * 4) (values_at + j * 4 + 4)
          (⊎_elim (λ l. inl (omega arith)) (λ l. inr (omega arith)) (apart j k d)))
          (values_at + j * 4) (omega arith) (omega arith)

      read_back :
          k < heap_fields → (o ≡ 0 → ⊥) → (o' f' k' : ℕ) → cell_of w c.objects o' f' ≡ some k' →
          value_at (store m.heap o f v) o' f' ≡ cell_value (put_word w (values_at + k * 4) v) k'
      read_back l n o' f' k' e' =
          ⊎_elim
          (λ (q : k' ≡ k).
          let z : record { object = o; field = f } ≡ record { object = o'; field = f' } =
          cells-apart R.tables R.heap (record { object = o; field = f }) (record { object = o'; field = f' }) k e (e' ∙ ap some q) in
          ap (λ (p : Location). value_at (store m.heap o f v) p.object p.field) (sym z)
          ∙ (store_same m.heap o f v n ∙ sym (ap (cell_value (put_word w (values_at + k * 4) v)) q ∙ there l)))
          (λ (q : k' ≡ k → ⊥).
          store_other m.heap o f v o' f'
          (λ z. q (some_inj (sym e' ∙ (ap (λ (i : ℕ). cell_of w c.objects i f') (sym z.0) ∙ (ap (cell_of w c.objects o) z.1 ∙ e)))))
          ∙ (R.heap.value o' f' k' e' ∙ sym (elsewhere k' q)))
          (decide_eq k' k)

      stored :
          Placed w c.objects o f k → SameTables w (put_word w (values_at + k * 4) v) →
          SameObjects c.objects w (put_word w (values_at + k * 4) v) →
          ((n k' : ℕ) → k' < c.fields → halves_at (put_word w (values_at + k * 4) v) n k' ≡ halves_at w n k') →
          HeapIs (put_word w (values_at + k * 4) v) c.objects c.fields c.holders (store m.heap o f v)
      stored P t S K =
          let l : P.index < length m.heap = omega (arith, P.exists, R.heap.count) in
          let q : suc P.index ≡ o = sym P.is-object in
          let has : Has (object m.heap (suc P.index)) f =
          subst (λ i. Has (object m.heap i) f) P.is-object (R.heap.has o f k e) in
          heap-changed w (put_word w (values_at + k * 4) v) t R.tables c.objects c.fields c.holders c.holders
          m.heap (store m.heap o f v) S
          (subst (λ i. length (store m.heap i f v) ≡ length m.heap) q (store-size m.heap P.index f v l))
          (subst (λ i. fields_in (store m.heap i f v) ≡ fields_in m.heap) q (store-fields m.heap P.index f v l has))
          (read_back (omega (arith, cell-small o f R.tables R.heap.fit e, R.heap.most_fields)) (λ z. omega (arith, q, z)))
          (λ o' g h. subst (λ i. Has (object (store m.heap i f v) o') g) q (store-has m.heap P.index f v l o' g h))
          (λ j n l h. K n j l ∙ R.heap.marks j n l h) R.heap

  -- HOLDERS: what a formula took goes from the running frame's number to another
  module _ (A : List Location) (ss : List ℕ) (to : ℕ) (M : Matches w c.objects A ss) where
    pub marks-only : Only holders_at objects_at w (marked w ss c.holder to)
    marks-only = only-marked w ss c.holder to M.fit

    pub marks-tables : SameTables w (marked w ss c.holder to)
    marks-tables = only-tables marks-only (omega arith)

    marks-objects : SameObjects c.objects w (marked w ss c.holder to)
    marks-objects =
        same-objects holders_at objects_at w (marked w ss c.holder to) c.objects marks-only (inr (omega arith)) R.heap.most_objects

    -- a location has a cell, with its halves there before and after
    record At (p : Location) (k : ℕ) : Type 0 where
      small : k < heap_fields
      is-taken : halves A p ≡ taken k ss
      before : (n : ℕ) → halves_of w c.objects n p ≡ halves_at w n k
      after : (n : ℕ) → halves_of (marked w ss c.holder to) c.objects n p ≡ halves_at (marked w ss c.holder to) n k

    -- or none
    record Nowhere (p : Location) : Type 0 where
      before : (n : ℕ) → halves_of w c.objects n p ≡ 0
      after : (n : ℕ) → halves_of (marked w ss c.holder to) c.objects n p ≡ 0

    located : (p : Location) → Nowhere p ⊎ ((k : ℕ) × At p k)
    unfolding halves_of halves_in
    located p = go (cell_of w c.objects p.object p.field) refl
      where
        same : cell_of (marked w ss c.holder to) c.objects p.object p.field ≡ cell_of w c.objects p.object p.field
        same =
            cell-kept w (marked w ss c.holder to) marks-tables R.tables c.objects c.fields p.object p.field R.heap.fit
            marks-objects

        go : (o : Option ℕ) → cell_of w c.objects p.object p.field ≡ o → Nowhere p ⊎ ((k : ℕ) × At p k)
        go none e = inl (record { before = λ n. rw e; after = λ n. rw (same, e) })
        go (some k) e =
            inr (
              k,
              record {
                small = omega (arith, cell-small p.object p.field R.tables R.heap.fit e, R.heap.most_fields);
                is-taken = M.member p k e;
                before = λ n. rw e;
                after = λ n. rw (same, e);
              },
            )

    module _ (held : (p : Location) → halves A p ≤ halves m.frame.held p) (lt : to < 4294967296) where
      held-there : (p : Location) (k : ℕ) → At p k → taken k ss ≤ halves_at w c.holder k
      held-there p k L = omega (arith, held p, R.frame.held p, L.is-taken, L.before c.holder)

      -- the running frame's number has so many halves fewer
      pub lost :
          (to ≡ c.holder → ⊥) → (p : Location) →
          halves_of (marked w ss c.holder to) c.objects c.holder p + halves A p ≡ halves_of w c.objects c.holder p
      lost d p =
          ⊎_elim
          (λ N. omega (arith, N.before c.holder, N.after c.holder, held p, R.frame.held p))
          (λ (k, L).
          omega (
            arith,
            L.before c.holder,
            L.after c.holder,
            L.is-taken,
            marked-lost c.holder to k L.small lt w ss R.tables.size M.fit (held-there p k L) d,
          ))
          (located p)

      -- the other so many more
      pub gained :
          (to ≡ c.holder → ⊥) → (p : Location) →
          halves_of (marked w ss c.holder to) c.objects to p ≡ halves_of w c.objects to p + halves A p
      gained d p =
          ⊎_elim
          (λ N. omega (arith, N.before to, N.after to, N.before c.holder, held p, R.frame.held p))
          (λ (k, L).
          omega (
            arith,
            L.before to,
            L.after to,
            L.is-taken,
            marked-gained c.holder to k L.small lt w ss R.tables.size M.fit (held-there p k L) d,
          ))
          (located p)

      -- and those of other frames' numbers stay
      pub others-kept :
          (number : ℕ) → number < c.holder → (number ≡ to → ⊥) → (p : Location) →
          halves_of (marked w ss c.holder to) c.objects number p ≡ halves_of w c.objects number p
      others-kept number l d p =
          ⊎_elim
          (λ N. N.after number ∙ sym (N.before number))
          (λ (k, L).
          L.after number
          ∙ (marked_other c.holder to k L.small lt w ss R.tables.size M.fit (held-there p k L) number (λ e. omega arith) d
          ∙ sym (L.before number)))
          (located p)

    -- the heap with other holders
    pub heap-marked :
        (most : ℕ) → to < 4294967296 → to ≤ most → c.holders ≤ most →
        HeapIs (marked w ss c.holder to) c.objects c.fields most m.heap
    heap-marked most lt l h =
        heap-kept w (marked w ss c.holder to) marks-tables R.tables c.objects c.fields c.holders most m.heap marks-objects
        (λ k j.
        value-kept holders_at objects_at w (marked w ss c.holder to) marks-only (inl (omega arith)) k (omega (arith, R.heap.most_fields)))
        (λ k n j o.
        omega (
          arith,
          marked-most to n (λ e. omega arith) lt w ss c.holder k R.tables.size M.fit,
          R.heap.marks k n j (omega arith),
        ))
        R.heap
