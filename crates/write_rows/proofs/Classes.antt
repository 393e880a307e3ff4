-- One more class, and one more field of the last.
use mathlib.Core.Path.{◌≡◌, refl, sym, ap, ◌∙◌}
use mathlib.Core.Bool.{Bool, true, false, cond, not}
use mathlib.Core.List.{List, [], ◌∷◌, ◌++◌}
use mathlib.Core.Logic.{◌⊎◌, inl, inr, ⊎_elim}
use Prim.Native.Nat.{ℕ, suc, ◌+◌, ◌*◌, ◌<◌}
use native.Mathlib.Omega.{arith}
use lib.Dec.{eqb}
use lib.ListN.{length, get_or}
use borrow.Author.Count.{below_more}
use Rattle.rules.specs.Limits.{most_classes, most_fields, work_bytes}
use Rattle.rules.specs.Syntax.{Field}
use Rattle.rules.specs.Items.{a_class, a_field}
use Rattle.rules.specs.Syntax.{Program}
use Rattle.rules.specs.Reading.{with_item, on_last}
use Rattle.tables.specs.Layout.{classes_at, places_at, atoms_at, names_at, most_names}
use Rattle.tables.specs.Decode.{byte_at, atom_place, class_place, places_place, field_count_at, field_name_at, field_at, fields_from, class_at, run}
use Rattle.tables.specs.Tables.{Declared, ClassFits, place_at}
use Rattle.tables.specs.Stores.{Kept}
use Rattle.tables.proofs.BytesRead.{Outside, kept_trans}
use Rattle.write_rows.specs.Puts.{put_bytes, blank, put_class, put_field_at, put_field}
use Rattle.write_rows.specs.Holds.{Holds}
use Rattle.write_rows.proofs.Puts.{put-length, put_same, put_other, Clear, put-kept, blank-length, blank-get}
use Rattle.tables.proofs.Runs.{three_ways, run-get, run_more, run-same, run-grown, run-last, last-length, end-length}
use Rattle.tables.proofs.Kept.{all-rows, class_same, class-fits-kept}
use Rattle.write_rows.proofs.Kept.{atoms-hold-kept, rows-kept, methods-kept, SameRows, holds_kept}
use Rattle.tables.proofs.Rows.{class-length as class-length-of}

-- A CLASS
module _ (w : List ℕ) (c : ℕ) (size : length w ≡ work_bytes) (room : c < most_classes) where
  counted : List ℕ
  counted = put_bytes w (class_place c) (0 ∷ [])

  counted-length : length counted ≡ work_bytes
  unfolding counted
  counted-length = put-length w (class_place c) (0 ∷ []) ∙ size

  no_fields : field_count_at (put_class w c) c ≡ 0
  unfolding put_class counted
  no_fields =
      put_other counted (places_place c) (blank most_names) (class_place c) (inl (omega arith))
      ∙ put_same w (class_place c) (0 ∷ []) 0 (class_place c) (omega arith) (omega arith) (omega arith)

  no_place : (n : ℕ) → n < most_names → place_at (put_class w c) c n ≡ 255
  unfolding put_class counted
  no_place n l =
      let b : length (blank most_names) ≡ most_names = blank-length most_names in
      put_same counted (places_place c) (blank most_names) n (places_place c + n) refl (omega (arith, b))
      (omega (arith, b, counted-length))
      ∙ blank-get most_names n l

  new-class : class_at (put_class w c) c ≡ []
  unfolding class_at run
  new-class = rw no_fields

  new-class-fits : ClassFits (put_class w c) c
  new-class-fits =
      record {
        count = omega (arith, no_fields);
        names = λ j l. absurd (omega (arith, no_fields));
        places = λ j l. absurd (omega (arith, no_fields));
        found = λ n l. inl (no_place n l);
      }

  -- other bytes
  pub class-kept :
      (a b : ℕ) → Clear (class_place c) 1 a b → Clear (places_place c) most_names a b → Kept a b w (put_class w c)
  unfolding put_class counted
  class-kept a b o p =
      kept_trans a b w counted (put_class w c) (put-kept w (class_place c) (0 ∷ []) a b o)
      (put-kept counted (places_place c) (blank most_names) a b (rw (blank-length most_names) p))

  pub class-names : Kept names_at work_bytes w (put_class w c)
  class-names = class-kept names_at work_bytes (inr (omega arith)) (inr (omega arith))

  pub class-length : length (put_class w c) ≡ length w
  unfolding put_class counted
  class-length = put-length counted (places_place c) (blank most_names) ∙ put-length w (class_place c) (0 ∷ [])

module _ (D : Declared) (w : List ℕ) (F : Program) (n : ℕ) (room : length F.classes < most_classes) (h : Holds D w F n) where
  after : List ℕ
  after = put_class w (length F.classes)

  same_rows : SameRows w after F n
  unfolding after
  same_rows =
      let C : ℕ = length F.classes in
      let K : (a b : ℕ) → Clear (class_place C) 1 a b → Clear (places_place C) most_names a b → Kept a b w (put_class w C) =
      class-kept w C h.size room in
      record {
        size = class-length w C h.size room;
        atoms = K _ _ (inr (omega arith)) (inr (omega arith));
        rows = all-rows (length F.rows) w after (K _ _ (inl (omega (arith, h.rows.few))) (inl (omega (arith, h.rows.few))));
        methods = K _ _ (inl (omega (arith, h.methods.few))) (inl (omega (arith, h.methods.few)));
        classes = K _ _ (inl (omega arith)) (inl (omega arith));
        places = K _ _ (inr (omega arith)) (inl (omega arith));
      }

  class-more : (l : ℕ) → Holds D after (with_item F l a_class) n
  unfolding with_item after
  class-more l =
      let h' : Holds D after F n = holds_kept D w after F n same_rows h in
      let one : length (F.classes ++ ([] ∷ [])) ≡ suc (length F.classes) = end-length F.classes [] in
      record {
        size = h'.size;
        main = h'.main;
        atoms = h'.atoms;
        rows = h'.rows;
        methods = h'.methods;
        classes =
            record {
              few = omega (arith, one);
              mean =
                  run-grown (class_at after) (class_at after) F.classes h'.classes.mean []
                  (λ k l. refl) (new-class w (length F.classes) h.size room);
              fit = λ i l.
                  below_more (λ (k : ℕ). ClassFits after k) (length F.classes) h'.classes.fit
                  (new-class-fits w (length F.classes) h.size room) i (omega (arith, one));
            };
      }

-- the next class
pub class-written :
    (D : Declared) (w : List ℕ) (F : Program) (n l : ℕ) → length F.classes < most_classes → Holds D w F n →
    Holds D (put_class w (length F.classes)) (with_item F l a_class) n
unfolding after
class-written D w F n l room h = class-more D w F n room h l

-- a class that is written, as its fields
module _ (D : Declared) (w : List ℕ) (F : Program) (n c : ℕ) (here : c < length F.classes) (h : Holds D w F n) where
  pub class-fields : class_at w c ≡ get_or F.classes c []
  class-fields =
      let z : 0 + c ≡ c = omega arith in
      sym
      (ap (λ (l : List (List Field)). get_or l c []) (sym h.classes.mean)
      ∙ (run-get (class_at w) 0 _ c [] here ∙ ap (class_at w) z))

  pub class-count : field_count_at w c ≡ length (get_or F.classes c [])
  class-count = sym (class-length-of w c) ∙ ap length class-fields

  pub class-name :
      (k : ℕ) (d : Field) → k < length (get_or F.classes c []) → field_name_at w c k ≡ (get_or (get_or F.classes c []) k d).name
  unfolding class_at field_at
  class-name k d l =
      let z : 0 + k ≡ k = omega arith in
      sym
      (ap (λ (fs : List Field). (get_or fs k d).name) (sym class-fields)
      ∙ (ap (λ (f : Field). f.name) (run-get (field_at w c) 0 _ k d (omega (arith, class-count)) ∙ ap (field_at w c) z)))

-- A FIELD
flag-read : (int : Bool) → not (eqb (cond int 1 0) 0) ≡ int
flag-read true = refl
flag-read false = refl

module _
    (w : List ℕ) (c j name : ℕ) (int : Bool) (size : length w ≡ work_bytes) (room : c < most_classes) (few : j < most_fields)
    (known : name < most_names) where
  w₁ : List ℕ
  w₁ = put_bytes w (class_place c) ((j + 1) ∷ [])

  w₂ : List ℕ
  unfolding w₁
  w₂ = put_bytes w₁ (class_place c + 1 + j * 2) (name ∷ cond int 1 0 ∷ [])

  size₁ : length w₁ ≡ work_bytes
  unfolding w₁
  size₁ = put-length w (class_place c) ((j + 1) ∷ []) ∙ size

  size₂ : length w₂ ≡ work_bytes
  unfolding w₂
  size₂ = put-length w₁ (class_place c + 1 + j * 2) (name ∷ cond int 1 0 ∷ []) ∙ size₁

  pub field-length : length (put_field_at w c j name int) ≡ length w
  unfolding put_field_at w₁ w₂
  field-length = put-length w₂ (places_place c + name) (j ∷ []) ∙ (size₂ ∙ sym size)

  -- other bytes
  field-other :
      (i : ℕ) → Outside (class_place c) 1 i → Outside (class_place c + 1 + j * 2) 2 i → Outside (places_place c + name) 1 i →
      byte_at (put_field_at w c j name int) i ≡ byte_at w i
  unfolding put_field_at w₁ w₂
  field-other i o p q =
      put_other w₂ (places_place c + name) (j ∷ []) i q
      ∙ (put_other w₁ (class_place c + 1 + j * 2) (name ∷ cond int 1 0 ∷ []) i p ∙ put_other w (class_place c) ((j + 1) ∷ []) i o)

  pub field-kept :
      (a b : ℕ) → Clear (class_place c) 32 a b → Clear (places_place c) most_names a b → Kept a b w (put_field_at w c j name int)
  field-kept a b (inl o) (inl p) i l m = field-other i (inl (omega arith)) (inl (omega arith)) (inl (omega arith))
  field-kept a b (inl o) (inr p) i l m = field-other i (inl (omega arith)) (inl (omega arith)) (inr (omega arith))
  field-kept a b (inr o) (inl p) i l m = field-other i (inr (omega arith)) (inr (omega arith)) (inl (omega arith))
  field-kept a b (inr o) (inr p) i l m = field-other i (inr (omega arith)) (inr (omega arith)) (inr (omega arith))

  pub field-names : Kept names_at work_bytes w (put_field_at w c j name int)
  field-names = field-kept names_at work_bytes (inr (omega arith)) (inr (omega arith))

  -- what is read
  count-read : field_count_at (put_field_at w c j name int) c ≡ j + 1
  unfolding put_field_at w₁ w₂
  count-read =
      put_other w₂ (places_place c + name) (j ∷ []) (class_place c) (inl (omega arith))
      ∙ (put_other w₁ (class_place c + 1 + j * 2) (name ∷ cond int 1 0 ∷ []) (class_place c) (inl (omega arith))
      ∙ put_same w (class_place c) ((j + 1) ∷ []) 0 (class_place c) (omega arith) (omega arith) (omega arith))

  name-read : field_name_at (put_field_at w c j name int) c j ≡ name
  unfolding put_field_at w₁ w₂
  name-read =
      put_other w₂ (places_place c + name) (j ∷ []) (class_place c + 1 + j * 2) (inl (omega arith))
      ∙ put_same w₁ (class_place c + 1 + j * 2) (name ∷ cond int 1 0 ∷ []) 0 (class_place c + 1 + j * 2) (omega arith) (omega arith)
      (omega (arith, size₁))

  int-read : byte_at (put_field_at w c j name int) (class_place c + 2 + j * 2) ≡ cond int 1 0
  unfolding put_field_at w₁ w₂
  int-read =
      put_other w₂ (places_place c + name) (j ∷ []) (class_place c + 2 + j * 2) (inl (omega arith))
      ∙ put_same w₁ (class_place c + 1 + j * 2) (name ∷ cond int 1 0 ∷ []) 1 (class_place c + 2 + j * 2) (omega arith) (omega arith)
      (omega (arith, size₁))

  place_read : place_at (put_field_at w c j name int) c name ≡ j
  unfolding put_field_at w₁ w₂
  place_read = put_same w₂ (places_place c + name) (j ∷ []) 0 (places_place c + name) (omega arith) (omega arith) (omega (arith, size₂))

  name-old : (k : ℕ) → k < j → field_name_at (put_field_at w c j name int) c k ≡ field_name_at w c k
  name-old k l = field-other (class_place c + 1 + k * 2) (inr (omega arith)) (inl (omega arith)) (inl (omega arith))

  int-old :
      (k : ℕ) → k < j → byte_at (put_field_at w c j name int) (class_place c + 2 + k * 2) ≡ byte_at w (class_place c + 2 + k * 2)
  int-old k l = field-other (class_place c + 2 + k * 2) (inr (omega arith)) (inl (omega arith)) (inl (omega arith))

  place-old :
      (m : ℕ) → (m < name) ⊎ (name < m) → m < most_names → place_at (put_field_at w c j name int) c m ≡ place_at w c m
  place-old m (inl ne) l = field-other (places_place c + m) (inr (omega arith)) (inr (omega arith)) (inl (omega arith))
  place-old m (inr ne) l = field-other (places_place c + m) (inr (omega arith)) (inr (omega arith)) (inr (omega arith))

  field-old : (k : ℕ) → k < j → field_at (put_field_at w c j name int) c k ≡ field_at w c k
  unfolding field_at
  field-old k l = simp (name-old k l, int-old k l)

  field-new : field_at (put_field_at w c j name int) c j ≡ record { name = name; int = int }
  unfolding field_at
  field-new = simp (name-read, int-read, flag-read int)

  -- no field of the class has the name yet
  module _ (so_far : field_count_at w c ≡ j) (new : (k : ℕ) → k < j → field_name_at w c k ≡ name → ⊥) (f : ClassFits w c) where
    fields-more : class_at (put_field_at w c j name int) c ≡ class_at w c ++ (record { name = name; int = int } ∷ [])
    unfolding class_at
    fields-more =
        let w' : List ℕ = put_field_at w c j name int in
        let z : 0 + j ≡ j = omega arith in
        let s : field_count_at w' c ≡ suc j = omega (arith, count-read) in
        ap (fields_from w' c 0) s
        ∙ (run_more (field_at w' c) 0 j
        ∙ (ap (λ (l : List Field). l ++ (field_at w' c (0 + j) ∷ []))
        (run-same (field_at w c) (field_at w' c) 0 j (λ k _ l. field-old k (omega arith))
        ∙ ap (fields_from w c 0) (sym so_far))
        ∙ ap (λ (g : Field). fields_from w c 0 (field_count_at w c) ++ (g ∷ [])) (ap (field_at w' c) z ∙ field-new)))

    place-of-old : (k : ℕ) → k < j → place_at (put_field_at w c j name int) c (field_name_at w c k) ≡ k
    place-of-old k l =
        ⊎_elim (λ e. absurd (new k l e))
        (λ ne. place-old (field_name_at w c k) ne (f.names k (omega arith)) ∙ f.places k (omega arith))
        (three_ways (field_name_at w c k) name)

    found_after :
        (m : ℕ) → m < most_names →
        (place_at (put_field_at w c j name int) c m ≡ 255)
        ⊎ ((place_at (put_field_at w c j name int) c m < j + 1)
        × (field_name_at (put_field_at w c j name int) c (place_at (put_field_at w c j name int) c m) ≡ m))
    found_after m l =
        ⊎_elim (λ e. rw e (inr (omega (arith, place_read), rw place_read name-read)))
        (λ ne.
        rw (place-old m ne l)
        (⊎_elim (λ e. inl e)
        (λ p. inr (omega (arith, p.0), name-old (place_at w c m) (omega (arith, p.0)) ∙ p.1)) (f.found m l)))
        (three_ways m name)

    more-fits : ClassFits (put_field_at w c j name int) c
    more-fits =
        let w' : List ℕ = put_field_at w c j name int in
        record {
          count = omega (arith, count-read);
          names = λ k l.
              below_more (λ (i : ℕ). field_name_at w' c i < most_names) j (λ i p. rw (name-old i p) (f.names i (omega arith)))
              (rw name-read known) k (omega (arith, count-read));
          places = λ k l.
              below_more (λ (i : ℕ). place_at w' c (field_name_at w' c i) ≡ i) j (λ i p. rw (name-old i p) (place-of-old i p))
              (rw name-read place_read) k (omega (arith, count-read));
          found = λ m l. rw count-read (found_after m l);
        }

module _
    (D : Declared) (w : List ℕ) (F : Program) (n c name : ℕ) (int : Bool) (last : length F.classes ≡ suc c)
    (few : field_count_at w c < most_fields) (known : name < most_names)
    (new : (k : ℕ) → k < field_count_at w c → field_name_at w c k ≡ name → ⊥) (h : Holds D w F n) where
  room : c < most_classes
  room = omega (arith, h.classes.few)

  field-more : (l : ℕ) → Holds D (put_field w c name int) (with_item F l (a_field (record { name = name; int = int }))) n
  unfolding with_item
  field-more l =
      let j : ℕ = field_count_at w c in
      let f : Field = record { name = name; int = int } in
      let w' : List ℕ = put_field_at w c j name int in
      let K : (a b : ℕ) → Clear (class_place c) 32 a b → Clear (places_place c) most_names a b → Kept a b w w' =
      field-kept w c j name int h.size room few known in
      let KA : Kept atoms_at (atom_place n) w w' = K _ _ (inr (omega (arith, room))) (inr (omega (arith, room))) in
      let KC : Kept classes_at (class_place c) w w' = K _ _ (inl (omega arith)) (inl (omega (arith, room))) in
      let KP : Kept places_at (places_place c) w w' = K _ _ (inr (omega (arith, room))) (inl (omega arith)) in
      let old : ClassFits w c = h.classes.fit c (omega arith) in
      let same : length (on_last (λ fs. fs ++ (f ∷ [])) F.classes) ≡ suc c = last-length _ F.classes ∙ last in
      record {
        size = field-length w c j name int h.size room few known ∙ h.size;
        main = h.main;
        atoms = atoms-hold-kept w w' n KA h.atoms;
        rows =
            rows-kept w w' n KA D F.rows
            (all-rows (length F.rows) w w' (K _ _ (inl (omega (arith, h.rows.few))) (inl (omega (arith, h.rows.few))))) h.rows;
        methods =
            methods-kept w w' n KA (length F.rows) F.methods
            (K _ _ (inl (omega (arith, h.methods.few))) (inl (omega (arith, h.methods.few)))) h.methods;
        classes =
            record {
              few = omega (arith, same, room);
              mean =
                  run-last (class_at w) (class_at w') F.classes h.classes.mean
                  (λ fs. fs ++ (f ∷ [])) c last
                  (λ k l. class_same w w' c KC KP k l (h.classes.fit k (omega arith)))
                  (fields-more w c j name int h.size room few known refl new old);
              fit = λ i l.
                  below_more (λ (k : ℕ). ClassFits w' k) c
                  (λ k l. class-fits-kept w w' c KC KP k l (h.classes.fit k (omega arith)))
                  (more-fits w c j name int h.size room few known refl new old) i (omega (arith, same));
            };
      }

-- one more field of the last class, under a name that it has not
pub field-written :
    (D : Declared) (w : List ℕ) (F : Program) (n c name l : ℕ) (int : Bool) (d : Field) → length F.classes ≡ suc c →
    length (get_or F.classes c []) < most_fields → name < most_names →
    ((k : ℕ) → k < length (get_or F.classes c []) → (get_or (get_or F.classes c []) k d).name ≡ name → ⊥) →
    Holds D w F n → Holds D (put_field w c name int) (with_item F l (a_field (record { name = name; int = int }))) n
field-written D w F n c name l int d last few known new h =
    let here : c < length F.classes = omega arith in
    let count : field_count_at w c ≡ length (get_or F.classes c []) = class-count D w F n c here h in
    field-more D w F n c name int last (omega (arith, count)) known
    (λ k p e. new k (omega (arith, count)) (sym (class-name D w F n c here h k d (omega (arith, count))) ∙ e)) h l
