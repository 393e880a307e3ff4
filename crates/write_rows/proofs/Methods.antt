-- One more method, and the requires and ensures of the last.
use mathlib.Core.Path.{◌≡◌, refl, sym, ◌∙◌}
use mathlib.Core.List.{List, [], ◌∷◌, ◌++◌}
use mathlib.Core.Logic.{inl, inr}
use Prim.Native.Nat.{ℕ, suc, ◌+◌, ◌/◌, ◌%◌, ◌≤◌, ◌<◌}
use native.Mathlib.Omega.{arith}
use lib.ListN.{length, get_or}
use borrow.Author.Count.{below_more}
use Rattle.rules.specs.Limits.{most_methods, most_atoms, work_bytes}
use Rattle.rules.specs.Syntax.{Formula}
use Rattle.rules.specs.Items.{a_method, a_requires, an_ensures}
use Rattle.rules.specs.Syntax.{Program, Method}
use Rattle.rules.specs.Reading.{with_item, on_last, with_requires, with_ensures}
use Rattle.tables.specs.Layout.{methods_at, atoms_at, names_at}
use Rattle.tables.specs.Decode.{byte_at, half_at, atoms_from, atom_place, method_place, requires_at, ensures_at, first_row_at, method_at, run}
use Rattle.tables.specs.Tables.{AtomsFit, Declared}
use Rattle.tables.specs.Stores.{Kept}
use Rattle.tables.proofs.Runs.{run-grown, run-last, last-length, end-length}
use Rattle.tables.proofs.Kept.{all-rows, atoms-kept, one-method, method-same}
use Rattle.write_rows.specs.Puts.{put_bytes, bytes_of_method, put_method, put_requires, put_ensures}
use Rattle.write_rows.specs.Holds.{MethodOk, Holds, Building}
use Rattle.write_rows.proofs.Puts.{put-length, put_same, put-same-half, put_other, Clear, put-kept}
use Rattle.write_rows.proofs.Kept.{atoms-hold-kept, rows-kept, method-ok-kept, classes-kept, SameRows, holds_kept}

-- A METHOD
module _ (w : List ℕ) (m first : ℕ) (size : length w ≡ work_bytes) (room : m < most_methods) where
  method-byte : (k : ℕ) → k < 8 → byte_at (put_method w m first) (method_place m + k) ≡ get_or (bytes_of_method first) k 0
  unfolding put_method bytes_of_method
  method-byte k l = put_same w (method_place m) (bytes_of_method first) k _ refl l (omega arith)

  method-half :
      (k j v : ℕ) → j ≡ method_place m + k → k + 2 ≤ 8 → get_or (bytes_of_method first) k 0 ≡ v % 256 →
      get_or (bytes_of_method first) (k + 1) 0 ≡ v / 256 → half_at (put_method w m first) j ≡ v
  unfolding put_method bytes_of_method
  method-half k j v e l p q = put-same-half w (method_place m) (bytes_of_method first) k j v e l (omega arith) p q

  requires-start : half_at (put_method w m first) (method_place m) ≡ 0
  unfolding bytes_of_method
  requires-start = method-half 0 (method_place m) 0 (omega arith) (omega arith) refl refl

  requires-none : byte_at (put_method w m first) (method_place m + 2) ≡ 0
  unfolding bytes_of_method
  requires-none = method-byte 2 (omega arith)

  ensures-none : byte_at (put_method w m first) (method_place m + 3) ≡ 0
  unfolding bytes_of_method
  ensures-none = method-byte 3 (omega arith)

  ensures-start : half_at (put_method w m first) (method_place m + 4) ≡ 0
  unfolding bytes_of_method
  ensures-start = method-half 4 (method_place m + 4) 0 refl (omega arith) refl refl

  first-row : first_row_at (put_method w m first) m ≡ first
  unfolding bytes_of_method
  first-row = method-half 6 (method_place m + 6) first refl (omega arith) refl refl

  new-method : method_at (put_method w m first) m ≡ record { requires = []; ensures = []; first = first }
  unfolding method_at requires_at ensures_at run
  new-method = simp (requires-none, ensures-none, first-row)

  new_ok : (n R : ℕ) → first ≤ R → MethodOk (put_method w m first) n R m
  new_ok n R l =
      record {
        formulas =
            record { requires = rw (requires-start, requires-none) (omega arith); ensures = rw (ensures-start, ensures-none) (omega arith) };
        first = rw first-row l;
      }

  -- other bytes
  pub method-kept : (a b : ℕ) → Clear (method_place m) 8 a b → Kept a b w (put_method w m first)
  unfolding put_method bytes_of_method
  method-kept a b o = put-kept w (method_place m) (bytes_of_method first) a b o

  pub method-names : Kept names_at work_bytes w (put_method w m first)
  method-names = method-kept names_at work_bytes (inr (omega arith))

  pub method-length : length (put_method w m first) ≡ length w
  unfolding put_method
  method-length = put-length w (method_place m) (bytes_of_method first)

module _ (D : Declared) (w : List ℕ) (F : Program) (n : ℕ) (room : length F.methods < most_methods) (h : Holds D w F n) where
  after : List ℕ
  after = put_method w (length F.methods) (length F.rows)

  same_rows : SameRows w after F n
  unfolding after
  same_rows =
      let K :
      (a b : ℕ) → Clear (method_place (length F.methods)) 8 a b →
      Kept a b w (put_method w (length F.methods) (length F.rows)) =
      method-kept w (length F.methods) (length F.rows) h.size room in
      record {
        size = method-length w (length F.methods) (length F.rows) h.size room;
        atoms = K _ _ (inr (omega arith));
        rows = all-rows (length F.rows) w after (K _ _ (inl (omega (arith, h.rows.few))));
        methods = K _ _ (inl (omega arith));
        classes = K _ _ (inr (omega arith));
        places = K _ _ (inr (omega arith));
      }

  method-more : (l : ℕ) → Holds D after (with_item F l a_method) n
  unfolding with_item after
  method-more l =
      let h' : Holds D after F n = holds_kept D w after F n same_rows h in
      let new : Method = record { requires = []; ensures = []; first = length F.rows } in
      let one : length (F.methods ++ (new ∷ [])) ≡ suc (length F.methods) = end-length F.methods new in
      record {
        size = h'.size;
        main = h'.main;
        atoms = h'.atoms;
        rows = h'.rows;
        methods =
            record {
              few = omega (arith, one);
              mean =
                  run-grown (method_at after) (method_at after) F.methods
                  h'.methods.mean new (λ k l. refl)
                  (new-method w (length F.methods) (length F.rows) h.size room);
              fit = λ i l.
                  below_more (λ (k : ℕ). MethodOk after n (length F.rows) k) (length F.methods) h'.methods.fit
                  (new_ok w (length F.methods) (length F.rows) h.size room n (length F.rows) (omega arith)) i
                  (omega (arith, one));
            };
        classes = h'.classes;
      }

-- the next method, which starts at the next row
pub method-written :
    (D : Declared) (w : List ℕ) (F : Program) (n l : ℕ) → length F.methods < most_methods → Holds D w F n →
    Holds D (put_method w (length F.methods) (length F.rows)) (with_item F l a_method) n
unfolding after
method-written D w F n l room h = method-more D w F n room h l

-- REQUIRES AND ENSURES

-- the last method m becomes f of what it was; the other rows stay
last-changed :
    (D : Declared) (w w' : List ℕ) (F : Program) (n m : ℕ) (f : Method → Method) → length F.methods ≡ suc m →
    ((a b : ℕ) → Clear (method_place m) 8 a b → Kept a b w w') → length w' ≡ length w →
    method_at w' m ≡ f (method_at w m) → MethodOk w' n (length F.rows) m → Holds D w F n →
    Holds D w' (record { classes = F.classes; methods = on_last f F.methods; rows = F.rows; main = F.main }) n
last-changed D w w' F n m f last K size new ok h =
    let few : m < most_methods = omega (arith, h.methods.few) in
    let KA : Kept atoms_at (atom_place n) w w' = K _ _ (inr (omega arith)) in
    let KM : Kept methods_at (method_place m) w w' = K _ _ (inl (omega arith)) in
    let same : length (on_last f F.methods) ≡ suc m = last-length f F.methods ∙ last in
    record {
      size = size ∙ h.size;
      main = h.main;
      atoms = atoms-hold-kept w w' n KA h.atoms;
      rows = rows-kept w w' n KA D F.rows (all-rows (length F.rows) w w' (K _ _ (inl (omega (arith, h.rows.few))))) h.rows;
      methods =
          record {
            few = omega (arith, same);
            mean =
                run-last (method_at w) (method_at w') F.methods h.methods.mean f m last
                (λ k l. method-same w w' k (one-method w w' m KM k l) n (h.methods.fit k (omega arith)).formulas KA) new;
            fit = λ i l.
                below_more (λ (k : ℕ). MethodOk w' n (length F.rows) k) m
                (λ k l. method-ok-kept w w' n KA (length F.rows) m KM k l (h.methods.fit k (omega arith))) ok i (omega (arith, same));
          };
      classes = classes-kept w w' F.classes (K _ _ (inr (omega arith))) (K _ _ (inr (omega arith))) h.classes;
    }

-- three bytes at a place of a method's row leave the others
module _ (w : List ℕ) (m i : ℕ) (bs : List ℕ) (few : m < most_methods) (three : length bs ≡ 3) (from : method_place m ≤ i) (to : i + 3 ≤ method_place m + 8) where
  clear_kept : (a b : ℕ) → Clear (method_place m) 8 a b → Kept a b w (put_bytes w i bs)
  clear_kept a b (inl l) = put-kept w i bs a b (inl (omega arith))
  clear_kept a b (inr l) = put-kept w i bs a b (inr (omega arith))

  byte-stays : (j : ℕ) → Clear i 3 j (j + 1) → byte_at (put_bytes w i bs) j ≡ byte_at w j
  byte-stays j (inl l) = put_other w i bs j (inl (omega arith))
  byte-stays j (inr l) = put_other w i bs j (inr (omega arith))

  half-stays : (j : ℕ) → Clear i 3 j (j + 2) → half_at (put_bytes w i bs) j ≡ half_at w j
  half-stays j (inl l) = omega (arith, byte-stays j (inl (omega arith)), byte-stays (j + 1) (inl (omega arith)))
  half-stays j (inr l) = omega (arith, byte-stays j (inr (omega arith)), byte-stays (j + 1) (inr (omega arith)))

module _
    (D : Declared) (w : List ℕ) (F : Program) (a n : ℕ) (φ : Formula ℕ) (m : ℕ) (last : length F.methods ≡ suc m)
    (short : length φ ≤ most_atoms) (b : Building D w F a n φ) where
  few-methods : m < most_methods
  few-methods = omega (arith, b.holds.methods.few)

  was : MethodOk w n (length F.rows) m
  was = b.holds.methods.fit m (omega arith)

  room : method_place m + 8 ≤ length w
  room = omega (arith, b.holds.size, few-methods)

  -- the formula that a count at c and a first atom at s give
  module _ (w' : List ℕ) (KA : Kept atoms_at (atom_place n) w w') (s c : ℕ) where
    pub Given : Formula ℕ → Type 0
    Given ψ = (atoms_from w' (half_at w' s) (byte_at w' c) ≡ ψ) × AtomsFit n (half_at w' s) (byte_at w' c)

    new-range : half_at w' s ≡ a → byte_at w' c ≡ length φ → Given φ
    unfolding Given
    new-range e f =
        (rw (e, f) (atoms-kept w w' n KA a (length φ) (omega (arith, b.place)) ∙ b.mean), omega (arith, e, f, b.place))

    old-range :
        half_at w' s ≡ half_at w s → byte_at w' c ≡ byte_at w c → AtomsFit n (half_at w s) (byte_at w c) →
        Given (atoms_from w (half_at w s) (byte_at w c))
    unfolding Given
    old-range e f r = (rw (e, f) (atoms-kept w w' n KA _ _ r.1), rw (e, f) r)

  -- f changes the last method, whose row has these bytes at i
  module _ (i : ℕ) (bs : List ℕ) (three : length bs ≡ 3) (from : method_place m ≤ i) (to : i + 3 ≤ method_place m + 6) where
    row-changed :
        (f : Method → Method) → ((f (method_at w m)).first ≡ first_row_at w m) →
        ((KA : Kept atoms_at (atom_place n) w (put_bytes w i bs)) →
        Given (put_bytes w i bs) KA (method_place m) (method_place m + 2) (f (method_at w m)).requires
        × Given (put_bytes w i bs) KA (method_place m + 4) (method_place m + 3) (f (method_at w m)).ensures) →
        Holds D (put_bytes w i bs)
        (record { classes = F.classes; methods = on_last f F.methods; rows = F.rows; main = F.main }) n
    unfolding Given method_at requires_at ensures_at
    row-changed f e g =
        let w' : List ℕ = put_bytes w i bs in
        let K : (p q : ℕ) → Clear (method_place m) 8 p q → Kept p q w w' = clear_kept w m i bs few-methods three from (omega arith) in
        let first : first_row_at w' m ≡ first_row_at w m =
        half-stays w m i bs few-methods three from (omega arith) _ (inr (omega arith)) in
        let both = g (K _ _ (inr (omega (arith, few-methods)))) in
        last-changed D w w' F n m f last K (put-length w i bs)
        (λ j. record { requires = both.0.0 j; ensures = both.1.0 j; first = (first ∙ sym e) j })
        (record { formulas = record { requires = both.0.1; ensures = both.1.1 }; first = rw first was.first })
        b.holds

  with-requires : (l : ℕ) → Holds D (put_requires w m a (length φ)) (with_item F l (a_requires φ)) n
  unfolding with_item with_requires method_at ensures_at put_requires
  with-requires l =
      let i : ℕ = method_place m in
      let bs : List ℕ = a % 256 ∷ a / 256 ∷ length φ ∷ [] in
      row-changed i bs refl (omega arith) (omega arith) (with_requires φ) refl
      (λ KA. (
        new-range _ KA _ _ (put-same-half w i bs 0 i a (omega arith) (omega arith) (omega (arith, room)) refl refl)
            (put_same w i bs 2 (i + 2) refl (omega arith) (omega (arith, room))),
        old-range _ KA _ _ (half-stays w m i bs few-methods refl (omega arith) (omega arith) _ (inr (omega arith)))
            (byte-stays w m i bs few-methods refl (omega arith) (omega arith) _ (inr (omega arith))) was.formulas.ensures,
      ))

  with-ensures : (l : ℕ) → Holds D (put_ensures w m a (length φ)) (with_item F l (an_ensures φ)) n
  unfolding with_item with_ensures method_at requires_at put_ensures
  with-ensures l =
      let i : ℕ = method_place m + 3 in
      let bs : List ℕ = length φ ∷ a % 256 ∷ a / 256 ∷ [] in
      row-changed i bs refl (omega arith) (omega arith) (with_ensures φ) refl
      (λ KA. (
        old-range _ KA _ _ (half-stays w m i bs few-methods refl (omega arith) (omega arith) _ (inl (omega arith)))
            (byte-stays w m i bs few-methods refl (omega arith) (omega arith) _ (inl (omega arith))) was.formulas.requires,
        new-range _ KA _ _
            (put-same-half w i bs 1 (method_place m + 4) a (omega arith) (omega arith) (omega (arith, room)) refl refl)
            (put_same w i bs 0 i (omega arith) (omega arith) (omega (arith, room))),
      ))

-- the formula that was built last becomes the requires, or the ensures, of the last method
pub requires-written :
    (D : Declared) (w : List ℕ) (F : Program) (a n : ℕ) (φ : Formula ℕ) (m l : ℕ) → length F.methods ≡ suc m →
    length φ ≤ most_atoms → Building D w F a n φ → Holds D (put_requires w m a (length φ)) (with_item F l (a_requires φ)) n
requires-written D w F a n φ m l last short b = with-requires D w F a n φ m last short b l

pub ensures-written :
    (D : Declared) (w : List ℕ) (F : Program) (a n : ℕ) (φ : Formula ℕ) (m l : ℕ) → length F.methods ≡ suc m →
    length φ ≤ most_atoms → Building D w F a n φ → Holds D (put_ensures w m a (length φ)) (with_item F l (an_ensures φ)) n
ensures-written D w F a n φ m l last short b = with-ensures D w F a n φ m last short b l

pub requires-names : (w : List ℕ) (m a n : ℕ) → m < most_methods → Kept names_at work_bytes w (put_requires w m a n)
unfolding put_requires
requires-names w m a n few = put-kept w (method_place m) _ names_at work_bytes (inr (omega arith))

pub ensures-names : (w : List ℕ) (m a n : ℕ) → m < most_methods → Kept names_at work_bytes w (put_ensures w m a n)
unfolding put_ensures
ensures-names w m a n few = put-kept w (method_place m + 3) _ names_at work_bytes (inr (omega arith))
