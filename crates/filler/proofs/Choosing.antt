-- One place more: which atom stands there, and the set with it.
use mathlib.Core.Path.{◌≡◌, refl, sym, ap, ◌∙◌}
use mathlib.Core.Bool.{Bool, true, false}
use mathlib.Core.List.{List, [], ◌∷◌, ◌++◌}
use mathlib.Core.Logic.{⊎_elim}
use Prim.Native.Nat.{ℕ, zero, suc, pred, ◌+◌, ◌-◌, ◌≤◌, ◌<◌}
use native.Mathlib.Omega.{arith}
use native.Mathlib.Nat.{zero-add}
use lib.Dec.{ltb}
use borrow.Author.Tests.{ltb-true, ltb-false}
use lib.ListN.{length, get_or, set, length-set}
use Rattle.std.proofs.Math.ListN.{get_or-append}
use Rattle.std.proofs.Math.Seq.{get_or-append_right}
use lib.Seq.{get_or-set_same, get_or-set_other}
use Rattle.rules.specs.Limits.{most_fields, most_filled, most_classes, places_bytes}
use Rattle.rules.specs.Syntax.{Field, own, acc, this_variable, parameter}
use Rattle.rules.specs.Reading as Reading
use Rattle.rules.proofs.Lists.{decide_eq}
use Rattle.filling.specs.Sets.{fields_of, accesses_in, no_access, formula_of}
use Rattle.tables.specs.Layout.{most_names, atoms_at}
use Rattle.tables.specs.Decode.{byte_at, atom_place, atom_at, class_count, class_at, field_at, field_count_at, field_name_at, program_in}
use Rattle.tables.specs.Tables.{Tables}
use Rattle.tables.specs.Stores.{Kept}
use Rattle.tables.proofs.Rows.{class-get, class-length}
use Rattle.tables.proofs.Runs.{run_more, run-same, run-get, run_past}
use Rattle.fill_rows.specs.Rewrites.{SameBut}
use Rattle.fill_rows.proofs.Rewritten.{put_acc, acc-read, acc-fits, before-kept, acc-spared, acc-same, acc-size}
use Rattle.filler.specs.declared.Sought.{Sought}
use Rattle.filler.specs.declared.Access.{Access}
use Rattle.filler.specs.Search.{accesses_of, Ready, AccessIs, places_in, HasSet, Chosen}
use Rattle.filler.proofs.Keeping.{accesses-same, ready-same, there-kept, formula-kept}

-- A CLASS
module _ (w : List ℕ) (t : Tables w) (c : ℕ) where
  pub class-there : (n : ℕ) → n ≡ class_count w → c < n → length (get_or (program_in w).classes c []) ≡ field_count_at w c
  class-there n e l = ap length (class-get w c (omega arith)) ∙ class-length w c

  pub class-few : (n r : ℕ) → n ≡ class_count w → c < n → r ≡ field_count_at w c → r ≤ most_fields
  class-few n r e l f = omega (arith, (t.class_fits c (omega arith)).count)

  pub no-class : (n : ℕ) → n ≡ class_count w → n ≤ c → get_or (program_in w).classes c [] ≡ []
  unfolding program_in
  no-class n e l = run_past (class_at w) 0 (class_count w) c [] (omega arith)

  -- a class that has a field is there
  pub there : (j : ℕ) → j < length (get_or (program_in w).classes c []) → c < class_count w
  there j l =
      go (ltb c (class_count w)) refl
    where
      go : (b : Bool) → ltb c (class_count w) ≡ b → c < class_count w
      go true e = ltb-true c (class_count w) e
      go false e = absurd (omega (arith, l, ap length (no-class (class_count w) refl (ltb-false c (class_count w) e))))

  pub field-there : (j : ℕ) (d : Field) → j < length (get_or (program_in w).classes c []) → (get_or (get_or (program_in w).classes c []) j d).name ≡ field_name_at w c j
  unfolding class_at field_at
  field-there j d l =
      let k : c < class_count w = there j l in
      ap (λ fs. (get_or fs j d).name) (class-get w c k)
      ∙ (ap (λ (f : Field). f.name) (run-get (field_at w c) 0 (field_count_at w c) j d (omega (arith, class-there (class_count w) refl k)))
      ∙ ap (field_name_at w c) (zero-add j))

  pub field-small : (j : ℕ) → j < length (get_or (program_in w).classes c []) → (field_name_at w c j < most_names) × (c < most_classes) × (j < most_fields)
  field-small j l =
      let k : c < class_count w = there j l in
      let h : j < field_count_at w c = omega (arith, class-there (class_count w) refl k) in
      ((t.class_fits c k).names j h, omega (arith, t.classes), omega (arith, (t.class_fits c k).count))

-- THE ATOM AT A PLACE
pub fields-length : (x : ℕ) (fs : List Field) → length (fields_of x fs) ≡ length fs
unfolding fields_of
fields-length x [] = refl
fields-length x (f ∷ fs) = ap suc (fields-length x fs)

fields-get : (x : ℕ) (fs : List Field) (i : ℕ) (f : Field) → i < length fs → get_or (fields_of x fs) i no_access ≡ record { variable = x; field = (get_or fs i f).name }
unfolding fields_of
fields-get x [] i f h = absurd (omega arith)
fields-get x (g ∷ fs) zero f h = refl
fields-get x (g ∷ fs) (suc i) f h = fields-get x fs i f (omega arith)

abbrev some_field : Field
some_field = record { name = 0; int = true }

module _ (w : List ℕ) (s : Sought) (r : Ready w s) (p : ℕ) (low : 1 ≤ p) where
  pub of-this : (f : ℕ) → p ≤ s.own → f ≡ field_name_at w s.class (p - 1) → AccessIs w s p (record { variable = this_variable; field = f })
  unfolding accesses_in
  of-this f h e =
      let fs : List Field = get_or (program_in w).classes s.class [] in
      let i : p - 1 ≡ pred p = omega arith in
      let k : pred p < length fs = omega (arith, r.own) in
      let g : get_or (accesses_of w s) (pred p) no_access ≡ record { variable = this_variable; field = (get_or fs (pred p) some_field).name } =
      get_or-append (fields_of this_variable fs) _ no_access (pred p) (omega (arith, fields-length this_variable fs)) ∙ fields-get this_variable fs (pred p) some_field k in
      let n : (get_or fs (pred p) some_field).name ≡ field_name_at w s.class (pred p) = field-there w r.spared.tables s.class (pred p) some_field k in
      let q : f ≡ field_name_at w s.class (pred p) = e ∙ ap (field_name_at w s.class) i in
      record {
        variable = sym (ap (λ (a : Reading.Access). a.variable) g);
        field = q ∙ (sym n ∙ sym (ap (λ (a : Reading.Access). a.field) g));
        few = omega arith;
        names = omega (arith, q, (field-small w r.spared.tables s.class (pred p) k).0);
      }

  pub of-parameter : (f : ℕ) → s.own < p → p ≤ s.count → f ≡ field_name_at w s.parameter (p - s.own - 1) → AccessIs w s p (record { variable = parameter; field = f })
  unfolding accesses_in
  of-parameter f h l e =
      let fs : List Field = get_or (program_in w).classes s.parameter [] in
      let gs : List Reading.Access = fields_of this_variable (get_or (program_in w).classes s.class []) in
      let n₀ : length gs ≡ s.own = fields-length this_variable (get_or (program_in w).classes s.class []) ∙ sym r.own in
      let i : pred p - length gs ≡ p - s.own - 1 = omega (arith, n₀) in
      let k : p - s.own - 1 < length fs = omega (arith, r.count) in
      let g : get_or (accesses_of w s) (pred p) no_access ≡ record { variable = parameter; field = (get_or fs (p - s.own - 1) some_field).name } =
      get_or-append_right gs (fields_of parameter fs) (pred p) no_access (omega (arith, n₀))
      ∙ (ap (λ j. get_or (fields_of parameter fs) j no_access) i ∙ fields-get parameter fs (p - s.own - 1) some_field k) in
      let n : (get_or fs (p - s.own - 1) some_field).name ≡ field_name_at w s.parameter (p - s.own - 1) = field-there w r.spared.tables s.parameter (p - s.own - 1) some_field k in
      record {
        variable = sym (ap (λ (a : Reading.Access). a.variable) g);
        field = e ∙ (sym n ∙ sym (ap (λ (a : Reading.Access). a.field) g));
        few = omega arith;
        names = omega (arith, e, (field-small w r.spared.tables s.parameter (p - s.own - 1) k).0);
      }

  pub this-small : p ≤ s.own → (s.class < most_classes) × (p - 1 < most_fields)
  this-small h =
      let k : p - 1 < length (get_or (program_in w).classes s.class []) = omega (arith, r.own) in
      let f = field-small w r.spared.tables s.class (p - 1) k in (f.1, f.2)

  pub parameter-small : s.own < p → p ≤ s.count → (s.parameter < most_classes) × (p - s.own - 1 < most_fields)
  parameter-small h l =
      let k : p - s.own - 1 < length (get_or (program_in w).classes s.parameter []) = omega (arith, r.count) in
      let f = field-small w r.spared.tables s.parameter (p - s.own - 1) k in (f.1, f.2)

-- THE SET WITH IT
formula-more : (αs : List Reading.Access) (ps : List ℕ) (p : ℕ) → formula_of αs (ps ++ (p ∷ [])) ≡ formula_of αs ps ++ (own acc (get_or αs (pred p) no_access).variable (get_or αs (pred p) no_access).field ∷ [])
unfolding formula_of
formula-more αs [] p = refl
formula-more αs (q ∷ ps) p = ap (λ r. own acc (get_or αs (pred q) no_access).variable (get_or αs (pred q) no_access).field ∷ r) (formula-more αs ps p)

module _ (w : List ℕ) (s : Sought) (b : List ℕ) (i p : ℕ) (r : Ready w s) (few : i < most_filled) (four : length b ≡ places_bytes) (a : Access) (at : AccessIs w s p a) where
  abbrev pub v : List ℕ
  v = put_acc w (s.first + i) a.variable a.field

  low : s.first ≤ s.first + i
  low = omega arith

  high : s.first + i < s.first + most_filled
  high = omega arith

  same : SameBut s.method w v
  same = acc-same w s.method s.first r.spared (s.first + i) a.variable a.field low high at.few at.names

  kept : Kept atoms_at (atom_place (s.first + i)) w v
  kept = before-kept w s.method s.first r.spared (s.first + i) a.variable a.field low high at.few at.names

  place_same : (j : ℕ) → j < i → byte_at (set b i p) j ≡ byte_at b j
  place_same j l = get_or-set_other b i j p 0 (λ e. omega arith)

  more : HasSet w s b i → HasSet v s (set b i p) (suc i)
  more h =
      record {
        there = λ c l k.
            ⊎_elim
            (λ e. rw e (acc-fits w s.method s.first r.spared (s.first + i) a.variable a.field low high at.few at.names))
            (λ d. there-kept w v s.first i i (omega arith) kept h.there c l (omega arith))
            (decide_eq c (s.first + i));
        atoms =
            run_more (atom_at v) s.first i
            ∙ ((λ j. formula-kept w v s.first i i (omega arith) kept j ++ (acc-read w s.method s.first r.spared (s.first + i) a.variable a.field low high at.few at.names j ∷ []))
            ∙ ((λ j. h.atoms j ++ (own acc (at.variable j) (at.field j) ∷ []))
            ∙ (sym (formula-more (accesses_of w s) (places_in b 0 i) p)
            ∙ ((λ j. formula_of (sym (accesses-same w v s same) j) (sym places j))))));
      }
    where
      places : places_in (set b i p) 0 (suc i) ≡ places_in b 0 i ++ (p ∷ [])
      places =
          run_more (byte_at (set b i p)) 0 i
          ∙ (λ j. run-same (byte_at b) (byte_at (set b i p)) 0 i (λ k _ l. place_same k (omega arith)) j ++ ((ap (byte_at (set b i p)) (zero-add i) ∙ get_or-set_same b i p 0 (omega arith)) j ∷ []))

  pub chosen : Chosen w s b i p v (set b i p)
  chosen =
      record {
        ready = ready-same w v s same r (acc-spared w s.method s.first r.spared (s.first + i) a.variable a.field low high at.few at.names);
        same = same;
        more = more;
        before = kept;
        place = get_or-set_same b i p 0 (omega arith);
        others = λ j d. get_or-set_other b i j p 0 d;
        four = length-set b i p ∙ four;
        size = acc-size w s.method s.first r.spared (s.first + i) a.variable a.field low high at.few at.names;
      }
