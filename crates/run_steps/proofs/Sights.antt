-- What a view sees of a state: the variables, the halves held, the values; and that two locations have different cells.
use mathlib.Core.Path.{◌≡◌, refl, sym, ap, ◌∙◌, subst}
use mathlib.Core.List.{List}
use mathlib.Core.Option.{Option, none, some}
use Prim.Native.Nat.{ℕ, suc, ◌+◌, ◌≤◌, ◌<◌}
use native.Mathlib.Omega.{arith}
use Rattle.rules.specs.Limits.{heap_objects, heap_fields}
use Rattle.rules.specs.Machine.{Heap, Frame, Location, halves, value_at, value_of}
use Rattle.tables.specs.Layout.{most_names, frame_variables}
use Rattle.tables.specs.Decode.{field_name_at}
use Rattle.tables.specs.Tables.{Tables, ClassFits, place_at}
use Rattle.run_heap.specs.declared.View.{View}
use Rattle.run_heap.specs.Views.{variable_at, halves_at, cell_value, class_in, first_in, cell_of, halves_in, halves_of}
use Rattle.run_steps.specs.States.{HeapIs}
use Rattle.run_heap.proofs.Reading.{Placed, cell-placed, place_found}

-- CELLS OF TWO LOCATIONS DIFFER
same_place :
    {w : List ℕ} {c f g : ℕ} → ClassFits w c → f < most_names → g < most_names → (place_at w c f ≡ 255 → ⊥) →
    (place_at w c g ≡ 255 → ⊥) → place_at w c f ≡ place_at w c g → f ≡ g
same_place {w} {c} {f} {g} F l h p q e =
    sym (place_found {f = f} F l p).1 ∙ (ap (field_name_at w c) e ∙ (place_found {f = g} F h q).1)

module _ {w : List ℕ} {objects fields holders : ℕ} {h : Heap} (tables : Tables w) (H : HeapIs w objects fields holders h) where
  below_next :
      (o f o' f' k : ℕ) (P : Placed w objects o f k) (Q : Placed w objects o' f' k) → P.index < Q.index → ⊥
  below_next o f o' f' k P Q l =
      let O = H.fit P.index P.exists in
      let F = place_found {f = f} (tables.class_fits (class_in w P.index) O.class) P.named P.present in
      omega (arith, H.apart P.index Q.index l Q.exists, F.0, P.is_cell, Q.is_cell)

  same_index : (o f o' f' k : ℕ) (P : Placed w objects o f k) (Q : Placed w objects o' f' k) → P.index ≡ Q.index
  same_index o f o' f' k P Q =
      let a : P.index < Q.index → ⊥ = below_next o f o' f' k P Q in
      let b : Q.index < P.index → ⊥ = below_next o' f' o f k Q P in
      omega arith

  pub cells-apart :
      (p q : Location) (k : ℕ) → cell_of w objects p.object p.field ≡ some k → cell_of w objects q.object q.field ≡ some k →
      p ≡ q
  cells-apart p q k a b =
      let P = cell-placed w objects p.object p.field k a in
      let Q = cell-placed w objects q.object q.field k b in
      let e : P.index ≡ Q.index = same_index _ _ _ _ k P Q in
      let O = H.fit Q.index Q.exists in
      let present : place_at w (class_in w Q.index) p.field ≡ 255 → ⊥ =
      subst (λ i. place_at w (class_in w i) p.field ≡ 255 → ⊥) e P.present in
      let cell : k ≡ first_in w Q.index + place_at w (class_in w Q.index) p.field =
      subst (λ i. k ≡ first_in w i + place_at w (class_in w i) p.field) e P.is_cell in
      let f : p.field ≡ q.field =
      same_place (tables.class_fits (class_in w Q.index) O.class) P.named Q.named present Q.present
      (omega (arith, cell, Q.is_cell)) in
      let o : p.object ≡ q.object = P.is-object ∙ (ap suc e ∙ sym Q.is-object) in
      λ i. record { object = o i; field = f i }

-- WHAT A VIEW SEES
pub record Sees (w : List ℕ) (v : View) (h : Heap) (F : Frame) : Type 0 where
  pub values : (x : ℕ) → x < frame_variables → value_of F x ≡ variable_at w v.base x
  pub held : (p : Location) → halves F.held p ≡ halves_of w v.objects v.holder p
  pub cells : (o f k : ℕ) → cell_of w v.objects o f ≡ some k → value_at h o f ≡ cell_value w k
  pub most : v.objects ≤ heap_objects
  pub small : (o f k : ℕ) → cell_of w v.objects o f ≡ some k → k < heap_fields
  pub apart :
      (p q : Location) (k : ℕ) → cell_of w v.objects p.object p.field ≡ some k →
      cell_of w v.objects q.object q.field ≡ some k → p ≡ q

-- a location by object and field
abbrev pub at : ℕ → ℕ → Location
at o f = record { object = o; field = f }

module _ {w : List ℕ} {v : View} {h : Heap} {F : Frame} (S : Sees w v h F) where
  -- the halves held of a location that has a cell
  pub held_at : (o f k : ℕ) → cell_of w v.objects o f ≡ some k → halves F.held (at o f) ≡ halves_at w v.holder k
  unfolding halves_of halves_in
  held_at o f k e = S.held (at o f) ∙ rw e

  -- of one that has none
  pub held_none : (o f : ℕ) → cell_of w v.objects o f ≡ none → halves F.held (at o f) ≡ 0
  unfolding halves_of halves_in
  held_none o f e = S.held (at o f) ∙ rw e

  -- so one of which something is held is of one of the objects
  pub held-exists : (p : Location) → 1 ≤ halves F.held p → p.object ≤ v.objects
  held-exists p l = go (cell_of w v.objects p.object p.field) refl
    where
      go : (c : Option ℕ) → cell_of w v.objects p.object p.field ≡ c → p.object ≤ v.objects
      go none e = absurd (omega (arith, l, held_none p.object p.field e))
      go (some k) e = let P = cell-placed w v.objects p.object p.field k e in omega (arith, P.is-object, P.exists)
