-- The cells of objects, and what can be read, stay where the stores are changed elsewhere.
use mathlib.Core.Path.{◌≡◌, refl, sym, ◌∙◌, subst}
use mathlib.Core.Bool.{Bool, true, false, cond, ◌&&◌}
use mathlib.Core.List.{List, map}
use mathlib.Core.Logic.{◌⊎◌, inl, inr}
use mathlib.Core.Option.{Option, none, some}
use Prim.Native.Nat.{ℕ, zero, suc, ◌+◌, ◌-◌, ◌≤◌, ◌<◌}
use native.Mathlib.Omega.{arith}
use lib.Dec.{T, eqb, ltb}
use borrow.Author.Tests.{ltb-true, eq-eqb, ne_eqb}
use Rattle.rules.specs.Limits.{heap_objects, heap_fields, most_classes}
use Rattle.rules.specs.Base.{any}
use Rattle.rules.proofs.Lists.{T_true, and_both}
use Rattle.tables.specs.Layout.{most_names, holders_at, objects_at, frames_at}
use Rattle.tables.specs.Decode.{field_count_at}
use Rattle.tables.specs.Tables.{Tables, place_at}
use Rattle.tables.specs.Stores.{SameTables}
use Rattle.tables.proofs.Decoding.{tables-same, classes-count-same, field-count-same, place_same}
use Rattle.run_heap.specs.declared.View.{View}
use Rattle.run_heap.specs.declared.chains.Cache.{Cache}
use Rattle.run_heap.specs.Views.{cell_value, class_in, first_in, placed, cell_of, handed, ObjectFits, Readable}
use Rattle.run_heap.specs.Chains.{at_cell, cells_by, Caches}
use Rattle.run_heap.proofs.Reading.{cell-small}
use Rattle.run_heap.proofs.Walking.{cells-more, cells-end}
use Rattle.run_footprint.specs.Footprints.{share_of, marked, chain_marked, is_chain, field_in, start_in, spread_one}
use Rattle.run_footprint.proofs.Regions.{Only, only-tables, value-kept, class-in-kept, first-in-kept}
use Rattle.run_footprint.proofs.Shares.{mark-cell}
use Rattle.run_footprint.proofs.Handing.{only-handed}

-- the rows of the first n objects are the same
pub record SameObjects (n : ℕ) (w w' : List ℕ) : Type 0 where
  pub class : (i : ℕ) → i < n → class_in w' i ≡ class_in w i
  pub first : (i : ℕ) → i < n → first_in w' i ≡ first_in w i

module _ (w w' : List ℕ) (same : SameTables w w') (tables : Tables w) where
  pub small-class : (i most : ℕ) → ObjectFits w most i → class_in w i < most_classes
  small-class i most O = omega (arith, O.class, tables.classes)

  pub fits_kept :
      (most i : ℕ) → class_in w' i ≡ class_in w i → first_in w' i ≡ first_in w i → ObjectFits w most i → ObjectFits w' most i
  fits_kept most i e f O =
      let s : field_count_at w' (class_in w i) ≡ field_count_at w (class_in w i) = field-count-same w w' same (class_in w i) (small-class i most O) in
      record {
        class = rw (e, classes-count-same w w' same) O.class;
        cells = rw (e, f, s) O.cells;
      }

  pub cell-kept :
      (n most o f : ℕ) → ((i : ℕ) → i < n → ObjectFits w most i) → SameObjects n w w' → cell_of w' n o f ≡ cell_of w n o f
  unfolding cell_of
  cell-kept n most zero f fit S = refl
  cell-kept n most (suc i) f fit S = go (ltb i n && ltb f most_names) refl
    where
      go :
          (b : Bool) → (ltb i n && ltb f most_names) ≡ b →
          cond b (placed (first_in w' i) (place_at w' (class_in w' i) f)) none ≡ cond b (placed (first_in w i) (place_at w (class_in w i) f)) none
      go true t =
          let (x, y) = and_both (ltb i n) (ltb f most_names) (subst T (sym t) tt) in
          let l : i < n = ltb-true i n (T_true _ x) in
          let p : place_at w' (class_in w i) f ≡ place_at w (class_in w i) f =
          place_same w w' same (class_in w i) (small-class i most (fit i l)) f (ltb-true f most_names (T_true _ y)) in
          rw (S.class i l, S.first i l, p)
      go false t = refl

-- ONE REGION CHANGES
pub same-objects :
    (a b : ℕ) (w w' : List ℕ) (n : ℕ) → Only a b w w' → (frames_at ≤ a) ⊎ (b ≤ objects_at) → n ≤ heap_objects → SameObjects n w w'
same-objects a b w w' n s o l =
    record {
      class = λ i h. class-in-kept a b w w' s o i (omega arith);
      first = λ i h. first-in-kept a b w w' s o i (omega arith);
    }

-- HOLDERS CHANGE, and nothing else
module _ {w w' : List ℕ} {v : View} (s : Only holders_at objects_at w w') (R : Readable w v) where
  same_tables : SameTables w w'
  same_tables = only-tables s (omega arith)

  objects-same : SameObjects v.objects w w'
  objects-same = same-objects holders_at objects_at w w' v.objects s (inr (omega arith)) R.objects

  pub readable-kept : Readable w' v
  readable-kept =
      record {
        tables = tables-same w w' same_tables R.tables;
        base = R.base;
        objects = R.objects;
        object = λ i l. fits_kept w w' same_tables R.tables heap_fields i (objects-same.class i l) (objects-same.first i l) (R.object i l);
      }

  pub caches-kept : (f : ℕ) (c : Cache) → f < most_names → Caches w f c → Caches w' f c
  caches-kept f c l K =
      record {
        small = K.small;
        is_place = λ h. place_same w w' same_tables c.class h f l ∙ K.is_place h;
        has_place = K.has_place;
      }

  pub cells-kept : (f m o : ℕ) → cells_by w' v.objects f m o ≡ cells_by w v.objects f m o
  unfolding cells_by
  cells-kept f zero o = refl
  cells-kept f (suc m) o = go (cell_of w v.objects o f) refl (λ i. cells-kept f m i)
    where
      same : cell_of w' v.objects o f ≡ cell_of w v.objects o f
      same = cell-kept w w' same_tables R.tables v.objects heap_fields o f R.object objects-same

      go :
          (c : Option ℕ) → cell_of w v.objects o f ≡ c → ((i : ℕ) → cells_by w' v.objects f m i ≡ cells_by w v.objects f m i) →
          cells_by w' v.objects f (suc m) o ≡ cells_by w v.objects f (suc m) o
      go none e h = cells-end w' v.objects f m o (same ∙ e) ∙ sym (cells-end w v.objects f m o e)
      go (some k) e h =
          let q : cell_value w' k ≡ cell_value w k =
          value-kept holders_at objects_at w w' s (inl (omega arith)) k (cell-small o f R.tables R.object e) in
          cells-more w' v.objects f m o k (same ∙ e) ∙ (rw (q, h (cell_value w k)) (sym (cells-more w v.objects f m o k e)))

  pub spread-one-kept : (s : ℕ) → spread_one w' v.objects s ≡ spread_one w v.objects s
  unfolding spread_one
  spread-one-kept s = rw (cells-kept (field_in s) v.objects (start_in s))

-- A CHAIN goes over as its cells do
module _ (w : List ℕ) (n f m o from to : ℕ) where
  chain_next :
      (k : ℕ) → cell_of w n o f ≡ some k →
      chain_marked w n f (suc m) o from to ≡ chain_marked (handed w k 2 from to) n f m (cell_value w k) from to
  unfolding chain_marked at_cell
  chain_next k e = rw e

  chain-over : cell_of w n o f ≡ none → chain_marked w n f (suc m) o from to ≡ w
  unfolding chain_marked at_cell
  chain-over e = rw e

chain-cells :
    (w : List ℕ) (v : View) (f m o from to : ℕ) → Readable w v →
    chain_marked w v.objects f m o from to ≡ marked w (map (λ k. share_of k 2) (cells_by w v.objects f m o)) from to
unfolding chain_marked cells_by marked
chain-cells w v f zero o from to R = refl
chain-cells w v f (suc m) o from to R =
    go (cell_of w v.objects o f) refl (λ u i R'. chain-cells u v f m i from to R')
  where
    go :
        (c : Option ℕ) → cell_of w v.objects o f ≡ c →
        ((u : List ℕ) (i : ℕ) → Readable u v →
        chain_marked u v.objects f m i from to ≡ marked u (map (λ k. share_of k 2) (cells_by u v.objects f m i)) from to) →
        chain_marked w v.objects f (suc m) o from to ≡ marked w (map (λ k. share_of k 2) (cells_by w v.objects f (suc m) o)) from to
    go none e h = chain-over w v.objects f m o from to e ∙ rw (cells-end w v.objects f m o e)
    go (some k) e h =
        let s : Only holders_at objects_at w (handed w k 2 from to) =
        only-handed w k 2 from to (cell-small o f R.tables R.object e) in
        chain_next w v.objects f m o from to k e
        ∙ (h (handed w k 2 from to) (cell_value w k) (readable-kept s R)
        ∙ rw (cells-kept s R f m (cell_value w k), cells-more w v.objects f m o k e)
        (sym (mark-cell w (map (λ k. share_of k 2) (cells_by w v.objects f m (cell_value w k))) k from to)))

pub chain-marked :
    (w : List ℕ) (v : View) (s from to : ℕ) → is_chain s ≡ true → Readable w v →
    chain_marked w v.objects (field_in s) v.objects (start_in s) from to ≡ marked w (spread_one w v.objects s) from to
unfolding spread_one
chain-marked w v s from to e R = rw e (chain-cells w v (field_in s) v.objects (start_in s) from to R)

-- IS A CELL ONE OF A CHAIN'S? of at most n cells i are passed
module _ (w : List ℕ) (objects f n i o k : ℕ) where
  pub pass_on :
      (j : ℕ) → i < n → cell_of w objects o f ≡ some j → (j ≡ k → ⊥) →
      any (eqb k) (cells_by w objects f (n - (i + 1)) (cell_value w j)) ≡ any (eqb k) (cells_by w objects f (n - i) o)
  unfolding any
  pass_on j l e d =
      let q : n - i ≡ suc (n - (i + 1)) = omega arith in
      rw (q, cells-more w objects f (n - (i + 1)) o j e, ne_eqb k j (λ z. d (sym z)))

  pub pass-here : i < n → cell_of w objects o f ≡ some k → any (eqb k) (cells_by w objects f (n - i) o) ≡ true
  unfolding any
  pass-here l e =
      let q : n - i ≡ suc (n - (i + 1)) = omega arith in
      rw (q, cells-more w objects f (n - (i + 1)) o k e, eq-eqb k k refl)

  pub pass-end : i < n → cell_of w objects o f ≡ none → any (eqb k) (cells_by w objects f (n - i) o) ≡ false
  unfolding any
  pass-end l e =
      let q : n - i ≡ suc (n - (i + 1)) = omega arith in
      rw (q, cells-end w objects f (n - (i + 1)) o e)

  pub pass-over : n ≤ i → any (eqb k) (cells_by w objects f (n - i) o) ≡ false
  unfolding any cells_by
  pass-over l = let q : n - i ≡ 0 = omega arith in rw q

-- and of a chain that goes over
module _ (w : List ℕ) (objects f n i o from to : ℕ) where
  pub over-on :
      (k : ℕ) → i < n → cell_of w objects o f ≡ some k →
      chain_marked (handed w k 2 from to) objects f (n - (i + 1)) (cell_value w k) from to ≡ chain_marked w objects f (n - i) o from to
  over-on k l e =
      let q : n - i ≡ suc (n - (i + 1)) = omega arith in rw q (sym (chain_next w objects f (n - (i + 1)) o from to k e))

  pub over-end : i < n → cell_of w objects o f ≡ none → chain_marked w objects f (n - i) o from to ≡ w
  over-end l e = let q : n - i ≡ suc (n - (i + 1)) = omega arith in rw q (chain-over w objects f (n - (i + 1)) o from to e)

  pub over-past : n ≤ i → chain_marked w objects f (n - i) o from to ≡ w
  unfolding chain_marked
  over-past l = let q : n - i ≡ 0 = omega arith in rw q
