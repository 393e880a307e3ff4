-- `new`: the same object in both stores; who holds its locations is in the ghost alone.
use mathlib.Core.Path.{◌≡◌, refl, sym, ◌∙◌, subst}
use mathlib.Core.List.{List}
use mathlib.Core.Logic.{◌⊎◌}
use Prim.Native.Nat.{ℕ, ◌+◌, ◌*◌, ◌-◌, ◌≤◌, ◌<◌}
use native.Mathlib.Omega.{arith}
use lib.ListN.{length, set, length-set}
use Rattle.rules.specs.Limits.{heap_objects, heap_fields, most_classes}
use Rattle.rules.specs.Grammar.{New, statement_number}
use Rattle.rules.specs.Machine.{Config, step}
use Rattle.rules.specs.Calls.{whole_heap}
use Rattle.rules.specs.Lean as Lean
use Rattle.rules.specs.declared.Machine.{Machine}
use Rattle.tables.specs.Layout.{values_at, objects_at, frames_at}
use Rattle.tables.specs.Decode.{x_at, member_at, field_count_at, class_count, program_in}
use Rattle.tables.specs.Stores.{SameTables, put_half, put_word}
use Rattle.tables.proofs.BytesRead.{same-trans, put-half-length}
use Rattle.tables.proofs.Decoding.{field-count-same}
use Rattle.run_heap.specs.Views as Views
use Rattle.run_heap.specs.Views.{frame_at, view_of}
use Rattle.run_footprint.proofs.Regions.{only-word, only-fill, only-tables, only-half, only-byte, only-trans}
use Rattle.run_steps.specs.States.{Represents}
use Rattle.run_calls.specs.Calls.{new_here}
use Rattle.run_calls.proofs.Growing as Grows
use Rattle.machine.proofs.Stepping.{new_is, does-as}
use Rattle.lean_heap.specs.declared.Counters.{Counters}
use Rattle.lean_heap.specs.declared.Stop.{Stop}
use Rattle.std.specs.Prelude.{Some, Ok, Err}
use Rattle.lean_heap.specs.Ghosts.{Bare, Stands, Does, CanStep, AtKind, full, stop_in, stop_of}
use Rattle.lean_heap.proofs.Bares.{set_both, half-both, word-both, fill-both, ghost-holders}
use Rattle.lean_heap.proofs.Following.{ghost-ready, ghost-tables, ghost-size, x-is, fits, kind-is, on-as, stop-as, does-on, does-stop, has-frames, has-size, member_is, x-small}
use Rattle.lean_calls.specs.Calls.{larger, made}

-- THE OBJECT
made-bare :
    {v w : List ℕ} (i j n class holder : ℕ) → length v ≡ 65536 → i < heap_objects → j + n ≤ heap_fields → Bare v w →
    Bare (Views.made v i j n class holder) (made w i j n class)
unfolding Views.made made
made-bare {v} i j n class holder l li lj B =
    let a : ℕ = objects_at + i * 4 in
    let v1 : List ℕ = set v a class in
    let l1 : length v1 ≡ length v = length-set v a class in
    let v2 : List ℕ = put_half v1 (a + 2) j in
    let l2 : length v2 ≡ length v = put-half-length v1 (a + 2) j ∙ l1 in
    ghost-holders j n holder lj
    (fill-both (values_at + j * 4) n 0 (omega (arith, l, l2, lj))
    (half-both (a + 2) j (omega (arith, l, l1, li)) (set_both a class (omega (arith, l, li)) B)))

made-tables : (w : List ℕ) (i j n class : ℕ) → i < heap_objects → j + n ≤ heap_fields → SameTables w (made w i j n class)
unfolding made
made-tables w i j n class li lj =
    let a : ℕ = objects_at + i * 4 in
    only-tables
    (only-trans (only-byte values_at frames_at w a class (omega arith) (omega arith))
    (only-trans (only-half values_at frames_at (set w a class) (a + 2) j (omega arith) (omega arith))
    (only-fill values_at frames_at (put_half (set w a class) (a + 2) j) (values_at + j * 4) n 0 (omega arith) (omega arith))))
    (omega arith)

module _ {w : List ℕ} {c : Counters} (k : AtKind w c New) (R : CanStep w c) (class : ℕ) (ec : class ≡ member_at w c.row) where
  module _ {m : Config} (S : Stands w c m) where
    abbrev K : Machine
    K = full c S.holder S.holders

    class-is : class ≡ member_at S.ghost c.row
    class-is = ec ∙ member_is S

    exists : class < class_count S.ghost
    unfolding statement_number
    exists = omega (arith, class-is, (fits S).class (kind-is S k))

    class_fits : class < most_classes
    class_fits = omega (arith, exists, S.represents.tables.classes)

    count-is : {n : ℕ} → n ≡ field_count_at w class → n ≡ field_count_at S.ghost class
    count-is e = e ∙ field-count-same S.ghost w (ghost-tables S) class class_fits

    here : (m : Config) → Represents S.ghost K m → step whole_heap (program_in S.ghost) m ≡ new_here S.ghost K whole_heap m
    here = new_is whole_heap (ghost-ready S R.more) (kind-is S k)

  -- WHAT IS READ
  pub new-class : class < most_classes
  new-class = class_fits R.stands

  module _ (n : ℕ) (en : n ≡ field_count_at w class) where
    -- THE CODE
    pub heap-full : (heap_objects ≤ c.objects) ⊎ (heap_fields < c.fields + n) → Does w c w (Err Stop.HeapFull)
    unfolding stop_of stop_in Lean.stop_of Views.stop_of
    heap-full o =
        does-stop Stop.HeapFull
        (λ m S U.
        stop-as S Stop.HeapFull refl
        (does-as (here S)
        (Grows.new-stops (ghost-ready S R.more) (kind-is S k) heap_objects heap_fields (omega arith) (omega arith) class n (class-is S) (count-is S en) o)))

    -- the object is made, and then x is put
    module _
        (lo : c.objects < heap_objects) (lf : c.fields + n ≤ heap_fields) {u : List ℕ}
        (eu : u ≡ made w c.objects c.fields n class) where
      same-made : SameTables w u
      same-made = subst (SameTables w) (sym eu) (made-tables w c.objects c.fields n class lo lf)

      pub made-length : length u ≡ length w
      made-length = same-made.size

      pub new-does :
          (b x : ℕ) {w' : List ℕ} {d : Counters} → b ≡ frame_at (c.frames - 1) → x ≡ x_at w c.row →
          w' ≡ put_word u (b + x * 4) (c.objects + 1) → d ≡ larger c n → Does w c w' (Ok (Some d))
      new-does b x eb ex p q =
          does-on p q
          (same-trans same-made
          (only-tables
          (only-word frames_at (frames_at + 8192) u (b + x * 4) (c.objects + 1) (omega (arith, eb)) (omega (arith, eb, (has-frames R).1, x-small R ex)))
          (omega arith)))
          (λ m S U.
          let B = subst (Bare _) (sym eu) (made-bare c.objects c.fields n class S.holder (ghost-size S) lo lf S.bare) in
          on-as S S.holder S.holders S.base
          (does-as (here S)
          (Grows.new-does (ghost-ready S R.more) (kind-is S k) heap_objects heap_fields (omega arith) (omega arith) class n (class-is S) (count-is S en)
          (view_of (K S)) x lo lf refl (ex ∙ x-is S) refl refl))
          (rw eb
          (word-both (frame_at (c.frames - 1) + x * 4) (c.objects + 1)
          (omega (arith, sym B.size, made-length, has-size R, (has-frames R).1, x-small R ex)) B)))
