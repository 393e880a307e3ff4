use native.Mathlib.Omega.{arith}
use mathlib.Core.Path.{◌≡◌, sym, subst}
use Prim.Native.Nat.{◌+◌, ◌<◌}
use Rattle.rules.specs.Limits.{most_classes, heap_fields}
use Rattle.run_heap.specs.Views.{class_in, first_in}
use Rattle.lean_heap.specs.Ghosts.{cell_in}
use Rattle.lean_heap.proofs.Finding.{there-object, there-class, there-small}
use Rattle.lean_heap.proofs.cell_of.Goals as goal

pub overflow_sub-i : goal.overflow_sub-i
overflow_sub-i c = (there-object c.requires.0).0

pub byte_at-c-requires : goal.byte_at-c-requires
byte_at-c-requires c = omega (arith, (there-object c.requires.0).1, c.requires.0.tables.size)

pub half_at-first-requires : goal.half_at-first-requires
half_at-first-requires c = omega (arith, (there-object c.requires.0).1, c.requires.0.tables.size)

pub place_at-requires : goal.place_at-requires
unfolding class_in
place_at-requires c =
    (subst (λ n. n < most_classes) (sym c.byte_at-c.ensures.0) (there-class c.requires.0), c.requires.1)

pub returns : goal.returns
unfolding class_in first_in
returns c =
    let e : c.half_at-first.result + c.place_at.result ≡ cell_in c.args.work.now c.args.o c.args.f = rw (c.half_at-first.ensures.0, c.place_at.ensures.0, c.byte_at-c.ensures.0) in
    (e, subst (λ n. n < heap_fields) (sym e) (there-small c.requires.0))
