use mathlib.Core.Path.{◌≡◌, ap}
use native.Mathlib.Omega.{arith}
use Rattle.small.specs.Listing.{places_in, room}
use Rattle.small.proofs.Lines.{room-one, lists-one, all_after, lists-all, none_yet, lists-on, room-on}
use Rattle.small.proofs.Texts.{is_place}
use Prim.Native.Nat.{◌+◌, ◌-◌}
use Rattle.small.proofs.+put_mains.Goals as goal

pub put_accepted-requires : goal.put_accepted-requires
put_accepted-requires t c =
    (c.requires.0, omega (arith, c.requires.2, room-one (places_in c.args.m) c.args.left c.if-left-eq0.true))

pub returns-then-left-eq0 : goal.returns-then-left-eq0
returns-then-left-eq0 t c =
    lists-one (places_in c.args.m) c.args.left c.if-left-eq0.true c.put_accepted.ensures

pub loop-place-init : goal.loop-place-init
loop-place-init t c = none_yet (places_in c.args.m) _ (omega (arith, c.requires.2))

pub overflow_sub-left : goal.overflow_sub-left
overflow_sub-left t c =
    omega (arith, c.if-left-eq0.false)

pub with_place-requires : goal.with_place-requires
with_place-requires t c =
    (c.requires.0, omega (arith, c.requires.1, c.if-left-eq0.false), is_place c.loop-place.place (omega arith) (omega arith))

pub put_mains-e-requires : goal.put_mains-e-requires
put_mains-e-requires t c =
    let m = places_in c.args.m in
    let e : c.loop-place.place - 1 + 1 ≡ c.loop-place.place = omega arith in (
      omega (arith, c.if-left-eq0.false),
      (
        c.with_place.ensures.known,
        omega (arith, c.requires.1, c.if-left-eq0.false, c.with_place.ensures.count),
        room-on m (places_in c.with_place.result) _ (c.loop-place.place - 1) (omega arith) (rw e c.with_place.ensures.places)
            (omega (arith, c.requires.2, c.loop-place.invariant.size, ap room (all_after m c.args.left c.if-left-eq0.false))) c.loop-place.invariant,
      ),
    )

pub loop-place-preserved : goal.loop-place-preserved
loop-place-preserved t c =
    let e : c.loop-place.place - 1 + 1 ≡ c.loop-place.place = omega arith in
    let n : c.loop-place.place + 1 - 1 ≡ c.loop-place.place - 1 + 1 = omega arith in
    rw n
    (lists-on (places_in c.args.m) _ (c.args.left - 1) (c.loop-place.place - 1) (omega arith) (rw e c.with_place.ensures.places) c.loop-place.invariant c.put_mains-e.ensures)

pub shape_of-out : goal.shape_of-out
shape_of-out t c = c.loop-place.invariant.size

pub returns : goal.returns
returns t c =
    lists-all (places_in c.args.m) c.args.left (c.loop-place.place - 1) c.if-left-eq0.false (omega arith) c.loop-place.invariant
