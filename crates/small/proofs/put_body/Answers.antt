use Prim.Native.Nat.{◌<◌}
use native.Mathlib.Omega.{arith}
use Rattle.printer.proofs.Writes.{writes-none, writes-on, writes_as}
use Rattle.small_list.specs.Small.{body}
use Rattle.small.specs.Listing.{places_in}
use Rattle.small.proofs.Texts.{place-bounds, places_count, digits_count, place-known, part-short, body_more, body-whole}
use Rattle.small.proofs.put_body.Goals as goal

pub loop-d-init : goal.loop-d-init
unfolding body
loop-d-init c = writes-none _ _ (omega (arith, c.requires.1))

pub overflow_sub-d : goal.overflow_sub-d
overflow_sub-d c =
    let h : c.loop-d.d-index < c.args.m.count = omega (arith, digits_count c.requires.0) in
    omega (arith, (place-bounds _ (place-known c.loop-d.d-index c.requires.0 h)).0)

pub put_statement-e-requires : goal.put_statement-e-requires
put_statement-e-requires c =
    let h : c.loop-d.d-index < c.args.m.count = omega (arith, digits_count c.requires.0) in
    (place-known c.loop-d.d-index c.requires.0 h, omega (arith, h, c.requires.0.few, c.loop-d.invariant.end, c.loop-d.invariant.size, part-short (places_in c.args.m) c.loop-d.d-index (omega (arith, h, places_count c.requires.0))))

pub loop-d-preserved : goal.loop-d-preserved
loop-d-preserved c =
    writes_as (writes-on c.loop-d.invariant c.put_statement-e.ensures) (body_more c.loop-d.d-index c.requires.0 (omega (arith, digits_count c.requires.0)))

pub shape_of-text : goal.shape_of-text
shape_of-text c = c.loop-d.invariant.size

pub returns : goal.returns
returns c =
    writes_as c.loop-d.invariant (body-whole c.loop-d.d-index c.requires.0 (omega (arith, digits_count c.requires.0)))
