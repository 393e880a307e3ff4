use mathlib.Core.Path.{ap}
use native.Mathlib.Omega.{arith}
use lib.ListN.{length}
use Rattle.small.specs.Listing.{places_in}
use Rattle.small.proofs.Lines.{lists-none, lists-longer, room-longer, all_listed}
use Rattle.small.proofs.Texts.{places_count}
use Rattle.small.proofs.put_small.Goals as goal

pub loop-count-init : goal.loop-count-init
loop-count-init c = lists-none _

pub put_mains-e-requires : goal.put_mains-e-requires
put_mains-e-requires c =
    let g = room-longer (places_in c.none-m.result) c.loop-count.count c.none-m.ensures.0 (omega arith) c.loop-count.invariant in
    (c.none-m.ensures.1, omega (arith, places_count c.none-m.ensures.1, ap length c.none-m.ensures.0), omega (arith, g, c.loop-count.invariant.size, c.told-out))

pub loop-count-preserved : goal.loop-count-preserved
loop-count-preserved c =
    lists-longer (places_in c.none-m.result) c.loop-count.count c.none-m.ensures.0 c.loop-count.invariant c.put_mains-e.ensures

pub returns : goal.returns
returns c = all_listed (omega arith) c.loop-count.invariant
