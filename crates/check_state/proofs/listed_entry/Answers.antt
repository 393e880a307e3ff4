use Rattle.std.proofs.Common.{◌-◌, length, drop, arith, length-drop, take_all}
use Rattle.check_equality.specs.Layout.{kinds_at}
use Rattle.check_state.proofs.listed_entry.Goals as goal

pub returns : goal.returns
returns c =
    let bs = c.args.known.now.bytes in
    rw (take_all (length bs - kinds_at) (drop kinds_at bs) (omega (arith, length-drop kinds_at bs))) at c.entry.ensures
