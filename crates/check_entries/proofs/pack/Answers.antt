use Rattle.check_entries.proofs.Keeping.{packing-first, packing-more, packed-at}
use Rattle.check_state.specs.States.{entries}
use mathlib.Core.Path.{◌≡◌}
use native.Mathlib.Omega.{arith}
use Rattle.check_entries.proofs.pack.Goals as goal

pub loop-i-init : goal.loop-i-init
loop-i-init c = packing-first _ _ _ _ c.told-b c.requires.1

pub loop-i-preserved : goal.loop-i-preserved
loop-i-preserved c = packing-more _ _ _ _ _ _ _ (omega (arith, c.requires.0)) c.loop-i.invariant c.keep_entry-n.ensures

pub returns : goal.returns
returns c =
    let e : c.loop-i.i ≡ entries c.args.b.now = omega arith in
    packed-at _ _ _ _ c.requires.0 (rw e at c.loop-i.invariant)
