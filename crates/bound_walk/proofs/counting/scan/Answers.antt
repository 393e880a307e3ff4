use mathlib.Core.Path.{refl}
use Rattle.bound_walk.proofs.Counted.{may-look, scan-on, scan-stops}
use Rattle.bound_walk.proofs.counting.scan.Goals as goal

pub look-requires : goal.look-requires
look-requires c =
    may-look _ c.requires.0 c.args.marks c.requires.1.0 c.args.o _ _ _ c.loop-s.invariant _ c.line_at-line.ensures

pub loop-s-preserved : goal.loop-s-preserved
loop-s-preserved c =
    scan-on _ c.requires.0 c.args.marks c.requires.1.0 c.args.o _ _ _ c.loop-s.invariant _ c.line_at-line.ensures _ c.look.ensures _ _ _ c.in-Ok.is refl

pub returns-in-Err : goal.returns-in-Err
returns-in-Err c =
    rw c.stop_at.ensures
    (scan-stops _ c.requires.0 c.args.marks c.requires.1.0 c.args.o _ _ _ c.loop-s.invariant _ c.line_at-line.ensures _ c.look.ensures _ c.in-Err.is)
