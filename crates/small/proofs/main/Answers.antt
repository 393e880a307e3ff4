use mathlib.Core.Path.{sym}
use lib.Seq.{length-take-le}
use Rattle.small.proofs.main.Goals as goal

pub slice_bounds-write_all-end : goal.slice_bounds-write_all-end
slice_bounds-write_all-end c = sym (length-take-le _ _ c.put_small-n.ensures.high)
