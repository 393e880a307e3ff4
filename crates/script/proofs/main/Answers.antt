use mathlib.Core.Path.{sym}
use lib.Seq.{length-take-le}
use Rattle.script.proofs.main.Goals as goal

-- `script::main` is safe and ends. Assumes nothing.
pub slice_bounds-print_answer-end : goal.slice_bounds-print_answer-end
slice_bounds-print_answer-end c = sym (length-take-le _ _ c.in_ok-n.ensures)
