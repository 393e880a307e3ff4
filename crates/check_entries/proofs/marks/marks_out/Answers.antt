use Rattle.check_entries.proofs.Marking.{marks-next}
use Rattle.check_entries.proofs.marks.marks_out.Goals as goal

pub loop-i-preserved : goal.loop-i-preserved
loop-i-preserved c =
    marks-next _ _ _ _ _ _ c.path_key-k.ensures.0 c.loop-i.invariant c.mark.ensures
