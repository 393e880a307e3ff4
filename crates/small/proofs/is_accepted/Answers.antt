use mathlib.Core.Path.{sym}
use lib.Seq.{length-take-le}
use Rattle.small.proofs.Texts.{accepted-by}
use borrow.Author.Rules.{rules}
use Rattle.small.proofs.is_accepted.Goals as goal

pub slice_bounds-check-end : goal.slice_bounds-check-end
slice_bounds-check-end c =
    sym (length-take-le _ _ c.put_text-end.ensures.high)

pub returns : goal.returns
returns c =
    accepted-by _ _ _ c.put_text-end.ensures.are (search rules) c.check-checked.ensures.0
