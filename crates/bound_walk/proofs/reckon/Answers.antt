use Rattle.bound_walk.proofs.Replies.{no-bound-answer}
use Rattle.bound_walk.proofs.reckon.Goals as goal

pub returns-in_default : goal.returns-in_default
returns-in_default c = no-bound-answer _ c.in_default.ensures
