use Rattle.std.proofs.Common.{sym, arith}
use Rattle.check_labels.proofs.every.Goals as goal

pub returns : goal.returns
returns g c = λ test T e i a h. sym (T i _ a h (c.loop-i.invariant e i a (omega arith)))
