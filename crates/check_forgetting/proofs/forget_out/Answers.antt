use Rattle.check_state.proofs.Whole.{whole}
use native.Mathlib.Omega.{arith}
use Rattle.check_forgetting.proofs.Remainders.{none_out}
use Rattle.check_forgetting.proofs.forget_out.Goals as goal

pub returns-else-from-known : goal.returns-else-from-known
returns-else-from-known c = none_out _ _ _ _ _ (whole c.args.known.now.sound) ((whole c.args.known.now.sound).fit, c.marks_out-marks.ensures) c.first_marked-from.ensures (omega arith)
