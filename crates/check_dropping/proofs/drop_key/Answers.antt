use Rattle.check_state.proofs.Whole.{whole}
use native.Mathlib.Omega.{arith}
use Rattle.check_dropping.proofs.Untouched.{scanned-forgot}
use Rattle.check_dropping.proofs.drop_key.Goals as goal

pub returns-else-from-known : goal.returns-else-from-known
returns-else-from-known c = scanned-forgot _ _ _ _ c.first_with-from.ensures (whole c.args.known.now.sound) (omega arith) _ _
