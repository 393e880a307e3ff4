use Rattle.check_state.proofs.Whole.{whole}
use native.Mathlib.Omega.{arith}
use Rattle.check_dropping.proofs.Untouched.{scanned-renamed}
use Rattle.check_scans.proofs.Scanning.{renamed-not}
use Rattle.check_dropping.proofs.rename_names.Goals as goal

pub returns-else-from-known : goal.returns-else-from-known
returns-else-from-known c = scanned-renamed _ _ _ _ c.first_naming-from.ensures (whole c.args.known.now.sound) (omega arith) _ (λ k e. renamed-not _ _ k e)
