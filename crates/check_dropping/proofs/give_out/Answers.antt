use Rattle.check_state.proofs.Whole.{whole}
use native.Mathlib.Omega.{arith}
use Rattle.check_scans.proofs.Scanning.{scanned-dropped, dropped-untouched, scanned-less, unmarked-kept}
use Rattle.check_dropping.proofs.Ways.{flags-dropping}
use Rattle.check_dropping.proofs.give_out.Goals as goal

pub drop_paths-requires : goal.drop_paths-requires
drop_paths-requires c =
    (omega arith, omega (arith, (whole c.args.known.now.sound).linked.fit), c.requires.0, scanned-dropped _ _ _ _ (scanned-less _ _ _ _ _ (λ k e. unmarked-kept _ _ _ k c.requires.0 e) c.requires.2))

pub forget-requires : goal.forget-requires
forget-requires c =
    (flags-dropping _ _ _ _ _ _ c.requires.1 c.drop_paths.ensures, dropped-untouched _ _ _ _ (scanned-less _ _ _ _ _ (λ k e. unmarked-kept _ _ _ k c.requires.0 e) c.requires.2) _ c.drop_paths.ensures)
