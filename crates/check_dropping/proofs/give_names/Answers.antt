use Rattle.check_state.proofs.Whole.{whole}
use native.Mathlib.Omega.{arith}
use Rattle.check_scans.proofs.Scanning.{scanned-dropped, scanned-less, mentions-not, no-paths}
use Rattle.check_dropping.proofs.Ways.{sole-forgettable, sole-forgot}
use Rattle.check_dropping.proofs.give_names.Goals as goal

pub drop_variable-requires : goal.drop_variable-requires
drop_variable-requires c = (omega arith, omega (arith, (whole c.args.known.now.sound).linked.fit), scanned-dropped _ _ _ _ c.requires.1)

pub give_key-requires : goal.give_key-requires
give_key-requires c =
    let N = no-paths _ _ _ _ c.requires.1 (c.has_path.ensures c.if-has_path.false) in
    rw c.variable_key.ensures.1 (sole-forgettable _ _ _ N _ c.requires.0, scanned-less _ _ _ _ _ (λ k d. mentions-not _ k d) c.requires.1)

pub returns : goal.returns
returns c =
    let N = no-paths _ _ _ _ c.requires.1 (c.has_path.ensures c.if-has_path.false) in
    sole-forgot _ _ _ N _ _ _ (rw c.variable_key.ensures.1 at c.give_key.ensures)
