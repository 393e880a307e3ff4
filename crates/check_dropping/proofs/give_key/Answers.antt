use Rattle.check_state.proofs.Whole.{whole}
use native.Mathlib.Omega.{arith}
use Rattle.check_scans.proofs.Scanning.{scanned-dropped, mapped-start, mapped-untouched, picked-other}
use Rattle.check_dropping.proofs.Ways.{key-keeps, key-forgot, told-key}
use Rattle.check_dropping.proofs.give_key.Goals as goal

pub drop_path-requires : goal.drop_path-requires
drop_path-requires c = (omega arith, omega (arith, (whole c.args.known.now.sound).linked.fit), scanned-dropped _ _ _ _ c.requires.1)

pub swap_key-requires : goal.swap_key-requires
swap_key-requires c =
    (omega arith, omega (arith, (whole c.args.known.now.sound).linked.fit), mapped-start _ _ _ _ c.requires.1 _ (whole c.args.known.now.sound).linked.header (λ l e. picked-other _ _ l e))

pub repack-requires : goal.repack-requires
repack-requires c =
    (key-keeps _ _ _ _ _ _ _ c.swap_key.ensures (λ ρ ps W. told-key _ _ _ c.in-Some.is (c.successor.ensures ρ ps W)) (whole c.args.known.now.sound) c.requires.0, mapped-untouched _ _ _ _ c.requires.1 _ _ (λ l e. picked-other _ _ l e) c.swap_key.ensures)

pub returns : goal.returns
returns c =
    key-forgot _ _ _ _ _ _ _ c.swap_key.ensures (λ ρ ps W. told-key _ _ _ c.in-Some.is (c.successor.ensures ρ ps W)) _ _ c.repack.ensures
