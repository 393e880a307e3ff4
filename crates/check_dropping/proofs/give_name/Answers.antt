use Rattle.check_state.proofs.Whole.{whole}
use native.Mathlib.Omega.{arith}
use Rattle.check_scans.proofs.Scanning.{mapped-start, mapped-untouched, picked-other, mentions-not, no-paths}
use Rattle.check_dropping.proofs.Ways.{swap-keeps, swap-renamed, rebuilt-renamed}
use Rattle.check_dropping.proofs.give_name.Goals as goal

pub swap_key-requires : goal.swap_key-requires
swap_key-requires c =
    (omega arith, omega (arith, (whole c.args.known.now.sound).linked.fit), mapped-start _ _ _ _ c.requires _ (whole c.args.known.now.sound).linked.header (λ l d. rw (c.variable_key.ensures.1, c.variable_key-then-stands_alone.ensures.1) (picked-other _ _ l (mentions-not _ l d))))

pub repack-requires : goal.repack-requires
repack-requires c =
    let A = c.stands_alone.ensures c.if-stands_alone.true in
    let N = no-paths _ _ _ _ c.requires A.1 in
    let M = rw (c.variable_key.ensures.1, c.variable_key-then-stands_alone.ensures.1) at c.swap_key.ensures in
    (swap-keeps _ _ _ N _ (whole c.args.known.now.sound) A.0 _ M, mapped-untouched _ _ _ _ c.requires _ _ (λ l d. picked-other _ _ l (mentions-not _ l d)) M)

pub returns-then-stands_alone : goal.returns-then-stands_alone
returns-then-stands_alone c =
    let A = c.stands_alone.ensures c.if-stands_alone.true in
    let N = no-paths _ _ _ _ c.requires A.1 in
    let M = rw (c.variable_key.ensures.1, c.variable_key-then-stands_alone.ensures.1) at c.swap_key.ensures in
    swap-renamed _ _ _ N _ (whole c.args.known.now.sound) A.0 _ M _ _ c.repack.ensures

pub returns : goal.returns
returns c = rebuilt-renamed _ _ _ _ _ _ c.rename_keys.ensures c.rebuild.ensures
