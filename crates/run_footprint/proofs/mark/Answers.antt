use mathlib.Core.Path.{◌≡◌, refl, sym, ◌∙◌, subst}
use lib.ListN.{length, get_or}
use Rattle.run_footprint.specs.Footprints.{SharesFit}
use Rattle.run_footprint.proofs.Shares.{mark-next, mark-end, spread-among}
use Rattle.run_footprint.proofs.Regions.{only-refl, only-trans}
use Rattle.run_footprint.proofs.Handing.{only-marked}
use Rattle.run_footprint.proofs.Cells.{readable-kept, spread-one-kept}
use native.Mathlib.Omega.{arith}
use Rattle.run_footprint.proofs.mark.Goals as goal

pub loop-i-init : goal.loop-i-init
loop-i-init c =
    (only-refl _ _ _, refl)

pub mark_one-requires : goal.mark_one-requires
mark_one-requires c =
    let g : length c.args.shares.now ≡ 8 = c.told-shares in (readable-kept c.loop-i.invariant.0 c.requires.0.0, subst SharesFit (sym (spread-one-kept c.loop-i.invariant.0 c.requires.0.0 _)) (λ j t. c.requires.1 j (spread-among _ _ j c.args.shares.now _ _ (omega arith) c.loop-i-test.true t)))

pub loop-i-preserved : goal.loop-i-preserved
loop-i-preserved c =
    let g : length c.args.shares.now ≡ 8 = c.told-shares in
    let k = spread-one-kept c.loop-i.invariant.0 c.requires.0.0 (get_or c.args.shares.now c.loop-i.i 0) in (
      only-trans c.loop-i.invariant.0
          (rw (c.mark_one.ensures, k) (only-marked _ _ _ _ (λ j t. c.requires.1 j (spread-among _ _ j c.args.shares.now _ _ (omega arith) c.loop-i-test.true t)))),
      rw (c.mark_one.ensures, k) (mark-next _ _ c.args.shares.now _ _ _ _ _ (omega arith) c.loop-i-test.true ∙ c.loop-i.invariant.1),
    )

pub returns : goal.returns
returns c =
    sym (mark-end _ _ c.args.shares.now _ _ _ _ _ c.loop-i-test.false) ∙ c.loop-i.invariant.1
