use mathlib.Core.Path.{◌≡◌, refl, sym, ◌∙◌}
use lib.ListN.{length}
use native.Mathlib.Omega.{arith}
use Rattle.run_footprint.proofs.Shares.{any_here, any-on, any-past}
use Rattle.run_footprint.proofs.walks.one_of.Goals as goal

pub loop-i-init : goal.loop-i-init
loop-i-init g c test h = refl

pub returns-then-passes : goal.returns-then-passes
returns-then-passes g c test h =
    let e : length c.args.shares.now ≡ 8 = c.told-shares in
    sym (any_here _ c.args.shares.now _ _ (omega arith) c.loop-i-test.true (sym (h _ _ c.passes.ensures) ∙ c.if-passes.true)) ∙ c.loop-i.invariant test h

pub loop-i-preserved : goal.loop-i-preserved
loop-i-preserved g c test h =
    let e : length c.args.shares.now ≡ 8 = c.told-shares in
    any-on _ c.args.shares.now _ _ (omega arith) c.loop-i-test.true (sym (h _ _ c.passes.ensures) ∙ c.if-passes.false) ∙ c.loop-i.invariant test h

pub returns : goal.returns
returns g c test h = sym (any-past _ c.args.shares.now _ _ c.loop-i-test.false) ∙ c.loop-i.invariant test h
