use mathlib.Core.Path.{sym, ◌∙◌}
use native.Mathlib.Omega.{arith}
use Rattle.filler.proofs.Sizes.{seeks, begins, next-size, set_found_lem, none_found, block_refused}
use Rattle.filler.proofs.fill.Goals as goal

pub returns-then-not-others_pass : goal.returns-then-not-others_pass
returns-then-not-others_pass c =
    block_refused _ _ _ _ _ c.requires.0 c.requires.1 (sym c.others_pass.ensures ∙ c.if-not-others_pass.true) c.requires.3

pub loop-k-init : goal.loop-k-init
loop-k-init c =
    begins _ _ _ c.seek-s.ensures.0 c.requires.3

pub find-requires : goal.find-requires
find-requires c =
    seeks _ _ c.seek-s.ensures.0 _ _ _ (omega (arith, c.loop-k-test.true)) c.loop-k.invariant.ready c.loop-k.invariant.four

pub returns-then-find : goal.returns-then-find
returns-then-find c =
    set_found_lem _ _ c.seek-s.ensures.0 _ _ _ c.loop-k.invariant _ _ _ c.seek-s.ensures.1 c.seek-s.ensures.2 c.seek-s.ensures.3 (omega (arith, c.loop-k-test.true)) _ _ _ c.find.ensures c.if-find.true

pub loop-k-preserved : goal.loop-k-preserved
loop-k-preserved c =
    next-size _ _ c.seek-s.ensures.0 _ _ _ c.loop-k.invariant (omega (arith, c.loop-k-test.true)) _ _ _ c.find.ensures c.if-find.false

pub returns : goal.returns
returns c =
    none_found _ _ c.seek-s.ensures.0 _ _ _ c.loop-k.invariant _ _ _ c.seek-s.ensures.1 c.seek-s.ensures.2 c.seek-s.ensures.3 (omega (arith, c.loop-k-test.false))
