use mathlib.Core.Path.{◌≡◌}
use lib.ListN.{length}
use native.Mathlib.Omega.{arith}
use borrow.Author.Tests.{ne_eqb}
use Rattle.read_bytes.proofs.Search.{up_to-on}
use Rattle.unstarring.proofs.Lines.{is_feed, line-found, line-open}
use Rattle.unstarring.proofs.line_end.Goals as goal

pub returns-then-text-i-eq-LINE_FEED : goal.returns-then-text-i-eq-LINE_FEED
returns-then-text-i-eq-LINE_FEED c =
    line-found _ _ c.loop-i.i (omega arith) c.loop-i.invariant c.loop-i-test.true c.if-text-i-eq-LINE_FEED.true

pub loop-i-preserved : goal.loop-i-preserved
loop-i-preserved c = omega (arith, up_to-on is_feed c.args.text.now c.loop-i.i c.loop-i-test.true (ne_eqb _ 10 c.if-text-i-eq-LINE_FEED.false), c.loop-i.invariant)

pub returns : goal.returns
returns c =
    let e : c.loop-i.i ≡ length c.args.text.now = omega arith in
    rw e at (line-open _ _ c.loop-i.i (omega arith) c.loop-i.invariant c.requires c.loop-i-test.false (omega arith))
