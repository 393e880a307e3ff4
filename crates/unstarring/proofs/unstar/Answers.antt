use Rattle.unstarring.proofs.Found.{copying-first, copying-on, copying-done}
use Rattle.unstarring.proofs.unstar.Goals as goal

pub loop-at-init : goal.loop-at-init
loop-at-init c = copying-first _ _ c.told-copy

pub loop-at-preserved : goal.loop-at-preserved
loop-at-preserved c =
    copying-on c.loop-at.invariant c.line_end-e.ensures c.put_line-s.ensures

pub returns : goal.returns
returns c = copying-done c.loop-at.invariant c.loop-at-test.false
