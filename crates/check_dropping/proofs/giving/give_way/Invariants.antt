use Rattle.check_dropping.specs.Dropping.{Giving}
use Rattle.check_dropping.proofs.GivingWay.{Given}
use Rattle.check_dropping.proofs.giving.give_way.Given as goal

abbrev pub invariant-loop-j : goal.invariant-loop-j
invariant-loop-j l =
    Giving l.old.keys l.old.bytes l.skip l.x l.j l.key l.gone l.lead × Given l.old.keys l.old.bytes l.skip l.x l.initial.gone l.from l.j l.key l.gone
