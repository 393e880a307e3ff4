use Rattle.rules.proofs.KindNumbers.{other}
use Rattle.read_grammar.specs.Coded.{branches_after}
use Rattle.read_grammar.proofs.places.branches_after.Goals as goal

pub returns-in-If : goal.returns-in-If
unfolding branches_after
returns-in-If c = rw c.in-If.is

pub returns-in-Else : goal.returns-in-Else
unfolding branches_after
returns-in-Else c = rw c.in-Else.is

pub returns-in-Join : goal.returns-in-Join
unfolding branches_after
returns-in-Join c = rw c.in-Join.is

pub returns-in-Loop : goal.returns-in-Loop
unfolding branches_after
returns-in-Loop c = rw c.in-Loop.is

pub returns-in-Again : goal.returns-in-Again
unfolding branches_after
returns-in-Again c = rw c.in-Again.is

pub returns-in_default : goal.returns-in_default
unfolding branches_after
returns-in_default c =
    rw (other c.in_default.not-If, other c.in_default.not-Else, other c.in_default.not-Join, other c.in_default.not-Loop, other c.in_default.not-Again)
