use Rattle.check_state.proofs.Whole.{whole}
use Rattle.check_state.specs.States.{state_of}
use Rattle.check_successors.specs.Successors.{term_or}
use Rattle.rules.specs.Rules.{add_equal}
use Rattle.check_statements.proofs.Ruled.{adds-ok, equal-some}
use Rattle.check_statements.proofs.add_equal.Goals as goal

pub returns-in-Some : goal.returns-in-Some
unfolding term_or
returns-in-Some c = rw c.in-Some.is (equal-some _ _ _ (state_of c.args.known.now.keys c.args.known.now.bytes) _ _ _ c.variable_key.ensures.0 c.add_fact.ensures)

pub returns-in-None : goal.returns-in-None
unfolding term_or add_equal
returns-in-None c = rw c.in-None.is (adds-ok _ _ (whole c.args.known.now.sound))
