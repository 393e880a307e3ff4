use Rattle.check_state.proofs.Whole.{whole}
use Rattle.check_forgetting.proofs.Changes.{named-term}
use Rattle.check_successors.specs.Successors.{term_or}
use Rattle.check_state.specs.Questions.{variable_or}
use Rattle.check_equality.specs.Keys.{term_of}
use Prim.Native.Nat.{ℕ}
use mathlib.Core.Option.{some}
use mathlib.Core.Path.{ap, ◌∙◌}
use native.Mathlib.Omega.{arith}
use Rattle.check_forgetting.proofs.removed.Goals as goal

pub returns-in-Some : goal.returns-in-Some
unfolding variable_or term_or
returns-in-Some c = rw c.in-Some.is (ap (λ (k : ℕ). some (term_of k)) c.rename.ensures ∙ named-term _ _ _ (omega arith) (whole c.args.known.now.sound) _ (omega arith) _)

pub returns-in-None : goal.returns-in-None
unfolding variable_or
returns-in-None c = rw c.in-None.is c.left_over.ensures
