use Prim.Native.Nat.{ℕ}
use Rattle.check_state.specs.States.{state_of}
use Rattle.rules.specs.Syntax.{Formula}
use Rattle.check_statements.proofs.Ruled.{plain, assert-law}
use Rattle.check_statements.specs.Statements.{Asserts}
use mathlib.Core.Path.{subst}
use Rattle.check_statements.proofs.assert_rule.Goals as goal

pub returns : goal.returns
returns c =
    subst (λ (φ : Formula ℕ). Asserts φ (state_of c.args.known.now.keys c.args.known.now.bytes) c.show.result) (plain _ _ _) (assert-law c.args.known.now.keys c.args.known.now.bytes _ _ c.show.new.left c.show.ensures.1)
