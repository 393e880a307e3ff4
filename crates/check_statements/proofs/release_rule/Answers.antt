use Rattle.check_state.proofs.Whole.{whole}
use Prim.Native.Nat.{ℕ}
use Rattle.check_entailment.proofs.Refusals.{passed-on}
use Rattle.check_entailment.specs.Answers.{Adds}
use Rattle.check_state.specs.States.{state_of}
use Rattle.rules.specs.Syntax.{Formula}
use Rattle.std.specs.Prelude.{Ok, Err}
use Rattle.check_statements.proofs.Ruled.{plain, release-refused, release-law}
use Rattle.check_statements.specs.Statements.{release_rule}
use mathlib.Core.Path.{subst}
use Rattle.check_statements.proofs.release_rule.Goals as goal

pub returns-in_err-show : goal.returns-in_err-show
returns-in_err-show c =
    rw (passed-on _ _ c.from_residual.ensures.1)
    (subst (λ (φ : Formula ℕ). Adds (release_rule φ (state_of c.args.known.now.keys c.args.known.now.bytes)) (Err c.in_err-show.field-0.0) c.args.known.now.keys c.args.known.now.bytes) (plain _ _ _) (release-refused c.args.known.now.keys c.args.known.now.bytes _ c.show.new.left _ c.in_err-show.ensures.1 (whole c.args.known.now.sound)))

pub returns : goal.returns
returns c =
    subst (λ (φ : Formula ℕ). Adds (release_rule φ (state_of c.args.known.now.keys c.args.known.now.bytes)) (Ok tt) c.remainder.new.known.keys c.remainder.new.known.bytes) (plain _ _ _) (release-law c.args.known.now.keys c.args.known.now.bytes _ c.show.new.left _ _ c.in_ok-show.ensures.1 c.remainder.ensures)
