use Rattle.check_equality.proofs.Keys.{of-null}
use Rattle.check_state.proofs.Entries.{path-kind}
use Rattle.check_state.specs.States.{state_of}
use Rattle.check_equality.specs.Keys.{term_of}
use Rattle.rules.specs.State.{Term, equal_in}
use borrow.Author.Tests.{lt-ltb, le-ltb, lt-leb}
use mathlib.Core.Path.{ap, ◌∙◌}
use Rattle.check_entailment.proofs.shown_by_null.Goals as goal

pub returns-then-want-ge-CHAIN : goal.returns-then-want-ge-CHAIN
returns-then-want-ge-CHAIN c =
    rw (path-kind c.args.want, le-ltb _ _ c.if-want-ge-CHAIN.true)
    (c.equal.ensures ∙ ap (λ (t : Term). equal_in (state_of c.args.known.now.keys c.args.known.now.bytes) t (term_of c.args.k)) of-null)

pub returns-else-want-ge-CHAIN : goal.returns-else-want-ge-CHAIN
returns-else-want-ge-CHAIN c = rw (path-kind c.args.want, lt-ltb _ _ c.if-want-ge-CHAIN.false, lt-leb _ _ c.if-want-ge-CHAIN.false)
