use Rattle.check_state.proofs.Whole.{whole, slots-of}
use Rattle.check_inequality.proofs.Searches.{null-like}
use Rattle.rules.specs.State.{null_and_object}
use mathlib.Core.Path.{sym, ◌∙◌}
use Rattle.check_inequality.proofs.null_and_object.Goals as goal

pub returns-then-alike : goal.returns-then-alike
unfolding null_and_object
returns-then-alike c =
    λ fs D. rw (null-like (slots-of (whole c.args.known.now.sound)) D _ _ c.requires.0 ∙ sym c.alike.ensures ∙ c.if-alike.true) (c.some_object.ensures fs D)

pub returns : goal.returns
unfolding null_and_object
returns c =
    λ fs D. rw (null-like (slots-of (whole c.args.known.now.sound)) D _ _ c.requires.0 ∙ sym c.alike.ensures ∙ c.if-alike.false)
