use Rattle.check_entries.specs.PathsOut.{kept_names, path_out}
use Rattle.check_state.specs.Questions.{places}
use Rattle.rules.specs.Base.{any}
use Rattle.rules.specs.State.{Term}
use Rattle.std.proofs.Common.{rules}
use mathlib.Core.Bool.{true, not}
use mathlib.Core.Path.{ap, ◌∙◌}
use Rattle.check_entries.proofs.marks.drops_entry.Goals as goal

pub returns-then-gone : goal.returns-then-gone
unfolding kept_names path_out
returns-then-gone c =
    rw c.if-gone.true (ap not (c.names_with.ensures true (λ o r p. search rules) ∙ ap (λ (t : Term). any (kept_names c.args.b.now c.args.out.now t) (places c.args.n)) c.path_key.ensures.0))
