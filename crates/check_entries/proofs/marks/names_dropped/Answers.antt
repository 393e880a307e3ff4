use Rattle.check_entries.specs.PathsOut.{kept_names, path_out}
use Rattle.std.proofs.Common.{rules}
use mathlib.Core.Bool.{true, not}
use mathlib.Core.Path.{sym, ap, ◌∙◌}
use Rattle.check_entries.proofs.marks.names_dropped.Goals as goal

pub returns-then-names_marked : goal.returns-then-names_marked
unfolding kept_names path_out
returns-then-names_marked c =
    rw (sym c.names_marked.ensures ∙ c.if-names_marked.true) (ap not (c.names_with.ensures true (λ o r p. search rules)))
