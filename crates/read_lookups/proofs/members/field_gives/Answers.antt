use mathlib.Core.Path.{sym, ap, ◌∙◌}
use Rattle.read_names.specs.Rows.{name_in}
use Rattle.read_lookups.proofs.LookUps.{field_at, field_past}
use Rattle.read_lookups.proofs.members.field_gives.Goals as goal

pub returns-then-i-c : goal.returns-then-i-c
returns-then-i-c c =
    λ t. ap (name_in t) c.gives_at.ensures ∙ sym (field_at t _ _ _ c.if-i-c.true)

pub returns : goal.returns
returns c =
    λ t. ap (name_in t) c.no_span.ensures ∙ sym (field_past t _ _ _ c.if-i-c.false)
