use Rattle.read_lookups.proofs.LookUps.{method-at, method-past}
use Rattle.read_scopes.specs.Meanings.{as_method}
use Rattle.read_names.specs.Rows.{name_in, entry_at}
use Rattle.rules.specs.Scope.{MethodDeclaration}
use mathlib.Core.Path.{sym, ap, ◌∙◌}
use Rattle.read_lookups.proofs.members.parameter_type.Goals as goal

pub returns-then-i-c : goal.returns-then-i-c
unfolding as_method entry_at
returns-then-i-c c = λ t. ap (name_in t) c.takes_at.ensures ∙ sym (ap (λ (d : MethodDeclaration). d.parameter_type) (method-at _ _ _ _ c.if-i-c.true))

pub returns : goal.returns
returns c = λ t. ap (name_in t) c.no_span.ensures ∙ sym (ap (λ (d : MethodDeclaration). d.parameter_type) (method-past _ _ _ _ c.if-i-c.false))
