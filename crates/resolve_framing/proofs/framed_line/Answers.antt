use mathlib.Core.List.{[]}
use mathlib.Core.Path.{ap, sym, ◌∙◌}
use Rattle.rules.specs.declared.Kind.TheVariants.{Loop}
use Rattle.rules.proofs.KindNumbers.{same, apart}
use Rattle.rules.specs.Reading.{framed}
use Rattle.resolve_framing.proofs.Framing.{as-loop, as-formula}
use Rattle.resolve_framing.proofs.framed_line.Goals as goal

pub returns-then-eq : goal.returns-then-eq
returns-then-eq c = c.framed_loop.ensures ∙ ap (framed []) (sym (as-loop _ _ _ _ (same c.args.kind Loop c.if-eq.ensures)))

pub returns : goal.returns
returns c = c.framed.ensures ∙ ap (framed []) (sym (as-formula _ _ _ _ (apart c.args.kind Loop c.if-eq.ensures)))
