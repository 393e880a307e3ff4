use mathlib.Core.Path.{sym, ap, ◌∙◌}
use mathlib.Core.Bool.{not, ◌&&◌}
use Rattle.rules.specs.declared.Kind.TheVariants.{Requires}
use Rattle.rules.specs.Numbered.{number}
use Rattle.rules.proofs.KindNumbers.{bounds, same_eqb}
use Rattle.resolve_pass.specs.Passes.{seen_by}
use Rattle.resolve_bodies.proofs.Items.{seen-result}
use Rattle.resolve_bodies.proofs.seen.Goals as goal

pub returns : goal.returns
unfolding seen_by
returns c =
    let e = c.unless.ensures ∙ ap (λ b. c.args.c.method && not b) (c.eq.ensures ∙ same_eqb c.args.kind Requires ∙ sym (seen-result (number c.args.kind) (bounds c.args.kind))) in
    λ j. record {
      classes = c.args.c.classes;
      fields = c.args.c.fields;
      methods = c.args.c.methods;
      method = c.args.c.method;
      locals = c.args.c.locals;
      result = e j;
    }
