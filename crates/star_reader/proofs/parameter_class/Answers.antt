use mathlib.Core.Path.{ap, ◌∙◌}
use Rattle.rules.specs.Scope.{declarations}
use Rattle.rules.specs.Names.{class_number}
use Rattle.read_names.specs.Rows.{name_in}
use Rattle.read_scopes.specs.Meanings.{declarations_in}
use Rattle.read_declarations.specs.Texts.{lines_of}
use Rattle.star_reader.proofs.Headers.{takes-is, class-is}
use Rattle.star_reader.proofs.parameter_class.Goals as goal

pub returns : goal.returns
returns c =
    c.class_number.ensures.0 ∙ (ap (λ n. class_number (declarations_in c.args.text.now c.args.work.now n) c.name_in.result.now) c.class_names-c.ensures ∙ (class-is c.requires _ ∙ ap (class_number (declarations (lines_of c.args.text.now))) (c.name_in.ensures ∙ (ap (name_in c.args.text.now) c.takes_at-takes.ensures ∙ takes-is c.requires))))
