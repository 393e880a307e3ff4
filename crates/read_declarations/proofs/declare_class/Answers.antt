use mathlib.Core.Path.{ap, ◌∙◌}
use Rattle.rules.specs.Text.{is_name}
use Rattle.read_declarations.proofs.Lines.{span_fits}
use Rattle.read_declarations.proofs.Adds.{class-adds}
use Rattle.read_declarations.proofs.declare_class.Goals as goal

pub add_class-requires : goal.add_class-requires
add_class-requires c =
    (c.requires.2, span_fits c.args.text.now c.span_after-name.result c.requires.0.text c.span_after-name.ensures.high (ap is_name c.span_after-name.ensures.name ∙ c.requires.3))

pub returns : goal.returns
returns c =
    let f = span_fits c.args.text.now c.span_after-name.result c.requires.0.text c.span_after-name.ensures.high (ap is_name c.span_after-name.ensures.name ∙ c.requires.3) in
    class-adds c.requires.0 _ c.span_after-name.result c.span_after-name.ensures.name f c.requires.2 c.add_class.ensures.0 c.add_class.ensures.1
