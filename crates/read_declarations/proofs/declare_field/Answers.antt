use mathlib.Core.Path.{ap, ◌∙◌}
use native.Mathlib.Omega.{arith}
use Rattle.rules.specs.Text.{is_name}
use Rattle.read_declarations.proofs.Lines.{span_fits, second}
use Rattle.read_declarations.proofs.Adds.{field_fits, field-adds}
use Rattle.read_declarations.proofs.declare_field.Goals as goal

pub add_field-requires : goal.add_field-requires
add_field-requires c =
    let n = second c.span_after-gives.ensures c.span_after-name.ensures in
    let f = span_fits c.args.text.now c.span_after-gives.result c.requires.0.text c.span_after-gives.ensures.high (ap is_name c.span_after-gives.ensures.name ∙ c.requires.3) in
    let g = span_fits c.args.text.now c.span_after-name.result c.requires.0.text c.span_after-name.ensures.high (ap is_name n ∙ c.requires.4) in
    (c.requires.2, field_fits (omega (arith, c.owner.ensures, c.requires.0.fits.classes)) g f)

pub returns : goal.returns
returns c =
    let n = second c.span_after-gives.ensures c.span_after-name.ensures in
    let f = span_fits c.args.text.now c.span_after-gives.result c.requires.0.text c.span_after-gives.ensures.high (ap is_name c.span_after-gives.ensures.name ∙ c.requires.3) in
    let g = span_fits c.args.text.now c.span_after-name.result c.requires.0.text c.span_after-name.ensures.high (ap is_name n ∙ c.requires.4) in
    field-adds c.requires.0 _ c.owner.result c.span_after-name.result c.span_after-gives.result c.owner.ensures n c.span_after-gives.ensures.name
    (field_fits (omega (arith, c.owner.ensures, c.requires.0.fits.classes)) g f) c.requires.2 c.add_field.ensures.0 c.add_field.ensures.1
