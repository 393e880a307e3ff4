use mathlib.Core.Path.{ap, ◌∙◌}
use Rattle.rules.specs.Text.{is_name}
use Rattle.read_names.specs.Rows.{entry_of}
use Rattle.read_declarations.specs.Declares.{method_entry}
use Rattle.read_declarations.proofs.Lines.{span_fits, second, third, fourth}
use Rattle.read_declarations.proofs.method_row.Goals as goal

pub returns : goal.returns
unfolding entry_of method_entry
returns c =
    let n = second c.span_after-gives.ensures c.span_after-name.ensures in
    let m = third c.span_after-gives.ensures c.span_after-name.ensures c.span_after-takes.ensures in
    let f = span_fits c.args.text.now c.span_after-gives.result c.requires.0 c.span_after-gives.ensures.high (ap is_name c.span_after-gives.ensures.name ∙ c.requires.3) in
    let g = span_fits c.args.text.now c.span_after-name.result c.requires.0 c.span_after-name.ensures.high (ap is_name n ∙ c.requires.4) in
    let h = span_fits c.args.text.now c.span_after-takes.result c.requires.0 c.span_after-takes.ensures.high (ap is_name m ∙ c.requires.5) in
    record {
      is = λ j. record { owner = c.args.owner; name = n j; gives = c.span_after-gives.ensures.name j; takes = m j };
      fits = record { owner = c.requires.2; name = g; gives = f; takes = h };
      high = c.span_after-takes.ensures.high;
      parameter = fourth c.span_after-gives.ensures c.span_after-name.ensures c.span_after-takes.ensures;
    }
