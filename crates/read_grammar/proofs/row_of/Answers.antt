use mathlib.Core.Path.{ap, ◌∙◌}
use Rattle.rules.specs.Numbered.{number}
use Rattle.read_grammar.specs.Rows.{kind_numbered}
use Rattle.read_grammar.proofs.Rows.{unpacked, row_back}
use Rattle.read_grammar.proofs.row_of.Goals as goal

pub returns : goal.returns
returns c = ap unpacked c.row_number-n.ensures ∙ row_back (kind_numbered (number c.args.kind))
