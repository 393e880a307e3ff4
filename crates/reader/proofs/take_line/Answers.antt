use mathlib.Core.Path.{ap, ◌∙◌}
use Rattle.reader.specs.Readings.{with_unframed}
use Rattle.reader.proofs.take_line.Goals as goal

pub returns : goal.returns
returns c = c.with_unframed.ensures ∙ ap (with_unframed _) c.first_unframed-u.ensures
