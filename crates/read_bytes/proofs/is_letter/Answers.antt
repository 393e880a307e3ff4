use Rattle.read_bytes.proofs.Bytes.{letter-small, letter-capital}
use mathlib.Core.Path.{sym, ◌∙◌}
use Rattle.read_bytes.proofs.is_letter.Goals as goal

pub returns-then-b-ge-LOWER_A : goal.returns-then-b-ge-LOWER_A
returns-then-b-ge-LOWER_A c = sym (letter-small c.args.b c.if-b-ge-LOWER_A.true)

pub returns : goal.returns
returns c = c.between.ensures ∙ sym (letter-capital c.args.b c.if-b-ge-LOWER_A.false)
