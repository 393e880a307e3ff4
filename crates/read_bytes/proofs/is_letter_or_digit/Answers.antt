use Rattle.read_bytes.proofs.Bytes.{alnum-small, alnum-capital, alnum-digit}
use mathlib.Core.Path.{sym, ◌∙◌}
use Rattle.read_bytes.proofs.is_letter_or_digit.Goals as goal

pub returns-then-b-ge-LOWER_A : goal.returns-then-b-ge-LOWER_A
returns-then-b-ge-LOWER_A c = sym (alnum-small c.args.b c.if-b-ge-LOWER_A.true)

pub returns-then-b-ge-UPPER_A : goal.returns-then-b-ge-UPPER_A
returns-then-b-ge-UPPER_A c = sym (alnum-capital c.args.b c.if-b-ge-LOWER_A.false c.if-b-ge-UPPER_A.true)

pub returns : goal.returns
returns c = c.is_digit.ensures ∙ sym (alnum-digit c.args.b c.if-b-ge-UPPER_A.false)
