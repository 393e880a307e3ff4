use mathlib.Core.Path.{sym, ap, ◌∙◌}
use Rattle.std.proofs.Common.{Some}
use native.Mathlib.Numerals.{add-one}
use Rattle.reader.specs.Readings.{unframed_by}
use Rattle.reader.proofs.Lines.{not-asked, all-framed, one-unframed}
use Rattle.reader.proofs.first_unframed.Goals as goal

-- `reader::first_unframed` meets its contract. Assumes nothing.
pub returns-in-Some : goal.returns-in-Some
unfolding unframed_by
returns-in-Some c = sym (rw c.in-Some.is)

pub returns-then-framed_line : goal.returns-then-framed_line
returns-then-framed_line c = sym (all-framed _ _ c.in_default.is _ _ c.is_framed.ensures c.if-is_framed.true _ c.framed_line.ensures c.if-framed_line.true)

pub returns-then-is_framed : goal.returns-then-is_framed
returns-then-is_framed c = ap Some (add-one _) ∙ sym (one-unframed _ _ c.in_default.is _ _ c.is_framed.ensures c.if-is_framed.true _ c.framed_line.ensures c.if-framed_line.false)

pub returns : goal.returns
returns c = sym (not-asked _ _ c.in_default.is _ _ c.is_framed.ensures c.if-is_framed.false)
