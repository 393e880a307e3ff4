use mathlib.Core.Path.{sym, ap, ◌∙◌}
use native.Mathlib.Omega.{arith}
use lib.ListN.{length}
use Rattle.filler.proofs.Choosing.{class-there, class-few, no-class}
use Rattle.filler.proofs.fields_of.Goals as goal

-- `filler::fields_of` meets its contract. Assumes nothing.
pub returns-then-c-byte_at : goal.returns-then-c-byte_at
returns-then-c-byte_at c =
    (c.field_count_at.ensures.0 ∙ sym (class-there c.args.work.now c.requires _ _ c.byte_at.ensures.0 c.if-c-byte_at.true), class-few c.args.work.now c.requires _ _ _ c.byte_at.ensures.0 c.if-c-byte_at.true c.field_count_at.ensures.0)

pub returns : goal.returns
returns c =
    (sym (ap length (no-class c.args.work.now c.requires _ _ c.byte_at.ensures.0 c.if-c-byte_at.false)), omega arith)
