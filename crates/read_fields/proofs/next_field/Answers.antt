use native.Mathlib.Omega.{arith}
use Rattle.read_fields.proofs.Cuts.{no_more, some_more, fields-from}
use Prim.Native.Nat.{◌+◌}
use mathlib.Core.Path.{◌∙◌, sym}
use Rattle.read_fields.proofs.next_field.Goals as goal

pub returns-then-byte_at-ne-TAB : goal.returns-then-byte_at-ne-TAB
returns-then-byte_at-ne-TAB c =
    let n = no_more c.args.t.now c.args.r (λ e. c.if-byte_at-ne-TAB.true (c.byte_at.ensures ∙ e)) in
    record { low = omega arith; high = c.requires; none = λ e. n; some = λ l. absurd (omega arith) }

pub returns : goal.returns
returns c =
    let m = some_more c.args.t.now c.args.r (sym c.byte_at.ensures ∙ c.if-byte_at-ne-TAB.false) in
    record {
      low = omega (arith, c.find.ensures.low);
      high = c.find.ensures.high;
      none = λ e. absurd (omega (arith, c.find.ensures.low, e));
      some = λ l. m ∙ fields-from c.args.t.now (c.args.r + 1) c.find.result c.find.ensures;
    }
