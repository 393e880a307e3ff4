use Prim.Native.Nat.{◌-◌}
use Rattle.read_numbers.proofs.Numbers.{no-led, led-well, led-zero, less-is}
use mathlib.Core.Path.{sym, ◌∙◌}
use native.Mathlib.Omega.{arith}
use Rattle.read_numbers.proofs.is_led.Goals as goal

pub returns-then-end-from : goal.returns-then-end-from
returns-then-end-from c = sym (no-led (c.args.end - c.args.from) _ (omega arith))

pub returns-then-l-from-ne-ZERO : goal.returns-then-l-from-ne-ZERO
returns-then-l-from-ne-ZERO c = sym (led-well (c.args.end - c.args.from) _ (omega arith) c.if-l-from-ne-ZERO.true)

pub returns : goal.returns
returns c = less-is c.args.from c.args.end ∙ sym (led-zero (c.args.end - c.args.from) _ (omega arith) c.if-l-from-ne-ZERO.false)
