use lib.Bits.{bit_and, and_le_r, xor_lt}
use native.Mathlib.Omega.{arith}
use Rattle.read_bytes.proofs.marks.line_marks.Goals as goal

pub overflow_add-tab : goal.overflow_add-tab
overflow_add-tab c = let h = and_le_r c.args.x 0x7f7f7f7f7f7f7f7f in omega (arith, xor_lt 63 (bit_and c.args.x 0x7f7f7f7f7f7f7f7f) 0x0909090909090909 (omega arith) (omega arith))
