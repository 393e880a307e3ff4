use lib.Bits.{bit_and, and_le_r, or_lt}
use native.Mathlib.Omega.{arith}
use Rattle.read_bytes.proofs.marks.name_marks.Goals as goal

pub overflow_add-letter : goal.overflow_add-letter
overflow_add-letter c = let h = and_le_r c.args.x 0x7f7f7f7f7f7f7f7f in omega (arith, or_lt 63 (bit_and c.args.x 0x7f7f7f7f7f7f7f7f) 0x2020202020202020 (omega arith) (omega arith))

pub overflow_add-letter-2 : goal.overflow_add-letter-2
overflow_add-letter-2 c = let h = and_le_r c.args.x 0x7f7f7f7f7f7f7f7f in omega (arith, or_lt 63 (bit_and c.args.x 0x7f7f7f7f7f7f7f7f) 0x2020202020202020 (omega arith) (omega arith))
