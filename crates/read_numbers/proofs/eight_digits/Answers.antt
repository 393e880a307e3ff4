use Prim.Native.Nat.{◌+◌}
use Rattle.read_numbers.proofs.Numbers.{eight-sum}
use lib.ListN.{get_or}
use Rattle.read_numbers.proofs.eight_digits.Goals as goal

pub overflow_sub-result : goal.overflow_sub-result
overflow_sub-result c =
    (eight-sum (get_or c.args.l.now c.args.i 0) (get_or c.args.l.now (c.args.i + 1) 0) (get_or c.args.l.now (c.args.i + 2) 0) (get_or c.args.l.now (c.args.i + 3) 0) (get_or c.args.l.now (c.args.i + 4) 0) (get_or c.args.l.now (c.args.i + 5) 0) (get_or c.args.l.now (c.args.i + 6) 0) (get_or c.args.l.now (c.args.i + 7) 0) c.requires.1).0

pub returns : goal.returns
returns c =
    (eight-sum (get_or c.args.l.now c.args.i 0) (get_or c.args.l.now (c.args.i + 1) 0) (get_or c.args.l.now (c.args.i + 2) 0) (get_or c.args.l.now (c.args.i + 3) 0) (get_or c.args.l.now (c.args.i + 4) 0) (get_or c.args.l.now (c.args.i + 5) 0) (get_or c.args.l.now (c.args.i + 6) 0) (get_or c.args.l.now (c.args.i + 7) 0) c.requires.1).1
