use Rattle.read_numbers.proofs.Numbers.{decimal-on, decimal-end, decimal-grows, digit-is}
use Rattle.read_bytes.proofs.Search.{all-at}
use Rattle.rules.specs.Text.{digit}
use lib.ListN.{drop}
use mathlib.Core.Path.{sym, ◌∙◌}
use native.Mathlib.Omega.{arith}
use Rattle.read_numbers.proofs.value_of.Goals as goal

pub overflow_mul-n : goal.overflow_mul-n
overflow_mul-n c =
    omega (arith, decimal-grows (drop c.loop-i.i c.args.w.now) c.loop-i.n, c.loop-i.invariant, c.requires.1)

pub overflow_sub-n : goal.overflow_sub-n
overflow_sub-n c = (digit-is _ (all-at digit c.args.w.now c.loop-i.i c.requires.0 (omega arith))).0

pub overflow_add-n : goal.overflow_add-n
overflow_add-n c =
    let d = digit-is _ (all-at digit c.args.w.now c.loop-i.i c.requires.0 (omega arith)) in
    omega (arith, d, decimal-grows (drop c.loop-i.i c.args.w.now) c.loop-i.n, c.loop-i.invariant, c.requires.1)

pub loop-i-preserved : goal.loop-i-preserved
loop-i-preserved c =
    sym (decimal-on c.loop-i.n c.args.w.now c.loop-i.i (omega arith)) ∙ c.loop-i.invariant

pub returns : goal.returns
returns c = sym (decimal-end c.loop-i.n c.args.w.now c.loop-i.i (omega arith)) ∙ c.loop-i.invariant
