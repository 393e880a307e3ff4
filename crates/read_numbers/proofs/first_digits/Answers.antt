use Rattle.read_numbers.proofs.Numbers.{begun-none, begun-eight}
use Rattle.read_numbers.proofs.first_digits.Goals as goal

pub returns-then-has_eight : goal.returns-then-has_eight
returns-then-has_eight c = let h = c.has_eight.ensures c.if-has_eight.true in begun-eight c.args.l.now c.args.at c.eight_digits.result h.0 h.1 c.eight_digits.ensures

pub returns : goal.returns
returns c = begun-none c.args.l.now c.args.at
