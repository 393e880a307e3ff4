use Rattle.read_numbers.proofs.Numbers.{decimal-eight, digits-eight}
use Rattle.rules.specs.Text.{decimal}
use lib.ListN.{drop}
use mathlib.Core.Path.{sym, ap, ◌∙◌}
use native.Mathlib.Omega.{arith}
use Rattle.read_numbers.proofs.first_value.Goals as goal

pub eight_digits-requires : goal.eight_digits-requires
eight_digits-requires c = (omega arith, digits-eight c.args.w.now 0 (omega arith) c.requires)

pub returns : goal.returns
returns c = (omega arith, ap (λ n. decimal n (drop 8 c.args.w.now)) c.eight_digits.ensures ∙ sym (decimal-eight 0 c.args.w.now 0 (omega arith)))
