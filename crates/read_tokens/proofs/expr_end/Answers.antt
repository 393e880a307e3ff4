use Rattle.read_tokens.proofs.Exprs.{numeral-at, number-field}
use Rattle.rules.specs.Text.{numeral}
use lib.ListN.{drop}
use mathlib.Core.Bool.{true}
use mathlib.Core.Path.{◌≡◌, sym, ◌∙◌}
use Rattle.read_tokens.proofs.expr_end.Goals as goal

pub returns-then-begins_number : goal.returns-then-begins_number
returns-then-begins_number c =
    let n : numeral (drop c.args.at c.args.l.now) ≡ true = numeral-at c.args.l.now c.args.at ∙ rw (← c.byte_at.ensures) (sym c.begins_number.ensures ∙ c.if-begins_number.true) in rw (number-field _ n) c.number_end.ensures

pub path_end-requires : goal.path_end-requires
path_end-requires c =
    (c.requires, c.find-d.ensures, numeral-at c.args.l.now c.args.at ∙ rw (← c.byte_at.ensures) (sym c.begins_number.ensures ∙ c.if-begins_number.false))
