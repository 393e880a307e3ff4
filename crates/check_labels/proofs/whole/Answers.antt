use Rattle.std.proofs.Common.{◌+◌, ◌*◌, false, get_or, rules}
use Rattle.check_equality.specs.Layout.{left_sides, right_sides, relations_at}
use Rattle.check_labels.specs.Labels.{even}
use Rattle.check_labels.proofs.whole.Goals as goal

pub returns : goal.returns
returns c =
    λ e j g h.
    c.every.ensures
    (λ i. even (get_or c.args.b.now (relations_at + i) 0) (get_or c.args.gone.now (left_sides + 2 * i) false) (get_or c.args.gone.now (right_sides + 2 * i) false))
    (λ i r a k p. search rules) e j g h
