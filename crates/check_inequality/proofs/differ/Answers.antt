use Rattle.check_state.proofs.Whole.{whole}
use Rattle.check_inequality.proofs.Ways.{by_values}
use Rattle.check_inequality.proofs.differ.Goals as goal

pub returns-then-are_two_numbers : goal.returns-then-are_two_numbers
returns-then-are_two_numbers c =
    let d = c.are_two_numbers.ensures c.if-are_two_numbers.true in
    by_values c.args.known.now.keys c.args.known.now.bytes (whole c.args.known.now.sound) _ _ d.0 d.1 d.2
