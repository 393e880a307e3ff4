use Rattle.check_entailment.proofs.Showing.{access-shown}
use Rattle.check_entailment.proofs.show_access.Goals as goal

pub returns : goal.returns
returns c =
    (c.take.ensures.0, access-shown c.args.known.now.keys c.args.known.now.bytes c.args.left.now c.args.want _ c.args.y c.args.f _ c.take.new.left c.variable_key.ensures.0 c.take.ensures.1)
