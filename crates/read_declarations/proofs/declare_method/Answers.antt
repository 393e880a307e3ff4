use Rattle.read_declarations.proofs.Adds.{method-adds}
use Rattle.read_declarations.proofs.declare_method.Goals as goal

pub returns : goal.returns
returns c =
    method-adds c.requires.0 _ c.owner.result c.method_row-m.result c.owner.ensures c.method_row-m.ensures c.requires.2 c.add_method.ensures.0 c.add_method.ensures.1
