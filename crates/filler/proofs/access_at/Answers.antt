use Rattle.filler.proofs.Choosing.{of-this, of-parameter, this-small, parameter-small}
use Rattle.filler.proofs.access_at.Goals as goal

pub field_name_at-requires : goal.field_name_at-requires
field_name_at-requires c =
    this-small _ _ c.requires.0 _ c.requires.1 c.if-p-s.true

pub returns-then-p-s : goal.returns-then-p-s
returns-then-p-s c =
    of-this _ _ c.requires.0 _ c.requires.1 _ c.if-p-s.true c.field_name_at.ensures.0

pub field_name_at-requires-2 : goal.field_name_at-requires-2
field_name_at-requires-2 c =
    parameter-small _ _ c.requires.0 _ c.requires.1 c.if-p-s.false c.requires.2

pub returns : goal.returns
returns c =
    of-parameter _ _ c.requires.0 _ c.requires.1 _ c.if-p-s.false c.requires.2 c.field_name_at-2.ensures.0
