use Rattle.read_types.proofs.Types.{null-agrees, int-agrees}
use Rattle.read_types.specs.Types.{type_meant}
use Rattle.read_types.proofs.agree.Goals as goal

pub returns-in-Null : goal.returns-in-Null
unfolding type_meant
returns-in-Null c = rw (c.in-Null.is, c.is_int_type.ensures) (null-agrees _ _)

pub returns-in-Int : goal.returns-in-Int
unfolding type_meant
returns-in-Int c = rw (c.in-Int.is, c.is_int_type-in-Int.ensures) (int-agrees _ _)
