use Rattle.std.proofs.Common.{◌≡◌, ◌∙◌, refl}
use Rattle.std.specs.Ordering.{ord_min}
use Rattle.read_types.specs.contracts.FaultOrd.TheImpl as FaultOrd
use Rattle.read_types.specs.declared.Fault.{Fault}
use Rattle.read_types.specs.Verdicts.{lower_fault}
use Rattle.read_types.proofs.lower_fault.Goals as goal

least : (f g : Fault) → ord_min FaultOrd.cmp-value.it f g ≡ lower_fault f g
unfolding lower_fault
least Fault.Undeclared Fault.Undeclared = refl
least Fault.Undeclared Fault.WrongType = refl
least Fault.Undeclared Fault.WrongTarget = refl
least Fault.WrongType Fault.Undeclared = refl
least Fault.WrongType Fault.WrongType = refl
least Fault.WrongType Fault.WrongTarget = refl
least Fault.WrongTarget Fault.Undeclared = refl
least Fault.WrongTarget Fault.WrongType = refl
least Fault.WrongTarget Fault.WrongTarget = refl

pub returns : goal.returns
returns c = c.min.ensures ∙ least c.args.f c.args.g
