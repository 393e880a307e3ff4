use Rattle.rules.specs.Printed.{digits}
use Rattle.printer.proofs.put_number.Goals as goal

pub returns : goal.returns
unfolding digits
returns c = c.put_digits.ensures
