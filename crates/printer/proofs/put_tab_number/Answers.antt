use Rattle.printer.proofs.Writes.{writes-on}
use Rattle.printer.proofs.put_tab_number.Goals as goal

pub returns : goal.returns
returns c = writes-on c.put-e.ensures c.put_number.ensures
