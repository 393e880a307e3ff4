use Rattle.write_rows.proofs.Puts.{class-stores}
use Rattle.write_rows.proofs.put_class_row.Goals as goal

pub returns : goal.returns
returns c = class-stores _ _ c.put_byte.ensures c.fill.ensures
