use Rattle.std.proofs.lemmas.Result.{err_from_is_err_and}
use Rattle.station.proofs.Texts.{tabled, unread-checked, checked-found}
use Rattle.station.proofs.check_text.Goals as goal

pub check_tables-requires : goal.check_tables-requires
check_tables-requires c = (tabled _ _ _ c.in_ok-unframed.ensures).tables

pub returns-in_err-unframed : goal.returns-in_err-unframed
returns-in_err-unframed c =
    let p = err_from_is_err_and c.from_residual.result c.from_residual.ensures.1 in
    rw (p.1, p.2) (unread-checked c.read.array_long _ c.in_err-unframed.ensures)

pub returns : goal.returns
returns c =
    checked-found c.read.array_long _ c.in_ok-unframed.ensures _ c.check_tables.ensures
