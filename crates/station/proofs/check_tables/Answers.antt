use Rattle.std.proofs.lemmas.Result.{err_from_is_err_and}
use Rattle.station.proofs.Texts.{found-unframed, found-accepted, found-refused}
use Rattle.station.proofs.check_tables.Goals as goal

-- `station::check_tables` meets its contract. Assumes nothing.
pub returns-in-Some : goal.returns-in-Some
returns-in-Some c = found-unframed _ _ _ c.in-Some.is

pub returns-in_err-check : goal.returns-in_err-check
returns-in_err-check c =
    let p = err_from_is_err_and c.from_residual.result c.from_residual.ensures.1 in
    rw (p.1, p.2) (found-refused _ _ c.in_default.is _ c.check.ensures _ c.in_err-check.was)

pub returns : goal.returns
returns c = found-accepted _ _ c.in_default.is _ c.check.ensures c.in_ok-check.was
