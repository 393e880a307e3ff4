use Rattle.std.proofs.lemmas.Result.{err_from_is_err_and}
use Rattle.station.proofs.Texts.{unread-found, read-found}
use Rattle.station.proofs.read_text.Goals as goal

pub returns-in_err-read : goal.returns-in_err-read
returns-in_err-read c =
    let p = err_from_is_err_and c.from_residual.result c.from_residual.ensures.1 in
    rw (p.1, p.2) (unread-found c.read.array_long _ c.in_err-read.ensures)

pub returns : goal.returns
returns c = read-found c.read.array_long _ c.in_ok-read.ensures
