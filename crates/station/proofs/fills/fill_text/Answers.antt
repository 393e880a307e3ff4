use Rattle.std.proofs.lemmas.Result.{err_from_is_err_and}
use Rattle.station.proofs.Filling.{unstarred, starred, no-places, text-star}
use Rattle.station.proofs.fills.fill_text.Goals as goal

pub fill_star-requires : goal.fill_star-requires
fill_star-requires c =
    let x = starred _ c.in_ok-star.ensures in (x.tables, x.within, x.spare, no-places _ c.requires c.clear.ensures)

pub returns-in_err-star : goal.returns-in_err-star
returns-in_err-star c =
    let p = err_from_is_err_and c.from_residual.result c.from_residual.ensures.1 in
    rw (p.1, p.2) (unstarred _ _ _ c.in_err-star.ensures (no-places _ c.requires c.clear.ensures))

pub returns : goal.returns
returns c = text-star (starred _ c.in_ok-star.ensures) _ c.fill_star.ensures
