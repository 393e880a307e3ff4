use mathlib.Core.Path.{sym, ◌∙◌}
use Rattle.std.proofs.lemmas.Result.{err_from_is_err_and}
use Rattle.resolve_atoms.proofs.Sides.{compared-row, side-bad, apart-bad}
use Rattle.resolve_atoms.proofs.compared.Goals as goal

pub returns-in_err-lower : goal.returns-in_err-lower
returns-in_err-lower c =
    let p = err_from_is_err_and c.from_residual.result c.from_residual.ensures.1 in
    rw (p.1, p.2)
    (side-bad _ _ _ c.requires.0.fits _ _ _ _ _ c.look-x.ensures c.look-y.ensures c.lower.ensures c.in_err-lower.was)

pub returns-then-not-agree : goal.returns-then-not-agree
returns-then-not-agree c =
    apart-bad _ _ _ c.requires.0.fits _ _ _ _ _ c.look-x.ensures
    c.look-y.ensures c.lower.ensures c.in_ok-lower.was (sym c.agree.ensures
    ∙ c.if-not-agree.true)

pub returns : goal.returns
returns c =
    compared-row _ _ _ c.requires.0.fits _ _ _ _ _
    c.look-x.ensures c.look-y.ensures c.lower.ensures
    c.in_ok-lower.was c.requires.1 (sym c.agree.ensures
    ∙ c.if-not-agree.false)
