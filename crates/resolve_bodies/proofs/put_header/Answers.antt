use Rattle.std.proofs.lemmas.Result.{err_from_is_err_and}
use mathlib.Core.Path.{refl}
use Rattle.resolve_pass.specs.Passes.{LineTried}
use Rattle.resolve_bodies.proofs.Items.{item-done, item-bad}
use Rattle.resolve_bodies.proofs.Steps.{header-line}
use Rattle.resolve_bodies.proofs.put_header.Goals as goal

pub returns-in_err-atoms : goal.returns-in_err-atoms
unfolding LineTried
returns-in_err-atoms c =
    let p = err_from_is_err_and c.from_residual.result c.from_residual.ensures.1 in
    rw (p.1, p.2) (item-bad _ _ _ _ _ _ _ c.put_formula.ensures c.in_err-atoms.was)

pub returns : goal.returns
unfolding LineTried
returns c =
    let y = item-done c.put_formula.ensures _ c.in_ok-atoms.was in
    (y.0, (header-line c.requires.0 _ y.1 c.requires.1.0 c.requires.1.1 refl refl refl refl refl, refl))
