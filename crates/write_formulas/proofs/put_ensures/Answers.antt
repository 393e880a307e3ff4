use Rattle.std.proofs.lemmas.Result.{err_from_is_err_and}
use native.Mathlib.Omega.{arith}
use Rattle.write_formulas.proofs.Claims.{header-room, ensures-put, follows-line, tried-done, header-bad, header-done}
use Rattle.write_formulas.proofs.put_ensures.Goals as goal

-- `write_formulas::put_ensures` meets its contract. Assumes nothing.
pub put_formula-requires : goal.put_formula-requires
put_formula-requires c = (c.requires.0, follows-line (omega arith) c.requires.1)

pub overflow_sub-e : goal.overflow_sub-e
overflow_sub-e c =
    (header-room c.requires.0 c.requires.1 c.requires.2 _ c.put_formula.ensures c.in_ok-e.was).0

pub put_ensures-requires : goal.put_ensures-requires
put_ensures-requires c =
    (header-room c.requires.0 c.requires.1 c.requires.2 _ c.put_formula.ensures c.in_ok-e.was).1

pub returns-in_err-e : goal.returns-in_err-e
returns-in_err-e c =
    let p = err_from_is_err_and c.from_residual.result c.from_residual.ensures.1 in
    rw (p.1, p.2) (header-bad _ _ _ _ _ _ _ c.put_formula.ensures c.in_err-e.was _ _)

pub returns : goal.returns
returns c =
    let y = tried-done _ _ _ _ _ _ _ c.put_formula.ensures _ c.in_ok-e.was in
    header-done _ _ _ _ _ _ _ _ _ y.0 (ensures-put c.requires.1 c.requires.2 y.1 c.put_ensures.ensures)
