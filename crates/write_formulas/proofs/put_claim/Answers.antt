use Rattle.std.proofs.lemmas.Result.{err_from_is_err_and}
use mathlib.Core.Path.{sym, ap, subst, ◌∙◌}
use native.Mathlib.Omega.{arith}
use Rattle.rules.specs.Numbered.{number}
use Rattle.write_rows.specs.Puts.{put_row, RowBytes}
use Rattle.write_formulas.proofs.Claims.{claim-line, claim-least, claim-bytes, claim-put, tried-done, claim-bad, claim-done}
use Rattle.write_formulas.proofs.put_claim.Goals as goal

-- `write_formulas::put_claim` meets its contract. Assumes nothing.
pub put_formula-requires : goal.put_formula-requires
put_formula-requires c =
    (c.requires.0, claim-line (number c.args.kind) c.args.i c.args.line c.requires.0 c.requires.1)

pub row-requires : goal.row-requires
row-requires c =
    let y = tried-done _ _ _ _ _ _ _ c.put_formula.ensures _ c.in_ok-m.was in
    omega (arith, claim-least (number c.args.kind) c.args.i c.args.line c.requires.0 c.requires.1 y.1 c.requires.3 c.formula_first-first.ensures)

pub put_row-requires : goal.put_row-requires
put_row-requires c =
    let y = tried-done _ _ _ _ _ _ _ c.put_formula.ensures _ c.in_ok-m.was in
    (c.requires.2, subst RowBytes (sym c.row.ensures) (claim-bytes (number c.args.kind) c.args.i c.args.line c.requires.0 c.requires.1 y.1 c.requires.3 c.formula_first-first.ensures))

pub returns-in_err-m : goal.returns-in_err-m
returns-in_err-m c =
    let p = err_from_is_err_and c.from_residual.result c.from_residual.ensures.1 in
    rw (p.1, p.2) (claim-bad _ _ _ _ _ _ _ c.put_formula.ensures c.in_err-m.was _ _ _)

pub returns : goal.returns
returns c =
    let y = tried-done _ _ _ _ _ _ _ c.put_formula.ensures _ c.in_ok-m.was in
    claim-done _ _ _ _ _ _ _ _ _ _ y.0 (claim-put (number c.args.kind) c.args.i c.args.line c.requires.0 c.requires.1 y.1 c.requires.3 c.requires.2 c.formula_first-first.ensures _ (c.put_row.ensures ∙ ap (put_row _ c.args.i) c.row.ensures))
