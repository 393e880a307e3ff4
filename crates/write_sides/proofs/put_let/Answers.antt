use Rattle.std.proofs.lemmas.Result.{err_from_is_err_and}
use mathlib.Core.Path.{◌≡◌, sym, ap, subst, ◌∙◌}
use mathlib.Core.Bool.{true}
use Rattle.rules.specs.Text.{is_expr}
use Rattle.tables.specs.declared.Expr as Tables
use Rattle.write_rows.specs.Puts.{put_row}
use Rattle.write_rows.proofs.Atoms.{side_bytes}
use Rattle.read_declarations.proofs.Lines.{second}
use Rattle.write_sides.proofs.Sides.{let-formed, let-atom, let-bad, let-done}
use Rattle.write_sides.proofs.put_let.Goals as goal

pub look-l-requires : goal.look-l-requires
look-l-requires c =
    let e = c.name_in-2.ensures ∙ second c.span_after-a.ensures c.span_after-b.ensures in (c.requires.0.fits, subst (λ z. is_expr z ≡ true) (sym e) (let-formed c.args.text.now c.args.work.now c.args.c c.args.r c.args.i c.args.n c.args.line c.requires.0 c.requires.2 c.requires.1))

pub returns-in_err-judge_let : goal.returns-in_err-judge_let
returns-in_err-judge_let c =
    let p = err_from_is_err_and c.from_residual.result c.from_residual.ensures.1 in
    rw (p.1, p.2)
    (let-bad c.args.text.now c.args.work.now c.args.c c.args.r c.args.i c.args.n c.args.line c.requires.0 c.requires.2 c.requires.1 c.span_after-a.ensures c.span_after-b.ensures c.name_in.ensures c.name_in-2.ensures c.variable-x.ensures c.look-l.ensures c.judge_let.ensures c.in_err-judge_let.was)

pub put_atom-requires : goal.put_atom-requires
put_atom-requires c =
    let o = let-atom c.args.text.now c.args.work.now c.args.c c.args.r c.args.i c.args.n c.args.line c.requires.0 c.requires.2 c.requires.1 c.span_after-a.ensures c.span_after-b.ensures c.name_in.ensures c.name_in-2.ensures c.variable-x.ensures c.look-l.ensures c.judge_let.ensures c.in_ok-judge_let.was in
    (c.requires.1.room, (side_bytes Tables.Expr.Null o.left, side_bytes _ o.right))

pub returns : goal.returns
returns c =
    let-done c.args.text.now c.args.work.now c.args.c c.args.r c.args.i c.args.n c.args.line c.requires.0 c.requires.2 c.requires.1 c.span_after-a.ensures c.span_after-b.ensures c.name_in.ensures c.name_in-2.ensures c.variable-x.ensures c.look-l.ensures c.judge_let.ensures c.in_ok-judge_let.was c.put_atom.ensures (c.put_row.ensures ∙ ap (put_row _ c.args.i) c.row.ensures)
