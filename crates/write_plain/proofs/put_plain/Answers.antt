use Rattle.std.proofs.lemmas.Result.{err_from_is_err_and}
use mathlib.Core.Path.{refl, sym, subst, ap, ◌∙◌}
use Rattle.rules.specs.Numbered.{number}
use Rattle.write_rows.specs.Puts.{put_row, RowBytes}
use Rattle.write_plain.proofs.Puts.{plain-bytes, row_is, row-none, plain_done, plain-bad}
use Rattle.write_plain.proofs.put_plain.Goals as goal

pub put_row-requires : goal.put_row-requires
put_row-requires c =
    let g = row_is _ _ _ c.plain_row.result c.in_ok-o.was (rw c.number_of.ensures at c.plain_row.ensures) in
    (c.requires.2, subst RowBytes (sym g.1) (plain-bytes c.args.text.now c.args.work.now c.args.c c.requires.0.fits c.args.line _ (number c.args.kind) c.requires.1.kind c.requires.3 g.0))

pub returns-in_err-o : goal.returns-in_err-o
returns-in_err-o c =
    let p = err_from_is_err_and c.from_residual.result c.from_residual.ensures.1 in
    rw (p.1, p.2)
    (plain-bad c.args.text.now c.args.work.now c.args.c (number c.args.kind) c.args.r c.args.i c.args.line _ c.requires.0 c.requires.1 _
    (row-none _ _ c.plain_row.result _ c.in_err-o.was (rw c.number_of.ensures at c.plain_row.ensures)) refl)

pub returns : goal.returns
returns c =
    let g = row_is _ _ _ c.plain_row.result c.in_ok-o.was (rw c.number_of.ensures at c.plain_row.ensures) in
    plain_done c.args.text.now c.args.work.now c.args.c (number c.args.kind) c.args.r c.args.i c.args.line _ c.requires.0 c.requires.1 c.requires.2 g.0
    (c.put_row.ensures ∙ ap (put_row c.args.work.now c.args.i) g.1)
