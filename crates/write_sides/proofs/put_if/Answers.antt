use Rattle.std.proofs.lemmas.Result.{err_from_is_err_and}
use mathlib.Core.Path.{ap, ◌∙◌}
use Rattle.read_atoms.specs.Atoms.{begun_by}
use Rattle.read_atoms.proofs.Atoms.{kind-begun}
use Rattle.write_rows.specs.Puts.{put_row}
use Rattle.write_rows.proofs.Atoms.{side_bytes}
use Rattle.write_sides.proofs.Sides.{if-kind, if_word, if-atom, if_ok, if-bad, if-done}
use Rattle.write_sides.proofs.put_if.Goals as goal

pub unwrap-kind-requires : goal.unwrap-kind-requires
unwrap-kind-requires c =
    if-kind c.args.text.now c.args.work.now c.args.c c.args.r c.args.i c.args.n c.args.line c.requires.0 c.requires.2 c.requires.1 _ c.span_after-a.ensures c.name_in-word.ensures c.byte_at.ensures c.begun_by.ensures

pub resolve_atom-requires : goal.resolve_atom-requires
resolve_atom-requires c =
    let word = if_word c.args.text.now c.args.work.now c.args.c c.args.r c.args.i c.args.n c.args.line c.requires.0 c.requires.2 c.requires.1 c.span_after-a.ensures c.name_in-word.ensures (kind-begun _ _ _ c.begun_by.ensures c.unwrap-kind.ensures ∙ ap begun_by c.byte_at.ensures) in (
      c.requires.0,
      if-atom c.args.text.now c.args.work.now c.args.c c.args.r c.args.i c.args.n c.args.line c.requires.0 c.requires.2 c.requires.1 c.span_after-a.ensures c.span_after-b.ensures c.span_after-d.ensures word c.name_in-x.ensures c.name_in-y.ensures,
    )

pub put_atom-requires : goal.put_atom-requires
put_atom-requires c =
    let word = if_word c.args.text.now c.args.work.now c.args.c c.args.r c.args.i c.args.n c.args.line c.requires.0 c.requires.2 c.requires.1 c.span_after-a.ensures c.name_in-word.ensures (kind-begun _ _ _ c.begun_by.ensures c.unwrap-kind.ensures ∙ ap begun_by c.byte_at.ensures) in
    let o = if_ok c.args.text.now c.args.work.now c.args.c c.args.r c.args.i c.args.n c.args.line c.requires.0 c.requires.2 c.requires.1 c.span_after-a.ensures c.span_after-b.ensures c.span_after-d.ensures word c.name_in-x.ensures c.name_in-y.ensures c.resolve_atom.result _ c.in_ok-s.was c.resolve_atom.ensures in
    (c.requires.1.room, (side_bytes _ o.left, side_bytes _ o.right))

pub returns-in_err-s : goal.returns-in_err-s
returns-in_err-s c =
    let word = if_word c.args.text.now c.args.work.now c.args.c c.args.r c.args.i c.args.n c.args.line c.requires.0 c.requires.2 c.requires.1 c.span_after-a.ensures c.name_in-word.ensures (kind-begun _ _ _ c.begun_by.ensures c.unwrap-kind.ensures ∙ ap begun_by c.byte_at.ensures) in
    let p = err_from_is_err_and c.from_residual.result c.from_residual.ensures.1 in
    rw (p.1, p.2)
    (if-bad c.args.text.now c.args.work.now c.args.c c.args.r c.args.i c.args.n c.args.line c.requires.0 c.requires.2 c.requires.1 c.span_after-a.ensures c.span_after-b.ensures
    c.span_after-d.ensures word c.name_in-x.ensures c.name_in-y.ensures c.resolve_atom.result c.in_err-s.was
    c.resolve_atom.ensures)

pub returns : goal.returns
returns c =
    let word = if_word c.args.text.now c.args.work.now c.args.c c.args.r c.args.i c.args.n c.args.line c.requires.0 c.requires.2 c.requires.1 c.span_after-a.ensures c.name_in-word.ensures (kind-begun _ _ _ c.begun_by.ensures c.unwrap-kind.ensures ∙ ap begun_by c.byte_at.ensures) in
    if-done c.args.text.now c.args.work.now c.args.c c.args.r c.args.i c.args.n c.args.line c.requires.0 c.requires.2 c.requires.1 c.span_after-a.ensures c.span_after-b.ensures c.span_after-d.ensures word c.name_in-x.ensures c.name_in-y.ensures c.resolve_atom.result _ c.in_ok-s.was c.resolve_atom.ensures c.put_atom.ensures (c.put_row.ensures ∙ ap (put_row _ c.args.i) c.row.ensures)
