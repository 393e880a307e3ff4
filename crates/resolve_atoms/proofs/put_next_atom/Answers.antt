use mathlib.Core.Path.{ap, ◌∙◌}
use native.Mathlib.Omega.{arith}
use Rattle.read_atoms.specs.Atoms.{begun_by}
use Rattle.read_atoms.proofs.Atoms.{kind-begun}
use Rattle.write_rows.proofs.Atoms.{side_bytes}
use Rattle.resolve_atoms.proofs.Formulas.{letter-kind, word-ends, word_cut, some-2, some-3, kind-atom, kind-tried, next-put, next-bad, row_ok}
use Rattle.resolve_atoms.proofs.put_next_atom.Goals as goal

pub unwrap-kind-requires : goal.unwrap-kind-requires
unwrap-kind-requires c = letter-kind c.requires.1 _ _ c.byte_at.ensures c.begun_by.ensures

pub overflow_add-x-2 : goal.overflow_add-x-2
overflow_add-x-2 c =
    let word = word-ends c.requires.1 _ (kind-begun _ _ _ c.begun_by.ensures c.unwrap-kind.ensures ∙ ap begun_by c.byte_at.ensures) _ c.row_of_kind-row.ensures in
    omega (arith, word.high)

pub next_field-y-requires : goal.next_field-y-requires
next_field-y-requires c =
    let word = word-ends c.requires.1 _ (kind-begun _ _ _ c.begun_by.ensures c.unwrap-kind.ensures ∙ ap begun_by c.byte_at.ensures) _ c.row_of_kind-row.ensures in
    word.high

pub slice_bounds-resolve_atom-count : goal.slice_bounds-resolve_atom-count
slice_bounds-resolve_atom-count c =
    let word = word-ends c.requires.1 _ (kind-begun _ _ _ c.begun_by.ensures c.unwrap-kind.ensures ∙ ap begun_by c.byte_at.ensures) _ c.row_of_kind-row.ensures in
    omega (arith, c.next_field-y.ensures.low, some-2 word c.next_field-y.ensures c.next_field-z.ensures c.requires.1.byte _ c.requires.1.form)

pub slice_bounds-resolve_atom-start : goal.slice_bounds-resolve_atom-start
slice_bounds-resolve_atom-start c =
    let word = word-ends c.requires.1 _ (kind-begun _ _ _ c.begun_by.ensures c.unwrap-kind.ensures ∙ ap begun_by c.byte_at.ensures) _ c.row_of_kind-row.ensures in
    omega (arith, c.next_field-y.ensures.low, some-2 word c.next_field-y.ensures c.next_field-z.ensures c.requires.1.byte _ c.requires.1.form)

pub slice_bounds-resolve_atom-count-2 : goal.slice_bounds-resolve_atom-count-2
slice_bounds-resolve_atom-count-2 c =
    let word = word-ends c.requires.1 _ (kind-begun _ _ _ c.begun_by.ensures c.unwrap-kind.ensures ∙ ap begun_by c.byte_at.ensures) _ c.row_of_kind-row.ensures in
    omega (arith, c.next_field-z.ensures.low, some-3 word c.next_field-y.ensures c.next_field-z.ensures c.requires.1.byte _ c.requires.1.form)

pub slice_bounds-resolve_atom-start-2 : goal.slice_bounds-resolve_atom-start-2
slice_bounds-resolve_atom-start-2 c =
    let word = word-ends c.requires.1 _ (kind-begun _ _ _ c.begun_by.ensures c.unwrap-kind.ensures ∙ ap begun_by c.byte_at.ensures) _ c.row_of_kind-row.ensures in
    omega (arith, c.next_field-z.ensures.low, some-3 word c.next_field-y.ensures c.next_field-z.ensures c.requires.1.byte _ c.requires.1.form)

pub resolve_atom-requires : goal.resolve_atom-requires
resolve_atom-requires c =
    let kind = kind-begun _ _ _ c.begun_by.ensures c.unwrap-kind.ensures ∙ ap begun_by c.byte_at.ensures in
    let word = word-ends c.requires.1 _ kind _ c.row_of_kind-row.ensures in
    (c.requires.0, kind-atom word c.next_field-y.ensures c.next_field-z.ensures c.requires.1.byte _ c.requires.1.form _ (word_cut c.requires.1 _ kind _ c.row_of_kind-row.ensures))

pub put_atom-requires : goal.put_atom-requires
put_atom-requires c =
    let o = row_ok _ _ _ _ _ c.resolve_atom.ensures c.in-Ok.is in
    (c.requires.2, (side_bytes _ o.left, side_bytes _ o.right))

pub returns-in-Err : goal.returns-in-Err
returns-in-Err c =
    let kind = kind-begun _ _ _ c.begun_by.ensures c.unwrap-kind.ensures ∙ ap begun_by c.byte_at.ensures in
    let word = word-ends c.requires.1 _ kind _ c.row_of_kind-row.ensures in
    let tried =
    kind-tried word c.next_field-y.ensures c.next_field-z.ensures
    c.requires.1.byte _ c.requires.1.form _ (word_cut c.requires.1 _ kind _ c.row_of_kind-row.ensures) _ _ _
    c.resolve_atom.ensures in
    next-bad word c.next_field-y.ensures c.next_field-z.ensures c.requires.1.byte _ c.requires.1.form _ _ _ _ _ tried c.in-Err.is

pub returns-in-Ok : goal.returns-in-Ok
returns-in-Ok c =
    let kind = kind-begun _ _ _ c.begun_by.ensures c.unwrap-kind.ensures ∙ ap begun_by c.byte_at.ensures in
    let word = word-ends c.requires.1 _ kind _ c.row_of_kind-row.ensures in
    let tried =
    kind-tried word c.next_field-y.ensures
    c.next_field-z.ensures
    c.requires.1.byte _ c.requires.1.form _ (word_cut c.requires.1 _ kind _
    c.row_of_kind-row.ensures) _ _ _
    c.resolve_atom.ensures in
    next-put word c.next_field-y.ensures
    c.next_field-z.ensures
    c.requires.1.byte _ c.requires.1.form _ _ c.requires.0 _ _ _ _ c.requires.2 tried c.in-Ok.is c.put_atom.ensures
