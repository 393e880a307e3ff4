use mathlib.Core.Path.{refl, ap, sym, ◌∙◌}
use native.Mathlib.Omega.{arith}
use Rattle.read_atoms.specs.Atoms.{atom_row, begun_by}
use Rattle.read_atoms.proofs.Atoms.{operands-there}
use Rattle.read_fields.proofs.Cuts.{byte-in}
use Rattle.read_fields.proofs.Heads.{bytes-short, head-empty, head-none, head-some}
use Rattle.read_fields.proofs.atom_head.Goals as goal

pub returns-in_err-kind : goal.returns-in_err-kind
returns-in_err-kind c =
    rw c.from_residual.ensures (head-empty c.args.t.now c.args.r c.requires (sym (ap begun_by c.byte_at.ensures) ∙ c.in_err-kind.ensures))

pub is_spelled-requires : goal.is_spelled-requires
is_spelled-requires c =
    (omega (arith, byte-in c.args.t.now c.args.r 9 (omega arith) c.requires), bytes-short _ _ c.row_of_kind-row.ensures)

pub returns-then-not-is_spelled : goal.returns-then-not-is_spelled
returns-then-not-is_spelled c =
    let k = c.in_ok-kind.ensures ∙ ap begun_by c.byte_at.ensures in
    head-none c.args.t.now c.args.r c.requires _ (c.row_of_kind-row.ensures ∙ ap atom_row k) _ c.is_spelled.ensures c.if-not-is_spelled.true

pub overflow_add-result : goal.overflow_add-result
overflow_add-result c =
    omega (arith, byte-in c.args.t.now c.args.r 9 (omega arith) c.requires, bytes-short _ _ c.row_of_kind-row.ensures)

pub returns : goal.returns
returns c =
    let k = c.in_ok-kind.ensures ∙ ap begun_by c.byte_at.ensures in
    head-some c.args.t.now c.args.r c.requires _ (c.row_of_kind-row.ensures ∙ ap atom_row k) _ c.is_spelled.ensures
    c.if-not-is_spelled.false _ (λ z. operands-there _ (sym (ap (λ q. q.operands) c.row_of_kind-row.ensures) ∙ z)) refl refl
