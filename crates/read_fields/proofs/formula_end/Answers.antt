use native.Mathlib.Omega.{arith}
use mathlib.Core.Path.{◌≡◌, sym, subst, ◌∙◌}
use Prim.Native.Nat.{suc, ◌+◌, ◌-◌}
use lib.ListN.{length, get_or}
use lib.Dec.{eqb}
use Rattle.rules.specs.Text.{is_formula}
use Rattle.read_fields.specs.Spans.{FieldsRead}
use Rattle.read_fields.proofs.Cuts.{no_more}
use Rattle.read_fields.proofs.Formulas.{formula-none, formula-zero}
use Rattle.read_fields.proofs.Spans.{read-on}
use Rattle.read_fields.proofs.formula_end.Goals as goal

pub returns-then-byte_at-ne-TAB : goal.returns-then-byte_at-ne-TAB
returns-then-byte_at-ne-TAB c =
    let n : get_or c.args.t.now c.loop.r 0 ≡ 9 → ⊥ = λ e. c.if-byte_at-ne-TAB.true (c.byte_at.ensures ∙ e) in
    (c.loop.invariant.0, sym c.loop.invariant.1 ∙ formula-none (c.args.most - c.loop.counter) _ (no_more c.args.t.now c.loop.r n), n)

pub returns-in_err-r : goal.returns-in_err-r
returns-in_err-r c =
    let z : suc (c.args.most - (c.loop.counter + 1)) ≡ c.args.most - c.loop.counter = omega arith in
    subst (FieldsRead (is_formula c.args.most) c.args.t.now c.args.from) (sym c.from_residual.ensures)
    (sym c.loop.invariant.1 ∙ (rw z at (c.in_err-r.ensures (c.args.most - (c.loop.counter + 1)))))

pub returns : goal.returns
returns c =
    let z : c.args.most - c.loop.counter ≡ 0 = omega arith in
    read-on (λ ws. eqb (length ws) 0) (is_formula c.args.most) c.args.t.now c.args.from c.loop.r c.no_fields.result c.loop.invariant.0
    (sym c.loop.invariant.1 ∙ rw z (formula-zero _)) c.no_fields.ensures
