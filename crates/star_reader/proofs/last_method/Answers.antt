use mathlib.Core.Path.{◌≡◌, refl, sym, ap, ◌∙◌}
use Prim.Native.Nat.{pred}
use native.Mathlib.Omega.{arith}
use native.Mathlib.Numerals.{add-one}
use Rattle.star_reader.specs.StarRead.{headers_in}
use Rattle.star_reader.proofs.Headers.{one-header, no_header}
use Rattle.star_reader.proofs.last_method.Goals as goal
use Rattle.star_reader.proofs.last_method.Goals.{then-w, else-w}

pub loop-i-init : goal.loop-i-init
unfolding headers_in
loop-i-init c = (refl, refl, omega arith)

pub loop-i-preserved : goal.loop-i-preserved
loop-i-preserved c =
    let e = ap (λ r. r.kind) c.line_word-w.ensures in
    elim c.if-w.branch [
      | then-w w ↦ (
        w.next-is ∙ one-header c.args.work.now c.loop-i.i _ c.loop-i.invariant.0 (sym e ∙ w.if-w.true),
        w.last-is ∙ (sym (ap pred (add-one _)) ∙ ap pred (sym w.next-is)),
        omega (arith, w.next-is, c.loop-i.invariant.2),
      )
      | else-w w ↦ (
        w.next-is ∙ no_header c.args.work.now c.loop-i.i _ c.loop-i.invariant.0 (λ z. w.if-w.false (e ∙ z)),
        w.last-is ∙ (c.loop-i.invariant.1 ∙ ap pred (sym w.next-is)),
        omega (arith, w.next-is, c.loop-i.invariant.2),
      )
    ]

pub returns : goal.returns
returns c =
    let e : c.loop-i.i ≡ c.args.line = omega (arith, c.loop-i.auto.i-end, c.loop-i-test.false) in
    c.loop-i.invariant.1 ∙ ap pred (c.loop-i.invariant.0 ∙ ap (headers_in c.args.work.now) e)
