use native.Mathlib.Omega.{arith}
use mathlib.Core.Path.{sym, ap, ◌∙◌}
use Rattle.rules.specs.Places.{stage_number}
use Rattle.read_scan.specs.Scans.{line_answer}
use Rattle.read_fields.proofs.Cuts.{clean_line}
use Rattle.read_scan.proofs.Scans.{pass-start, pass_on, pass-stop, pass-done, pass-ends}
use Rattle.read_scan.proofs.Formed.{taken-ends, taken-noted}
use Rattle.read_scan.proofs.Table.{tabled-first, tabled-on, tabled-all}
use Rattle.read_scan.proofs.scan.Goals as goal

pub loop-at-init : goal.loop-at-init
loop-at-init c =
    (omega arith, pass-start c.args.text.now c.first_place-p.result c.first_place-p.ensures, tabled-first c.args.text.now c.args.work.now)

pub returns-in-Err : goal.returns-in-Err
returns-in-Err c = (
  pass-stop c.loop-at.invariant.1 c.in-Err.why c.loop-at-test.true
      (ap line_answer (sym c.in-Err.is) ∙ c.scan_line-a.ensures.0.is c.loop-at.invariant.1.place c.loop-at.invariant.1.is),
  tt,
)

pub loop-at-preserved : goal.loop-at-preserved
loop-at-preserved c =
    let f = taken-ends c.scan_line-a.ensures.0 c.in-Ok.is in
    let l = clean_line c.args.text.now c.loop-at.at c.in-Ok.next.feed f.0 f.1 in (
      omega (arith, l.high),
      pass_on c.loop-at.invariant.1 c.in-Ok.next.feed c.in-Ok.next.place l
          (ap line_answer (sym c.in-Ok.is) ∙ c.scan_line-a.ensures.0.is c.loop-at.invariant.1.place c.loop-at.invariant.1.is),
      tabled-on c.loop-at.invariant.2 c.loop-at-test.true f.0 (taken-noted c.scan_line-a.ensures.1 c.in-Ok.is),
    )

pub returns-then-p-eq-AFTER_MAIN : goal.returns-then-p-eq-AFTER_MAIN
unfolding stage_number
returns-then-p-eq-AFTER_MAIN c =
    (pass-done c.loop-at.invariant.1 c.loop-at-test.false c.if-p-eq-AFTER_MAIN.true, tabled-all c.loop-at.invariant.2 c.requires c.loop-at.invariant.0 c.loop-at-test.false)

pub returns : goal.returns
unfolding stage_number
returns c =
    (pass-ends c.loop-at.invariant.1 c.loop-at-test.false c.if-p-eq-AFTER_MAIN.false, tt)
