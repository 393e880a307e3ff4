use mathlib.Core.Path.{sym, ap, ◌∙◌}
use native.Mathlib.Omega.{arith}
use Rattle.rules.specs.Areas.{cleared}
use Rattle.station.proofs.Calls.{fit-lengths}
use Rattle.station.proofs.Parts.{asked, wrong-count, shares-refused, share-fits-heap, counted}
use Rattle.station.proofs.counts.count.Goals as goal

pub returns-then-not-fit : goal.returns-then-not-fit
returns-then-not-fit c =
    let q = asked c.args.scripts c.args.rounds c.args.text1.now c.args.text2.now c.args.text3.now c.args.text4.now
    c.args.share1 c.args.share2 c.args.share3 c.args.share4 in
    wrong-count q c.args.work.now c.args.results.now (sym c.fit.ensures ∙ c.if-not-fit.true)

pub returns-then-not-shares_fit : goal.returns-then-not-shares_fit
returns-then-not-shares_fit c =
    let q = asked c.args.scripts c.args.rounds c.args.text1.now c.args.text2.now c.args.text3.now c.args.text4.now
    c.args.share1 c.args.share2 c.args.share3 c.args.share4 in
    shares-refused q c.args.work.now c.args.results.now (sym c.fit.ensures ∙ c.if-not-fit.false) (sym c.shares_fit.ensures ∙ c.if-not-shares_fit.true) (c.clear.ensures ∙ ap cleared c.in-Some.ensures.cases.same) c.clear-then-not-shares_fit.ensures

pub count_part-requires : goal.count_part-requires
count_part-requires c =
    let q = asked c.args.scripts c.args.rounds c.args.text1.now c.args.text2.now c.args.text3.now c.args.text4.now
    c.args.share1 c.args.share2 c.args.share3 c.args.share4 in
    let m = sym c.fit.ensures ∙ c.if-not-fit.false in
    ((omega arith, share-fits-heap q c.args.work.now c.args.results.now m (sym c.shares_fit.ensures ∙ c.if-not-shares_fit.false) 0 (omega arith)), (fit-lengths c.args.work.now c.args.results.now m).1)

pub count_part-requires-2 : goal.count_part-requires-2
count_part-requires-2 c =
    let q = asked c.args.scripts c.args.rounds c.args.text1.now c.args.text2.now c.args.text3.now c.args.text4.now
    c.args.share1 c.args.share2 c.args.share3 c.args.share4 in
    let m = sym c.fit.ensures ∙ c.if-not-fit.false in
    ((omega arith, share-fits-heap q c.args.work.now c.args.results.now m (sym c.shares_fit.ensures ∙ c.if-not-shares_fit.false) 1 (omega arith)), c.count_part.auto.results ∙ (fit-lengths c.args.work.now c.args.results.now m).1)

pub count_part-requires-3 : goal.count_part-requires-3
count_part-requires-3 c =
    let q = asked c.args.scripts c.args.rounds c.args.text1.now c.args.text2.now c.args.text3.now c.args.text4.now
    c.args.share1 c.args.share2 c.args.share3 c.args.share4 in
    let m = sym c.fit.ensures ∙ c.if-not-fit.false in
    ((omega arith, share-fits-heap q c.args.work.now c.args.results.now m (sym c.shares_fit.ensures ∙ c.if-not-shares_fit.false) 2 (omega arith)), c.count_part-2.auto.results ∙ (c.count_part.auto.results ∙ (fit-lengths c.args.work.now c.args.results.now m).1))

pub count_part-requires-4 : goal.count_part-requires-4
count_part-requires-4 c =
    let q = asked c.args.scripts c.args.rounds c.args.text1.now c.args.text2.now c.args.text3.now c.args.text4.now
    c.args.share1 c.args.share2 c.args.share3 c.args.share4 in
    let m = sym c.fit.ensures ∙ c.if-not-fit.false in
    ((omega arith, share-fits-heap q c.args.work.now c.args.results.now m (sym c.shares_fit.ensures ∙ c.if-not-shares_fit.false) 3 (omega arith)), c.count_part-3.auto.results ∙ (c.count_part-2.auto.results ∙ (c.count_part.auto.results ∙ (fit-lengths c.args.work.now c.args.results.now m).1)))

pub returns-in_default : goal.returns-in_default
returns-in_default c =
    absurd (c.in_default.ensures.cases (fit-lengths _ _ (sym c.fit.ensures ∙ c.if-not-fit.false)).0)

pub returns : goal.returns
returns c =
    let q = asked c.args.scripts c.args.rounds c.args.text1.now c.args.text2.now c.args.text3.now c.args.text4.now
    c.args.share1 c.args.share2 c.args.share3 c.args.share4 in
    counted q c.args.work.now c.args.results.now (sym c.fit.ensures ∙ c.if-not-fit.false) (sym c.shares_fit.ensures ∙ c.if-not-shares_fit.false) c.count_part.ensures c.count_part-2.ensures c.count_part-3.ensures c.count_part-4.ensures _ c.count_part-4.array_long c.clear-2.ensures
