use mathlib.Core.Path.{sym, ap, subst, ◌∙◌}
use mathlib.Core.Path.{◌≡◌}
use Prim.Native.Nat.{◌≤◌}
use native.Mathlib.Omega.{arith}
use native.Mathlib.Numerals.{add-one}
use Rattle.rules.specs.Answers.{refused}
use lib.ListN.{length}
use Rattle.read_scan.specs.Table.{WordAt, start_of}
use Rattle.reader.specs.Readings.{refusal_of, ResolvedIs}
use Rattle.reader.proofs.Loop.{step-refused, step-on, table_on, resolving-first, resolving-written, resolving-done, word-ready, word_room, word-refused, resolving-next}
use Rattle.reader.proofs.read_lines.Goals as goal

pub loop-i-init : goal.loop-i-init
unfolding start_of
loop-i-init c =
    (resolving-first _ _ _ _ c.first_pass-p.ensures c.requires.1 c.told-work c.requires.3, c.requires.2)

pub read_line-requires : goal.read_line-requires
read_line-requires c =
    let l = c.loop-i.invariant.1.within _ c.loop-i-test.true in
    let y = subst (WordAt c.args.text.now (start_of c.args.text.now c.loop-i.i)) (sym c.line_word-w.ensures) (c.loop-i.invariant.1.words _ c.loop-i-test.true) in
    (word-ready c.loop-i.invariant.0 c.requires.0 l y, word_room c.loop-i.invariant.0 c.requires.0 l y, resolving-written c.loop-i.invariant.0)

pub returns-in-Err : goal.returns-in-Err
unfolding ResolvedIs
returns-in-Err c =
    let l = c.loop-i.invariant.1.within _ c.loop-i-test.true in
    let y = subst (WordAt c.args.text.now (start_of c.args.text.now c.loop-i.i)) (sym c.line_word-w.ensures) (c.loop-i.invariant.1.words _ c.loop-i-test.true) in
    let z = step-refused _ _ _ _ _ _ c.read_line.ensures c.in-Err.why c.in-Err.is in
    word-refused c.loop-i.invariant.0 c.requires.0 l y (refusal_of c.in-Err.why) z.0 ∙ ap (refused (refusal_of c.in-Err.why)) (sym (add-one _))

pub loop-i-preserved : goal.loop-i-preserved
loop-i-preserved c =
    let l = c.loop-i.invariant.1.within _ c.loop-i-test.true in
    let y = subst (WordAt c.args.text.now (start_of c.args.text.now c.loop-i.i)) (sym c.line_word-w.ensures) (c.loop-i.invariant.1.words _ c.loop-i-test.true) in
    let z = step-on _ _ _ _ _ _ c.read_line.ensures c.in-Ok.q c.in-Ok.is in
    (resolving-next c.loop-i.i c.loop-i.invariant.0 c.requires.0 l y z, table_on c.loop-i.invariant.1 z)

pub returns : goal.returns
unfolding ResolvedIs
returns c =
    let e : c.loop-i.i ≡ c.args.n = omega (arith, c.loop-i.auto.i-end, c.loop-i-test.false) in
    resolving-done c.loop-i.invariant.0 c.loop-i.invariant.1 (subst (λ i. length c.args.text.now ≤ start_of c.args.text.now i) (sym e) c.loop-i.invariant.1.all)
