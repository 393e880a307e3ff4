use Rattle.read_names.proofs.Keys.{keys_passed}
use Rattle.read_names.proofs.Searches.{here, on, over}
use mathlib.Core.Path.{sym, ◌∙◌}
use native.Mathlib.Omega.{arith}
use Rattle.read_names.proofs.find_keyed.Goals as goal

pub returns-then-is_keyed_row : goal.returns-then-is_keyed_row
returns-then-is_keyed_row c =
    let f = c.in-Some.ensures in
    let a = keys_passed _ _ _ _ _ _ _ c.requires.1 c.key-k.ensures.0 _ _ f.low (omega (arith, f.high)) f.none c.loop-i.invariant.1 in
    (here _ _ _ _ _ a f.high (sym c.is_keyed_row.ensures ∙ c.if-is_keyed_row.true), omega (arith, f.high))

pub loop-i-preserved : goal.loop-i-preserved
loop-i-preserved c =
    let f = c.in-Some.ensures in
    let a = keys_passed _ _ _ _ _ _ _ c.requires.1 c.key-k.ensures.0 _ _ f.low (omega (arith, f.high)) f.none c.loop-i.invariant.1 in
    (omega (arith, f.high), on _ _ _ _ _ a f.high (sym c.is_keyed_row.ensures ∙ c.if-is_keyed_row.false))

pub returns : goal.returns
returns c =
    let a = keys_passed _ _ _ _ _ _ _ c.requires.1 c.key-k.ensures.0 _ _ c.loop-i.invariant.0 (omega arith) c.in_default.ensures c.loop-i.invariant.1 in
    (over _ _ _ _ _ a (omega arith), omega arith)
