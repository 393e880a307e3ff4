use Prim.Native.Nat.{suc}
use Rattle.read_words.proofs.Words.{room-eight, packed-on, packed-end}
use mathlib.Core.Path.{sym, ◌∙◌}
use native.Mathlib.Numerals.{add-one}
use native.Mathlib.Omega.{arith}
use Rattle.read_words.proofs.pack.Goals as goal

pub overflow_mul-n : goal.overflow_mul-n
overflow_mul-n c = let h = room-eight (suc c.loop-b.b-index) (omega arith) in omega arith

pub loop-b-preserved : goal.loop-b-preserved
loop-b-preserved c = let b = c.type_inv.w c.loop-b.b-index in (rw add-one (omega (arith, b)), sym (packed-on c.loop-b.n c.args.w.now c.loop-b.b-index (omega arith)) ∙ c.loop-b.invariant.1)

pub returns : goal.returns
returns c = sym (packed-end c.loop-b.n c.args.w.now c.loop-b.b-index (omega arith)) ∙ c.loop-b.invariant.1
