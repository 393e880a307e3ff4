use mathlib.Core.Path.{refl, sym, ap, ◌∙◌}
use Prim.Native.Nat.{◌*◌}
use native.Mathlib.Omega.{arith}
use Rattle.machine.specs.Runs.{main_values}
use Rattle.station.proofs.Words.{word_first, word_more, words-all, values_length, value_is}
use Rattle.station.proofs.put_results.Goals as goal

pub put_word-requires : goal.put_word-requires
put_word-requires c = omega (arith, c.requires)

pub loop-i-init : goal.loop-i-init
loop-i-init c =
    (refl, word_first c.args.results.now _ _ (main_values c.args.work.now) c.put_word.ensures (omega (arith, c.requires)))

pub word_at-v-requires : goal.word_at-v-requires
word_at-v-requires c = omega (arith, c.told-work)

pub put_word-requires-in-loop-i : goal.put_word-requires-in-loop-i
put_word-requires-in-loop-i c =
    omega (arith, c.requires, c.loop-i.invariant.0, c.put_word.auto.w)

pub loop-i-preserved : goal.loop-i-preserved
loop-i-preserved c =
    let n = values_length c.args.work.now c.args.steps in (
      c.put_word-in-loop-i.auto.w ∙ c.loop-i.invariant.0,
      c.put_word-in-loop-i.ensures ∙ rw c.loop-i.invariant.1 (word_more _ _ c.loop-i.i _ (omega (arith, n)) (value_is c.args.work.now c.args.steps c.loop-i.i (omega arith) (omega arith) ∙ sym c.word_at-v.ensures)
          (c.put_word.auto.w ∙ (c.requires ∙ ap (λ m. m * 4) (sym n)))),
    )

pub shape_of-results : goal.shape_of-results
shape_of-results c = c.loop-i.invariant.0 ∙ c.put_word.auto.w

pub returns : goal.returns
returns c =
    let n = values_length c.args.work.now c.args.steps in c.loop-i.invariant.1 ∙ words-all _ _ c.loop-i.i (omega (arith, n))
    (c.put_word.auto.w ∙ (c.requires ∙ ap (λ m. m * 4) (sym n)))
