use mathlib.Core.Path.{sym}
use mathlib.Core.Logic.{inr}
use native.Mathlib.Omega.{arith}
use Rattle.run_footprint.proofs.Taking.{took-shares, took-lacking}
use Rattle.run_steps.proofs.Doing.{does-answer, loop-atom, loop-does, loop-stops}
use Rattle.run_heap.proofs.Reading.{passed-on}
use Rattle.run_steps.proofs.loop_step.Goals as goal

pub overflow_sub-first_atom_at : goal.overflow_sub-first_atom_at
overflow_sub-first_atom_at c =
    omega (arith, c.first_atom_at.ensures.0, loop-atom c.requires.0 c.requires.1)

pub choose-requires : goal.choose-requires
choose-requires c =
    (c.requires.0, inr c.requires.1, omega (arith, c.first_atom_at.ensures.0, loop-atom c.requires.0 c.requires.1))

pub returns : goal.returns
returns c =
    loop-does c.requires.0 _ (took-shares _ _ _ c.in_ok-row_footprint.was c.row_footprint.ensures.took) _ (rw c.first_atom_at.ensures.0) c.choose.ensures

pub returns-in_err-row_footprint : goal.returns-in_err-row_footprint
returns-in_err-row_footprint c =
    does-answer (sym (passed-on _ _ c.from_residual.ensures.1)) (loop-stops c.requires.0 _ (took-lacking _ _ _ c.in_err-row_footprint.was c.row_footprint.ensures.took))
