use mathlib.Core.Logic.{inl}
use Rattle.run_steps.proofs.Doing.{if-atom}
use Rattle.run_steps.proofs.if_step.Goals as goal

pub choose-requires : goal.choose-requires
choose-requires c =
    (c.requires.0, inl c.requires.1, rw c.first_atom_at.ensures.0 (if-atom c.requires.0 c.requires.1))

pub returns : goal.returns
returns c = rw c.first_atom_at.ensures.0 at c.choose.ensures
