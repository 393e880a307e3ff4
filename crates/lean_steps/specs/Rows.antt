-- Rows that the lean machine does alike.
use Rattle.std.specs.Prelude.{cond, List, ◌⊎◌, ℕ, ◌-◌, eqb}
use Rattle.rules.specs.Grammar.{Assert, Release, If, Else, Join, Loop, Again, Shut, loop_kind}
use Rattle.lean_heap.specs.declared.Counters.{Counters}
use Rattle.tables.specs.Decode.{kind_at, first_atom_at}
use Rattle.lean_heap.specs.Ghosts.{AtKind}

-- "`release`, `assert` and `join` each still a step", and `shut`
abbrev pub Passes : List ℕ → Counters → Type 0
Passes w c = (AtKind w c Assert ⊎ AtKind w c Join) ⊎ (AtKind w c Release ⊎ AtKind w c Shut)

-- it goes to its target
abbrev pub Jumps : List ℕ → Counters → Type 0
Jumps w c = AtKind w c Else ⊎ AtKind w c Again

-- it goes on by a condition
abbrev pub Chooses : List ℕ → Counters → Type 0
Chooses w c = AtKind w c If ⊎ AtKind w c Loop

-- the atom that is the condition of row i: of an `if` its own, of a `loop` the one before its invariant
unfoldable pub condition_of : List ℕ → ℕ → ℕ
condition_of w i = cond (eqb (kind_at w i) loop_kind) (first_atom_at w i - 1) (first_atom_at w i)
