-- Four stations in one run (W12): scripts that take their steps in turn over one heap, each in its share of it.
use Rattle.std.specs.Prelude.{Bool, cond, ◌&&◌, List, [], ◌∷◌, map, ℕ, zero, suc, ◌+◌, ◌*◌, leb, length, take, drop, replicate}
use Rattle.std.proofs.lemmas.List.Edits.{sets}
use Rattle.rules.specs.Base.{between, all}
use Rattle.rules.specs.Limits.{heap_objects, most_scripts, fields_each}
use Rattle.rules.specs.Answers.{Verdict, accepted, refused, finished, steps_taken, stopped, wrong_shares}
use Rattle.rules.specs.Syntax.{Program}
use Rattle.rules.specs.Bounds.{total}
use Rattle.rules.specs.Machine.{Heap, Frame, Config, Room, Outcome, Step, on, stop, done, step, start, ends}

-- SHARES

-- a part of the one heap: `size` places for objects, from place `first` on
pub record Share : Type 0 where
  pub first : ℕ
  pub size : ℕ

-- "a share of k objects and 4 × k fields"
unfoldable pub room_of : ℕ → Room
room_of k = record { objects = k; fields = fields_each * k }

-- "its own numbering": its object 1 is at the share's first place. Of the heap a script that has made n objects sees these n
unfoldable pub seen : Heap → Share → ℕ → Heap
seen h s n = take n (drop s.first h)

-- the one heap with these objects in the share, from its first place on
unfoldable pub placed : Heap → Share → Heap → Heap
placed h s part = sets h s.first part

-- not "shares that are 0 or sum above 256"
unfoldable pub fit_together : List ℕ → Bool
fit_together ks = all (leb 1) ks && leb (total ks) heap_objects

-- not "no scripts, more than four, or shares that are 0 or sum above 256": n scripts, with the first n shares
unfoldable pub shares_fit : ℕ → List ℕ → Bool
shares_fit n ks = between 1 most_scripts n && fit_together (take n ks)

-- "It refuses with 19 at line 0"
unfoldable pub check_shares : ℕ → List ℕ → Verdict (Unit {0})
check_shares n ks = cond (shares_fit n ks) (accepted tt) (refused wrong_shares 0)

-- SCRIPTS

-- a script that goes on: the frame that runs and its callers, how many objects it has made, and the steps that it has taken
pub record Going : Type 0 where
  pub program : Program
  pub frame : Frame
  pub callers : List Frame
  pub made : ℕ
  pub steps : ℕ

-- or what it came to: it was refused, or its run is finished or stopped
pub data Progress : Type 0 where
  going : Going → Progress
  over : Verdict Outcome → Progress

pub record Script : Type 0 where
  pub share : Share
  pub progress : Progress

-- the state in which it stands, as its own run has it
unfoldable pub state_of : Heap → Share → Going → Config
state_of h s g = record { heap = seen h s g.made; frame = g.frame; callers = g.callers }

-- the one heap and the script after its step from state m
unfoldable pub after : Heap → Share → Going → Config → Step → Heap × Progress
after h s g m (on m') =
    let n : ℕ = length m'.heap in
    let k : ℕ = suc g.steps in
    (placed h s m'.heap, going (record { program = g.program; frame = m'.frame; callers = m'.callers; made = n; steps = k }))
after h s g m (stop r) = (h, over (accepted (ends g.program (stopped r) g.steps m)))
after h s g m done = (h, over (accepted (ends g.program finished (suc g.steps) m)))

-- "A script refused, finished or stopped is passed over"; any other does the machine's step, with its share for the heap
unfoldable pub step_from : Heap → Share → Progress → Heap × Progress
step_from h s (going g) = let m : Config = state_of h s g in after h s g m (step (room_of s.size) g.program m)
step_from h s (over a) = (h, over a)

-- ROUNDS

-- the one heap, and the scripts in order
pub record Joint : Type 0 where
  pub heap : Heap
  pub scripts : List Script

-- the first p scripts have their turn, "in order"
unfoldable pub turns : ℕ → Heap → List Script → Heap × List Script
turns zero h ss = (h, ss)
turns (suc p) h [] = (h, [])
turns (suc p) h (s ∷ ss) =
    let a : Heap × Progress = step_from h s.share s.progress in
    let b : Heap × List Script = turns p a.0 ss in
    (b.0, record { share = s.share; progress = a.1 } ∷ b.1)

unfoldable pub take_turns : ℕ → Joint → Joint
take_turns p j = let b : Heap × List Script = turns p j.heap j.scripts in record { heap = b.0; scripts = b.1 }

-- "one step a round"
unfoldable pub rounds : ℕ → Joint → Joint
rounds zero j = j
rounds (suc r) j = let b : Joint = rounds r j in take_turns (length b.scripts) b

-- the moment in which r rounds are done, and p turns of the next one
unfoldable pub moment : Joint → ℕ → ℕ → Joint
moment j r p = take_turns p (rounds r j)

-- THE JOINT RUN

-- what one station brings: its script, if check accepts it, and how many objects its share has
pub record Station : Type 0 where
  pub script : Verdict Program
  pub size : ℕ

-- a script that is refused is passed over from the first round on
unfoldable pub beginning : Verdict Program → Progress
beginning (accepted P) = going (record { program = P; frame = (start P).frame; callers = []; made = 0; steps = 0 })
beginning (refused r l) = over (refused r l)

-- one share after the other, from place a on
unfoldable pub scripts_from : ℕ → List Station → List Script
scripts_from a [] = []
scripts_from a (s ∷ ss) =
    record { share = record { first = a; size = s.size }; progress = beginning s.script } ∷ scripts_from (a + s.size) ss

-- "up to four scripts over one heap of 256 objects": no place has an object yet
unfoldable pub joint : List Station → Joint
joint ss = record { heap = replicate heap_objects []; scripts = scripts_from 0 ss }

-- what a script came to when the rounds are done: if it goes on, the steps allowed are taken
unfoldable pub came_to : Heap → Share → Progress → Verdict Outcome
came_to h s (going g) = accepted (ends g.program steps_taken g.steps (state_of h s g))
came_to h s (over a) = a

unfoldable pub joint_run : List Station → ℕ → List (Verdict Outcome)
joint_run ss r = let j : Joint = rounds r (joint ss) in map (λ s. came_to j.heap s.share s.progress) j.scripts

-- Everything above computes where this unfolds.
unfoldable pub opened : Unit {0}
unfolding room_of seen placed fit_together shares_fit check_shares state_of after step_from turns take_turns rounds moment beginning scripts_from joint came_to joint_run
opened = tt
