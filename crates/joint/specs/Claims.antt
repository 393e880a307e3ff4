-- What W12 promises of the joint run of some stations: each script runs as it would alone, no step changes another's share, and demand 3
-- holds of its calls. The crate's proofs prove it.
use Rattle.std.specs.Prelude.{◌≡◌, cond, List, [], map, ℕ, suc, min, ◌≤◌, ◌<◌, ltb, length, get_or, take, drop}
use Rattle.rules.specs.Limits.{heap_objects}
use Rattle.rules.specs.Answers.{Verdict, accepted, refused, then, wrong_shares}
use Rattle.rules.specs.Syntax.{Program}
use Rattle.rules.specs.Bounds.{total}
use Rattle.rules.specs.Machine.{Heap, Config, Outcome, Room, halves, run_program, value_at}
use Rattle.rules.specs.Runs.{Run, CallStep, During, Existed, HalvesKept, ChainsEnd, ChainsHanded, handed_over, outcome}
use Rattle.rules.specs.Joint.{Share, Going, Progress, Script, Joint, Station, going, over, room_of, state_of, moment, joint, joint_run}

-- STATIONS AND SHARES

abbrev pub sizes : List Station → List ℕ
sizes ss = map (λ s. s.size) ss

-- the shares are parts of the one heap
abbrev pub SharesFit : List Station → Type 0
SharesFit ss = total (sizes ss) ≤ heap_objects

-- what stands for a script that is not there
abbrev pub no_script : {A : Type 0} → Verdict A
no_script = refused wrong_shares 0

abbrev pub station_at : List Station → ℕ → Station
station_at ss i = get_or ss i (record { script = no_script; size = 0 })

-- the share of station i comes after those of the stations before it
abbrev pub share_of : List Station → ℕ → Share
share_of ss i = record { first = total (take i (sizes ss)); size = (station_at ss i).size }

abbrev pub room_at : List Station → ℕ → Room
room_at ss i = room_of (station_at ss i).size

-- how far script i is
abbrev pub progress_in : Joint → ℕ → Progress
progress_in j i = get_or (map (λ (s : Script). s.progress) j.scripts) i (over no_script)

-- AS ALONE

-- "its run alone, with its share for the heap and the rounds as allowed steps"
unfoldable pub alone : ℕ → Station → Verdict Outcome
alone r s = then s.script λ P. accepted (run_program (room_of s.size) P r)

-- "Each one's number, line, steps and values .. are those of its run alone"
abbrev pub AsAlone : Type 0
AsAlone = (ss : List Station) → SharesFit ss → (r : ℕ) → joint_run ss r ≡ map (alone r) ss

-- ONE STEP A ROUND

-- how many turns script i has had when r rounds are done, and p turns of the next one
unfoldable pub turns_had : ℕ → ℕ → ℕ → ℕ
turns_had r p i = cond (ltb i p) (suc r) r

-- "A script refused, finished or stopped is passed over; after r rounds any other has taken r steps, whatever the others do."
abbrev pub StepEachRound : Type 0
StepEachRound =
    (ss : List Station) → SharesFit ss → (r p i : ℕ) (g : Going) → progress_in (moment (joint ss) r p) i ≡ going g →
    g.steps ≡ turns_had r p i

-- "whatever the others do": two joint runs in which a script and its share are the same, in whatever places and company
abbrev pub WhateverTheOthersDo : Type 0
WhateverTheOthersDo =
    (ss ss' : List Station) → SharesFit ss → SharesFit ss' → (i i' : ℕ) → station_at ss i ≡ station_at ss' i' → (r : ℕ) →
    get_or (joint_run ss r) i no_script ≡ get_or (joint_run ss' r) i' no_script

-- SHARES

-- "one heap of 256 objects": in every moment
abbrev pub OneHeap : Type 0
OneHeap = (ss : List Station) → SharesFit ss → (r p : ℕ) → length (moment (joint ss) r p).heap ≡ heap_objects

-- "No step changes a field in another's share": the turn of script p changes no place outside of its share, so no field there
abbrev pub StaysInShare : Type 0
StaysInShare =
    (ss : List Station) → SharesFit ss → (r p o : ℕ) → ((total (take p (sizes ss)) ≤ o) × (o < total (take (suc p) (sizes ss))) → ⊥) →
    get_or (moment (joint ss) r (suc p)).heap o [] ≡ get_or (moment (joint ss) r p).heap o []

-- DEMAND 3, of the script i with the program P

-- field f of object o of a share, in the one heap
abbrev pub field_in : Share → Heap → ℕ → ℕ → ℕ
field_in s h o f = value_at (drop s.first h) o f

module _ (ss : List Station) (i : ℕ) (P : Program) where
  -- in this moment it has taken n steps and stands in state m of its own run, with the objects of m in its share
  pub record StandsIn (j : Joint) (n : ℕ) (m : Config) : Type 0 where
    pub at : Going
    pub is_at : progress_in j i ≡ going at
    pub steps : at.steps ≡ n
    pub state : state_of j.heap (share_of ss i) at ≡ m

  module _ {r : ℕ} (R : Run (room_at ss i) P r) where
    -- its turns in the joint run are the steps of the run R
    abbrev pub Follows : Type 0
    Follows =
        (a p : ℕ) → turns_had a p i ≤ R.steps → StandsIn (moment (joint ss) a p) (turns_had a p i) (R.state (turns_had a p i))

    -- "what demand 3 says of a called method counts here for the objects of its own script's share": in a moment before the `call` step, when
    -- n steps are taken, and in one of the r rounds when j are, up to its end, or at the run's last and as long as the script is passed over
    abbrev pub CallsKeepShare : Type 0
    CallsKeepShare =
        (n : ℕ) (C : CallStep (room_at ss i) P R n) (j : ℕ) → During (room_at ss i) P R n j → (o f : ℕ) → Existed (room_at ss i) P R n o →
        halves (handed_over P (R.state n) C.y C.method C.z) (record { object = o; field = f }) < 2 →
        (a p : ℕ) → turns_had a p i ≡ n → (b q : ℕ) → turns_had b q i ≤ r → min (turns_had b q i) R.steps ≡ j →
        field_in (share_of ss i) (moment (joint ss) b q).heap o f ≡ field_in (share_of ss i) (moment (joint ss) a p).heap o f

  -- in the joint run with r rounds
  pub record KeepsShare (r : ℕ) : Type 0 where
    pub run : Run (room_at ss i) P r
    pub answered : get_or (joint_run ss r) i no_script ≡ accepted (outcome (room_at ss i) P run)
    pub follows : Follows run
    pub kept : CallsKeepShare run
    pub halves : HalvesKept (room_at ss i) P run
    pub chains : ChainsEnd (room_at ss i) P run
    pub handed : ChainsHanded (room_at ss i) P run

-- of every script that is not refused
abbrev pub CallsKeepTheirShare : Type 0
CallsKeepTheirShare =
    (ss : List Station) → SharesFit ss → (i : ℕ) (P : Program) → (station_at ss i).script ≡ accepted P → (r : ℕ) → KeepsShare ss i P r
