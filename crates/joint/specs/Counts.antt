-- What W12 promises of `count`, over texts: each script's answer is that of its run alone, and demand 3. The crate's proofs prove it.
use Rattle.std.specs.Prelude.{◌≡◌, List, [], ◌⊎◌, ℕ, ◌≤◌, ◌<◌, length, get_or, take, replicate}
use Rattle.rules.specs.Limits.{most_scripts, heap_objects}
use Rattle.rules.specs.Answers.{accepted, refusal_number, wrong_shares}
use Rattle.rules.specs.Syntax.{Program}
use Rattle.rules.specs.Bounds.{total}
use Rattle.rules.specs.Joint.{Station, room_of}
use Rattle.rules.specs.Runs.{outcome}
use Rattle.rules.specs.Calls.{Result, check_text, checked_program, run_text, run_text_in, refused_result, outcome_result, stations, count_text}
use Rattle.rules.specs.Demand.{NotStuck, IsRefusal}
use Rattle.joint.specs.Claims.{room_at, KeepsShare}

-- ASKED

-- the count of scripts, the rounds, four texts and four shares
pub record Asked : Type 0 where
  pub scripts : ℕ
  pub rounds : ℕ
  pub texts : List (List ℕ)
  pub shares : List ℕ
  pub four_texts : length texts ≡ most_scripts
  pub four_shares : length shares ≡ most_scripts

abbrev pub text_at : Asked → ℕ → List ℕ
text_at q i = get_or q.texts i []

abbrev pub share_at : Asked → ℕ → ℕ
share_at q i = get_or q.shares i 0

-- not "no scripts, more than four, or shares that are 0 or sum above 256"
pub record SharesRight (q : Asked) : Type 0 where
  pub some_scripts : 1 ≤ q.scripts
  pub at_most_four : q.scripts ≤ most_scripts
  pub each : (i : ℕ) → i < q.scripts → 1 ≤ share_at q i
  pub sum : total (take q.scripts q.shares) ≤ heap_objects

-- ANSWERS

-- zeros
abbrev pub no_result : Result
no_result = refused_result (0, 0)

-- what is answered for script i
abbrev pub result_at : Asked → ℕ → Result
result_at q i = get_or (count_text q.scripts q.rounds q.texts q.shares).scripts i no_result

-- "Each one's number, line, steps and values .. are those of its run alone, with its share for the heap and the rounds as allowed steps";
-- "Texts and shares past the count are not looked at, and their results are zeros; unless it refuses, it returns 0."
pub record CountsAlone (q : Asked) : Type 0 where
  pub number : (count_text q.scripts q.rounds q.texts q.shares).number ≡ 0
  pub line : (count_text q.scripts q.rounds q.texts q.shares).line ≡ 0
  pub each : (i : ℕ) → i < q.scripts → result_at q i ≡ run_text_in (room_of (share_at q i)) (text_at q i) q.rounds
  pub past : (i : ℕ) → q.scripts ≤ i → result_at q i ≡ no_result
  pub four : length (count_text q.scripts q.rounds q.texts q.shares).scripts ≡ most_scripts

-- "It refuses with 19 at line 0, zeros in all results"
pub record RefusesShares (q : Asked) : Type 0 where
  pub number : (count_text q.scripts q.rounds q.texts q.shares).number ≡ refusal_number wrong_shares
  pub line : (count_text q.scripts q.rounds q.texts q.shares).line ≡ 0
  pub zeros : (count_text q.scripts q.rounds q.texts q.shares).scripts ≡ replicate most_scripts no_result

abbrev pub EveryCount : Type 0
EveryCount = (q : Asked) → (SharesRight q × CountsAlone q) ⊎ ((SharesRight q → ⊥) × RefusesShares q)

-- with the whole heap for its share it is run's answer
abbrev pub WholeHeapIsRun : Type 0
WholeHeapIsRun = (t : List ℕ) (k : ℕ) → run_text_in (room_of heap_objects) t k ≡ run_text t k

-- DEMAND 3

-- the stations whose scripts run
abbrev pub stations_of : Asked → List Station
stations_of q = stations (take q.scripts q.texts) (take q.scripts q.shares)

-- a script that check refuses: check's number and line, and zeros
pub record ScriptRefused (q : Asked) (i : ℕ) : Type 0 where
  pub number : IsRefusal (check_text (text_at q i)).0
  pub answer : result_at q i ≡ refused_result (check_text (text_at q i))

-- any other: its answer is that of its steps in the joint run; it is never stuck; and its calls keep what they were not handed
pub record ScriptClaim (q : Asked) (i : ℕ) : Type 0 where
  pub program : Program
  pub is_checked : checked_program (text_at q i) ≡ accepted program
  pub whole_run : KeepsShare (stations_of q) i program q.rounds
  pub answered : result_at q i ≡ outcome_result (outcome (room_at (stations_of q) i) program whole_run.run)
  pub number : NotStuck (result_at q i).number

abbrev pub EveryScript : Type 0
EveryScript = (q : Asked) → SharesRight q → (i : ℕ) → i < q.scripts → ScriptRefused q i ⊎ ScriptClaim q i
