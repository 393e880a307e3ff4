-- What W12 promises of `count`, demand 3 among it, for what the call returns and leaves, as statements. proofs/Counted proves them.
use Rattle.std.specs.Prelude.{◌≡◌, List, ◌++◌, ◌⊎◌, ℕ, ◌*◌, ◌≤◌, ◌<◌, length, take, drop, replicate}
use Rattle.rules.specs.Limits.{work_bytes, results_bytes, count_bytes, script_bytes, most_scripts}
use Rattle.rules.specs.Answers.{refusal_number, wrong_shares}
use Rattle.rules.specs.Joint.{room_of}
use Rattle.rules.specs.Calls.{run_text, run_text_in}
use Rattle.rules.specs.Areas.{Ran, packed, cleared, word_bytes, word_in, number_in, bytes_of_script, check_call, run_call, count_call}
use Rattle.rules.specs.Demand.{NotStuck, IsRefusal}
use Rattle.joint.specs.Counts.{Asked, text_at, share_at, SharesRight, result_at, ScriptClaim}

-- areas of the right length, whatever they hold
pub record LentAreas : Type 0 where
  pub work : List ℕ
  pub results : List ℕ
  pub whole : length work ≡ work_bytes
  pub wide : length results ≡ count_bytes

abbrev pub count_over : Asked → LentAreas → Ran
count_over q l = count_call q.scripts q.rounds q.texts l.work q.shares l.results

-- the 56 bytes of script i
abbrev pub part_at : Ran → ℕ → List ℕ
part_at c i = take script_bytes (drop (i * script_bytes) c.results)

-- "Each one's number, line, steps and values (56 bytes: what run returns, then results) are those of its run alone, with its share for the
-- heap and the rounds as allowed steps."
pub record ReturnsAlone (q : Asked) (l : LentAreas) : Type 0 where
  pub returned : (count_over q l).returned ≡ 0
  pub work : (count_over q l).work ≡ cleared l.work
  pub each : (i : ℕ) → i < q.scripts → part_at (count_over q l) i ≡ bytes_of_script (run_text_in (room_of (share_at q i)) (text_at q i) q.rounds)
  pub past : (i : ℕ) → q.scripts ≤ i → i < most_scripts → part_at (count_over q l) i ≡ replicate script_bytes 0
  pub size : length (count_over q l).results ≡ count_bytes

-- "It refuses with 19 at line 0, zeros in all results"
pub record ReturnsWrongShares (q : Asked) (l : LentAreas) : Type 0 where
  pub returned : (count_over q l).returned ≡ packed (refusal_number wrong_shares) 0
  pub work : (count_over q l).work ≡ cleared l.work
  pub results : (count_over q l).results ≡ cleared l.results

abbrev pub EveryCountReturned : Type 0
EveryCountReturned = (q : Asked) (l : LentAreas) → (SharesRight q × ReturnsAlone q l) ⊎ ((SharesRight q → ⊥) × ReturnsWrongShares q l)

-- "56 bytes: what run returns, then results": of the run call, whatever areas it is lent
abbrev pub AsRunReturns : Type 0
AsRunReturns =
    (t : List ℕ) (k : ℕ) (work results : List ℕ) → length work ≡ work_bytes → length results ≡ results_bytes →
    bytes_of_script (run_text t k) ≡ word_bytes (run_call t work k results).returned ++ (run_call t work k results).results

-- DEMAND 3

-- what run would return is in the first word
abbrev pub returned_at : Ran → ℕ → ℕ
returned_at c i = word_in (part_at c i) 0

-- a script that check refuses: what check returns, and zeros
pub record PartRefused (q : Asked) (l : LentAreas) (i : ℕ) : Type 0 where
  pub number : IsRefusal (number_in (returned_at (count_over q l) i))
  pub returned : returned_at (count_over q l) i ≡ (check_call (text_at q i) l.work).returned
  pub zeros : drop 4 (part_at (count_over q l) i) ≡ replicate results_bytes 0

-- any other: it ends with 0, 21, 22, 23 or 27, and what it returns and leaves is what its steps in the joint run came to, each call of which
-- keeps what it was not handed
pub record PartClaim (q : Asked) (l : LentAreas) (i : ℕ) : Type 0 where
  pub number : NotStuck (number_in (returned_at (count_over q l) i))
  pub claim : ScriptClaim q i
  pub part : part_at (count_over q l) i ≡ bytes_of_script (result_at q i)

abbrev pub EveryPartReturned : Type 0
EveryPartReturned =
    (q : Asked) (l : LentAreas) → SharesRight q → (i : ℕ) → i < q.scripts → PartRefused q l i ⊎ PartClaim q l i
