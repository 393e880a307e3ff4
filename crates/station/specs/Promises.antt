-- What W6 promises of a bound, and W11 of a set, for what the calls return, as statements. proofs/Promises and proofs/Filled prove them.
use Rattle.std.specs.Prelude.{◌≡◌, List, ◌++◌, ◌⊎◌, ℕ, suc, ◌≤◌, length, take, replicate}
use Rattle.rules.specs.Limits.{most_bytes, most_frames, work_bytes, bounds_bytes, places_bytes}
use Rattle.rules.specs.Answers.{accepted}
use Rattle.rules.specs.Text.{lines}
use Rattle.rules.specs.Grammar.{Line}
use Rattle.rules.specs.Items.{Item}
use Rattle.rules.specs.Reading.{read_text, program}
use Rattle.rules.specs.Fill.{accesses_at, at_places, with_atoms}
use Rattle.rules.specs.Calls.{whole_heap}
use Rattle.rules.specs.Runs.{Run, depth}
use Rattle.rules.specs.Areas.{check_call, bound_call, fill_call, number_in, word_in}
use Rattle.filling.specs.Claims.{joined, OneStar, AcceptedFirst}
use Rattle.station.specs.Demand.{Lent, run_over}

-- A BOUND

-- b: the bounds area that bound left, "main's bound and the most frames on a route of calls, main's counted", a word each; in the results
-- area the first word is the count of steps
pub record KeptTo (t b : List ℕ) (l : Lent) : Type 0 where
  -- "no run's count passes it"
  pub never_passed : word_in (run_over t l).results 0 ≤ word_in b 0
  -- "a run allowed that many steps never answers 21"
  pub enough : word_in b 0 ≤ l.steps → number_in (run_over t l).returned ≡ 21 → ⊥
  -- "the most frames": after no step of the run are more open
  pub frames_enough :
      (items : List Item) → read_text t ≡ accepted items → (R : Run whole_heap (program items) l.steps) (i : ℕ) → i ≤ R.steps →
      suc (depth (R.state i)) ≤ word_in b 4
  -- so where they are at most 64, which document 01 allows, run never returns 23, "frames full"
  pub frames-fit : word_in b 4 ≤ most_frames → number_in (run_over t l).returned ≡ 23 → ⊥

-- "Where it gives a bound": whatever areas bound was lent, and whatever run is
abbrev pub BoundKept : Type 0
BoundKept =
    (t work bounds : List ℕ) → length work ≡ work_bytes → length bounds ≡ bounds_bytes → (bound_call t work bounds).returned ≡ 0 →
    (l : Lent) → KeptTo t (bound_call t work bounds).bounds l

-- A SET

-- "17 at that line if no such set is accepted", "and with 18"; "both come after 9"
abbrev pub FillNumber : ℕ → Type 0
FillNumber n = (n ≡ 0) ⊎ (((2 ≤ n) × (n ≤ 9)) ⊎ ((n ≡ 17) ⊎ (n ≡ 18)))

-- whatever areas fill is lent: it never returns 10 to 16
abbrev pub FillNumbered : Type 0
FillNumbered =
    (t work places : List ℕ) → length work ≡ work_bytes → length places ≡ places_bytes →
    FillNumber (number_in (fill_call t work places).returned)

-- the text t has one star, at this line, and b are the places of the first set with which it is accepted
pub record FilledIn (t b : List ℕ) : Type 0 where
  pub ks : List Line
  pub items : List Item
  pub line : ℕ
  pub set : List ℕ
  pub star : OneStar (lines t) ks items line
  -- "the atoms' places from 1, rising, then zeros"
  pub places : b ≡ take places_bytes (set ++ replicate places_bytes 0)
  pub first : AcceptedFirst t set ks line
  -- "the whole text, its length apart, is accepted": check returns 0 for it, whatever area it is lent
  pub checked :
      (area : List ℕ) → length area ≡ work_bytes → length (joined (with_atoms (at_places (accesses_at ks line) set) (lines t))) ≤ most_bytes →
      (check_call (joined (with_atoms (at_places (accesses_at ks line) set) (lines t))) area).returned ≡ 0

-- where fill returns 0
abbrev pub FillReturned : Type 0
FillReturned =
    (t work places : List ℕ) → length work ≡ work_bytes → length places ≡ places_bytes → (fill_call t work places).returned ≡ 0 →
    FilledIn t (fill_call t work places).places
