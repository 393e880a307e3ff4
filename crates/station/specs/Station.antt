-- What the parts of the calls answer.
use Rattle.std.specs.Prelude as Std
use Rattle.std.specs.Prelude.{◌≡◌, Ok, Err, cond, List, ℕ, length}
use Rattle.std.proofs.Math.Option.{none}
use Rattle.rules.specs.Limits.{work_bytes}
use Rattle.rules.specs.Answers as Answers
use Rattle.rules.specs.Answers.{Verdict, refusal_number}
use Rattle.rules.specs.Syntax.{Program}
use Rattle.rules.specs.Bounds.{bound_program}
use Rattle.rules.specs.Machine.{run_program}
use Rattle.rules.specs.Lean as Lean
use Rattle.rules.specs.Joint.{room_of}
use Rattle.rules.specs.Calls.{Result, Bounds, Filled, whole_heap, outcome_result, refused_result, bound_numbers, set_found}
use Rattle.rules.specs.Areas.{result_bytes, bound_bytes, Checked, Ran, Bounded, FillCalled}
use Rattle.filling.specs.Sets.{accesses_in, set_in}
use Rattle.reader.specs.Readings as Reader
use Rattle.reader.specs.Readings.{Tabled}
use Rattle.check_entailment.specs.Answers as Checker
use Rattle.reader.specs.declared.RefusedLine as Read
use Rattle.checker.specs.declared.RefusedLine as Checks
use Rattle.star_reader.specs.declared.Star.{Star}
use Rattle.star_reader.specs.declared.NoStar.{NoStar}
use Rattle.station.specs.declared.Refusal.{Refusal}
use Rattle.station.specs.declared.Refused.{Refused}
use Rattle.station.specs.declared.Reply.{Reply}

-- the row of the table that a refusal is
abbrev pub refusal_of : Refusal → Answers.Refusal
refusal_of (Refusal.Reading r) = Reader.refusal_of r
refusal_of Refusal.Unframed = Answers.unframed
refusal_of (Refusal.Checking a) = Checker.refusal_of a
refusal_of Refusal.Unbounded = Answers.unbounded
refusal_of Refusal.BoundPassed = Answers.bound_passed
refusal_of Refusal.NotOneStar = Answers.not_one_star
refusal_of Refusal.NoSetAccepted = Answers.no_set_accepted

-- what is not read, not accepted, or has no star to fill in
abbrev pub unread : Read.RefusedLine → Refused
unread e = record { why = Refusal.Reading e.why; line = e.line }

abbrev pub unchecked : Checks.RefusedLine → Refused
unchecked e = record { why = Refusal.Checking e.why; line = e.line }

abbrev pub starless : NoStar → Refused
starless (NoStar.Refused e) = unread e
starless NoStar.Missing = record { why = Refusal.NotOneStar; line = 0 }
starless (NoStar.Second l) = record { why = Refusal.NotOneStar; line = l }

-- what is found of a text: nothing that refuses it, or a refusal
abbrev pub Finding : Type 0
Finding = Std.Result (Unit {0}) Refused

-- number and line
abbrev pub numbers_in : Reply → ℕ × ℕ
numbers_in f = (f.number, f.line)

abbrev pub numbers_found : Finding → ℕ × ℕ
numbers_found (Ok u) = (0, 0)
numbers_found (Err r) = (refusal_number (refusal_of r.why), r.line)

abbrev pub run_numbers : Result → ℕ × ℕ
run_numbers r = (r.number, r.line)

-- what was found of the text t: number and line; where nothing refuses it, its tables stand in the work area
pub record Found (v : ℕ × ℕ) (t : List ℕ) (f : Finding) (work : List ℕ) : Type 0 where
  pub numbers : numbers_found f ≡ v
  pub taken : f ≡ Ok tt → (u : Std.Option ℕ) × Tabled t work u
  pub size : length work ≡ work_bytes

-- what a run answers, and what it leaves in the results and the work area
abbrev pub RunAs : Result → Reply → List ℕ → List ℕ → Type 0
RunAs r f results work = (numbers_in f ≡ run_numbers r) × (results ≡ result_bytes r) × (length work ≡ work_bytes)

-- the answer r, unless a refusal was found
abbrev pub unless_refused : Finding → Result → Result
unless_refused (Ok u) x = x
unless_refused (Err r) x = refused_result (numbers_found (Err r))

-- a run of the program P with a share of so many objects for the heap
abbrev pub share_run : ℕ → Program → ℕ → Result
share_run j P k = outcome_result (run_program (room_of j) P k)

-- a run of the program P by the lean machine
abbrev pub lean_run : Program → ℕ → Result
lean_run P k = outcome_result (Lean.outcome_of (Lean.run_program whole_heap P k))

-- what a bound answers, and what it leaves in the bounds area
abbrev pub BoundAs : Bounds → Finding → List ℕ → Type 0
BoundAs b f bounds = (numbers_found f ≡ (b.number, b.line)) × (bounds ≡ bound_bytes b)

-- numbers of a refusal, and zeros
abbrev pub no_bound : ℕ × ℕ → Bounds
no_bound p = record { number = p.0; line = p.1; bound = 0; frames = 0 }

-- what it answers of the program P, unless a refusal was found
abbrev pub bound_found : Finding → Program → Bounds
bound_found (Ok u) P = bound_numbers (bound_program P)
bound_found (Err r) P = no_bound (numbers_found (Err r))

-- what a set answers, and what it leaves in the places area
abbrev pub FillAs : Filled → Finding → List ℕ → Type 0
FillAs a f places = (numbers_found f ≡ (a.number, a.line)) × (places ≡ a.places)

-- the set for the star s of a text that is read as the program P: none where number 10 refuses a line
unfoldable pub set_at_star : Program → Star → Verdict (List ℕ)
set_at_star P s =
    set_found s.line
    (cond (Std.is_some s.unframed) none (set_in P s.method (accesses_in P.classes s.class s.parameter)))

-- WHAT A CALL RETURNS, and leaves in each area
abbrev pub CheckLeaves : Checked → ℕ → List ℕ → Type 0
CheckLeaves c r work = (r ≡ c.returned) × (work ≡ c.work)

abbrev pub RunLeaves : Ran → ℕ → List ℕ → List ℕ → Type 0
RunLeaves c r work results = (r ≡ c.returned) × (work ≡ c.work) × (results ≡ c.results)

abbrev pub BoundLeaves : Bounded → ℕ → List ℕ → List ℕ → Type 0
BoundLeaves c r work bounds = (r ≡ c.returned) × (work ≡ c.work) × (bounds ≡ c.bounds)

abbrev pub FillLeaves : FillCalled → ℕ → List ℕ → List ℕ → Type 0
FillLeaves c r work places = (r ≡ c.returned) × (work ≡ c.work) × (places ≡ c.places)
