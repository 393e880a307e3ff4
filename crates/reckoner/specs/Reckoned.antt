-- What the answer means.
use Rattle.std.specs.Prelude.{ℕ, Result, Ok, Err}
use Rattle.rules.specs.Answers.{Verdict, accepted, refused, unbounded, bound_passed}
use Rattle.bound_walk.specs.declared.Bound.{Bound}
use Rattle.reckoner.specs.declared.Refusal.{Refusal}
use Rattle.reckoner.specs.declared.Refusal.TheVariants.{Unbounded, Passed}

unfoldable pub verdict_of : Result Bound Refusal → Verdict (ℕ × ℕ)
verdict_of (Ok b) = accepted (b.steps, b.frames)
verdict_of (Err (Unbounded l)) = refused unbounded l
verdict_of (Err Passed) = refused bound_passed 0
