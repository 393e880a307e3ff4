-- What the code's answer says of a sum or difference.
use Rattle.std.specs.Prelude.{ℕ, Option, Some, None}
use Rattle.rules.specs.Base.{Try, ok, no}
use Rattle.rules.specs.Answers.{Stop, overflow}

unfoldable pub computed_is : Option ℕ → Try Stop ℕ
computed_is (Some n) = ok n
computed_is None = no overflow
