-- At which line the exported check refuses a text that is read, as a statement. proofs/Refusals proves it.
use Rattle.std.specs.Prelude.{◌≡◌, List, ◌⊎◌, ℕ, length}
use Rattle.rules.specs.Limits.{work_bytes}
use Rattle.rules.specs.Answers.{accepted}
use Rattle.rules.specs.Items.{Item}
use Rattle.rules.specs.Reading.{read_text}
use Rattle.rules.specs.Areas.{check_call, number_in, line_in}
use Rattle.rules.specs.Refusals.{FromRules, LineOf}

-- "Each returns number × 65,536 + line": 0 with line 0, or 10 to 14 with a line of the text, whatever area check was lent
abbrev pub ReturnsAtALine : Type 0
ReturnsAtALine =
    (t area : List ℕ) (items : List Item) → length area ≡ work_bytes → read_text t ≡ accepted items →
    ((check_call t area).returned ≡ 0)
    ⊎ (FromRules (number_in (check_call t area).returned) × LineOf t (line_in (check_call t area).returned))
