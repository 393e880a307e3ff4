-- With which numbers, and at which lines, check refuses a text that is read, as a statement. The crate `soundness` proves it.
use Rattle.std.specs.Prelude.{◌≡◌, List, ◌⊎◌, ℕ, ◌≤◌, length}
use Rattle.rules.specs.Answers.{accepted}
use Rattle.rules.specs.Text.{lines}
use Rattle.rules.specs.Items.{Item}
use Rattle.rules.specs.Reading.{read_text}
use Rattle.rules.specs.Calls.{check_text}

-- one of the rows from 10, "requires, ensures or join reads `x.f` with no `acc x f`", to 14, "state full"
abbrev pub FromRules : ℕ → Type 0
FromRules n = (10 ≤ n) × (n ≤ 14)

-- "that line": a line of the text
abbrev pub LineOf : List ℕ → ℕ → Type 0
LineOf t l = (1 ≤ l) × (l ≤ length (lines t))

-- "A number is returned if its row holds in that order, and never else": for a text that passes 2 to 9, check returns 0 at line 0,
-- or 10 to 14 at a line of the text. So what the rules refuse as out of place (4, 8), and requires refused at line 0, comes from
-- no text.
abbrev pub RefusedAtALine : Type 0
RefusedAtALine =
    (t : List ℕ) (items : List Item) → read_text t ≡ accepted items →
    (check_text t ≡ (0, 0)) ⊎ (FromRules (check_text t).0 × LineOf t (check_text t).1)
