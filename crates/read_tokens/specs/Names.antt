-- What begins as a name.
use Rattle.std.specs.Prelude.{Bool, ◌&&◌, ℕ, leb, get_or}
use Rattle.rules.specs.Base.{Name}
use Rattle.rules.specs.Limits.{most_letters}
use Rattle.rules.specs.Text.{letter}

-- n bytes are few enough for a name, and the first is a letter
unfoldable pub begins_name : ℕ → Name → Bool
begins_name n w = leb n most_letters && letter (get_or w 0 0)
