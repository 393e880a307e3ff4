-- The area that the text is read into.
use Rattle.std.specs.Prelude.{ℕ, ◌+◌}
use Rattle.rules.specs.Limits.{most_bytes}

-- one byte more than a text may have
abbrev pub area_bytes : ℕ
area_bytes = most_bytes + 1
