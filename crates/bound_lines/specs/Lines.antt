-- The first line that is refused, by the rows of the tables.
use Rattle.std.specs.Prelude.{cond, List, ℕ, ◌<◌, Option, Some, None}
use Rattle.std.proofs.Math.Option as Math
use Rattle.std.proofs.Math.Option.{none, some}
use Rattle.rules.specs.Limits.{most_methods}
use Rattle.rules.specs.Syntax.{Row}
use Rattle.rules.specs.Bounds.{Block, block, recursive, first_in}
use Rattle.tables.specs.Decode.{method_count, program_in}
use Rattle.bound_rows.specs.declared.Line.{Line}
use Rattle.bound_rows.specs.declared.Line.TheVariants as Lines
use Rattle.bound_rows.specs.Lines.{blocks_in}
use Rattle.bound_lines.specs.declared.Seen.{Seen}
use Rattle.bound_lines.specs.declared.Seen.TheVariants.{Repeats, Ends, Goes}

-- the method that a line is in
abbrev pub owner_of : Option ℕ → Math.Option ℕ
owner_of None = none
owner_of (Some a) = some a

abbrev pub OwnerFits : Option ℕ → Type 0
OwnerFits None = Unit {0}
OwnerFits (Some a) = a < most_methods

-- a method that is called is there
abbrev pub CallThere : List ℕ → Line → Type 0
CallThere w Lines.Plain = Unit {0}
CallThere w (Lines.Call c) = c < method_count w
CallThere w Lines.Loop = Unit {0}
CallThere w Lines.End = Unit {0}

unfoldable pub looked_at : List Block → Math.Option ℕ → Line → Seen
looked_at bs o Lines.Plain = Goes
looked_at bs o (Lines.Call c) = cond (recursive bs o c) Repeats Goes
looked_at bs o Lines.Loop = Repeats
looked_at bs o Lines.End = Ends

-- the line of a row
unfoldable pub place_of : Math.Option Row → Option ℕ
place_of none = None
place_of (some r) = Some r.line

-- the first of the block that starts at row i
abbrev pub first_of : List ℕ → Math.Option ℕ → ℕ → Option ℕ
first_of w o i = place_of (first_in (blocks_in w) o (block (program_in w) i))
