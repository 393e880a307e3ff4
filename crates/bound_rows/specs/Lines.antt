-- What a statement is to a bound, and the blocks of the methods in the tables.
use Rattle.std.specs.Prelude.{◌≡◌, true, false, cond, List, ℕ}
use Rattle.std.proofs.Math.Option.{none, some}
use Rattle.rules.specs.Syntax.{Stmt, row_numbered}
use Rattle.rules.specs.Bounds.{Block, is_end, called, is_loop, blocks}
use Rattle.tables.specs.Decode.{program_in}
use Rattle.bound_rows.specs.declared.Line.{Line}
use Rattle.bound_rows.specs.declared.Line.TheVariants.{Plain, Call, Loop, End}

unfoldable pub line_of : Stmt → Line
line_of s = elim (called s) [ none ↦ cond (is_loop s) Loop (cond (is_end s) End Plain) | some n ↦ Call n ]

-- of the row i
abbrev pub line_in : List ℕ → ℕ → Line
line_in w i = line_of (row_numbered (program_in w) i).stmt

-- what that says of the statement
abbrev pub Says : Line → Stmt → Type 0
Says Plain s = (is_end s ≡ false) × (called s ≡ none) × (is_loop s ≡ false)
Says (Call n) s = (is_end s ≡ false) × (called s ≡ some n) × (is_loop s ≡ false)
Says Loop s = (is_end s ≡ false) × (called s ≡ none) × (is_loop s ≡ true)
Says End s = (is_end s ≡ true) × (called s ≡ none) × (is_loop s ≡ false)

-- the blocks of the methods
abbrev pub blocks_in : List ℕ → List Block
blocks_in w = blocks (program_in w)
