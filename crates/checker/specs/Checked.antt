-- What the checker of a block and of a program answers.
use Rattle.std.specs.Prelude.{◌≡◌, Bool, true, false, List, [], ◌∷◌, ℕ, suc, ◌+◌, ◌-◌, ◌≤◌, ◌<◌, T, drop, Result, Ok, Err, IfOk, IfErr}
use Rattle.std.proofs.Math.Option.{some}
use Rattle.rules.specs.Limits.{most_branches}
use Rattle.rules.specs.Grammar.{is_closing_number}
use Rattle.rules.specs.Answers as Answers
use Rattle.rules.specs.Answers.{accepted, refused}
use Rattle.rules.specs.Base.{ok, ◌>>=◌}
use Rattle.rules.specs.Syntax.{Formula}
use Rattle.rules.specs.State as Rules
use Rattle.rules.specs.Rules.{End, Open, in_first, in_second, in_loop, show_end, check_rows}
use Rattle.tables.specs.Decode.{kind_at, line_at, formula_at, atoms_from, row_count, all_rows, program_in}
use Rattle.tables.specs.Layout.{most_atom_rows}
use Rattle.tables.specs.Tables.{nested, Tables}
use Rattle.check_entailment.specs.Answers.{Answer, refusal_of}
use Rattle.check_state.specs.States.{Wf, state_of}
use Rattle.check_statements.specs.Statements.{end_of}
use Rattle.check_rows.specs.Rows.{loop_leaves}
use Rattle.checker.specs.declared.Reached.{Reached}
use Rattle.checker.specs.declared.RefusedRow.{RefusedRow}
use Rattle.checker.specs.declared.RefusedLine.{RefusedLine}

-- accepted, or the number and the line
unfoldable pub verdict_of : Result (Unit {0}) RefusedLine → Answers.Verdict (Unit {0})
verdict_of (Ok u) = accepted tt
verdict_of (Err e) = refused (refusal_of e.why) e.line

-- what follows, or the refusal at a line
unfoldable pub outcome : Answer → ℕ → Answers.Verdict (Unit {0}) → Answers.Verdict (Unit {0})
outcome (Ok u) l v = v
outcome (Err e) l v = refused (refusal_of e) l

-- an answer to the line l
abbrev pub on_line : Answer → ℕ → Result (Unit {0}) RefusedLine
on_line (Ok u) l = Ok tt
on_line (Err e) l = Err (record { why = e; line = l })

-- a refused row by its line
abbrev pub line_of : List ℕ → RefusedRow → RefusedLine
line_of w r = record { why = r.why; line = line_at w r.row }

-- ROWS

-- the rows from i on, where d branches and loops are open
abbrev pub Nests : List ℕ → ℕ → ℕ → Type 0
Nests w i d = T (nested (drop i (all_rows w)) d)

-- a row to be checked in a block that must show n atoms from the atom a on, where so many branches and loops may still be opened
pub record Stands (w : List ℕ) (depth i a n : ℕ) : Type 0 where
  pub tables : Tables w
  pub deep : depth ≤ most_branches
  pub within : i < row_count w
  pub nests : Nests w i (most_branches - depth)
  pub atoms : a + n ≤ most_atom_rows

-- these rows checked in a block with the ensures φ, where e is known
abbrev pub verdict_from : List ℕ → ℕ → End → Formula ℕ → List Open → Answers.Verdict (Unit {0})
verdict_from w i e φ os = check_rows (program_in w) φ (drop i (all_rows w)) e os

-- a block from row i on, which must show n atoms from the atom a on where it ends
abbrev pub block_verdict : List ℕ → ℕ → ℕ → ℕ → Rules.State → Answers.Verdict (Unit {0})
block_verdict w i a n s = verdict_from w i (some s) (atoms_from w a n) []

-- an answer to row i, where x is reached if it is done
abbrev pub at_row : {A : Type 0} → Answer → ℕ → A → Result A RefusedRow
at_row (Ok u) i x = Ok x
at_row (Err e) i x = Err (record { why = e; row = i })

-- the row after i is reached, where that is done
abbrev pub passed_at : Answer → ℕ → Result Reached RefusedRow
passed_at k i = at_row k i (record { at = i + 1; returned = false })

-- the row that is reached or refused
abbrev pub row_of : Result Reached RefusedRow → ℕ
row_of (Ok r) = r.at
row_of (Err e) = e.row

-- what follows from there, or the refusal at a row's line
unfoldable pub from_there : {A : Type 0} → List ℕ → Result A RefusedRow → (A → Answers.Verdict (Unit {0})) → Answers.Verdict (Unit {0})
from_there w (Ok r) f = f r
from_there w (Err e) f = refused (refusal_of e.why) (line_at w e.row)

-- rows from i on, up to another, where the arrays then hold the state, or to the one after a `return`: what they give, whatever is open
-- around them
pub record Went (w : List ℕ) (depth i : ℕ) (φ : Formula ℕ) (s : Rules.State) (r : Result Reached RefusedRow) (key b : List ℕ) : Type 0 where
  pub wf : Wf key b
  pub on : i ≤ row_of r
  pub within : row_of r < row_count w
  pub nests : IfOk r (λ x. Nests w x.at (most_branches - depth))
  pub same :
      (os : List Open) →
      verdict_from w i (some s) φ os ≡ from_there w r (λ x. verdict_from w x.at (end_of x.returned (state_of key b)) φ os)

-- a block's rows from i on: all up to one that closes it
pub record Ran (w : List ℕ) (depth i : ℕ) (φ : Formula ℕ) (s : Rules.State) (r : Result Reached RefusedRow) (key b : List ℕ) : Type 0 where
  pub went : Went w depth i φ s r key b
  pub closes : IfOk r (λ x. x.returned ≡ false → is_closing_number (kind_at w x.at) ≡ true)

-- row i, with all up to the `join` or `again` of a branch or loop that it opens
pub record Passed (w : List ℕ) (depth i : ℕ) (φ : Formula ℕ) (s : Rules.State) (r : Result Reached RefusedRow) (key b : List ℕ) : Type 0 where
  pub went : Went w depth i φ s r key b
  pub further : IfOk r (λ x. i < x.at)

-- a `return` at row i, however deep
abbrev pub Returns : List ℕ → ℕ → Formula ℕ → Rules.State → Result Reached RefusedRow → List ℕ → List ℕ → Type 0
Returns w i φ s r key b = (depth : ℕ) → Nests w i (most_branches - depth) → Passed w depth i φ s r key b

-- THE PARTS OF A BRANCH, AND A LOOP'S BODY
pub record Ended (w : List ℕ) (r : Reached) : Type 0 where
  pub within : r.at < row_count w
  pub closes : r.returned ≡ false → is_closing_number (kind_at w r.at) ≡ true

-- the first part ends, with any state s or after a `return`, at its `else`
pub record Turned (w : List ℕ) (one : Reached) (r : Result (Unit {0}) RefusedRow) : Type 0 where
  pub place : IfErr r (λ e. e.row ≡ one.at)
  pub next : IfOk r (λ u. one.at + 1 < row_count w)
  pub nests : IfOk r (λ u. (d : ℕ) → Nests w one.at d → Nests w (one.at + 1) d)
  pub same :
      (s s₂ : Rules.State) (φ : Formula ℕ) (os : List Open) →
      verdict_from w one.at (end_of one.returned s) φ (in_first s₂ ∷ os)
      ≡ from_there w r (λ u. verdict_from w (one.at + 1) (some s₂) φ (in_second (end_of one.returned s) ∷ os))

-- the second part, or a loop's body, ends with the state t or after a `return`, at the row that closes what is open
pub record Closed (w : List ℕ) (end : Reached) (t : Rules.State) (o : Open) (r : Result Reached RefusedRow) (key b : List ℕ) : Type 0 where
  pub wf : Wf key b
  pub on : end.at ≤ row_of r
  pub within : row_of r < row_count w
  pub nests : IfOk r (λ x. (d : ℕ) → Nests w end.at (suc d) → Nests w x.at d)
  pub same :
      (φ : Formula ℕ) (os : List Open) →
      verdict_from w end.at (end_of end.returned t) φ (o ∷ os)
      ≡ from_there w r (λ x. verdict_from w x.at (end_of x.returned (state_of key b)) φ os)

-- the second part of a branch, whose end is in key₂ and b₂; its first part ended with the state in key₁ and b₁ or after a `return`
abbrev pub BranchClosed : List ℕ → Reached → List ℕ → List ℕ → Bool → List ℕ → List ℕ → Result Reached RefusedRow → List ℕ → List ℕ → Type 0
BranchClosed w two key₂ b₂ returned key₁ b₁ r key b = Closed w two (state_of key₂ b₂) (in_second (end_of returned (state_of key₁ b₁))) r key b

-- the body of the loop at row i, where the state after the loop is the same whatever shows the invariant
abbrev pub BodyClosed : List ℕ → ℕ → Reached → Rules.State → Result Reached RefusedRow → List ℕ → List ℕ → Type 0
BodyClosed w i end t r key b =
    (after : Rules.State) → ((e : End) → loop_leaves w i e ≡ (show_end (formula_at w i) e >>= λ u. ok after)) →
    Closed w end t (in_loop (formula_at w i) after) r key b
