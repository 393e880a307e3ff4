-- The variables of main by the lines of the text, and what is written of them while the lines are walked.
use Rattle.std.specs.Prelude.{◌≡◌, cond, ◌||◌, List, [], ◌∷◌, ◌++◌, ℕ, ◌+◌, ◌*◌, ◌≤◌, ◌<◌, length, get_or}
use Rattle.rules.specs.Base.{Name}
use Rattle.rules.specs.Limits.{values_shown}
use Rattle.rules.specs.Grammar.{Kind, Line, Method, Main, Var, is_kind}
use Rattle.rules.specs.Scope.{operand}
use Rattle.rules.specs.Printed.{printed_variables}
use Rattle.printer.specs.declared.Shown.{Shown}
use Rattle.printer.specs.Writes.{Writes}
use Rattle.printer.specs.Answers.{variable_line, values_in}

-- the locals of a block after a line: `method` and `main` begin one, `var` adds its name
unfoldable pub locals_by : List Name → Line → List Name
locals_by xs l =
    cond (is_kind Method l.kind || is_kind Main l.kind) []
    (cond (is_kind Var l.kind) (xs ++ (operand l 1 ∷ []))
    xs)

-- those of the last block
unfoldable pub locals : List Name → List Line → List Name
locals xs [] = xs
locals xs (l ∷ ls) = locals (locals_by xs l) ls

-- `var`, a name of 12 letters, a value of 11 bytes, two tabs and LF
abbrev pub most_line : ℕ
most_line = 29

-- twelve of them
abbrev pub most_lines : ℕ
most_lines = 348

-- there is room for one more
pub record ShownRoom (k : Kind) (s : Shown) (o : List ℕ) : Type 0 where
  pub value : k ≡ Var → s.count < values_shown
  pub line : k ≡ Var → s.end + most_line ≤ length o

-- The locals xs stand from a on, with values of the area b, after what o has before a.
pub record Shows (o : List ℕ) (a : ℕ) (b : List ℕ) (xs : List Name) (s : Shown) (o' : List ℕ) : Type 0 where
  pub count : s.count ≡ length xs
  pub bytes : Writes o a (printed_variables xs (values_in b)) o' s.end
  pub few : s.end ≤ a + most_line * s.count

-- Where the locals xs stand before a line, those after it stand then.
pub record Goes (a : ℕ) (b : List ℕ) (l : Line) (o : List ℕ) (s : Shown) (o' : List ℕ) (r : Shown) : Type 0 where
  pub size : length o' ≡ length o
  pub on : (u : List ℕ) (xs : List Name) → Shows u a b xs s o → Shows u a b (locals_by xs l) r o'

-- One local more is written, with the value at its place in the area b.
pub record ShowsLocal (b : List ℕ) (x : Name) (o : List ℕ) (s : Shown) (o' : List ℕ) (r : Shown) : Type 0 where
  pub count : r.count ≡ s.count + 1
  pub bytes : Writes o s.end (variable_line x (get_or (values_in b) s.count 0)) o' r.end
  pub few : r.end ≤ s.end + most_line
