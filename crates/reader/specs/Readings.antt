-- What the reader's answers mean: the refusal of each case, and the tables of a text that is read.
use Rattle.std.specs.Prelude.{Option, Some, None, Result, Ok, Err, ◌≡◌, Bool, cond, List, [], ℕ, suc, ◌+◌, ◌≤◌, ◌<◌, length}
use Rattle.rules.specs.Limits.{work_bytes, most_bytes, most_filled}
use Rattle.rules.specs.Syntax.{Formula}
use Rattle.rules.specs.Base.{ok, no}
use Rattle.rules.specs.Answers as Answers
use Rattle.rules.specs.Answers.{Verdict, accepted, refused}
use Rattle.rules.specs.Grammar.{Line, IsKindNumber, loop_kind}
use Rattle.rules.specs.Scope.{declarations, first_scope}
use Rattle.rules.specs.Items.{Item, resolve_line, resolve_lines}
use Rattle.rules.specs.Reading.{read_text, framed, check_framed, program}
use Rattle.read_scan.specs.declared.Word.{Word}
use Rattle.read_scan.specs.Table.{LineTable}
use Rattle.read_grammar.specs.Rows.{kind_numbered}
use Rattle.tables.specs.Layout.{most_atom_rows}
use Rattle.tables.specs.Decode.{program_in, run, atom_count, class_count, method_count}
use Rattle.tables.specs.Tables.{Tables}
use Rattle.read_names.specs.Rows.{entry_at, classes_first, methods_first}
use Rattle.read_scopes.specs.Meanings.{NamesFit, as_method, names_from, declarations_in, scope_in}
use Rattle.rules.specs.Syntax.{Program}
use Rattle.rules.specs.Reading.{no_program, with_items}
use Rattle.read_types.specs.declared.Fault.{Fault}
use Rattle.read_declarations.specs.Texts.{lines_of, TextTaken}
use Rattle.read_declarations.specs.Declares.{FormedAfter}
use Rattle.resolve_pass.specs.declared.Pass.{Pass}
use Rattle.resolve_pass.specs.Passes.{PassFits, Stands, LinePut, after, item, first_of, unframed_after}
use Rattle.reader.specs.declared.Refusal.{Refusal}
use Rattle.reader.specs.declared.RefusedLine.{RefusedLine}

-- the row of the table that a refusal is
unfoldable pub refusal_of : Refusal → Answers.Refusal
refusal_of Refusal.TextTooLong = Answers.text_too_long
refusal_of Refusal.BadByte = Answers.bad_byte
refusal_of Refusal.Malformed = Answers.malformed
refusal_of Refusal.LimitPassed = Answers.limit_passed
refusal_of Refusal.Undeclared = Answers.undeclared
refusal_of Refusal.WrongType = Answers.wrong_type
refusal_of Refusal.TextEnds = Answers.text_ends
refusal_of Refusal.WrongTarget = Answers.wrong_target

-- the row that a fault of names and types is
unfoldable pub number_of : Fault → Answers.Refusal
number_of Fault.Undeclared = Answers.undeclared
number_of Fault.WrongType = Answers.wrong_type
number_of Fault.WrongTarget = Answers.wrong_target

-- the verdict of number 10, by the first line that it refuses, if any
unfoldable pub framed_verdict : Option ℕ → Verdict (Unit {0})
framed_verdict None = accepted tt
framed_verdict (Some u) = refused Answers.unframed u

-- ONE LINE: t is the text, w the work area before it, w' after it

-- the tables mean something so far
pub record Written (t w : List ℕ) (p : Pass) : Type 0 where
  pub flat : Program
  pub stands : Stands t w p flat

-- it is of the kind and has the fields that its word r tells
pub record Begins (t w : List ℕ) (p : Pass) (r : Word) : Type 0 where
  pub ready : PassFits t w p
  pub high : r.end ≤ length t
  pub kind : IsKindNumber r.kind
  pub formed : FormedAfter t r.end (kind_numbered r.kind)

-- its atoms, between p and q, are written; k is the number of its kind
pub record Between (w : List ℕ) (k : ℕ) (p q : Pass) : Type 0 where
  pub kind : IsKindNumber k
  pub whole : length w ≡ work_bytes
  pub line : p.line < most_bytes
  pub low : p.atoms ≤ q.atoms
  pub high : q.atoms ≤ most_atom_rows
  pub condition : k ≡ loop_kind → p.atoms < q.atoms

-- with a formula that number 10 is about, or not
unfoldable pub unframed_by : Bool → Formula ℕ → Pass → Option ℕ
unframed_by b φ p = first_of p.unframed (cond b (cond (framed [] φ) None (Some (suc p.line))) None)

unfoldable pub with_unframed : Pass → Option ℕ → Pass
with_unframed p u =
    record { names = p.names; above = p.above; rows = p.rows; atoms = p.atoms; main = p.main; line = p.line; unframed = u }

-- the line is in the tables, and number 10 has its line
pub record LineTaken (t w : List ℕ) (p : Pass) (l : Line) (w' : List ℕ) (q : Pass) : Type 0 where
  pub put : LinePut t w p l w' q
  pub unframed : q.unframed ≡ unframed_after p.unframed p.line (item t w p l)

pub record LineRead (t w : List ℕ) (p : Pass) (l : Line) (w' : List ℕ) (q : Pass) : Type 0 where
  pub taken : LineTaken t w p l w' q
  pub resolved : resolve_line (declarations_in t w p.names) (scope_in t w p.names p.above) l ≡ ok (item t w p l)

unfoldable pub StepIs : (t w : List ℕ) (p : Pass) (l : Line) (w' : List ℕ) → Result Pass Refusal → Type 0
StepIs t w p l w' (Ok q) = LineRead t w p l w' q
StepIs t w p l w' (Err r) =
    (resolve_line (declarations_in t w p.names) (scope_in t w p.names p.above) l ≡ no (refusal_of r)) × (length w' ≡ length w)

-- ALL LINES

abbrev pub resolved_text : List ℕ → Verdict (List Item)
resolved_text t = resolve_lines (declarations (lines_of t)) (lines_of t) 0 first_scope

-- all lines are in the tables; the names and the table of lines stand, and there is room for the atoms of a line that is filled in
pub record AllRead (t w : List ℕ) (p : Pass) : Type 0 where
  pub items : List Item
  pub resolved : resolved_text t ≡ accepted items
  pub stands : Stands t w p (with_items no_program 0 items)
  pub classes : p.above.classes ≡ p.names.classes
  pub methods : after p.above.methods ≡ p.names.methods
  pub unframed : check_framed items 0 ≡ framed_verdict p.unframed
  pub declared : declarations_in t w p.names ≡ declarations (lines_of t)
  pub fits : NamesFit p.names
  pub lines : ℕ
  pub table : LineTable t w lines
  pub spare : p.atoms + most_filled ≤ most_atom_rows

unfoldable pub ResolvedIs : (t w : List ℕ) → Result Pass RefusedLine → Type 0
ResolvedIs t w (Ok p) = AllRead t w p
ResolvedIs t w (Err e) = resolved_text t ≡ refused (refusal_of e.why) e.line

-- THE TEXT

-- what stands beside the tables of a text: its lines by their words, and the names of its classes and methods
pub record Noted (t w : List ℕ) : Type 0 where
  pub taken : TextTaken t
  pub lines : ℕ
  pub table : LineTable t w lines
  pub classes : names_from t w classes_first (class_count w) ≡ (declarations (lines_of t)).classes
  pub methods : run (λ j. as_method (entry_at t w j)) methods_first (method_count w) ≡ (declarations (lines_of t)).methods

-- the tables in w are those of a text that is read as these items, with room for the atoms of a line that is filled in; u is the first line
-- that number 10 refuses, if any
pub record Tabled (t w : List ℕ) (u : Option ℕ) : Type 0 where
  pub items : List Item
  pub read : read_text t ≡ accepted items
  pub resolved : resolved_text t ≡ accepted items
  pub tables : Tables w
  pub program : program_in w ≡ program items
  pub framed : check_framed items 0 ≡ framed_verdict u
  pub spare : atom_count w + most_filled ≤ most_atom_rows
  pub noted : Noted t w

unfoldable pub ReadingIs : (t w : List ℕ) → Result (Option ℕ) RefusedLine → Type 0
ReadingIs t w (Ok u) = Tabled t w u
ReadingIs t w (Err e) = read_text t ≡ refused (refusal_of e.why) e.line
