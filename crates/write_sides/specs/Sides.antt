-- Rows of the statements that have one atom: `let` and `if`.
use Rattle.std.specs.Prelude.{Result, Ok, Err, ◌≡◌, List, [], ℕ, ◌+◌, ◌≤◌, ◌<◌, ltb, length, get_or, drop}
use Rattle.std.proofs.Math.Option.{some}
use Rattle.rules.specs.Limits.{work_bytes}
use Rattle.rules.specs.Base.{Name}
use Rattle.rules.specs.Text.{expr_of}
use Rattle.rules.specs.Grammar.{Statement, statement}
use Rattle.rules.specs.Scope.{Declarations, Variable, Scope}
use Rattle.rules.specs.Names.{is_local, agree, in_scope, variable_number, variable_type, expr_type}
use Rattle.rules.specs.Items.{item_of}
use Rattle.read_fields.specs.Cuts.{more}
use Rattle.tables.specs.Layout.{frame_variables, most_atom_rows, names_at}
use Rattle.tables.specs.Stores.{Kept}
use Rattle.read_scopes.specs.declared.Names.{Names}
use Rattle.read_scopes.specs.Meanings.{declarations_in, variables_in}
use Rattle.read_names.specs.Rows.{name_in}
use Rattle.read_lookups.specs.LookUps.{type_of}
use Rattle.read_types.specs.declared.Lookup.{Lookup}
use Rattle.read_types.specs.declared.Fault.{Fault}
use Rattle.read_types.specs.Verdicts.{Verdict, test, and_then}
use Rattle.read_types.specs.Types.{expr_judged, type_meant}
use Rattle.rules.specs.Syntax.{Program}
use Rattle.rules.specs.Reading.{with_item}
use Rattle.tables.specs.declared.Operands.{Operands}
use Rattle.tables.specs.Tables.{Declared}
use Rattle.write_rows.specs.Holds.{Holds}
use Rattle.read_declarations.specs.Declares.{line_with, FormedAfter}
use Rattle.resolve_pass.specs.Passes.{line_judged}

-- a row with the variable x and the atom n, of this line
abbrev pub one_row : ℕ → ℕ → ℕ → ℕ → Operands
one_row k x n l = record { kind = k; x = x; y = 0; z = 0; member = 0; atoms = 1; first = n; line = l }

-- what the tests of numbers 6, 7 and 9 say of `let x e`: x is a local, and of the type of e
unfoldable pub let_judged : Declarations → List Variable → List Name → Verdict
let_judged Γ vs ws =
    let x : Name = get_or ws 0 [] in
    test (in_scope vs x) Fault.Undeclared
    (and_then (expr_judged Γ vs (expr_of (get_or ws 1 [])))
    (test (agree (some (variable_type vs x)) (expr_type Γ vs (expr_of (get_or ws 1 [])))) Fault.WrongType
    (test (is_local (variable_number vs x)) Fault.WrongTarget (Ok tt))))

-- by what was looked up
abbrev pub may_let : List ℕ → List ℕ → ℕ → Lookup → Verdict
may_let t w x e =
    test (ltb x frame_variables) Fault.Undeclared
    (and_then e.verdict
    (test (agree (some (name_in t (type_of w x))) (type_meant t e.is)) Fault.WrongType (test (is_local x) Fault.WrongTarget (Ok tt))))

-- the statement whose word ends at r has its form, and there is room for the atom n
pub record SideFollows (a : Statement) (t : List ℕ) (r n : ℕ) : Type 0 where
  pub high : r ≤ length t
  pub formed : FormedAfter t r (statement a)
  pub room : n < most_atom_rows

module _ (a : Statement) (t w : List ℕ) (c : Names) (r : ℕ) where
  -- it is written with the atom n as the row i, and is the line l
  pub record SidePut (i n l : ℕ) (w' : List ℕ) (m : ℕ) : Type 0 where
    pub count : m ≡ n + 1
    pub built :
        (D : Declared) (F : Program) → length F.rows ≡ i → Holds D w F n →
        Holds D w' (with_item F l (item_of (declarations_in t w c) (variables_in t w c) (statement a) (line_with (statement a) (more (drop r t))))) m
    pub names : Kept names_at work_bytes w w'
    pub size : length w' ≡ length w

  -- it is written just if it is good, whatever the scope
  unfoldable pub SideTried : (i n l : ℕ) (w' : List ℕ) → Result ℕ Fault → Type 0
  SideTried i n l w' (Ok m) =
      ((s : Scope) → line_judged (declarations_in t w c) (variables_in t w c) s (line_with (statement a) (more (drop r t))) ≡ Ok tt)
      × SidePut i n l w' m
  SideTried i n l w' (Err f) =
      ((s : Scope) → line_judged (declarations_in t w c) (variables_in t w c) s (line_with (statement a) (more (drop r t))) ≡ Err f)
      × (length w' ≡ length w)
