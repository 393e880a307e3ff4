-- Pass 2, line by line: what the tables mean so far, what the next line may ask, and what it leaves.
use Rattle.std.specs.Prelude.{Option, Some, None, Result, Ok, Err, ◌≡◌, Bool, true, false, not, cond, ◌&&◌, ◌||◌, List, [], ◌∷◌, ◌++◌, map, ℕ, suc, pred, ◌+◌, ◌-◌, ◌≤◌, ◌<◌, length, get_or, drop}
use Rattle.rules.specs.Limits.{work_bytes, most_bytes, most_fields, most_locals, most_statements}
use Rattle.rules.specs.Syntax.{Field, Formula, Stmt, cmp, simple, return, if, else, join, loop, again, end}
use Rattle.rules.specs.Grammar.{Kind, Line, statement, is_kind, is_statement, kind_number}
use Rattle.rules.specs.Grammar as Grammar
use Rattle.rules.specs.Places.{one_more_if}
use Rattle.rules.specs.Scope.{Declarations, Variable, Scope, operand, scope_after}
use Rattle.rules.specs.Names.{field_number, all_known, all_typed, all_assignable}
use Rattle.rules.specs.Items.{Item, item_of, a_class, a_field, a_method, a_requires, an_ensures, a_main, a_local, a_statement}
use Rattle.rules.specs.Reading.{framed_item}
use Rattle.read_fields.specs.Cuts.{more}
use Rattle.read_grammar.specs.Rows.{kind_numbered}
use Rattle.tables.specs.Layout.{most_atom_rows, atom_limit, lines_at}
use Rattle.tables.specs.Decode.{framed_from}
use Rattle.tables.specs.Stores.{Kept}
use Rattle.read_scopes.specs.declared.Names.{Names}
use Rattle.read_scopes.specs.declared.Above.{Above}
use Rattle.read_scopes.specs.declared.Range.{Range}
use Rattle.read_names.specs.Rows.{entry_at, classes_first, fields_first, methods_first}
use Rattle.read_scopes.specs.Meanings.{NamesFit, AboveFits, declarations_in, variables_in, scope_in, more_locals}
use Rattle.read_types.specs.declared.Fault.{Fault}
use Rattle.read_types.specs.Verdicts.{Verdict, judged}
use Rattle.read_declarations.specs.Declares.{line_with}
use Rattle.rules.specs.Syntax.{Program}
use Rattle.rules.specs.Reading.{with_item}
use Rattle.tables.specs.Tables.{Declared}
use Rattle.write_rows.specs.Holds.{Holds}
use Rattle.resolve_pass.specs.declared.Pass.{Pass}

-- COUNTS

-- what the text declares, by its rows
abbrev pub counts : Names → Declared
counts c = record { classes = c.classes; methods = c.methods }

-- rows after those of a range
abbrev pub after : Range → ℕ
after r = r.first + r.count

unfoldable pub one_more : Range → Range
one_more r = record { first = r.first; count = r.count + 1 }

unfoldable pub next_range : Range → Range
next_range r = record { first = after r; count = 0 }

-- what the lines above declare, with one line of this kind more
unfoldable pub above_after : Kind → Above → Above
above_after k a =
    cond (is_kind Grammar.Class k)
    (record { classes = a.classes + 1; fields = next_range a.fields; methods = next_range a.methods })
    (cond (is_kind Grammar.Field k) (record { classes = a.classes; fields = one_more a.fields; methods = a.methods })
    (cond (is_kind Grammar.Method k) (record { classes = a.classes; fields = a.fields; methods = one_more a.methods })
    a))

-- the block is that of a method, or there is none; main's begins with none
unfoldable pub with_block : Bool → Names → Names
with_block m c =
    record { classes = c.classes; fields = c.fields; methods = c.methods; method = m; locals = 0; result = m }

unfoldable pub names_after : Kind → Names → Names
names_after k c =
    cond (is_kind Grammar.Method k) (with_block true c)
    (cond (is_kind Grammar.Var k) (more_locals c)
    (cond (is_kind (statement Grammar.End) k) (with_block false c)
    c))

-- what a line of this kind may name of it: "`requires` names only `this` and w"
unfoldable pub seen_by : Kind → Names → Names
seen_by k c =
    record {
      classes = c.classes;
      fields = c.fields;
      methods = c.methods;
      method = c.method;
      locals = c.locals;
      result = c.method && not (is_kind Grammar.Requires k);
    }

-- `let` and `if` have one atom, a formula at most eight, a `loop` one before it
unfoldable pub has_atoms : Kind → Bool
has_atoms k =
    (is_kind Grammar.Requires k || is_kind Grammar.Ensures k)
    || ((is_kind (statement Grammar.Let) k || is_kind (statement Grammar.If) k)
    || (is_kind (statement Grammar.Assert) k
    || (is_kind (statement Grammar.Release) k || (is_kind (statement Grammar.Join) k || is_kind (statement Grammar.Loop) k))))

-- how many at most
unfoldable pub atoms_at_most : Kind → ℕ
atoms_at_most k = cond (has_atoms k) (atom_limit (kind_number k)) 0

-- before the first line
abbrev pub first_pass : Names → Pass
first_pass r =
    record {
      names = r;
      above = record { classes = 0; fields = record { first = 0; count = 0 }; methods = record { first = 0; count = 0 } };
      rows = 0;
      atoms = 0;
      main = 0;
      line = 0;
      unframed = None;
    }

-- number 10 is about these
unfoldable pub is_framed : Kind → Bool
is_framed k =
    is_kind Grammar.Requires k || (is_kind Grammar.Ensures k || (is_kind (statement Grammar.Join) k || is_kind (statement Grammar.Loop) k))

unfoldable pub stated_formula : Stmt → Formula ℕ
stated_formula (simple s) = []
stated_formula (return x) = []
stated_formula (if n a b) = []
stated_formula else = []
stated_formula (join φ) = φ
stated_formula (loop n a b φ) = φ ++ (cmp n a b ∷ [])
stated_formula again = []
stated_formula end = []

-- the formula that it is about
unfoldable pub framed_formula : Item → Formula ℕ
framed_formula a_class = []
framed_formula (a_field f) = []
framed_formula a_method = []
framed_formula (a_requires φ) = φ
framed_formula (an_ensures φ) = φ
framed_formula a_main = []
framed_formula (a_local x) = []
framed_formula (a_statement s) = stated_formula s

-- THE LINES ABOVE: t is the text, w the work area

-- the text and the area have their lengths, and all counts fit
pub record PassFits (t w : List ℕ) (p : Pass) : Type 0 where
  pub text : length t ≤ most_bytes
  pub whole : length w ≡ work_bytes
  pub names : NamesFit p.names
  pub above : AboveFits p.above
  pub result : p.names.result ≡ p.names.method

unfoldable pub last_class : Program → List Field
last_class F = get_or F.classes (pred (length F.classes)) []

-- the tables mean F so far
pub record Stands (t w : List ℕ) (p : Pass) (F : Program) : Type 0 where
  pub holds : Holds (counts p.names) w F p.atoms
  pub rows : length F.rows ≡ p.rows
  pub classes : length F.classes ≡ p.above.classes
  pub methods : length F.methods ≡ after p.above.methods
  pub main : F.main ≡ p.main
  pub fields :
      map (λ f. f.name) (last_class F)
      ≡ map (field_number (declarations_in t w p.names)) (scope_in t w p.names p.above).members.fields

-- THE NEXT LINE

-- the line of this kind whose word ends at r
abbrev pub line_after : List ℕ → ℕ → ℕ → Line
line_after t r k = line_with (kind_numbered k) (more (drop r t))

-- what the tests of numbers 6, 7 and 9 say of it
unfoldable pub line_judged : Declarations → List Variable → Scope → Line → Verdict
line_judged Γ vs s l = judged (all_known Γ vs s l) (all_typed Γ vs l) (all_assignable vs l)

module _ (t w : List ℕ) (p : Pass) (l : Line) where
  -- as it stands in the text
  unfoldable pub judged_here : Verdict
  judged_here =
      line_judged (declarations_in t w p.names) (variables_in t w (seen_by l.kind p.names)) (scope_in t w p.names p.above) l

  -- there is room for what it adds, and what it declares is the next row of its kind
  pub record LineRoom : Type 0 where
    pub line : p.line < most_bytes
    pub rows : is_statement l.kind ≡ true → p.rows < most_statements
    pub atoms : has_atoms l.kind ≡ true → p.atoms + atom_limit (kind_number l.kind) ≤ most_atom_rows
    pub class :
        l.kind ≡ Grammar.Class →
        (p.above.classes < p.names.classes) × ((entry_at t w (classes_first + p.above.classes)).name ≡ operand l 0)
    pub field :
        l.kind ≡ Grammar.Field →
        ((1 ≤ p.above.classes) × (p.above.fields.count < most_fields))
        × ((after p.above.fields < p.names.fields)
        × ((entry_at t w (fields_first + after p.above.fields)).name ≡ operand l 1))
    pub method :
        l.kind ≡ Grammar.Method →
        (1 ≤ p.above.classes)
        × ((after p.above.methods < p.names.methods)
        × ((entry_at t w (methods_first + after p.above.methods)).name ≡ operand l 1))
    pub header : is_kind Grammar.Requires l.kind || is_kind Grammar.Ensures l.kind ≡ true → 1 ≤ after p.above.methods
    pub local : l.kind ≡ Grammar.Var → p.names.locals < most_locals

  abbrev pub item : Item
  item = item_of (declarations_in t w p.names) (variables_in t w (seen_by l.kind p.names)) l.kind l

-- the counts after the line
pub record Counts (p : Pass) (k : Kind) (q : Pass) : Type 0 where
  pub names : q.names ≡ names_after k p.names
  pub above : q.above ≡ above_after k p.above
  pub rows : q.rows ≡ one_more_if (is_statement k) p.rows
  pub grown : p.atoms ≤ q.atoms
  pub atoms : q.atoms ≤ p.atoms + atoms_at_most k
  pub condition : k ≡ statement Grammar.Loop → p.atoms < q.atoms
  pub main : q.main ≡ cond (is_kind Grammar.Main k) p.rows p.main
  pub line : q.line ≡ p.line + 1

-- the line is in the tables
pub record LinePut (t w : List ℕ) (p : Pass) (l : Line) (w' : List ℕ) (q : Pass) : Type 0 where
  pub counted : Counts p l.kind q
  pub built : (F : Program) → Stands t w p F → Stands t w' q (with_item F (suc p.line) (item t w p l))
  pub formula :
      is_framed l.kind ≡ true → (F : Program) → Stands t w p F →
      framed_from w' (kind_number l.kind) p.atoms (q.atoms - p.atoms) ≡ framed_formula (item t w p l)
  pub declared : declarations_in t w' q.names ≡ declarations_in t w p.names
  pub scope : scope_in t w' q.names q.above ≡ scope_after (scope_in t w p.names p.above) l
  pub lines : Kept lines_at work_bytes w w'
  pub size : length w' ≡ length w

-- a line that is refused
abbrev pub BadLine : (t w : List ℕ) (p : Pass) (l : Line) (w' : List ℕ) → Fault → Type 0
BadLine t w p l w' f = (judged_here t w p l ≡ Err f) × (length w' ≡ length w)

-- a line is put in the tables just if it is good
unfoldable pub LineTried : (t w : List ℕ) (p : Pass) (l : Line) (w' : List ℕ) → Result Pass Fault → Type 0
LineTried t w p l w' (Ok q) = (judged_here t w p l ≡ Ok tt) × (LinePut t w p l w' q × (q.unframed ≡ p.unframed))
LineTried t w p l w' (Err f) = BadLine t w p l w' f

-- the first of two, or the second if there is no first
abbrev pub first_of : Option ℕ → Option ℕ → Option ℕ
first_of (Some u) v = Some u
first_of None v = v

-- the first line that number 10 refuses, if any, after one line more
unfoldable pub unframed_after : Option ℕ → ℕ → Item → Option ℕ
unframed_after u n a = first_of u (cond (framed_item a) None (Some (suc n)))
