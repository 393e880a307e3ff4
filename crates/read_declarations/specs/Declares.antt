-- What the rows of a text's lines mean.
use Rattle.std.specs.Prelude.{◌≡◌, true, false, cond, List, [], ◌∷◌, ◌++◌, ℕ, ◌+◌, ◌<◌, ◌≤◌, length, get_or, drop}
use Rattle.rules.specs.Base.{Name}
use Rattle.rules.specs.Limits.{work_bytes, most_bytes, most_classes, most_methods}
use Rattle.rules.specs.Text.{is_name}
use Rattle.rules.specs.Grammar.{Kind, Line, Class, Field, Method, form, IsKindNumber, is_formed, is_kind}
use Rattle.rules.specs.Scope.{Declarations, classes_of, fields_of, methods_of, declarations}
use Rattle.tables.specs.Layout.{most_names, lines_at}
use Rattle.tables.specs.Stores.{Kept, SameTables}
use Rattle.read_fields.specs.Cuts.{more}
use Rattle.read_grammar.specs.Rows.{kind_numbered}
use Rattle.read_scopes.specs.declared.Names.{Names}
use Rattle.read_names.specs.declared.Row.{Row}
use Rattle.read_names.specs.Rows.{Entry, entry_of, RowFits}
use Rattle.read_scopes.specs.Meanings.{NamesFit, declarations_in, more_classes, more_fields, more_methods}
use Rattle.read_declarations.specs.Texts.{lines_of}

-- the declarations of lines with n classes above them, after others
unfoldable pub joined : Declarations → ℕ → List Line → Declarations
joined d n ls =
    record { classes = d.classes ++ classes_of ls; fields = d.fields ++ fields_of n ls; methods = d.methods ++ methods_of n ls }

abbrev pub line_with : Kind → List Name → Line
line_with k ws = record { kind = k; fields = ws }

-- the fields after r are those of a line of this kind
abbrev pub FormedAfter : List ℕ → ℕ → Kind → Type 0
FormedAfter t r k = is_formed (form k).operands (form k).tail (more (drop r t)) ≡ true

-- field i of them is a name
abbrev pub NameAfter : List ℕ → ℕ → ℕ → Type 0
NameAfter t r i = is_name (get_or (more (drop r t)) i []) ≡ true

-- the counts after a line
unfoldable pub names_after : Kind → Names → Names
names_after k c =
    cond (is_kind Class k) (more_classes c) (cond (is_kind Field k) (more_fields c) (cond (is_kind Method k) (more_methods c) c))

abbrev pub no_names : Names
no_names = record { classes = 0; fields = 0; methods = 0; method = false; locals = 0; result = false }

-- the text fits, the area is whole, and the rows are counted
pub record TextFits (t w : List ℕ) (c : Names) : Type 0 where
  pub text : length t ≤ most_bytes
  pub whole : length w ≡ work_bytes
  pub fits : NamesFit c

-- there is room for the row of a line of this kind
pub record NameRoom (k : Kind) (c : Names) : Type 0 where
  pub class : k ≡ Class → c.classes < most_classes
  pub field : k ≡ Field → c.fields < most_names
  pub method : k ≡ Method → c.methods < most_methods

-- the line of kind k whose word ends at r has its form, and there is room for its row
pub record LineReady (t : List ℕ) (r k : ℕ) (c : Names) : Type 0 where
  pub high : r ≤ length t
  pub kind : IsKindNumber k
  pub formed : FormedAfter t r (kind_numbered k)
  pub room : NameRoom (kind_numbered k) c

-- the row of a method of this owner whose header has these fields
unfoldable pub method_entry : ℕ → List Name → Entry
method_entry o ws = record { owner = o; name = get_or ws 1 []; gives = get_or ws 0 []; takes = get_or ws 2 [] }

pub record MethodRow (t : List ℕ) (o : ℕ) (ws : List Name) (r : Row) : Type 0 where
  pub is : entry_of t r ≡ method_entry o ws
  pub fits : RowFits r
  -- the field after its last is the parameter's name
  pub high : r.takes.start + r.takes.len ≤ length t
  pub parameter : get_or (more (drop (r.takes.start + r.takes.len) t)) 0 [] ≡ get_or ws 3 []

-- The line l has its row; the tables and the table of lines stay.
pub record Adds (t w : List ℕ) (c : Names) (l : Line) (w' : List ℕ) (c' : Names) : Type 0 where
  pub names : c' ≡ names_after l.kind c
  pub declared : declarations_in t w' c' ≡ joined (declarations_in t w c) c.classes (l ∷ [])
  pub tables : SameTables w w'
  pub lines : Kept lines_at work_bytes w w'

-- All lines of the text have their rows; no block is open.
pub record Declares (t w w' : List ℕ) (r : Names) : Type 0 where
  pub are : declarations_in t w' r ≡ declarations (lines_of t)
  pub fits : NamesFit r
  pub tables : SameTables w w'
  pub method : r.method ≡ false
  pub locals : r.locals ≡ 0
  pub result : r.result ≡ false
