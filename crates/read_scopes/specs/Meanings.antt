-- What rows of names mean: the declarations of a text, the scope of a line, and the variables that it may name.
use Rattle.std.specs.Prelude.{◌≡◌, cond, List, [], ◌∷◌, ◌++◌, ℕ, suc, ◌+◌, ◌-◌, ◌≤◌, eqb, length}
use Rattle.rules.specs.Base.{Name, bytes}
use Rattle.rules.specs.Limits.{work_bytes, most_classes, most_methods, most_locals}
use Rattle.rules.specs.Syntax.{this_variable, parameter, first_local, result_variable}
use Rattle.rules.specs.Scope.{FieldDeclaration, MethodDeclaration, Declarations, Variable, BlockScope, Scope}
use Rattle.tables.specs.Layout.{most_names}
use Rattle.read_names.specs.declared.Span.{Span}
use Rattle.read_names.specs.declared.Row.{Row}
use Rattle.read_scopes.specs.declared.Names.{Names}
use Rattle.read_scopes.specs.declared.Above.{Above}
use Rattle.tables.specs.Decode.{run}
use Rattle.read_names.specs.Rows.{Entry, entry_at, gives_at, name_in, no_span, put_row, classes_first, fields_first, methods_first, variables_first}

-- THE COUNTS

pub record NamesFit (c : Names) : Type 0 where
  pub classes : c.classes ≤ most_classes
  pub fields : c.fields ≤ most_names
  pub methods : c.methods ≤ most_methods
  pub locals : c.locals ≤ most_locals

-- the work area is whole, and the counts of its rows fit
pub record AreaFits (w : List ℕ) (c : Names) : Type 0 where
  pub whole : length w ≡ work_bytes
  pub fits : NamesFit c

pub record AboveFits (a : Above) : Type 0 where
  pub classes : a.classes ≤ most_classes
  pub fields : a.fields.first + a.fields.count ≤ most_names
  pub methods : a.methods.first + a.methods.count ≤ most_methods

-- DECLARATIONS: t is the text, w the work area

unfoldable pub as_field : Entry → FieldDeclaration
as_field e = record { owner = e.owner; name = e.name; type = e.gives }

unfoldable pub as_method : Entry → MethodDeclaration
as_method e = record { owner = e.owner; name = e.name; result = e.gives; parameter_type = e.takes }

module _ (t w : List ℕ) where
  -- names of n rows from i on
  unfoldable pub names_from : ℕ → ℕ → List Name
  names_from i n = run (λ j. (entry_at t w j).name) i n

  unfoldable pub declarations_in : Names → Declarations
  declarations_in c =
      record {
        classes = names_from classes_first c.classes;
        fields = run (λ j. as_field (entry_at t w j)) fields_first c.fields;
        methods = run (λ j. as_method (entry_at t w j)) methods_first c.methods;
      }

  -- VARIABLES: the row of the variable v is that of its number. `this` and `result` are known by their words.

  abbrev pub type_at : ℕ → Name
  type_at v = name_in t (gives_at w (variables_first + v))

  abbrev pub this_in : Variable
  this_in = record { name = bytes "this"; number = this_variable; type = type_at this_variable }

  abbrev pub result_in : Variable
  result_in = record { name = bytes "result"; number = result_variable; type = type_at result_variable }

  unfoldable pub variable_at : ℕ → Variable
  variable_at v =
      record { name = (entry_at t w (variables_first + v)).name; number = v; type = (entry_at t w (variables_first + v)).gives }

  -- of a method: the parameter and the locals; of main: the locals
  unfoldable pub own_variables : Names → List Variable
  own_variables c = cond c.method (run variable_at parameter (suc c.locals)) (run variable_at first_local c.locals)

  unfoldable pub block_in : Names → BlockScope
  block_in c =
      record {
        variables = cond c.method (this_in ∷ own_variables c) (own_variables c);
        result = cond c.method (result_in ∷ []) [];
        locals = c.locals;
      }

  -- the variables that a line may name
  unfoldable pub variables_in : Names → List Variable
  variables_in c = (block_in c).variables ++ cond c.result (result_in ∷ []) []

  -- THE SCOPE: what the lines above declare; the present class is the last of them

  unfoldable pub class_above : Above → Name
  class_above a = cond (eqb a.classes 0) [] (entry_at t w (classes_first + (a.classes - 1))).name

  unfoldable pub scope_in : Names → Above → Scope
  scope_in c a =
      record {
        classes = names_from classes_first a.classes;
        members =
            record {
              class = class_above a;
              fields = names_from (fields_first + a.fields.first) a.fields.count;
              methods = names_from (methods_first + a.methods.first) a.methods.count;
            };
        block = block_in c;
      }

-- ONE ROW MORE

unfoldable pub more_classes : Names → Names
more_classes c =
    record { classes = c.classes + 1; fields = c.fields; methods = c.methods; method = c.method; locals = c.locals; result = c.result }

unfoldable pub more_fields : Names → Names
more_fields c =
    record { classes = c.classes; fields = c.fields + 1; methods = c.methods; method = c.method; locals = c.locals; result = c.result }

unfoldable pub more_methods : Names → Names
more_methods c =
    record { classes = c.classes; fields = c.fields; methods = c.methods + 1; method = c.method; locals = c.locals; result = c.result }

unfoldable pub more_locals : Names → Names
more_locals c =
    record { classes = c.classes; fields = c.fields; methods = c.methods; method = c.method; locals = c.locals + 1; result = c.result }

-- rows of a class, of a field, and of a variable
abbrev pub class_row : Span → Row
class_row s = record { owner = 0; name = s; gives = no_span; takes = no_span }

abbrev pub field_row : ℕ → Span → Span → Row
field_row o s g = record { owner = o; name = s; gives = g; takes = no_span }

abbrev pub variable_row : Span → Span → Row
variable_row s g = record { owner = 0; name = s; gives = g; takes = no_span }

-- The block of a method in the class named at k, with the parameter named at s: `this`, the parameter, `result`.
unfoldable pub put_block : List ℕ → List ℕ → Span → Row → Span → List ℕ
put_block t w k m s =
    let a : List ℕ = put_row t w (variables_first + this_variable) (variable_row no_span k) in
    let b : List ℕ = put_row t a (variables_first + parameter) (variable_row s m.takes) in
    put_row t b (variables_first + result_variable) (variable_row no_span m.gives)
