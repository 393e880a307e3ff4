-- What looking up a name answers: variables with their types, and whether a name is new.
use Rattle.std.specs.Prelude.{◌≡◌, Bool, not, cond, ◌&&◌, List, [], ◌∷◌, ◌++◌, map, ℕ, ◌+◌, ◌≤◌, eqb, ltb}
use Rattle.rules.specs.Base.{Name, eq_name, any, index}
use Rattle.rules.specs.Text.{reserved}
use Rattle.rules.specs.Scope.{Variable}
use Rattle.rules.specs.Names.{is_type, is_field_of, variable_number, variable_type, in_scope}
use Rattle.read_names.specs.declared.Span.{Span}
use Rattle.read_scopes.specs.declared.Names.{Names}
use Rattle.read_scopes.specs.declared.Above.{Above}
use Rattle.read_names.specs.declared.Row.{Row}
use Rattle.tables.specs.Decode.{run}
use Rattle.read_names.specs.Rows.{name_in, gives_at, no_span, variables_first}
use Rattle.read_scopes.specs.Meanings.{names_from, variable_at, result_in, declarations_in, scope_in, block_in}

-- the number after those of the variables
abbrev pub no_variable : ℕ
no_variable = 15

-- the place of the type of the variable v
unfoldable pub type_of : List ℕ → ℕ → Span
type_of w v = cond (eqb v no_variable) no_span (gives_at w (variables_first + v))

-- r is the number of the variable x among vs
pub record Looked (t w : List ℕ) (vs : List Variable) (x : Name) (r : ℕ) : Type 0 where
  pub number : r ≡ variable_number vs x
  pub within : r ≤ no_variable
  pub known : in_scope vs x ≡ ltb r no_variable
  pub type : variable_type vs x ≡ name_in t (type_of w r)

-- n variables from the number v on, and `result` if a line may name it
unfoldable pub own_in : List ℕ → List ℕ → ℕ → ℕ → Bool → List Variable
own_in t w v n b = run (variable_at t w) v n ++ cond b (result_in t w ∷ []) []

-- where the first field f of the class named at s stands among the fields; their count if there is none
abbrev pub field_index : List ℕ → List ℕ → Names → Span → Name → ℕ
field_index t w c s f = index (is_field_of (declarations_in t w c) (name_in t s) f) (declarations_in t w c).fields

-- 6, of a new name: "reserved or declared twice"
unfoldable pub is_new : Name → List Name → Bool
is_new x l = not (reserved x) && not (any (eq_name x) l)

-- 6, of a line that declares: may it have this name and this type? A local of the block,
abbrev pub may_declare : List ℕ → List ℕ → Names → Span → Span → Bool
may_declare t w c name gives =
    is_type (declarations_in t w c) (name_in t gives) && is_new (name_in t name) (map (λ v. v.name) (block_in t w c).variables)

-- a member of a class that has those of n rows from i on,
abbrev pub may_add : List ℕ → List ℕ → Names → ℕ → ℕ → Span → Span → Bool
may_add t w c i n name gives = is_type (declarations_in t w c) (name_in t gives) && is_new (name_in t name) (names_from t w i n)

-- a field of the present class,
abbrev pub may_add_field : List ℕ → List ℕ → Names → Above → Span → Span → Bool
may_add_field t w c a name gives =
    is_type (declarations_in t w c) (name_in t gives) && is_new (name_in t name) (scope_in t w c a).members.fields

-- a method of it, with its parameter
abbrev pub may_add_method : List ℕ → List ℕ → Names → Above → Row → Span → Bool
may_add_method t w c a m parameter =
    (is_type (declarations_in t w c) (name_in t m.gives) && is_new (name_in t m.name) (scope_in t w c a).members.methods)
    && may_declare t w c parameter m.takes
