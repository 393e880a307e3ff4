-- Types of expressions, and what looking up a path or an expression answers.
use Rattle.std.specs.Prelude.{◌≡◌, Ok, Bool, true, false, not, List, ℕ, ltb}
use Rattle.std.proofs.Math.Option.{none, some}
use Rattle.rules.specs.Base.{Name, bytes, is, eq_name}
use Rattle.rules.specs.Syntax.{Expr, path}
use Rattle.rules.specs.Text.{reserved}
use Rattle.rules.specs.Scope.{Declarations, Variable}
use Rattle.rules.specs.Names as Rules
use Rattle.rules.specs.Names.{variable_type, field_type, field_number, known_expr, of_class_in, expr_type, chains}
use Rattle.rules.specs.Items.{resolve_expr}
use Rattle.tables.specs.Stores.{meaning}
use Rattle.read_names.specs.declared.Span.{Span}
use Rattle.read_types.specs.declared.ExprType.{ExprType}
use Rattle.read_scopes.specs.declared.Names.{Names}
use Rattle.read_types.specs.declared.Member.{Member}
use Rattle.read_types.specs.declared.Lookup.{Lookup}
use Rattle.read_types.specs.declared.Fault.{Fault}
use Rattle.read_types.specs.Verdicts.{Verdict, test, judged, and_then}
use Rattle.read_names.specs.Rows.{name_in}
use Rattle.read_scopes.specs.Meanings.{declarations_in, variables_in}
use Rattle.read_lookups.specs.LookUps.{no_variable, type_of, Looked}

-- the type that an answer is
unfoldable pub type_meant : List ℕ → ExprType → Rules.ExprType
type_meant t ExprType.Null = none
type_meant t ExprType.Int = some (bytes "int")
type_meant t (ExprType.Named s) = some (name_in t s)

-- is it int?
unfoldable pub is_int_type : List ℕ → ExprType → Bool
is_int_type t ExprType.Null = false
is_int_type t ExprType.Int = true
is_int_type t (ExprType.Named s) = is "int" (name_in t s)

-- LOOKING UP

-- the tests of an expression
unfoldable pub expr_judged : Declarations → List Variable → Expr Name → Verdict
expr_judged Γ vs e = judged (known_expr Γ vs e) (of_class_in Γ vs e) true

-- of a path whose field has its variable's class as its type
unfoldable pub chain_judged : Declarations → List Variable → Name → Name → Verdict
chain_judged Γ vs x f = and_then (expr_judged Γ vs (path x f)) (test (chains Γ vs x f) Fault.WrongType (Ok tt))

-- may a line name f of the variable v, of the class named at s, if i is where the class's field f stands?
unfoldable pub may_name : List ℕ → Names → ℕ → Span → ℕ → Name → Verdict
may_name t c v s i f =
    test (ltb v no_variable) Fault.Undeclared
    (test (not (reserved f)) Fault.Undeclared
    (test (not (is "int" (name_in t s))) Fault.WrongType
    (test (ltb i c.fields) Fault.Undeclared (Ok tt))))

-- what looking up x.f gives, with this verdict
pub record MemberIs (t w : List ℕ) (Γ : Declarations) (vs : List Variable) (x f : Name) (u : Verdict) (r : Member) : Type 0 where
  pub variable : Looked t w vs x r.variable
  pub number : r.number ≡ field_number Γ f
  pub is : name_in t r.is ≡ field_type Γ (variable_type vs x) f
  pub verdict : r.verdict ≡ u

-- the type of the field is that of its variable
abbrev pub of_own_class : List ℕ → List ℕ → Member → Bool
of_own_class t w m = eq_name (name_in t m.is) (name_in t (type_of w m.variable))

-- what looking up an expression gives
pub record LookIs (t : List ℕ) (Γ : Declarations) (vs : List Variable) (e : Expr Name) (r : Lookup) : Type 0 where
  pub expr : meaning r.expr ≡ resolve_expr Γ vs e
  pub is : type_meant t r.is ≡ expr_type Γ vs e
  pub verdict : r.verdict ≡ expr_judged Γ vs e

-- BY ROWS OF NAMES: w is the work area, c counts its rows

module _ (t w : List ℕ) (c : Names) where
  abbrev pub MemberIn : Name → Name → Member → Type 0
  MemberIn x f r =
      MemberIs t w (declarations_in t w c) (variables_in t w c) x f (expr_judged (declarations_in t w c) (variables_in t w c) (path x f)) r

  abbrev pub ChainIn : Name → Name → Member → Type 0
  ChainIn x f r =
      MemberIs t w (declarations_in t w c) (variables_in t w c) x f (chain_judged (declarations_in t w c) (variables_in t w c) x f) r

  abbrev pub LookIn : Expr Name → Lookup → Type 0
  LookIn e r = LookIs t (declarations_in t w c) (variables_in t w c) e r
