-- What looking up a path gives, and types that agree.
use mathlib.Core.Path.{◌≡◌, refl, sym, ap, ◌∙◌}
use mathlib.Core.Bool.{Bool, true, false, not, ◌&&◌, ◌||◌}
use mathlib.Core.List.{List}
use mathlib.Core.Option.{none, some}
use Prim.Native.Nat.{ℕ}
use lib.Dec.{ltb}
use lib.ListN.{get_or}
use Rattle.rules.specs.Base.{Name, bytes, is, eq_name, index}
use Rattle.rules.specs.Text.{reserved}
use Rattle.rules.specs.Syntax.{path}
use Rattle.rules.specs.Scope.{Declarations, Variable}
use Rattle.rules.specs.Names.{agree, no_field, is_field_of, field_type, variable_type, is_int, known_field, known_expr, of_class_in, chains}
use Rattle.read_names.specs.declared.Span.{Span}
use Rattle.read_scopes.specs.declared.Names.{Names}
use Rattle.read_names.specs.Rows.{name_in}
use Rattle.read_scopes.specs.Meanings.{declarations_in}
use Rattle.read_types.specs.declared.ExprType.{ExprType}
use Rattle.read_types.specs.declared.Member.{Member}
use Rattle.read_lookups.specs.LookUps.{type_of, Looked}
use Rattle.read_types.specs.Types.{type_meant, is_int_type, expr_judged, may_name, MemberIs, of_own_class}
use Rattle.read_types.specs.Verdicts.{Verdict, test, judged}
use Rattle.read_types.specs.declared.Fault.{Fault}
use Rattle.std.proofs.Common.{Ok}
use Rattle.read_lookups.proofs.LookUps.{type-by, field-any, looked-type}

-- A PATH: what its look-ups say of it
pub path-type :
    (t w : List ℕ) (c : Names) (vs : List Variable) (x f : Name) (v : ℕ) (s : Span) (i : ℕ) → Looked t w vs x v → s ≡ type_of w v →
    i ≡ index (is_field_of (declarations_in t w c) (name_in t s) f) (declarations_in t w c).fields →
    (get_or (declarations_in t w c).fields i no_field).type ≡ field_type (declarations_in t w c) (variable_type vs x) f
path-type t w c vs x f v s i h p e =
    sym (type-by t w c (name_in t s) f i e) ∙ ap (λ k. field_type (declarations_in t w c) k f) (looked-type t w vs x v s h p)

pub path-judged :
    (t w : List ℕ) (c : Names) (vs : List Variable) (x f : Name) (v : ℕ) (s : Span) (i : ℕ) → Looked t w vs x v → s ≡ type_of w v →
    i ≡ index (is_field_of (declarations_in t w c) (name_in t s) f) (declarations_in t w c).fields →
    may_name t c v s i f ≡ expr_judged (declarations_in t w c) vs (path x f)
unfolding may_name expr_judged judged test known_expr known_field is_int of_class_in
path-judged t w c vs x f v s i h p e =
    let y : variable_type vs x ≡ name_in t s = sym (looked-type t w vs x v s h p) in
    rw (h.known, y, field-any t w c (name_in t s) f, sym e) (go (ltb v 15) (ltb i c.fields) (is "int" (name_in t s)) (reserved f))
  where
    go :
        (a b d r : Bool) →
        test a Fault.Undeclared (test (not r) Fault.Undeclared (test (not d) Fault.WrongType (test b Fault.Undeclared (Ok tt))))
        ≡ judged (a && (not r && (d || b))) (not d) true
    go false b d r = refl
    go true b d true = refl
    go true b true false = refl
    go true true false false = refl
    go true false false false = refl

pub chains-is :
    {t w : List ℕ} {Γ : Declarations} {vs : List Variable} {x f : Name} {u : Verdict} {m : Member} → MemberIs t w Γ vs x f u m →
    of_own_class t w m ≡ chains Γ vs x f
unfolding chains
chains-is M = rw (M.is, M.variable.type)

-- TYPES
pub null-agrees : (t : List ℕ) (b : ExprType) → not (is_int_type t b) ≡ agree none (type_meant t b)
unfolding agree type_meant is_int_type is bytes eq_name
null-agrees t ExprType.Null = refl
null-agrees t ExprType.Int = refl
null-agrees t (ExprType.Named s) = refl

pub int-agrees : (t : List ℕ) (b : ExprType) → is_int_type t b ≡ agree (some (bytes "int")) (type_meant t b)
unfolding agree type_meant is_int_type is bytes eq_name
int-agrees t ExprType.Null = refl
int-agrees t ExprType.Int = refl
int-agrees t (ExprType.Named s) = refl
