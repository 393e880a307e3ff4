-- Names and types: the tests of numbers 6, 7 and 9 on one line.
use Rattle.std.specs.Prelude.{Bool, true, not, cond, ◌&&◌, ◌||◌, List, [], ℕ, ◌+◌, eqb, leb, ltb, get_or}
use Rattle.std.proofs.Math.Option.{Option, none, some}
use Rattle.rules.specs.Base.{Name, with_default, bytes, is, eq_name, any, all, first, index}
use Rattle.rules.specs.Limits.{most_locals}
use Rattle.rules.specs.Syntax.{Expr, Atom, first_local, is_path, num, null, var, path, own, cmp}
use Rattle.rules.specs.Text.{reserved, expr_of, formula_of}
use Rattle.rules.specs.Grammar.{Operand, Line, is_kind, statement, Set, Let, New, Call, Return, Add, Sub, Open, Shut}
use Rattle.rules.specs.Grammar.{read, assigned, field, method, new, type_name, class_name, variable, member, expression}
use Rattle.rules.specs.Scope.{FieldDeclaration, MethodDeclaration, Declarations, Variable, Scope, operand, declared_in, slots, atoms_of}

-- TYPES

-- a class or int by its name; null has none
abbrev pub ExprType : Type 0
ExprType = Option Name

-- "Both sides .. are int, or are null or of one class"
unfoldable pub agree : ExprType → ExprType → Bool
agree none none = true
agree none (some U) = not (is "int" U)
agree (some T) none = not (is "int" T)
agree (some T) (some U) = eq_name T U

abbrev pub missing_variable : Variable
missing_variable = record { name = []; number = 15; type = [] }

abbrev pub no_field : FieldDeclaration
no_field = record { owner = 0; name = []; type = [] }

abbrev pub no_declaration : MethodDeclaration
no_declaration = record { owner = 0; name = []; result = []; parameter_type = [] }

-- "`this`, w or `result`" are not assigned
unfoldable pub is_local : ℕ → Bool
is_local v = leb first_local v && ltb v (first_local + most_locals)

-- vs: the variables that a line may name
module _ (vs : List Variable) where
  unfoldable pub in_scope : Name → Bool
  in_scope x = any (λ v. eq_name v.name x) vs

  unfoldable pub look_up : Name → Variable
  look_up x = with_default missing_variable (first (λ v. eq_name v.name x) vs)

  unfoldable pub variable_number : Name → ℕ
  variable_number x = (look_up x).number

  unfoldable pub variable_type : Name → Name
  variable_type x = (look_up x).type

  unfoldable pub is_int : Name → Bool
  is_int x = is "int" (variable_type x)

module _ (Γ : Declarations) where
  -- the first class of this name: "of two the later, the earlier counts till there"
  unfoldable pub class_number : Name → ℕ
  class_number C = index (eq_name C) Γ.classes

  unfoldable pub is_class : Name → Bool
  is_class C = not (reserved C) && any (eq_name C) Γ.classes

  unfoldable pub is_type : Name → Bool
  is_type T = is "int" T || is_class T

  -- a field of class C, and a method
  unfoldable pub is_field_of : Name → Name → FieldDeclaration → Bool
  is_field_of C f d = eqb d.owner (class_number C) && eq_name d.name f

  unfoldable pub is_method_of : Name → Name → MethodDeclaration → Bool
  is_method_of C m d = eqb d.owner (class_number C) && eq_name d.name m

  unfoldable pub field_type : Name → Name → Name
  field_type C f = (with_default no_field (first (is_field_of C f) Γ.fields)).type

  -- the number of a field's name: the place of the first field, of any class, that has it
  unfoldable pub field_number : Name → ℕ
  field_number f = index (λ d. eq_name d.name f) Γ.fields

  unfoldable pub method_number : Name → Name → ℕ
  method_number C m = index (is_method_of C m) Γ.methods

  unfoldable pub method_of_class : Name → Name → MethodDeclaration
  method_of_class C m = get_or Γ.methods (method_number C m) no_declaration

module _ (Γ : Declarations) (vs : List Variable) where
  -- "A field is looked up in x's class, a method in y's: absent there is 6, an int x or y is 7."
  unfoldable pub known_field : Name → Name → Bool
  known_field x f = not (reserved f) && (is_int vs x || any (is_field_of Γ (variable_type vs x) f) Γ.fields)

  unfoldable pub known_method : Name → Name → Bool
  known_method y m = not (reserved m) && (is_int vs y || any (is_method_of Γ (variable_type vs y) m) Γ.methods)

  unfoldable pub known_expr : Expr Name → Bool
  known_expr (num n) = true
  known_expr null = true
  known_expr (var x) = in_scope vs x
  known_expr (path x f) = in_scope vs x && known_field x f

  -- 6: "name undeclared, not allowed there, reserved or declared twice"; v is the field before w
  unfoldable pub known : Scope → Operand → Name → Name → Bool
  known s (new a) v w = not (reserved w) && not (any (eq_name w) (declared_in s a))
  known s type_name v w = is_type Γ w
  known s class_name v w = is_class Γ w
  known s (variable u) v w = in_scope vs w
  known s (member field) v w = known_field v w
  known s (member method) v w = known_method v w
  known s expression v w = known_expr (expr_of w)

  unfoldable pub all_known : Scope → Line → Bool
  all_known s l = all (λ a. known s a.operand a.before a.name) (slots l)

  unfoldable pub of_class_in : Expr Name → Bool
  of_class_in (num n) = true
  of_class_in null = true
  of_class_in (var x) = true
  of_class_in (path x f) = not (is_int vs x)

  -- 7: "an int x or y"
  unfoldable pub of_class : Operand → Name → Name → Bool
  of_class (new a) v w = true
  of_class type_name v w = true
  of_class class_name v w = true
  of_class (variable u) v w = true
  of_class (member m) v w = not (is_int vs v)
  of_class expression v w = of_class_in (expr_of w)

  unfoldable pub expr_type : Expr Name → ExprType
  expr_type (num n) = some (bytes "int")
  expr_type null = none
  expr_type (var x) = some (variable_type vs x)
  expr_type (path x f) = some (field_type Γ (variable_type vs x) f)

  -- W9: "f a field with x's class as its type (else 7)"
  unfoldable pub chains : Name → Name → Bool
  chains x f = eq_name (field_type Γ (variable_type vs x) f) (variable_type vs x)

  unfoldable pub atom_agrees : Atom Name → Bool
  atom_agrees (own k x f) = is_path k || chains x f
  atom_agrees (cmp n a b) = agree (expr_type a) (expr_type b)

  unfoldable pub call_agrees : Line → MethodDeclaration → Bool
  call_agrees l m =
      eq_name (variable_type vs (operand l 0)) m.result && eq_name (variable_type vs (operand l 3)) m.parameter_type

  -- "the int x the sum or difference of the int variables y and z"
  unfoldable pub all_int : Line → Bool
  all_int l = is_int vs (operand l 0) && (is_int vs (operand l 1) && is_int vs (operand l 2))

  -- "so are the two sides of `let`, `set`, an argument and a result (of `call` and of `return`); the x of `new` is of class C"
  unfoldable pub sides_agree : Line → Bool
  sides_agree l =
      let x : Name = variable_type vs (operand l 0) in
      cond (is_kind (statement Set) l.kind) (eq_name (field_type Γ x (operand l 1)) (variable_type vs (operand l 2)))
      (cond (is_kind (statement Let) l.kind) (agree (some x) (expr_type (expr_of (operand l 1))))
      (cond (is_kind (statement New) l.kind) (eq_name x (operand l 1))
      (cond (is_kind (statement Call) l.kind) (call_agrees l (method_of_class Γ (variable_type vs (operand l 1)) (operand l 2)))
      (cond (is_kind (statement Return) l.kind) (eq_name x (variable_type vs (bytes "result")))
      (cond (is_kind (statement Add) l.kind || is_kind (statement Sub) l.kind) (all_int l)
      (cond (is_kind (statement Open) l.kind) (eq_name x (variable_type vs (operand l 1)) && chains (operand l 1) (operand l 2))
      (cond (is_kind (statement Shut) l.kind) (chains (operand l 0) (operand l 1))
      true)))))))

  unfoldable pub all_typed : Line → Bool
  all_typed l =
      all (λ a. of_class a.operand a.before a.name) (slots l)
      && (sides_agree l && all atom_agrees (formula_of (atoms_of l)))

module _ (vs : List Variable) where
  -- 9: "`this`, w or `result` assigned by `let`, `new` or `call`"
  unfoldable pub may_be_assigned : Operand → Name → Bool
  may_be_assigned (new a) w = true
  may_be_assigned type_name w = true
  may_be_assigned class_name w = true
  may_be_assigned (variable read) w = true
  may_be_assigned (variable assigned) w = is_local (variable_number vs w)
  may_be_assigned (member m) w = true
  may_be_assigned expression w = true

  -- 9: "or `call x` with x the same name as y or z"
  unfoldable pub call_apart : Line → Bool
  call_apart l =
      let x : ℕ = variable_number vs (operand l 0) in
      not (is_kind (statement Call) l.kind)
      || (not (eqb x (variable_number vs (operand l 1))) && not (eqb x (variable_number vs (operand l 3))))

  -- W9: "Number 9 covers `open`: y may not be `this`, w, `result` or x."
  unfoldable pub open_apart : Line → Bool
  open_apart l =
      not (is_kind (statement Open) l.kind) || not (eqb (variable_number vs (operand l 0)) (variable_number vs (operand l 1)))

  unfoldable pub all_assignable : Line → Bool
  all_assignable l = all (λ a. may_be_assigned a.operand a.name) (slots l) && (call_apart l && open_apart l)

-- Everything above computes where this unfolds.
unfoldable pub opened : Unit {0}
unfolding agree is_local class_number is_class is_type is_field_of is_method_of field_type field_number method_number method_of_class in_scope look_up variable_number variable_type is_int known_field known_method known_expr known all_known of_class_in of_class expr_type chains atom_agrees call_agrees all_int sides_agree all_typed may_be_assigned call_apart open_apart all_assignable
opened = tt
