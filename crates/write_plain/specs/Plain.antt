-- Rows of the statements that have no atoms: `set`, `new`, `call`, `return`, `else`, `end`, `add`, `sub`, `again`, `open`, `shut`.
use Rattle.std.specs.Prelude.{Result, Ok, Err, ◌≡◌, Bool, true, not, cond, ◌&&◌, ◌||◌, List, [], ℕ, ◌≤◌, eqb, ltb, length, get_or, drop}
use Rattle.rules.specs.Base.{Name, bytes, is, eq_name, any}
use Rattle.rules.specs.Limits.{work_bytes}
use Rattle.rules.specs.Syntax.{path}
use Rattle.rules.specs.Text.{reserved}
use Rattle.rules.specs.Grammar.{is_computing, set_kind, new_kind, call_kind, return_kind, else_kind, end_kind, again_kind, open_kind, shut_kind}
use Rattle.rules.specs.Scope.{MethodDeclaration, Declarations, Variable, Scope}
use Rattle.rules.specs.Names.{is_local, in_scope, is_int, is_method_of, no_declaration, variable_number, variable_type, field_number, field_type, class_number, method_number, method_of_class}
use Rattle.rules.specs.Items.{item_of}
use Rattle.read_fields.specs.Cuts.{more}
use Rattle.read_grammar.specs.Rows.{kind_numbered}
use Rattle.tables.specs.Layout.{frame_variables, names_at}
use Rattle.tables.specs.Stores.{Kept}
use Rattle.read_names.specs.declared.Span.{Span}
use Rattle.read_names.specs.Rows.{name_in}
use Rattle.read_scopes.specs.declared.Names.{Names}
use Rattle.read_scopes.specs.Meanings.{declarations_in, variables_in}
use Rattle.read_lookups.specs.LookUps.{type_of}
use Rattle.read_types.specs.declared.Member.{Member}
use Rattle.read_types.specs.declared.Fault.{Fault}
use Rattle.read_types.specs.Verdicts.{Verdict, test, and_then}
use Rattle.read_types.specs.Types.{expr_judged, chain_judged}
use Rattle.rules.specs.Syntax.{Program}
use Rattle.rules.specs.Reading.{with_item}
use Rattle.tables.specs.declared.Operands.{Operands}
use Rattle.write_rows.specs.Holds.{Holds}
use Rattle.read_declarations.specs.Declares.{FormedAfter}
use Rattle.resolve_pass.specs.Passes.{counts, line_after, line_judged}

-- a row without atoms, of this line
abbrev pub bare : ℕ → ℕ → ℕ → ℕ → ℕ → ℕ → Operands
bare k x y z m l = record { kind = k; x = x; y = y; z = z; member = m; atoms = 0; first = 0; line = l }

module _ (Γ : Declarations) (vs : List Variable) (ws : List Name) (l : ℕ) where
  unfoldable pub set_row : Operands
  set_row = bare set_kind (variable_number vs (get_or ws 0 [])) (variable_number vs (get_or ws 2 [])) 0 (field_number Γ (get_or ws 1 [])) l

  unfoldable pub new_row : Operands
  new_row = bare new_kind (variable_number vs (get_or ws 0 [])) 0 0 (class_number Γ (get_or ws 1 [])) l

  unfoldable pub call_row : Operands
  call_row =
      bare call_kind (variable_number vs (get_or ws 0 [])) (variable_number vs (get_or ws 1 [])) (variable_number vs (get_or ws 3 []))
      (method_number Γ (variable_type vs (get_or ws 1 [])) (get_or ws 2 [])) l

  unfoldable pub return_row : Operands
  return_row = bare return_kind (variable_number vs (get_or ws 0 [])) 0 0 0 l

  -- `add` or `sub`, by its number
  unfoldable pub compute_row : ℕ → Operands
  compute_row k = bare k (variable_number vs (get_or ws 0 [])) (variable_number vs (get_or ws 1 [])) (variable_number vs (get_or ws 2 [])) 0 l

  unfoldable pub open_row : Operands
  open_row = bare open_kind (variable_number vs (get_or ws 0 [])) (variable_number vs (get_or ws 1 [])) 0 (field_number Γ (get_or ws 2 [])) l

  unfoldable pub shut_row : Operands
  shut_row = bare shut_kind (variable_number vs (get_or ws 0 [])) 0 0 (field_number Γ (get_or ws 1 [])) l

  -- by the number of its kind
  unfoldable pub plain_row : ℕ → Operands
  plain_row k =
      cond (eqb k set_kind) set_row
      (cond (eqb k new_kind) new_row
      (cond (eqb k call_kind) call_row
      (cond (eqb k return_kind) return_row
      (cond (is_computing k) (compute_row k)
      (cond (eqb k open_kind) open_row
      (cond (eqb k shut_kind) shut_row
      (bare k 0 0 0 0 l)))))))

-- THE TESTS OF NUMBERS 6, 7 AND 9, by kind, of a line of these fields that has its form

module _ (Γ : Declarations) (vs : List Variable) (ws : List Name) where
  -- x.f and y are of one type
  unfoldable pub set_judged : Verdict
  set_judged =
      let x : Name = get_or ws 0 [] in
      let f : Name = get_or ws 1 [] in
      let y : Name = get_or ws 2 [] in
      test (in_scope vs y) Fault.Undeclared
      (and_then (expr_judged Γ vs (path x f))
      (test (eq_name (field_type Γ (variable_type vs x) f) (variable_type vs y)) Fault.WrongType (Ok tt)))

  -- "the x of `new` is of class C"
  unfoldable pub new_judged : Verdict
  new_judged =
      let x : Name = get_or ws 0 [] in
      let C : Name = get_or ws 1 [] in
      test (in_scope vs x) Fault.Undeclared
      (test (not (reserved C)) Fault.Undeclared
      (test (any (eq_name C) Γ.classes) Fault.Undeclared
      (test (eq_name (variable_type vs x) C) Fault.WrongType (test (is_local (variable_number vs x)) Fault.WrongTarget (Ok tt)))))

  -- y is of a class that has the method m
  unfoldable pub method_judged : Verdict
  method_judged =
      let y : Name = get_or ws 1 [] in
      let m : Name = get_or ws 2 [] in
      test (not (reserved m)) Fault.Undeclared
      (test (not (is_int vs y)) Fault.WrongType
      (test (any (is_method_of Γ (variable_type vs y) m) Γ.methods) Fault.Undeclared (Ok tt)))

  -- its result is of x's type, its parameter of z's
  unfoldable pub call_agrees : Bool
  call_agrees =
      let m : MethodDeclaration = method_of_class Γ (variable_type vs (get_or ws 1 [])) (get_or ws 2 []) in
      eq_name (variable_type vs (get_or ws 0 [])) m.result && eq_name (variable_type vs (get_or ws 3 [])) m.parameter_type

  -- "`call x` with x the same name as y or z" is refused
  unfoldable pub target_judged : Verdict
  target_judged =
      let x : ℕ = variable_number vs (get_or ws 0 []) in
      test (is_local x) Fault.WrongTarget
      (test (not (eqb x (variable_number vs (get_or ws 1 [])))) Fault.WrongTarget
      (test (not (eqb x (variable_number vs (get_or ws 3 [])))) Fault.WrongTarget (Ok tt)))

  unfoldable pub call_judged : Verdict
  call_judged =
      test (in_scope vs (get_or ws 0 []) && (in_scope vs (get_or ws 1 []) && in_scope vs (get_or ws 3 []))) Fault.Undeclared
      (and_then method_judged (test call_agrees Fault.WrongType target_judged))

  -- x is of the type of `result`
  unfoldable pub return_judged : Verdict
  return_judged =
      let x : Name = get_or ws 0 [] in
      test (in_scope vs x) Fault.Undeclared
      (test (eq_name (variable_type vs x) (variable_type vs (bytes "result"))) Fault.WrongType (Ok tt))

  -- all three are int
  unfoldable pub compute_judged : Verdict
  compute_judged =
      test (in_scope vs (get_or ws 0 []) && (in_scope vs (get_or ws 1 []) && in_scope vs (get_or ws 2 []))) Fault.Undeclared
      (test (is_int vs (get_or ws 0 [])) Fault.WrongType
      (test (is_int vs (get_or ws 1 [])) Fault.WrongType
      (test (is_int vs (get_or ws 2 [])) Fault.WrongType
      (test (is_local (variable_number vs (get_or ws 0 []))) Fault.WrongTarget (Ok tt)))))

  -- y is a local of x's class, and not x
  unfoldable pub open_judged : Verdict
  open_judged =
      let y : Name = get_or ws 0 [] in
      let x : Name = get_or ws 1 [] in
      test (in_scope vs y) Fault.Undeclared
      (and_then (chain_judged Γ vs x (get_or ws 2 []))
      (test (eq_name (variable_type vs y) (variable_type vs x)) Fault.WrongType
      (test (is_local (variable_number vs y)) Fault.WrongTarget
      (test (not (eqb (variable_number vs y) (variable_number vs x))) Fault.WrongTarget (Ok tt)))))

  unfoldable pub shut_judged : Verdict
  shut_judged = chain_judged Γ vs (get_or ws 0 []) (get_or ws 1 [])

  -- by the number of its kind; `else`, `end` and `again` name nothing
  unfoldable pub plain_judged : ℕ → Verdict
  plain_judged k =
      cond (eqb k set_kind) set_judged
      (cond (eqb k new_kind) new_judged
      (cond (eqb k call_kind) call_judged
      (cond (eqb k return_kind) return_judged
      (cond (is_computing k) compute_judged
      (cond (eqb k open_kind) open_judged
      (cond (eqb k shut_kind) shut_judged
      (Ok tt)))))))

-- the row o just if it is good
unfoldable pub RowTried : Verdict → Operands → Result Operands Fault → Type 0
RowTried v o (Ok r) = (v ≡ Ok tt) × (r ≡ o)
RowTried v o (Err f) = v ≡ Err f

-- of the fields after r of the text t, by the rows of names in w: the row just if the line is good
abbrev pub TriedAfter :
    List ℕ → List ℕ → Names → ℕ → (Declarations → List Variable → List Name → Verdict) →
    (Declarations → List Variable → List Name → ℕ → Operands) → ℕ → Result Operands Fault → Type 0
TriedAfter t w c r says row l o =
    RowTried (says (declarations_in t w c) (variables_in t w c) (more (drop r t)))
    (row (declarations_in t w c) (variables_in t w c) (more (drop r t)) l) o

-- BY WHAT WAS LOOKED UP

-- y is a variable of the type of x.f
abbrev pub may_set : List ℕ → List ℕ → Member → ℕ → Verdict
may_set t w x y =
    test (ltb y frame_variables) Fault.Undeclared
    (and_then x.verdict (test (eq_name (name_in t x.is) (name_in t (type_of w y))) Fault.WrongType (Ok tt)))

-- x is a local of the class that is named at s and has the number k
abbrev pub may_hold : List ℕ → List ℕ → Names → ℕ → ℕ → Span → Verdict
may_hold t w c x k s =
    test (ltb x frame_variables) Fault.Undeclared
    (test (not (reserved (name_in t s))) Fault.Undeclared
    (test (ltb k c.classes) Fault.Undeclared
    (test (eq_name (name_in t (type_of w x)) (name_in t s)) Fault.WrongType (test (is_local x) Fault.WrongTarget (Ok tt)))))

-- all three are variables
abbrev pub are_known : ℕ → ℕ → ℕ → Bool
are_known x y z = ltb x frame_variables && (ltb y frame_variables && ltb z frame_variables)

-- i, of n methods, is the number of a method named at m of a class
abbrev pub may_name : List ℕ → Span → Span → ℕ → ℕ → Verdict
may_name t class m i n =
    test (not (reserved (name_in t m))) Fault.Undeclared
    (test (not (is "int" (name_in t class))) Fault.WrongType (test (ltb i n) Fault.Undeclared (Ok tt)))

-- x is a local, and neither y nor z
abbrev pub may_take : ℕ → ℕ → ℕ → Verdict
may_take x y z =
    test (is_local x) Fault.WrongTarget (test (not (eqb x y)) Fault.WrongTarget (test (not (eqb x z)) Fault.WrongTarget (Ok tt)))

-- x and z are of the types of the method's result and parameter
abbrev pub agree_with : List ℕ → List ℕ → ℕ → ℕ → MethodDeclaration → Bool
agree_with t w x z m = eq_name (name_in t (type_of w x)) m.result && eq_name (name_in t (type_of w z)) m.parameter_type

-- of y, of this class, the method named at m, which has the number i
abbrev pub may_call : List ℕ → List ℕ → Names → ℕ → ℕ → ℕ → Span → Span → ℕ → Verdict
may_call t w c x y z class m i =
    test (are_known x y z) Fault.Undeclared
    (and_then (may_name t class m i c.methods)
    (test (agree_with t w x z (get_or (declarations_in t w c).methods i no_declaration)) Fault.WrongType (may_take x y z)))

-- the variables are int, and x is a local
abbrev pub may_compute : List ℕ → List ℕ → ℕ → ℕ → ℕ → Verdict
may_compute t w x y z =
    test (are_known x y z) Fault.Undeclared
    (test (is "int" (name_in t (type_of w x))) Fault.WrongType
    (test (is "int" (name_in t (type_of w y))) Fault.WrongType
    (test (is "int" (name_in t (type_of w z))) Fault.WrongType (test (is_local x) Fault.WrongTarget (Ok tt)))))

-- y is a local of the class of x, which has the chain, and not x
abbrev pub may_open : List ℕ → List ℕ → Member → ℕ → Verdict
may_open t w x y =
    test (ltb y frame_variables) Fault.Undeclared
    (and_then x.verdict
    (test (eq_name (name_in t (type_of w y)) (name_in t (type_of w x.variable))) Fault.WrongType
    (test (is_local y) Fault.WrongTarget (test (not (eqb y x.variable)) Fault.WrongTarget (Ok tt)))))

-- by the number of the kind
unfoldable pub is_plain : ℕ → Bool
is_plain k =
    eqb k set_kind
    || (eqb k new_kind
    || (eqb k call_kind || (eqb k return_kind || (eqb k else_kind || (eqb k end_kind || (eqb k again_kind || (eqb k open_kind || (eqb k shut_kind || is_computing k))))))))

-- the line of this kind whose word ends at r has its form
pub record PlainFollows (t : List ℕ) (k r : ℕ) : Type 0 where
  pub kind : is_plain k ≡ true
  pub high : r ≤ length t
  pub formed : FormedAfter t r (kind_numbered k)

-- it is written as the row i, and is the line l
pub record PlainPut (t w : List ℕ) (c : Names) (k r i l : ℕ) (w' : List ℕ) : Type 0 where
  pub built :
      (F : Program) (n : ℕ) → length F.rows ≡ i → Holds (counts c) w F n →
      Holds (counts c) w' (with_item F l (item_of (declarations_in t w c) (variables_in t w c) (kind_numbered k) (line_after t r k))) n
  pub names : Kept names_at work_bytes w w'
  pub size : length w' ≡ length w

-- it is written just if it is good, whatever the scope
unfoldable pub PlainTried : (t w : List ℕ) (c : Names) (k r i l : ℕ) (w' : List ℕ) → Verdict → Type 0
PlainTried t w c k r i l w' (Ok u) =
    ((s : Scope) → line_judged (declarations_in t w c) (variables_in t w c) s (line_after t r k) ≡ Ok tt) × PlainPut t w c k r i l w'
PlainTried t w c k r i l w' (Err f) =
    ((s : Scope) → line_judged (declarations_in t w c) (variables_in t w c) s (line_after t r k) ≡ Err f) × (w' ≡ w)
