-- What each line adds to the program, its names resolved to numbers: numbers 6, 7, 9 line by line.
use Rattle.std.specs.Prelude.{List, [], ◌∷◌, map, ℕ, suc, drop}
use Rattle.rules.specs.Base.{Name, Try, ok, ◌>>◌, check, is}
use Rattle.rules.specs.Answers.{Refusal, Verdict, accepted, at_line, then, undeclared, wrong_type, wrong_target}
use Rattle.rules.specs.Syntax as Syntax
use Rattle.rules.specs.Syntax.{Expr, Atom, Formula, Operation, Stmt, num, null, var, path, own, cmp, sum, difference}
use Rattle.rules.specs.Syntax.{set, assign, compute, new, call, return, assert, release, open_chain, shut_chain, simple, if, else, join, loop, again, end}
use Rattle.rules.specs.Text.{expr_of, rel_of, formula_of}
use Rattle.rules.specs.Grammar.{Kind, Statement, Line, statement}
use Rattle.rules.specs.Grammar.{Class, Field, Method, Requires, Ensures, Main, Var, Set, Let, New, Call, Return, Assert, Release, If, Else, Join, End, Add, Sub, Loop, Again, Open, Shut}
use Rattle.rules.specs.Scope.{Declarations, Variable, Scope, operand, atoms_of, visible, scope_after}
use Rattle.rules.specs.Names.{variable_number, variable_type, field_number, class_number, method_number, all_known, all_typed, all_assignable}

-- what a line adds to the program, its names resolved; of a local its name, which the program prints
pub data Item : Type 0 where
  a_class : Item
  a_field : Syntax.Field → Item
  a_method : Item
  a_requires : Formula ℕ → Item
  an_ensures : Formula ℕ → Item
  a_main : Item
  a_local : Name → Item
  a_statement : Stmt → Item

-- vs: the variables that the line may name
module _ (Γ : Declarations) (vs : List Variable) where
  unfoldable pub resolve_expr : Expr Name → Expr ℕ
  resolve_expr (num n) = num n
  resolve_expr null = null
  resolve_expr (var x) = var (variable_number vs x)
  resolve_expr (path x f) = path (variable_number vs x) (field_number Γ f)

  unfoldable pub resolve_atom : Atom Name → Atom ℕ
  resolve_atom (own k x f) = own k (variable_number vs x) (field_number Γ f)
  resolve_atom (cmp n a b) = cmp n (resolve_expr a) (resolve_expr b)

  unfoldable pub resolve_atoms : List Name → Formula ℕ
  resolve_atoms ws = map resolve_atom (formula_of ws)

  unfoldable pub resolve_formula : Line → Formula ℕ
  resolve_formula l = resolve_atoms (atoms_of l)

  unfoldable pub resolve_field : Line → Syntax.Field
  resolve_field l = record { name = field_number Γ (operand l 1); int = is "int" (operand l 0) }

  unfoldable pub resolve_set : Line → Stmt
  resolve_set l = simple (set (variable_number vs (operand l 0)) (field_number Γ (operand l 1)) (variable_number vs (operand l 2)))

  unfoldable pub resolve_compute : Operation → Line → Stmt
  resolve_compute o l =
      simple
      (compute o (variable_number vs (operand l 0)) (variable_number vs (operand l 1)) (variable_number vs (operand l 2)))

  unfoldable pub resolve_call : Line → Stmt
  resolve_call l =
      simple
      (call
      (variable_number vs (operand l 0))
      (variable_number vs (operand l 1))
      (method_number Γ (variable_type vs (operand l 1)) (operand l 2))
      (variable_number vs (operand l 3)))

  unfoldable pub resolve_if : Line → Stmt
  resolve_if l = if (rel_of (operand l 0)) (resolve_expr (expr_of (operand l 1))) (resolve_expr (expr_of (operand l 2)))

  -- "a condition atom (`eq` or `ne`) and then the atoms of an invariant"
  unfoldable pub resolve_loop : Line → Stmt
  resolve_loop l =
      loop (rel_of (operand l 0)) (resolve_expr (expr_of (operand l 1))) (resolve_expr (expr_of (operand l 2)))
      (resolve_atoms (drop 3 (atoms_of l)))

  unfoldable pub resolve_open : Line → Stmt
  resolve_open l =
      simple (open_chain (variable_number vs (operand l 0)) (variable_number vs (operand l 1)) (field_number Γ (operand l 2)))

  unfoldable pub resolve_statement : Statement → Line → Stmt
  resolve_statement Set l = resolve_set l
  resolve_statement Let l = simple (assign (variable_number vs (operand l 0)) (resolve_expr (expr_of (operand l 1))))
  resolve_statement New l = simple (new (variable_number vs (operand l 0)) (class_number Γ (operand l 1)))
  resolve_statement Call l = resolve_call l
  resolve_statement Return l = return (variable_number vs (operand l 0))
  resolve_statement Assert l = simple (assert (resolve_formula l))
  resolve_statement Release l = simple (release (resolve_formula l))
  resolve_statement If l = resolve_if l
  resolve_statement Else l = else
  resolve_statement Join l = join (resolve_formula l)
  resolve_statement End l = end
  resolve_statement Add l = resolve_compute sum l
  resolve_statement Sub l = resolve_compute difference l
  resolve_statement Loop l = resolve_loop l
  resolve_statement Again l = again
  resolve_statement Open l = resolve_open l
  resolve_statement Shut l = simple (shut_chain (variable_number vs (operand l 0)) (field_number Γ (operand l 1)))

  unfoldable pub item_of : Kind → Line → Item
  item_of Class l = a_class
  item_of Field l = a_field (resolve_field l)
  item_of Method l = a_method
  item_of Requires l = a_requires (resolve_formula l)
  item_of Ensures l = an_ensures (resolve_formula l)
  item_of Main l = a_main
  item_of Var l = a_local (operand l 1)
  item_of (statement s) l = a_statement (resolve_statement s l)

module _ (Γ : Declarations) where
  -- 6, 7, 9: "(for two on one line the lower)"
  unfoldable pub resolve_line : Scope → Line → Try Refusal Item
  resolve_line s l = do
    let vs : List Variable = visible s.block l.kind
    check (all_known Γ vs s l) undeclared
    check (all_typed Γ vs l) wrong_type
    check (all_assignable vs l) wrong_target
    ok (item_of Γ vs l.kind l)

  -- the lines after n lines above
  unfoldable pub resolve_lines : List Line → ℕ → Scope → Verdict (List Item)
  resolve_lines [] n s = accepted []
  resolve_lines (l ∷ ls) n s =
      at_line (suc n) (resolve_line s l) λ a. then (resolve_lines ls (suc n) (scope_after s l)) λ rest. accepted (a ∷ rest)

-- Everything above computes where this unfolds.
unfoldable pub opened : Unit {0}
unfolding resolve_expr resolve_atom resolve_atoms resolve_formula resolve_field resolve_set resolve_compute resolve_call resolve_if resolve_loop resolve_open resolve_statement item_of resolve_line resolve_lines
opened = tt
