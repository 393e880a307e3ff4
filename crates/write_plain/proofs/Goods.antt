-- What the tests of numbers 6, 7 and 9 say of a line that has its form, by the kind of the line.
use Rattle.std.proofs.Common.{Ok}
use mathlib.Core.Path.{◌≡◌, refl, sym, ap, ap₂, ◌∙◌}
use mathlib.Core.Bool.{Bool, true, false, not, ◌&&◌, ◌||◌}
use mathlib.Core.List.{List, [], ◌∷◌}
use Prim.Native.Nat.{suc}
use native.Mathlib.Omega.{arith}
use lib.Dec.{eqb}
use lib.ListN.{length}
use borrow.Author.Tests.{eqb-true}
use Rattle.rules.specs.Base as Base
use Rattle.rules.specs.Base.{Name, bytes, eq_name, any}
use Rattle.rules.specs.Text.{reserved, formula_of}
use Rattle.rules.specs.Grammar as Grammar
use Rattle.rules.specs.Grammar.{Kind, Statement, Operand, nothing, form, is_operand, is_formed, statement, Set, New, Call, Return, Else, End, Add, Sub, Again, Open, Shut}
use Rattle.rules.specs.Syntax.{Operation, sum, difference}
use Rattle.rules.specs.Scope as Scopes
use Rattle.rules.specs.Scope.{Declarations, Variable, Scope}
use Rattle.rules.specs.Names as Names
use Rattle.rules.specs.Names.{is_local, in_scope, is_int, is_method_of, known_field, variable_number, variable_type, field_type, method_of_class, chains}
use Rattle.read_bytes.proofs.Search.{both_true, true-false}
use Rattle.read_declarations.specs.Declares.{line_with}
use Rattle.resolve_pass.specs.Passes.{line_judged}
use Rattle.read_types.specs.declared.Fault.{Fault}
use Rattle.read_types.specs.Verdicts.{test, judged, and_then}
use Rattle.read_types.specs.Types.{expr_judged, chain_judged}
use Rattle.resolve_atoms.specs.Good.{atoms_judged}
use Rattle.resolve_atoms.proofs.Goods.{formula-judged}
use Rattle.write_plain.specs.Plain.{set_judged, new_judged, method_judged, call_agrees, target_judged, call_judged, return_judged, compute_judged, open_judged, shut_judged}

-- FORM: a line of operands alone has as many fields
pub formed-length : (os : List Operand) (ws : List Name) → is_formed os nothing ws ≡ true → length ws ≡ length os
unfolding is_formed Grammar.is_tail
formed-length [] ws e = eqb-true (length ws) 0 e
formed-length (o ∷ os) [] e = true-false (sym e)
formed-length (o ∷ os) (w ∷ ws) e = ap suc (formed-length os ws (both_true (is_operand o w) _ e).1)

-- the lines `add` and `sub`
abbrev pub computing : Operation → Statement
computing sum = Add
computing difference = Sub

-- BY THE KIND
module _ (Γ : Declarations) (vs : List Variable) (s : Scope) where
  set-shuffle :
      (x f y i e : Bool) →
      judged (x && (f && (y && true))) ((i && true) && (e && true)) true
      ≡ test y Fault.Undeclared (and_then (judged (x && f) i true) (test e Fault.WrongType (Ok tt)))
  unfolding judged test and_then
  set-shuffle false f true i e = refl
  set-shuffle false f false i e = refl
  set-shuffle true false true i e = refl
  set-shuffle true false false i e = refl
  set-shuffle true true false i e = refl
  set-shuffle true true true false e = refl
  set-shuffle true true true true false = refl
  set-shuffle true true true true true = refl

  set-three : (ws : List Name) → length ws ≡ 3 → line_judged Γ vs s (line_with (statement Set) ws) ≡ set_judged Γ vs ws
  unfolding Base.all Grammar.opened Scopes.opened Names.opened formula_of line_judged set_judged expr_judged
  set-three [] e = absurd (omega arith)
  set-three (x ∷ []) e = absurd (omega arith)
  set-three (x ∷ f ∷ []) e = absurd (omega arith)
  set-three (x ∷ f ∷ y ∷ []) e =
      set-shuffle (in_scope vs x) (known_field Γ vs x f) (in_scope vs y) (not (is_int vs x))
      (eq_name (field_type Γ (variable_type vs x) f) (variable_type vs y))
  set-three (x ∷ f ∷ y ∷ z ∷ ws) e = absurd (omega arith)

  new-shuffle :
      (x r k e l : Bool) →
      judged (x && ((r && k) && true)) (e && true) ((l && true) && true)
      ≡ test x Fault.Undeclared
      (test r Fault.Undeclared (test k Fault.Undeclared (test e Fault.WrongType (test l Fault.WrongTarget (Ok tt)))))
  unfolding judged test
  new-shuffle false r k e l = refl
  new-shuffle true false k e l = refl
  new-shuffle true true false e l = refl
  new-shuffle true true true false l = refl
  new-shuffle true true true true false = refl
  new-shuffle true true true true true = refl

  new_two : (ws : List Name) → length ws ≡ 2 → line_judged Γ vs s (line_with (statement New) ws) ≡ new_judged Γ vs ws
  unfolding Base.all Grammar.opened Scopes.opened Names.all_known Names.known Names.all_typed Names.of_class Names.sides_agree Names.all_assignable Names.may_be_assigned Names.call_apart Names.open_apart formula_of line_judged new_judged Names.is_class
  new_two [] e = absurd (omega arith)
  new_two (x ∷ []) e = absurd (omega arith)
  new_two (x ∷ C ∷ []) e =
      new-shuffle (in_scope vs x) (not (reserved C)) (any (eq_name C) Γ.classes) (eq_name (variable_type vs x) C) (is_local (variable_number vs x))
  new_two (x ∷ C ∷ y ∷ ws) e = absurd (omega arith)

  call-shuffle :
      (x y r d m z a l p q : Bool) →
      judged (x && (y && ((r && (d || m)) && (z && true)))) ((not d && true) && (a && true)) ((l && true) && ((p && q) && true))
      ≡ test (x && (y && z)) Fault.Undeclared
      (and_then (test r Fault.Undeclared (test (not d) Fault.WrongType (test m Fault.Undeclared (Ok tt))))
      (test a Fault.WrongType (test l Fault.WrongTarget (test p Fault.WrongTarget (test q Fault.WrongTarget (Ok tt))))))
  unfolding judged test and_then
  call-shuffle false y r d m z a l p q = refl
  call-shuffle true false r d m z a l p q = refl
  call-shuffle true true false d m true a l p q = refl
  call-shuffle true true false d m false a l p q = refl
  call-shuffle true true true true m false a l p q = refl
  call-shuffle true true true true m true a l p q = refl
  call-shuffle true true true false false true a l p q = refl
  call-shuffle true true true false false false a l p q = refl
  call-shuffle true true true false true false a l p q = refl
  call-shuffle true true true false true true false l p q = refl
  call-shuffle true true true false true true true false p q = refl
  call-shuffle true true true false true true true true false q = refl
  call-shuffle true true true false true true true true true false = refl
  call-shuffle true true true false true true true true true true = refl

  call-four : (ws : List Name) → length ws ≡ 4 → line_judged Γ vs s (line_with (statement Call) ws) ≡ call_judged Γ vs ws
  unfolding Base.all Grammar.opened Scopes.opened Names.all_known Names.known Names.all_typed Names.of_class Names.sides_agree Names.call_agrees Names.all_assignable Names.may_be_assigned Names.call_apart Names.open_apart formula_of line_judged call_judged method_judged call_agrees target_judged Names.known_method
  call-four [] e = absurd (omega arith)
  call-four (x ∷ []) e = absurd (omega arith)
  call-four (x ∷ y ∷ []) e = absurd (omega arith)
  call-four (x ∷ y ∷ m ∷ []) e = absurd (omega arith)
  call-four (x ∷ y ∷ m ∷ z ∷ []) e =
      let d = method_of_class Γ (variable_type vs y) m in
      call-shuffle (in_scope vs x) (in_scope vs y) (not (reserved m)) (is_int vs y) (any (is_method_of Γ (variable_type vs y) m) Γ.methods)
      (in_scope vs z) (eq_name (variable_type vs x) d.result && eq_name (variable_type vs z) d.parameter_type) (is_local (variable_number vs x))
      (not (eqb (variable_number vs x) (variable_number vs y))) (not (eqb (variable_number vs x) (variable_number vs z)))
  call-four (x ∷ y ∷ m ∷ z ∷ u ∷ ws) e = absurd (omega arith)

  return-shuffle :
      (x e : Bool) → judged (x && true) (e && true) true ≡ test x Fault.Undeclared (test e Fault.WrongType (Ok tt))
  unfolding judged test
  return-shuffle true true = refl
  return-shuffle true false = refl
  return-shuffle false e = refl

  return-one : (ws : List Name) → length ws ≡ 1 → line_judged Γ vs s (line_with (statement Return) ws) ≡ return_judged Γ vs ws
  unfolding Base.all Grammar.opened Scopes.opened Names.all_known Names.known Names.all_typed Names.of_class Names.sides_agree Names.all_assignable Names.may_be_assigned Names.call_apart Names.open_apart formula_of line_judged return_judged
  return-one [] e = absurd (omega arith)
  return-one (x ∷ []) e = return-shuffle (in_scope vs x) (eq_name (variable_type vs x) (variable_type vs (bytes "result")))
  return-one (x ∷ y ∷ ws) e = absurd (omega arith)

  compute-shuffle :
      (x y z i j k l : Bool) →
      judged (x && (y && (z && true))) ((i && (j && k)) && true) ((l && true) && true)
      ≡ test (x && (y && z)) Fault.Undeclared
      (test i Fault.WrongType (test j Fault.WrongType (test k Fault.WrongType (test l Fault.WrongTarget (Ok tt)))))
  unfolding judged test
  compute-shuffle false y z i j k l = refl
  compute-shuffle true false z i j k l = refl
  compute-shuffle true true false i j k l = refl
  compute-shuffle true true true false j k l = refl
  compute-shuffle true true true true false k l = refl
  compute-shuffle true true true true true false l = refl
  compute-shuffle true true true true true true false = refl
  compute-shuffle true true true true true true true = refl

  compute-three :
      (o : Operation) (ws : List Name) → length ws ≡ 3 → line_judged Γ vs s (line_with (statement (computing o)) ws) ≡ compute_judged Γ vs ws
  unfolding Base.all Grammar.opened Scopes.opened Names.all_known Names.known Names.all_typed Names.of_class Names.sides_agree Names.all_int Names.all_assignable Names.may_be_assigned Names.call_apart Names.open_apart formula_of line_judged compute_judged
  compute-three o [] e = absurd (omega arith)
  compute-three o (x ∷ []) e = absurd (omega arith)
  compute-three o (x ∷ y ∷ []) e = absurd (omega arith)
  compute-three sum (x ∷ y ∷ z ∷ []) e =
      compute-shuffle (in_scope vs x) (in_scope vs y) (in_scope vs z) (is_int vs x) (is_int vs y) (is_int vs z) (is_local (variable_number vs x))
  compute-three difference (x ∷ y ∷ z ∷ []) e =
      compute-shuffle (in_scope vs x) (in_scope vs y) (in_scope vs z) (is_int vs x) (is_int vs y) (is_int vs z) (is_local (variable_number vs x))
  compute-three o (x ∷ y ∷ z ∷ u ∷ ws) e = absurd (omega arith)

  open-shuffle :
      (y x f i e k l p : Bool) →
      judged (y && (x && (f && true))) ((i && true) && ((e && k) && true)) ((l && true) && p)
      ≡ test y Fault.Undeclared
      (and_then (and_then (judged (x && f) i true) (test k Fault.WrongType (Ok tt)))
      (test e Fault.WrongType (test l Fault.WrongTarget (test p Fault.WrongTarget (Ok tt)))))
  unfolding judged test and_then
  open-shuffle false x f i e k l p = refl
  open-shuffle true false f i e k l p = refl
  open-shuffle true true false i e k l p = refl
  open-shuffle true true true false e k l p = refl
  open-shuffle true true true true false true l p = refl
  open-shuffle true true true true false false l p = refl
  open-shuffle true true true true true false l p = refl
  open-shuffle true true true true true true false p = refl
  open-shuffle true true true true true true true false = refl
  open-shuffle true true true true true true true true = refl

  open-three : (ws : List Name) → length ws ≡ 3 → line_judged Γ vs s (line_with (statement Open) ws) ≡ open_judged Γ vs ws
  unfolding Base.all Grammar.opened Scopes.opened Names.all_known Names.known Names.known_expr Names.all_typed Names.of_class Names.of_class_in Names.sides_agree Names.all_assignable Names.may_be_assigned Names.call_apart Names.open_apart formula_of line_judged open_judged chain_judged expr_judged
  open-three [] e = absurd (omega arith)
  open-three (y ∷ []) e = absurd (omega arith)
  open-three (y ∷ x ∷ []) e = absurd (omega arith)
  open-three (y ∷ x ∷ f ∷ []) e =
      open-shuffle (in_scope vs y) (in_scope vs x) (known_field Γ vs x f) (not (is_int vs x)) (eq_name (variable_type vs y) (variable_type vs x))
      (chains Γ vs x f) (is_local (variable_number vs y)) (not (eqb (variable_number vs y) (variable_number vs x)))
  open-three (y ∷ x ∷ f ∷ z ∷ ws) e = absurd (omega arith)

  shut-shuffle :
      (x f i k : Bool) →
      judged (x && (f && true)) ((i && true) && (k && true)) true
      ≡ and_then (judged (x && f) i true) (test k Fault.WrongType (Ok tt))
  unfolding judged test and_then
  shut-shuffle true true true true = refl
  shut-shuffle true true true false = refl
  shut-shuffle true true false k = refl
  shut-shuffle true false i k = refl
  shut-shuffle false f i k = refl

  shut-two : (ws : List Name) → length ws ≡ 2 → line_judged Γ vs s (line_with (statement Shut) ws) ≡ shut_judged Γ vs ws
  unfolding Base.all Grammar.opened Scopes.opened Names.all_known Names.known Names.known_expr Names.all_typed Names.of_class Names.of_class_in Names.sides_agree Names.all_assignable Names.may_be_assigned Names.call_apart Names.open_apart formula_of line_judged shut_judged chain_judged expr_judged
  shut-two [] e = absurd (omega arith)
  shut-two (x ∷ []) e = absurd (omega arith)
  shut-two (x ∷ f ∷ []) e = shut-shuffle (in_scope vs x) (known_field Γ vs x f) (not (is_int vs x)) (chains Γ vs x f)
  shut-two (x ∷ f ∷ y ∷ ws) e = absurd (omega arith)

  -- WITH ITS FORM
  abbrev Formed : Kind → List Name → Type 0
  Formed k ws = is_formed (form k).operands (form k).tail ws ≡ true

  pub set-judged : (ws : List Name) → Formed (statement Set) ws → line_judged Γ vs s (line_with (statement Set) ws) ≡ set_judged Γ vs ws
  unfolding Grammar.opened
  set-judged ws e = set-three ws (formed-length (form (statement Set)).operands ws e)

  pub new-judged : (ws : List Name) → Formed (statement New) ws → line_judged Γ vs s (line_with (statement New) ws) ≡ new_judged Γ vs ws
  unfolding Grammar.opened
  new-judged ws e = new_two ws (formed-length (form (statement New)).operands ws e)

  pub call-judged : (ws : List Name) → Formed (statement Call) ws → line_judged Γ vs s (line_with (statement Call) ws) ≡ call_judged Γ vs ws
  unfolding Grammar.opened
  call-judged ws e = call-four ws (formed-length (form (statement Call)).operands ws e)

  pub return-judged : (ws : List Name) → Formed (statement Return) ws → line_judged Γ vs s (line_with (statement Return) ws) ≡ return_judged Γ vs ws
  unfolding Grammar.opened
  return-judged ws e = return-one ws (formed-length (form (statement Return)).operands ws e)

  pub compute-judged :
      (o : Operation) (ws : List Name) → Formed (statement (computing o)) ws →
      line_judged Γ vs s (line_with (statement (computing o)) ws) ≡ compute_judged Γ vs ws
  unfolding Grammar.opened
  compute-judged sum ws e = compute-three sum ws (formed-length (form (statement Add)).operands ws e)
  compute-judged difference ws e = compute-three difference ws (formed-length (form (statement Sub)).operands ws e)

  pub open-judged : (ws : List Name) → Formed (statement Open) ws → line_judged Γ vs s (line_with (statement Open) ws) ≡ open_judged Γ vs ws
  unfolding Grammar.opened
  open-judged ws e = open-three ws (formed-length (form (statement Open)).operands ws e)

  pub shut-judged : (ws : List Name) → Formed (statement Shut) ws → line_judged Γ vs s (line_with (statement Shut) ws) ≡ shut_judged Γ vs ws
  unfolding Grammar.opened
  shut-judged ws e = shut-two ws (formed-length (form (statement Shut)).operands ws e)

  -- a line that is its word alone
  bare-judged : (k : Kind) → (form k).operands ≡ [] → (form k).tail ≡ nothing → (ws : List Name) → Formed k ws → line_judged Γ vs s (line_with k ws) ≡ Ok tt
  unfolding line_judged formula_of atoms_judged
  bare-judged k o t ws e = formula-judged Γ vs s (line_with k ws) o ∙ none ws (formed-length [] ws (sym (ap₂ (λ os u. is_formed os u ws) o t) ∙ e))
    where
      none : (ws : List Name) → length ws ≡ 0 → atoms_judged Γ vs (formula_of ws) ≡ Ok tt
      none [] e = refl
      none (w ∷ ws) e = absurd (omega arith)

  pub else-judged : (ws : List Name) → Formed (statement Else) ws → line_judged Γ vs s (line_with (statement Else) ws) ≡ Ok tt
  unfolding Grammar.opened
  else-judged = bare-judged (statement Else) refl refl

  pub end-judged : (ws : List Name) → Formed (statement End) ws → line_judged Γ vs s (line_with (statement End) ws) ≡ Ok tt
  unfolding Grammar.opened
  end-judged = bare-judged (statement End) refl refl

  pub again-judged : (ws : List Name) → Formed (statement Again) ws → line_judged Γ vs s (line_with (statement Again) ws) ≡ Ok tt
  unfolding Grammar.opened
  again-judged = bare-judged (statement Again) refl refl
