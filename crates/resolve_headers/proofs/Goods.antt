-- What the tests of numbers 6, 7 and 9 say of `class`, `main`, `var`, `field` and `method` lines.
use Rattle.std.proofs.Common.{Ok, Err}
use mathlib.Core.Path.{◌≡◌, refl, sym, ap, subst, ◌∙◌}
use mathlib.Core.Bool.{Bool, true, false, ◌&&◌}
use mathlib.Core.List.{List, [], ◌∷◌, map}
use Prim.Native.Nat.{ℕ, zero, suc}
use lib.Dec.{eqb-suc-zero}
use lib.ListN.{length, get_or, drop}
use Rattle.rules.specs.Base as Base
use Rattle.rules.specs.Base.{Name}
use Rattle.rules.specs.Text as Text
use Rattle.rules.specs.Grammar as Grammar
use Rattle.rules.specs.Grammar.{Kind, Operand, Class, Field, Method, Main, Var, nothing, form, is_operand, is_formed, kind_number}
use Rattle.rules.specs.Scope as Scopes
use Rattle.rules.specs.Scope.{Declarations, Variable, Scope}
use Rattle.rules.specs.Names as Known
use Rattle.rules.specs.Names.{is_type}
use Rattle.read_bytes.proofs.Search.{both_true, true-false}
use Rattle.read_fields.specs.Cuts.{more}
use Rattle.read_names.specs.declared.Span.{Span}
use Rattle.read_names.specs.declared.Row.{Row}
use Rattle.tables.specs.Decode.{run}
use Rattle.read_names.specs.Rows.{name_in, entry_of}
use Rattle.read_scopes.specs.Meanings.{declarations_in, block_in, variables_in, scope_in}
use Rattle.read_lookups.specs.LookUps.{is_new}
use Rattle.read_types.specs.declared.Fault.{Fault}
use Rattle.read_types.specs.Verdicts.{Verdict, test, judged}
use Rattle.read_declarations.specs.Declares.{line_with, MethodRow, method_entry}
use Rattle.resolve_pass.specs.declared.Pass.{Pass}
use Rattle.resolve_pass.specs.Passes.{seen_by, line_after, line_judged, judged_here, LinePut, LineTried}
use Rattle.resolve_headers.specs.Headers.{DeclarationPut}
use Rattle.resolve_headers.proofs.Lines.{Formed, line-is}

-- THE FIELDS OF A LINE WITHOUT A TAIL
after_first : (u : Name) (ws : List Name) (i n : ℕ) → run (λ i. get_or (u ∷ ws) i []) (suc i) n ≡ run (λ i. get_or ws i []) i n
unfolding run
after_first u ws i zero = refl
after_first u ws i (suc n) = ap (◌∷◌ (get_or ws i [])) (after_first u ws (suc i) n)

-- as many as its operands
formed-fields : (os : List Operand) (ws : List Name) → is_formed os nothing ws ≡ true → ws ≡ run (λ i. get_or ws i []) 0 (length os)
unfolding Grammar.opened run
formed-fields [] [] e = refl
formed-fields [] (w ∷ ws) e = true-false (sym e ∙ eqb-suc-zero (length ws))
formed-fields (o ∷ os) [] e = true-false (sym e)
formed-fields (o ∷ os) (w ∷ ws) e = ap (◌∷◌ w) (formed-fields os ws (both_true (is_operand o w) (is_formed os nothing ws) e).1 ∙ sym (after_first w ws 0 (length os)))

-- THE TESTS: number 6 alone

-- b: all is known
abbrev named : Bool → Verdict
named b = test b Fault.Undeclared (Ok tt)

one : (a : Bool) → (a && true) ≡ a
one true = refl
one false = refl

two : (a b : Bool) → (a && (b && true)) ≡ (a && b)
two true b = one b
two false b = refl

four : (a b c d : Bool) → (a && (b && (c && (d && true)))) ≡ ((a && b) && (c && d))
four true true c d = two c d
four true false c d = refl
four false b c d = refl

module _ (Γ : Declarations) (vs : List Variable) (s : Scope) (ws : List Name) where
  -- C is new among the classes
  class-judged : Formed Class ws → line_judged Γ vs s (line_with Class ws) ≡ named (is_new (get_or ws 0 []) s.classes)
  unfolding line_judged judged test is_new run Grammar.opened Scopes.opened Known.all_known Known.known Known.all_typed Known.of_class Known.sides_agree Known.all_assignable Known.may_be_assigned Known.call_apart Known.open_apart Base.all Text.formula_of
  class-judged e =
      ap (λ ws. line_judged Γ vs s (line_with Class ws)) (formed-fields (form Class).operands ws e)
      ∙ ap named (one (is_new (get_or ws 0 []) s.classes))

  -- nothing is named
  main-judged : Formed Main ws → line_judged Γ vs s (line_with Main ws) ≡ named true
  unfolding line_judged judged test is_new run Grammar.opened Scopes.opened Known.all_known Known.known Known.all_typed Known.of_class Known.sides_agree Known.all_assignable Known.may_be_assigned Known.call_apart Known.open_apart Base.all Text.formula_of
  main-judged e = ap (λ ws. line_judged Γ vs s (line_with Main ws)) (formed-fields (form Main).operands ws e)

  -- T is a type, and x is new among the variables of the block
  var-judged :
      Formed Var ws →
      line_judged Γ vs s (line_with Var ws) ≡ named (is_type Γ (get_or ws 0 []) && is_new (get_or ws 1 []) (map (λ v. v.name) s.block.variables))
  unfolding line_judged judged test is_new run Grammar.opened Scopes.opened Known.all_known Known.known Known.all_typed Known.of_class Known.sides_agree Known.all_assignable Known.may_be_assigned Known.call_apart Known.open_apart Base.all Text.formula_of
  var-judged e =
      ap (λ ws. line_judged Γ vs s (line_with Var ws)) (formed-fields (form Var).operands ws e)
      ∙ ap named (two (is_type Γ (get_or ws 0 [])) (is_new (get_or ws 1 []) (map (λ v. v.name) s.block.variables)))

  -- T is a type, and f is new among the fields of the class
  field-judged :
      Formed Field ws →
      line_judged Γ vs s (line_with Field ws) ≡ named (is_type Γ (get_or ws 0 []) && is_new (get_or ws 1 []) s.members.fields)
  unfolding line_judged judged test is_new run Grammar.opened Scopes.opened Known.all_known Known.known Known.all_typed Known.of_class Known.sides_agree Known.all_assignable Known.may_be_assigned Known.call_apart Known.open_apart Base.all Text.formula_of
  field-judged e =
      ap (λ ws. line_judged Γ vs s (line_with Field ws)) (formed-fields (form Field).operands ws e)
      ∙ ap named (two (is_type Γ (get_or ws 0 [])) (is_new (get_or ws 1 []) s.members.fields))

  -- both types are, m is new among the methods of the class, and w among the variables
  method-judged :
      Formed Method ws →
      line_judged Γ vs s (line_with Method ws)
      ≡ named
      ((is_type Γ (get_or ws 0 []) && is_new (get_or ws 1 []) s.members.methods)
      && (is_type Γ (get_or ws 2 []) && is_new (get_or ws 3 []) (map (λ v. v.name) s.block.variables)))
  unfolding line_judged judged test is_new run Grammar.opened Scopes.opened Known.all_known Known.known Known.all_typed Known.of_class Known.sides_agree Known.all_assignable Known.may_be_assigned Known.call_apart Known.open_apart Base.all Text.formula_of
  method-judged e =
      ap (λ ws. line_judged Γ vs s (line_with Method ws)) (formed-fields (form Method).operands ws e)
      ∙ ap named
      (four (is_type Γ (get_or ws 0 [])) (is_new (get_or ws 1 []) s.members.methods) (is_type Γ (get_or ws 2 []))
      (is_new (get_or ws 3 []) (map (λ v. v.name) s.block.variables)))

-- AS THE LINE STANDS IN THE TEXT: ws are its fields, and b is what is found of their places
module _ (t w : List ℕ) (p : Pass) (ws : List Name) (b : Bool) where
  abbrev Γ : Declarations
  Γ = declarations_in t w p.names

  abbrev above : Scope
  above = scope_in t w p.names p.above

  -- names of the variables of the block
  abbrev variables : List Name
  variables = map (λ v. v.name) (block_in t w p.names).variables

  abbrev pub Judged : Kind → Type 0
  Judged k = line_judged Γ (variables_in t w (seen_by k p.names)) above (line_with k ws) ≡ named b

  pub class-test : (s : Span) → name_in t s ≡ get_or ws 0 [] → Formed Class ws → b ≡ is_new (name_in t s) above.classes → Judged Class
  class-test s name f e = class-judged _ _ _ ws f ∙ ap named (sym (e ∙ ap (λ x. is_new x above.classes) name))

  pub main-test : Formed Main ws → b ≡ true → Judged Main
  main-test f e = main-judged _ _ _ ws f ∙ ap named (sym e)

  module _ (g s : Span) (type : name_in t g ≡ get_or ws 0 []) (name : name_in t s ≡ get_or ws 1 []) where
    pub var-test : Formed Var ws → b ≡ (is_type Γ (name_in t g) && is_new (name_in t s) variables) → Judged Var
    unfolding scope_in
    var-test f e = var-judged _ _ _ ws f ∙ ap named (sym (e ∙ (λ j. is_type Γ (type j) && is_new (name j) variables)))

    pub field-test : Formed Field ws → b ≡ (is_type Γ (name_in t g) && is_new (name_in t s) above.members.fields) → Judged Field
    field-test f e = field-judged _ _ _ ws f ∙ ap named (sym (e ∙ (λ j. is_type Γ (type j) && is_new (name j) above.members.fields)))

    -- the name of a field that passes
    pub new-field :
        b ≡ (is_type Γ (name_in t g) && is_new (name_in t s) above.members.fields) → b ≡ true →
        is_new (get_or ws 1 []) above.members.fields ≡ true
    new-field e f =
        ap (λ x. is_new x above.members.fields) (sym name)
        ∙ (both_true (is_type Γ (name_in t g)) (is_new (name_in t s) above.members.fields) (sym e ∙ f)).1

  pub method-test :
      {o : ℕ} {m : Row} (s : Span) → MethodRow t o ws m → name_in t s ≡ get_or ws 3 [] → Formed Method ws →
      b
      ≡ ((is_type Γ (name_in t m.gives) && is_new (name_in t m.name) above.members.methods)
      && (is_type Γ (name_in t m.takes) && is_new (name_in t s) variables)) →
      Judged Method
  unfolding scope_in entry_of method_entry
  method-test s x name f e =
      method-judged _ _ _ ws f
      ∙ ap named
      (sym
      (e
      ∙ (λ j.
      (is_type Γ (x.is j).gives && is_new (x.is j).name above.members.methods)
      && (is_type Γ (x.is j).takes && is_new (name j) variables))))

-- The line of the kind k, which has the number n, is tried.
module _ (t w : List ℕ) (p : Pass) (r : ℕ) (k : Kind) {n : ℕ} (e : n ≡ kind_number k) (b : Bool) (is : Judged t w p (more (drop r t)) b k) where
  judged-here : judged_here t w p (line_after t r n) ≡ named b
  unfolding judged_here
  judged-here = ap (judged_here t w p) (line-is k e) ∙ is

  pub put_on :
      b ≡ true → {u : List ℕ} {q : Pass} → DeclarationPut t w p (line_with k (more (drop r t))) u q →
      LineTried t w p (line_after t r n) u (Ok q)
  unfolding LineTried test
  put_on f {u} {q} x = (judged-here ∙ ap named f, (subst (λ l. LinePut t w p l u q) (sym (line-is k e)) x.put, x.unframed))

  pub put-bad : b ≡ false → LineTried t w p (line_after t r n) w (Err Fault.Undeclared)
  unfolding LineTried test
  put-bad f = (judged-here ∙ ap named f, refl)
