-- The rows, requires and ensures of a text that is read name only the variables of a frame.
use mathlib.Core.Path.{◌≡◌, refl, sym, subst}
use mathlib.Core.Bool.{Bool, true, false, cond}
use mathlib.Core.List.{List, [], ◌∷◌, ◌++◌}
use mathlib.Core.Logic.{◌⊎◌, inl, inr, ⊎_elim}
use Prim.Native.Nat.{ℕ, zero, suc, ◌+◌, ◌≤◌, ◌<◌}
use native.Mathlib.Omega.{arith}
use lib.Dec.{T, eqb, leb, leb→le, le→leb, lit≤, lit<}
use lib.ListN.{get_or, length}
use Rattle.rules.specs.Base.{Name, between, Member, further}
use Rattle.rules.specs.Base as Base
use Rattle.rules.specs.Limits.{most_classes, most_fields, most_methods, most_locals}
use Rattle.rules.specs.Answers.{accepted}
use Rattle.rules.specs.Syntax.{Expr, Formula, Simple, Stmt, Method, Program, no_row, row_numbered, method_numbered, first_local, result_variable, num, null, var, path, own, cmp}
use Rattle.rules.specs.Syntax.{set, assign, compute, new, call, return, assert, release, open_chain, shut_chain, simple, if, else, join, loop, again, end}
use Rattle.rules.specs.Text.{is_rel, is_condition, expr_of}
use Rattle.rules.specs.Text as Text
use Rattle.rules.specs.Grammar.{Kind, Stage, Use, Line, read, assigned, type_name, variable, form, is_kind, statement_number, after_method, after_main, after_return, in_body}
use Rattle.rules.specs.Grammar.{Class, Field, Method as MethodLine, Requires, Ensures, Main, Var, Statement, statement, Set, Let, New, Call, Return, Assert, Release, If, Else, Join, End, Add, Sub, Loop, Again, Open, Shut}
use Rattle.rules.specs.Grammar as Grammar
use Rattle.rules.specs.Places.{Place, first_place, stage_number, in_place, branches_after, place_after, within_limits}
use Rattle.rules.specs.Places as Places
use Rattle.rules.specs.Scope.{Declarations, Variable, BlockScope, Scope, operand, no_block_scope, declarations, block_after, scope_after, visible, first_scope}
use Rattle.rules.specs.Scope as Scope
use Rattle.rules.specs.Names.{variable_number, all_known}
use Rattle.rules.specs.Items.{Item, item_of, resolve_statement, resolve_expr, resolve_atoms, resolve_formula, a_class, a_field, a_method, a_requires, an_ensures, a_main, a_local, a_statement}
use Rattle.rules.specs.Items as Items
use Rattle.rules.specs.Reading.{read_text, with_requires, with_ensures, program}
use Rattle.rules.specs.State.{variables}
use Rattle.rules.proofs.Lists.{decide_eq, is-head, head-or, append-member, end-member, and_both}
use Rattle.rules.proofs.LinesTaken.{line_of, Taken, TakenLines, none, line, read_taken}
use Rattle.rules.proofs.FormedStates.{Named, NamedFormula, NamedSimple}
use Rattle.soundness.specs.WellFormed.{TermOver, Over}
use Rattle.soundness.proofs.NamesInScope.{formula-over, variable-over, expression-over, condition-over}
use Rattle.soundness.proofs.ProgramParts.{all-at, ItemsHold, Kept, Parts, parts}

-- THE VARIABLES OF A FRAME
abbrev InFrame : ℕ → Type 0
InFrame v = Member v variables

from : ℕ → ℕ → List ℕ
from a zero = []
from a (suc n) = a ∷ from (suc a) n

from_member : (a n i : ℕ) → a ≤ i → i < a + n → Member i (from a n)
unfolding from
from_member a zero i l u = absurd (omega (arith, l, u))
from_member a (suc n) i l u =
    ⊎_elim (λ e. is-head (sym e)) (λ d. further (from_member (suc a) n i (omega (arith, l, d)) (omega (arith, u)))) (same_or a i l)
  where
    same_or : (a i : ℕ) → a ≤ i → (a ≡ i) ⊎ (suc a ≤ i)
    same_or a i l = ⊎_elim inl (λ d. inr (omega (arith, l, d))) (decide_eq a i)

in_frame : (v : ℕ) → v ≤ result_variable → InFrame v
unfolding from
in_frame v l = from_member 0 15 v (omega arith) (omega (arith, l))

-- BLOCKS
abbrev outside : Stage → Bool
outside st = leb (stage_number st) (stage_number after_method)

-- the variables of a block are those of a frame, and its locals are counted; outside of blocks there is none
record Fitting (p : Place) (b : BlockScope) : Type 0 where
  number : (v : Variable) → Member v b.variables → InFrame v.number
  result : (v : Variable) → Member v b.result → InFrame v.number
  few : b.locals ≤ p.locals
  empty : T (outside p.stage) → b.locals ≡ 0

seen-in : (p : Place) (b : BlockScope) (k : Kind) → Fitting p b → (v : Variable) → Member v (visible b k) → InFrame v.number
unfolding visible
seen-in p b k F v i = go (is_kind Requires k) i
  where
    go : (c : Bool) → Member v (cond c b.variables (b.variables ++ b.result)) → InFrame v.number
    go true i = F.number v i
    go false i = ⊎_elim (λ j. F.number v j) (λ j. F.result v j) (append-member b.variables b.result v i)

-- few enough after a `var` line
locals-within : (p : Place) → T (within_limits p) → p.locals ≤ most_locals
unfolding within_limits
locals-within p t =
    let (_, a) = and_both (leb p.classes most_classes) _ t in
    let (_, b) = and_both (leb p.fields most_fields) _ a in
    let (_, c) = and_both (leb p.methods most_methods) _ b in
    leb→le p.locals most_locals (and_both (leb p.locals most_locals) _ c).0

-- where a kind of line stands outside of blocks, there is no local
stands-outside : (k : Kind) (p : Place) → stage_number (form k).last ≤ stage_number after_method → T (in_place k p) → T (outside p.stage)
unfolding in_place between
stands-outside k p z t =
    let (i, _) = and_both (between _ _ (stage_number p.stage)) _ t in
    let (_, l) = and_both (leb _ (stage_number p.stage)) _ i in
    let u : stage_number p.stage ≤ stage_number (form k).last = leb→le _ _ l in
    le→leb (stage_number p.stage) (stage_number after_method) (omega (arith, u, z))

module _ (p : Place) (C : Name) (b : BlockScope) where
  statement-fits :
      (a : Statement) (ws : List Name) → Fitting p b → Fitting (place_after (statement a) p) (block_after C b (line_of (statement a) ws))
  unfolding Base.opened Grammar.opened Places.opened Scope.opened
  statement-fits a ws F = go (is_kind (statement End) (statement a)) (eqb (statement_number a) (statement_number Return)) p.main
    where
      inside : (c : Bool) → T (outside (cond c after_return in_body)) → ⊥
      inside true h = h
      inside false h = h

      go :
          (c d m : Bool) →
          Fitting
          (record {
            stage = cond c (cond m after_main after_method) (cond d after_return in_body);
            main = p.main;
            branches = branches_after (statement a) p.branches;
            classes = p.classes;
            fields = p.fields;
            methods = p.methods;
            locals = p.locals;
            statements = suc p.statements;
          })
          (cond c no_block_scope b)
      go true d m = record { number = λ v i. elim i [ ]; result = λ v i. elim i [ ]; few = omega arith; empty = λ _. refl }
      go false d m = record { number = F.number; result = F.result; few = F.few; empty = λ h. absurd (inside d h) }

  line-fits :
      (k : Kind) (ws : List Name) → T (in_place k p) → T (within_limits (place_after k p)) → Fitting p b →
      Fitting (place_after k p) (block_after C b (line_of k ws))
  unfolding Base.opened Grammar.opened Places.opened Scope.opened
  line-fits Class ws i w F =
      record { number = F.number; result = F.result; few = F.few; empty = λ _. F.empty (stands-outside Class p (lit≤ tt) i) }
  line-fits Field ws i w F =
      record { number = F.number; result = F.result; few = F.few; empty = λ _. F.empty (stands-outside Field p (lit≤ tt) i) }
  line-fits MethodLine ws i w F =
      record {
        number =
            λ v j.
            ⊎_elim
            (λ k. ⊎_elim (λ m. elim m [ ]) (λ e. subst (λ (v : Variable). InFrame v.number) (sym e) (in_frame 1 (lit≤ tt))) (head-or k))
            (λ e. subst (λ (v : Variable). InFrame v.number) (sym e) (in_frame 0 (lit≤ tt)))
            (head-or j);
        result =
            λ v j.
            ⊎_elim (λ k. elim k [ ]) (λ e. subst (λ (v : Variable). InFrame v.number) (sym e) (in_frame 14 (lit≤ tt))) (head-or j);
        few = omega arith;
        empty = absurd;
      }
  line-fits Requires ws i w F = record { number = F.number; result = F.result; few = F.few; empty = absurd }
  line-fits Ensures ws i w F = record { number = F.number; result = F.result; few = F.few; empty = absurd }
  line-fits Main ws i w F =
      let z = F.empty (stands-outside Main p (lit≤ tt) i) in
      record { number = F.number; result = F.result; few = omega (arith, z); empty = absurd }
  line-fits Var ws i w F =
      record {
        number =
            λ v j.
            ⊎_elim (λ k. F.number v k)
            (λ e.
            subst (λ (v : Variable). InFrame v.number) (sym e)
            (in_frame (first_local + b.locals) (omega (arith, F.few, locals-within (place_after Var p) w))))
            (end-member b.variables _ v j);
        result = F.result;
        few = omega (arith, F.few);
        empty = absurd;
      }
  line-fits (statement a) ws i w F = statement-fits a ws F

-- STATEMENTS
abbrev SimpleNamed : Simple → Type 0
SimpleNamed (set x f y) = InFrame y
SimpleNamed (assign x e) = InFrame x × Named e
SimpleNamed (compute o x y z) = Unit {0}
SimpleNamed (new x c) = InFrame x
SimpleNamed (call x y m z) = InFrame x × InFrame y × InFrame z
SimpleNamed (assert φ) = Unit {0}
SimpleNamed (release φ) = Unit {0}
SimpleNamed (open_chain y x f) = InFrame y
SimpleNamed (shut_chain x f) = Unit {0}

abbrev pub StmtNamed : Stmt → Type 0
StmtNamed (simple p) = SimpleNamed p
StmtNamed (return x) = InFrame x
StmtNamed (if n a b) = Named a × Named b
StmtNamed else = Unit {0}
StmtNamed (join φ) = NamedFormula φ
StmtNamed (loop n a b φ) = Named a × Named b × NamedFormula φ
StmtNamed again = Unit {0}
StmtNamed end = Unit {0}

term-named : (t : Expr ℕ) → TermOver InFrame t → Named t
term-named (num n) o = tt
term-named null o = tt
term-named (var v) o = o
term-named (path v f) o = tt

formula-named : (φ : Formula ℕ) → Over InFrame φ → NamedFormula φ
formula-named [] o = tt
formula-named (own k x f ∷ φ) o = formula-named φ o.1
formula-named (cmp n a b ∷ φ) o = (term-named a o.0, term-named b o.1, formula-named φ o.2)

module _ (text : List Line) (p : Place) (s : Scope) (F : Fitting p s.block) where
  module _ (k : Kind) (ws : List Name) (t : Taken text p s (line_of k ws)) where
    abbrev Γ : Declarations
    Γ = declarations text

    abbrev vs : List Variable
    vs = visible s.block k

    has : (v : Variable) → Member v vs → InFrame v.number
    has = seen-in p s.block k F

    operand_in :
        (i : ℕ) (u : Use) → i < length (form k).operands → get_or (form k).operands i type_name ≡ variable u →
        InFrame (variable_number vs (operand (line_of k ws) i))
    operand_in i u b e = variable-over Γ vs InFrame has s (line_of k ws) i u b e t.formed t.known

    formula-in : NamedFormula (resolve_formula Γ vs (line_of k ws))
    formula-in = formula-named (resolve_formula Γ vs (line_of k ws)) (formula-over Γ vs InFrame has s (line_of k ws) t.known)

  statement-named :
      (a : Statement) (ws : List Name) → Taken text p s (line_of (statement a) ws) →
      StmtNamed (resolve_statement (declarations text) (visible s.block (statement a)) a (line_of (statement a) ws))
  unfolding Base.opened Text.opened Grammar.opened Items.opened Scope.opened all_known
  statement-named Set ws t = operand_in (statement Set) ws t 2 read (lit< tt) refl
  statement-named Let ws t = (
    operand_in (statement Let) ws t 0 assigned (lit< tt) refl,
    term-named (resolve_expr (declarations text) (visible s.block (statement Let)) (expr_of (operand (line_of (statement Let) ws) 1)))
        (expression-over (declarations text) _ InFrame (has (statement Let) ws t) s (line_of (statement Let) ws) 1 (lit< tt) refl t.formed
        t.known),
  )
  statement-named New ws t = operand_in (statement New) ws t 0 assigned (lit< tt) refl
  statement-named Call ws t = (
    operand_in (statement Call) ws t 0 assigned (lit< tt) refl,
    operand_in (statement Call) ws t 1 read (lit< tt) refl,
    operand_in (statement Call) ws t 3 read (lit< tt) refl,
  )
  statement-named Return ws t = operand_in (statement Return) ws t 0 read (lit< tt) refl
  statement-named Assert ws t = tt
  statement-named Release ws t = tt
  statement-named If [] t = absurd t.formed
  statement-named If (w ∷ []) t = absurd t.formed
  statement-named If (w ∷ a ∷ []) t = absurd t.formed
  statement-named If (w ∷ a ∷ b ∷ ws) t =
      let (_, r) = and_both (eqb (length (w ∷ a ∷ b ∷ ws)) 3) _ t.formed in
      let (x, y, _) =
      condition-over (declarations text) _ InFrame (has (statement If) _ t) s w a b ws (and_both (is_rel w) _ r).0 t.known in
      let side : Name → Expr ℕ = λ c. resolve_expr (declarations text) (visible s.block (statement If)) (expr_of c) in
      (term-named (side a) x, term-named (side b) y)
  statement-named Else ws t = tt
  statement-named Join ws t = formula-in (statement Join) ws t
  statement-named End ws t = tt
  statement-named Add ws t = tt
  statement-named Sub ws t = tt
  statement-named Loop [] t = absurd t.formed
  statement-named Loop (w ∷ []) t = absurd t.formed
  statement-named Loop (w ∷ a ∷ []) t = absurd t.formed
  statement-named Loop (w ∷ a ∷ b ∷ ws) t =
      let (r, _) = and_both (is_condition (w ∷ a ∷ b ∷ [])) _ t.formed in
      let (x, y, z) =
      condition-over (declarations text) _ InFrame (has (statement Loop) _ t) s w a b ws (and_both (is_rel w) _ r).0 t.known in
      let vs : List Variable = visible s.block (statement Loop) in
      let side : Name → Expr ℕ = λ c. resolve_expr (declarations text) vs (expr_of c) in
      (term-named (side a) x, term-named (side b) y, formula-named (resolve_atoms (declarations text) vs ws) z)
  statement-named Again ws t = tt
  statement-named Open ws t = operand_in (statement Open) ws t 0 assigned (lit< tt) refl
  statement-named Shut ws t = tt

-- ITEMS
abbrev ItemNamed : Item → Type 0
ItemNamed a_class = Unit {0}
ItemNamed (a_field f) = Unit {0}
ItemNamed a_method = Unit {0}
ItemNamed (a_requires φ) = NamedFormula φ
ItemNamed (an_ensures φ) = NamedFormula φ
ItemNamed a_main = Unit {0}
ItemNamed (a_local x) = Unit {0}
ItemNamed (a_statement s) = StmtNamed s

module _ (text : List Line) where
  line-named :
      (p : Place) (s : Scope) (k : Kind) (ws : List Name) → Fitting p s.block → Taken text p s (line_of k ws) →
      ItemNamed (item_of (declarations text) (visible s.block k) k (line_of k ws))
  unfolding item_of
  line-named p s Class ws F t = tt
  line-named p s Field ws F t = tt
  line-named p s MethodLine ws F t = tt
  line-named p s Requires ws F t = formula-in text p s F Requires ws t
  line-named p s Ensures ws F t = formula-in text p s F Ensures ws t
  line-named p s Main ws F t = tt
  line-named p s Var ws F t = tt
  line-named p s (statement a) ws F t = statement-named text p s F a ws t

  lines-named :
      (n : ℕ) (p : Place) (s : Scope) (ls : List Line) (items : List Item) → TakenLines text p s ls items → Fitting p s.block →
      ItemsHold (λ l a. ItemNamed a) n items
  unfolding scope_after
  lines-named n p s ls items (none e) F = tt
  lines-named n p s ls items (line {l = l} {ls = ls'} {items = items'} t ts) F = (
    line-named p s l.kind l.fields F t,
    lines-named (suc n) _ _ ls' items' ts
        (line-fits p s.members.class s.block l.kind l.fields t.is_in_place t.within F),
  )

first-fits : Fitting first_place first_scope.block
first-fits = record { number = λ v i. elim i [ ]; result = λ v i. elim i [ ]; few = omega arith; empty = λ _. refl }

-- THE PROGRAM
pub record MethodNamed (M : Method) : Type 0 where
  pub requires : NamedFormula M.requires
  pub ensures : NamedFormula M.ensures

pub record ProgramNamed (P : Program) : Type 0 where
  pub methods : (n : ℕ) → MethodNamed (method_numbered P n)
  pub rows : (i : ℕ) → StmtNamed (row_numbered P i).stmt

named-kept : Kept (λ l a. ItemNamed a) MethodNamed (λ r. StmtNamed r.stmt)
unfolding with_requires with_ensures
named-kept =
    record {
      method = λ n. record { requires = tt; ensures = tt };
      requires = λ l φ N i G. record { requires = i; ensures = G.ensures };
      ensures = λ l φ N i G. record { requires = G.requires; ensures = i };
      row = λ l s i. i;
    }

pub read_named : (t : List ℕ) (items : List Item) → read_text t ≡ accepted items → ProgramNamed (program items)
unfolding row_numbered method_numbered
read_named t items e =
    let (ls, L) = read_taken t items e in
    let F : Parts (λ l a. ItemNamed a) MethodNamed (λ r. StmtNamed r.stmt) (program items) =
    parts (λ l a. ItemNamed a) MethodNamed (λ r. StmtNamed r.stmt) named-kept items
    (lines-named ls 0 first_place first_scope ls items L first-fits) in
    record {
      methods = all-at MethodNamed (program items).methods _ (record { requires = tt; ensures = tt }) F.methods;
      rows = all-at (λ r. StmtNamed r.stmt) (program items).rows no_row tt F.rows;
    }

-- what a rule asks of its statement
pub simple-named : (P : Program) (p : Simple) → ProgramNamed P → StmtNamed (simple p) → NamedSimple P p
simple-named P (set x f y) N i = i
simple-named P (assign x e) N i = i
simple-named P (compute o x y z) N i = tt
simple-named P (new x c) N i = i
simple-named P (call x y m z) N i = (i.0, i.1, i.2, (N.methods m).ensures)
simple-named P (assert φ) N i = tt
simple-named P (release φ) N i = tt
simple-named P (open_chain y x f) N i = i
simple-named P (shut_chain x f) N i = tt
