-- `let` and `if`: the atom and the row fit, and mean the line's statement.
use Rattle.std.proofs.Common.{Result, Ok, Err}
use Rattle.std.specs.Prelude.{Option, IsSome}
use mathlib.Core.Path.{◌≡◌, refl, sym, ap, subst, ◌∙◌}
use mathlib.Core.Bool.{Bool, true, false, cond, ◌&&◌}
use mathlib.Core.List.{List, [], ◌∷◌}
use mathlib.Core.Logic.{◌⊎◌, inl, inr, ⊎_elim}
use mathlib.Core.Option.{some}
use Prim.Native.Nat.{ℕ, ◌+◌, ◌≤◌, ◌<◌}
use native.Mathlib.Omega.{arith}
use lib.Dec.{eqb}
use lib.ListN.{length, get_or, drop}
use borrow.Author.Tests.{eqb-true}
use Rattle.rules.specs.Base as Base
use Rattle.rules.specs.Base.{Name}
use Rattle.rules.specs.Limits.{work_bytes, most_statements}
use Rattle.rules.specs.Syntax.{Rel, Expr, Atom, Stmt, own, cmp, simple, assign, if, end}
use Rattle.rules.specs.Text.{is_name, is_expr, expr_of, rel_of, is_rel, is_permit, is_atom, atom_of, is_formula, is_condition, formula_of}
use Rattle.rules.specs.Grammar as Grammar
use Rattle.rules.specs.Grammar.{Statement, statement, Let, If, form, is_formed}
use Rattle.rules.specs.Scope as Scopes
use Rattle.rules.specs.Scope.{Declarations, Variable, Scope}
use Rattle.rules.specs.Names as Names
use Rattle.rules.specs.Names.{is_local, agree, in_scope, variable_number, variable_type, expr_type}
use Rattle.rules.specs.Items as Items
use Rattle.rules.specs.Items.{resolve_atom, item_of, a_statement}
use Rattle.read_bytes.proofs.Search.{both_true, true-false, or-true}
use Rattle.tables.specs.declared.kinds.AtomKind.{AtomKind}
use Rattle.read_atoms.specs.Atoms.{Begins, atom_word, begins_atom, begun_by}
use Rattle.read_atoms.proofs.Atoms.{kind-there, of-atom-word, atom-begins, word-told}
use Rattle.read_fields.specs.Cuts.{more}
use Rattle.tables.specs.declared.Expr as Tables
use Rattle.tables.specs.Numbers.{eq_atom}
use Rattle.tables.specs.Layout.{frame_variables, most_atom_rows, names_at}
use Rattle.tables.specs.Decode as Decode
use Rattle.tables.specs.Decode.{byte_at}
use Rattle.tables.specs.Stores.{Kept, meaning}
use Rattle.read_scopes.specs.declared.Names as Counts
use Rattle.read_names.specs.declared.Span.{Span}
use Rattle.read_types.specs.declared.Lookup.{Lookup}
use Rattle.read_names.specs.Rows.{name_in}
use Rattle.read_scopes.specs.Meanings.{AreaFits, declarations_in, variables_in}
use Rattle.read_lookups.specs.LookUps.{Looked}
use Rattle.read_types.specs.declared.Fault.{Fault}
use Rattle.read_types.specs.Verdicts.{Verdict, test, judged, and_then}
use Rattle.read_types.specs.Types.{expr_judged, LookIs}
use Rattle.read_types.proofs.Verdicts.{lower_last, then-good, test_good}
use Rattle.rules.specs.Syntax.{Program}
use Rattle.rules.specs.Reading.{with_item}
use Rattle.tables.specs.Kinds.{kind_number}
use Rattle.write_rows.specs.Puts.{put_atom, put_row}
use Rattle.tables.specs.Tables.{SideFits, Declared, OperandsFit}
use Rattle.write_rows.specs.Holds as Holds
use Rattle.write_rows.specs.Holds.{AtomOk, access_of, Holds}
use Rattle.write_rows.proofs.Atoms.{atom-names, atom-length}
use Rattle.write_rows.proofs.Rows.{no_field, row-names, row-length}
use Rattle.write_rows.proofs.Statements.{let-written, if-written}
use Rattle.read_declarations.specs.Texts.{SpanAfter}
use Rattle.read_declarations.specs.Declares.{line_with}
use Rattle.read_declarations.proofs.Lines.{second, third}
use Rattle.resolve_pass.specs.Passes.{line_judged}
use Rattle.resolve_atoms.specs.declared.AtomRow.{AtomRow}
use Rattle.resolve_atoms.specs.Good.{atom_judged, atoms_judged}
use Rattle.resolve_atoms.specs.Written.{Resolved, AtomTried}
use Rattle.resolve_atoms.proofs.Sides.{variable-small, compared_is}
use Rattle.resolve_atoms.proofs.Goods.{formula-judged}
use Rattle.write_plain.proofs.Goods.{formed-length}
use Rattle.write_sides.specs.Sides.{one_row, let_judged, may_let, SideFollows, SidePut, SideTried}

-- a condition is no permission
rel-begins : (u : Name) → is_rel u ≡ true → begins_atom u ≡ true
unfolding begins_atom
rel-begins u e = rw e (or-true (is_permit u))

no-permit : (u : Name) → is_rel u ≡ true → is_permit u ≡ false
unfolding Base.opened is_rel is_permit
no-permit u e =
    of-atom-word (λ u. is_rel u ≡ true → is_permit u ≡ false) (λ e. true-false (sym e)) (λ e. true-false (sym e)) (λ e. true-false (sym e)) (λ e. refl) (λ e. refl) u (rel-begins u e) e

no_access : (u a b : Name) → is_rel u ≡ true → atom_of u a b ≡ cmp (rel_of u) (expr_of a) (expr_of b)
unfolding atom_of
no_access u a b e = rw (no-permit u e)

-- THE TESTS OF A LINE THAT HAS ITS FORM
abbrev pub Formed : Statement → List Name → Type 0
Formed a ws = is_formed (form (statement a)).operands (form (statement a)).tail ws ≡ true

let-form : (ws : List Name) → Formed Let ws → is_expr (get_or ws 1 []) ≡ true
unfolding Grammar.opened
let-form [] e = true-false (sym e)
let-form (u ∷ []) e = true-false (sym (both_true (is_name u) false e).1)
let-form (u ∷ v ∷ ws) e = (both_true (is_expr v) _ (both_true (is_name u) _ e).1).0

-- the fields of a condition
pub record IfForm (u a b : Name) : Type 0 where
  pub form : is_atom u a b ≡ true
  pub compared : atom_of u a b ≡ cmp (rel_of u) (expr_of a) (expr_of b)

pub if-form : (ws : List Name) → Formed If ws → IfForm (get_or ws 0 []) (get_or ws 1 []) (get_or ws 2 [])
unfolding Grammar.opened is_condition is_formula
if-form [] x = true-false (sym x)
if-form (u ∷ []) x = true-false (sym x)
if-form (u ∷ a ∷ []) x = true-false (sym x)
if-form (u ∷ a ∷ b ∷ ws) x =
    let f = both_true (is_rel u) _ (both_true (eqb (length (u ∷ a ∷ b ∷ ws)) 3) _ x).1 in
    record { form = (both_true (is_atom u a b) _ f.1).0; compared = no_access u a b f.0 }

module _ (Γ : Declarations) (vs : List Variable) (s : Scope) where
  let-shuffle :
      (x k o a l : Bool) →
      judged (x && (k && true)) ((o && true) && (a && true)) ((l && true) && true)
      ≡ test x Fault.Undeclared (and_then (judged k o true) (test a Fault.WrongType (test l Fault.WrongTarget (Ok tt))))
  unfolding judged test and_then
  let-shuffle false k o a l = refl
  let-shuffle true false o a l = refl
  let-shuffle true true false a l = refl
  let-shuffle true true true false l = refl
  let-shuffle true true true true false = refl
  let-shuffle true true true true true = refl

  let-two : (ws : List Name) → length ws ≡ 2 → line_judged Γ vs s (line_with (statement Let) ws) ≡ let_judged Γ vs ws
  unfolding Base.all Grammar.opened Scopes.opened Names.all_known Names.known Names.all_typed Names.of_class Names.sides_agree Names.all_assignable Names.may_be_assigned Names.call_apart Names.open_apart formula_of line_judged let_judged expr_judged
  let-two [] e = absurd (omega arith)
  let-two (u ∷ []) e = absurd (omega arith)
  let-two (u ∷ v ∷ []) e =
      let-shuffle (in_scope vs u) (Names.known_expr Γ vs (expr_of v)) (Names.of_class_in Γ vs (expr_of v))
      (agree (some (variable_type vs u)) (expr_type Γ vs (expr_of v))) (is_local (variable_number vs u))
  let-two (u ∷ v ∷ x ∷ ws) e = absurd (omega arith)

  let-judged : (ws : List Name) → Formed Let ws → line_judged Γ vs s (line_with (statement Let) ws) ≡ let_judged Γ vs ws
  unfolding Grammar.opened
  let-judged ws e = let-two ws (formed-length (form (statement Let)).operands ws e)

  if-judged :
      (ws : List Name) → Formed If ws →
      line_judged Γ vs s (line_with (statement If) ws) ≡ atom_judged Γ vs (atom_of (get_or ws 0 []) (get_or ws 1 []) (get_or ws 2 []))
  unfolding Grammar.opened is_condition formula_of atoms_judged line_judged
  if-judged [] x = true-false (sym x)
  if-judged (u ∷ []) x = true-false (sym x)
  if-judged (u ∷ a ∷ []) x = true-false (sym x)
  if-judged (u ∷ a ∷ b ∷ []) x = formula-judged Γ vs s (line_with (statement If) (u ∷ a ∷ b ∷ [])) refl ∙ lower_last (atom_judged Γ vs (atom_of u a b))
  if-judged (u ∷ a ∷ b ∷ d ∷ ws) x =
      let z : length (u ∷ a ∷ b ∷ d ∷ ws) ≡ 3 = eqb-true _ 3 (both_true (eqb (length (u ∷ a ∷ b ∷ d ∷ ws)) 3) _ x).0 in
      absurd (omega (arith, z))

-- THE ROW
one_ok : (D : Declared) (k x n l : ℕ) → (k ≡ 9) ⊎ (k ≡ 15) → x < frame_variables → OperandsFit D (n + 1) (one_row k x n l)
one_ok D k x n l o s =
    let b : (9 ≤ k) × (k ≤ 15) = ⊎_elim (λ e. omega arith) (λ e. omega arith) o in
    record {
      kind = omega (arith, b);
      x = s;
      y = omega arith;
      z = omega arith;
      field = no_field k (omega (arith, b), omega (arith, b));
      class = λ e. absurd (⊎_elim (λ z. omega arith) (λ z. omega arith) o);
      method = λ e. absurd (⊎_elim (λ z. omega arith) (λ z. omega arith) o);
      atoms = omega arith;
      one_atom = λ e. refl;
      condition = λ e. absurd (omega (arith, b));
    }

-- the condition of an atom that is compared
condition : Atom ℕ → Stmt
condition (own k x f) = end
condition (cmp n a b) = if n a b

condition-is :
    (k : ℕ) (l r : Tables.Expr) (n : Rel) (p q : Expr ℕ) → Holds.atom_of k l r ≡ cmp n p q →
    if (Decode.rel_of k) (meaning l) (meaning r) ≡ if n p q
unfolding Holds.atom_of condition access_of
condition-is k l r n p q e = go (Decode.is_permission k) e
  where
    none : (x f : ℕ) → own (Decode.permit_of k) x f ≡ cmp n p q → ⊥
    none x f i = let z : ◌≡◌ {A = ℕ} 0 1 = cc in omega arith

    not-accessed : (l : Tables.Expr) → access_of (Decode.permit_of k) l ≡ cmp n p q → ⊥
    not-accessed (Tables.Expr.Num m) i = none _ _ i
    not-accessed Tables.Expr.Null i = none _ _ i
    not-accessed (Tables.Expr.Var x) i = none _ _ i
    not-accessed (Tables.Expr.Path x f) i = none _ _ i

    go :
        (b : Bool) → cond b (access_of (Decode.permit_of k) l) (cmp (Decode.rel_of k) (meaning l) (meaning r)) ≡ cmp n p q →
        if (Decode.rel_of k) (meaning l) (meaning r) ≡ if n p q
    go true i = absurd (not-accessed l i)
    go false i = ap condition i

module _ (t w : List ℕ) (c : Counts.Names) (r i n l : ℕ) (ready : AreaFits w c) (few : i < most_statements) where
  abbrev Γ : Declarations
  Γ = declarations_in t w c

  abbrev vs : List Variable
  vs = variables_in t w c

  abbrev ws : List Name
  ws = more (drop r t)

  -- the atom n and the row i are written
  module _ (room : n < most_atom_rows) (k x : ℕ) (a : ℕ) (p q : Tables.Expr) (atom : AtomOk a p q) {u v : List ℕ}
      (e : u ≡ put_atom w n a p q) (f : v ≡ put_row u i (one_row k x n l)) where
    size-first : length u ≡ length w
    size-first = ap length e ∙ atom-length w n a p q ready.whole room atom

    names-kept : Kept names_at work_bytes w v
    names-kept j b d =
        ap (λ z. byte_at z j) f
        ∙ (row-names u i (one_row k x n l) (size-first ∙ ready.whole) few j b d
        ∙ (ap (λ z. byte_at z j) e ∙ atom-names w n a p q ready.whole room atom j b d))

    size-kept : length v ≡ length w
    size-kept = ap length f ∙ (row-length u i (one_row k x n l) (size-first ∙ ready.whole) few ∙ size-first)

    stored : (F : Program) → length F.rows ≡ i → put_row (put_atom w n a p q) (length F.rows) (one_row k x n l) ≡ v
    stored F j = sym (f ∙ (λ z. put_row (e z) (sym j z) (one_row k x n l)))

  -- LET
  module _ (y : SideFollows Let t r n) where
    pub let-formed : is_expr (get_or ws 1 []) ≡ true
    let-formed = let-form ws y.formed

    module _ {a b : Span} {u v : Name} {x : ℕ} {e : Lookup} (p : SpanAfter t r a) (p2 : SpanAfter t (a.start + a.len) b) (eu : u ≡ name_in t a)
        (ev : v ≡ name_in t b) (hx : Looked t w vs u x) (he : LookIs t Γ vs (expr_of v) e) {g : Verdict}
        (answer : g ≡ may_let t w x e) where
      X : Looked t w vs (get_or ws 0 []) x
      X = subst (λ z. Looked t w vs z x) (eu ∙ p.name) hx

      E : LookIs t Γ vs (expr_of (get_or ws 1 [])) e
      E = subst (λ z. LookIs t Γ vs (expr_of z) e) (ev ∙ second p p2) he

      let-is : g ≡ let_judged Γ vs ws
      unfolding let_judged
      let-is =
          answer
          ∙ (λ j.
          test (sym X.known j) Fault.Undeclared
          (and_then (E.verdict j)
          (test (agree (some (sym X.type j)) (E.is j)) Fault.WrongType (test (is_local (X.number j)) Fault.WrongTarget (Ok tt)))))

      pub let-bad : {f : Fault} → g ≡ Err f → SideTried Let t w c r i n l w (Err f)
      unfolding SideTried
      let-bad f = (λ s. let-judged Γ vs s ws y.formed ∙ (sym let-is ∙ f), refl)

      module _ (fits : g ≡ Ok tt) where
        let-known : (in_scope vs (get_or ws 0 []) ≡ true) × (expr_judged Γ vs (expr_of (get_or ws 1 [])) ≡ Ok tt)
        unfolding let_judged
        let-known =
            let k = test_good (in_scope vs (get_or ws 0 [])) Fault.Undeclared _ (sym let-is ∙ fits) in
            (k.0, (then-good (expr_judged Γ vs (expr_of (get_or ws 1 []))) _ k.1).0)

        pub let-variable : x < frame_variables
        let-variable = omega (arith, X.number, variable-small t w c ready.fits (get_or ws 0 []) let-known.0)

        pub let-atom : AtomOk eq_atom Tables.Expr.Null e.expr
        unfolding meaning SideFits
        let-atom =
            let g = let-known.1 in
            let o = (compared_is t w c ready.fits AtomKind.Eq (get_or ws 1 []) (get_or ws 1 []) e.expr e.expr (omega arith) g g E.expr E.expr).ok in
            record { least = omega arith; kind = omega arith; left = tt; right = o.right; access = λ z. absurd (omega arith) }

        let-put :
            {q z : List ℕ} → q ≡ put_atom w n eq_atom Tables.Expr.Null e.expr → z ≡ put_row q i (one_row 9 x n l) → SidePut Let t w c r i n l z (n + 1)
        unfolding item_of Items.resolve_statement Scopes.operand
        let-put d f =
            record {
              count = refl;
              built = λ D F j h.
                  subst (λ z. Holds D z (with_item F l (item_of Γ vs (statement Let) (line_with (statement Let) ws))) (n + 1))
                  (stored y.room 9 x eq_atom Tables.Expr.Null e.expr let-atom d f F j)
                  (subst (λ z. Holds D (put_row (put_atom w n eq_atom Tables.Expr.Null e.expr) (length F.rows) (one_row 9 x n l)) (with_item F l z) (n + 1))
                  (λ z. a_statement (simple (assign (X.number z) (E.expr z))))
                  (let-written D w F n eq_atom Tables.Expr.Null e.expr (one_row 9 x n l) y.room (omega (arith, j, few)) let-atom
                  (one_ok D 9 x n l (inl refl) let-variable) refl h refl));
              names = names-kept y.room 9 x eq_atom Tables.Expr.Null e.expr let-atom d f;
              size = size-kept y.room 9 x eq_atom Tables.Expr.Null e.expr let-atom d f;
            }

        pub let-done :
            {q z : List ℕ} → q ≡ put_atom w n eq_atom Tables.Expr.Null e.expr → z ≡ put_row q i (one_row 9 x n l) →
            SideTried Let t w c r i n l z (Ok (n + 1))
        unfolding SideTried
        let-done d f = (λ s. let-judged Γ vs s ws y.formed ∙ (sym let-is ∙ fits), let-put d f)

  -- IF
  module _ (y : SideFollows If t r n) where
    if-formed : IfForm (get_or ws 0 []) (get_or ws 1 []) (get_or ws 2 [])
    if-formed = if-form ws y.formed

    abbrev atom : Atom Name
    atom = atom_of (get_or ws 0 []) (get_or ws 1 []) (get_or ws 2 [])

    if-put :
        (s : AtomRow) {u v : List ℕ} → Resolved Γ vs atom s → u ≡ put_atom w n (kind_number s.kind) s.left s.right →
        v ≡ put_row u i (one_row 15 0 n l) → SidePut If t w c r i n l v (n + 1)
    unfolding item_of Items.resolve_statement Items.resolve_if Scopes.operand resolve_atom
    if-put s o e f =
        let means =
        condition-is (kind_number s.kind) s.left s.right _ _ _ (o.is ∙ ap (resolve_atom Γ vs) if-formed.compared) in
        record {
          count = refl;
          built = λ D F j h.
              subst (λ z. Holds D z (with_item F l (item_of Γ vs (statement If) (line_with (statement If) ws))) (n + 1))
              (stored y.room 15 0 (kind_number s.kind) s.left s.right o.ok e f F j)
              (subst (λ z. Holds D (put_row (put_atom w n (kind_number s.kind) s.left s.right) (length F.rows) (one_row 15 0 n l)) (with_item F l (a_statement z)) (n + 1))
              means
              (if-written D w F n (kind_number s.kind) s.left s.right (one_row 15 0 n l) y.room (omega (arith, j, few)) o.ok
              (one_ok D 15 0 n l (inr refl) (omega arith)) refl h refl));
          names = names-kept y.room 15 0 (kind_number s.kind) s.left s.right o.ok e f;
          size = size-kept y.room 15 0 (kind_number s.kind) s.left s.right o.ok e f;
        }

    pub if-kind :
        {a : Span} {u : Name} {b : ℕ} (o : Option AtomKind) → SpanAfter t r a → u ≡ name_in t a → b ≡ get_or u 0 0 → Begins b o → IsSome o
    if-kind {a} {u} {b} o p eu eb h =
        let e : u ≡ get_or ws 0 [] = eu ∙ p.name in
        let w : begins_atom u ≡ true = subst (λ z. begins_atom z ≡ true) (sym e) (atom-begins _ _ _ if-formed.form) in
        kind-there b o h (ap begins_atom (ap (λ b. atom_word (begun_by b)) eb ∙ word-told u w) ∙ w)

    -- the word by the kind that its first letter tells
    pub if_word : {a : Span} {u : Name} {k : ℕ} → SpanAfter t r a → u ≡ name_in t a → k ≡ begun_by (get_or u 0 0) → atom_word k ≡ name_in t a
    if_word {a} {u} {k} p eu ek =
        let e : u ≡ get_or ws 0 [] = eu ∙ p.name in
        ap atom_word ek ∙ (word-told u (subst (λ z. begins_atom z ≡ true) (sym e) (atom-begins _ _ _ if-formed.form)) ∙ eu)

    module _ {a b d : Span} {u x z : Name} (p : SpanAfter t r a) (p2 : SpanAfter t (a.start + a.len) b) (p3 : SpanAfter t (b.start + b.len) d)
        (eu : u ≡ name_in t a) (ex : x ≡ name_in t b) (ez : z ≡ name_in t d) where
      pub if-atom : is_atom u x z ≡ true
      if-atom = (λ j. is_atom ((eu ∙ p.name) j) ((ex ∙ second p p2) j) ((ez ∙ third p p2 p3) j)) ∙ if-formed.form

      atom-is : atom_of u x z ≡ atom
      atom-is j = atom_of ((eu ∙ p.name) j) ((ex ∙ second p p2) j) ((ez ∙ third p p2 p3) j)

      pub if-bad : (q : Result AtomRow Fault) {f : Fault} → q ≡ Err f → AtomTried Γ vs (atom_of u x z) q → SideTried If t w c r i n l w (Err f)
      unfolding SideTried AtomTried
      if-bad q {f} e h =
          let g : atom_judged Γ vs (atom_of u x z) ≡ Err f = subst (AtomTried Γ vs (atom_of u x z)) e h in
          (λ s. if-judged Γ vs s ws y.formed ∙ (ap (atom_judged Γ vs) (sym atom-is) ∙ g), refl)

      module _ (q : Result AtomRow Fault) (s : AtomRow) (e : q ≡ Ok s) (h : AtomTried Γ vs (atom_of u x z) q) where
        if-row : (atom_judged Γ vs (atom_of u x z) ≡ Ok tt) × Resolved Γ vs (atom_of u x z) s
        unfolding AtomTried
        if-row = subst (AtomTried Γ vs (atom_of u x z)) e h

        pub if_ok : AtomOk (kind_number s.kind) s.left s.right
        if_ok = if-row.1.ok

        pub if-done :
            {f v : List ℕ} → f ≡ put_atom w n (kind_number s.kind) s.left s.right → v ≡ put_row f i (one_row 15 0 n l) →
            SideTried If t w c r i n l v (Ok (n + 1))
        unfolding SideTried
        if-done k m = (
          λ s. if-judged Γ vs s ws y.formed ∙ (ap (atom_judged Γ vs) (sym atom-is) ∙ if-row.0),
          if-put s (subst (λ z. Resolved Γ vs z s) atom-is if-row.1) k m,
        )
