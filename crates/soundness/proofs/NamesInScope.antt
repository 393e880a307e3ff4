-- What the tests of a line's names say of the numbers that these names get.
use mathlib.Core.Path.{◌≡◌, refl, subst}
use mathlib.Core.Bool.{Bool, true, false, not, cond, ◌&&◌}
use mathlib.Core.List.{List, [], ◌∷◌, map}
use mathlib.Core.Logic.{⊎_elim}
use Prim.Native.Nat.{ℕ, zero, suc, ◌≤◌, ◌<◌}
use native.Mathlib.Omega.{arith}
use lib.Dec.{T, T_not, eqb, eqb_refl, leb, leb→le}
use lib.ListN.{length, get_or}
use Rattle.rules.specs.Base.{Name, bytes, is, eq_name, any, all, Member}
use Rattle.rules.specs.Base as Base
use Rattle.rules.specs.Syntax.{Expr, Formula, first_local, num, null, var, path, own, cmp}
use Rattle.rules.specs.Text.{reserved, is_rel, rel_of, is_permit, permit_of, expr_of, atom_of, formula_of}
use Rattle.rules.specs.Grammar.{Space, Use, Operand, Tail, Line, statement, Call, Open, form, is_kind, is_operand, is_formed}
use Rattle.rules.specs.Grammar.{read, assigned, field, new, type_name, variable, member, expression}
use Rattle.rules.specs.Scope.{Declarations, Variable, Scope, Slot, operand, declared_in, slots_from, atom_operands, atom_slots, atoms_of, slots}
use Rattle.rules.specs.Names.{missing_variable, is_local, in_scope, look_up, variable_number, known_expr, known, all_known, may_be_assigned, call_apart, open_apart, all_assignable}
use Rattle.rules.specs.Items.{resolve_expr, resolve_atom, resolve_atoms, resolve_formula}
use Rattle.rules.proofs.Lists.{any-in, or_cases, and_both, all_append, first_member, name-same, same_name}
use Rattle.soundness.specs.WellFormed.{TermOver, Over}
use Rattle.rules.proofs.LinesTaken.{HasForm}

-- OPERANDS: a test that passes at each field of a line passes at the i-th, with the operand that the line's kind has there
module _ (t : Slot → Bool) where
  slot-passes :
      (v : Name) (os : List Operand) (z : Tail) (ws : List Name) (i : ℕ) → i < length os → T (is_formed os z ws) →
      T (all t (slots_from v os ws)) → (u : Name) × T (t (record { operand = get_or os i type_name; before = u; name = get_or ws i [] }))
  unfolding is_formed slots_from all
  slot-passes v [] z ws i l f a = absurd (omega arith)
  slot-passes v (o ∷ os) z [] i l f a = absurd f
  slot-passes v (o ∷ os) z (w ∷ ws) zero l f a = (v, (and_both (t _) _ a).0)
  slot-passes v (o ∷ os) z (w ∷ ws) (suc i) l f a =
      slot-passes w os z ws i (omega arith) (and_both (is_operand o w) _ f).1 (and_both (t _) _ a).1

  operand-passes :
      (l : Line) (i : ℕ) → i < length (form l.kind).operands → HasForm l → T (all t (slots l)) →
      (u : Name) × T (t (record { operand = get_or (form l.kind).operands i type_name; before = u; name = operand l i }))
  unfolding slots operand
  operand-passes l i b f a =
      slot-passes [] (form l.kind).operands (form l.kind).tail l.fields i b f
      (all_append t (slots_from [] (form l.kind).operands l.fields) (atom_slots (atoms_of l)) a).0

-- the tests of a field's name
abbrev known_slot : Declarations → List Variable → Scope → Slot → Bool
known_slot Γ vs s a = known Γ vs s a.operand a.before a.name

abbrev assignable_slot : List Variable → Slot → Bool
assignable_slot vs a = may_be_assigned vs a.operand a.name

-- an operand that is new is not among the names above
pub new_apart :
    (Γ : Declarations) (vs : List Variable) (s : Scope) (l : Line) (i : ℕ) (a : Space) → i < length (form l.kind).operands →
    get_or (form l.kind).operands i type_name ≡ new a → HasForm l → T (all_known Γ vs s l) →
    (g : Name) → Member g (declared_in s a) → operand l i ≡ g → ⊥
unfolding all_known known
new_apart Γ vs s l i a b e f t g j d =
    let w : Name = operand l i in
    let (u, h) = operand-passes (known_slot Γ vs s) l i b f t in
    let h' : T (not (reserved w) && not (any (eq_name w) (declared_in s a))) = subst (λ o. T (known Γ vs s o u w)) e h in
    T_not (any (eq_name w) (declared_in s a)) (and_both (not (reserved w)) _ h').1
    (any-in (eq_name w) (declared_in s a) g j (subst (λ v. T (eq_name w v)) d (name-same w)))

unequal : (a b : ℕ) → T (not (eqb a b)) → a ≡ b → ⊥
unequal a b t e = T_not (eqb a b) t (subst (λ w. T (eqb a w)) e (eqb_refl a))

module _ (vs : List Variable) (l : Line) where
  assignable-both :
      T (all_assignable vs l) → T (all (assignable_slot vs) (slots l)) × T (call_apart vs l) × T (open_apart vs l)
  unfolding all_assignable
  assignable-both t =
      let (a, b) = and_both (all (assignable_slot vs) (slots l)) _ t in
      let (c, d) = and_both (call_apart vs l) (open_apart vs l) b in (a, c, d)

  -- an operand that is assigned is a local
  pub assigned-local :
      (i : ℕ) → i < length (form l.kind).operands → get_or (form l.kind).operands i type_name ≡ variable assigned →
      HasForm l → T (all_assignable vs l) → first_local ≤ variable_number vs (operand l i)
  unfolding may_be_assigned is_local
  assigned-local i b e f t =
      let x : ℕ = variable_number vs (operand l i) in
      let (_, h) = operand-passes (assignable_slot vs) l i b f (assignable-both t).0 in
      let h' : T (is_local x) = subst (λ o. T (may_be_assigned vs o (operand l i))) e h in
      leb→le first_local x (and_both (leb first_local x) _ h').0

  -- a call's x is neither its y nor its z
  pub target-apart :
      T (is_kind (statement Call) l.kind) → T (all_assignable vs l) →
      (variable_number vs (operand l 0) ≡ variable_number vs (operand l 1) → ⊥)
      × (variable_number vs (operand l 0) ≡ variable_number vs (operand l 3) → ⊥)
  unfolding call_apart
  target-apart c t =
      let x : ℕ = variable_number vs (operand l 0) in
      ⊎_elim (λ n. absurd (T_not (is_kind (statement Call) l.kind) n c))
      (λ d. let (y, z) = and_both (not (eqb x (variable_number vs (operand l 1)))) _ d in (unequal x _ y, unequal x _ z))
      (or_cases (not (is_kind (statement Call) l.kind)) _ (assignable-both t).1)

  -- the y of `open` is not its x
  pub opened-apart :
      T (is_kind (statement Open) l.kind) → T (all_assignable vs l) →
      variable_number vs (operand l 0) ≡ variable_number vs (operand l 1) → ⊥
  unfolding open_apart
  opened-apart c t =
      ⊎_elim (λ n. absurd (T_not (is_kind (statement Open) l.kind) n c)) (λ d. unequal _ _ d)
      (or_cases (not (is_kind (statement Open) l.kind)) _ (assignable-both t).2)

-- a word that compares has two expressions
compares : (w : Name) → T (is_rel w) → atom_operands w ≡ expression ∷ expression ∷ []
unfolding atom_operands is_permit is_rel Base.opened
compares w r =
    ⊎_elim
    (λ e. subst (λ (w : Name). atom_operands w ≡ expression ∷ expression ∷ []) (same_name (bytes "eq") w e) refl)
    (λ e. subst (λ (w : Name). atom_operands w ≡ expression ∷ expression ∷ []) (same_name (bytes "ne") w e) refl)
    (or_cases (is "eq" w) (is "ne" w) r)

-- FORMULAS: where each variable in scope has a number with the property Q, so have those of a formula whose names are known
module _ (Γ : Declarations) (vs : List Variable) (Q : ℕ → Type 0) (has : (v : Variable) → Member v vs → Q v.number) where
  number-has : (x : Name) → T (in_scope vs x) → Q (variable_number vs x)
  unfolding in_scope variable_number look_up
  number-has x h = has (look_up vs x) (first_member _ missing_variable vs h)

  expr-over : (e : Expr Name) → T (known_expr Γ vs e) → TermOver Q (resolve_expr Γ vs e)
  unfolding known_expr resolve_expr
  expr-over (num n) h = tt
  expr-over null h = tt
  expr-over (var x) h = number-has x h
  expr-over (path x f) h = number-has x (and_both (in_scope vs x) _ h).0

  module _ (s : Scope) where
    atom-over :
        (w a b : Name) (φ : Formula ℕ) → T (all (known_slot Γ vs s) (slots_from [] (atom_operands w) (a ∷ b ∷ []))) → Over Q φ →
        Over Q (resolve_atom Γ vs (atom_of w a b) ∷ φ)
    unfolding all slots_from atom_operands known atom_of resolve_atom
    atom-over w a b φ h o = go (is_permit w) h
      where
        go :
            (c : Bool) →
            T
            (all (known_slot Γ vs s)
            (slots_from [] (cond c (variable read ∷ member field ∷ []) (expression ∷ expression ∷ [])) (a ∷ b ∷ []))) →
            Over Q (resolve_atom Γ vs (cond c (own (permit_of w) a b) (cmp (rel_of w) (expr_of a) (expr_of b))) ∷ φ)
        go true h = (number-has a (and_both (in_scope vs a) _ h).0, o)
        go false h =
            let (x, y) = and_both (known_expr Γ vs (expr_of a)) _ h in
            (expr-over (expr_of a) x, expr-over (expr_of b) (and_both (known_expr Γ vs (expr_of b)) _ y).0, o)

    atoms-over : (ws : List Name) → T (all (known_slot Γ vs s) (atom_slots ws)) → Over Q (map (resolve_atom Γ vs) (formula_of ws))
    unfolding atom_slots formula_of
    atoms-over [] h = tt
    atoms-over (w ∷ []) h = tt
    atoms-over (w ∷ a ∷ []) h = tt
    atoms-over (w ∷ a ∷ b ∷ ws) h =
        let (x, y) = all_append (known_slot Γ vs s) (slots_from [] (atom_operands w) (a ∷ b ∷ [])) (atom_slots ws) h in
        atom-over w a b (map (resolve_atom Γ vs) (formula_of ws)) x (atoms-over ws y)

    pub formula-over : (l : Line) → T (all_known Γ vs s l) → Over Q (resolve_formula Γ vs l)
    unfolding all_known slots resolve_atoms resolve_formula
    formula-over l h =
        atoms-over (atoms_of l)
        (all_append (known_slot Γ vs s) (slots_from [] (form l.kind).operands l.fields) (atom_slots (atoms_of l)) h).1

    -- OPERANDS
    pub variable-over :
        (l : Line) (i : ℕ) (u : Use) → i < length (form l.kind).operands → get_or (form l.kind).operands i type_name ≡ variable u →
        HasForm l → T (all_known Γ vs s l) → Q (variable_number vs (operand l i))
    unfolding all_known known
    variable-over l i u b e f h =
        let (v, k) = operand-passes (known_slot Γ vs s) l i b f h in
        number-has (operand l i) (subst (λ o. T (known Γ vs s o v (operand l i))) e k)

    pub expression-over :
        (l : Line) (i : ℕ) → i < length (form l.kind).operands → get_or (form l.kind).operands i type_name ≡ expression →
        HasForm l → T (all_known Γ vs s l) → TermOver Q (resolve_expr Γ vs (expr_of (operand l i)))
    unfolding all_known known
    expression-over l i b e f h =
        let (v, k) = operand-passes (known_slot Γ vs s) l i b f h in
        expr-over (expr_of (operand l i)) (subst (λ o. T (known Γ vs s o v (operand l i))) e k)

    -- A CONDITION, and the atoms after it
    sides-over :
        (w a b : Name) → atom_operands w ≡ expression ∷ expression ∷ [] →
        T (all (known_slot Γ vs s) (slots_from [] (atom_operands w) (a ∷ b ∷ []))) →
        TermOver Q (resolve_expr Γ vs (expr_of a)) × TermOver Q (resolve_expr Γ vs (expr_of b))
    unfolding all slots_from known
    sides-over w a b e h =
        let g = subst (λ (os : List Operand). T (all (known_slot Γ vs s) (slots_from [] os (a ∷ b ∷ [])))) e h in
        let (x, y) = and_both (known_expr Γ vs (expr_of a)) _ g in
        (expr-over (expr_of a) x, expr-over (expr_of b) (and_both (known_expr Γ vs (expr_of b)) _ y).0)

    pub condition-over :
        (w a b : Name) (ws : List Name) → T (is_rel w) → T (all (known_slot Γ vs s) (atom_slots (w ∷ a ∷ b ∷ ws))) →
        TermOver Q (resolve_expr Γ vs (expr_of a)) × TermOver Q (resolve_expr Γ vs (expr_of b))
        × Over Q (map (resolve_atom Γ vs) (formula_of ws))
    unfolding atom_slots
    condition-over w a b ws r h =
        let (x, y) = all_append (known_slot Γ vs s) (slots_from [] (atom_operands w) (a ∷ b ∷ [])) (atom_slots ws) h in
        let (u, v) = sides-over w a b (compares w r) x in (u, v, atoms-over ws y)
