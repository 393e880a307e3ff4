-- What the tests of 6, 7 and 9 say of a line of atoms alone is what those of 6 and 7 say of its atoms.
use Rattle.std.proofs.Common.{Ok}
use mathlib.Core.Path.{◌≡◌, refl, sym, ap, ◌∙◌}
use mathlib.Core.Bool.{Bool, true, false, not, cond, ◌&&◌, ◌||◌}
use mathlib.Core.List.{List, [], ◌∷◌, ◌++◌}
use Prim.Native.Nat.{ℕ}
use native.Mathlib.Omega.{arith}
use lib.Dec.{T, leb}
use lib.ListN.{length, drop}
use Rattle.rules.specs.Base.{Name, all}
use Rattle.rules.specs.Syntax.{is_path, own, cmp}
use Rattle.rules.specs.Text.{expr_of, rel_of, is_permit, permit_of, atom_of, formula_of}
use Rattle.rules.specs.Grammar as Grammar
use Rattle.rules.specs.Grammar.{Kind, Line, Operand, kinds, form, variable, member, expression, read, field}
use Rattle.rules.specs.Scope.{Declarations, Variable, Scope, Slot, slots_from, atom_operands, atom_slots, atoms_of, slots}
use Rattle.rules.specs.Names.{agree, expr_type, known, of_class, may_be_assigned, known_expr, of_class_in, known_field, in_scope, is_int, sides_agree, chains, atom_agrees, call_apart, open_apart, all_known, all_typed, all_assignable}
use Rattle.rules.proofs.LineKinds.{every-kind}
use Rattle.read_types.specs.declared.Fault.{Fault}
use Rattle.read_types.specs.Verdicts.{test, judged, and_then, lower}
use Rattle.read_types.specs.Types.{expr_judged}
use Rattle.read_types.proofs.Verdicts.{lower-judged, then_typed}
use Rattle.resolve_atoms.specs.Good.{atom_judged, atoms_judged}

-- TESTS IN ANOTHER ORDER
and_assoc : (a b c : Bool) → ((a && b) && c) ≡ (a && (b && c))
and_assoc true b c = refl
and_assoc false b c = refl

and-swap : (p t r : Bool) → (p && (t && r)) ≡ (t && (p && r))
and-swap true t r = refl
and-swap false true r = refl
and-swap false false r = refl

access-order :
    (a b d p k t r : Bool) →
    judged (a && (b && k)) ((d && t) && (p && r)) true
    ≡ lower (and_then (judged (a && b) d true) (test p Fault.WrongType (Ok tt))) (judged k (t && r) true)
access-order a b d p k t r =
    sym
    (ap (λ v. lower v (judged k (t && r) true)) (then_typed (a && b) d p)
    ∙ (lower-judged (a && b) (d && p) true k (t && r) true ∙ (λ j. judged (and_assoc a b k j) (types d j) true)))
  where
    types : (d : Bool) → ((d && p) && (t && r)) ≡ ((d && t) && (p && r))
    types true = and-swap p t r
    types false = refl

compared-order :
    (a b d e g k t r : Bool) →
    judged (a && (b && k)) ((d && (e && t)) && (g && r)) true
    ≡ lower (and_then (lower (judged a d true) (judged b e true)) (test g Fault.WrongType (Ok tt))) (judged k (t && r) true)
compared-order a b d e g k t r =
    sym
    (ap (λ v. lower (and_then v (test g Fault.WrongType (Ok tt))) (judged k (t && r) true)) (lower-judged a d true b e true)
    ∙ (ap (λ v. lower v (judged k (t && r) true)) (then_typed (a && b) (d && e) g)
    ∙ (lower-judged (a && b) ((d && e) && g) true k (t && r) true ∙ (λ j. judged (and_assoc a b k j) (types d e j) true))))
  where
    types : (d e : Bool) → (((d && e) && g) && (t && r)) ≡ ((d && (e && t)) && (g && r))
    types true true = and-swap g t r
    types true false = refl
    types false e = refl

module _ (Γ : Declarations) (vs : List Variable) (s : Scope) where
  -- tests of 6, 7 and 9 of a field
  abbrev known_slot : Slot → Bool
  known_slot x = known Γ vs s x.operand x.before x.name

  abbrev typed_slot : Slot → Bool
  typed_slot x = of_class Γ vs x.operand x.before x.name

  abbrev assignable_slot : Slot → Bool
  assignable_slot x = may_be_assigned vs x.operand x.name

  atom-judged :
      (q : Bool) (u a b : Name) (xs : List Slot) (r : Bool) →
      judged
      (all known_slot (slots_from [] (cond q (variable read ∷ member field ∷ []) (expression ∷ expression ∷ [])) (a ∷ b ∷ []) ++ xs))
      (all typed_slot (slots_from [] (cond q (variable read ∷ member field ∷ []) (expression ∷ expression ∷ [])) (a ∷ b ∷ []) ++ xs)
      && (atom_agrees Γ vs (cond q (own (permit_of u) a b) (cmp (rel_of u) (expr_of a) (expr_of b))) && r))
      true
      ≡ lower (atom_judged Γ vs (cond q (own (permit_of u) a b) (cmp (rel_of u) (expr_of a) (expr_of b))))
      (judged (all known_slot xs) (all typed_slot xs && r) true)
  unfolding slots_from all known of_class atom_agrees atom_judged expr_judged known_expr of_class_in
  atom-judged true u a b xs r =
      access-order (in_scope vs a) (known_field Γ vs a b) (not (is_int vs a)) (is_path (permit_of u) || chains Γ vs a b) (all known_slot xs) (all typed_slot xs) r
  atom-judged false u a b xs r =
      compared-order (known_expr Γ vs (expr_of a)) (known_expr Γ vs (expr_of b)) (of_class_in Γ vs (expr_of a)) (of_class_in Γ vs (expr_of b))
      (agree (expr_type Γ vs (expr_of a)) (expr_type Γ vs (expr_of b))) (all known_slot xs) (all typed_slot xs) r

  atoms-judged :
      (ws : List Name) →
      judged (all known_slot (atom_slots ws)) (all typed_slot (atom_slots ws) && all (atom_agrees Γ vs) (formula_of ws)) true
      ≡ atoms_judged Γ vs (formula_of ws)
  unfolding atom_slots atom_operands formula_of atom_of all atoms_judged judged test
  atoms-judged [] = refl
  atoms-judged (u ∷ []) = refl
  atoms-judged (u ∷ a ∷ []) = refl
  atoms-judged (u ∷ a ∷ b ∷ ws) =
      atom-judged (is_permit u) u a b (atom_slots ws) (all (atom_agrees Γ vs) (formula_of ws))
      ∙ ap (lower (atom_judged Γ vs (atom_of u a b))) (atoms-judged ws)

  -- atoms assign nothing
  atom-assigns :
      (q : Bool) (a b : Name) (xs : List Slot) →
      all assignable_slot (slots_from [] (cond q (variable read ∷ member field ∷ []) (expression ∷ expression ∷ [])) (a ∷ b ∷ []) ++ xs)
      ≡ all assignable_slot xs
  unfolding slots_from all may_be_assigned
  atom-assigns true a b xs = refl
  atom-assigns false a b xs = refl

  atoms-assign : (ws : List Name) → all assignable_slot (atom_slots ws) ≡ true
  unfolding atom_slots atom_operands all
  atoms-assign [] = refl
  atoms-assign (u ∷ []) = refl
  atoms-assign (u ∷ a ∷ []) = refl
  atoms-assign (u ∷ a ∷ b ∷ ws) = atom-assigns (is_permit u) a b (atom_slots ws) ∙ atoms-assign ws

  -- a test that finds each kind with operands, or holds of it, holds of a kind without
  without-operands : (t : Kind → Bool) → T (all (λ k. leb 1 (length (form k).operands) || t k) kinds) → (k : Kind) → (form k).operands ≡ [] → t k ≡ true
  without-operands t h k e = go (form k).operands (t k) e (every-kind (λ k. leb 1 (length (form k).operands) || t k) h k)
    where
      go : (os : List Operand) (b : Bool) → os ≡ [] → T (leb 1 (length os) || b) → b ≡ true
      go [] true e h = refl
      go [] false e h = absurd h
      go (o ∷ os) b e h = let z : ◌≡◌ {A = ℕ} 0 1 = cc in absurd (omega arith)

  -- so it has no sides, calls nothing and opens nothing
  no_sides : (k : Kind) (ws : List Name) → (form k).operands ≡ [] → sides_agree Γ vs (record { kind = k; fields = ws }) ≡ true
  unfolding Grammar.opened all sides_agree
  no_sides k ws e = without-operands (λ k. sides_agree Γ vs (record { kind = k; fields = ws })) tt k e

  no_call : (k : Kind) (ws : List Name) → (form k).operands ≡ [] → let l : Line = record { kind = k; fields = ws } in (call_apart vs l && open_apart vs l) ≡ true
  unfolding Grammar.opened all call_apart open_apart
  no_call k ws e = without-operands (λ k. let l : Line = record { kind = k; fields = ws } in call_apart vs l && open_apart vs l) tt k e

  -- `requires`, `ensures`, `assert`, `release`, `join`, `if`
  pub formula-judged :
      (l : Line) → (form l.kind).operands ≡ [] →
      judged (all_known Γ vs s l) (all_typed Γ vs l) (all_assignable vs l) ≡ atoms_judged Γ vs (formula_of l.fields)
  unfolding all_known all_typed all_assignable slots atoms_of slots_from
  formula-judged l e =
      let y : slots l ≡ atom_slots l.fields =
      ap (λ os. slots_from [] os l.fields ++ atom_slots (drop (length os) l.fields)) e in
      let z : atoms_of l ≡ l.fields = ap (λ os. drop (length os) l.fields) e in
      rw (y, z, no_sides l.kind l.fields e, no_call l.kind l.fields e, atoms-assign l.fields) (atoms-judged l.fields)
