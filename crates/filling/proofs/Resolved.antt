-- The line with a set in the place of its star passes 6, 7 and 9, and its item is the formula of the set's atoms.
use mathlib.Core.Path.{◌≡◌, refl, ap, ◌∙◌}
use mathlib.Core.Bool.{Bool, true, not}
use mathlib.Core.List.{List, [], ◌∷◌, map}
use Prim.Native.Nat.{ℕ}
use lib.Dec.{T}
use Rattle.rules.specs.Base.{ok, all}
use Rattle.rules.specs.Base as Base
use Rattle.rules.specs.Answers.{undeclared, wrong_type, wrong_target}
use Rattle.rules.specs.Syntax.{Atom, own, acc}
use Rattle.rules.specs.Syntax as Syntax
use Rattle.rules.specs.Text.{formula_of}
use Rattle.rules.specs.Text as Text
use Rattle.rules.specs.Grammar.{variable, member, read, field}
use Rattle.rules.specs.Grammar as Grammar
use Rattle.rules.specs.Scope.{Declarations, Variable, Scope, Slot, atom_slots}
use Rattle.rules.specs.Scope as Scope
use Rattle.rules.specs.Names.{in_scope, is_int, variable_number, field_number, known_field, atom_agrees, all_known, all_typed, all_assignable}
use Rattle.rules.specs.Names as Names
use Rattle.rules.specs.Items.{resolve_atom, resolve_atoms, resolve_formula, resolve_line, item_of, a_requires}
use Rattle.rules.specs.Reading.{framed, framed_item}
use Rattle.rules.specs.Reading as Reading
use Rattle.rules.specs.Fill.{Access, atom_words}
use Rattle.rules.proofs.Lists.{and_intro}
use Rattle.rules.proofs.Tries.{pass}
use Rattle.filling.proofs.Listed.{All}
use Rattle.filling.proofs.Words.{Named, requires_of}

-- an atom that may stand there
pub record Good (Γ : Declarations) (vs : List Variable) (α : Access) : Type 0 where
  pub named : Named α
  pub in-scope : T (in_scope vs α.variable)
  pub known : T (known_field Γ vs α.variable α.field)
  pub of-class : T (not (is_int vs α.variable))

-- its atom
abbrev pub atom_of : Declarations → List Variable → Access → Atom ℕ
atom_of Γ vs α = own acc (variable_number vs α.variable) (field_number Γ α.field)

pub named-all : (Γ : Declarations) (vs : List Variable) (αs : List Access) → All (Good Γ vs) αs → All Named αs
named-all Γ vs [] h = tt
named-all Γ vs (α ∷ αs) (g, h) = (g.named, named-all Γ vs αs h)

-- a test of both names of an atom
module _ (t : Slot → Bool) where
  abbrev Passes : Access → Type 0
  Passes α =
      T (t (record { operand = variable read; before = []; name = α.variable }))
      × T (t (record { operand = member field; before = α.variable; name = α.field }))

  slots-pass : (αs : List Access) → All Passes αs → T (all t (atom_slots (atom_words αs)))
  unfolding atom_words Scope.opened Text.opened Base.opened
  slots-pass [] h = tt
  slots-pass (α ∷ αs) ((x, y), h) =
      and_intro (t (record { operand = variable read; before = []; name = α.variable })) _ x
      (and_intro (t (record { operand = member field; before = α.variable; name = α.field })) _ y (slots-pass αs h))

module _ (Γ : Declarations) (vs : List Variable) (s : Scope) where
  passes-known : (αs : List Access) → All (Good Γ vs) αs → T (all_known Γ vs s (requires_of αs))
  unfolding all_known Scope.opened Grammar.opened Names.known
  passes-known αs h = slots-pass _ αs (both αs h)
    where
      both : (αs : List Access) → All (Good Γ vs) αs → All (λ (α : Access). T (in_scope vs α.variable) × T (known_field Γ vs α.variable α.field)) αs
      both [] h = tt
      both (α ∷ αs) (g, h) = ((g.in-scope, g.known), both αs h)

  agrees : (αs : List Access) → T (all (atom_agrees Γ vs) (formula_of (atom_words αs)))
  unfolding atom_agrees atom_words Text.opened Base.opened Syntax.is_path
  agrees [] = tt
  agrees (α ∷ αs) = agrees αs

  passes-typed : (αs : List Access) → All (Good Γ vs) αs → T (all_typed Γ vs (requires_of αs))
  unfolding all_typed Scope.opened Grammar.opened Names.of_class Names.sides_agree
  passes-typed αs h = and_intro (all _ (atom_slots (atom_words αs))) _ (slots-pass _ αs (both αs h)) (agrees αs)
    where
      both : (αs : List Access) → All (Good Γ vs) αs → All (λ (α : Access). Unit {0} × T (not (is_int vs α.variable))) αs
      both [] h = tt
      both (α ∷ αs) (g, h) = ((tt, g.of-class), both αs h)

  passes-assignable : (αs : List Access) → T (all_assignable vs (requires_of αs))
  unfolding all_assignable Scope.opened Grammar.opened Names.may_be_assigned Names.call_apart Names.open_apart
  passes-assignable αs = and_intro (all _ (atom_slots (atom_words αs))) _ (slots-pass _ αs (both αs)) tt
    where
      both : (αs : List Access) → All (λ (α : Access). Unit {0} × Unit {0}) αs
      both [] = tt
      both (α ∷ αs) = ((tt, tt), both αs)

  words-resolved : (αs : List Access) → map (resolve_atom Γ vs) (formula_of (atom_words αs)) ≡ map (atom_of Γ vs) αs
  unfolding resolve_atom atom_words Text.opened Base.opened
  words-resolved [] = refl
  words-resolved (α ∷ αs) = ap (λ r. atom_of Γ vs α ∷ r) (words-resolved αs)

-- THE LINE
pub line-resolved :
    (Γ : Declarations) (s : Scope) (αs : List Access) → All (Good Γ s.block.variables) αs →
    resolve_line Γ s (requires_of αs) ≡ ok (a_requires (map (atom_of Γ s.block.variables) αs))
unfolding resolve_line item_of resolve_formula resolve_atoms Scope.opened Grammar.opened
line-resolved Γ s αs h =
    let vs : List Variable = s.block.variables in
    pass (all_known Γ vs s (requires_of αs)) undeclared _ (passes-known Γ vs s αs h)
    ∙ pass (all_typed Γ vs (requires_of αs)) wrong_type _ (passes-typed Γ vs s αs h)
    ∙ pass (all_assignable vs (requires_of αs)) wrong_target _ (passes-assignable Γ vs s αs)
    ∙ ap (λ φ. ok (a_requires φ)) (words-resolved Γ vs s αs)

-- NUMBER 10: an acc asks for none before it
pub atoms-framed : (Γ : Declarations) (vs : List Variable) (αs : List Access) → framed_item (a_requires (map (atom_of Γ vs) αs)) ≡ true
unfolding framed_item framed
atoms-framed Γ vs αs = go αs []
  where
    go : (αs : List Access) (before : List Reading.Access) → framed before (map (atom_of Γ vs) αs) ≡ true
    go [] before = refl
    go (α ∷ αs) before = go αs _
