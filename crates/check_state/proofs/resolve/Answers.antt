use Rattle.check_state.proofs.Whole.{whole}
use Prim.Native.Nat.{ℕ}
use Rattle.check_state.proofs.Entries.{own-kinds, resolve-path}
use Rattle.check_state.specs.Questions.{resolved_as}
use Rattle.check_state.specs.States.{permissions_of, state_of}
use Rattle.check_equality.specs.Keys.{meaning}
use Rattle.rules.specs.Base.{ok}
use Rattle.rules.specs.Syntax.{same}
use mathlib.Core.List.{List}
use mathlib.Core.Path.{◌≡◌, refl, sym, ap, ◌∙◌}
use Rattle.check_equality.specs.declared.Term.{Term}
use Rattle.rules.specs.State as Rules
use Rattle.rules.specs.State.{Permission, Equality, equal_in}
use Rattle.check_state.proofs.resolve.Goals as goal

-- not a path
rest : (e : Term) → ((x f : ℕ) → e ≡ Term.Path x f → ⊥) → (same : Equality) (ps : List Permission) →
    ok (meaning e) ≡ Rules.resolve same ps (meaning e)
unfolding Rules.resolve meaning
rest (Term.Num n) k same ps = refl
rest Term.Null k same ps = refl
rest (Term.Var x) k same ps = refl
rest (Term.Path x f) k same ps = absurd (k x f refl)

pub returns-in_default : goal.returns-in_default
unfolding resolved_as
returns-in_default c = ap ok c.key_of.ensures ∙ rest _ c.in_default.not-Path _ _

pub returns : goal.returns
unfolding meaning
returns c =
    c.path_at.ensures
    ∙ resolve-path _ _ _ _ _ _ (whole c.args.known.now.sound).kinds (whole c.args.known.now.sound).fit (own-kinds c.args.known.now.bytes (whole c.args.known.now.sound).linked.size) (rw c.variable_key-k.ensures.0 at c.listed_entry.ensures)
    ∙ ap (λ (t : Term). Rules.resolve (equal_in (state_of c.args.known.now.keys c.args.known.now.bytes)) (permissions_of c.args.known.now.bytes) (meaning t)) (sym c.in-Path.is)
