-- What the tests of 6 and 7 say of atoms: whether what they name is declared, and whether their sides agree.
use Rattle.std.specs.Prelude.{Ok, ◌||◌, List, [], ◌∷◌}
use Rattle.rules.specs.Base.{Name}
use Rattle.rules.specs.Syntax.{Atom, Formula, is_path, own, cmp, path}
use Rattle.rules.specs.Scope.{Declarations, Variable}
use Rattle.rules.specs.Names.{agree, expr_type, chains}
use Rattle.read_types.specs.declared.Fault.{Fault}
use Rattle.read_types.specs.Verdicts.{Verdict, test, and_then, lower}
use Rattle.read_types.specs.Types.{expr_judged}

module _ (Γ : Declarations) (vs : List Variable) where
  -- `acc x f`, `read x f` and `chain x f` name what x.f names
  unfoldable pub atom_judged : Atom Name → Verdict
  atom_judged (own k x f) = and_then (expr_judged Γ vs (path x f)) (test (is_path k || chains Γ vs x f) Fault.WrongType (Ok tt))
  atom_judged (cmp n a b) =
      and_then (lower (expr_judged Γ vs a) (expr_judged Γ vs b)) (test (agree (expr_type Γ vs a) (expr_type Γ vs b)) Fault.WrongType (Ok tt))

  unfoldable pub atoms_judged : Formula Name → Verdict
  atoms_judged [] = Ok tt
  atoms_judged (x ∷ φ) = lower (atom_judged x) (atoms_judged φ)
