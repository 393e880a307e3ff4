use Rattle.check_formulas.proofs.Atoms.{atom-own, atom-relation}
use Rattle.check_entailment.specs.Answers.{ShowsAtom}
use Rattle.rules.specs.Syntax.{Atom}
use Rattle.rules.specs.Rules.{actual}
use Prim.Native.Nat.{ℕ}
use mathlib.Core.Path.{ap, ◌∙◌, subst}
use Rattle.check_formulas.proofs.show_at.Goals as goal

pub returns-in-Some : goal.returns-in-Some
returns-in-Some c = (
  c.show_access.ensures.0,
  subst (λ (t : Atom ℕ). ShowsAtom c.args.known.now.keys c.args.known.now.bytes c.args.left.now t c.show_access.result c.show_access.new.left)
      (atom-own c.args.w.now c.args.y c.args.z c.args.x c.args.a _ c.kind_of_atom-k.ensures _ _ _ c.in-Some.ensures (c.actual-v.ensures ∙ ap (actual c.args.y c.args.z c.args.x) c.atom_variable.ensures.0) c.atom_field.ensures.0) c.show_access.ensures.1,
)

pub returns-in-None : goal.returns-in-None
returns-in-None c = (
  c.requires.1,
  subst (λ (t : Atom ℕ). ShowsAtom c.args.known.now.keys c.args.known.now.bytes c.args.left.now t c.show_relation.result c.args.left.now)
      (rw c.ne.ensures (atom-relation c.args.w.now c.args.y c.args.z c.args.x c.args.a _ c.kind_of_atom-k.ensures _ _ c.in-None.ensures c.left-l.ensures c.right.ensures)) (c.show_relation.ensures _),
)
