use Rattle.check_formulas.proofs.Atoms.{atom-own, atom-relation}
use Rattle.check_entailment.specs.Answers.{AddsAtom}
use Rattle.rules.specs.Syntax.{Atom}
use Rattle.rules.specs.Rules.{actual}
use Prim.Native.Nat.{ℕ}
use mathlib.Core.Path.{ap, ◌∙◌, subst}
use Rattle.check_formulas.proofs.add_at.Goals as goal

pub returns-in-Some : goal.returns-in-Some
returns-in-Some c =
    subst (λ (t : Atom ℕ). AddsAtom c.args.known.now.keys c.args.known.now.bytes t c.add_own.result c.add_own.new.known.keys c.add_own.new.known.bytes)
    (atom-own c.args.w.now c.args.y c.args.z c.args.x c.args.a _ c.kind_of_atom-k.ensures _ _ _ c.in-Some.ensures (c.actual-v.ensures ∙ ap (actual c.args.y c.args.z c.args.x) c.atom_variable.ensures.0) c.atom_field.ensures.0) c.add_own.ensures.0

pub returns-in-None : goal.returns-in-None
returns-in-None c =
    subst (λ (t : Atom ℕ). AddsAtom c.args.known.now.keys c.args.known.now.bytes t c.add_relation.result c.add_relation.new.known.keys c.add_relation.new.known.bytes)
    (rw c.ne.ensures (atom-relation c.args.w.now c.args.y c.args.z c.args.x c.args.a _ c.kind_of_atom-k.ensures _ _ c.in-None.ensures c.left-l.ensures c.right.ensures)) c.add_relation.ensures
