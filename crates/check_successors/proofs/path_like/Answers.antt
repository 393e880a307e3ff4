use Rattle.check_state.proofs.Whole.{whole, slots-of}
use Rattle.std.proofs.Common.{rules}
use Rattle.check_equality.proofs.Labels.{alike}
use Rattle.check_equality.specs.Keys.{term_of}
use Rattle.rules.specs.State.{Term, representative, equal_by}
use Rattle.check_successors.specs.Successors.{path_test}
use Rattle.check_successors.proofs.Marking.{unmarked-apart}
use Prim.Native.Nat.{ℕ}
use lib.ListN.{get_or}
use mathlib.Core.Bool.{false}
use mathlib.Core.Path.{sym, ap, ◌∙◌}
use native.Mathlib.Omega.{arith}
use Rattle.check_successors.proofs.path_like.Goals as goal

pub returns-then-not-left : goal.returns-then-not-left
unfolding path_test
returns-then-not-left c = search rules

pub returns-then-not-marks-p : goal.returns-then-not-marks-p
unfolding path_test
returns-then-not-marks-p c =
    λ fs D.
    rw (c.if-not-left.false)
    (sym
    (ap (λ (t : Term). equal_by (representative fs) t (term_of c.args.t)) (sym c.path_key-k.ensures.0)
    ∙ unmarked-apart (slots-of (whole c.args.known.now.sound)) D _ _ c.requires.0 _ c.requires.1 _ (omega (arith, c.path_key-k.ensures.1)) (ap (λ (p : ℕ). get_or
    c.args.marks.now p false) (sym c.place-p.ensures.0) ∙ c.if-not-marks-p.true)))

pub returns : goal.returns
unfolding path_test
returns c =
    λ fs D.
    rw (c.if-not-left.false)
    (c.alike.ensures ∙ sym (alike D (omega (arith, (whole c.args.known.now.sound).linked.fit)) _ _ _ _ c.label_of-c.ensures c.requires.0)
    ∙ ap (λ (t : Term). equal_by (representative fs) t (term_of c.args.t)) c.path_key-k.ensures.0)
