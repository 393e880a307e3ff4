use Rattle.check_state.proofs.Whole.{whole}
use Rattle.check_equality.proofs.Labels.{alike}
use Rattle.check_equality.specs.Keys.{term_of}
use Rattle.check_equality.specs.Links.{alike_by}
use Rattle.rules.specs.State.{Term, representative, equal_by}
use mathlib.Core.Logic.{inl}
use mathlib.Core.Path.{refl, sym, ap, ◌∙◌}
use lib.ListN.{get_or}
use native.Mathlib.Omega.{arith}
use borrow.Author.Tests.{ne_eqb}
use Rattle.check_state.proofs.variable_is.Goals as goal

pub returns-then-x-lt-VARIABLE_COUNT : goal.returns-then-x-lt-VARIABLE_COUNT
unfolding alike_by
returns-then-x-lt-VARIABLE_COUNT c =
    λ fs D.
    sym
    (ap (λ (t : Term). equal_by (representative fs) t (term_of c.args.k)) (sym c.variable_key-l.ensures.0)
    ∙ alike D (omega (arith, (whole c.args.known.now.sound).linked.fit)) _ (get_or c.args.known.now.bytes c.args.x 0) _ _ (inl (record { place = c.args.x; within = omega arith; is = (whole c.args.known.now.sound).linked.header.variables _ c.if-x-lt-VARIABLE_COUNT.true ∙ sym c.variable_key-l.ensures.1; shown = refl })) c.requires
    ∙ rw (ne_eqb (get_or c.args.known.now.bytes c.args.x 0) 255 (λ e. omega (arith, e, (whole c.args.known.now.sound).linked.fit, D.low c.args.x (omega arith)))))

pub returns : goal.returns
returns c =
    λ fs D.
    c.alike.ensures ∙ sym (alike D (omega (arith, (whole c.args.known.now.sound).linked.fit)) _ _ _ _ c.label_of-c.ensures c.requires)
    ∙ ap (λ (t : Term). equal_by (representative fs) t (term_of c.args.k)) c.variable_key-l.ensures.0
