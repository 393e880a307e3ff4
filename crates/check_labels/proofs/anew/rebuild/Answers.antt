use Prim.Native.Nat.{ℕ, ◌+◌, ◌*◌}
use Rattle.check_labels.proofs.Rebuilding.{facts-none, facts-next, rebuilt-fresh}
use Rattle.check_labels.proofs.FreshLabels.{fresh-linked}
use Rattle.check_state.specs.States.{facts, facts_in}
use Rattle.check_equality.proofs.Listing.{listed-none}
use Rattle.rules.specs.State.{rename_facts}
use Rattle.check_equality.specs.Layout.{left_sides, right_sides, relations_at}
use mathlib.Core.Path.{◌≡◌, refl, sym, ◌∙◌, subst}
use native.Mathlib.Omega.{arith}
use Rattle.check_labels.proofs.anew.rebuild.Goals as goal

pub loop-i-init : goal.loop-i-init
loop-i-init c = (
  omega arith,
  fresh-linked _ _ c.requires.header (c.fresh.ensures.size ∙ c.requires.size) c.fresh.ensures.own,
  record {
    size = refl;
    at = λ j h g. absurd (omega arith);
  },
  λ ρ old S. listed-none _ ∙ sym (facts-none ρ old c.fresh.new.b),
  λ j h. refl,
  λ j h.
      refl,
)

pub loop-i-preserved : goal.loop-i-preserved
loop-i-preserved c = (
  omega (arith, c.keep_fact-n.ensures.0.few),
  c.keep_fact-n.ensures.0.linked,
  c.keep_fact-n.ensures.1,
  λ ρ old S. facts-next ρ
      old c.args.key.now c.fresh.new.b c.args.gone.now _ c.loop-i.i S (omega arith) _ _ _ _ _ _ (rw c.is_out-out.ensures at c.keep_fact-n.ensures.0.facts) refl (c.loop-i.invariant.4 (left_sides + 2 * c.loop-i.i) (omega arith)) (c.loop-i.invariant.4 (right_sides + 2 * c.loop-i.i) (omega arith)) (c.loop-i.invariant.5 (relations_at + c.loop-i.i) (omega arith)) (c.loop-i.invariant.3 ρ old S),
  λ j h. c.keep_fact-n.ensures.0.keys j (omega arith) ∙ c.loop-i.invariant.4 j
      (omega arith),
  λ j h. c.keep_fact-n.ensures.0.rest j (omega arith) ∙ c.loop-i.invariant.5 j (omega arith),
)

pub returns : goal.returns
returns c =
    let e : c.loop-i.i ≡ facts c.args.b.now = omega arith in
    rebuilt-fresh c.args.key.now c.args.b.now c.fresh.new.b c.loop-i.key c.loop-i.b c.args.gone.now c.loop-i.n c.requires c.fresh.ensures c.loop-i.invariant.1 (λ ρ old S. subst (λ (i : ℕ). facts_in c.loop-i.key
    c.loop-i.b c.loop-i.n ≡ rename_facts ρ (facts_in old c.fresh.new.b i)) e (c.loop-i.invariant.3 ρ old S)) (λ j h. c.loop-i.invariant.5 j (omega (arith, c.requires.fit)))
