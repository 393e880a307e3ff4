use Rattle.std.proofs.lemmas.Grind.{merely}
use Rattle.check_state.proofs.Whole.{whole}
use Rattle.check_entailment.proofs.Adding.{full-facts, flagged, one-fact}
use Rattle.check_entailment.proofs.add_fact.Goals as goal

pub invariant_of-known : goal.invariant_of-known
invariant_of-known c =
    record { sound = merely (one-fact _ _ _ _ _ _ (whole c.args.known.now.sound) c.if-count-ge-FACTS.false _ _ (flagged _ _ c.from.ensures) c.push.ensures).wf }

pub returns-then-count-ge-FACTS : goal.returns-then-count-ge-FACTS
returns-then-count-ge-FACTS c =
    full-facts _ _ _ _ _ (whole c.args.known.now.sound) c.if-count-ge-FACTS.true

pub returns : goal.returns
returns c =
    one-fact _ _ _ _ _ _ (whole c.args.known.now.sound) c.if-count-ge-FACTS.false _ _ (flagged _ _ c.from.ensures) c.push.ensures
