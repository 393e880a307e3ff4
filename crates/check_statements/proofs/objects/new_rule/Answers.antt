use Rattle.check_entailment.proofs.Refusals.{passed-on}
use Rattle.check_state.specs.States.{state_of}
use Rattle.check_statements.proofs.Ruled.{adds_same, adds-refused, adds_on, new-law, object-fact}
use Rattle.check_statements.proofs.objects.new_rule.Goals as goal

pub returns-in_err-add_fields : goal.returns-in_err-add_fields
returns-in_err-add_fields c =
    let law = new-law _ _ _ _ (state_of c.args.known.now.keys c.args.known.now.bytes) (state_of c.remove.new.known.keys c.remove.new.known.bytes) c.field_count_at-n.ensures.0 c.remove.ensures.same in
    rw (passed-on _ _ c.from_residual.ensures.1) (adds_same _ _ _ _ _ law (adds-refused _ _ _ _ _ c.in_err-add_fields.ensures))

pub returns-in_err-add_fact : goal.returns-in_err-add_fact
returns-in_err-add_fact c =
    let law = new-law _ _ _ _ (state_of c.args.known.now.keys c.args.known.now.bytes) (state_of c.remove.new.known.keys c.remove.new.known.bytes) c.field_count_at-n.ensures.0 c.remove.ensures.same in
    rw (passed-on _ _ c.from_residual-in_err-add_fact.ensures.1)
    (adds_same _ _ _ _ _ law (adds_on _ _ _ _ c.in_ok-add_fields.ensures _ _ _ (adds-refused _ _ _ _ _ (adds_same _ _ _ _ _ (object-fact _ _ _ c.variable_key.ensures.0) c.in_err-add_fact.ensures))))

pub returns : goal.returns
returns c =
    let law = new-law _ _ _ _ (state_of c.args.known.now.keys c.args.known.now.bytes) (state_of c.remove.new.known.keys c.remove.new.known.bytes) c.field_count_at-n.ensures.0 c.remove.ensures.same in
    adds_same _ _ _ _ _ law
    (adds_on _ _ _ _ c.in_ok-add_fields.ensures _ _ _ (adds_on _ _ _ _ (adds_same _ _ _ _ _ (object-fact _ _ _ c.variable_key.ensures.0) c.in_ok-add_fact.ensures) _ _ _ c.add_initial.ensures))
