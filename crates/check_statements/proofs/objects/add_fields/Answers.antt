use Rattle.check_state.proofs.Whole.{whole}
use Rattle.check_entailment.proofs.Refusals.{passed-on}
use Rattle.check_state.specs.States.{state_of, permit_of}
use Rattle.check_statements.proofs.Ruled.{adds-refused, adds-ok, after-done, permission-more, permission-end}
use mathlib.Core.Path.{◌∙◌}
use Rattle.check_statements.proofs.objects.add_fields.Goals as goal

pub returns-in_err-add_entry : goal.returns-in_err-add_entry
unfolding permit_of
returns-in_err-add_entry c =
    rw (passed-on _ _ c.from_residual.ensures.1, c.loop-j.invariant, permission-more c.args.w.now c.args.c c.args.x c.args.n c.loop-j.j c.loop-j-test.true (state_of c.loop-j.known.keys c.loop-j.known.bytes), ← c.field_name_at.ensures.0)
    (adds-refused _ _ _ _ _ c.in_err-add_entry.ensures.0)

pub loop-j-preserved : goal.loop-j-preserved
unfolding permit_of
loop-j-preserved c =
    c.loop-j.invariant ∙ permission-more c.args.w.now c.args.c c.args.x c.args.n c.loop-j.j c.loop-j-test.true (state_of c.loop-j.known.keys c.loop-j.known.bytes) ∙ rw (← c.field_name_at.ensures.0) (after-done _ _ _ c.in_ok-add_entry.ensures.0.same)

pub returns : goal.returns
returns c = rw (c.loop-j.invariant, permission-end c.args.w.now c.args.c c.args.x c.args.n c.loop-j.j c.loop-j-test.false (state_of c.loop-j.known.keys c.loop-j.known.bytes)) (adds-ok c.loop-j.known.keys c.loop-j.known.bytes (whole c.loop-j.known.sound))
