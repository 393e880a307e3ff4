use Prim.Native.Nat.{ℕ}
use Rattle.check_state.proofs.Whole.{whole}
use Rattle.check_entailment.proofs.Refusals.{passed-on}
use Rattle.check_state.specs.States.{state_of}
use Rattle.rules.specs.Syntax.{path}
use Rattle.check_statements.proofs.Ruled.{adds_same, after-done, adds-refused, adds-ok, initial-more, initial-end, field-fact}
use Rattle.check_statements.specs.Statements.{initial_of}
use mathlib.Core.Path.{ap, ◌∙◌}
use Rattle.check_statements.proofs.objects.add_initial.Goals as goal

pub returns-in_err-add_fact : goal.returns-in_err-add_fact
returns-in_err-add_fact c =
    let fact = field-fact _ _ _ _ _ (state_of c.loop-j.known.keys c.loop-j.known.bytes) (c.path_key-path.ensures.0 ∙ ap (λ (f : ℕ). path c.args.x f) c.field_name_at.ensures.0) (c.initial.ensures ∙ ap initial_of c.field_kind_at.ensures.0) in
    rw (passed-on _ _ c.from_residual.ensures.1, c.loop-j.invariant, initial-more c.args.w.now c.args.c c.args.x c.args.n c.loop-j.j c.loop-j-test.true (state_of c.loop-j.known.keys c.loop-j.known.bytes))
    (adds-refused _ _ _ _ _ (adds_same _ _ _ _ _ fact c.in_err-add_fact.ensures))

pub loop-j-preserved : goal.loop-j-preserved
loop-j-preserved c =
    let fact = field-fact _ _ _ _ _ (state_of c.loop-j.known.keys c.loop-j.known.bytes) (c.path_key-path.ensures.0 ∙ ap (λ (f : ℕ). path c.args.x f) c.field_name_at.ensures.0) (c.initial.ensures ∙ ap initial_of c.field_kind_at.ensures.0) in
    c.loop-j.invariant ∙ initial-more c.args.w.now c.args.c c.args.x c.args.n c.loop-j.j c.loop-j-test.true (state_of c.loop-j.known.keys c.loop-j.known.bytes) ∙ after-done _ _ _ (c.in_ok-add_fact.ensures.same ∙ fact)

pub returns : goal.returns
returns c = rw (c.loop-j.invariant, initial-end c.args.w.now c.args.c c.args.x c.args.n c.loop-j.j c.loop-j-test.false (state_of c.loop-j.known.keys c.loop-j.known.bytes)) (adds-ok c.loop-j.known.keys c.loop-j.known.bytes (whole c.loop-j.known.sound))
