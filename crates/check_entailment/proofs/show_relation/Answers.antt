use Rattle.check_entailment.proofs.Refusals.{passed-on}
use Rattle.check_entailment.proofs.Showing.{relation-unresolved, relation-shown, relation-refused}
use mathlib.Core.Path.{sym, ◌∙◌}
use Rattle.check_entailment.proofs.show_relation.Goals as goal

pub returns-in_err-t : goal.returns-in_err-t
returns-in_err-t c kept =
    rw (passed-on _ _ c.from_residual.ensures.1) (relation-unresolved c.args.known.now.keys c.args.known.now.bytes c.args.apart _ _ _ c.in_err-t.ensures kept)

pub returns-then-holds : goal.returns-then-holds
returns-then-holds c =
    relation-shown c.args.known.now.keys c.args.known.now.bytes c.args.apart _ _ _ _ c.in_ok-t.ensures (sym c.if-holds.true ∙ c.holds.ensures)

pub returns : goal.returns
returns c =
    relation-refused c.args.known.now.keys c.args.known.now.bytes c.args.apart _ _ _ _ c.in_ok-t.ensures (sym c.if-holds.false ∙ c.holds.ensures)
