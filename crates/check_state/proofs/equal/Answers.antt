use Rattle.check_state.proofs.Whole.{whole}
use Rattle.check_equality.proofs.Labels.{alike}
use Rattle.rules.specs.State.{equal_in}
use mathlib.Core.Path.{sym, ◌∙◌}
use native.Mathlib.Omega.{arith}
use Rattle.check_state.proofs.equal.Goals as goal

pub returns : goal.returns
unfolding equal_in
returns c =
    c.alike.ensures ∙ sym (alike (whole c.args.known.now.sound).linked.decides (omega (arith, (whole c.args.known.now.sound).linked.fit)) _ _ _ _ c.label_of-x.ensures c.label_of-y.ensures)
