use Rattle.check_state.proofs.Whole.{whole}
use mathlib.Core.Path.{sym, ◌∙◌}
use Rattle.check_forgetting.proofs.Remainders.{out-forgettable, dropped-out, kept_out}
use Rattle.check_forgetting.proofs.drop_out.Goals as goal

pub give_out-requires : goal.give_out-requires
give_out-requires c = (c.requires.0, out-forgettable _ _ _, c.requires.1)

pub returns-then-drops_some : goal.returns-then-drops_some
returns-then-drops_some c = dropped-out _ _ _ _ _ (sym c.if-drops_some.true ∙ c.drops_some.ensures) c.give_out.ensures

pub returns-else-drops_some : goal.returns-else-drops_some
returns-else-drops_some c = kept_out _ _ _ (whole c.args.known.now.sound) (sym c.if-drops_some.false ∙ c.drops_some.ensures)
