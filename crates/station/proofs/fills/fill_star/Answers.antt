use mathlib.Core.Path.{sym, ◌∙◌}
use Rattle.station.proofs.Filling.{no-places, set-unframed, set_given, set-none}
use Rattle.station.proofs.fills.fill_star.Goals as goal

-- `station::fills::fill_star` meets its contract. Assumes nothing.
pub returns-then-is_some : goal.returns-then-is_some
returns-then-is_some c =
    set-unframed _ _ (sym c.is_some.ensures ∙ c.if-is_some.true) c.requires.3

pub fill-requires : goal.fill-requires
fill-requires c =
    c.requires

pub returns-then-fill : goal.returns-then-fill
returns-then-fill c =
    set_given _ _ (sym c.is_some.ensures ∙ c.if-is_some.false) _ _ c.fill.ensures.answer c.if-fill.true

pub returns : goal.returns
returns c =
    set-none _ _ (sym c.is_some.ensures ∙ c.if-is_some.false) _ _ c.fill.ensures.answer c.if-fill.false (no-places _ c.fill.ensures.four c.clear.ensures)
