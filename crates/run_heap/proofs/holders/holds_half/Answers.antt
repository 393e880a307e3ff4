use Rattle.std.proofs.Common.{sym, ◌∙◌}
use Rattle.run_heap.proofs.Halves.{first-held, second-held, none-held}
use Rattle.run_heap.proofs.holders.holds_half.Goals as goal

pub returns-then-first_holder-h : goal.returns-then-first_holder-h
returns-then-first_holder-h c = first-held _ _ _ (sym c.first_holder.ensures ∙ c.if-first_holder-h.true)

pub returns-then-second_holder-h : goal.returns-then-second_holder-h
returns-then-second_holder-h c = second-held _ _ _ (sym c.second_holder.ensures ∙ c.if-second_holder-h.true)

pub returns : goal.returns
returns c =
    none-held _ _ _ (λ e. c.if-first_holder-h.false (c.first_holder.ensures ∙ e)) (λ e. c.if-second_holder-h.false (c.second_holder.ensures ∙ e))
