use mathlib.Core.Path.{sym, ◌∙◌}
use Rattle.run_footprint.proofs.Shares.{plain_fits, plain-marked}
use Rattle.run_footprint.proofs.Cells.{chain-marked}
use Rattle.run_footprint.proofs.mark_one.Goals as goal

pub returns-then-is_chain : goal.returns-then-is_chain
returns-then-is_chain c =
    c.mark_chain.ensures ∙ chain-marked _ _ _ _ _ (sym c.is_chain.ensures ∙ c.if-is_chain.true) c.requires.0

pub hand_over-requires : goal.hand_over-requires
hand_over-requires c =
    (plain_fits _ c.args.v.objects _ (sym c.is_chain.ensures ∙ c.if-is_chain.false) c.requires.1).0

pub returns : goal.returns
returns c =
    c.hand_over.ensures ∙ plain-marked _ c.args.v.objects _ _ _ (sym c.is_chain.ensures ∙ c.if-is_chain.false)
