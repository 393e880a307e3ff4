use Rattle.std.proofs.Common.{sym, ◌∙◌, arith}
use Rattle.check_scans.proofs.Renaming.{mentions-variable, mentions-wrapped}
use Rattle.check_scans.proofs.keys.mentions.Goals as goal

pub returns-then-k-variable_key : goal.returns-then-k-variable_key
returns-then-k-variable_key c = sym (mentions-variable _ 0 _ (c.if-k-variable_key.true ∙ c.variable_key.ensures.1))

pub returns : goal.returns
returns c =
    mentions-wrapped c.args.x c.args.k c.path_key.result c.wrapping_sub_u64.result (λ e. c.if-k-variable_key.false (e ∙ sym c.variable_key.ensures.1)) (omega (arith, c.path_key.ensures.1)) c.ranges.x.fits c.ranges.k.fits c.wrapping_sub_u64.type_inv c.wrapping_sub_u64.ensures.value
