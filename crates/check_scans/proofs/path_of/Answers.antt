use Rattle.std.proofs.Common.{sym, ◌∙◌, eq-eqb, ne_eqb}
use Rattle.check_scans.specs.Scans.{path_key_of}
use Rattle.check_scans.proofs.path_of.Goals as goal

pub returns-then-k-variable_key : goal.returns-then-k-variable_key
unfolding path_key_of
returns-then-k-variable_key c = rw (eq-eqb _ _ (c.if-k-variable_key.true ∙ c.variable_key.ensures.1))

pub returns : goal.returns
unfolding path_key_of
returns c = rw (ne_eqb _ _ (λ e. c.if-k-variable_key.false (e ∙ sym c.variable_key.ensures.1))) c.mentions.ensures
