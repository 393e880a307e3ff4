use Rattle.std.proofs.Common.{get_or, rules, arith}
use Rattle.check_labels.specs.Labels.{fitting}
use Rattle.check_labels.proofs.fits.Goals as goal

pub returns : goal.returns
returns c =
    λ e j h. c.every.ensures (λ i. fitting c.args.m c.args.x (get_or c.args.b.now i 0)) (λ i r a k p. search rules) e j (omega arith) h
