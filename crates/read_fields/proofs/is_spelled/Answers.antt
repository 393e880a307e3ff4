use native.Mathlib.Omega.{arith}
use Rattle.read_fields.proofs.Heads.{packs}
use Rattle.read_fields.proofs.is_spelled.Goals as goal

pub returns : goal.returns
returns c s a n m =
    packs c.args.t.now c.args.a c.args.bytes _ _ s (λ i. omega (arith, c.type_inv.t i)) (omega (arith, c.if-t-e.false)) c.pack.ensures a n m
