use Rattle.check_state.proofs.Whole.{whole}
use native.Mathlib.Omega.{arith}
use Rattle.check_forgetting.proofs.Remainders.{stored-wf, nothing-out, packed_all, remainder-law}
use Rattle.check_forgetting.proofs.remainder.Goals as goal

pub invariant_of-known : goal.invariant_of-known
invariant_of-known c =
    record { sound = ∣ stored-wf _ _ _ (whole c.args.known.now.sound) c.requires _ _ c.store_left-out.ensures.0 c.store_left-out.ensures.1 ∣₁ }

pub invariant_of-known-then-first-p : goal.invariant_of-known-then-first-p
invariant_of-known-then-first-p c =
    record {
      sound =
          ∣ (remainder-law _ _ _ (whole c.args.known.now.sound) c.requires _ _ c.store_left-out.ensures.0 c.store_left-out.ensures.1 _ _ c.forget_out.ensures _ c.pack.ensures).wf ∣₁;
    }

pub returns-then-first-p : goal.returns-then-first-p
returns-then-first-p c =
    remainder-law _ _ _ (whole c.args.known.now.sound) c.requires _ _ c.store_left-out.ensures.0 c.store_left-out.ensures.1 _ _ c.forget_out.ensures _ c.pack.ensures

pub returns-else-first-p : goal.returns-else-first-p
returns-else-first-p c =
    let w = stored-wf _ _ _ (whole c.args.known.now.sound) c.requires _ _ c.store_left-out.ensures.0 c.store_left-out.ensures.1 in
    remainder-law _ _ _ (whole c.args.known.now.sound) c.requires _ _ c.store_left-out.ensures.0 c.store_left-out.ensures.1 _ _
    (nothing-out _ _ _ w (λ i h. c.first_out-first.ensures.before i (omega (arith, h, c.if-first-p.false)))) _
    (packed_all _ _ w.linked.size w.fit (λ i h. c.first_out-first.ensures.before i (omega (arith, h, c.if-first-p.false))))
