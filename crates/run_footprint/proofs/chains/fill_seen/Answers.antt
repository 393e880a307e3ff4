use lib.ListN.{length-replicate, get_or-replicate}
use Prim.Native.Nat.{ℕ}
use Rattle.run_footprint.proofs.chains.fill_seen.Goals as goal

pub returns : goal.returns
returns c = (length-replicate {A = ℕ} 64 1, λ i l. get_or-replicate 64 i 1 0 l)
