-- The frames on a route of calls are no more than the bound: each block on it has a line.
use mathlib.Core.List.{List, [], ◌∷◌, map}
use Prim.Native.Nat.{ℕ, zero, suc, ◌≤◌}
use native.Mathlib.Omega.{arith}
use lib.ListN.{get_or, length}
use Rattle.rules.specs.Syntax.{Method, Program}
use Rattle.rules.specs.Bounds.{Block, block, blocks, callees, round, value_by, total, greatest, block_bound, method_bound, block_frames, method_frames, main_bound, main_frames}
use Rattle.bound_laws.proofs.Blocks.{bound-positive}

module _ (v w : ℕ → ℕ) (below : (c : ℕ) → v c ≤ w c) where
  greatest-below : (cs : List ℕ) → greatest (map v cs) ≤ total (map w cs)
  unfolding greatest total
  greatest-below [] = omega arith
  greatest-below (c ∷ cs) = omega (arith, below c, greatest-below cs)

  -- with no call the bound is the block's lines, at least one
  block-below : (P : Program) (i : ℕ) → block_frames v (block P i) ≤ block_bound w (block P i)
  unfolding block_frames block_bound total
  block-below P i = omega (arith, greatest-below (callees (block P i)), zeros (callees (block P i)), bound-positive (λ c. 0) P i)
    where
      zeros : (cs : List ℕ) → total (map (λ (c : ℕ). 0) cs) ≤ 0
      zeros [] = omega arith
      zeros (c ∷ cs) = omega (arith, zeros cs)

module _ (P : Program) where
  map_below :
      (f g : Block → ℕ) → ((i : ℕ) → f (block P i) ≤ g (block P i)) → (Ms : List Method) (n : ℕ) →
      get_or (map f (map (λ M. block P M.first) Ms)) n 1 ≤ get_or (map g (map (λ M. block P M.first) Ms)) n 1
  map_below f g h [] n = omega arith
  map_below f g h (M ∷ Ms) zero = h M.first
  map_below f g h (M ∷ Ms) (suc n) = map_below f g h Ms n

  rounds-below : (k n : ℕ) → get_or (round 1 block_frames (blocks P) k) n 1 ≤ get_or (round 1 block_bound (blocks P) k) n 1
  unfolding round blocks
  rounds-below zero n = omega arith
  rounds-below (suc k) n =
      map_below (block_frames (λ c. get_or (round 1 block_frames (blocks P) k) c 1)) (block_bound (λ c. get_or (round 1 block_bound (blocks P) k) c 1))
      (λ i. block-below _ _ (λ c. rounds-below k c) P i) P.methods n

  pub frames-below : main_frames P ≤ main_bound P
  unfolding main_frames main_bound method_frames method_bound value_by
  frames-below = block-below _ _ (λ c. rounds-below (length (blocks P)) c) P P.main
