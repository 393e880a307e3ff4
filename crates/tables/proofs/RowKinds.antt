-- What the number of a row's kind says.
use mathlib.Core.Path.{◌≡◌, refl, sym}
use mathlib.Core.Logic.{inl, inr, ⊎_elim}
use Prim.Native.Nat.{ℕ, ◌≤◌}
use native.Mathlib.Omega.{arith}
use lib.Dec.{T}
use Rattle.rules.specs.Grammar.{is_computing}
use Rattle.rules.specs.declared.Kind.TheVariants.{Add, Sub}
use Rattle.rules.proofs.Lists.{decide_eq}
use Rattle.rules.proofs.KindNumbers as Kinds

-- `add` and `sub`, by the range of their numbers
pub computes : (k : ℕ) → 19 ≤ k → k ≤ 20 → T (is_computing k)
computes k l h =
    ⊎_elim (λ d. Kinds.computes {k = Add} (sym d) (inl refl))
    (λ d. let c : k ≡ 20 = omega arith in Kinds.computes {k = Sub} (sym c) (inr refl))
    (decide_eq k 19)
