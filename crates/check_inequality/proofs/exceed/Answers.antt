use Rattle.check_equality.specs.Layout.{acc_kind, chain_kind}
use Rattle.check_state.specs.States.{permit_of}
use Rattle.rules.specs.State.{exceed}
use Rattle.rules.specs.Syntax.{acc, read, chain}
use Prim.Native.Nat.{ℕ}
use lib.Dec.{eqb, ltb}
use mathlib.Core.Bool.{Bool, true, false, cond, ◌&&◌, ◌||◌}
use mathlib.Core.Path.{◌≡◌, refl}
use native.Mathlib.Omega.{arith}
use borrow.Author.Tests.{eqb-true, ltb-false}
use Rattle.check_inequality.proofs.exceed.Goals as goal

-- an `acc` is no chain
apart : {A : Type 0} (k : ℕ) → eqb k acc_kind ≡ true → ltb k chain_kind ≡ false → A
apart k e d = absurd (omega (arith, eqb-true k acc_kind e, ltb-false k chain_kind d))

pub returns : goal.returns
unfolding exceed permit_of
returns c = go (eqb c.args.j acc_kind) (ltb c.args.j chain_kind) (eqb c.args.i acc_kind) (ltb c.args.i chain_kind) refl refl refl refl
  where
    go :
        (a p b q : Bool) → eqb c.args.j acc_kind ≡ a → ltb c.args.j chain_kind ≡ p → eqb c.args.i acc_kind ≡ b → ltb c.args.i chain_kind ≡ q →
        ((a && q) || (b && p)) ≡ exceed (cond a acc (cond p read chain)) (cond b acc (cond q read chain))
    go true false b q e d g h = apart c.args.j e d
    go true true true true e d g h = refl
    go true true true false e d g h = apart c.args.i g h
    go true true false true e d g h = refl
    go true true false false e d g h = refl
    go false true true true e d g h = refl
    go false true true false e d g h = apart c.args.i g h
    go false true false true e d g h = refl
    go false true false false e d g h = refl
    go false false true q e d g h = refl
    go false false false q e d g h = refl
