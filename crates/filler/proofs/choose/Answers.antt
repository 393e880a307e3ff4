use Prim.Native.Nat.{ℕ}
use mathlib.Core.List.{List}
use mathlib.Core.Path.{sym, subst}
use native.Mathlib.Omega.{arith}
use lib.ListN.{set}
use Rattle.write_rows.proofs.Atoms.{side_bytes}
use Rattle.fill_rows.proofs.Rewritten.{acc_ok}
use Rattle.filler.specs.Search.{Chosen}
use Rattle.filler.proofs.Choosing.{chosen}
use Rattle.filler.proofs.choose.Goals as goal

-- `filler::choose` meets its contract. Assumes nothing.
pub put_atom-requires : goal.put_atom-requires
put_atom-requires c =
    let ok = acc_ok _ _ c.access_at-a.ensures.few c.access_at-a.ensures.names in (omega (arith, c.requires.0.spared.room, c.requires.3), (side_bytes _ ok.left, side_bytes _ ok.right))

pub returns : goal.returns
returns c =
    let C = chosen _ _ _ _ _ c.requires.0 c.requires.3 c.requires.4 _ c.access_at-a.ensures in subst (λ (v : List ℕ). Chosen c.args.work.now c.args.s c.args.places.now c.args.i c.args.p v (set c.args.places.now c.args.i c.args.p)) (sym c.put_atom.ensures) C
