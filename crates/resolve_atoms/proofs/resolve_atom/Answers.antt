use native.Mathlib.Omega.{arith}
use mathlib.Core.Path.{◌≡◌, ap}
use Prim.Native.Nat.{◌<◌, ◌≤◌}
use Rattle.tables.specs.Numbers.{chain_atom, eq_atom}
use Rattle.tables.specs.Kinds.{kind_number}
use Rattle.resolve_atoms.proofs.Sides.{permission-tried, access-judged, chain-judged, is-access, is-relation, compared-form, access-tried, compared-tried}
use Rattle.resolve_atoms.proofs.resolve_atom.Goals as goal

pub returns-in-Read : goal.returns-in-Read
returns-in-Read c =
    let l : kind_number c.args.kind < chain_atom = grind arith in
    access-tried _ _ _ c.requires.1 _ _ _ (omega arith)
    (permission-tried _ _ _ c.requires.0.fits _ (is-access _ _ _ c.requires.1 (omega arith)) _ _ _ _ c.look_path.ensures (access-judged _ _ _ c.requires.1 _ _ l) c.permission.ensures)

pub returns-in-Chain : goal.returns-in-Chain
returns-in-Chain c =
    let l : kind_number c.args.kind ≡ chain_atom = ap kind_number c.in-Chain.is in
    access-tried _ _ _ c.requires.1 _ _ _ (omega arith)
    (permission-tried _ _ _ c.requires.0.fits _ (is-access _ _ _ c.requires.1 (omega arith)) _ _ _ _ c.look_chain.ensures (chain-judged _ _ _ c.requires.1 _ _ l) c.permission-in-Chain.ensures)

pub compared-requires : goal.compared-requires
compared-requires c =
    let l : eq_atom ≤ kind_number c.args.kind = grind arith in
    (c.requires.0, is-relation _ _ _ c.requires.1 l, compared-form _ _ _ c.requires.1 l)

pub returns-in-Eq : goal.returns-in-Eq
returns-in-Eq c =
    let l : eq_atom ≤ kind_number c.args.kind = grind arith in
    compared-tried _ _ _ c.requires.1 _ _ _ l c.compared.ensures
