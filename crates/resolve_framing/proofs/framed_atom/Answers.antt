use mathlib.Core.Path.{◌≡◌, sym, ◌∙◌}
use mathlib.Core.Bool.{true, false}
use native.Mathlib.Omega.{arith}
use Rattle.tables.specs.Decode.{is_permission, atom_kind_at}
use Rattle.tables.specs.Kinds.{kind_of}
use Rattle.resolve_framing.proofs.Framing.{permission-framed, sides-framed}
use Rattle.resolve_framing.proofs.framed_atom.Goals as goal

pub returns-in-Read : goal.returns-in-Read
unfolding is_permission kind_of
returns-in-Read c =
    let h : is_permission (atom_kind_at c.args.work.now c.args.a) ≡ true = grind arith in
    sym (permission-framed _ _ _ h)

pub returns-in-Eq : goal.returns-in-Eq
unfolding is_permission kind_of
returns-in-Eq c =
    let h : is_permission (atom_kind_at c.args.work.now c.args.a) ≡ false = grind arith in
    c.framed_sides.ensures ∙ sym (sides-framed _ _ _ h)
