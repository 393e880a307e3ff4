use mathlib.Core.Path.{subst}
use Rattle.read_fields.specs.Spans.{AtomHead}
use Rattle.read_fields.proofs.Heads.{atom-by}
use Rattle.read_fields.proofs.atom_end.Goals as goal

pub returns : goal.returns
returns c =
    let x = subst (AtomHead c.args.t.now c.args.r) c.in_ok-h.was c.atom_head.ensures in
    atom-by x.1.1 x.0 _ (c.operands_end.ensures x.1.0 x.1.1.number)
