use Prim.Native.Nat.{◌-◌}
use lib.ListN.{length}
use mathlib.Core.Path.{sym, ap, ◌∙◌}
use native.Mathlib.Omega.{arith}
use Rattle.read_bytes.specs.Marks.{eight, little_endian}
use Rattle.read_bytes.proofs.Search.{not_same}
use Rattle.read_bytes.proofs.Bytewise.{two-words}
use Rattle.read_bytes.proofs.same_wide.Goals as goal

pub returns-then-word8 : goal.returns-then-word8
returns-then-word8 c =
    let i = length c.args.a.now - 8 in
    sym (not_same _ _ (λ e. c.if-word8.true (c.word8.ensures ∙ (ap (λ l. little_endian (eight l i)) e ∙ sym c.word8-2.ensures))))

pub returns : goal.returns
returns c =
    rw (c.word8-3.ensures, c.word8-4.ensures)
    (two-words c.args.a.now c.args.b.now
    (λ k. omega (arith, c.type_inv.a k))
    (λ k. omega (arith, c.type_inv.b k))
    c.requires.0 c.requires.1 c.requires.2
    (sym c.word8.ensures ∙ (c.if-word8.false ∙ c.word8-2.ensures)))
