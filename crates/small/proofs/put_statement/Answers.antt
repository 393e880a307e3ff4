use mathlib.Core.Path.{◌≡◌, sym, ap}
use native.Mathlib.Omega.{arith}
use Rattle.rules.specs.Base.{bytes}
use Rattle.printer.proofs.Writes.{writes_as}
use Rattle.small_list.specs.Small as Small
use Rattle.small.proofs.Texts.{place-bounds}
use Rattle.small.proofs.put_statement.Goals as goal

pub returns-in-1 : goal.returns-in-1
unfolding Small.statement bytes
returns-in-1 c =
    writes_as c.put_word.ensures (ap Small.statement (sym c.in-1.is))

pub returns-in-2 : goal.returns-in-2
unfolding Small.statement bytes
returns-in-2 c =
    writes_as c.put_word-in-2.ensures (ap Small.statement (sym c.in-2.is))

pub returns-in-3 : goal.returns-in-3
unfolding Small.statement bytes
returns-in-3 c =
    writes_as c.put_word-in-3.ensures (ap Small.statement (sym c.in-3.is))

pub returns-in-4 : goal.returns-in-4
unfolding Small.statement bytes
returns-in-4 c =
    writes_as c.put_word-in-4.ensures (ap Small.statement (sym c.in-4.is))

pub returns-in_default : goal.returns-in_default
unfolding Small.statement bytes
returns-in_default c =
    let b = place-bounds _ c.requires.0 in
    let e : c.args.place ≡ 5 = omega (arith, b.0, b.1) in
    writes_as c.put_word-in_default.ensures (ap Small.statement (sym e))
