use mathlib.Core.Path.{◌≡◌, sym, subst, ◌∙◌}
use Prim.Native.Nat.{◌≤◌}
use native.Mathlib.Omega.{arith}
use lib.ListN.{length}
use Rattle.read_scan.specs.Table.{WordAt, start_of}
use Rattle.read_scan.proofs.Table.{next_start, table_kept}
use Rattle.read_declarations.proofs.Steps.{declaring-first, declaring-fits, declaring-done, declaring-ready, declaring-next}
use Rattle.read_declarations.proofs.declare.Goals as goal

pub loop-i-init : goal.loop-i-init
unfolding start_of
loop-i-init c =
    declaring-first c.args.text.now c.args.work.now c.no_names-c.result c.no_names-c.ensures c.requires.1

pub line_word-w-requires : goal.line_word-w-requires
line_word-w-requires c =
    omega (arith, c.requires.2.room, c.loop-i-test.true)

pub declare_line-c-requires : goal.declare_line-c-requires
declare_line-c-requires c =
    let t = table_kept {w' = c.loop-i.work} c.requires.2 c.loop-i.invariant.lines in
    let w = subst (WordAt _ _) (sym c.line_word-w.ensures) (t.words _ c.loop-i-test.true) in (
      record { text = c.requires.0; whole = c.loop-i.invariant.tables.size ∙ c.told-work; fits = declaring-fits c.loop-i.invariant },
      declaring-ready c.loop-i.invariant (t.within _ c.loop-i-test.true) w,
    )

pub loop-i-preserved : goal.loop-i-preserved
loop-i-preserved c =
    let t = table_kept {w' = c.loop-i.work} c.requires.2 c.loop-i.invariant.lines in
    let w = subst (WordAt _ _) (sym c.line_word-w.ensures) (t.words _ c.loop-i-test.true) in
    let y = declaring-next c.loop-i.invariant (t.within _ c.loop-i-test.true) w c.declare_line-c.ensures in
    rw (next_start c.args.text.now c.loop-i.i) y

pub returns : goal.returns
returns c =
    let z : c.loop-i.i ≡ c.args.n = omega (arith, c.loop-i-test.false) in
    (declaring-done c.loop-i.invariant (subst (λ i. length c.args.text.now ≤ start_of c.args.text.now i) (sym z) c.requires.2.all), c.loop-i.invariant.lines)
