use Prim.Native.Nat.{ℕ, ◌<◌}
use mathlib.Core.Path.{sym, subst, ◌∙◌}
use Rattle.tables.specs.Decode.{row_count}
use Rattle.fill_blocks.proofs.Calling.{below, not-below, method-starts, main-starts}
use Rattle.fill_blocks.proofs.first_row.Goals as goal

pub returns-then-j-method_count : goal.returns-then-j-method_count
returns-then-j-method_count c =
    let l = below c.args.work.now _ _ c.if-j-method_count.true c.method_count.ensures.0 in (c.first_row_at.ensures.0 ∙ sym (method-starts c.args.work.now _ l), subst (λ (k : ℕ). k < row_count c.args.work.now) (sym c.first_row_at.ensures.0) (c.requires.method_fits _ l).block.0)

pub returns : goal.returns
returns c =
    (c.main_first.ensures.0 ∙ sym (main-starts c.args.work.now _ (not-below c.args.work.now _ _ c.if-j-method_count.false c.method_count.ensures.0)), subst (λ (k : ℕ). k < row_count c.args.work.now) (sym c.main_first.ensures.0) c.requires.main_fits.0)
