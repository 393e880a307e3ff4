use mathlib.Core.Path.{sym, ◌∙◌}
use Rattle.fill_blocks.proofs.Calling.{block-of-method-at, block-of-main-at}
use Rattle.fill_blocks.proofs.check_block.Goals as goal

pub returns-then-j-method_count : goal.returns-then-j-method_count
returns-then-j-method_count c =
    c.check_method.ensures ∙ sym (block-of-method-at c.args.work.now _ _ c.if-j-method_count.true c.method_count.ensures.0)

pub returns : goal.returns
returns c =
    c.check_main.ensures ∙ sym (block-of-main-at c.args.work.now _ _ c.if-j-method_count.false c.method_count.ensures.0)
