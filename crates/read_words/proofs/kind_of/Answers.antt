use Rattle.read_words.proofs.Words.{kind-is, kind-number, kind-none}
use Rattle.read_words.specs.Words.{kind_or0, kind_at}
use mathlib.Core.Path.{sym, ap, ◌∙◌}
use Rattle.read_words.proofs.kind_of.Goals as goal

pub returns-then-k-le-LAST : goal.returns-then-k-le-LAST
returns-then-k-le-LAST c = sym (ap kind_or0 (kind-is c.args.w.now ∙ ap kind_at (sym c.word-k.ensures)) ∙ kind-number c.word-k.result c.if-k-le-LAST.true)

pub returns-else-k-le-LAST : goal.returns-else-k-le-LAST
returns-else-k-le-LAST c = sym (ap kind_or0 (kind-is c.args.w.now ∙ ap kind_at (sym c.word-k.ensures)) ∙ kind-none c.word-k.result c.if-k-le-LAST.false)
