use mathlib.Core.Path.{sym, ◌∙◌}
use Rattle.read_scan.proofs.Formed.{refuses-byte, refuses-form}
use Rattle.read_scan.proofs.refused_line.Goals as goal

pub returns-then-byte_at-ne-LINE_FEED : goal.returns-then-byte_at-ne-LINE_FEED
returns-then-byte_at-ne-LINE_FEED c = refuses-byte c.find-end.ensures c.requires.0 (λ e. c.if-byte_at-ne-LINE_FEED.true (c.byte_at.ensures ∙ e))

pub returns : goal.returns
returns c = refuses-form c.find-end.ensures (sym c.byte_at.ensures ∙ c.if-byte_at-ne-LINE_FEED.false) c.requires.1
