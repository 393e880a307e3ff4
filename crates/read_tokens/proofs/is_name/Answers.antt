use Rattle.read_tokens.proofs.Exprs.{name-begins}
use Rattle.read_bytes.proofs.Search.{all_found}
use Rattle.rules.specs.Text.{letter_or_digit}
use mathlib.Core.Path.{sym, ◌∙◌}
use Rattle.read_tokens.proofs.is_name.Goals as goal

pub returns-then-begins_name : goal.returns-then-begins_name
returns-then-begins_name c = sym (name-begins c.args.w.now ∙ rw (sym c.begins_name.ensures ∙ c.if-begins_name.true) (all_found letter_or_digit c.args.w.now c.find.result c.find.ensures.is))

pub returns : goal.returns
returns c = sym (name-begins c.args.w.now ∙ rw (sym c.begins_name.ensures ∙ c.if-begins_name.false))
