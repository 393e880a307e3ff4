use Rattle.read_names.proofs.Keys.{named, nameless}
use Rattle.read_names.proofs.Puts.{none-fits}
use Rattle.read_names.specs.Rows.{name_in, key_of, SpanFits}
use mathlib.Core.Path.{sym, ap, subst, ◌∙◌}
use Rattle.read_names.proofs.name_at.Goals as goal

pub returns-then-key_at-key : goal.returns-then-key_at-key
returns-then-key_at-key c =
    (c.written_at-s.ensures.0 ∙ sym (named c.args.text.now c.args.work.now c.args.i (sym c.key_at.ensures ∙ (c.if-key_at-key.true ∙ (c.key.ensures.0 ∙ ap key_of (c.name_in.ensures ∙ ap (name_in c.args.text.now) c.written_at-s.ensures.0))))), c.written_at-s.ensures.1)

pub returns : goal.returns
returns c =
    (c.no_span.ensures ∙ sym (nameless c.args.text.now c.args.work.now c.args.i (λ e. c.if-key_at-key.false (c.key_at.ensures ∙ (e ∙ sym (c.key.ensures.0 ∙ ap key_of (c.name_in.ensures ∙ ap (name_in c.args.text.now) c.written_at-s.ensures.0)))))), subst SpanFits (sym c.no_span.ensures) none-fits)
