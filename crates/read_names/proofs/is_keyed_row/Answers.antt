use Rattle.read_names.proofs.Keys.{same_name}
use Rattle.read_names.specs.Rows.{name_in, entry_at, is_entry}
use Rattle.rules.specs.Base.{eq_name}
use mathlib.Core.Path.{sym, ap, ◌∙◌}
use Rattle.read_names.proofs.is_keyed_row.Goals as goal

pub returns : goal.returns
unfolding is_entry entry_at
returns c =
    rw (sym c.is_owned.ensures ∙ c.if-not-is_owned.false) (c.same.ensures ∙ (ap (λ y. eq_name y c.args.x.now) (c.name_in.ensures ∙ ap (name_in c.args.text.now) c.written_at-s.ensures.0) ∙ sym (same_name c.args.text.now c.args.work.now c.args.i c.args.x.now c.requires.1 c.requires.2)))
