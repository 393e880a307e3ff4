use Rattle.check_state.proofs.Whole.{whole}
use Rattle.check_inequality.proofs.Ways.{by-fact, by-null, by-object, by_entries, by-numbers}
use mathlib.Core.Path.{sym, ◌∙◌}
use Rattle.check_inequality.proofs.unequal.Goals as goal

pub returns-then-listed_unequal : goal.returns-then-listed_unequal
returns-then-listed_unequal c =
    by-fact c.args.known.now.keys c.args.known.now.bytes (whole c.args.known.now.sound) _ _ _ _ c.label_of-x.ensures c.label_of-y.ensures (sym c.if-listed_unequal.true ∙ c.listed_unequal.ensures)

pub returns-then-null_and_object : goal.returns-then-null_and_object
returns-then-null_and_object c =
    by-null c.args.known.now.keys c.args.known.now.bytes (whole c.args.known.now.sound) _ _ _ _ c.label_of-x.ensures c.label_of-y.ensures (sym c.if-null_and_object.true ∙ c.null_and_object.ensures _ (whole c.args.known.now.sound).linked.decides)

pub returns-then-null_and_object-2 : goal.returns-then-null_and_object-2
returns-then-null_and_object-2 c =
    by-object c.args.known.now.keys c.args.known.now.bytes (whole c.args.known.now.sound) _ _ _ _ c.label_of-x.ensures c.label_of-y.ensures (sym c.if-null_and_object-2.true ∙ c.null_and_object-2.ensures _ (whole c.args.known.now.sound).linked.decides)

pub returns-then-two_entries : goal.returns-then-two_entries
returns-then-two_entries c =
    by_entries c.args.known.now.keys c.args.known.now.bytes (whole c.args.known.now.sound) _ _ _ _ c.label_of-x.ensures c.label_of-y.ensures (sym c.if-two_entries.true ∙ c.two_entries.ensures _ (whole c.args.known.now.sound).linked.decides)

pub returns : goal.returns
returns c =
    by-numbers c.args.known.now.keys c.args.known.now.bytes (whole c.args.known.now.sound) _ _ _ _ c.label_of-x.ensures c.label_of-y.ensures (sym c.if-listed_unequal.false ∙
    c.listed_unequal.ensures) (sym c.if-null_and_object.false ∙ c.null_and_object.ensures _ (whole c.args.known.now.sound).linked.decides) (sym c.if-null_and_object-2.false ∙
    c.null_and_object-2.ensures _ (whole c.args.known.now.sound).linked.decides) (sym c.if-two_entries.false ∙ c.two_entries.ensures _ (whole c.args.known.now.sound).linked.decides) _ (c.numbers_apart.ensures (whole c.args.known.now.sound).linked.decides)
