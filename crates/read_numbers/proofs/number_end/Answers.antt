use Rattle.read_bytes.proofs.Fields.{field-passes, field-fails}
use Rattle.read_numbers.proofs.NumberFields.{digits-within, written, written-end}
use Rattle.read_numbers.proofs.Numbers.{sign-within}
use Rattle.rules.specs.Text.{is_number}
use mathlib.Core.Path.{refl, sym, ◌∙◌}
use native.Mathlib.Omega.{arith}
use Rattle.read_numbers.proofs.number_end.Goals as goal

pub digits_from-d-requires : goal.digits_from-d-requires
digits_from-d-requires c =
    sign-within c.args.l.now c.args.at c.minuses_at-minuses.result c.requires c.minuses_at-minuses.ensures

pub is_written-requires : goal.is_written-requires
is_written-requires c =
    let h = sign-within c.args.l.now c.args.at c.minuses_at-minuses.result c.requires c.minuses_at-minuses.ensures in
    (omega (arith, c.digits_from-d.ensures.end_is), digits-within c.args.l.now c.args.at c.minuses_at-minuses.result _ c.digits_from-d.result.value c.digits_from-d.result.end h c.minuses_at-minuses.ensures refl c.digits_from-d.ensures)

pub returns-then-is_written : goal.returns-then-is_written
returns-then-is_written c =
    let h = sign-within c.args.l.now c.args.at c.minuses_at-minuses.result c.requires c.minuses_at-minuses.ensures in
    let z = sym c.is_written.ensures ∙ c.if-is_written.true in
    field-passes is_number c.args.l.now c.args.at c.digits_from-d.result.end
    (sym (written c.args.l.now c.args.at c.minuses_at-minuses.result _ c.digits_from-d.result.value c.digits_from-d.result.end h c.minuses_at-minuses.ensures refl c.digits_from-d.ensures) ∙ z)
    (written-end c.args.l.now c.args.at c.minuses_at-minuses.result _ c.digits_from-d.result.value c.digits_from-d.result.end h c.minuses_at-minuses.ensures refl c.digits_from-d.ensures z)

pub returns-else-is_written : goal.returns-else-is_written
returns-else-is_written c =
    let h = sign-within c.args.l.now c.args.at c.minuses_at-minuses.result c.requires c.minuses_at-minuses.ensures in
    field-fails is_number c.args.l.now c.args.at
    (sym (written c.args.l.now c.args.at c.minuses_at-minuses.result _ c.digits_from-d.result.value c.digits_from-d.result.end h c.minuses_at-minuses.ensures refl c.digits_from-d.ensures) ∙ (sym c.is_written.ensures ∙ c.if-is_written.false))
