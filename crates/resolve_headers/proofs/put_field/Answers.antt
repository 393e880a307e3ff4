use mathlib.Core.List.{[]}
use mathlib.Core.Path.{◌≡◌, refl, ap, ◌∙◌}
use Prim.Native.Nat.{suc, ◌-◌}
use native.Mathlib.Omega.{arith}
use lib.ListN.{get_or, drop}
use Rattle.rules.specs.Base.{is}
use Rattle.rules.specs.Grammar.{Field, kind_number, is_statement, is_kind}
use Rattle.rules.specs.Names.{field_number}
use Rattle.read_fields.specs.Cuts.{more}
use Rattle.read_scopes.specs.Meanings.{declarations_in}
use Rattle.read_declarations.proofs.Lines.{second}
use Rattle.write_rows.specs.Puts.{put_field}
use Rattle.resolve_pass.specs.Passes.{names_after}
use Rattle.resolve_headers.specs.Headers.{moved}
use Rattle.resolve_headers.proofs.Lines.{field_fits, field-line, at-end, room_as}
use Rattle.resolve_headers.proofs.Goods.{field-test, new-field, put_on, put-bad}
use Rattle.resolve_headers.proofs.put_field.Goals as goal

pub returns-then-not-may_add_field : goal.returns-then-not-may_add_field
unfolding kind_number
returns-then-not-may_add_field c =
    let good =
    field-test c.args.text.now c.args.work.now c.args.p (more (drop c.args.r c.args.text.now)) _ c.span_after-gives.result c.span_after-name.result c.span_after-gives.ensures.name (second c.span_after-gives.ensures c.span_after-name.ensures) c.requires.2
    c.may_add_field.ensures in
    put-bad c.args.text.now c.args.work.now c.args.p c.args.r Field refl c.may_add_field.result good (c.if-not-may_add_field.true)

pub overflow_sub-above : goal.overflow_sub-above
unfolding kind_number
overflow_sub-above c = omega (arith, ((room_as Field refl c.requires.3).field refl).0.0)

pub put_class_field-requires : goal.put_class_field-requires
unfolding kind_number
put_class_field-requires c =
    let ws = more (drop c.args.r c.args.text.now) in
    let Γ = declarations_in c.args.text.now c.args.work.now c.args.p.names in
    let room = room_as Field refl c.requires.3 in
    let last : c.args.p.above.classes ≡ suc (c.args.p.above.classes - 1) = omega (arith, (room.field refl).0.0) in
    let name : c.field_number-f.result ≡ field_number Γ (get_or ws 1 []) =
    c.field_number-f.ensures.0 ∙ ap (field_number Γ) (c.name_in.ensures ∙ second c.span_after-gives.ensures c.span_after-name.ensures) in
    let b = field_fits c.args.text.now c.args.work.now c.args.p ws (c.args.p.above.classes - 1) c.requires.0 room c.requires.4 last in
    (b.0, (omega (arith, name, b.1.0), b.1.1))

pub returns : goal.returns
unfolding names_after is_kind is_statement kind_number
returns c =
    let n = second c.span_after-gives.ensures c.span_after-name.ensures in
    let ws = more (drop c.args.r c.args.text.now) in
    let Γ = declarations_in c.args.text.now c.args.work.now c.args.p.names in
    let room = room_as Field refl c.requires.3 in
    let last : c.args.p.above.classes ≡ suc (c.args.p.above.classes - 1) = omega (arith, (room.field refl).0.0) in
    let name : c.field_number-f.result ≡ field_number Γ (get_or ws 1 []) =
    c.field_number-f.ensures.0 ∙ ap (field_number Γ) (c.name_in.ensures ∙ n) in
    let int = c.is_int-int.ensures ∙ ap (is "int") c.span_after-gives.ensures.name in
    let passed = c.if-not-may_add_field.false in
    let good = field-test c.args.text.now c.args.work.now c.args.p ws _ c.span_after-gives.result c.span_after-name.result c.span_after-gives.ensures.name n c.requires.2 c.may_add_field.ensures in
    let new = new-field c.args.text.now c.args.work.now c.args.p ws _ c.span_after-gives.result c.span_after-name.result c.span_after-gives.ensures.name n c.may_add_field.ensures passed in
    put_on c.args.text.now c.args.work.now c.args.p c.args.r Field refl c.may_add_field.result good passed
    (at-end
    (c.put_class_field.ensures ∙ (λ j. put_field c.args.work.now (c.args.p.above.classes - 1) (name j) (int j)))
    (c.moved.ensures ∙ (λ j. moved c.args.p c.args.p.names (c.with_field.ensures j) c.args.p.main))
    (field-line c.args.text.now c.args.work.now c.args.p ws (c.args.p.above.classes - 1) c.requires.0 room c.requires.4 last new))
