use mathlib.Core.Path.{refl, ap, ◌∙◌}
use native.Mathlib.Omega.{arith}
use lib.ListN.{drop}
use Rattle.rules.specs.Grammar.{Class, kind_number, is_statement, is_kind}
use Rattle.read_fields.specs.Cuts.{more}
use Rattle.read_names.specs.Rows.{classes_first}
use Rattle.read_scopes.specs.Meanings.{names_from, scope_in}
use Rattle.read_lookups.specs.LookUps.{is_new}
use Rattle.resolve_pass.specs.Passes.{names_after}
use Rattle.resolve_headers.specs.Headers.{moved}
use Rattle.resolve_headers.proofs.Lines.{class-line, at-end, room_as}
use Rattle.resolve_headers.proofs.Goods.{class-test, put_on, put-bad}
use Rattle.resolve_headers.proofs.put_class.Goals as goal

pub returns-then-not-is_new : goal.returns-then-not-is_new
unfolding scope_in kind_number
returns-then-not-is_new c =
    let good =
    class-test c.args.text.now c.args.work.now c.args.p (more (drop c.args.r c.args.text.now)) c.is_new.result c.span_after-s.result c.span_after-s.ensures.name c.requires.2
    (c.is_new.ensures ∙ ap (λ x. is_new x (names_from c.args.text.now c.args.work.now classes_first c.args.p.above.classes)) c.name_in-name.ensures) in
    put-bad c.args.text.now c.args.work.now c.args.p c.args.r Class refl c.is_new.result good (c.if-not-is_new.true)

pub put_class_row-requires : goal.put_class_row-requires
unfolding kind_number
put_class_row-requires c =
    omega (arith, ((room_as Class refl c.requires.3).class refl).0, c.requires.0.names.classes)

pub returns : goal.returns
unfolding scope_in kind_number is_kind is_statement names_after
returns c =
    let good =
    class-test c.args.text.now c.args.work.now c.args.p (more (drop c.args.r c.args.text.now)) c.is_new.result c.span_after-s.result c.span_after-s.ensures.name c.requires.2
    (c.is_new.ensures ∙ ap (λ x. is_new x (names_from c.args.text.now c.args.work.now classes_first c.args.p.above.classes)) c.name_in-name.ensures) in
    put_on c.args.text.now c.args.work.now c.args.p c.args.r Class refl c.is_new.result good (c.if-not-is_new.false)
    (at-end c.put_class_row.ensures (c.moved.ensures ∙ (λ j. moved c.args.p c.args.p.names (c.with_class.ensures j) c.args.p.main))
    (class-line c.args.text.now c.args.work.now c.args.p (more (drop c.args.r c.args.text.now)) c.requires.0 (room_as Class refl c.requires.3)))
