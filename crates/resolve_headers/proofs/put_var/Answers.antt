use mathlib.Core.Path.{refl, ap, ◌∙◌}
use lib.ListN.{drop}
use Rattle.rules.specs.Text.{is_name}
use Rattle.rules.specs.Grammar.{Var, kind_number, is_statement, is_kind}
use Rattle.read_fields.specs.Cuts.{more}
use Rattle.read_declarations.proofs.Lines.{span_fits, second}
use Rattle.resolve_pass.specs.Passes.{names_after, above_after}
use Rattle.resolve_headers.specs.Headers.{moved}
use Rattle.resolve_headers.proofs.Lines.{var-names, var-line, at-end, room_as}
use Rattle.resolve_headers.proofs.Goods.{var-test, put_on, put-bad}
use Rattle.resolve_headers.proofs.put_var.Goals as goal

pub returns-then-not-may_declare : goal.returns-then-not-may_declare
unfolding kind_number
returns-then-not-may_declare c =
    let is =
    var-test c.args.text.now c.args.work.now c.args.p (more (drop c.args.r c.args.text.now)) _ c.span_after-gives.result c.span_after-name.result
    c.span_after-gives.ensures.name (second c.span_after-gives.ensures c.span_after-name.ensures) c.requires.2 c.may_declare.ensures in
    put-bad c.args.text.now c.args.work.now c.args.p c.args.r Var refl c.may_declare.result is (c.if-not-may_declare.true)

pub put_local-grown-requires : goal.put_local-grown-requires
unfolding kind_number
put_local-grown-requires c =
    let n = second c.span_after-gives.ensures c.span_after-name.ensures in
    let m = var-names (more (drop c.args.r c.args.text.now)) c.requires.2 in
    let g = span_fits c.args.text.now c.span_after-gives.result c.requires.0.text c.span_after-gives.ensures.high (ap is_name c.span_after-gives.ensures.name ∙ m.0) in
    let s = span_fits c.args.text.now c.span_after-name.result c.requires.0.text c.span_after-name.ensures.high (ap is_name n ∙ m.1) in
    ((room_as Var refl c.requires.3).local refl, s, g)

pub returns : goal.returns
unfolding names_after above_after is_kind is_statement kind_number
returns c =
    let n = second c.span_after-gives.ensures c.span_after-name.ensures in
    let m = var-names (more (drop c.args.r c.args.text.now)) c.requires.2 in
    let g = span_fits c.args.text.now c.span_after-gives.result c.requires.0.text c.span_after-gives.ensures.high (ap is_name c.span_after-gives.ensures.name ∙ m.0) in
    let s = span_fits c.args.text.now c.span_after-name.result c.requires.0.text c.span_after-name.ensures.high (ap is_name n ∙ m.1) in
    let is =
    var-test c.args.text.now c.args.work.now c.args.p (more (drop c.args.r c.args.text.now)) _ c.span_after-gives.result c.span_after-name.result
    c.span_after-gives.ensures.name n c.requires.2 c.may_declare.ensures in
    put_on c.args.text.now c.args.work.now c.args.p c.args.r Var refl c.may_declare.result is (c.if-not-may_declare.false)
    (at-end c.put_local-grown.ensures.1
    (c.moved.ensures ∙ (λ j. moved c.args.p (c.put_local-grown.ensures.0 j) c.args.p.above c.args.p.main))
    (var-line c.args.text.now c.args.work.now c.args.p (more (drop c.args.r c.args.text.now)) c.span_after-name.result c.span_after-gives.result c.requires.0 (room_as Var refl c.requires.3) c.span_after-gives.ensures.name n s g))
