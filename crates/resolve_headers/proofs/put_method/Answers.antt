use mathlib.Core.Path.{◌≡◌, refl, ap, ◌∙◌}
use Prim.Native.Nat.{suc, ◌-◌, ◌<◌}
use native.Mathlib.Omega.{arith}
use lib.ListN.{drop}
use Rattle.rules.specs.Limits.{most_methods}
use Rattle.rules.specs.Text.{is_name}
use Rattle.rules.specs.Grammar.{Method, kind_number, is_statement, is_kind}
use Rattle.read_fields.specs.Cuts.{more}
use Rattle.read_scopes.specs.Meanings.{put_block}
use Rattle.read_declarations.proofs.Lines.{span_fits, method-names}
use Rattle.write_rows.specs.Puts.{put_method}
use Rattle.resolve_pass.specs.Passes.{names_after}
use Rattle.resolve_headers.specs.Headers.{moved}
use Rattle.resolve_headers.proofs.Lines.{parameter-name, method-line, at-end, room_as}
use Rattle.resolve_headers.proofs.Goods.{method-test, put_on, put-bad}
use Rattle.resolve_headers.proofs.put_method.Goals as goal

-- `resolve_headers::put_method` meets its contract. Assumes nothing.
pub overflow_sub-owner : goal.overflow_sub-owner
unfolding kind_number
overflow_sub-owner c = omega (arith, ((room_as Method refl c.requires.3).method refl).0)

pub method_row-m-requires : goal.method_row-m-requires
method_row-m-requires c =
    let m = method-names (more (drop c.args.r c.args.text.now)) c.requires.2 in
    (c.requires.0.text, c.requires.1, omega (arith, c.requires.0.above.classes), m.0, m.1, m.2)

pub returns-then-not-may_add_method : goal.returns-then-not-may_add_method
unfolding kind_number
returns-then-not-may_add_method c =
    let good = method-test c.args.text.now c.args.work.now c.args.p (more (drop c.args.r c.args.text.now)) _ c.span_after-parameter.result c.method_row-m.ensures (c.span_after-parameter.ensures.name ∙ c.method_row-m.ensures.parameter) c.requires.2 c.may_add_method.ensures in
    put-bad c.args.text.now c.args.work.now c.args.p c.args.r Method refl c.may_add_method.result good (c.if-not-may_add_method.true)

pub put_method_row-requires : goal.put_method_row-requires
unfolding kind_number
put_method_row-requires c =
    (omega (arith, c.after.ensures, ((room_as Method refl c.requires.3).method refl).1.0, c.requires.0.names.methods), omega (arith, c.requires.4.rows))

pub put_block-requires : goal.put_block-requires
unfolding kind_number
put_block-requires c =
    let few : c.after.result < most_methods = omega (arith, c.after.ensures, ((room_as Method refl c.requires.3).method refl).1.0, c.requires.0.names.methods)
    in
    let s = span_fits c.args.text.now c.span_after-parameter.result c.requires.0.text c.span_after-parameter.ensures.high (ap is_name (c.span_after-parameter.ensures.name ∙ c.method_row-m.ensures.parameter) ∙ parameter-name (more (drop
    c.args.r c.args.text.now)) c.requires.2) in (
      c.name_at-class.ensures.1,
      c.method_row-m.ensures.fits,
      s,
    )

pub returns : goal.returns
unfolding names_after is_kind is_statement kind_number
returns c =
    let ws = more (drop c.args.r c.args.text.now) in
    let name = c.span_after-parameter.ensures.name ∙ c.method_row-m.ensures.parameter in
    let s = span_fits c.args.text.now c.span_after-parameter.result c.requires.0.text c.span_after-parameter.ensures.high (ap is_name name ∙ parameter-name ws c.requires.2) in
    let room = room_as Method refl c.requires.3 in
    let last : c.args.p.above.classes ≡ suc (c.args.p.above.classes - 1) = omega (arith, (room.method refl).0) in
    let good = method-test c.args.text.now c.args.work.now c.args.p ws _ c.span_after-parameter.result c.method_row-m.ensures name c.requires.2 c.may_add_method.ensures in
    put_on c.args.text.now c.args.work.now c.args.p c.args.r Method refl c.may_add_method.result good (c.if-not-may_add_method.false) (at-end (c.put_block.ensures ∙ ap (λ u. put_block c.args.text.now u c.name_at-class.result
    c.method_row-m.result c.span_after-parameter.result) (c.put_method_row.ensures ∙ (λ j. put_method c.args.work.now (c.after.ensures j) c.args.p.rows))) (c.moved.ensures ∙ (λ j. moved c.args.p (c.in_method.ensures j) (c.with_method.ensures j) c.args.p.main))
    (method-line c.args.text.now c.args.work.now c.args.p ws (c.args.p.above.classes - 1) c.name_at-class.result c.span_after-parameter.result c.method_row-m.result c.requires.0 room c.requires.4 last c.name_at-class.ensures.0 c.name_at-class.ensures.1 c.method_row-m.ensures name s))
