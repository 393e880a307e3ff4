use mathlib.Core.Path.{refl, ap, subst, ◌∙◌}
use mathlib.Core.Bool.{true}
use lib.ListN.{drop}
use Rattle.rules.specs.declared.Kind.TheVariants as Kind
use Rattle.rules.specs.Numbered.{number}
use Rattle.rules.proofs.KindNumbers.{one_number}
use Rattle.rules.specs.Grammar.{Class, Main, kind_number, is_statement, is_kind}
use Rattle.read_fields.specs.Cuts.{more}
use Rattle.read_grammar.specs.Rows.{kind_numbered}
use Rattle.read_grammar.proofs.Rows.{kind-of-number}
use Rattle.read_declarations.specs.Declares.{FormedAfter}
use Rattle.resolve_pass.specs.Passes.{names_after, above_after, LineRoom, line_after}
use Rattle.resolve_headers.proofs.Lines.{main-line, at-end, last_kind}
use Rattle.resolve_headers.proofs.Goods.{main-test, put_on}
use Rattle.resolve_headers.proofs.put_declaration.Goals as goal

-- `resolve_headers::put_declaration` meets its contract. Assumes nothing.
pub put_class-requires : goal.put_class-requires
unfolding kind_number
put_class-requires c =
    (c.requires.0, c.requires.1, subst (FormedAfter c.args.text.now c.args.r) (ap kind_numbered (ap number c.in-Class.is) ∙ kind-of-number Class) c.requires.2.0, subst (λ k. LineRoom c.args.text.now c.args.work.now c.args.p (line_after c.args.text.now c.args.r k)) (ap number c.in-Class.is) c.requires.3)

pub returns-in_default : goal.returns-in_default
unfolding kind_number is_kind is_statement names_after above_after
returns-in_default c =
    let e = last_kind (number c.args.kind) c.requires.2.1 (λ e. c.in_default.not-Class (one_number _ Kind.Class e)) in
    let formed = subst (FormedAfter c.args.text.now c.args.r) (ap kind_numbered e ∙ kind-of-number Main) c.requires.2.0 in
    put_on c.args.text.now c.args.work.now c.args.p c.args.r Main e true (main-test c.args.text.now c.args.work.now c.args.p (more (drop c.args.r c.args.text.now)) true formed refl) refl
    (at-end refl c.put_main.ensures (main-line c.args.text.now c.args.work.now c.args.p (more (drop c.args.r c.args.text.now))))
