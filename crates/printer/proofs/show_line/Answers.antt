use mathlib.Core.Path.{sym, subst, ◌∙◌}
use mathlib.Core.Logic.{⊎_elim}
use borrow.Author.Tests.{ne_eqb}
use Rattle.rules.specs.declared.Kind.TheVariants as Kind
use Rattle.rules.specs.Grammar.{Method, Main, Var, IsKindNumber, kind_number}
use Rattle.rules.proofs.KindNumbers.{one_number, either}
use Rattle.read_declarations.proofs.Adds.{word-kind, kind-is, line-is, form-is}
use Rattle.printer.proofs.Variables.{var-named, goes-method, goes-main, goes_none, goes-local, goes-line}
use Rattle.rules.proofs.LineKinds.{kind-bounds, kind-is as is-by-number}
use Rattle.printer.proofs.show_line.Goals as goal

pub numbered-requires : goal.numbered-requires
numbered-requires c = subst IsKindNumber (sym (word-kind c.requires.2 c.word_at-w.ensures)) (kind-bounds _)

pub show_local-requires : goal.show_local-requires
unfolding kind_number
show_local-requires c =
    let e = kind-is c.requires.2 c.word_at-w.ensures {k = Var} (sym c.in-Var.ensures) in
    (c.word_at-w.ensures.high, c.requires.1, c.requires.3.value e, c.requires.3.line e, var-named _ (form-is c.requires.2 c.word_at-w.ensures Var (sym c.in-Var.ensures)))

pub returns-in-Method : goal.returns-in-Method
unfolding kind_number
returns-in-Method c =
    ⊎_elim (λ e. goes-method _ _ _ _ _ (kind-is c.requires.2 c.word_at-w.ensures {k = Method} e)) (λ e. goes-main _ _ _ _ _ (kind-is c.requires.2 c.word_at-w.ensures {k = Main} e)) (either c.numbered.ensures c.in-Method.is)

pub returns-in-Var : goal.returns-in-Var
unfolding kind_number
returns-in-Var c =
    let e = kind-is c.requires.2 c.word_at-w.ensures {k = Var} (sym c.in-Var.ensures) in
    goes-line (line-is c.requires.2 c.word_at-w.ensures {k = Var} (sym c.in-Var.ensures)) (goes-local _ _ _ _ _ _ _ (c.requires.3.value e) c.show_local.ensures)

pub returns-in_default : goal.returns-in_default
unfolding kind_number
returns-in_default c =
    let w = word-kind c.requires.2 c.word_at-w.ensures in
    goes_none _ _ _ _ _
    (is-by-number Method _ ∙ ne_eqb 3 _ (λ e. c.in_default.not-Method (one_number _ Kind.Method (c.numbered.ensures ∙ (w ∙ sym e)))))
    (is-by-number Main _ ∙ ne_eqb 6 _ (λ e. c.in_default.not-Main (one_number _ Kind.Main (c.numbered.ensures ∙ (w ∙ sym e)))))
    (is-by-number Var _ ∙ ne_eqb 7 _ (λ e. c.in_default.not-Var (one_number _ Kind.Var (c.numbered.ensures ∙ (w ∙ sym e)))))
