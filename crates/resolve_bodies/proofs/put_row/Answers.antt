use Rattle.std.proofs.Common.{Ok, Err}
use Rattle.std.proofs.lemmas.Result.{err_from_is_err_and}
use mathlib.Core.Path.{refl, ap}
use Rattle.rules.specs.declared.Kind.TheVariants as Kind
use Rattle.rules.specs.Numbered.{number}
use Rattle.rules.proofs.KindNumbers.{one_number}
use Rattle.rules.specs.Grammar as Grammar
use Rattle.rules.specs.Grammar.{kind_number}
use Rattle.resolve_pass.specs.Passes.{has_atoms, is_framed}
use Rattle.resolve_bodies.specs.Bodies.{done_if}
use Rattle.resolve_bodies.proofs.Items.{kind-as, plain-left, claims, line_small, row_room, area-fits, side-follows, plain_follows, claim-follows, side-tried, plain-tried, claim-tried}
use Rattle.resolve_bodies.proofs.put_row.Goals as goal

pub put_let-requires : goal.put_let-requires
unfolding kind_number Grammar.statement_number Grammar.is_kind Grammar.is_statement has_atoms is_framed
put_let-requires c =
    (area-fits c.requires.0 c.seen-c.ensures, side-follows c.requires.0 c.seen-c.ensures Grammar.Let (kind-as (Grammar.statement Grammar.Let) _ (ap number c.in-Let.is)) refl, row_room c.requires.0 c.requires.1, line_small c.requires.0)

pub put_claim-requires : goal.put_claim-requires
put_claim-requires c =
    (area-fits c.requires.0 c.seen-c.ensures, claim-follows c.requires.0 c.seen-c.ensures c.requires.1 (claims c.in-Assert.is), row_room c.requires.0 c.requires.1, line_small c.requires.0)

pub put_if-requires : goal.put_if-requires
unfolding kind_number Grammar.statement_number Grammar.is_kind Grammar.is_statement has_atoms is_framed
put_if-requires c =
    (area-fits c.requires.0 c.seen-c.ensures, side-follows c.requires.0 c.seen-c.ensures Grammar.If (kind-as (Grammar.statement Grammar.If) _ (ap number c.in-If.is)) refl, row_room c.requires.0 c.requires.1, line_small c.requires.0)

pub put_plain-requires : goal.put_plain-requires
put_plain-requires c = (
  area-fits c.requires.0 c.seen-c.ensures,
  plain_follows c.requires.0 c.seen-c.ensures (plain-left _ c.requires.1 (
    (
      (
        (((tt, (λ e. c.in_default.not-Let (one_number _ Kind.Let e))), (λ e. c.in_default.not-Assert (one_number _ Kind.Assert e))), (λ e. c.in_default.not-Release (one_number _ Kind.Release e))),
        (λ e. c.in_default.not-If (one_number _ Kind.If e)),
      ),
      (λ e. c.in_default.not-Join (one_number _ Kind.Join e)),
    ),
    (λ e. c.in_default.not-Loop (one_number _ Kind.Loop e)),
  )),
  row_room c.requires.0 c.requires.1,
  line_small c.requires.0,
)

pub returns-in-Let : goal.returns-in-Let
unfolding kind_number Grammar.statement_number Grammar.is_kind Grammar.is_statement has_atoms is_framed
returns-in-Let c =
    side-tried c.requires.0 c.seen-c.ensures Grammar.Let (kind-as (Grammar.statement Grammar.Let) _ (ap number c.in-Let.is)) refl refl _ c.put_let.result c.put_let.ensures

pub returns-in-Assert : goal.returns-in-Assert
returns-in-Assert c =
    claim-tried c.requires.0 c.seen-c.ensures (claims c.in-Assert.is) _ c.put_claim.result c.put_claim.ensures

pub returns-in-If : goal.returns-in-If
unfolding kind_number Grammar.statement_number Grammar.is_kind Grammar.is_statement has_atoms is_framed
returns-in-If c =
    side-tried c.requires.0 c.seen-c.ensures Grammar.If (kind-as (Grammar.statement Grammar.If) _ (ap number c.in-If.is)) refl refl _ c.put_if.result c.put_if.ensures

pub returns-in_ok-put_plain-in_default : goal.returns-in_ok-put_plain-in_default
unfolding done_if
returns-in_ok-put_plain-in_default c =
    plain-tried c.requires.0 c.seen-c.ensures c.requires.1 (λ e. c.in_default.not-Join (one_number _ Kind.Join e)) (λ e. c.in_default.not-Loop (one_number _ Kind.Loop e)) _ c.put_plain.result (Ok c.args.p.atoms) (rw c.in_ok-put_plain-in_default.was) c.put_plain.ensures

pub returns-in_err-put_plain-in_default : goal.returns-in_err-put_plain-in_default
unfolding done_if
returns-in_err-put_plain-in_default c =
    let p = err_from_is_err_and c.from_residual.result c.from_residual.ensures.1 in
    rw p.1
    (plain-tried c.requires.0 c.seen-c.ensures c.requires.1 (λ e. c.in_default.not-Join (one_number _ Kind.Join e)) (λ e. c.in_default.not-Loop (one_number _ Kind.Loop e)) _ c.put_plain.result (Err _) (rw (c.in_err-put_plain-in_default.was, p.2)) c.put_plain.ensures)
