use Rattle.check_rows.proofs.Operands.{no_kind}
use Rattle.tables.proofs.RowKinds.{computes}
use Rattle.tables.proofs.Statements.{set-means, let-means, new-means, call-means, compute-means, assert-means, release-means, open-means, shut-means}
use mathlib.Core.Path.{sym, ◌∙◌}
use native.Mathlib.Omega.{arith}
use Rattle.check_rows.proofs.statement.Goals as goal

pub returns-in-8 : goal.returns-in-8
returns-in-8 c =
    record { statement = _; is = set-means _ _ (sym c.kind_at.ensures ∙ c.in-8.is); adds = c.set_at.ensures }

pub returns-in-9 : goal.returns-in-9
returns-in-9 c =
    record { statement = _; is = let-means _ _ (sym c.kind_at.ensures ∙ c.in-9.is); adds = c.let_at.ensures }

pub returns-in-10 : goal.returns-in-10
returns-in-10 c =
    record { statement = _; is = new-means _ _ (sym c.kind_at.ensures ∙ c.in-10.is); adds = c.new_at.ensures }

pub returns-in-11 : goal.returns-in-11
returns-in-11 c =
    record { statement = _; is = call-means _ _ (sym c.kind_at.ensures ∙ c.in-11.is); adds = c.call_at.ensures }

pub returns-in-13 : goal.returns-in-13
returns-in-13 c = record { statement = _; is = assert-means _ _ (sym c.kind_at.ensures ∙ c.in-13.is); adds = c.assert_at.ensures }

pub returns-in-14 : goal.returns-in-14
returns-in-14 c = record { statement = _; is = release-means _ _ (sym c.kind_at.ensures ∙ c.in-14.is); adds = c.release_at.ensures }

pub returns-in-23 : goal.returns-in-23
returns-in-23 c = record { statement = _; is = open-means _ _ (sym c.kind_at.ensures ∙ c.in-23.is); adds = c.open_at.ensures }

pub returns-in-24 : goal.returns-in-24
returns-in-24 c = record { statement = _; is = shut-means _ _ (sym c.kind_at.ensures ∙ c.in-24.is); adds = c.shut_at.ensures }

pub returns-in-19 : goal.returns-in-19
returns-in-19 c =
    record { statement = _; is = compute-means _ _ (computes _ (omega (arith, c.kind_at.ensures)) (omega (arith, c.kind_at.ensures))); adds = c.compute_at.ensures }

pub returns-in-0-to-7 : goal.returns-in-0-to-7
returns-in-0-to-7 c =
    let k = c.kind_at.ensures in
    absurd
    (no_kind _ (c.requires.0.row_fits c.args.i c.requires.1).operands.kind c.requires.2 (λ e. omega (arith, k, e)) (λ e. omega (arith, k, e)) (λ e. omega (arith, k, e)) (λ e. omega (arith, k, e)) (λ e. omega (arith, k, e))
    (λ e. omega (arith, k, e)) (λ e. omega (arith, k, e)) (λ e. omega (arith, k, e)) (λ e. omega (arith, k, e)) (λ e. omega (arith, k, e)))

pub returns-in-0-to-7-2 : goal.returns-in-0-to-7-2
returns-in-0-to-7-2 c =
    let k = c.kind_at.ensures in
    absurd
    (no_kind _ (c.requires.0.row_fits c.args.i c.requires.1).operands.kind c.requires.2 (λ e. omega (arith, k, e)) (λ e. omega (arith, k, e)) (λ e. omega (arith, k, e)) (λ e. omega (arith, k, e)) (λ e. omega (arith, k, e))
    (λ e. omega (arith, k, e)) (λ e. omega (arith, k, e)) (λ e. omega (arith, k, e)) (λ e. omega (arith, k, e)) (λ e. omega (arith, k, e)))

pub returns-in-0-to-7-3 : goal.returns-in-0-to-7-3
returns-in-0-to-7-3 c =
    let k = c.kind_at.ensures in
    absurd
    (no_kind _ (c.requires.0.row_fits c.args.i c.requires.1).operands.kind c.requires.2 (λ e. omega (arith, k, e)) (λ e. omega (arith, k, e)) (λ e. omega (arith, k, e)) (λ e. omega (arith, k, e)) (λ e. omega (arith, k, e))
    (λ e. omega (arith, k, e)) (λ e. omega (arith, k, e)) (λ e. omega (arith, k, e)) (λ e. omega (arith, k, e)) (λ e. omega (arith, k, e)))
