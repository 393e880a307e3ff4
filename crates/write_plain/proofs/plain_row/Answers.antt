use native.Mathlib.Omega.{arith}
use borrow.Author.Tests.{ne_eqb}
use Rattle.rules.specs.Grammar.{statement_number, is_computing}
use Rattle.write_plain.specs.Plain.{plain_row, plain_judged}
use Rattle.write_plain.proofs.plain_row.Goals as goal

pub returns-in-8 : goal.returns-in-8
unfolding plain_row plain_judged
returns-in-8 c = rw c.in-8.is c.set_row.ensures

pub returns-in-10 : goal.returns-in-10
unfolding plain_row plain_judged
returns-in-10 c = rw c.in-10.is c.new_row.ensures

pub returns-in-11 : goal.returns-in-11
unfolding plain_row plain_judged
returns-in-11 c = rw c.in-11.is c.call_row.ensures

pub returns-in-12 : goal.returns-in-12
unfolding plain_row plain_judged
returns-in-12 c = rw c.in-12.is c.return_row.ensures

pub returns-in-19 : goal.returns-in-19
unfolding plain_row plain_judged is_computing statement_number
returns-in-19 c = rw c.in-19.is c.compute_row.ensures

pub returns-in-20 : goal.returns-in-20
unfolding plain_row plain_judged is_computing statement_number
returns-in-20 c = rw c.in-20.is c.compute_row-in-20.ensures

pub returns-in-23 : goal.returns-in-23
unfolding plain_row plain_judged is_computing statement_number
returns-in-23 c = rw c.in-23.is c.open_row.ensures

pub returns-in-24 : goal.returns-in-24
unfolding plain_row plain_judged is_computing statement_number
returns-in-24 c = rw c.in-24.is c.shut_row.ensures

pub returns-in_default : goal.returns-in_default
unfolding plain_row plain_judged is_computing statement_number
returns-in_default c =
    rw (
      ne_eqb c.args.kind 8 (λ e. omega (arith, e)),
      ne_eqb c.args.kind 10 (λ e. omega (arith, e)),
      ne_eqb c.args.kind 11 (λ e. omega (arith, e)),
      ne_eqb c.args.kind 12 (λ e. omega (arith, e)),
      ne_eqb c.args.kind 19 (λ e. omega (arith, e)),
      ne_eqb c.args.kind 20 (λ e. omega (arith, e)),
      ne_eqb c.args.kind 23 (λ e. omega (arith, e)),
      ne_eqb c.args.kind 24 (λ e. omega (arith, e)),
      ← c.row.ensures,
    )
    c.row_if.ensures
