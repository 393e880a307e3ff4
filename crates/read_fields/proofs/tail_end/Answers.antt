use Rattle.read_fields.specs.Spans.{condition_first}
use borrow.Author.Tests.{ne_eqb}
use native.Mathlib.Omega.{arith}
use Rattle.read_grammar.specs.Rows.{fits_tail}
use Rattle.read_fields.proofs.Heads.{condition-only, condition-then}
use Rattle.read_fields.proofs.Spans.{read_as}
use Rattle.read_fields.proofs.tail_end.Goals as goal

pub returns-in-1 : goal.returns-in-1
unfolding fits_tail
returns-in-1 c =
    read_as (condition_first 1) (fits_tail c.args.tail) c.args.t.now c.args.r c.condition_end.result
    (rw c.in-1.is (condition-only _)) c.condition_end.ensures

pub returns-in_default : goal.returns-in_default
unfolding fits_tail
returns-in_default c =
    read_as (condition_first 9) (fits_tail c.args.tail) c.args.t.now c.args.r c.condition_end-in_default.result
    (rw (ne_eqb c.args.tail 0 (λ e. omega (arith, e)), ne_eqb c.args.tail 1 (λ e. omega (arith, e)), ne_eqb c.args.tail 2 (λ e. omega (arith, e))) (condition-then 8 _)) c.condition_end-in_default.ensures
