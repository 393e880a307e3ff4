use mathlib.Core.Path.{sym, ◌∙◌}
use mathlib.Core.Logic.{inl, inr, ⊎_elim}
use native.Mathlib.Omega.{arith}
use Rattle.rules.specs.Grammar.{statement_number}
use Rattle.tables.proofs.RowKinds.{computes}
use Rattle.run_steps.proofs.Doing.{fits}
use Rattle.machine.proofs.Stepping as Stepping
use Rattle.machine.proofs.step.Goals as goal

pub compute_step-requires : goal.compute_step-requires
compute_step-requires c = (c.requires.0, computes _ (grind (arith, c.kind_at.ensures)) (grind (arith, c.kind_at.ensures)))

pub returns-in-8 : goal.returns-in-8
unfolding statement_number
returns-in-8 c = Stepping.does-as (Stepping.set_is _ (sym c.kind_at.ensures ∙ c.in-8.is)) c.set_step.ensures

pub returns-in-9 : goal.returns-in-9
unfolding statement_number
returns-in-9 c = Stepping.does-as (Stepping.let-is _ (sym c.kind_at.ensures ∙ c.in-9.is)) c.let_step.ensures

pub returns-in-10 : goal.returns-in-10
unfolding statement_number
returns-in-10 c = Stepping.does-as (Stepping.new_is _ c.requires.0 (sym c.kind_at.ensures ∙ c.in-10.is)) c.new_step.ensures

pub returns-in-11 : goal.returns-in-11
unfolding statement_number
returns-in-11 c = Stepping.does-as (Stepping.call-is _ c.requires.0 (sym c.kind_at.ensures ∙ c.in-11.is)) c.call_step.ensures

pub returns-in-12 : goal.returns-in-12
unfolding statement_number
returns-in-12 c =
    Stepping.does-as (Stepping.back_is _ (⊎_elim (λ e. inl (sym c.kind_at.ensures ∙ e)) (λ e. inr (sym c.kind_at.ensures ∙ e)) c.in-12.is)) c.back_step.ensures

pub returns-in-13 : goal.returns-in-13
unfolding statement_number
returns-in-13 c =
    Stepping.does-as (Stepping.assert-is _ (⊎_elim (λ e. inl (sym c.kind_at.ensures ∙ e)) (λ e. inr (sym c.kind_at.ensures ∙ e)) c.in-13.is)) c.assert_step.ensures

pub returns-in-14 : goal.returns-in-14
unfolding statement_number
returns-in-14 c = Stepping.does-as (Stepping.release-is _ (sym c.kind_at.ensures ∙ c.in-14.is)) c.release_step.ensures

pub returns-in-15 : goal.returns-in-15
unfolding statement_number
returns-in-15 c = Stepping.does-as (Stepping.if-is _ (sym c.kind_at.ensures ∙ c.in-15.is)) c.if_step.ensures

pub returns-in-21 : goal.returns-in-21
unfolding statement_number
returns-in-21 c = Stepping.does-as (Stepping.loop-is _ (sym c.kind_at.ensures ∙ c.in-21.is)) c.loop_step.ensures

pub returns-in-16 : goal.returns-in-16
unfolding statement_number
returns-in-16 c =
    Stepping.does-as (Stepping.jump-is _ (⊎_elim (λ e. inl (sym c.kind_at.ensures ∙ e)) (λ e. inr (sym c.kind_at.ensures ∙ e)) c.in-16.is)) c.jump_step.ensures

pub returns-in-23 : goal.returns-in-23
unfolding statement_number
returns-in-23 c = Stepping.does-as (Stepping.open_is _ (sym c.kind_at.ensures ∙ c.in-23.is)) c.open_step.ensures

pub returns-in-24 : goal.returns-in-24
unfolding statement_number
returns-in-24 c = Stepping.does-as (Stepping.shut-is _ (sym c.kind_at.ensures ∙ c.in-24.is)) c.shut_step.ensures

pub returns-in-19 : goal.returns-in-19
returns-in-19 c =
    Stepping.does-as (Stepping.compute-is _ (computes _ (grind (arith, c.kind_at.ensures)) (grind (arith, c.kind_at.ensures)))) c.compute_step.ensures

pub returns-in-0-to-7 : goal.returns-in-0-to-7
returns-in-0-to-7 c = absurd (omega (arith, c.kind_at.ensures, (fits c.requires.0).kind))
