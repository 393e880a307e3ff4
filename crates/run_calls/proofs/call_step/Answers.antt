use mathlib.Core.Path.{subst}
use Rattle.run_calls.specs.Calls.{Admits}
use native.Mathlib.Omega.{arith}
use mathlib.Core.Path.{ap, ◌∙◌}
use Rattle.run_calls.proofs.Calling.{call-null-does, calling, calls}
use Rattle.run_steps.proofs.Doing.{size, fits, frames-fit, row_small, base-fits}
use Rattle.run_heap.specs.Views.{variable_at}
use borrow.Author.Rules.{rules}
use Rattle.rules.specs.Grammar.{statement_number}
use Rattle.run_calls.proofs.call_step.Goals as goal

pub variable-o-requires : goal.variable-o-requires
variable-o-requires c =
    (omega (arith, base-fits c.requires.0 c.view_of-v.ensures, size c.requires.0), omega (arith, c.y_at-y.ensures.0, (fits c.requires.0).y))

pub returns-then-o-eq0 : goal.returns-then-o-eq0
returns-then-o-eq0 c =
    call-null-does c.requires.0 c.requires.1 _ _ c.y_at-y.ensures.0 (c.variable-o.ensures ∙ ap (λ u. variable_at c.args.work.now u.base c.y_at-y.result) c.view_of-v.ensures) c.if-o-eq0.true

pub variable-p-requires : goal.variable-p-requires
variable-p-requires c =
    (omega (arith, base-fits c.requires.0 c.view_of-v.ensures, size c.requires.0), omega (arith, c.z_at-z.ensures.0, (fits c.requires.0).z))

pub prepare-requires : goal.prepare-requires
unfolding statement_number
prepare-requires c =
    (frames-fit c.requires.0, (row_small c.requires.0, omega (arith, c.member_at-m.ensures.0, (fits c.requires.0).method c.requires.1, c.requires.0.represents.tables.methods)))

pub admit-requires : goal.admit-requires
admit-requires c =
    rw c.prepare.ensures (calling c.requires.0 c.requires.1 _ _ _ _ _ c.y_at-y.ensures.0 c.z_at-z.ensures.0 c.member_at-m.ensures.0
    (c.variable-o.ensures ∙ ap (λ u. variable_at c.args.work.now u.base c.y_at-y.result) c.view_of-v.ensures)
    (c.variable-p.ensures ∙ ap (λ u. variable_at c.args.work.now u.base c.z_at-z.result) c.view_of-v.ensures)
    (search rules) (search rules))

pub returns : goal.returns
returns c =
    calls c.requires.0 c.requires.1 _ _ _ _ _ c.y_at-y.ensures.0 c.z_at-z.ensures.0 c.member_at-m.ensures.0
    (c.variable-o.ensures ∙ ap (λ u. variable_at c.args.work.now u.base c.y_at-y.result) c.view_of-v.ensures)
    (c.variable-p.ensures ∙ ap (λ u. variable_at c.args.work.now u.base c.z_at-z.result) c.view_of-v.ensures)
    (search rules) (search rules) c.admit.new.work c.admit.result c.if-o-eq0.false
    (subst (λ u. Admits u c.args.c c.member_at-m.result c.admit.new.work c.admit.result) c.prepare.ensures c.admit.ensures)
