use mathlib.Core.Path.{◌≡◌, sym, ap, ◌∙◌, subst}
use Prim.Native.Nat.{ℕ, ◌<◌}
use lib.Dec.{T}
use Rattle.rules.specs.Grammar.{is_computing}
use Rattle.run_numbers.proofs.Computing.{has_value, has-none, value_asked, none-asked}
use native.Mathlib.Omega.{arith}
use Rattle.std.specs.Prelude.{Err}
use Rattle.run_heap.proofs.Reading.{passed-on}
use Rattle.lean_heap.specs.declared.Stop.{Stop}
use Rattle.lean_heap.proofs.Following.{does-answer, has-row, has_base, y-small, z-small}
use Rattle.lean_steps.proofs.Doing.{compute-does, compute-stops}
use borrow.Author.Rules.{rules}
use Rattle.lean_steps.proofs.compute_step.Goals as goal

-- the row computes
computing-at : {k i : ℕ} → (k ≡ i) × T (is_computing k) → T (is_computing i)
computing-at (e, t) = subst (λ k. T (is_computing k)) e t

pub variable-y-requires : goal.variable-y-requires
variable-y-requires c =
    (has_base c.requires.0 c.base_of-b.ensures.0, y-small c.requires.0 c.y_at.ensures.0)

pub variable-z-requires : goal.variable-z-requires
variable-z-requires c =
    (has_base c.requires.0 c.base_of-b.ensures.0, z-small c.requires.0 c.z_at.ensures.0)

pub overflow_add-c : goal.overflow_add-c
overflow_add-c c =
    omega (arith, has-row c.requires.0)

pub returns : goal.returns
returns c =
    let n-fits : c.in_ok-n.n < 4294967296 = search rules in
    compute-does c.requires.0 (computing-at c.requires.1) _ _ _ _ _ _ c.base_of-b.ensures.0 c.y_at.ensures.0 c.z_at.ensures.0 c.requires.1.0 c.variable-y.ensures c.variable-z.ensures
    _ _ c.x_at-x.ensures.0 n-fits (has_value _ c.compute.ensures _ (value_asked Stop.Overflow _ _ (sym c.ok_or.ensures.value ∙ c.in_ok-n.was))) c.put_word.ensures c.next.ensures

pub returns-in_err-n : goal.returns-in_err-n
returns-in_err-n c =
    let (none, f) = none-asked Stop.Overflow c.compute.result _ (sym c.ok_or.ensures.value ∙ c.in_err-n.was) in
    does-answer (sym (passed-on _ _ c.from_residual.ensures.1 ∙ ap Err f))
    (compute-stops c.requires.0 (computing-at c.requires.1) _ _ _ _ _ _ c.base_of-b.ensures.0 c.y_at.ensures.0 c.z_at.ensures.0 c.requires.1.0 c.variable-y.ensures c.variable-z.ensures (has-none _ c.compute.ensures none))
