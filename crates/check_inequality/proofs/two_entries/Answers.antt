use Rattle.check_inequality.proofs.Pairs.{two_past, two-found, two-neither, two-without-t, two-without-u, two-unnamed}
use Rattle.check_inequality.proofs.Searches.{or-none-left, or-none-right}
use Rattle.check_state.specs.States.{permission_at}
use Rattle.check_equality.proofs.Listing.{any-past, any_found}
use lib.Dec.{ltb}
use borrow.Author.Tests.{ltb-true, ltb-false}
use Prim.Native.Nat.{ℕ, max}
use mathlib.Core.Bool.{Bool, true, false}
use mathlib.Core.Logic.{◌⊎◌, inl, inr, ⊎_elim}
use mathlib.Core.Path.{◌≡◌, refl, sym, ◌∙◌}
use native.Mathlib.Omega.{arith}
use Rattle.check_inequality.proofs.two_entries.Goals as goal
use Rattle.check_inequality.proofs.two_entries.Goals.{then-p-q+else-loop-j-test, else-p-q}

one_of : (a b : ℕ) → (max a b ≡ a) ⊎ (max a b ≡ b)
one_of a b = go (ltb a b) refl
  where
    go : (c : Bool) → ltb a b ≡ c → (max a b ≡ a) ⊎ (max a b ≡ b)
    go true e = inr (omega (arith, ltb-true a b e))
    go false e = inl (omega (arith, ltb-false a b e))

pub entries-init : goal.entries-init
entries-init c =
    let entry = permission_at c.args.known.now.bytes in (
      refl,
      λ fs D.
          rw c.max-i.ensures
          (⊎_elim (λ e. rw e (two-without-t _ c.args.t c.args.u entry _ (c.first_named-s.ensures.1 fs D).before))
          (λ e. rw e (two-without-u _ c.args.t c.args.u entry _ (c.first_named-v.ensures.1 fs D).before))
          (one_of c.first_named-s.result c.first_named-v.result)),
    )

pub loop-j-init : goal.loop-j-init
loop-j-init c = (
  c.entries.invariant.0,
  λ fs D. two-unnamed _ c.args.t c.args.u (permission_at c.args.known.now.bytes) _ _
      (λ i l. (c.first_named-s.ensures.1 fs D).before i (omega (arith, l, c.min-first.ensures)))
      (λ i l. (c.first_named-v.ensures.1 fs D).before i (omega (arith, l, c.min-first.ensures))),
)

pub loop-j-preserved : goal.loop-j-preserved
loop-j-preserved c =
    (c.loop-j.invariant.0, λ fs D. any-past _ (permission_at c.args.known.now.bytes) _ (c.loop-j.invariant.1 fs D) (sym (c.pair.ensures fs D (c.variable_is-p.ensures fs D) (c.variable_is-q.ensures fs D)) ∙ c.if-pair.false))

pub entries-preserved : goal.entries-preserved
entries-preserved c = (
  elim c.if-p-q.branch [
    | then-p-q+else-loop-j-test w ↦ w.found-is ∙ w.loop-j.invariant.0
    | else-p-q w ↦ w.found-is ∙ c.entries.invariant.0
  ],
  λ fs D. two_past _ _ _ (permission_at c.args.known.now.bytes) _ (c.entries.invariant.1 fs D) (elim c.if-p-q.branch [
    | then-p-q+else-loop-j-test w ↦
        let e : w.loop-j.j ≡ c.entries.i = omega (arith, w.loop-j-test.false) in
        rw e at (w.loop-j.invariant.1 fs D)
    | else-p-q w ↦
        two-neither _ _ _ _ _ (sym (c.variable_is-p.ensures fs D) ∙ or-none-left c.variable_is-p.result c.variable_is-q.result w.if-p-q.false)
        (sym (c.variable_is-q.ensures fs D) ∙ or-none-right c.variable_is-p.result c.variable_is-q.result w.if-p-q.false)
  ]),
)

pub returns-then-pair : goal.returns-then-pair
returns-then-pair c =
    λ fs D. sym (two-found _ _ _ (permission_at c.args.known.now.bytes) _ c.entries.i c.entries-test.true (any_found _ (permission_at c.args.known.now.bytes) _ c.loop-j.j c.loop-j-test.true (sym (c.pair.ensures fs D (c.variable_is-p.ensures fs D) (c.variable_is-q.ensures
    fs D)) ∙ c.if-pair.true)))
