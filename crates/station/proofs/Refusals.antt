-- `station::check` refuses a text that is read with 10 to 14, at a line of the text. The statement is that of specs/Refusals.
use mathlib.Core.Path.{◌≡◌, sym, ap, subst, ◌∙◌}
use mathlib.Core.Logic.{inl, inr, ⊎_elim}
use Prim.Native.Nat.{ℕ, ◌/◌, ◌%◌}
use native.Mathlib.Omega.{arith}
use Rattle.rules.specs.Calls.{check_text}
use Rattle.rules.specs.Areas.{packed}
use Rattle.rules.specs.Refusals.{FromRules, LineOf}
use Rattle.soundness.proofs.RefusedAtALine.{refused-at-a-line}
use Rattle.widths.proofs.Returned.{number-packed, line-packed, fits}
use Rattle.station.specs.Refusals.{ReturnsAtALine}
use Rattle.station.proofs.Demand3.{check-returned}

pub zero-returned : (p : ℕ × ℕ) → p ≡ (0, 0) → packed p.0 p.1 ≡ 0
unfolding packed
zero-returned p e = ap (λ (q : ℕ × ℕ). packed q.0 q.1) e

pub returns-at-a-line : ReturnsAtALine
returns-at-a-line t area items n e =
    let c = check-returned t area n in
    let small = (fits t 0 (omega arith)).check-line in
    ⊎_elim
    (λ z. inl (c ∙ zero-returned (check_text t) z))
    (λ f.
    inr (
      subst FromRules (sym (ap (λ (r : ℕ). r / 65536) c ∙ number-packed _ _ small)) f.0,
      subst (LineOf t) (sym (ap (λ (r : ℕ). r % 65536) c ∙ line-packed _ _ small)) f.1,
    ))
    (refused-at-a-line t items e)
