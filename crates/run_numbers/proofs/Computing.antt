-- What is computed, by the test that the code does.
use mathlib.Core.Path.{◌≡◌, refl, sym, ap, ◌∙◌}
use mathlib.Core.Bool.{true, false}
use Prim.Native.Nat.{ℕ, zero, suc, ◌+◌, ◌-◌, ◌*◌, ◌/◌, ◌%◌, ◌≤◌, ◌<◌}
use native.Mathlib.Omega.{arith}
use Rattle.rules.specs.Base.{Try, ok, no, check, ◌>>◌}
use Rattle.rules.specs.Answers.{Stop, overflow}
use Rattle.rules.specs.Syntax.{Operation, sum, difference, words, sign, offset}
use Rattle.rules.specs.Machine.{raised, in_range, computed}
use Rattle.std.specs.Prelude.{Option, Some, None, Ok, Err, ok_or}
use Rattle.run_numbers.specs.Computing.{computed_is}

-- what the answer says of it
module _ (r : Option ℕ) {t : Try Stop ℕ} (is : computed_is r ≡ t) where
  pub has_value : (n : ℕ) → r ≡ Some n → t ≡ ok n
  unfolding computed_is
  has_value n e = sym is ∙ ap computed_is e

  pub has-none : r ≡ None → t ≡ no overflow
  unfolding computed_is
  has-none e = sym is ∙ ap computed_is e

-- and where it is asked for a value or else d
module _ {E : Type 0} (d : E) where
  pub value_asked : (r : Option ℕ) (n : ℕ) → ok_or r d ≡ Ok n → r ≡ Some n
  value_asked None n e = absurd (cc)
  value_asked (Some k) n e = cc

  pub none-asked : (r : Option ℕ) (x : E) → ok_or r d ≡ Err x → (r ≡ None) × (x ≡ d)
  none-asked None x e = (refl, cc)
  none-asked (Some k) x e = absurd (cc)

module _ (o : Operation) (v w n : ℕ) (is : n ≡ raised o v w) where
  pub computed_value : in_range n ≡ true → {r : ℕ} → r ≡ raised o v w % words → ok r ≡ computed o v w
  unfolding computed check ◌>>◌
  computed_value t e = ap ok (e ∙ ap (λ (i : ℕ). i % words) (sym is)) ∙ rw (← is, t)

  pub computed-stop : in_range n ≡ false → no overflow ≡ computed o v w
  unfolding computed check ◌>>◌
  computed-stop t = rw (← is, t)

-- THE 32 BITS: numbers that differ by rounds have the same
rounds : (a b t : ℕ) → b + t * words ≡ a + words → a % words ≡ b % words
rounds a b t e = omega (arith, e)

offset-small : (v : ℕ) → offset v < words
unfolding offset
offset-small v = omega arith

round-of : (v : ℕ) → offset v + (v + sign) / words * words ≡ v + sign
unfolding offset
round-of v = omega arith

pub low_sum : (v w : ℕ) → (v + w) % words ≡ raised sum v w % words
unfolding raised
low_sum v w =
    rounds (v + w) (offset v + offset w) ((v + sign) / words + (w + sign) / words) (omega (arith, round-of v, round-of w))

pub low-difference : (v w : ℕ) → w < words → (v + (words - w)) % words ≡ raised difference v w % words
unfolding raised
low-difference v w l = go ((w + sign) / words) (round-of w) (omega arith)
  where
    go : (t : ℕ) → offset w + t * words ≡ w + sign → t ≤ 1 → (v + (words - w)) % words ≡ (offset v + (words - offset w)) % words
    go zero e k = rounds (v + (words - w)) (offset v + (words - offset w)) ((v + sign) / words + 1) (omega (arith, round-of v, e, offset-small w))
    go (suc t) e k = rounds (v + (words - w)) (offset v + (words - offset w)) ((v + sign) / words) (omega (arith, round-of v, e, offset-small w))
