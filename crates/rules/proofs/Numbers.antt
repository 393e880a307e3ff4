-- `add` and `sub` are those of integers: the result's 32 bits are those of the sum or difference, and a step stops where it has none.
use mathlib.Core.Path.{◌≡◌, subst}
use Prim.Native.Nat.{ℕ, ◌+◌, ◌%◌, ◌≤◌, ◌<◌}
use native.Mathlib.Omega.{arith}
use lib.Dec.{T, leb, ltb, leb→le, le→leb, ltb→lt, lt→ltb}
use Rattle.rules.specs.Base.{ok}
use Rattle.rules.specs.Answers.{overflow}
use Rattle.rules.specs.Syntax.{Operation, sum, difference, words, sign, offset}
use Rattle.rules.specs.Machine.{raised, in_range, computed}
use Rattle.rules.proofs.Lists.{and_both, and_intro}
use Rattle.rules.proofs.Tries.{check-ok, ok-inj, pass}

-- v has the 32 bits of the integer p − q
pub record Bits (v p q : ℕ) : Type 0 where
  pub small : v < words
  pub value : offset v + q ≡ p + sign

-- an integer that 32 bits hold
pub Fits : ℕ → ℕ → Type 0
Fits p q = (q ≤ p + sign) × (p < q + sign)

-- the offset of a result
offset-result : (n : ℕ) → sign ≤ n → n < words + sign → offset (n % words) + sign ≡ n
unfolding offset
offset-result n a z = omega arith

offset-small : (v : ℕ) → offset v < words
unfolding offset
offset-small v = omega arith

module _ (v w p q r s : ℕ) (B : Bits v p q) (C : Bits w r s) where
  raised-sum : raised sum v w + (q + s) ≡ (p + r) + words
  unfolding raised
  raised-sum = omega (arith, B.value, C.value)

  raised-difference : raised difference v w + (q + r) ≡ (p + s) + words
  unfolding raised
  raised-difference = omega (arith, B.value, C.value, offset-small w)

-- what is computed of n, which is p − q and 2^32 more
module _ (n p q : ℕ) (is : n + q ≡ p + words) where
  result-bits : T (in_range n) → Bits (n % words) p q
  unfolding in_range
  result-bits t =
      let (a, z) = and_both (leb sign n) (ltb n (words + sign)) t in
      let e : offset (n % words) + sign ≡ n = offset-result n (leb→le sign n a) (ltb→lt n (words + sign) z) in
      record { small = omega arith; value = omega (arith, e, is) }

  result_fits : T (in_range n) → Fits p q
  unfolding in_range Fits
  result_fits t =
      let (a, z) = and_both (leb sign n) (ltb n (words + sign)) t in
      (omega (arith, leb→le sign n a, is), omega (arith, ltb→lt n (words + sign) z, is))

  fits-result : Fits p q → T (in_range n)
  unfolding in_range Fits
  fits-result f =
      and_intro (leb sign n) (ltb n (words + sign))
      (le→leb sign n (omega (arith, f.0, is))) (lt→ltb n (words + sign) (omega (arith, f.1, is)))

-- THE LAW: what is computed of y and z, and that it is computed just where the result fits
pub record Computes (o : Operation) (v w p q : ℕ) : Type 0 where
  pub right : (u : ℕ) → computed o v w ≡ ok u → Bits u p q × Fits p q
  pub fits : Fits p q → (u : ℕ) × (computed o v w ≡ ok u)

computes : (o : Operation) (v w p q : ℕ) → raised o v w + q ≡ p + words → Computes o v w p q
unfolding computed
computes o v w p q is =
    record {
      right =
          λ u e.
          let (t, i) = check-ok _ overflow e in
          (subst (λ u. Bits u p q) (ok-inj i) (result-bits (raised o v w) p q is t), result_fits (raised o v w) p q is t);
      fits = λ f. (raised o v w % words, pass _ overflow _ (fits-result (raised o v w) p q is f));
    }

pub computes-sum : (v w p q r s : ℕ) → Bits v p q → Bits w r s → Computes sum v w (p + r) (q + s)
computes-sum v w p q r s B C = computes sum v w (p + r) (q + s) (raised-sum v w p q r s B C)

pub computes-difference : (v w p q r s : ℕ) → Bits v p q → Bits w r s → Computes difference v w (p + s) (q + r)
computes-difference v w p q r s B C = computes difference v w (p + s) (q + r) (raised-difference v w p q r s B C)
