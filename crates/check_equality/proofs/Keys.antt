-- A key is a term's alone.
use mathlib.Core.Path.{◌≡◌, refl, sym, ap, ap₂, ◌∙◌}
use mathlib.Core.Bool.{Bool, true, false, cond}
use Prim.Native.Nat.{ℕ, ◌+◌, ◌*◌, ◌-◌, ◌/◌, ◌%◌, ◌≤◌, ◌<◌}
use native.Mathlib.Omega.{arith}
use lib.Dec.{eqb, ltb}
use borrow.Author.Tests.{lt-ltb, le-ltb, ne_eqb, ltb-false, eqb-true, eqb-false}
use Rattle.rules.specs.Syntax.{same, num, null, var, path}
use Rattle.rules.proofs.Closure.{same→≡, same_refl}
use Rattle.rules.proofs.Lists.{T_true, F-false}
use Rattle.check_equality.specs.Keys.{term_of, key_of}

pub of-variable : (k : ℕ) → k < 256 → term_of k ≡ var k
unfolding term_of
of-variable k h = rw (lt-ltb k 256 h)

pub of-null : term_of 256 ≡ null
unfolding term_of
of-null = refl

pub of-path : (x f : ℕ) → x < 256 → f < 256 → term_of (257 + x * 256 + f) ≡ path x f
unfolding term_of
of-path x f h g =
    let k : ℕ = 257 + x * 256 + f in
    let a : (k - 257) / 256 ≡ x = omega arith in
    let b : (k - 257) % 256 ≡ f = omega arith in
    rw (le-ltb k 256 (omega arith), ne_eqb k 256 (omega arith), lt-ltb k 65793 (omega arith)) (ap₂ path a b)

pub of_number : (n : ℕ) → term_of (65793 + n) ≡ num n
unfolding term_of
of_number n =
    let k : ℕ = 65793 + n in
    let a : k - 65793 ≡ n = omega arith in
    rw (le-ltb k 256 (omega arith), ne_eqb k 256 (omega arith), le-ltb k 65793 (omega arith)) (ap num a)

-- the key of a key's term
pub back : (k : ℕ) → key_of (term_of k) ≡ k
unfolding term_of key_of
back k = small (ltb k 256) refl
  where
    last : (c : Bool) → ltb k 65793 ≡ c → 257 ≤ k → key_of (cond c (path ((k - 257) / 256) ((k - 257) % 256)) (num (k - 65793))) ≡ k
    last true e h = let d : 257 + (k - 257) / 256 * 256 + (k - 257) % 256 ≡ k = omega arith in d
    last false e h = let d : 65793 + (k - 65793) ≡ k = omega (arith, ltb-false k 65793 e) in d

    middle : (c : Bool) → eqb k 256 ≡ c → 256 ≤ k → key_of (cond c null (cond (ltb k 65793) (path ((k - 257) / 256) ((k - 257) % 256)) (num (k - 65793)))) ≡ k
    middle true e h = sym (eqb-true k 256 e)
    middle false e h = let n : k ≡ 256 → ⊥ = eqb-false k 256 e in last (ltb k 65793) refl (omega arith)

    small : (c : Bool) → ltb k 256 ≡ c → key_of (cond c (var k) (cond (eqb k 256) null (cond (ltb k 65793) (path ((k - 257) / 256) ((k - 257) % 256)) (num (k - 65793))))) ≡ k
    small true e = refl
    small false e = middle (eqb k 256) refl (omega (arith, ltb-false k 256 e))

pub one_key : (k l : ℕ) → term_of k ≡ term_of l → k ≡ l
one_key k l e = sym (back k) ∙ ap key_of e ∙ back l

pub same_key : (k l : ℕ) → same (term_of k) (term_of l) ≡ eqb k l
same_key k l = go (eqb k l) refl
  where
    go : (c : Bool) → eqb k l ≡ c → same (term_of k) (term_of l) ≡ c
    go true e = rw (eqb-true k l e) (T_true _ (same_refl (term_of l)))
    go false e = F-false _ (λ t. eqb-false k l e (one_key k l (same→≡ _ _ t)))
