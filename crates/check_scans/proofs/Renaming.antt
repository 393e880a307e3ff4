-- Renaming a variable in a key.
use Rattle.std.proofs.Common.{◌≡◌, ℕ, ◌+◌, ◌-◌, ◌*◌, ◌/◌, ◌%◌, ◌^◌, ◌<◌, ◌≤◌, Bool, true, false, cond, ◌&&◌, eqb, ltb, leb, ◌⊎◌, refl, ap, ◌∙◌, inl, inr, ⊎_elim, arith, ltb-false, ltb-true, le-ltb, lt-ltb, eq-eqb, ne_eqb, le-leb, leb-false, leb-true}
use mathlib.Core.Option.{none, some}
use borrow.Author.Tests.{lt-leb}
use Rattle.rules.specs.Base.{bind_option}
use Rattle.rules.specs.Syntax.{var, path}
use Rattle.rules.specs.State.{rename_variable, rename_term}
use Rattle.rules.proofs.Lists.{decide_eq}
use Rattle.check_equality.specs.Keys.{term_of}
use Rattle.check_equality.proofs.Keys.{of-variable, of-null, of-path, of_number}
use Rattle.check_scans.specs.Sides.{renamed_key, mentions_key}

-- WHAT A KEY IS
data Kind (k : ℕ) : Type 0 where
  a-variable : k < 256 → Kind k
  a-null : k ≡ 256 → Kind k
  a-path : (v f : ℕ) → v < 256 → f < 256 → k ≡ 257 + v * 256 + f → Kind k
  a-number : (n : ℕ) → k ≡ 65793 + n → Kind k

kind : (k : ℕ) → Kind k
kind k = small (ltb k 256) refl
  where
    large : (c : Bool) → ltb k 65793 ≡ c → 256 < k → Kind k
    large true e h = a-path ((k - 257) / 256) ((k - 257) % 256) (omega (arith, ltb-true k 65793 e)) (omega arith) (omega arith)
    large false e h = a-number (k - 65793) (omega (arith, ltb-false k 65793 e))

    middle : (k ≡ 256) ⊎ (k ≡ 256 → ⊥) → 256 ≤ k → Kind k
    middle (inl e) h = a-null e
    middle (inr n) h = large (ltb k 65793) refl (omega arith)

    small : (c : Bool) → ltb k 256 ≡ c → Kind k
    small true e = a-variable (ltb-true k 256 e)
    small false e = middle (decide_eq k 256) (ltb-false k 256 e)

-- THE KEY RENAMED
module _ (x to k : ℕ) where
  pub renamed-variable : k ≡ x → renamed_key x to k ≡ to
  unfolding renamed_key
  renamed-variable e = rw (eq-eqb k x e)

  pub renamed-below : (k ≡ x → ⊥) → k < 257 + x * 256 → renamed_key x to k ≡ k
  unfolding renamed_key
  renamed-below n h = rw (ne_eqb k x n, lt-leb (257 + x * 256) k h)

  pub renamed-path : (k ≡ x → ⊥) → 257 + x * 256 ≤ k → k - (257 + x * 256) < 256 → renamed_key x to k ≡ 257 + to * 256 + (k - (257 + x * 256))
  unfolding renamed_key
  renamed-path n h g = rw (ne_eqb k x n, le-leb (257 + x * 256) k h, lt-ltb (k - (257 + x * 256)) 256 g)

  pub renamed-above : (k ≡ x → ⊥) → 257 + x * 256 ≤ k → 256 ≤ k - (257 + x * 256) → renamed_key x to k ≡ k
  unfolding renamed_key
  renamed-above n h g = rw (ne_eqb k x n, le-leb (257 + x * 256) k h, le-ltb (k - (257 + x * 256)) 256 g)

  pub mentions-variable : k ≡ x → mentions_key x k ≡ true
  unfolding mentions_key
  mentions-variable e = rw (eq-eqb k x e)

  pub mentions-below : (k ≡ x → ⊥) → k < 257 + x * 256 → mentions_key x k ≡ false
  unfolding mentions_key
  mentions-below n h = rw (ne_eqb k x n, lt-leb (257 + x * 256) k h)

  pub mentions-past : (k ≡ x → ⊥) → 257 + x * 256 ≤ k → mentions_key x k ≡ ltb (k - (257 + x * 256)) 256
  unfolding mentions_key
  mentions-past n h = rw (ne_eqb k x n, le-leb (257 + x * 256) k h)

-- by a difference that may wrap
pub mentions-wrapped :
    (x k first r : ℕ) → (k ≡ x → ⊥) → first ≡ 257 + x * 256 → x < 256 → k < 2 ^ 64 → r < 2 ^ 64 → (r + first) % 2 ^ 64 ≡ k → ltb r 256 ≡ mentions_key x k
unfolding mentions_key
mentions-wrapped x k first r n d h hk hr e = rw (ne_eqb k x n) (go (leb (257 + x * 256) k) refl)
  where
    go : (c : Bool) → leb (257 + x * 256) k ≡ c → ltb r 256 ≡ (c && ltb (k - (257 + x * 256)) 256)
    go true f =
        let l : 257 + x * 256 ≤ k = leb-true (257 + x * 256) k f in
        let z : r ≡ k - (257 + x * 256) = omega arith in ap (λ (r : ℕ). ltb r 256) z
    go false f = let l : k < 257 + x * 256 = leb-false (257 + x * 256) k f in le-ltb r 256 (omega arith)

-- THE TERM RENAMED
module _ (x : ℕ) (h : x < 256) where
  -- to a variable
  module _ (to : ℕ) (g : to < 256) where
    renamed-at : (k : ℕ) → Kind k → rename_term x (some to) (term_of k) ≡ some (term_of (renamed_key x to k))
    unfolding rename_term rename_variable bind_option
    renamed-at k (a-variable p) = rw (of-variable k p) (⊎_elim yes nay (decide_eq k x))
      where
        yes : k ≡ x → bind_option (cond (eqb k x) (some to) (some k)) (λ w. some (var w)) ≡ some (term_of (renamed_key x to k))
        yes e = rw (eq-eqb k x e, renamed-variable x to k e, of-variable to g)

        nay : (k ≡ x → ⊥) → bind_option (cond (eqb k x) (some to) (some k)) (λ w. some (var w)) ≡ some (term_of (renamed_key x to k))
        nay n = rw (ne_eqb k x n, renamed-below x to k n (omega arith), of-variable k p)
    renamed-at k (a-null e) = rw (e, of-null, renamed-below x to 256 (omega arith) (omega arith), of-null)
    renamed-at k (a-path v f p q e) = rw (e, of-path v f p q) (⊎_elim yes nay (decide_eq v x))
      where
        yes : v ≡ x → bind_option (cond (eqb v x) (some to) (some v)) (λ w. some (path w f)) ≡ some (term_of (renamed_key x to (257 + v * 256 + f)))
        yes d =
            let z : 257 + to * 256 + (257 + v * 256 + f - (257 + x * 256)) ≡ 257 + to * 256 + f = omega arith in
            rw (eq-eqb v x d, renamed-path x to (257 + v * 256 + f) (omega arith) (omega arith) (omega arith), z, of-path to f g q)

        same : (k : ℕ) → k ≡ 257 + v * 256 + f → (v ≡ x → ⊥) → renamed_key x to k ≡ k
        same k e n = go (leb (257 + x * 256) k) refl
          where
            go : (c : Bool) → leb (257 + x * 256) k ≡ c → renamed_key x to k ≡ k
            go true d = let l = leb-true (257 + x * 256) k d in renamed-above x to k (omega arith) l (omega arith)
            go false d = renamed-below x to k (omega arith) (leb-false (257 + x * 256) k d)

        nay : (v ≡ x → ⊥) → bind_option (cond (eqb v x) (some to) (some v)) (λ w. some (path w f)) ≡ some (term_of (renamed_key x to (257 + v * 256 + f)))
        nay n = rw (ne_eqb v x n, same (257 + v * 256 + f) refl n, of-path v f p q)
    renamed-at k (a-number n e) = rw (e, of_number n, renamed-above x to (65793 + n) (omega arith) (omega arith) (omega arith), of_number n)

    pub renamed-term : (k : ℕ) → rename_term x (some to) (term_of k) ≡ some (term_of (renamed_key x to k))
    renamed-term k = renamed-at k (kind k)

  -- to none
  gone_at : (k : ℕ) → Kind k → rename_term x none (term_of k) ≡ cond (mentions_key x k) none (some (term_of k))
  unfolding rename_term rename_variable bind_option
  gone_at k (a-variable p) = rw (of-variable k p) (⊎_elim yes nay (decide_eq k x))
    where
      yes : k ≡ x → bind_option (cond (eqb k x) none (some k)) (λ w. some (var w)) ≡ cond (mentions_key x k) none (some (var k))
      yes e = rw (eq-eqb k x e, mentions-variable x x k e)

      nay : (k ≡ x → ⊥) → bind_option (cond (eqb k x) none (some k)) (λ w. some (var w)) ≡ cond (mentions_key x k) none (some (var k))
      nay n = rw (ne_eqb k x n, mentions-below x x k n (omega arith))
  gone_at k (a-null e) = rw (e, of-null, mentions-below x x 256 (omega arith) (omega arith))
  gone_at k (a-path v f p q e) = rw (e, of-path v f p q) (⊎_elim yes nay (decide_eq v x))
    where
      yes : v ≡ x → bind_option (cond (eqb v x) none (some v)) (λ w. some (path w f)) ≡ cond (mentions_key x (257 + v * 256 + f)) none (some (path v f))
      yes d = rw (eq-eqb v x d, mentions-past x x (257 + v * 256 + f) (omega arith) (omega arith), lt-ltb (257 + v * 256 + f - (257 + x * 256)) 256 (omega arith))

      silent : (k : ℕ) → k ≡ 257 + v * 256 + f → (v ≡ x → ⊥) → mentions_key x k ≡ false
      silent k e n = go (leb (257 + x * 256) k) refl
        where
          go : (c : Bool) → leb (257 + x * 256) k ≡ c → mentions_key x k ≡ false
          go true d = let l = leb-true (257 + x * 256) k d in mentions-past x x k (omega arith) l ∙ le-ltb (k - (257 + x * 256)) 256 (omega arith)
          go false d = mentions-below x x k (omega arith) (leb-false (257 + x * 256) k d)

      nay : (v ≡ x → ⊥) → bind_option (cond (eqb v x) none (some v)) (λ w. some (path w f)) ≡ cond (mentions_key x (257 + v * 256 + f)) none (some (path v f))
      nay n = rw (ne_eqb v x n, silent (257 + v * 256 + f) refl n)
  gone_at k (a-number n e) = rw (e, of_number n, mentions-past x x (65793 + n) (omega arith) (omega arith), le-ltb (65793 + n - (257 + x * 256)) 256 (omega arith))

  pub gone-term : (k : ℕ) → rename_term x none (term_of k) ≡ cond (mentions_key x k) none (some (term_of k))
  gone-term k = gone_at k (kind k)
