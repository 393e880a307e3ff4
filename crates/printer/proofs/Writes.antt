-- Laws of bytes that are written one after the other, and of digits.
use mathlib.Core.Path.{◌≡◌, refl, sym, ap, subst, ◌∙◌}
use mathlib.Core.Bool.{Bool, true, false, cond}
use mathlib.Core.List.{List, [], ◌∷◌, ◌++◌, append-nil, append_assoc}
use Prim.Native.Nat.{ℕ, zero, suc, ◌+◌, ◌-◌, ◌/◌, ◌%◌, ◌≤◌, ◌<◌}
use native.Mathlib.Omega.{arith}
use native.Mathlib.Numerals.{add-one}
use native.Mathlib.Nat.{mod-eq_of_lt}
use lib.Dec.{ltb}
use borrow.Author.Tests.{lt-ltb, le-ltb}
use lib.ListN.{length, take, drop, set, length-append, length-drop, length-set}
use lib.Seq.{length-take-le, take_at, take-suc-set}
use Rattle.rules.specs.Base.{Name}
use Rattle.rules.specs.Printed.{digits_before, digits, signed}
use Rattle.printer.specs.Writes.{Writes}

-- WRITES
pub writes-none : (o : List ℕ) (a : ℕ) → a ≤ length o → Writes o a [] o a
writes-none o a h = record { size = refl; end = omega arith; high = h; are = sym (append-nil (take a o)) }

pub writes_one : (o : List ℕ) (a b : ℕ) → a < length o → Writes o a (b ∷ []) (set o a b) (a + 1)
writes_one o a b h =
    record { size = length-set o a b; end = refl; high = omega (arith, length-set o a b); are = rw add-one (take-suc-set o a b h) }

module _ {o : List ℕ} {a : ℕ} {xs p : List ℕ} {e : ℕ} (x : Writes o a xs p e) where
  pub writes-on : {ys q : List ℕ} {f : ℕ} → Writes p e ys q f → Writes o a (xs ++ ys) q f
  writes-on {ys} {q} y =
      record {
        size = y.size ∙ x.size;
        end = omega (arith, x.end, y.end, length-append xs ys);
        high = y.high;
        are = y.are ∙ (ap (λ l. l ++ ys) x.are ∙ append_assoc (take a o) xs ys);
      }

  pub writes_as : {ys : List ℕ} → xs ≡ ys → Writes o a ys p e
  writes_as h = subst (λ l. Writes o a l p e) h x

-- as many bytes of o as w has, from a on, are those of w
pub writes-all :
    (o w : List ℕ) (a k : ℕ) → k ≡ length w → a + length w ≤ length o →
    Writes o a w (take a o ++ (w ++ drop k (drop a o))) (a + length w)
writes-all o w a k e h =
    let rest : List ℕ = drop k (drop a o) in
    let before : length (take a o) ≡ a = length-take-le a o (omega (arith, h)) in
    let size : length (take a o ++ (w ++ rest)) ≡ length o =
    omega (arith, length-append (take a o) (w ++ rest), length-append w rest, length-drop k (drop a o), length-drop a o, before, e, h) in
    record {
      size = size;
      end = refl;
      high = omega (arith, size, h);
      are = rw (← append_assoc (take a o) w rest) (take_at (take a o ++ w) rest (a + length w) (omega (arith, length-append (take a o) w, before)));
    }

-- DIGITS
pub digits-before : (k n : ℕ) (ds : Name) → digits_before k n ds ≡ digits_before k n [] ++ ds
unfolding digits_before
digits-before zero n ds = refl
digits-before (suc k) n ds =
    go _ _ (ltb n 10)
    (digits-before k (n / 10) ((48 + n % 10) ∷ ds)
    ∙ (sym (append_assoc (digits_before k (n / 10) []) ((48 + n % 10) ∷ []) ds)
    ∙ ap (λ l. l ++ ds) (sym (digits-before k (n / 10) ((48 + n % 10) ∷ [])))))
  where
    go :
        (x y : Name) (b : Bool) → x ≡ y ++ ds → cond b ((48 + n) ∷ ds) x ≡ cond b ((48 + n) ∷ []) y ++ ds
    go x y true h = refl
    go x y false h = h

pub digits_last : (k n : ℕ) → k ≡ 0 → (48 + n % 10) ∷ [] ≡ digits_before k n []
unfolding digits_before
digits_last k n e = rw e

pub digits-one : (k n : ℕ) → n < 10 → (48 + n % 10) ∷ [] ≡ digits_before k n []
unfolding digits_before
digits-one zero n h = refl
digits-one (suc k) n h = rw (lt-ltb n 10 h, mod-eq_of_lt h)

pub digits_more :
    (k n : ℕ) → (k ≡ 0 → ⊥) → 10 ≤ n → digits_before (k - 1) (n / 10) [] ++ ((48 + n % 10) ∷ []) ≡ digits_before k n []
unfolding digits_before
digits_more zero n z h = absurd (z refl)
digits_more (suc k) n z h =
    let e : suc k - 1 ≡ k = omega arith in
    rw (le-ltb n 10 h, e) (sym (digits-before k (n / 10) ((48 + n % 10) ∷ [])))

pub digits-few : (k n : ℕ) → length (digits_before k n []) ≤ k + 1
unfolding digits_before
digits-few zero n = omega arith
digits-few (suc k) n =
    go _ (ltb n 10)
    (omega (arith, digits-few k (n / 10), length-append (digits_before k (n / 10) []) ((48 + n % 10) ∷ []), ap length (digits-before k (n / 10) ((48 + n % 10) ∷ []))))
  where
    go : (x : Name) (b : Bool) → length x ≤ suc k + 1 → length (cond b ((48 + n) ∷ []) x) ≤ suc k + 1
    go x true h = omega arith
    go x false h = h

pub signed_low : (v : ℕ) → v < 2147483648 → digits v ≡ signed v
unfolding signed
signed_low v h = rw (lt-ltb v 2147483648 h)

pub signed_high : (v n : ℕ) → 2147483648 ≤ v → n ≡ 4294967296 - v → 45 ∷ digits n ≡ signed v
unfolding signed
signed_high v n h e = rw (le-ltb v 2147483648 h, e)

pub digits-short : (n : ℕ) → length (digits n) ≤ 10
unfolding digits
digits-short n = digits-few 9 n

pub signed-few : (v : ℕ) → length (signed v) ≤ 11
unfolding signed digits
signed-few v = go (ltb v 2147483648)
  where
    go : (b : Bool) → length (cond b (digits_before 9 v []) (45 ∷ digits_before 9 (4294967296 - v) [])) ≤ 11
    go true = omega (arith, digits-few 9 v)
    go false = omega (arith, digits-few 9 (4294967296 - v))
