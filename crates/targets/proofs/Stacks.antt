-- The open rows as one number: what pushing, popping and replacing do to it.
use mathlib.Core.Path.{◌≡◌, refl, ap, ap₂, ◌∙◌}
use mathlib.Core.Bool.{Bool, true, false, cond}
use mathlib.Core.List.{List, [], ◌∷◌}
use Prim.Native.Nat.{ℕ, zero, suc, ◌+◌, ◌*◌, ◌-◌, ◌/◌, ◌%◌, ◌≤◌, ◌<◌}
use native.Mathlib.Numerals.{add-one}
use native.Mathlib.Omega.{arith}
use borrow.Author.Tests.{le-ltb, lt-ltb, ne_eqb}
use lib.Dec.{eqb}
use lib.ListN.{length}
use Rattle.rules.specs.Grammar.{IsKindNumber}
use Rattle.tables.specs.Decode.{kind_at, row_place}
use Rattle.tables.proofs.BytesRead.{put-half-length}
use Rattle.targets.specs.Targets.{power, stack_of, pushed, popped, replaced, open_after, put_target, closed, work_after, targets_from}

stack-length : (d s : ℕ) → length (stack_of d s) ≡ d
unfolding stack_of
stack-length zero s = refl
stack-length (suc d) s = ap suc (stack-length d (s / 256))

pub power_small : (d : ℕ) → d < 4 → power d ≤ 16777216
unfolding power
power_small zero l = omega arith
power_small (suc zero) l = omega arith
power_small (suc (suc zero)) l = omega arith
power_small (suc (suc (suc zero))) l = omega arith
power_small (suc (suc (suc (suc d)))) l = absurd (omega arith)

top_digit : (s i : ℕ) → i < 256 → (s * 256 + i) % 256 ≡ i
top_digit s i l = omega arith

lower-digits : (s i : ℕ) → i < 256 → (s * 256 + i) / 256 ≡ s
lower-digits s i l = omega arith

pub push-stack : (d s i : ℕ) → d < 4 → i < 256 → stack_of (d + 1) (s * 256 + i) ≡ pushed i (stack_of d s)
unfolding stack_of pushed
push-stack d s i l m =
    rw (add-one d, lt-ltb (length (stack_of d s)) 4 (rw (stack-length d s) l)) (ap₂ ◌∷◌ (top_digit s i m) (ap (stack_of d) (lower-digits s i m)))

pub push-fits : (d s i : ℕ) → d < 4 → i < 256 → s < power d → s * 256 + i < power (d + 1)
unfolding power
push-fits d s i l m h = rw (add-one d) (omega (arith, h))

pub full-stack : (d s i : ℕ) → 4 ≤ d → stack_of d s ≡ pushed i (stack_of d s)
unfolding pushed
full-stack d s i l = rw (le-ltb (length (stack_of d s)) 4 (rw (stack-length d s) l))

pub pop-stack : (d s : ℕ) → (d ≡ 0 → ⊥) → stack_of (d - 1) (s / 256) ≡ popped (stack_of d s)
unfolding stack_of popped
pop-stack zero s n = absurd (n refl)
pop-stack (suc d) s n = let e : suc d - 1 ≡ d = omega arith in rw e

pub pop-fits : (d s : ℕ) → (d ≡ 0 → ⊥) → s < power d → s / 256 < power (d - 1)
unfolding power
pop-fits zero s n h = absurd (n refl)
pop-fits (suc d) s n h = let e : suc d - 1 ≡ d = omega arith in rw e (omega (arith, h))

pub replace-stack : (d s i : ℕ) → (d ≡ 0 → ⊥) → i < 256 → stack_of d (s / 256 * 256 + i) ≡ replaced i (stack_of d s)
unfolding stack_of replaced
replace-stack zero s i n l = absurd (n refl)
replace-stack (suc d) s i n l = ap₂ ◌∷◌ (top_digit (s / 256) i l) (ap (stack_of d) (lower-digits (s / 256) i l))

pub replace-fits : (d s i : ℕ) → (d ≡ 0 → ⊥) → i < 256 → s < power d → s / 256 * 256 + i < power d
unfolding power
replace-fits zero s i n l h = absurd (n refl)
replace-fits (suc d) s i n l h = omega (arith, h)

pub no_stack : (d s : ℕ) → d ≡ 0 → stack_of d s ≡ popped (stack_of d s)
unfolding stack_of popped
no_stack zero s e = refl
no_stack (suc d) s e = absurd (omega (arith, e))

pub none-replaced : (d s i : ℕ) → d ≡ 0 → stack_of d s ≡ replaced i (stack_of d s)
unfolding stack_of replaced
none-replaced zero s i e = refl
none-replaced (suc d) s i e = absurd (omega (arith, e))

-- BY THE KIND OF ROW
pub open-at-if : (k i : ℕ) (st : List ℕ) → k ≡ 15 → pushed i st ≡ open_after k i st
unfolding open_after
open-at-if k i st e = rw e

pub open-at-loop : (k i : ℕ) (st : List ℕ) → k ≡ 21 → pushed i st ≡ open_after k i st
unfolding open_after
open-at-loop k i st e = rw e

pub open-at-else : (k i : ℕ) (st : List ℕ) → k ≡ 16 → replaced i st ≡ open_after k i st
unfolding open_after
open-at-else k i st e = rw e

pub open-at-join : (k i : ℕ) (st : List ℕ) → k ≡ 17 → popped st ≡ open_after k i st
unfolding open_after
open-at-join k i st e = rw e

pub open-at-again : (k i : ℕ) (st : List ℕ) → k ≡ 22 → popped st ≡ open_after k i st
unfolding open_after
open-at-again k i st e = rw e

pub open-elsewhere :
    (k i : ℕ) (st : List ℕ) → (k ≡ 15 → ⊥) → (k ≡ 16 → ⊥) → (k ≡ 17 → ⊥) → (k ≡ 21 → ⊥) → (k ≡ 22 → ⊥) → st ≡ open_after k i st
unfolding open_after
open-elsewhere k i st a b d e f = rw (ne_eqb k 15 a, ne_eqb k 16 b, ne_eqb k 17 d, ne_eqb k 21 e, ne_eqb k 22 f)

pub closed-at-else : (w : List ℕ) (k i t : ℕ) → k ≡ 16 → put_target w t (i + 1) ≡ closed w k i t
unfolding closed
closed-at-else w k i t e = rw e

pub closed-at-join : (w : List ℕ) (k i t : ℕ) → k ≡ 17 → put_target w t i ≡ closed w k i t
unfolding closed
closed-at-join w k i t e = rw e

pub closed-at-again : (w : List ℕ) (k i t : ℕ) → k ≡ 22 → put_target (put_target w t (i + 1)) i t ≡ closed w k i t
unfolding closed
closed-at-again w k i t e = rw e

pub closed-elsewhere : (w : List ℕ) (k i t : ℕ) → (k ≡ 16 → ⊥) → (k ≡ 17 → ⊥) → (k ≡ 22 → ⊥) → w ≡ closed w k i t
unfolding closed
closed-elsewhere w k i t a b d = rw (ne_eqb k 16 a, ne_eqb k 17 b, ne_eqb k 22 d)

pub work-elsewhere : (w : List ℕ) (k i : ℕ) (st : List ℕ) → (k ≡ 16 → ⊥) → (k ≡ 17 → ⊥) → (k ≡ 22 → ⊥) → w ≡ work_after w k i st
unfolding work_after
work-elsewhere w k i [] a b d = refl
work-elsewhere w k i (t ∷ st) a b d = closed-elsewhere w k i t a b d

-- a row of no kind says nothing
module _ (k i : ℕ) (st : List ℕ) (n : IsKindNumber k → ⊥) where
  not-one : (j : ℕ) → 1 ≤ j → j ≤ 24 → k ≡ j → ⊥
  not-one j a b e = n (omega (arith, a, e), omega (arith, b, e))

  pub work-none : (w : List ℕ) → w ≡ work_after w k i st
  work-none w = work-elsewhere w k i st (not-one 16 (omega arith) (omega arith)) (not-one 17 (omega arith) (omega arith)) (not-one 22 (omega arith) (omega arith))

  pub open-none : st ≡ open_after k i st
  open-none =
      open-elsewhere k i st (not-one 15 (omega arith) (omega arith)) (not-one 16 (omega arith) (omega arith))
      (not-one 17 (omega arith) (omega arith)) (not-one 21 (omega arith) (omega arith)) (not-one 22 (omega arith) (omega arith))

-- the innermost row is the lowest byte
pub innermost-closed : (w : List ℕ) (k i d s : ℕ) → (d ≡ 0 → ⊥) → closed w k i (s % 256) ≡ work_after w k i (stack_of d s)
unfolding stack_of work_after
innermost-closed w k i zero s n = absurd (n refl)
innermost-closed w k i (suc d) s n = refl

pub none-closed : (w : List ℕ) (k i d s : ℕ) → d ≡ 0 → w ≡ work_after w k i (stack_of d s)
unfolding stack_of work_after
none-closed w k i zero s e = refl
none-closed w k i (suc d) s e = absurd (omega (arith, e))

-- ONE ROW MORE
pub targets-on :
    (w : List ℕ) (i n : ℕ) (st : List ℕ) → i < n →
    targets_from w i (n - i) st
    ≡ targets_from (work_after w (kind_at w i) i st) (i + 1) (n - (i + 1)) (open_after (kind_at w i) i st)
unfolding targets_from
targets-on w i n st l = let e : n - i ≡ suc (n - (i + 1)) = omega arith in rw (e, add-one i)

-- a store of a target leaves the area's length
pub put-length : (w : List ℕ) (t v : ℕ) → length (put_target w t v) ≡ length w
unfolding put_target
put-length w t v = put-half-length w (row_place t + 10) v

pub work-after-length : (w : List ℕ) (k i : ℕ) (st : List ℕ) → length (work_after w k i st) ≡ length w
unfolding work_after closed
work-after-length w k i [] = refl
work-after-length w k i (t ∷ st) = go (eqb k 16) (eqb k 17) (eqb k 22)
  where
    go :
        (a b c : Bool) →
        length (cond a (put_target w t (i + 1)) (cond b (put_target w t i) (cond c (put_target (put_target w t (i + 1)) i t) w))) ≡ length w
    go true b c = put-length w t (i + 1)
    go false true c = put-length w t i
    go false false true = put-length (put_target w t (i + 1)) i t ∙ put-length w t (i + 1)
    go false false false = refl

pub targets-end : (w : List ℕ) (i n : ℕ) (st : List ℕ) → n ≤ i → targets_from w i (n - i) st ≡ w
unfolding targets_from
targets-end w i n st l = let e : n - i ≡ 0 = omega arith in rw e
