-- The bytes of names, expressions and words stand within a line: they are allowed, and none is LF.
use mathlib.Core.Path.{◌≡◌, refl, ap, ◌∙◌}
use mathlib.Core.Bool.{Bool, true, false, not, cond, ◌&&◌, ◌||◌}
use mathlib.Core.List.{[], ◌∷◌}
use mathlib.Core.Logic.{◌⊎◌, inl, inr, ⊎_elim}
use Prim.Native.Nat.{ℕ, zero, suc, ◌≤◌}
use native.Mathlib.Omega.{arith}
use lib.Dec.{eqb, leb}
use lib.ListN.{length, get_or, take, drop}
use borrow.Author.Tests.{eqb-true, le-ltb, ltb-true}
use Rattle.rules.specs.Base as Base
use Rattle.rules.specs.Base.{Name, all, between}
use Rattle.rules.specs.Limits.{most_letters}
use Rattle.rules.specs.Text as Text
use Rattle.rules.specs.Text.{letter, digit, letter_or_digit, is_name, is_digits, minuses, unsigned, is_number, numeral, has_stop, stop_in, before_stop, after_stop, is_expr}
use Rattle.rules.specs.Grammar.{kind_of}
use Rattle.read_bytes.specs.Sets.{in_set}
use Rattle.read_words.specs.Words.{kind_at, kind_or0}
use Rattle.read_bytes.specs.declared.Set.TheVariants.{LineEnd}
use Rattle.read_bytes.proofs.Bytes.{line-end-high}
use Rattle.read_bytes.proofs.Search.{both_true, between-true, up_to-found}
use Rattle.read_words.proofs.Words.{kind-is, kind-number, no_word}

-- allowed, and no LF
abbrev pub in_line : ℕ → Bool
in_line b = not (in_set LineEnd b)

seen-in-line : (b : ℕ) → 33 ≤ b → b ≤ 126 → in_line b ≡ true
seen-in-line b l h = ap not (line-end-high b l ∙ le-ltb 126 b h)

-- NAMES
last-true : (a b c : Bool) → (a && (b && c)) ≡ true → c ≡ true
last-true a b c h = (both_true b c (both_true a (b && c) h).1).1

all_more : (p q : ℕ → Bool) → ((b : ℕ) → p b ≡ true → q b ≡ true) → (w : Name) → all p w ≡ true → all q w ≡ true
unfolding Base.opened
all_more p q f [] h = refl
all_more p q f (b ∷ w) h = let s = both_true (p b) (all p w) h in rw (f b s.0) (all_more p q f w s.1)

digit-in-line : (b : ℕ) → digit b ≡ true → in_line b ≡ true
unfolding digit
digit-in-line b h = let s = between-true 48 57 b h in seen-in-line b (omega (arith, s.0)) (omega (arith, s.1))

three : (a b c : Bool) → ((a || b) || c) ≡ true → (a ≡ true) ⊎ ((b ≡ true) ⊎ (c ≡ true))
three true b c h = inl refl
three false true c h = inr (inl refl)
three false false c h = inr (inr h)

alnum-in-line : (b : ℕ) → letter_or_digit b ≡ true → in_line b ≡ true
unfolding letter_or_digit letter
alnum-in-line b h =
    ⊎_elim
    (λ k. let s = between-true 65 90 b k in seen-in-line b (omega (arith, s.0)) (omega (arith, s.1)))
    (⊎_elim
    (λ k. let s = between-true 97 122 b k in seen-in-line b (omega (arith, s.0)) (omega (arith, s.1)))
    (digit-in-line b))
    (three (between 65 90 b) (between 97 122 b) (digit b) h)

pub name-clean : (w : Name) → is_name w ≡ true → all in_line w ≡ true
unfolding is_name
name-clean w h = all_more letter_or_digit in_line alnum-in-line w (last-true (leb (length w) most_letters) (letter (get_or w 0 0)) (all letter_or_digit w) h)

-- EXPRESSIONS
digits-clean : (w : Name) → is_digits w ≡ true → all in_line w ≡ true
unfolding is_digits
digits-clean w h = all_more digit in_line digit-in-line w (last-true (leb 1 (length w)) (eqb (length w) 1 || not (eqb (get_or w 0 0) 48)) (all digit w) h)

-- a byte before clean ones
first-clean : (w : Name) → in_line (get_or w 0 0) ≡ true → all in_line (drop 1 w) ≡ true → all in_line w ≡ true
unfolding Base.opened
first-clean [] h t = refl
first-clean (b ∷ w) h t = rw h t

number-clean : (w : Name) → is_number w ≡ true → all in_line w ≡ true
unfolding is_number unsigned minuses Text.allowed between
number-clean w h = go (eqb (get_or w 0 0) 45) refl (both_true (is_digits (unsigned w)) _ h).0
  where
    go : (q : Bool) → eqb (get_or w 0 0) 45 ≡ q → is_digits (drop (cond q 1 0) w) ≡ true → all in_line w ≡ true
    go true e k = first-clean w (ap in_line (eqb-true (get_or w 0 0) 45 e)) (digits-clean (drop 1 w) k)
    go false e k = digits-clean w k

-- clean up to a byte, that byte, and clean after it
joined-clean : (w : Name) (i : ℕ) → in_line (get_or w i 0) ≡ true → all in_line (take i w) ≡ true → all in_line (drop (suc i) w) ≡ true → all in_line w ≡ true
unfolding Base.opened
joined-clean [] i b h t = refl
joined-clean (a ∷ w) zero b h t = rw b t
joined-clean (a ∷ w) (suc i) b h t =
    let s = both_true (in_line a) (all in_line (take i w)) h in rw s.0 (joined-clean w i b s.1 t)

stop-there : (w : Name) → has_stop w ≡ true → in_line (get_or w (stop_in w) 0) ≡ true
unfolding has_stop stop_in Text.allowed between
stop-there w h =
    ap in_line (eqb-true (get_or w (stop_in w) 0) 46 (up_to-found (λ b. eqb b 46) w (ltb-true (stop_in w) (length w) h)))

pub expr-clean : (w : Name) → is_expr w ≡ true → all in_line w ≡ true
unfolding is_expr before_stop after_stop
expr-clean w h = go (numeral w) (has_stop w) refl h
  where
    go :
        (q s : Bool) → has_stop w ≡ s → cond q (is_number w) (cond s (is_name (before_stop w) && is_name (after_stop w)) (is_name w)) ≡ true →
        all in_line w ≡ true
    go true s e k = number-clean w k
    go false true e k =
        let p = both_true _ _ k in
        joined-clean w (stop_in w) (stop-there w e) (name-clean (take (stop_in w) w) p.0) (name-clean (drop (suc (stop_in w)) w) p.1)
    go false false e k = name-clean w k

-- THE WORD OF A LINE
pub kind-clean : (w : Name) → (kind_or0 (kind_of w) ≡ 0 → ⊥) → all in_line w ≡ true
unfolding Base.opened Text.allowed
kind-clean w h = go (all in_line w) refl
  where
    go : (q : Bool) → all in_line w ≡ q → q ≡ true
    go true e = refl
    go false e =
        absurd (h (ap kind_or0 (kind-is w ∙ ap kind_at (no_word (λ v. not (all in_line v)) w (ap not e) refl)) ∙ kind-number 0 (omega arith)))
