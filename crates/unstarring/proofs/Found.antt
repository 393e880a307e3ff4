-- The first two stars of a text, and its copy, line by line.
use mathlib.Core.Path.{◌≡◌, refl, sym, ap, subst, ◌∙◌}
use mathlib.Core.Bool.{Bool, true, false, cond}
use mathlib.Core.List.{List, [], ◌∷◌, ◌++◌, append-nil}
use Prim.Native.Nat.{ℕ, suc, ◌+◌, ◌-◌, ◌≤◌}
use native.Mathlib.Omega.{arith}
use native.Mathlib.Numerals.{add-one}
use Rattle.std.proofs.Common.{Option, Some, None}
use Rattle.std.specs.Prelude.{slice_get}
use Rattle.std.specs.Option.{option_or}
use lib.ListN.{length, take, drop, drop_of_length-le, length-drop}
use lib.Seq.{length-take-le}
use Rattle.rules.specs.Base.{Name}
use Rattle.rules.specs.Limits.{most_bytes}
use Rattle.rules.specs.Text.{lines}
use Rattle.rules.specs.Fill.{is_starred, stars_from, with_atoms}
use Rattle.filling.specs.Claims.{joined}
use Rattle.unstarring.specs.declared.Stars.{Stars}
use Rattle.unstarring.specs.Copies.{LineTo, second_at, with_star, without_star, LineCopied, Unstarred}
use Rattle.unstarring.proofs.Lines.{copied_on}

-- f and s are the first two of the stars S, of which those of R are to come
pub data Found (S R : List ℕ) : Option ℕ → Option ℕ → Type 0 where
  none : S ≡ R → Found S R None None
  one : {f : ℕ} → S ≡ f ∷ R → Found S R (Some f) None
  two : {f s : ℕ} → slice_get S 0 ≡ Some f → slice_get S 1 ≡ Some s → Found S R (Some f) (Some s)

-- with a star at line n more
found-star : {S R : List ℕ} (n : ℕ) (f s : Option ℕ) → Found S (n ∷ R) f s → Found S R (option_or f (Some n)) (second_at f s n)
found-star n f s (none e) = one e
found-star n f s (one e) = two (ap (λ l. slice_get l 0) e) (ap (λ l. slice_get l 1) e)
found-star n f s (two e i) = two e i

-- after a line
pub found-on :
    {S : List ℕ} (n : ℕ) (ls ms : List Name) (l : Name) (s r : Stars) (len : ℕ) → ls ≡ l ∷ ms →
    r ≡ cond (is_starred l) (with_star s (n + 1) len) (without_star s len) → Found S (stars_from n ls) s.first s.second →
    Found S (stars_from (n + 1) ms) r.first r.second
unfolding stars_from with_star
found-on {S} n ls ms l s r len e i x =
    rw (i, add-one n) (go (is_starred l) (subst (λ ks. Found S (stars_from n ks) s.first s.second) e x))
  where
    go :
        (b : Bool) → Found S (cond b (suc n ∷ stars_from (suc n) ms) (stars_from (suc n) ms)) s.first s.second →
        Found S (stars_from (suc n) ms) (cond b (with_star s (suc n) len) (without_star s len)).first (cond b (with_star s (suc n) len) (without_star s len)).second
    go true y = found-star (suc n) s.first s.second y
    go false y = y

-- where no star is to come
pub found_all : {S : List ℕ} {f s : Option ℕ} → Found S [] f s → (f ≡ slice_get S 0) × (s ≡ slice_get S 1)
found_all (none e) = (ap (λ l. slice_get l 0) (sym e), ap (λ l. slice_get l 1) (sym e))
found_all (one e) = (ap (λ l. slice_get l 0) (sym e), ap (λ l. slice_get l 1) (sym e))
found_all (two e i) = (sym e, sym i)

-- THE COPY, LINE BY LINE: n lines of t are above the place `at`

pub record Copying (t c : List ℕ) (s : Stars) (at n : ℕ) : Type 0 where
  pub copied : joined (with_atoms [] (lines t)) ≡ take s.len c ++ joined (with_atoms [] (lines (drop at t)))
  pub found : Found (stars_from 0 (lines t)) (stars_from n (lines (drop at t))) s.first s.second
  pub short : s.len ≤ at
  pub few : n ≤ at
  pub high : at ≤ length t
  pub size : length c ≡ most_bytes

pub copying-first : (t c : List ℕ) → length c ≡ most_bytes → Copying t c (record { len = 0; first = None; second = None }) 0 0
copying-first t c h =
    record { copied = refl; found = none refl; short = omega arith; few = omega arith; high = omega arith; size = h }

pub part-long : {t : List ℕ} {a e : ℕ} → LineTo t a e → length (take (e - a) (drop a t)) ≡ e - a
part-long {t} {a} {e} l = length-take-le (e - a) (drop a t) (omega (arith, length-drop a t))

pub copying-on :
    {t c : List ℕ} {s : Stars} {at n e : ℕ} {c' : List ℕ} {r : Stars} → Copying t c s at n → LineTo t at e →
    LineCopied (take (e - at) (drop at t)) (n + 1) c s c' r → Copying t c' r e (n + 1)
copying-on {t} {c} {s} {at} {n} {e} {c'} {r} x l y =
    let k = part-long l in
    record {
      copied = copied_on _ _ _ _ (take s.len c) _ l.cut y.copied x.copied;
      found = found-on n _ _ _ s r r.len l.cut y.stars x.found;
      short = omega (arith, y.short, x.short, k, l.low);
      few = omega (arith, x.few, l.low);
      high = l.high;
      size = y.size ∙ x.size;
    }

pub copying-done : {t c : List ℕ} {s : Stars} {at n : ℕ} → Copying t c s at n → length t ≤ at → Unstarred t c s
unfolding lines joined with_atoms stars_from
copying-done {t} {c} {s} {at} {n} x h =
    let e : drop at t ≡ [] = drop_of_length-le t {i = at} h in
    let (f, g) = found_all (subst (λ r. Found (stars_from 0 (lines t)) (stars_from n (lines r)) s.first s.second) e x.found) in
    record {
      copied = sym (x.copied ∙ (ap (λ r. take s.len c ++ joined (with_atoms [] (lines r))) e ∙ append-nil (take s.len c)));
      short = omega (arith, x.short, x.high);
      first = f;
      second = g;
    }
