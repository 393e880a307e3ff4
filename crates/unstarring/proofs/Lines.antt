-- The lines of a text one by one: where the first ends, and the copy after one line more.
use mathlib.Core.Path.{◌≡◌, refl, sym, ap, ap₂, ◌∙◌}
use mathlib.Core.Bool.{Bool, true, false, cond}
use mathlib.Core.List.{List, [], ◌∷◌, ◌++◌, append_assoc}
use Prim.Native.Nat.{ℕ, suc, ◌+◌, ◌-◌, ◌≤◌, ◌<◌}
use native.Mathlib.Omega.{arith}
use lib.Dec.{eqb}
use lib.ListN.{length, get_or, take, drop, length-drop, drop_of_length-le}
use lib.Seq.{take_all, drop-drop}
use borrow.Author.Tests.{eqb-true, eq-eqb}
use Rattle.rules.specs.Base.{Name, bytes}
use Rattle.rules.specs.Text.{line_feed, onto, lines, up_to}
use Rattle.rules.specs.Fill.{star, tabbed, is_starred, requires_line, atom_words, with_atoms}
use Rattle.read_bytes.proofs.Search.{up_to-here, up_to-end, same-is}
use Rattle.filling.specs.Claims.{joined}
use Rattle.unstarring.specs.declared.Stars.{Stars}
use Rattle.unstarring.specs.Copies.{unstarred, LineTo, with_star, without_star, LineCopied}

-- THE FIRST LINE

abbrev pub is_feed : ℕ → Bool
is_feed b = eqb b line_feed

feed-cut : (t : List ℕ) → up_to is_feed t < length t → lines t ≡ take (suc (up_to is_feed t)) t ∷ lines (drop (suc (up_to is_feed t)) t)
unfolding lines onto up_to
feed-cut [] h = absurd (omega arith)
feed-cut (b ∷ t) h = go (is_feed b) refl (λ k. feed-cut t k) h
  where
    go :
        (c : Bool) → is_feed b ≡ c → (up_to is_feed t < length t → lines t ≡ take (suc (up_to is_feed t)) t ∷ lines (drop (suc (up_to is_feed t)) t)) →
        cond c 0 (suc (up_to is_feed t)) < suc (length t) →
        cond c ((line_feed ∷ []) ∷ lines t) (onto b (lines t))
        ≡ take (suc (cond c 0 (suc (up_to is_feed t)))) (b ∷ t) ∷ lines (drop (suc (cond c 0 (suc (up_to is_feed t)))) (b ∷ t))
    go true e f k = ap (λ (a : ℕ). (a ∷ []) ∷ lines t) (sym (eqb-true b line_feed e))
    go false e f k = ap (onto b) (f (omega arith))

no-feed : (b : ℕ) (t : List ℕ) → up_to is_feed (b ∷ t) ≡ suc (length t) → lines (b ∷ t) ≡ (b ∷ t) ∷ []
unfolding lines onto up_to
no-feed b [] h = go (is_feed b) h
  where
    go : (c : Bool) → ◌≡◌ {A = ℕ} (cond c 0 1) 1 → cond c ((line_feed ∷ []) ∷ []) ((b ∷ []) ∷ []) ≡ (b ∷ []) ∷ []
    go true k = absurd (omega arith)
    go false k = refl
no-feed b (d ∷ t) h = go (is_feed b) h (λ k. no-feed d t k)
  where
    go :
        (c : Bool) → cond c 0 (suc (up_to is_feed (d ∷ t))) ≡ suc (suc (length t)) →
        (up_to is_feed (d ∷ t) ≡ suc (length t) → lines (d ∷ t) ≡ (d ∷ t) ∷ []) →
        cond c ((line_feed ∷ []) ∷ lines (d ∷ t)) (onto b (lines (d ∷ t))) ≡ (b ∷ d ∷ t) ∷ []
    go true k f = absurd (omega arith)
    go false k f = ap (onto b) (f (omega arith))

module _ (t : List ℕ) (a i : ℕ) (low : a ≤ i) (far : i + up_to is_feed (drop i t) ≡ a + up_to is_feed (drop a t)) where
  pub line-found : i < length t → get_or t i 0 ≡ line_feed → LineTo t a (i + 1)
  line-found h e =
      let z = up_to-here is_feed t i h (eq-eqb (get_or t i 0) line_feed e) in
      let k : suc (up_to is_feed (drop a t)) ≡ i + 1 - a = omega arith in
      let m : a + (i + 1 - a) ≡ i + 1 = omega arith in
      let f = feed-cut (drop a t) (omega (arith, length-drop a t)) in
      record {
        low = omega arith;
        high = omega arith;
        cut =
            f
            ∙ (ap (λ (n : ℕ). take n (drop a t) ∷ lines (drop n (drop a t))) k
            ∙ ap (λ (r : List ℕ). take (i + 1 - a) (drop a t) ∷ lines r) (drop-drop (i + 1 - a) a t ∙ ap (λ (n : ℕ). drop n t) m));
      }

  pub line-open : a < length t → length t ≤ i → i ≤ length t → LineTo t a i
  unfolding lines
  line-open l h k =
      let n = length-drop a t in
      let z = up_to-end is_feed t i h in
      let e : up_to is_feed (drop a t) ≡ length (drop a t) = omega (arith, z, n) in
      record {
        low = omega arith;
        high = k;
        cut = go (drop a t) e (omega (arith, n)) ∙ ap₂ (λ (w r : List ℕ). w ∷ lines r) (sym (take_all (i - a) (drop a t) (omega (arith, n)))) (sym (drop_of_length-le t {i = i} h));
      }
    where
      go : (d : List ℕ) → up_to is_feed d ≡ length d → 0 < length d → lines d ≡ d ∷ []
      go [] e h = absurd (omega arith)
      go (b ∷ d) e h = no-feed b d e

-- BYTES PUT

-- THE COPY

-- one line more
pub copied_on :
    (ls ms : List Name) (l : Name) (all c d : List ℕ) → ls ≡ l ∷ ms → d ≡ c ++ unstarred l →
    all ≡ c ++ joined (with_atoms [] ls) → all ≡ d ++ joined (with_atoms [] ms)
unfolding joined with_atoms unstarred atom_words
copied_on ls ms l all c d e f g =
    g ∙ (ap (λ (ks : List Name). c ++ joined (with_atoms [] ks)) e
    ∙ (sym (append_assoc c (unstarred l) (joined (with_atoms [] ms))) ∙ ap (λ (r : List ℕ). r ++ joined (with_atoms [] ms)) (sym f)))

-- a star's line
starred-is : (l : Name) → is_starred l ≡ true → l ≡ requires_line ((star ∷ []) ∷ [])
unfolding is_starred
starred-is l e = same-is l _ e

pub starred-long : (l : Name) → is_starred l ≡ true → length l ≡ 11
unfolding requires_line tabbed bytes
starred-long l e = ap length (starred-is l e)

abbrev pub keyword : Name
keyword = requires_line []

pub keyword-long : length keyword ≡ 9
unfolding requires_line tabbed bytes
keyword-long = refl

module _ {l : Name} {n : ℕ} {c : List ℕ} {s : Stars} {c' : List ℕ} {r : Stars} {len : ℕ} (size : length c' ≡ length c) where
  pub star-copied :
      is_starred l ≡ true → len ≡ s.len + length keyword → take len c' ≡ take s.len c ++ keyword → r ≡ with_star s n len → LineCopied l n c s c' r
  unfolding unstarred with_star
  star-copied e i p f =
      let k : r.len ≡ len = ap (λ (x : Stars). x.len) f in
      record {
        copied = rw (k, e) p;
        short = omega (arith, k, keyword-long, starred-long l e);
        stars = rw e (f ∙ ap (with_star s n) (sym k));
        size = size;
      }

  pub line-copied :
      is_starred l ≡ false → len ≡ s.len + length l → take len c' ≡ take s.len c ++ l → r ≡ without_star s len → LineCopied l n c s c' r
  unfolding unstarred
  line-copied e i p f =
      let k : r.len ≡ len = ap (λ (x : Stars). x.len) f in
      record {
        copied = rw (k, e) p;
        short = omega (arith, k);
        stars = rw e (f ∙ ap (without_star s) (sym k));
        size = size;
      }
