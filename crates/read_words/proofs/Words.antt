-- Laws of words: a word is known by its bytes packed into one number, and the words' numbers stand for what `rules` says of words.
use mathlib.Core.Path.{◌≡◌, refl, sym, ap, ap₂, ◌∙◌}
use mathlib.Core.Bool.{Bool, true, false, cond, ◌&&◌, ◌||◌}
use mathlib.Core.List.{List, [], ◌∷◌}
use mathlib.Core.Logic.{◌⊎◌, inl, inr, ⊎_elim}
use mathlib.Core.Option.{none}
use Prim.Native.Nat.{ℕ, zero, suc, ◌+◌, ◌*◌, ◌-◌, ◌≤◌, ◌<◌}
use Prim.Native.String.{String}
use native.Mathlib.Omega.{arith}
use native.Mathlib.Numerals.{add-one}
use native.Mathlib.Decide.{dec_lt}
use lib.Dec.{eqb, leb, eqb→eq}
use lib.ListN.{length, get_or, drop, take, drop_of_length-le, length-drop, get_or-eq_default}
use lib.Seq.{drop-cons, get_or-drop}
use borrow.Author.Tests.{eqb-true, eqb-false, leb-true, eq-eqb, ne_eqb, le-leb, lt-leb}
use Rattle.rules.specs.Base as Base
use Rattle.rules.specs.Base.{Name, all, any, first, eq_name, bytes, is, between}
use Rattle.rules.specs.Text.{reserved}
use Rattle.rules.specs.Grammar as Grammar
use Rattle.rules.specs.Grammar.{Kind, kinds, last_kind, kind_number, kind_of, form}
use Rattle.rules.proofs.LineKinds.{every-kind, kind-bounds}
use Rattle.read_words.specs.Words as Words
use Rattle.read_words.specs.Words.{words, int_word, null_word, this_word, result_word}
use Rattle.read_words.specs.Words.{place_in, word_number, kind_at, kind_or0, packed, packed_in}
use Rattle.read_bytes.proofs.Search.{true-false, both_true, or-false, between-true, all-at, same-is, same_refl, not_same}

-- PACKING

-- what a number of at most i bytes stays below
abbrev pub room : ℕ → ℕ
room zero = 1
room (suc i) = 256 * room i

room-more : (k i : ℕ) → room i ≤ room (k + i)
room-more zero i = let e : 0 + i ≡ i = omega arith in rw e (omega arith)
room-more (suc k) i = let e : suc k + i ≡ suc (k + i) = omega arith in let h = room-more k i in rw e (omega arith)

pub room-eight : (i : ℕ) → i ≤ 8 → room i ≤ 18446744073709551616
room-eight i h = let e : 8 - i + i ≡ 8 = omega arith in rw e at (room-more (8 - i) i)

pub packed-on : (n : ℕ) (w : Name) (i : ℕ) → i < length w → packed n (drop i w) ≡ packed (n * 256 + get_or w i 0) (drop (i + 1) w)
unfolding packed
packed-on n w i h = rw (add-one, drop-cons w i 0 h)

pub packed-end : (n : ℕ) (w : Name) (i : ℕ) → length w ≤ i → packed n (drop i w) ≡ n
unfolding packed
packed-end n w i h = rw (drop_of_length-le w {i = i} h)

packed-grows : (w : Name) (n : ℕ) → n ≤ packed n w
unfolding packed
packed-grows [] n = omega arith
packed-grows (b ∷ t) n = let h = packed-grows t (n * 256 + b) in omega (arith, h)

packed-parts : (k : ℕ) (n : ℕ) (w : Name) → packed n w ≡ packed (packed n (take k w)) (drop k w)
unfolding packed
packed-parts zero n w = refl
packed-parts (suc k) n [] = refl
packed-parts (suc k) n (b ∷ t) = packed-parts k (n * 256 + b) t

-- two fields of one length
pub packed-same :
    (v w : Name) (m n : ℕ) → length v ≡ length w → ((i : ℕ) → get_or v i 0 < 256) → ((i : ℕ) → get_or w i 0 < 256) →
    packed m v ≡ packed n w → (m ≡ n) × (v ≡ w)
unfolding packed
packed-same [] [] m n h p q e = (e, refl)
packed-same [] (y ∷ w) m n h p q e = absurd (omega arith)
packed-same (x ∷ v) [] m n h p q e = absurd (omega arith)
packed-same (x ∷ v) (y ∷ w) m n h p q e =
    let r = packed-same v w (m * 256 + x) (n * 256 + y) (omega arith) (λ i. p (suc i)) (λ i. q (suc i)) e in
    (omega (arith, r.0, p 0, q 0), ap₂ ◌∷◌ (omega (arith, r.0, p 0, q 0)) r.1)

-- a field whose first byte is not 0 packs to more than any shorter one
shorter : (v w : Name) → ((i : ℕ) → get_or v i 0 < 256) → ((i : ℕ) → get_or w i 0 < 256) → 1 ≤ get_or w 0 0 → length v < length w → packed 0 v ≡ packed 0 w → ⊥
unfolding packed
shorter v [] p q f h e = omega arith
shorter v (y ∷ w) p q f h e =
    let k = length w - length v in
    let r = packed-same v (drop (suc k) (y ∷ w)) 0 (packed 0 (take (suc k) (y ∷ w))) (omega (arith, length-drop k w)) p (λ i. rest k i) (e ∙ packed-parts (suc k) 0 (y ∷ w)) in
    omega (arith, r.0, packed-grows (take k w) (0 * 256 + y))
  where
    rest : (k i : ℕ) → get_or (drop k w) i 0 < 256
    rest k i = rw get_or-drop (q (suc (k + i)))

pub packed-is :
    (v w : Name) → ((i : ℕ) → get_or v i 0 < 256) → ((i : ℕ) → get_or w i 0 < 256) → 1 ≤ get_or v 0 0 → 1 ≤ get_or w 0 0 → packed 0 v ≡ packed 0 w →
    v ≡ w
packed-is v w p q f g e =
    elim (dec_lt (length v) (length w)) [
      | yes h ↦ absurd (shorter v w p q g h e)
      | no h ↦ elim (dec_lt (length w) (length v)) [ yes k ↦ absurd (shorter w v q p f k (sym e)) | no k ↦ (packed-same v w 0 0 (omega arith) p q e).1 ]
    ]

-- the bytes of a word
pub solid : (s : Name) → all (between 1 255) s ≡ true → (i : ℕ) → get_or s i 0 < 256
solid s e i =
    elim (dec_lt i (length s)) [
      | yes h ↦ let b = between-true 1 255 (get_or s i 0) (all-at (between 1 255) s i e h) in omega (arith, b)
      | no h ↦ omega (arith, get_or-eq_default s 0 {n = i} (omega arith))
    ]

-- a field of bytes, its first not 0, that packs as a word does
pub word-is :
    (w s : Name) → ((i : ℕ) → get_or w i 0 < 256) → 1 ≤ get_or w 0 0 → all (between 1 255) s ≡ true → leb 1 (length s) ≡ true → packed 0 w ≡ packed 0 s →
    w ≡ s
word-is w s p f a h e =
    let b = between-true 1 255 (get_or s 0 0) (all-at (between 1 255) s 0 a (leb-true 1 (length s) h)) in
    packed-is w s p (solid s a) f (omega (arith, b)) e

-- a field as long as a word is spelled as the word where it packs as the word does
pub spelled :
    (w s : Name) → length w ≡ length s → ((i : ℕ) → get_or w i 0 < 256) → all (between 1 255) s ≡ true → eqb (packed 0 w) (packed 0 s) ≡ eq_name s w
spelled w s l p a = go (eq_name s w) refl
  where
    go : (q : Bool) → eq_name s w ≡ q → eqb (packed 0 w) (packed 0 s) ≡ q
    go true e = eq-eqb _ _ (ap (packed 0) (sym (same-is s w e)))
    go false e =
        ne_eqb (packed 0 w) (packed 0 s)
        (λ z. true-false (sym (same_refl s) ∙ (ap (eq_name s) (sym (packed-same w s 0 0 l p (solid s a) z).1) ∙ e)))

-- a word begins with no 0, and its bytes are bytes
unfoldable fine : String → Bool
fine s = leb 1 (length (bytes s)) && all (between 1 255) (bytes s)

module _ (w : Name) (p : (i : ℕ) → get_or w i 0 < 256) (f : 1 ≤ get_or w 0 0) where
  packs-as : (s : String) → fine s ≡ true → is s w ≡ eqb (packed 0 w) (packed 0 (bytes s))
  unfolding is fine
  packs-as s a = go (both_true (leb 1 (length (bytes s))) (all (between 1 255) (bytes s)) a) (eq_name (bytes s) w) refl
    where
      go : (leb 1 (length (bytes s)) ≡ true) × (all (between 1 255) (bytes s) ≡ true) → (q : Bool) → eq_name (bytes s) w ≡ q → q ≡ eqb (packed 0 w) (packed 0 (bytes s))
      go b true e = sym (eq-eqb _ _ (ap (packed 0) (sym (same-is (bytes s) w e))))
      go b false e =
          sym
          (ne_eqb (packed 0 w) (packed 0 (bytes s))
          (λ z. true-false (sym (same_refl (bytes s)) ∙ (ap (eq_name (bytes s)) (sym (word-is w (bytes s) p f b.1 b.0 z)) ∙ e))))

  place-packed : (ss : List String) (n : ℕ) → all fine ss ≡ true → place_in ss n w ≡ packed_in ss n (packed 0 w)
  unfolding place_in packed_in all
  place-packed [] n a = refl
  place-packed (s ∷ ss) n a =
      let b = both_true (fine s) (all fine ss) a in rw (packs-as s b.0, place-packed ss (suc n) b.1)

  -- the number of a field is that of what it packs to
  pub word-packed : word_number w ≡ packed_in words 1 (packed 0 w)
  unfolding word_number Base.opened fine
  word-packed = place-packed words 1 refl

-- NO WORD

differs : (f : Name → Bool) (s : String) (w : Name) (q : Bool) (n r : ℕ) → f w ≡ true → f (bytes s) ≡ false → is s w ≡ q → r ≡ 0 → cond q n r ≡ 0
unfolding is
differs f s w true n r e h z i = true-false (sym e ∙ (ap f (sym (same-is (bytes s) w z)) ∙ h))
differs f s w false n r e h z i = i

apart : (f : Name → Bool) (ss : List String) (n : ℕ) (w : Name) → f w ≡ true → any (λ s. f (bytes s)) ss ≡ false → place_in ss n w ≡ 0
unfolding place_in any
apart f [] n w e h = refl
apart f (s ∷ ss) n w e h =
    let q = or-false (f (bytes s)) (any (λ s. f (bytes s)) ss) h in
    differs f s w (is s w) n (place_in ss (suc n) w) e q.0 refl (apart f ss (suc n) w e q.1)

-- a field that passes a test which no word passes
pub no_word : (f : Name → Bool) (w : Name) → f w ≡ true → any (λ s. f (bytes s)) words ≡ false → word_number w ≡ 0
unfolding word_number
no_word f w e h = apart f words 1 w e h

-- THE NUMBERS OF WORDS

cond-case : (P : ℕ → Type 0) (q : Bool) (m n : ℕ) → (q ≡ true → P m) → (q ≡ false → P n) → P (cond q m n)
cond-case P true m n t f = t refl
cond-case P false m n t f = f refl

place-range : (ss : List String) (n : ℕ) (w : Name) → (place_in ss n w ≡ 0) ⊎ ((n ≤ place_in ss n w) × (place_in ss n w < n + length ss))
unfolding place_in
place-range [] n w = inl refl
place-range (s ∷ ss) n w =
    cond-case (λ k. (k ≡ 0) ⊎ ((n ≤ k) × (k < n + suc (length ss)))) (is s w) n (place_in ss (suc n) w) (λ e. inr (omega arith, omega arith))
    (λ e. ⊎_elim (λ h. inl h) (λ h. inr (omega arith, omega arith)) (place-range ss (suc n) w))

pub word-most : (w : Name) → word_number w ≤ result_word
unfolding word_number
word-most w = ⊎_elim (λ h. omega arith) (λ h. omega arith) (place-range words 1 w)

beyond : (ss : List String) (n : ℕ) (w : Name) → 1 ≤ n → n ≡ place_in ss (suc n) w → ⊥
beyond ss n w h e = ⊎_elim (λ z. omega arith) (λ z. omega arith) (place-range ss (suc n) w)

place_same : (ss : List String) (n : ℕ) (v w : Name) → 1 ≤ n → place_in ss n v ≡ place_in ss n w → 1 ≤ place_in ss n v → v ≡ w
unfolding place_in is
place_same [] n v w h e z = absurd (omega arith)
place_same (s ∷ ss) n v w h e z = go (place_same ss (suc n) v w (omega arith)) (eq_name (bytes s) v) (eq_name (bytes s) w) refl refl e z
  where
    go :
        (place_in ss (suc n) v ≡ place_in ss (suc n) w → 1 ≤ place_in ss (suc n) v → v ≡ w) → (p q : Bool) → eq_name (bytes s) v ≡ p → eq_name (bytes s) w ≡ q → cond p n (place_in ss (suc n) v) ≡ cond q n (place_in ss (suc n) w) →
        1 ≤ cond p n (place_in ss (suc n) v) → v ≡ w
    go r true true a b e z = sym (same-is (bytes s) v a) ∙ same-is (bytes s) w b
    go r true false a b e z = absurd (beyond ss n w h e)
    go r false true a b e z = absurd (beyond ss n v h (sym e))
    go r false false a b e z = r e z

-- a field is spelled as a word is where it has the word's number
pub is_word : (s : String) (w : Name) → leb 1 (word_number (bytes s)) ≡ true → is s w ≡ eqb (word_number w) (word_number (bytes s))
unfolding is word_number
is_word s w h = go (eq_name (bytes s) w) refl
  where
    go : (q : Bool) → eq_name (bytes s) w ≡ q → q ≡ eqb (place_in words 1 w) (place_in words 1 (bytes s))
    go true e = sym (eq-eqb _ _ (ap (place_in words 1) (sym (same-is (bytes s) w e))))
    go false e =
        sym
        (ne_eqb (place_in words 1 w) (place_in words 1 (bytes s))
        (λ z. true-false (sym (same_refl (bytes s)) ∙ (ap (eq_name (bytes s)) (place_same words 1 (bytes s) w (omega arith) (sym z) (leb-true _ _ h)) ∙ e))))

pub int_is : (w : Name) → is "int" w ≡ eqb (word_number w) int_word
unfolding Words.opened Base.opened
int_is w = is_word "int" w refl

pub null_is : (w : Name) → is "null" w ≡ eqb (word_number w) null_word
unfolding Words.opened Base.opened
null_is w = is_word "null" w refl

pub this-is : (w : Name) → is "this" w ≡ eqb (word_number w) this_word
unfolding Words.opened Base.opened
this-is w = is_word "this" w refl

pub result-is : (w : Name) → is "result" w ≡ eqb (word_number w) result_word
unfolding Words.opened Base.opened
result-is w = is_word "result" w refl

reserved-from : (k : ℕ) → k ≤ result_word → (eqb k int_word || (eqb k null_word || (eqb k this_word || eqb k result_word))) ≡ leb int_word k
reserved-from k h = elim (dec_lt k int_word) [
  | yes a ↦ rw (ne_eqb k int_word (λ e. omega arith), ne_eqb k null_word (λ e. omega arith), ne_eqb k this_word (λ e. omega arith), lt-leb int_word k (omega arith)) (ne_eqb k result_word (λ e. omega arith))
  | no a ↦ rw (le-leb int_word k (omega arith)) (go (omega arith) (eqb k int_word) (eqb k null_word) (eqb k this_word) refl refl refl)
]
  where
    go : int_word ≤ k → (x y z : Bool) → eqb k int_word ≡ x → eqb k null_word ≡ y → eqb k this_word ≡ z → (x || (y || (z || eqb k result_word))) ≡ true
    go m true y z a b c = refl
    go m false true z a b c = refl
    go m false false true a b c = refl
    go m false false false a b c = eq-eqb k result_word (omega (arith, eqb-false k int_word a, eqb-false k null_word b, eqb-false k this_word c))

pub reserved-is : (w : Name) → reserved w ≡ leb int_word (word_number w)
unfolding reserved
reserved-is w = rw (int_is w, null_is w, this-is w, result-is w) (reserved-from (word_number w) (word-most w))

-- KINDS
first-same : {A : Type 0} (p q : A → Bool) (l : List A) → ((a : A) → p a ≡ q a) → first p l ≡ first q l
unfolding first
first-same p q [] h = refl
first-same p q (a ∷ l) h = rw (h a, first-same p q l h)

kind-word : (k : Kind) → (leb 1 (word_number (bytes (form k).word)) ≡ true) × (word_number (bytes (form k).word) ≡ kind_number k)
unfolding Words.opened Base.opened Grammar.opened
kind-word k =
    let n : ℕ = word_number (bytes (form k).word) in
    let e : n ≡ kind_number k = eqb→eq n (kind_number k) (every-kind (λ k. eqb (word_number (bytes (form k).word)) (kind_number k)) tt k) in
    (ap (leb 1) e ∙ le-leb 1 (kind_number k) (kind-bounds k).0, e)

-- the kind of a word is that of its number
pub kind-is : (w : Name) → kind_of w ≡ kind_at (word_number w)
unfolding kind_of kind_at
kind-is w =
    first-same (λ k. is (form k).word w) (λ k. eqb (word_number w) (kind_number k)) kinds
    (λ k. is_word (form k).word w (kind-word k).0 ∙ ap (eqb (word_number w)) (kind-word k).1)

-- a test that holds at each number below k
abbrev below : (ℕ → Bool) → ℕ → Bool
below p zero = true
below p (suc k) = p k && below p k

below_at : (p : ℕ → Bool) (k n : ℕ) → below p k ≡ true → n < k → p n ≡ true
below_at p zero n e h = absurd (omega arith)
below_at p (suc k) n e h =
    let q = both_true (p k) (below p k) e in
    elim (dec_lt n k) [ yes a ↦ below_at p k n q.1 a | no a ↦ (let z : n ≡ k = omega arith in ap p z ∙ q.0) ]

pub kind-number : (n : ℕ) → n ≤ last_kind → kind_or0 (kind_at n) ≡ n
unfolding kind_at Base.opened Grammar.opened
kind-number n h = eqb-true _ _ (below_at (λ n. eqb (kind_or0 (kind_at n)) n) (suc last_kind) n refl (omega arith))

no_kind : (n : ℕ) (ks : List Kind) → last_kind < n → first (λ k. eqb n (kind_number k)) ks ≡ none
unfolding first
no_kind n [] h = refl
no_kind n (k ∷ ks) h = rw (ne_eqb n (kind_number k) (λ a. omega (arith, a, kind-bounds k))) (no_kind n ks h)

pub kind-none : (n : ℕ) → last_kind < n → kind_or0 (kind_at n) ≡ 0
unfolding kind_at
kind-none n h = ap kind_or0 (no_kind n kinds h)

-- reserved words have three to six letters
pub not-reserved : (w : Name) → ((3 ≤ length w) × (length w ≤ 6) → ⊥) → reserved w ≡ false
unfolding reserved Base.is Base.bytes
not-reserved w h =
    rw (
      other "int" (omega arith, omega arith),
      other "null" (omega arith, omega arith),
      other "this" (omega arith, omega arith),
      other "result" (omega arith, omega arith),
    )
  where
    other : (s : String) → (3 ≤ length (bytes s)) × (length (bytes s) ≤ 6) → eq_name (bytes s) w ≡ false
    other s k = not_same (bytes s) w (λ e. h (omega (arith, k.0, ap length e), omega (arith, k.1, ap length e)))
