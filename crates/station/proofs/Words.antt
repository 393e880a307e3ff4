-- Words written one after the other into the results area.
use mathlib.Core.Path.{◌≡◌, refl, sym, ap, ◌∙◌}
use mathlib.Core.List.{List, [], ◌∷◌, ◌++◌, append_assoc, append-nil}
use Prim.Native.Nat.{ℕ, zero, suc, ◌+◌, ◌*◌, ◌≤◌, ◌<◌}
use native.Mathlib.Omega.{arith}
use native.Mathlib.Numerals.{add-one, towards_suc}
use lib.ListN.{length, take, drop, get_or, length-append, length-drop, drop_of_length-le}
use lib.Seq.{sets, sets-eq, take_at, drop-append-add, drop-drop, take-suc, take_all, length-take-le}
use Rattle.rules.specs.Areas.{word_bytes, words_bytes}
use Rattle.tables.specs.Layout.{frames_at}
use Rattle.tables.specs.Decode.{word_at}
use Rattle.tables.specs.Stores.{put_word}
use Rattle.machine.specs.Runs.{words, main_values}

word-sets : (l : List ℕ) (i v : ℕ) → put_word l i v ≡ sets l i (word_bytes v)
unfolding put_word word_bytes
word-sets l i v = simp towards_suc

pub word-put : (x d : List ℕ) (i v : ℕ) → length x ≡ i → 4 ≤ length d → put_word (x ++ d) i v ≡ x ++ (word_bytes v ++ drop 4 d)
unfolding word_bytes
word-put x d i v e h =
    word-sets (x ++ d) i v ∙ (sets-eq (word_bytes v) (x ++ d) i (omega (arith, length-append x d))
    ∙ rw (take_at x d i e, ← e, drop-append-add x d 4) (append_assoc x (word_bytes v) (drop 4 d)))

bytes-append : (a b : List ℕ) → words_bytes (a ++ b) ≡ words_bytes a ++ words_bytes b
unfolding words_bytes
bytes-append [] b = refl
bytes-append (w ∷ a) b = ap (λ (l : List ℕ). word_bytes w ++ l) (bytes-append a b) ∙ sym (append_assoc (word_bytes w) (words_bytes a) (words_bytes b))

pub bytes-length : (a : List ℕ) → length (words_bytes a) ≡ length a * 4
unfolding words_bytes word_bytes
bytes-length [] = refl
bytes-length (w ∷ a) = omega (arith, bytes-length a)

-- the first word
pub word_first :
    (d e : List ℕ) (v : ℕ) (ws : List ℕ) → e ≡ put_word d 0 v → 4 ≤ length d → e ≡ words_bytes (take 1 (v ∷ ws)) ++ drop (1 * 4) e
unfolding words_bytes word_bytes
word_first d e v ws i h = rw (i ∙ word-put [] d 0 v refl h)

-- one word more
pub word_more :
    (d ws : List ℕ) (i v : ℕ) → i < length ws → get_or ws i 0 ≡ v → length d ≡ length ws * 4 →
    put_word (words_bytes (take i ws) ++ drop (i * 4) d) (i * 4) v ≡ words_bytes (take (i + 1) ws) ++ drop ((i + 1) * 4) d
unfolding words_bytes word_bytes
word_more d ws i v h is e =
    let n : (i + 1) * 4 ≡ i * 4 + 4 = omega arith in
    word-put (words_bytes (take i ws)) (drop (i * 4) d) (i * 4) v
    (bytes-length (take i ws) ∙ ap (λ (k : ℕ). k * 4) (length-take-le i ws (omega arith)))
    (simp length-drop (omega arith))
    ∙ rw (n, add-one, take-suc ws i 0 h, is, bytes-append, drop-drop) (sym (append_assoc (words_bytes (take i ws)) (word_bytes v) (drop (i * 4 + 4) d)))

pub words-all : (d ws : List ℕ) (i : ℕ) → length ws ≤ i → length d ≡ length ws * 4 → words_bytes (take i ws) ++ drop (i * 4) d ≡ words_bytes ws
words-all d ws i h e = rw (take_all i ws h, drop_of_length-le d {i = i * 4} (omega arith)) (append-nil (words_bytes ws))

-- MAIN'S VALUES
words-length : (w : List ℕ) (i n : ℕ) → length (words w i n) ≡ n
unfolding words
words-length w i zero = refl
words-length w i (suc n) = ap suc (words-length w (i + 4) n)

word_of : (w : List ℕ) (i n k : ℕ) → k < n → get_or (words w i n) k 0 ≡ word_at w (i + k * 4)
unfolding words
word_of w i zero k h = absurd (omega (arith, h))
word_of w i (suc n) zero h = let e : i + 0 * 4 ≡ i = omega arith in ap (word_at w) (sym e)
word_of w i (suc n) (suc k) h =
    let e : i + 4 + k * 4 ≡ i + suc k * 4 = omega arith in word_of w (i + 4) n k (omega (arith, h)) ∙ ap (word_at w) e

pub values_length : (w : List ℕ) (v : ℕ) → length (v ∷ main_values w) ≡ 13
values_length w v = ap suc (words-length w (frames_at + 8) 12)

-- the word after the steps and i values
pub value_is : (w : List ℕ) (v i : ℕ) → 1 ≤ i → i < 13 → get_or (v ∷ main_values w) i 0 ≡ word_at w (54272 + 4 + i * 4)
value_is w v zero a b = absurd (omega (arith, a))
value_is w v (suc i) a b =
    let e : frames_at + 8 + i * 4 ≡ 54272 + 4 + suc i * 4 = omega arith in word_of w (frames_at + 8) 12 i (omega (arith, b)) ∙ ap (word_at w) e
