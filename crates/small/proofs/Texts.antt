-- Laws of a main by its digits and of its text: one place more, bytes that fit, what check returns.
use mathlib.Core.Path.{◌≡◌, refl, sym, ap, subst, ◌∙◌}
use mathlib.Core.Bool.{Bool}
use mathlib.Core.List.{List, [], ◌∷◌, ◌++◌, map, map-append, append_assoc, append-nil}
use Prim.Native.Nat.{ℕ, zero, suc, ◌+◌, ◌*◌, ◌-◌, ◌≤◌, ◌<◌}
use native.Mathlib.Omega.{arith}
use native.Mathlib.Numerals.{add-one}
use lib.Dec.{T, eqb, leb, leb→le, le→leb}
use lib.ListN.{length, get_or, take, set, length-append, length-map, length-set, get_or-map}
use lib.Seq.{length-take-le, take_all, take-suc, take-suc-set}
use borrow.Author.Tests.{eq-eqb, ne_eqb}
use Rattle.rules.specs.Base.{bytes, all, between}
use Rattle.rules.specs.Text.{line_feed, digit_zero}
use Rattle.rules.specs.Limits.{work_bytes}
use Rattle.rules.specs.Answers.{Verdict, accepted, refused, then, refusal_number}
use Rattle.rules.specs.Reading.{read_text}
use Rattle.rules.specs.Calls.{check_text, check_items, verdict_numbers}
use Rattle.rules.specs.Areas.{packed, check_call}
use Rattle.rules.proofs.Lists.{and_both, and_intro}
use Rattle.rules.proofs.Tries.{refusal-not-zero}
use Rattle.printer.specs.Writes.{Writes, Prints}
use Rattle.printer.proofs.Writes.{writes-on}
use Rattle.small_list.specs.Small.{Main, most_statements, statement, opening, body, closing, text_of, line_of}
use Rattle.small_list.specs.Small as Small
use Rattle.small.specs.declared.Places.{Places}
use Rattle.small.specs.Listing.{most_line, IsPlace, places_in, Known, Adds}

-- PLACES
all-at : (t : ℕ → Bool) (l : List ℕ) (i : ℕ) → T (all t l) → i < length l → T (t (get_or l i 0))
unfolding all
all-at t [] i h k = absurd (omega arith)
all-at t (a ∷ l) zero h k = (and_both (t a) _ h).0
all-at t (a ∷ l) (suc i) h k = all-at t l i (and_both (t a) _ h).1 (omega arith)

all_end : (t : ℕ → Bool) (l : List ℕ) (a : ℕ) → T (all t l) → T (t a) → T (all t (l ++ (a ∷ [])))
unfolding all
all_end t [] a h k = and_intro (t a) _ k tt
all_end t (b ∷ l) a h k = let (x, y) = and_both (t b) _ h in and_intro (t b) _ x (all_end t l a y k)

pub place-bounds : (p : ℕ) → IsPlace p → (1 ≤ p) × (p ≤ 5)
unfolding between
place-bounds p t = let (x, y) = and_both (leb 1 p) _ t in (leb→le 1 p x, leb→le p 5 y)

pub is_place : (p : ℕ) → 1 ≤ p → p ≤ 5 → IsPlace p
unfolding between
is_place p x y = and_intro (leb 1 p) (leb p 5) (le→leb 1 p x) (le→leb p 5 y)

pub digits_count : {m : Places} → Known m → length (take m.count m.digits) ≡ m.count
digits_count {m} k = length-take-le m.count m.digits (omega (arith, k.few, k.size))

pub places_count : {m : Places} → Known m → length (places_in m) ≡ m.count
places_count {m} k =
    length-map (take m.count m.digits) (λ d. d - digit_zero) ∙ digits_count k

-- the digit at i is that of its place
pub place_is : (m : Places) (i : ℕ) → get_or (places_in m) i 0 ≡ get_or (take m.count m.digits) i 0 - digit_zero
place_is m i = get_or-map (λ d. d - digit_zero) (take m.count m.digits) i 0

pub place-known : {m : Places} (i : ℕ) → Known m → i < m.count → IsPlace (get_or (take m.count m.digits) i 0 - digit_zero)
place-known {m} i k h = subst IsPlace (place_is m i) (all-at (between 1 5) (places_in m) i k.places (omega (arith, h, places_count k)))

pub none-known : (m : Places) → m.count ≡ 0 → length m.digits ≡ most_statements → (places_in m ≡ []) × Known m
unfolding all
none-known m z s =
    let e : take m.count m.digits ≡ [] = rw z in
    let n : places_in m ≡ [] = ap (map (λ d. d - digit_zero)) e in (
      n,
      record {
        few = omega arith;
        size = s;
        digits = ap (map (λ p. digit_zero + p)) n ∙ sym e;
        places = subst (λ l. T (all (between 1 5) l)) (sym n) tt;
      },
    )

module _ (p : ℕ) {m : Places} (k : Known m) (h : m.count < most_statements) (t : IsPlace p) where
  abbrev more : Places
  more = record { digits = set m.digits m.count (digit_zero + p); count = m.count + 1 }

  digits_more : take (m.count + 1) more.digits ≡ take m.count m.digits ++ ((digit_zero + p) ∷ [])
  digits_more = rw add-one (take-suc-set m.digits m.count (digit_zero + p) (omega (arith, h, k.size)))

  places-more : places_in more ≡ places_in m ++ (p ∷ [])
  places-more =
      ap (map (λ d. d - digit_zero)) digits_more
      ∙ (map-append (λ d. d - digit_zero) (take m.count m.digits) ((digit_zero + p) ∷ [])
      ∙ ap (λ q. places_in m ++ (q ∷ [])) (let z : (digit_zero + p) - digit_zero ≡ p = omega arith in z))

  pub adds : Adds m p more
  adds =
      record {
        places = places-more;
        count = refl;
        known =
            record {
              few = omega (arith, h);
              size = length-set m.digits m.count (digit_zero + p) ∙ k.size;
              digits =
                  ap (map (λ q. digit_zero + q)) places-more
                  ∙ (map-append (λ q. digit_zero + q) (places_in m) (p ∷ [])
                  ∙ (ap (λ l. l ++ ((digit_zero + p) ∷ [])) k.digits ∙ sym digits_more));
              places = subst (λ l. T (all (between 1 5) l)) (sym places-more) (all_end (between 1 5) (places_in m) p k.places t);
            };
      }

-- LINES
pub line-is : {m : Places} → Known m → take m.count m.digits ++ (line_feed ∷ []) ≡ line_of (places_in m)
unfolding line_of
line-is k = ap (λ l. l ++ (line_feed ∷ [])) (sym k.digits)

pub line-length : {m : Places} → Known m → length (line_of (places_in m)) ≡ length (take m.count m.digits) + 1
line-length {m} k = ap length (sym (line-is k)) ∙ length-append (take m.count m.digits) (line_feed ∷ [])

-- THE TEXT
statement-short : (p : ℕ) → length (statement p) ≤ most_line
unfolding statement bytes
statement-short zero = omega arith
statement-short (suc zero) = omega arith
statement-short (suc (suc zero)) = omega arith
statement-short (suc (suc (suc zero))) = omega arith
statement-short (suc (suc (suc (suc zero)))) = omega arith
statement-short (suc (suc (suc (suc (suc zero))))) = omega arith
statement-short (suc (suc (suc (suc (suc (suc p)))))) = omega arith

pub body-short : (m : Main) → length (body m) ≤ most_line * length m
unfolding body
body-short [] = omega arith
body-short (p ∷ m) = omega (arith, length-append (statement p) (body m), statement-short p, body-short m)

-- so far
pub part-short : (m : Main) (i : ℕ) → i ≤ length m → length (body (take i m)) ≤ most_line * i
part-short m i h = omega (arith, body-short (take i m), length-take-le i m h)

body-append : (m : Main) (p : ℕ) → body (m ++ (p ∷ [])) ≡ body m ++ statement p
unfolding body
body-append [] p = append-nil (statement p)
body-append (q ∷ m) p = ap (λ l. statement q ++ l) (body-append m p) ∙ sym (append_assoc (statement q) (body m) (statement p))

pub body_more :
    {m : Places} (i : ℕ) → Known m → i < m.count →
    body (take i (places_in m)) ++ statement (get_or (take m.count m.digits) i 0 - digit_zero) ≡ body (take (i + 1) (places_in m))
body_more {m} i k h =
    ap (λ p. body (take i (places_in m)) ++ statement p) (sym (place_is m i))
    ∙ (sym (body-append (take i (places_in m)) (get_or (places_in m) i 0))
    ∙ ap body (rw add-one (sym (take-suc (places_in m) i 0 (omega (arith, h, places_count k))))))

pub body-whole : {m : Places} (i : ℕ) → Known m → m.count ≤ i → body (take i (places_in m)) ≡ body (places_in m)
body-whole {m} i k h = ap body (take_all i (places_in m) (omega (arith, h, places_count k)))

pub opening-length : length opening ≡ 43
unfolding opening bytes
opening-length = refl

pub whole-text :
    (m : Main) {o p q r : List ℕ} {a b e : ℕ} → Writes o 0 opening p a → Writes p a (body m) q b → Writes q b closing r e → Prints (text_of m) r e
unfolding text_of
whole-text m x y z = let w = writes-on x (writes-on y z) in record { high = w.high; are = w.are }

-- CHECK

-- what check returns is 0 exactly if its number is
returned-zero :
    (v : Verdict (Unit {0})) → eqb (packed (verdict_numbers v).0 (verdict_numbers v).1) 0 ≡ eqb (verdict_numbers v).0 0
unfolding packed verdict_numbers
returned-zero (accepted u) = refl
returned-zero (refused r l) =
    let n : refusal_number r ≡ 0 → ⊥ = refusal-not-zero r in
    ne_eqb (refusal_number r * 65536 + l) 0 (λ e. n (omega (arith, e))) ∙ sym (ne_eqb (refusal_number r) 0 n)

pub accepted-by :
    (m : Main) (t w : List ℕ) {r : ℕ} → t ≡ text_of m → length w ≡ work_bytes → r ≡ (check_call t w).returned → eqb r 0 ≡ Small.accepted m
unfolding check_call check_text Small.accepted
accepted-by m t w h s e =
    let d : (check_call t w).returned ≡ packed (check_text t).0 (check_text t).1 = rw (eq-eqb (length w) work_bytes s) in
    ap (λ n. eqb n 0) (e ∙ d) ∙ (returned-zero (then (read_text t) check_items) ∙ ap (λ u. eqb (check_text u).0 0) h)
