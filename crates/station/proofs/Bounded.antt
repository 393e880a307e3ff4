-- `bound`: the bytes that it writes, and its answer by what check and the reckoner answer.
use mathlib.Core.Path.{◌≡◌, refl, sym, ap, subst, ◌∙◌}
use mathlib.Core.Bool.{Bool, true, false, cond}
use mathlib.Core.List.{List, [], ◌∷◌}
use mathlib.Core.Option.{Option, none, some}
use Prim.Native.Nat.{ℕ, ◌≤◌, ◌<◌}
use native.Mathlib.Omega.{arith}
use lib.Dec.{leb}
use lib.ListN.{length, replicate}
use Rattle.std.specs.Prelude as Std
use Rattle.std.specs.Prelude.{Ok, Err, is_err}
use Rattle.rules.specs.Limits.{most_bytes, bounds_bytes, most_bound}
use Rattle.rules.specs.Answers.{Refusal, Verdict, accepted, refused, then, refusal_number, unbounded, bound_passed}
use Rattle.rules.specs.Syntax.{Row, Program, no_row, row_numbered}
use Rattle.rules.specs.Items.{Item}
use Rattle.rules.specs.Reading.{read_text, program}
use Rattle.rules.specs.Bounds.{main_bound, main_frames, first_repeating, bound_of, bound_program}
use Rattle.rules.specs.Calls.{Bounds, check_items, verdict_numbers, check_text, bound_items, bound_numbers, bound_text}
use Rattle.rules.specs.Areas.{cleared, word_bytes, words_bytes, bound_bytes}
use Rattle.rules.proofs.Tries.{refusal-not-zero}
use Rattle.rules.proofs.LinesTaken.{read_taken}
use Rattle.tables.specs.Decode.{program_in}
use Rattle.tables.specs.Stores.{put_word}
use Rattle.tables.proofs.BytesRead.{put-word-length}
use Rattle.bound_laws.proofs.Repeating.{repeating-row}
use Rattle.bound_walk.specs.declared.Bound.{Bound}
use Rattle.reckoner.specs.declared.Refusal as Declared
use Rattle.reckoner.specs.declared.Refusal.TheVariants.{Unbounded, Passed}
use Rattle.reckoner.specs.Reckoned.{verdict_of}
use Rattle.widths.proofs.ReadBounds.{all-get, Within, RowFits, read-within, items-small, items-few, program-fits, check-within}
use Rattle.station.specs.declared.Reply.{Reply}
use Rattle.station.specs.Station.{Finding, numbers_in, no_bound, Found, BoundAs, bound_found}
use Rattle.station.proofs.Words.{word_first, word_more, words-all}
use Rattle.station.proofs.Texts.{not-zero, refusal-small}

-- THE AREA
pub two-words :
    (d e : List ℕ) (b f : ℕ) → length d ≡ bounds_bytes → e ≡ put_word d 0 b → put_word e 4 f ≡ words_bytes (b ∷ f ∷ [])
two-words d e b f n i =
    let m : length e ≡ 8 = ap (λ (l : List ℕ). length l) i ∙ put-word-length d 0 b ∙ n in
    ap (λ l. put_word l 4 f) (word_first d e b (f ∷ []) i (omega (arith, n)))
    ∙ word_more e (b ∷ f ∷ []) 1 f (omega arith) refl m
    ∙ words-all e (b ∷ f ∷ []) 2 (omega arith) m

-- THE ANSWER
abbrev pub numbers_of : Bounds → ℕ × ℕ
numbers_of b = (b.number, b.line)

module _ (v : Verdict (ℕ × ℕ)) where
  abbrev Answers : ℕ × ℕ → List ℕ → Type 0
  Answers p d = (p ≡ numbers_of (bound_numbers v)) × (d ≡ bound_bytes (bound_numbers v))

  given-answer : (b f : ℕ) → accepted (b, f) ≡ v → {d : List ℕ} → d ≡ words_bytes (b ∷ f ∷ []) → Answers (0, 0) d
  unfolding bound_numbers bound_bytes
  given-answer b f e i = rw (← e) (refl, i)

  refused-answer :
      (r : Refusal) (l : ℕ) → refused r l ≡ v → {n : ℕ} → n ≡ refusal_number r → (b : List ℕ) → length b ≡ bounds_bytes → {d : List ℕ} →
      d ≡ cleared b → Answers (n, l) d
  unfolding bound_numbers bound_bytes words_bytes word_bytes cleared
  refused-answer r l e i b m c = rw (← e) (ap (λ (n : ℕ). (n, l)) i, c ∙ ap (λ (n : ℕ). replicate n 0) m)

  -- by the reckoner's answer
  module _ (o : Std.Result Bound Declared.Refusal) (is : verdict_of o ≡ v) where
    pub outcome-given : (b : Bound) → o ≡ Ok b → {d : List ℕ} → d ≡ words_bytes (b.steps ∷ b.frames ∷ []) → Answers (0, 0) d
    unfolding verdict_of
    outcome-given b e i = given-answer b.steps b.frames (ap verdict_of (sym e) ∙ is) i

    module _ (b : List ℕ) (m : length b ≡ bounds_bytes) {d : List ℕ} (c : d ≡ cleared b) where
      pub outcome-unbounded : (l : ℕ) → o ≡ Err (Unbounded l) → Answers (refusal_number unbounded, l) d
      unfolding verdict_of
      outcome-unbounded l e = refused-answer unbounded l (ap verdict_of (sym e) ∙ is) refl b m c

      pub outcome-passed : o ≡ Err Passed → Answers (refusal_number bound_passed, 0) d
      unfolding verdict_of
      outcome-passed e = refused-answer bound_passed 0 (ap verdict_of (sym e) ∙ is) refl b m c

-- WHAT WAS FOUND
pub found_none : {f : Finding} (P : Program) → f ≡ Ok tt → bound_numbers (bound_program P) ≡ bound_found f P
found_none P e = rw e refl

pub found-zeros :
    (f : Finding) (P : Program) → is_err f ≡ true → (b : List ℕ) → length b ≡ bounds_bytes → {d : List ℕ} → d ≡ cleared b →
    BoundAs (bound_found f P) f d
unfolding bound_bytes words_bytes word_bytes cleared
found-zeros (Ok u) P e b m c = absurd (let y : false ≡ true = e in cc)
found-zeros (Err r) P e b m c = (refl, c ∙ ap (λ (n : ℕ). replicate n 0) m)

-- where check refuses, so does bound; where it does not, the program decides
module _ (t : List ℕ) where
  check-refuses : ((check_text t).0 ≡ 0 → ⊥) → bound_text t ≡ no_bound (check_text t)
  unfolding check_text bound_text bound_items verdict_numbers bound_numbers then
  check-refuses n = go (read_text t) refl
    where
      go : (v : Verdict (List Item)) → read_text t ≡ v → bound_text t ≡ no_bound (check_text t)
      go (refused r l) e = rw e refl
      go (accepted items) e = by (check_items items) refl
        where
          by : (v : Verdict (Unit {0})) → check_items items ≡ v → bound_text t ≡ no_bound (check_text t)
          by (refused r l) c = rw (e, c) refl
          by (accepted u) c = absurd (n (rw (e, c) refl))

  check-accepts :
      (check_text t).0 ≡ 0 → (items : List Item) → read_text t ≡ accepted items → bound_text t ≡ bound_numbers (bound_program (program items))
  unfolding check_text bound_text bound_items verdict_numbers then
  check-accepts n items e = by (check_items items) refl
    where
      by : (v : Verdict (Unit {0})) → check_items items ≡ v → bound_text t ≡ bound_numbers (bound_program (program items))
      by (accepted u) c = rw (e, c) refl
      by (refused r l) c = refusal-not-zero r (sym (rw (e, c) refl) ∙ n)

  pub found-bound : {f : Finding} {w : List ℕ} → Found (check_text t) t f w → bound_found f (program_in w) ≡ bound_text t
  found-bound {f = Ok u} {w} F =
      let x = (F.taken refl).1 in
      ap (λ P. bound_numbers (bound_program P)) x.program
      ∙ sym (check-accepts (ap (λ (p : ℕ × ℕ). p.0) (sym F.numbers)) x.items x.read)
  found-bound {f = Err r} {w} F = ap no_bound F.numbers ∙ sym (check-refuses (not-zero r F.numbers))

-- WHAT IS RETURNED FITS
line_small : (n : ℕ) (v : Verdict (ℕ × ℕ)) → Within n v → (bound_numbers v).line ≤ n
unfolding bound_numbers
line_small n (accepted b) h = omega arith
line_small n (refused r l) h = h

number_small : (v : Verdict (ℕ × ℕ)) → (bound_numbers v).number < 65536
unfolding bound_numbers
number_small (accepted b) = omega arith
number_small (refused r l) = refusal-small r

bound-within : (n : ℕ) (P : Program) → ((j : ℕ) → (row_numbered P j).line ≤ n) → Within n (bound_program P)
unfolding bound_program bound_of
bound-within n P h = go (first_repeating P) refl
  where
    go : (o : Option Row) → first_repeating P ≡ o → Within n (bound_of P o)
    go (some r) e = let (j, q) = repeating-row P r e in subst (λ (r : Row). r.line ≤ n) (sym q) (h j)
    go none e = fits (leb (main_bound P) most_bound)
      where
        fits : (b : Bool) → Within {A = ℕ × ℕ} n (cond b (accepted (main_bound P, main_frames P)) (refused bound_passed 0))
        fits true = tt
        fits false = omega arith

then-small :
    {A : Type 0} (n : ℕ) (v : Verdict A) (k : A → Verdict (ℕ × ℕ)) → Within n v → ((a : A) → v ≡ accepted a → Within n (k a)) → Within n (then v k)
unfolding then
then-small n (accepted a) k x y = y a refl
then-small n (refused r l) k x y = x

text-within : (t : List ℕ) → Within most_bytes (then (read_text t) bound_items)
unfolding bound_items row_numbered
text-within t =
    then-small most_bytes (read_text t) bound_items (read-within t)
    (λ items e.
    let few = items-few t items e in
    let (text, x) = read_taken t items e in
    let s = items-small text x in
    then-small most_bytes (check_items items) (λ u. bound_program (program items)) (check-within most_bytes items few s)
    (λ u q.
    bound-within most_bytes (program items)
    (λ j.
    (all-get (RowFits most_bytes) (program items).rows no_row j (record { line = omega arith; stmt = tt }) (program-fits most_bytes items few s)).line)))

pub bound-fits : (t : List ℕ) (f : Reply) → numbers_in f ≡ numbers_of (bound_text t) → (f.number < 65536) × (f.line < 65536)
unfolding bound_text
bound-fits t f e = (
  subst (λ (n : ℕ). n < 65536) (sym (ap (λ (p : ℕ × ℕ). p.0) e)) (number_small (then (read_text t) bound_items)),
  omega (arith, ap (λ (p : ℕ × ℕ). p.1) e, line_small most_bytes (then (read_text t) bound_items) (text-within t)),
)
