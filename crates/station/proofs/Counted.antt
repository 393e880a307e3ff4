-- W12's promises for what `station::count` returns and leaves: by its contract that is what `count_call` says. The statements are those of
-- specs/Counts.
use mathlib.Core.Path.{◌≡◌, refl, sym, ap, ap₂, subst, ◌∙◌}
use mathlib.Core.Bool.{true}
use mathlib.Core.List.{List, [], ◌∷◌}
use mathlib.Core.Logic.{inl, inr, ⊎_elim}
use Prim.Native.Nat.{ℕ, zero, suc, ◌+◌, ◌*◌, ◌<◌}
use native.Mathlib.Omega.{arith}
use lib.ListN.{length, get_or, take, drop, replicate, length-append}
use lib.Seq.{take_at, drop_at, drop-drop}
use borrow.Author.Tests.{eq-eqb}
use Rattle.rules.specs.Limits.{work_bytes, results_bytes, count_bytes, script_bytes}
use Rattle.rules.specs.Joint.{room_of}
use Rattle.rules.specs.Calls.{Result, refused_result, run_text_in, count_text}
use Rattle.rules.specs.Areas.{packed, cleared, number_in, word_bytes, words_bytes, result_bytes, bytes_of_script, scripts_bytes, ran_call, count_call}
use Rattle.joint.specs.Counts.{Asked, text_at, share_at, SharesRight, no_result, result_at, CountsAlone, RefusesShares, ScriptRefused, ScriptClaim}
use Rattle.joint.proofs.Shares.{decide-lt}
use Rattle.joint.proofs.Counts.{decide-shares, counts_alone, refuses, every-script}
use Rattle.rules.specs.Demand.{NotStuck}
use Rattle.tables.specs.Decode.{word_at}
use Rattle.widths.proofs.Words.{word_first}
use Rattle.widths.proofs.Returned.{number-packed}
use Rattle.areas.specs.Lengths.{areas_fit}
use Rattle.station.specs.Counts.{LentAreas, count_over, part_at, ReturnsAlone, ReturnsWrongShares, EveryCountReturned, AsRunReturns, returned_at, PartRefused, PartClaim, EveryPartReturned}
use Rattle.station.proofs.Texts.{ShareFits, share-fits}
use Rattle.station.proofs.Demand3.{check-returned}
use Rattle.station.proofs.Parts.{script-length, share-small, zeros-are}

-- PARTS OF THE RESULTS
abbrev Long : Result → Type 0
Long r = length (bytes_of_script r) ≡ script_bytes

part_of :
    (rs : List Result) (d : Result) → ((i : ℕ) → i < length rs → Long (get_or rs i d)) → (i : ℕ) → i < length rs →
    take script_bytes (drop (i * script_bytes) (scripts_bytes rs)) ≡ bytes_of_script (get_or rs i d)
unfolding scripts_bytes
part_of [] d h i l = absurd (omega arith)
part_of (r ∷ rs) d h zero l = take_at (bytes_of_script r) (scripts_bytes rs) script_bytes (h 0 l)
part_of (r ∷ rs) d h (suc i) l =
    let e : suc i * script_bytes ≡ script_bytes + i * script_bytes = omega arith in
    ap (λ (k : ℕ). take script_bytes (drop k (scripts_bytes (r ∷ rs)))) e
    ∙ (ap (take script_bytes)
    (sym (drop-drop (i * script_bytes) script_bytes (scripts_bytes (r ∷ rs)))
    ∙ ap (drop (i * script_bytes)) (drop_at (bytes_of_script r) (scripts_bytes rs) script_bytes (h 0 (omega arith))))
    ∙ part_of rs d (λ j k. h (suc j) (omega (arith, k))) i (omega arith))

all-length : (rs : List Result) (d : Result) → ((i : ℕ) → i < length rs → Long (get_or rs i d)) → length (scripts_bytes rs) ≡ length rs * script_bytes
unfolding scripts_bytes
all-length [] d h = refl
all-length (r ∷ rs) d h =
    length-append (bytes_of_script r) (scripts_bytes rs)
    ∙ omega (arith, h 0 (omega arith), all-length rs d (λ j k. h (suc j) (omega (arith, k))))

-- WHAT THE CALL RETURNS
module _ (q : Asked) (l : LentAreas) where
  areas-fit : areas_fit l.work l.results count_bytes ≡ true
  unfolding areas_fit
  areas-fit = rw (eq-eqb (length l.work) work_bytes l.whole, eq-eqb (length l.results) count_bytes l.wide) refl

  abbrev answers : List Result
  answers = (count_text q.scripts q.rounds q.texts q.shares).scripts

  results-are : (count_over q l).results ≡ scripts_bytes answers
  unfolding count_call areas_fit
  results-are = rw areas-fit refl

  work-is : (count_over q l).work ≡ cleared l.work
  unfolding count_call areas_fit
  work-is = rw areas-fit refl

  returned-is :
      (count_over q l).returned
      ≡ packed (count_text q.scripts q.rounds q.texts q.shares).number (count_text q.scripts q.rounds q.texts q.shares).line
  unfolding count_call areas_fit
  returned-is = rw areas-fit refl

  none : bytes_of_script no_result ≡ replicate script_bytes 0
  unfolding bytes_of_script result_bytes words_bytes word_bytes packed refused_result
  none = refl

  module _ (S : SharesRight q) where
    abbrev C : CountsAlone q
    C = counts_alone q S

    long : (i : ℕ) → i < length answers → Long (result_at q i)
    unfolding refused_result
    long i h =
        ⊎_elim
        (λ k.
        ap (λ (r : Result). length (bytes_of_script r)) (C.each i k)
        ∙ script-length _ (share-fits (share_at q i) (share-small q S i (omega (arith, h, C.four)) k) (text_at q i) q.rounds).shown)
        (λ k. ap (λ (r : Result). length (bytes_of_script r)) (C.past i k) ∙ script-length no_result refl)
        (decide-lt i q.scripts)

    returns-alone : ReturnsAlone q l
    unfolding packed
    returns-alone =
        record {
          returned = returned-is ∙ ap₂ (λ (n k : ℕ). packed n k) C.number C.line;
          work = work-is;
          each =
              λ i h.
              ap (λ (b : List ℕ). take script_bytes (drop (i * script_bytes) b)) results-are
              ∙ (part_of answers no_result long i (omega (arith, h, S.at_most_four, C.four)) ∙ ap bytes_of_script (C.each i h));
          past =
              λ i h k.
              ap (λ (b : List ℕ). take script_bytes (drop (i * script_bytes) b)) results-are
              ∙ (part_of answers no_result long i (omega (arith, k, C.four)) ∙ (ap bytes_of_script (C.past i h) ∙ none));
          size = ap (λ (b : List ℕ). length b) results-are ∙ (all-length answers no_result long ∙ omega (arith, C.four));
        }

  returns-refusal : (SharesRight q → ⊥) → ReturnsWrongShares q l
  returns-refusal n =
      let R : RefusesShares q = refuses q n in
      record {
        returned = returned-is ∙ ap₂ (λ (n k : ℕ). packed n k) R.number R.line;
        work = work-is;
        results = results-are ∙ (ap scripts_bytes R.zeros ∙ sym (zeros-are q l.work l.results areas-fit));
      }

pub every-count-returned : EveryCountReturned
every-count-returned q l = ⊎_elim (λ S. inl (S, returns-alone q l S)) (λ n. inr (n, returns-refusal q l n)) (decide-shares q)

-- "what run returns, then results"
pub as-run-returns : AsRunReturns
unfolding bytes_of_script ran_call
as-run-returns t k w b e f = rw (eq-eqb (length w) work_bytes e, eq-eqb (length b) results_bytes f) refl

-- DEMAND 3
module _ (q : Asked) (l : LentAreas) (S : SharesRight q) (i : ℕ) (h : i < q.scripts) where
  abbrev r : Result
  r = run_text_in (room_of (share_at q i)) (text_at q i) q.rounds

  part-is : part_at (count_over q l) i ≡ bytes_of_script (result_at q i)
  part-is = (returns-alone q l S).each i h ∙ ap bytes_of_script (sym ((counts_alone q S).each i h))

  fits : ShareFits (result_at q i)
  fits =
      subst ShareFits (sym ((counts_alone q S).each i h))
      (share-fits (share_at q i) (share-small q S i (omega (arith, h, S.at_most_four)) h) (text_at q i) q.rounds)

  -- the first word
  word-is : returned_at (count_over q l) i ≡ packed (result_at q i).number (result_at q i).line
  unfolding bytes_of_script packed
  word-is =
      let (n, k) = fits.numbers in
      ap (λ (b : List ℕ). word_at b 0) part-is
      ∙ word_first (packed (result_at q i).number (result_at q i).line) (result_bytes (result_at q i)) (omega (arith, n, k))

  number_is : number_in (returned_at (count_over q l) i) ≡ (result_at q i).number
  number_is = ap (λ (w : ℕ). number_in w) word-is ∙ number-packed (result_at q i).number (result_at q i).line fits.numbers.1

  part-refused : ScriptRefused q i → PartRefused q l i
  unfolding refused_result bytes_of_script result_bytes words_bytes word_bytes
  part-refused R =
      record {
        number = rw (number_is, R.answer) R.number;
        returned =
            word-is
            ∙ (ap (λ (x : Result). packed x.number x.line) R.answer ∙ sym (check-returned (text_at q i) l.work l.whole));
        zeros = rw (part-is, R.answer) refl;
      }

  part-claim : ScriptClaim q i → PartClaim q l i
  part-claim C = record { number = subst NotStuck (sym number_is) C.number; claim = C; part = part-is }

pub every-part-returned : EveryPartReturned
every-part-returned q l S i h = ⊎_elim (λ R. inl (part-refused q l S i h R)) (λ C. inr (part-claim q l S i h C)) (every-script q S i h)
