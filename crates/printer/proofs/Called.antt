-- By what check and trial return and leave, what is printed is what document 01 says; and a text whose number is not 1 to 9 is read.
use mathlib.Core.Path.{◌≡◌, refl, sym, ap, ap₂, ◌∙◌}
use mathlib.Core.Bool.{true}
use mathlib.Core.List.{List, [], ◌∷◌, ◌++◌}
use Prim.Native.Nat.{ℕ, zero, suc, ◌+◌, ◌≤◌, ◌<◌}
use native.Mathlib.Omega.{arith}
use lib.ListN.{length, get_or}
use borrow.Author.Tests.{le-leb}
use Rattle.rules.specs.Base.{between}
use Rattle.rules.specs.Limits.{program_steps}
use Rattle.rules.specs.Answers.{Verdict, accepted, refused, then, refusal_number}
use Rattle.rules.specs.Items.{Item}
use Rattle.rules.specs.Reading.{read_text}
use Rattle.rules.specs.Calls.{Result, check_text, verdict_numbers, trial_text}
use Rattle.rules.specs.Areas.{packed, word_bytes, words_bytes, result_bytes, number_in, line_in}
use Rattle.rules.specs.Printed.{printed}
use Rattle.read_bytes.proofs.Search.{true-false}
use Rattle.soundness.proofs.ReadRefuses.{read-refused}
use Rattle.tables.specs.Decode.{word_at}
use Rattle.widths.proofs.Words.{word_first, word_on}
use Rattle.widths.proofs.Returned.{AnswersFit, number-packed, line-packed, fits}
use Rattle.printer.specs.Answers.{words_from, result_in, printed_answers, ReadUnless, Called}

-- WORDS
words-on : (w : ℕ) (rest : List ℕ) (n i j : ℕ) → i ≡ 4 + j → words_from n i (word_bytes w ++ rest) ≡ words_from n j rest
unfolding words_from
words-on w rest zero i j e = refl
words-on w rest (suc n) i j e = ap₂ (λ v vs. v ∷ vs) (word_on w rest i j e) (words-on w rest n (i + 4) (j + 4) (omega arith))

words_of : (ws : List ℕ) → ((i : ℕ) → get_or ws i 0 < 4294967296) → words_from (length ws) 0 (words_bytes ws) ≡ ws
unfolding words_from words_bytes
words_of [] h = refl
words_of (w ∷ ws) h =
    ap₂ (λ v vs. v ∷ vs) (word_first w (words_bytes ws) (h 0))
    (words-on w (words_bytes ws) (length ws) 4 0 refl ∙ words_of ws (λ i. h (suc i)))

-- THE LAWS

module _ (t : List ℕ) (checked ran : ℕ) (b : List ℕ) (f : AnswersFit t program_steps) (c : Called t checked ran b) where
  abbrev R : Result
  R = trial_text t program_steps

  check-number : number_in checked ≡ (check_text t).0
  check-number = ap (λ k. number_in k) c.check ∙ number-packed _ _ f.check-line

  check-line : line_in checked ≡ (check_text t).1
  check-line = ap (λ k. line_in k) c.check ∙ line-packed _ _ f.check-line

  result-is : result_in ran b ≡ R
  unfolding result_in result_bytes words_bytes
  result-is =
      let n : number_in ran ≡ R.number = ap (λ k. number_in k) c.trial ∙ number-packed _ _ f.trial-line in
      let l : line_in ran ≡ R.line = ap (λ k. line_in k) c.trial ∙ line-packed _ _ f.trial-line in
      let s : word_at b 0 ≡ R.steps = ap (λ a. word_at a 0) c.results ∙ word_first R.steps (words_bytes R.values) f.steps in
      let v : words_from 12 4 b ≡ R.values =
      ap (words_from 12 4) c.results
      ∙ (words-on R.steps (words_bytes R.values) 12 4 0 refl
      ∙ (ap (λ k. words_from k 0 (words_bytes R.values)) (sym f.shown) ∙ words_of R.values f.values)) in
      λ j. record { number = n j; line = l j; steps = s j; values = v j }

  printed-is : printed_answers t checked ran b ≡ printed t
  unfolding printed_answers printed
  printed-is = rw (check-number, check-line, result-is)

-- what `print` requires of its text holds by what `check` returns
pub read-unless : (t : List ℕ) (checked : ℕ) → checked ≡ packed (check_text t).0 (check_text t).1 → ReadUnless t checked
unfolding check_text verdict_numbers then between
read-unless t checked c h = go (read_text t) refl
  where
    number : number_in checked ≡ (check_text t).0
    number = ap (λ k. number_in k) c ∙ number-packed _ _ (fits t program_steps (omega arith)).check-line

    low : (n : ℕ) → 2 ≤ n → n ≤ 9 → between 1 9 n ≡ true
    low n a b = rw (le-leb 1 n (omega (arith, a)), le-leb n 9 b)

    go : (v : Verdict (List Item)) → read_text t ≡ v → (items : List Item) × (read_text t ≡ accepted items)
    go (accepted items) e = (items, e)
    go (refused r l) e =
        let n : (check_text t).0 ≡ refusal_number r = rw e in
        let (a, b) = read-refused t r l e in
        true-false (sym (low (refusal_number r) a b) ∙ (ap (between 1 9) (sym (number ∙ n)) ∙ h))

pub printed-answers : (t : List ℕ) (checked ran : ℕ) (b : List ℕ) → Called t checked ran b → printed_answers t checked ran b ≡ printed t
printed-answers t checked ran b c = printed-is t checked ran b (fits t program_steps (omega arith)) c
