-- `count`: the parts of the results area, and what it returns and leaves, as `count_call` says.
use mathlib.Core.Path.{◌≡◌, refl, sym, ap, ap₂, subst, ◌∙◌}
use mathlib.Core.Bool.{true, false}
use mathlib.Core.List.{List, [], ◌∷◌, ◌++◌, append_assoc, append-nil}
use mathlib.Core.Logic.{⊎_elim}
use Prim.Native.Nat.{ℕ, ◌+◌, ◌-◌, ◌*◌, ◌≤◌, ◌<◌}
use native.Mathlib.Omega.{arith}
use lib.Dec.{T}
use lib.ListN.{length, get_or, take, drop, replicate, length-append, length-drop, drop_of_length-le}
use lib.Seq.{take_at, drop_at, drop-drop, length-take-le}
use borrow.Author.Tests.{lt-ltb, le-ltb}
use borrow.Rule.Slice.PartMut.{put_mid}
use Rattle.rules.specs.Limits.{work_bytes, results_bytes, count_bytes, script_bytes, most_scripts, heap_objects}
use Rattle.rules.specs.Answers.{refusal_number}
use Rattle.rules.specs.Joint.{room_of, shares_fit}
use Rattle.rules.specs.Calls.{Result, refused_result, run_text_in}
use Rattle.rules.specs.Areas.{Ran, packed, cleared, word_bytes, words_bytes, result_bytes, bytes_of_script, scripts_bytes, count_call}
use Rattle.areas.specs.Lengths.{areas_fit}
use Rattle.areas.proofs.Shares.{total-most}
use Rattle.tables.specs.Stores.{put_word}
use Rattle.joint.specs.Counts.{Asked, text_at, share_at, SharesRight, no_result, result_at, CountsAlone, RefusesShares}
use Rattle.joint.proofs.Shares.{decide-lt}
use Rattle.joint.proofs.Counts.{fit-right, right-fit, counts_alone, refuses}
use Rattle.station.specs.declared.counts.Joint.{Joint}
use Rattle.station.specs.declared.Reply.{Reply}
use Rattle.station.specs.Station.{numbers_in, run_numbers, RunLeaves}
use Rattle.station.specs.Parts.{part_of, put_part}
use Rattle.station.proofs.Words.{word-put, bytes-length}
use Rattle.station.proofs.Texts.{share-fits}
use Rattle.station.proofs.Calls.{pack-is, fit-lengths, cleared-is}

-- PARTS THAT ARE LENT
pub rest-length : (p : List ℕ) → length p ≡ script_bytes → length (take (length p - 4) (drop 4 p)) ≡ results_bytes
rest-length p n = length-take-le (length p - 4) (drop 4 p) (omega (arith, n, length-drop 4 p)) ∙ omega (arith, n)

module _ (r : List ℕ) (i : ℕ) (n : length r ≡ count_bytes) (h : i < most_scripts) where
  abbrev at_byte : ℕ
  at_byte = i * script_bytes

  abbrev wide : ℕ
  wide = (at_byte + script_bytes) - at_byte

  wide_is : wide ≡ script_bytes
  wide_is = omega arith

  pub part-wide : length (take wide (drop at_byte r)) ≡ script_bytes
  part-wide = length-take-le wide (drop at_byte r) (omega (arith, n, h, length-drop at_byte r)) ∙ wide_is

  pub zeros-wide : cleared (take wide (drop at_byte r)) ≡ replicate script_bytes 0
  unfolding cleared
  zeros-wide = ap (λ (k : ℕ). replicate k 0) part-wide

  -- a part that comes back
  pub put_back : {b p : List ℕ} → b ≡ p → put_mid at_byte wide r b ≡ put_part r i p
  put_back e = ap₂ (λ (k : ℕ) (p : List ℕ). take at_byte r ++ (p ++ drop k (drop at_byte r))) wide_is e

-- ONE SCRIPT'S BYTES

-- a word before the results
word-before :
    (p res : List ℕ) (r v k : ℕ) → length p ≡ script_bytes → length res ≡ results_bytes → k ≡ results_bytes → r ≡ v →
    put_word (take 4 p ++ (res ++ drop k (drop 4 p))) 0 r ≡ word_bytes v ++ res
word-before p res r v k n m e i =
    let front : length (take 4 p) ≡ 4 = length-take-le 4 p (omega (arith, n)) in
    let none : drop k (drop 4 p) ≡ [] = drop_of_length-le (drop 4 p) {i = k} (omega (arith, n, e, length-drop 4 p)) in
    let long : 4 ≤ length (take 4 p ++ (res ++ drop k (drop 4 p))) = omega (arith, front, length-append (take 4 p) (res ++ drop k (drop 4 p))) in
    word-put [] (take 4 p ++ (res ++ drop k (drop 4 p))) 0 r refl long
    ∙ ap₂ (λ (v : ℕ) (l : List ℕ). word_bytes v ++ l) i
    (drop_at (take 4 p) (res ++ drop k (drop 4 p)) 4 front ∙ (ap (λ (l : List ℕ). res ++ l) none ∙ append-nil res))

-- what run returns, then its results: the answer x is r
pub script-written :
    (p : List ℕ) → length p ≡ script_bytes → {x r : Result} → x ≡ r → length r.values ≡ 12 → {f : Reply} {res : List ℕ} {v : ℕ} →
    numbers_in f ≡ run_numbers x → res ≡ result_bytes x → v ≡ packed f.number f.line →
    put_word (put_mid 4 (length p - 4) p res) 0 v ≡ bytes_of_script r
unfolding bytes_of_script result_bytes
script-written p n {x} {r} e l {f} {res} {v} a b d =
    let m : length res ≡ results_bytes = ap (λ (l : List ℕ). length l) (b ∙ ap result_bytes e) ∙ omega (arith, bytes-length (r.steps ∷ r.values), l) in
    word-before p res v (packed r.number r.line) (length p - 4) n m (omega (arith, n)) (pack-is (a ∙ ap run_numbers e) d)
    ∙ ap (λ (l : List ℕ). word_bytes (packed r.number r.line) ++ l) (b ∙ ap result_bytes e)

pub script-length : (r : Result) → length r.values ≡ 12 → length (bytes_of_script r) ≡ script_bytes
unfolding bytes_of_script result_bytes word_bytes
script-length r e = omega (arith, bytes-length (r.steps ∷ r.values), e)

-- A PART
module _ (c : Joint) (i k : ℕ) (t : List ℕ) where
  pub part-past : c.scripts ≤ i → replicate script_bytes 0 ≡ part_of c i k t
  part-past l = sym (rw (le-ltb i c.scripts l))

  pub part-there : i < c.scripts → bytes_of_script (run_text_in (room_of k) t c.rounds) ≡ part_of c i k t
  part-there l = sym (rw (lt-ltb i c.scripts l))

  part_length : (i < c.scripts → k ≤ heap_objects) → length (part_of c i k t) ≡ script_bytes
  part_length h =
      ⊎_elim
      (λ l. ap (λ (p : List ℕ). length p) (sym (part-there l)) ∙ script-length _ (share-fits k (h l) t c.rounds).shown)
      (λ l. ap (λ (p : List ℕ). length p) (sym (part-past l)))
      (decide-lt i c.scripts)

-- the parts before it, and what the area held behind
pub record Written (area : List ℕ) (i : ℕ) (x now : List ℕ) : Type 0 where
  pub parts : length x ≡ i * script_bytes
  pub is : now ≡ x ++ drop (i * script_bytes) area

pub none_written : (area : List ℕ) → Written area 0 [] area
none_written area = record { parts = refl; is = refl }

pub one_more :
    (area x now p now' : List ℕ) (i : ℕ) → Written area i x now → length p ≡ script_bytes → now' ≡ put_part now i p → Written area (i + 1) (x ++ p) now'
one_more area x now p now' i W n e =
    let a : ℕ = i * script_bytes in
    let rest : List ℕ = drop a area in
    let next : a + script_bytes ≡ (i + 1) * script_bytes = omega arith in
    record {
      parts = length-append x p ∙ omega (arith, n, W.parts);
      is =
          e
          ∙ (ap (λ (l : List ℕ). put_part l i p) W.is
          ∙ (ap₂ (λ (l m : List ℕ). l ++ (p ++ drop script_bytes m)) (take_at x rest a W.parts) (drop_at x rest a W.parts)
          ∙ (ap (λ (l : List ℕ). x ++ (p ++ l)) (drop-drop script_bytes a area ∙ ap (λ (k : ℕ). drop k area) next)
          ∙ sym (append_assoc x p (drop ((i + 1) * script_bytes) area)))));
    }

-- THE CALL
four_bytes :
    (rs : List Result) (d : Result) → length rs ≡ most_scripts →
    scripts_bytes rs ≡ ((bytes_of_script (get_or rs 0 d) ++ bytes_of_script (get_or rs 1 d)) ++ bytes_of_script (get_or rs 2 d)) ++ bytes_of_script (get_or rs 3 d)
unfolding scripts_bytes
four_bytes [] d e = absurd (omega (arith, e))
four_bytes (a ∷ []) d e = absurd (omega (arith, e))
four_bytes (a ∷ b ∷ []) d e = absurd (omega (arith, e))
four_bytes (a ∷ b ∷ c ∷ []) d e = absurd (omega (arith, e))
four_bytes (x ∷ y ∷ z ∷ u ∷ []) d e =
    let a : List ℕ = bytes_of_script x in
    let b : List ℕ = bytes_of_script y in
    let c : List ℕ = bytes_of_script z in
    let f : List ℕ = bytes_of_script u in
    ap (λ (l : List ℕ). a ++ (b ++ (c ++ l))) (append-nil f) ∙ (sym (append_assoc a b (c ++ f)) ∙ sym (append_assoc (a ++ b) c f))
four_bytes (a ∷ b ∷ c ∷ f ∷ g ∷ rs) d e = absurd (omega (arith, e))

-- what the call is asked
abbrev pub asked : ℕ → ℕ → List ℕ → List ℕ → List ℕ → List ℕ → ℕ → ℕ → ℕ → ℕ → Asked
asked n rounds t₁ t₂ t₃ t₄ k₁ k₂ k₃ k₄ =
    record {
      scripts = n;
      rounds = rounds;
      texts = t₁ ∷ t₂ ∷ t₃ ∷ t₄ ∷ [];
      shares = k₁ ∷ k₂ ∷ k₃ ∷ k₄ ∷ [];
      four_texts = refl;
      four_shares = refl;
    }

-- a share is no more than their sum
pub share-small : (q : Asked) → SharesRight q → (i : ℕ) → i < most_scripts → i < q.scripts → share_at q i ≤ heap_objects
share-small q S i h l =
    omega (arith, total-most q.shares q.scripts i l (omega (arith, h, q.four_shares)), S.sum)

module _ (q : Asked) (w b : List ℕ) where
  abbrev call : Ran
  call = count_call q.scripts q.rounds q.texts w q.shares b

  pub wrong-count : areas_fit w b count_bytes ≡ false → RunLeaves call 65536 w b
  unfolding count_call packed areas_fit
  wrong-count n = (sym (rw n), sym (rw n), sym (rw n))

  module _ (m : areas_fit w b count_bytes ≡ true) where
    pub zeros-are : cleared b ≡ scripts_bytes (replicate most_scripts no_result)
    unfolding cleared scripts_bytes bytes_of_script result_bytes words_bytes word_bytes packed refused_result
    zeros-are = ap (λ (n : ℕ). replicate n 0) (fit-lengths w b m).1

    pub shares-refused :
        shares_fit q.scripts q.shares ≡ false → {u d : List ℕ} → u ≡ cleared w → d ≡ cleared b → RunLeaves call 1245184 u d
    unfolding count_call packed areas_fit refusal_number
    shares-refused n c z =
        let R : RefusesShares q = refuses q (λ S. subst T n (right-fit q S)) in
        rw (m, R.number, R.line, R.zeros) (refl, c, z ∙ zeros-are)

    module _ (fit : shares_fit q.scripts q.shares ≡ true) where
      right : SharesRight q
      right = fit-right q (subst T (sym fit) tt)

      pub share-fits-heap : (i : ℕ) → i < most_scripts → i < q.scripts → share_at q i ≤ heap_objects
      share-fits-heap = share-small q right

      abbrev c : Joint
      c = record { scripts = q.scripts; rounds = q.rounds }

      -- the part of script i, as the code has it
      abbrev part : ℕ → List ℕ
      part i = part_of c i (share_at q i) (text_at q i)

      part-is : (i : ℕ) → i < most_scripts → part i ≡ bytes_of_script (result_at q i)
      unfolding bytes_of_script result_bytes words_bytes word_bytes packed refused_result
      part-is i h =
          let C : CountsAlone q = counts_alone q right in
          ⊎_elim
          (λ l. sym (part-there c i (share_at q i) (text_at q i) l) ∙ ap bytes_of_script (sym (C.each i l)))
          (λ l. sym (part-past c i (share_at q i) (text_at q i) l) ∙ ap bytes_of_script (sym (C.past i l)))
          (decide-lt i q.scripts)

      long : (i : ℕ) → i < most_scripts → length (part i) ≡ script_bytes
      long i h = part_length c i (share_at q i) (text_at q i) (share-small q right i h)

      pub counted :
          {b₁ b₂ b₃ b₄ : List ℕ} → b₁ ≡ put_part b 0 (part 0) → b₂ ≡ put_part b₁ 1 (part 1) →
          b₃ ≡ put_part b₂ 2 (part 2) → b₄ ≡ put_part b₃ 3 (part 3) → (v : List ℕ) {u : List ℕ} →
          length v ≡ work_bytes → u ≡ cleared v → RunLeaves call 0 u b₄
      unfolding count_call packed areas_fit
      counted {b₁} {b₂} {b₃} {b₄} e₁ e₂ e₃ e₄ v s c =
          let C : CountsAlone q = counts_alone q right in
          rw (m, C.number, C.line) (refl, cleared-is w v (fit-lengths w b m).0 s c, bytes ∙ sym (four_bytes _ no_result C.four))
        where
          bytes :
              b₄
              ≡ ((bytes_of_script (result_at q 0) ++ bytes_of_script (result_at q 1)) ++ bytes_of_script (result_at q 2)) ++ bytes_of_script (result_at q 3)
          bytes =
              let p : ℕ → List ℕ = part in
              let n : length b ≡ count_bytes = (fit-lengths w b m).1 in
              let W = one_more b [] b (p 0) b₁ 0 (none_written b) (long 0 (omega arith)) e₁ in
              let X = one_more b (p 0) b₁ (p 1) b₂ 1 W (long 1 (omega arith)) e₂ in
              let Y = one_more b (p 0 ++ p 1) b₂ (p 2) b₃ 2 X (long 2 (omega arith)) e₃ in
              let Z = one_more b ((p 0 ++ p 1) ++ p 2) b₃ (p 3) b₄ 3 Y (long 3 (omega arith)) e₄ in
              Z.is
              ∙ (ap (λ (l : List ℕ). (((p 0 ++ p 1) ++ p 2) ++ p 3) ++ l) (drop_of_length-le b {i = 224} (omega (arith, n)))
              ∙ (append-nil (((p 0 ++ p 1) ++ p 2) ++ p 3)
              ∙ (ap₂ (λ (l k : List ℕ). ((l ++ k) ++ p 2) ++ p 3) (part-is 0 (omega arith)) (part-is 1 (omega arith))
              ∙ ap₂ (λ (l k : List ℕ). ((bytes_of_script (result_at q 0) ++ bytes_of_script (result_at q 1)) ++ l) ++ k) (part-is 2 (omega arith)) (part-is 3 (omega arith)))))
