-- What W12 promises of `count`, over texts: the statements are those of specs/Counts.
use mathlib.Core.Path.{◌≡◌, refl, sym, ap, ap₂, ◌∙◌, subst}
use mathlib.Core.Bool.{Bool, ◌&&◌}
use mathlib.Core.List.{List, [], ◌∷◌, ◌++◌, map}
use mathlib.Core.Logic.{◌⊎◌, inl, inr, ⊎_elim}
use Prim.Native.Nat.{ℕ, zero, suc, ◌≤◌, ◌<◌}
use native.Mathlib.Omega.{arith}
use lib.Dec.{T, leb, leb→le, le→leb}
use lib.ListN.{length, get_or, take, replicate, length-append}
use lib.Seq.{get_or-take, length-take-le}
use Rattle.rules.specs.Base.{between, all}
use Rattle.rules.specs.Limits.{most_scripts, heap_objects}
use Rattle.rules.specs.Answers.{Verdict, accepted, refused, then, refusal_number, wrong_shares}
use Rattle.rules.specs.Syntax.{Program}
use Rattle.rules.specs.Items.{Item}
use Rattle.rules.specs.Bounds.{total}
use Rattle.rules.specs.Machine.{Room, run_program}
use Rattle.rules.specs.Joint.{Station, room_of, fit_together, shares_fit, check_shares, joint_run}
use Rattle.rules.specs.Reading.{read_text, check_framed, program}
use Rattle.rules.specs.Rules.{check_program}
use Rattle.rules.specs.Calls.{Result, check_items, checked_items, check_text, verdict_numbers, checked_program, run_items, run_text, run_text_in, refused_result, outcome_result, script_result, stations, count_scripts, four_results, count_numbers, count_text}
use Rattle.rules.specs.Runs.{outcome}
use Rattle.rules.specs.Demand.{NotStuck, IsRefusal}
use Rattle.rules.proofs.Lists.{T_true, F-false, and_intro, and_both, decide-test}
use Rattle.rules.proofs.Tries.{then-accepted}
use Rattle.soundness.proofs.Demand3.{check-accepted, check-decides}
use Rattle.soundness.proofs.ReadFormed.{read-formed}
use Rattle.soundness.proofs.NeverStuck.{accepted-not-stuck}
use Rattle.joint.specs.Claims.{sizes, SharesFit, no_script, station_at, room_at, alone, KeepsShare}
use Rattle.joint.specs.Counts.{Asked, text_at, share_at, SharesRight, no_result, result_at, CountsAlone, RefusesShares, EveryCount, WholeHeapIsRun, stations_of, ScriptRefused, ScriptClaim, EveryScript}
use Rattle.joint.proofs.Shares.{decide-lt}
use Rattle.joint.proofs.Alone.{as-alone}
use Rattle.joint.proofs.Kept.{calls-keep-their-share}

-- NUMBER 19
all-get : {A : Type 0} (p : A → Bool) (l : List A) (d : A) (i : ℕ) → T (all p l) → i < length l → T (p (get_or l i d))
unfolding all
all-get p [] d i t h = absurd (omega arith)
all-get p (a ∷ l) d zero t h = (and_both (p a) (all p l) t).0
all-get p (a ∷ l) d (suc i) t h = all-get p l d i (and_both (p a) (all p l) t).1 (omega arith)

all_of : {A : Type 0} (p : A → Bool) (l : List A) (d : A) → ((i : ℕ) → i < length l → T (p (get_or l i d))) → T (all p l)
unfolding all
all_of p [] d h = tt
all_of p (a ∷ l) d h = and_intro (p a) (all p l) (h 0 (omega arith)) (all_of p l d λ i b. h (suc i) (omega (arith, b)))

pub fit-right : (q : Asked) → T (shares_fit q.scripts q.shares) → SharesRight q
unfolding shares_fit fit_together between
fit-right q t =
    let n : ℕ = q.scripts in
    let ks : List ℕ = q.shares in
    let (u, v) = and_both (leb 1 n && leb n most_scripts) (all (leb 1) (take n ks) && leb (total (take n ks)) heap_objects) t in
    let (a, b) = and_both (leb 1 n) (leb n most_scripts) u in
    let (c, d) = and_both (all (leb 1) (take n ks)) (leb (total (take n ks)) heap_objects) v in
    let m : n ≤ most_scripts = leb→le n most_scripts b in
    record {
      some_scripts = leb→le 1 n a;
      at_most_four = m;
      each =
          λ i h.
          subst (λ (k : ℕ). 1 ≤ k) (get_or-take n ks i 0 h)
          (leb→le 1 _ (all-get (leb 1) (take n ks) 0 i c (omega (arith, h, length-take-le n ks (omega (arith, m, q.four_shares))))));
      sum = leb→le _ heap_objects d;
    }

pub right-fit : (q : Asked) → SharesRight q → T (shares_fit q.scripts q.shares)
unfolding shares_fit fit_together between
right-fit q S =
    let n : ℕ = q.scripts in
    let ks : List ℕ = q.shares in
    let c : T (all (leb 1) (take n ks)) =
    all_of (leb 1) (take n ks) 0
    (λ i h.
    let b : i < n = omega (arith, h, length-take-le n ks (omega (arith, S.at_most_four, q.four_shares))) in
    subst (λ (k : ℕ). T (leb 1 k)) (sym (get_or-take n ks i 0 b)) (le→leb 1 _ (S.each i b))) in
    and_intro (leb 1 n && leb n most_scripts) (all (leb 1) (take n ks) && leb (total (take n ks)) heap_objects)
    (and_intro (leb 1 n) (leb n most_scripts) (le→leb 1 n S.some_scripts) (le→leb n most_scripts S.at_most_four))
    (and_intro (all (leb 1) (take n ks)) (leb (total (take n ks)) heap_objects) c (le→leb (total (take n ks)) heap_objects S.sum))

-- STATIONS
sizes-are : (ts : List (List ℕ)) (ks : List ℕ) → length ts ≡ length ks → sizes (stations ts ks) ≡ ks
unfolding stations
sizes-are [] [] e = refl
sizes-are [] (k ∷ ks) e = absurd (omega (arith, e))
sizes-are (t ∷ ts) [] e = absurd (omega (arith, e))
sizes-are (t ∷ ts) (k ∷ ks) e = ap (λ l. k ∷ l) (sizes-are ts ks (omega (arith, e)))

station-is :
    (ts : List (List ℕ)) (ks : List ℕ) → length ts ≡ length ks → (i : ℕ) → i < length ts →
    station_at (stations ts ks) i ≡ record { script = checked_program (get_or ts i []); size = get_or ks i 0 }
unfolding stations
station-is [] ks e i h = absurd (omega arith)
station-is (t ∷ ts) [] e i h = absurd (omega (arith, e))
station-is (t ∷ ts) (k ∷ ks) e zero h = refl
station-is (t ∷ ts) (k ∷ ks) e (suc i) h = station-is ts ks (omega (arith, e)) i (omega arith)

stations-length : (ts : List (List ℕ)) (ks : List ℕ) → length ts ≡ length ks → length (stations ts ks) ≡ length ts
unfolding stations
stations-length [] ks e = refl
stations-length (t ∷ ts) [] e = absurd (omega (arith, e))
stations-length (t ∷ ts) (k ∷ ks) e = ap suc (stations-length ts ks (omega (arith, e)))

-- of what is asked
module _ (q : Asked) (S : SharesRight q) where
  abbrev n : ℕ
  n = q.scripts

  texts-length : length (take n q.texts) ≡ n
  texts-length = length-take-le n q.texts (omega (arith, S.at_most_four, q.four_texts))

  shares-length : length (take n q.shares) ≡ n
  shares-length = length-take-le n q.shares (omega (arith, S.at_most_four, q.four_shares))

  same_length : length (take n q.texts) ≡ length (take n q.shares)
  same_length = texts-length ∙ sym shares-length

  pub stations-fit : SharesFit (stations_of q)
  stations-fit =
      subst (λ (ks : List ℕ). total ks ≤ heap_objects) (sym (sizes-are (take n q.texts) (take n q.shares) same_length)) S.sum

  station-asked : (i : ℕ) → i < n → station_at (stations_of q) i ≡ record { script = checked_program (text_at q i); size = share_at q i }
  station-asked i h =
      station-is (take n q.texts) (take n q.shares) same_length i (omega (arith, h, texts-length))
      ∙ ap₂ (λ (t : List ℕ) (k : ℕ). record { script = checked_program t; size = k }) (get_or-take n q.texts i [] h) (get_or-take n q.shares i 0 h)

  pub stations-many : length (stations_of q) ≡ n
  stations-many = stations-length (take n q.texts) (take n q.shares) same_length ∙ texts-length

-- ONE SCRIPT'S ANSWER
alone-result : (t : List ℕ) (k r : ℕ) → script_result (alone r (record { script = checked_program t; size = k })) ≡ run_text_in (room_of k) t r
unfolding alone checked_program run_text_in run_items script_result outcome_result then
alone-result t k r = go (then (read_text t) checked_items)
  where
    go :
        (v : Verdict (List Item)) →
        script_result (then (then v (λ items. accepted (program items))) (λ P. accepted (run_program (room_of k) P r)))
        ≡ run_items (room_of k) v r
    go (accepted items) = refl
    go (refused c l) = refl

get_d_map : {A B : Type 0} (f : A → B) (l : List A) (i : ℕ) (a : A) (b : B) → i < length l → get_or (map f l) i b ≡ f (get_or l i a)
get_d_map f [] i a b h = absurd (omega arith)
get_d_map f (x ∷ l) zero a b h = refl
get_d_map f (x ∷ l) (suc i) a b h = get_d_map f l i a b (omega arith)

map-length : {A B : Type 0} (f : A → B) (l : List A) → length (map f l) ≡ length l
map-length f [] = refl
map-length f (a ∷ l) = ap suc (map-length f l)

-- FOUR RESULTS
get_or-zeros : (d : Result) (m i : ℕ) → get_or (replicate m d) i d ≡ d
get_or-zeros d zero i = refl
get_or-zeros d (suc m) zero = refl
get_or-zeros d (suc m) (suc i) = get_or-zeros d m i

get_or-padded : (d : Result) (rs : List Result) (m i : ℕ) → get_or (rs ++ replicate m d) i d ≡ get_or rs i d
get_or-padded d [] m i = get_or-zeros d m i
get_or-padded d (r ∷ rs) m zero = refl
get_or-padded d (r ∷ rs) m (suc i) = get_or-padded d rs m i

get_d_past : {A : Type 0} (l : List A) (i : ℕ) (d : A) → length l ≤ i → get_or l i d ≡ d
get_d_past [] i d h = refl
get_d_past (a ∷ l) zero d h = absurd (omega arith)
get_d_past (a ∷ l) (suc i) d h = get_d_past l i d (omega arith)

replicate-length : {A : Type 0} (m : ℕ) (d : A) → length (replicate m d) ≡ m
replicate-length zero d = refl
replicate-length (suc m) d = ap suc (replicate-length m d)

four-length : (rs : List Result) → length (four_results rs) ≡ most_scripts
unfolding four_results
four-length rs =
    length-take-le most_scripts (rs ++ replicate most_scripts no_result)
    (omega (arith, length-append rs (replicate most_scripts no_result), replicate-length most_scripts no_result))

four-at : (rs : List Result) (i : ℕ) → i < most_scripts → get_or (four_results rs) i no_result ≡ get_or rs i no_result
unfolding four_results
four-at rs i h = get_or-take most_scripts (rs ++ replicate most_scripts no_result) i no_result h ∙ get_or-padded no_result rs most_scripts i

four-past : (rs : List Result) (i : ℕ) → length rs ≤ i → get_or (four_results rs) i no_result ≡ no_result
four-past rs i h =
    ⊎_elim (λ b. four-at rs i b ∙ get_d_past rs i no_result h) (λ b. get_d_past (four_results rs) i no_result (omega (arith, b, four-length rs)))
    (decide-lt i most_scripts)

-- THE ANSWER
module _ (q : Asked) where
  abbrev answers : List Result
  answers = map script_result (joint_run (stations_of q) q.rounds)

  right_answer :
      T (shares_fit q.scripts q.shares) →
      count_text q.scripts q.rounds q.texts q.shares ≡ record { number = 0; line = 0; scripts = four_results answers }
  unfolding count_text count_scripts check_shares count_numbers then
  right_answer t = rw (T_true (shares_fit q.scripts q.shares) t) refl

  wrong_answer :
      (T (shares_fit q.scripts q.shares) → ⊥) →
      count_text q.scripts q.rounds q.texts q.shares
      ≡ record { number = refusal_number wrong_shares; line = 0; scripts = replicate most_scripts no_result }
  unfolding count_text count_scripts check_shares count_numbers then four_results
  wrong_answer t = rw (F-false (shares_fit q.scripts q.shares) t) refl

  module _ (S : SharesRight q) where
    answers-alone : answers ≡ map script_result (map (alone q.rounds) (stations_of q))
    answers-alone = ap (map script_result) (as-alone (stations_of q) (stations-fit q S) q.rounds)

    answers-length : length answers ≡ q.scripts
    answers-length =
        ap (λ (l : List Result). length l) answers-alone
        ∙ (map-length script_result (map (alone q.rounds) (stations_of q)) ∙ (map-length (alone q.rounds) (stations_of q) ∙ stations-many q S))

    answer_at : (i : ℕ) → i < q.scripts → get_or answers i no_result ≡ run_text_in (room_of (share_at q i)) (text_at q i) q.rounds
    answer_at i h =
        let l : i < length (stations_of q) = omega (arith, h, stations-many q S) in
        ap (λ (rs : List Result). get_or rs i no_result) answers-alone
        ∙ get_d_map script_result (map (alone q.rounds) (stations_of q)) i no_script no_result (omega (arith, l, map-length (alone q.rounds) (stations_of q)))
        ∙ ap script_result (get_d_map (alone q.rounds) (stations_of q) i (record { script = no_script; size = 0 }) no_script l ∙ ap (alone q.rounds) (station-asked q S i h))
        ∙ alone-result (text_at q i) (share_at q i) q.rounds

    pub counts_alone : CountsAlone q
    counts_alone =
        let e = right_answer (right-fit q S) in
        record {
          number = ap (λ c. c.number) e;
          line = ap (λ c. c.line) e;
          each = λ i h. ap (λ c. get_or c.scripts i no_result) e ∙ (four-at answers i (omega (arith, h, S.at_most_four)) ∙ answer_at i h);
          past = λ i h. ap (λ c. get_or c.scripts i no_result) e ∙ four-past answers i (omega (arith, h, answers-length));
          four = ap (λ c. length c.scripts) e ∙ four-length answers;
        }

  pub refuses : (SharesRight q → ⊥) → RefusesShares q
  refuses n =
      let e = wrong_answer (λ t. n (fit-right q t)) in
      record { number = ap (λ c. c.number) e; line = ap (λ c. c.line) e; zeros = ap (λ c. c.scripts) e }

  pub decide-shares : SharesRight q ⊎ (SharesRight q → ⊥)
  decide-shares =
      ⊎_elim (λ t. inl (fit-right q t)) (λ t. inr (λ S. t (right-fit q S))) (decide-test (shares_fit q.scripts q.shares))

pub every-count : EveryCount
every-count q = ⊎_elim (λ S. inl (S, counts_alone q S)) (λ n. inr (n, refuses q n)) (decide-shares q)

pub whole-heap-is-run : WholeHeapIsRun
unfolding run_text room_of
whole-heap-is-run t k = refl

-- DEMAND 3
pub refusing : (room : Room) (t : List ℕ) (k : ℕ) → ((check_text t).0 ≡ 0 → ⊥) → run_text_in room t k ≡ refused_result (check_text t)
unfolding check_text run_text_in run_items checked_items verdict_numbers then
refusing room t k n = go (read_text t) refl
  where
    go : (v : Verdict (List Item)) → read_text t ≡ v → run_text_in room t k ≡ refused_result (check_text t)
    go (refused r l) e = rw e refl
    go (accepted items) e = by (check_items items) refl
      where
        by : (v : Verdict (Unit {0})) → check_items items ≡ v → run_text_in room t k ≡ refused_result (check_text t)
        by (refused r l) c = rw (e, c) refl
        by (accepted u) c = absurd (n (rw (e, c) refl))

module _ (q : Asked) (S : SharesRight q) (i : ℕ) (h : i < q.scripts) where
  abbrev t : List ℕ
  t = text_at q i

  script-refused : (((check_text t).0 ≡ 0) → ⊥) → IsRefusal (check_text t).0 → ScriptRefused q i
  script-refused n r = record { number = r; answer = (counts_alone q S).each i h ∙ refusing (room_of (share_at q i)) t q.rounds n }

  script-answer :
      (P : Program) (K : KeepsShare (stations_of q) i P q.rounds) → result_at q i ≡ outcome_result (outcome (room_at (stations_of q) i) P K.run)
  unfolding script_result
  script-answer P K =
      let many : i < length (joint_run (stations_of q) q.rounds) =
      omega (arith, h, answers-length q S, map-length script_result (joint_run (stations_of q) q.rounds)) in
      ap (λ c. get_or c.scripts i no_result) (right_answer q (right-fit q S))
      ∙ four-at (answers q) i (omega (arith, h, S.at_most_four))
      ∙ get_d_map script_result (joint_run (stations_of q) q.rounds) i no_script no_result many
      ∙ ap script_result K.answered

  script-claim : (check_text t).0 ≡ 0 → ScriptClaim q i
  unfolding checked_program checked_items then run_text_in run_items check_items outcome_result
  script-claim z =
      let (items, r, c) = check-accepted t z in
      let (_, _, p) = then-accepted (check_framed items 0) (λ u. check_program (program items)) tt c in
      let P : Program = program items in
      let d : checked_program t ≡ accepted P = rw (r, c) refl in
      let a = station-asked q S i h in
      let K : KeepsShare (stations_of q) i P q.rounds =
      calls-keep-their-share (stations_of q) (stations-fit q S) i P (ap (λ (s : Station). s.script) a ∙ d) q.rounds in
      record {
        program = P;
        is_checked = d;
        whole_run = K;
        answered = script-answer P K;
        number =
            subst (λ (x : Result). NotStuck x.number) (sym ((counts_alone q S).each i h))
            (rw (r, c) (accepted-not-stuck P (read-formed t items r) p (room_of (share_at q i)) q.rounds));
      }

pub every-script : EveryScript
every-script q S i h =
    ⊎_elim
    (λ r. inl (script-refused q S i h (λ z. omega (arith, r.number.0, z)) r.number))
    (λ e. inr (script-claim q S i h (ap (λ (p : ℕ × ℕ). p.0) e)))
    (check-decides (text_at q i) q.rounds)
