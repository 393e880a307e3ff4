-- The calls on a text, by what the reader answers.
use mathlib.Core.Path.{◌≡◌, refl, sym, ap, subst, ◌∙◌}
use mathlib.Core.Bool.{true, false}
use mathlib.Core.List.{List, ◌∷◌}
use mathlib.Core.Logic.{⊎_elim}
use Prim.Native.Nat.{ℕ, ◌≤◌, ◌<◌}
use native.Mathlib.Omega.{arith}
use lib.ListN.{length, replicate}
use Rattle.std.specs.Prelude as Std
use Rattle.std.specs.Prelude.{Ok, Err, Some, None, is_err}
use Rattle.rules.specs.Limits.{work_bytes, results_bytes, most_bytes, values_shown, heap_objects}
use Rattle.rules.specs.Answers as Answers
use Rattle.rules.specs.Answers.{Verdict, accepted, refused, then, refusal_number, ending_number, stop_number}
use Rattle.rules.specs.Items.{Item}
use Rattle.rules.specs.Reading.{read_text, program}
use Rattle.rules.specs.Rules.{check_program}
use Rattle.rules.specs.Machine.{Room}
use Rattle.rules.specs.Lean as Lean
use Rattle.rules.specs.Joint.{room_of}
use Rattle.rules.specs.Calls.{Result, check_items, checked_items, verdict_numbers, check_text, whole_heap, outcome_result, refused_result, run_items, trial_text, run_text_in, run_text, lean_text}
use Rattle.rules.specs.Areas.{cleared, word_bytes, words_bytes, result_bytes}
use Rattle.rules.proofs.Tries.{refusal-number, refusal-not-zero, accepted-inj}
use Rattle.rules.proofs.LinesTaken.{read_taken}
use Rattle.soundness.proofs.LeanRuns.{accepted-lean, checked-accepted, lean-is-run}
use Rattle.soundness.proofs.Demand3.{check-accepted, same-from-both, check-decides}
use Rattle.tables.specs.Decode.{program_in}
use Rattle.reader.specs.declared.RefusedLine as Read
use Rattle.reader.specs.Readings.{framed_verdict, Tabled, ReadingIs}
use Rattle.checker.specs.declared.RefusedLine.{RefusedLine}
use Rattle.checker.specs.Checked.{verdict_of}
use Rattle.machine.specs.Runs.{Ran, number, main_values, RanAs}
use Rattle.lean_machine.specs.Runs as Leans
use Rattle.lean_machine.specs.Runs.{Accepted}
use Rattle.joint.proofs.Counts.{refusing, whole-heap-is-run}
use Rattle.widths.proofs.ReadBounds.{items-small, items-few, program-fits}
use Rattle.widths.proofs.RunBounds.{outcome_fits}
use Rattle.widths.proofs.Returned.{fits}
use Rattle.station.specs.declared.Refused.{Refused}
use Rattle.station.specs.Station.{refusal_of, unread, unchecked, Finding, numbers_found, run_numbers, Found, unless_refused, share_run, lean_run}

-- THE READER'S ANSWER BY ITS CASES
module _ (t w : List ℕ) where
  unread-text : (e : Read.RefusedLine) → ReadingIs t w (Err e) → read_text t ≡ refused (refusal_of (unread e).why) (unread e).line
  unfolding ReadingIs
  unread-text e x = x

  pub tabled : (u : Std.Option ℕ) → ReadingIs t w (Ok u) → Tabled t w u
  unfolding ReadingIs
  tabled u x = x

-- WHAT IS FOUND OF A TEXT

-- a number that refuses is not 0
pub not-zero : (r : Refused) {v : ℕ × ℕ} → numbers_found (Err r) ≡ v → v.0 ≡ 0 → ⊥
not-zero r e z = refusal-not-zero (refusal_of r.why) (ap (λ (p : ℕ × ℕ). p.0) e ∙ z)

pub refused-read : (t : List ℕ) (r : Refused) → read_text t ≡ refused (refusal_of r.why) r.line → numbers_found (Err r) ≡ verdict_numbers (read_text t)
unfolding verdict_numbers
refused-read t r e = sym (rw e)

pub taken-read : {t w : List ℕ} {u : Std.Option ℕ} → Tabled t w u → (0, 0) ≡ verdict_numbers (read_text t)
unfolding verdict_numbers
taken-read x = sym (rw x.read)

pub refused-checked : (t : List ℕ) (r : Refused) → read_text t ≡ refused (refusal_of r.why) r.line → numbers_found (Err r) ≡ check_text t
unfolding check_text then verdict_numbers
refused-checked t r e = sym (rw e)

taken-checked :
    {t w : List ℕ} {u : Std.Option ℕ} → Tabled t w u → check_text t ≡ verdict_numbers (then (framed_verdict u) (λ v. check_program (program_in w)))
unfolding check_text check_items then
taken-checked x = rw (x.read, x.framed, ← x.program)

module _ {t w : List ℕ} (n : length w ≡ work_bytes) where
  module _ (e : Read.RefusedLine) (x : ReadingIs t w (Err e)) where
    pub unread-found : Found (verdict_numbers (read_text t)) t (Err (unread e)) w
    unread-found = record { numbers = refused-read t (unread e) (unread-text t w e x); taken = λ q. absurd cc; size = n }

    pub unread-checked : Found (check_text t) t (Err (unread e)) w
    unread-checked = record { numbers = refused-checked t (unread e) (unread-text t w e x); taken = λ q. absurd cc; size = n }

  module _ (u : Std.Option ℕ) (x : ReadingIs t w (Ok u)) where
    pub read-found : Found (verdict_numbers (read_text t)) t (Ok tt) w
    read-found = record { numbers = taken-read (tabled t w u x); taken = λ q. (u, tabled t w u x); size = n }

    pub checked-found :
        (f : Finding) → numbers_found f ≡ verdict_numbers (then (framed_verdict u) (λ v. check_program (program_in w))) → Found (check_text t) t f w
    checked-found f e =
        record { numbers = e ∙ sym (taken-checked (tabled t w u x)); taken = λ q. (u, tabled t w u x); size = n }

-- number 10, then the rules
module _ (u : Std.Option ℕ) (v : Verdict (Unit {0})) where
  abbrev verdict : ℕ × ℕ
  verdict = verdict_numbers (then (framed_verdict u) (λ x. v))

  pub found-unframed : (l : ℕ) → u ≡ Some l → (refusal_number Answers.unframed, l) ≡ verdict
  unfolding verdict_numbers then framed_verdict
  found-unframed l e = sym (rw e)

  by-rules : u ≡ None → verdict_numbers v ≡ verdict
  unfolding then framed_verdict
  by-rules e = sym (rw e)

  module _ (none : u ≡ None) (c : Std.Result (Unit {0}) RefusedLine) (is : verdict_of c ≡ v) where
    pub found-accepted : c ≡ Ok tt → (0, 0) ≡ verdict
    unfolding verdict_of verdict_numbers
    found-accepted e = ap verdict_numbers (sym (ap verdict_of e) ∙ is) ∙ by-rules none

    pub found-refused : (r : RefusedLine) → c ≡ Err r → numbers_found (Err (unchecked r)) ≡ verdict
    unfolding verdict_of verdict_numbers
    found-refused r e = ap verdict_numbers (sym (ap verdict_of e) ∙ is) ∙ by-rules none

-- RUN AND TRIAL
taken-tried : {t w : List ℕ} {u : Std.Option ℕ} (k : ℕ) → Tabled t w u → trial_text t k ≡ share_run heap_objects (program_in w) k
unfolding trial_text run_items room_of
taken-tried k x = rw (x.read, ← x.program)

taken-ran :
    {t w : List ℕ} {u : Std.Option ℕ} (j k : ℕ) → Tabled t w u → (check_text t).0 ≡ 0 → run_text_in (room_of j) t k ≡ share_run j (program_in w) k
unfolding run_text_in run_items checked_items then
taken-ran {t} j k x z =
    let (items, r, c) = check-accepted t z in
    let i : items ≡ x.items = accepted-inj (sym r ∙ x.read) in
    rw (r, c, i, ← x.program)

-- a text that the reader refuses
unread-tried :
    (t : List ℕ) (k : ℕ) → ((verdict_numbers (read_text t)).0 ≡ 0 → ⊥) → trial_text t k ≡ refused_result (verdict_numbers (read_text t))
unfolding trial_text run_items verdict_numbers
unread-tried t k n = go (read_text t) refl
  where
    go : (v : Verdict (List Item)) → read_text t ≡ v → trial_text t k ≡ refused_result (verdict_numbers (read_text t))
    go (accepted items) e = absurd (n (rw e refl))
    go (refused r l) e = rw e refl

-- by the test
pub found-nothing : (f : Finding) → is_err f ≡ false → f ≡ Ok tt
found-nothing (Ok u) e = refl
found-nothing (Err r) e = absurd (let y : true ≡ false = e in cc)

pub found_none : {f : Finding} (x : Result) → f ≡ Ok tt → x ≡ unless_refused f x
found_none x e = rw e refl

-- zeros in results
pub found-zeros :
    (f : Finding) (x : Result) (b : List ℕ) → is_err f ≡ true → length b ≡ results_bytes →
    (numbers_found f ≡ run_numbers (unless_refused f x)) × (cleared b ≡ result_bytes (unless_refused f x))
unfolding cleared result_bytes words_bytes word_bytes refused_result
found-zeros (Ok u) x b e n = absurd (let y : false ≡ true = e in cc)
found-zeros (Err r) x b e n = (refl, ap (λ (m : ℕ). replicate m 0) n)

-- with what was found of a text, the run that the tables give is what trial answers, or run
module _ {t w : List ℕ} (k : ℕ) where
  pub found-tried :
      {f : Finding} → Found (verdict_numbers (read_text t)) t f w → unless_refused f (share_run heap_objects (program_in w) k) ≡ trial_text t k
  found-tried {f = Ok u} F = sym (taken-tried k (F.taken refl).1)
  found-tried {f = Err r} F = ap refused_result F.numbers ∙ sym (unread-tried t k (not-zero r F.numbers))

  -- with a share of j objects for the heap
  pub found-share :
      {f : Finding} (j : ℕ) → Found (check_text t) t f w → unless_refused f (share_run j (program_in w) k) ≡ run_text_in (room_of j) t k
  found-share {f = Ok u} j F = sym (taken-ran j k (F.taken refl).1 (ap (λ (p : ℕ × ℕ). p.0) (sym F.numbers)))
  found-share {f = Err r} j F = ap refused_result F.numbers ∙ sym (refusing (room_of j) t k (not-zero r F.numbers))

  pub found-run : {f : Finding} → Found (check_text t) t f w → unless_refused f (share_run heap_objects (program_in w) k) ≡ run_text t k
  found-run F = found-share heap_objects F ∙ whole-heap-is-run t k

-- what the machine ends with
module _ (j : ℕ) {w w' : List ℕ} {k : ℕ} {r : Ran} (x : RanAs (room_of j) w k w' r) where
  pub ran-numbers : {n : ℕ} → n ≡ number r.ending → (n, r.line) ≡ run_numbers (share_run j (program_in w) k)
  unfolding outcome_result number
  ran-numbers i = ap (λ (m : ℕ). (m, r.line)) i ∙ sym (ap (λ o. run_numbers (outcome_result o)) x.outcome)

  pub ran-bytes : words_bytes (r.steps ∷ main_values w') ≡ result_bytes (share_run j (program_in w) k)
  unfolding outcome_result result_bytes
  ran-bytes = sym (ap (λ o. result_bytes (outcome_result o)) x.outcome)

-- LEAN

-- the tables of an accepted text
pub tables-accepted : {t w : List ℕ} {f : Finding} → Found (check_text t) t f w → f ≡ Ok tt → Accepted (program_in w)
unfolding checked_items then
tables-accepted {t} F q =
    let x = (F.taken q).1 in
    let n : (0, 0) ≡ check_text t = subst (λ f. numbers_found f ≡ check_text t) q F.numbers in
    let (items, r, c) = check-accepted t (ap (λ (p : ℕ × ℕ). p.0) (sym n)) in
    let i : items ≡ x.items = accepted-inj (sym r ∙ x.read) in
    rw (x.program, ← i) (checked-accepted t items (rw (r, c) refl))

pub found-lean : {t w : List ℕ} {f : Finding} (k : ℕ) → Found (check_text t) t f w → unless_refused f (lean_run (program_in w) k) ≡ lean_text t k
unfolding room_of
found-lean {t} {w} {f = Ok u} k F =
    let (W, c) = tables-accepted F refl in
    ap outcome_result (accepted-lean (program_in w) W c whole_heap k) ∙ (found-run k F ∙ sym (lean-is-run t k))
found-lean {t} {w} {f = Err r} k F = found-run k F ∙ sym (lean-is-run t k)

-- what the lean machine ends with
module _ {w w' : List ℕ} {k : ℕ} {r : Leans.Ran} (x : Leans.RanAs w k w' r) where
  pub lean-numbers : {n : ℕ} → n ≡ Leans.number r.ending → (n, r.line) ≡ run_numbers (lean_run (program_in w) k)
  unfolding outcome_result Leans.number Lean.outcome_of
  lean-numbers i = ap (λ (m : ℕ). (m, r.line)) i ∙ sym (ap (λ o. run_numbers (outcome_result o)) x.outcome)

  pub lean-bytes : words_bytes (r.steps ∷ main_values w') ≡ result_bytes (lean_run (program_in w) k)
  unfolding outcome_result result_bytes Lean.outcome_of
  lean-bytes = sym (ap (λ o. result_bytes (outcome_result o)) x.outcome)

-- WHAT IS RETURNED FITS
abbrev pub NumbersFit : ℕ × ℕ → Type 0
NumbersFit v = (v.0 < 65536) × (v.1 < 65536)

pub fits-as : {v w : ℕ × ℕ} → w ≡ v → NumbersFit v → NumbersFit w
fits-as e x = subst NumbersFit (sym e) x

pub refusal-small : (r : Answers.Refusal) → refusal_number r < 65536
refusal-small r = omega (arith, (refusal-number r).1)

stop-small : (s : Answers.Stop) → stop_number s < 65536
unfolding stop_number
stop-small Answers.heap_full = omega arith
stop-small Answers.frames_full = omega arith
stop-small Answers.permission_missing = omega arith
stop-small Answers.null_followed = omega arith
stop-small Answers.formula_false = omega arith
stop-small Answers.overflow = omega arith

ending-small : (e : Answers.Ending) → ending_number e < 65536
unfolding ending_number
ending-small Answers.finished = omega arith
ending-small Answers.steps_taken = omega arith
ending-small (Answers.stopped s) = stop-small s

verdict-small : (v : Verdict (Unit {0})) → (verdict_numbers v).0 < 65536
unfolding verdict_numbers
verdict-small (accepted u) = omega arith
verdict-small (refused r l) = refusal-small r

run_small : (room : Room) (v : Verdict (List Item)) (k : ℕ) → (run_items room v k).number < 65536
unfolding run_items outcome_result refused_result
run_small room (accepted items) k = ending-small _
run_small room (refused r l) k = refusal-small r

pub check-fits : (t : List ℕ) → NumbersFit (check_text t)
unfolding check_text
check-fits t = (verdict-small _, (fits t 0 (omega arith)).check-line)

pub trial-fits : (t : List ℕ) (k : ℕ) → k < 4294967296 → NumbersFit (run_numbers (trial_text t k))
unfolding trial_text
trial-fits t k h = (run_small whole_heap (read_text t) k, (fits t k h).trial-line)

pub run_fits : (t : List ℕ) (k : ℕ) → k < 4294967296 → NumbersFit (run_numbers (run_text t k))
unfolding refused_result
run_fits t k h =
    ⊎_elim (λ r. fits-as (ap run_numbers r.answer) (check-fits t))
    (λ e. fits-as (ap run_numbers (same-from-both t (ap (λ (p : ℕ × ℕ). p.0) e) k)) (trial-fits t k h))
    (check-decides t k)

-- with a share of j objects for the heap
pub record ShareFits (r : Result) : Type 0 where
  pub numbers : NumbersFit (run_numbers r)
  pub shown : length r.values ≡ values_shown

pub share-fits : (j : ℕ) → j ≤ heap_objects → (t : List ℕ) (k : ℕ) → ShareFits (run_text_in (room_of j) t k)
unfolding refused_result run_text_in run_items checked_items then outcome_result room_of
share-fits j h t k =
    ⊎_elim
    (λ r.
    subst ShareFits (sym (refusing (room_of j) t k (λ z. omega (arith, r.number.0, z))))
    (record { numbers = check-fits t; shown = refl }))
    (λ e.
    let (items, r, c) = check-accepted t (ap (λ (p : ℕ × ℕ). p.0) e) in
    let few = items-few t items r in
    let (text, x) = read_taken t items r in
    let o = outcome_fits most_bytes (room_of j) (program items) h (program-fits most_bytes items few (items-small text x)) k in
    rw (r, c) (record { numbers = (ending-small _, omega (arith, o.line)); shown = o.shown }))
    (check-decides t k)

pub lean-fits : (t : List ℕ) (k : ℕ) → k < 4294967296 → NumbersFit (run_numbers (lean_text t k))
lean-fits t k h = fits-as (ap run_numbers (lean-is-run t k)) (run_fits t k h)
