-- The three cases of the search: a set is complete, no place is left, and a place is taken or passed over.
use mathlib.Core.Path.{◌≡◌, refl, sym, ap, ◌∙◌}
use mathlib.Core.Bool.{Bool, true, false, cond}
use mathlib.Core.List.{List, [], ◌∷◌, ◌++◌, map}
use mathlib.Core.Option.{none, some}
use Prim.Native.Nat.{ℕ, zero, suc, ◌+◌, ◌-◌, ◌≤◌, ◌<◌}
use native.Mathlib.Omega.{arith}
use native.Mathlib.Nat.{zero-add}
use native.Mathlib.Numerals.{add-one}
use Rattle.std.proofs.lemmas.List.{append-nil, append_assoc}
use Rattle.rules.specs.Base.{first}
use Rattle.rules.specs.Fill.{places_from, choose}
use Rattle.rules.specs.Rules.{check_program}
use Rattle.rules.specs.Calls.{is_accepted}
use Rattle.filling.specs.Sets.{formula_of, program_with, is_accepted_with}
use Rattle.tables.specs.Layout.{atoms_at}
use Rattle.tables.specs.Decode.{run, byte_at, atom_place, program_in}
use Rattle.tables.specs.Stores.{Kept}
use Rattle.tables.proofs.Runs.{run_more, run-same}
use Rattle.fill_rows.specs.Rewrites.{SameBut}
use Rattle.fill_rows.proofs.Rewritten.{set_same, same-trans}
use Rattle.filler.specs.declared.Sought.{Sought}
use Rattle.filler.specs.Search.{accesses_of, places_in, HasSet, Chosen, Tried, passes_with, Seeking, Finds}
use Rattle.filler.proofs.Firsts.{first-left, first-right, first-map-some, first-map-none, first-same}
use Rattle.filler.proofs.Keeping.{accesses-same, ready-same, passes_same, there-kept, formula-kept}

-- THE SET SO FAR STAYS
set-kept :
    (w w' : List ℕ) (s : Sought) (b b' : List ℕ) (k c : ℕ) → k ≤ c → SameBut s.method w w' →
    Kept atoms_at (atom_place (s.first + c)) w w' → ((j : ℕ) → j < k → byte_at b' j ≡ byte_at b j) → HasSet w s b k → HasSet w' s b' k
set-kept w w' s b b' k c l same K e h =
    record {
      there = there-kept w w' s.first k c l K h.there;
      atoms =
          formula-kept w w' s.first k c l K
          ∙ (h.atoms
          ∙ (λ j. formula_of (sym (accesses-same w w' s same) j) (sym (run-same (byte_at b) (byte_at b') 0 k (λ i _ q. e i (omega arith))) j)));
    }

-- A SET IS COMPLETE
pub complete :
    (w : List ℕ) (s : Sought) (b : List ℕ) (left chosen p : ℕ) (r : Bool) (w' : List ℕ) → left ≡ 0 → Seeking w s b left chosen p →
    Tried w s chosen r w' → Finds w s b left chosen p r w' b
unfolding first choose run passes_with is_accepted_with
complete w s b left chosen p r w' z S t =
    let same : SameBut s.method w w' = set_same w w' s.method s.first chosen t.put in
    let e : is_accepted (check_program (program_with s.method (formula_of (accesses_of w s) (places_in b 0 chosen ++ [])) (program_in w))) ≡ r =
    ap (λ ps. is_accepted (check_program (program_with s.method (formula_of (accesses_of w s) ps) (program_in w)))) (append-nil (places_in b 0 chosen))
    ∙ (ap (λ φ. is_accepted (check_program (program_with s.method φ (program_in w)))) (sym S.set.atoms) ∙ sym t.answer) in
    rw z
    (record {
      answer = ap (λ (c : Bool). cond c (some []) none) e;
      ready = ready-same w w' s same S.ready t.put.spared;
      same = same;
      before = λ i l h. t.put.atoms i l (omega (arith, S.room, S.ready.spared.room));
      chosen_kept = λ j l. refl;
      later_kept = λ j l. refl;
      four = S.four;
      size = t.put.size;
    })

-- NO PLACE IS LEFT
pub no-place-left :
    (w : List ℕ) (s : Sought) (b : List ℕ) (left chosen p : ℕ) → (left ≡ 0 → ⊥) → s.count < p → Seeking w s b left chosen p →
    Finds w s b left chosen p false w b
unfolding first choose places_from
no-place-left w s b zero chosen p n l S = absurd (n refl)
no-place-left w s b (suc k) chosen p n l S =
    let z : suc s.count - p ≡ 0 = omega arith in
    record {
      answer = rw z refl;
      ready = S.ready;
      same = λ φ. refl;
      before = λ i q h. refl;
      chosen_kept = λ j q. refl;
      later_kept = λ j q. refl;
      four = S.four;
      size = refl;
    }

-- A PLACE IS TAKEN
passes-joined : (w : List ℕ) (s : Sought) (ps : List ℕ) (p : ℕ) (qs : List ℕ) → passes_with w s (ps ++ (p ∷ [])) qs ≡ passes_with w s ps (p ∷ qs)
unfolding passes_with
passes-joined w s ps p qs = ap (is_accepted_with (program_in w) s.method (accesses_of w s)) (append_assoc ps (p ∷ []) qs)

both-parts :
    (left p n : ℕ) → (left ≡ 0 → ⊥) → p ≤ n →
    choose left (places_from p (suc n - p))
    ≡ map (λ q. p ∷ q) (choose (left - 1) (places_from (p + 1) (suc n - (p + 1)))) ++ choose left (places_from (p + 1) (suc n - (p + 1)))
unfolding choose places_from
both-parts zero p n z h = absurd (z refl)
both-parts (suc k) p n z h =
    let a : suc n - p ≡ suc (suc n - (p + 1)) = omega arith in
    let c : suc k - 1 ≡ k = omega arith in
    rw (a, c, add-one p) refl

module _
    (w : List ℕ) (s : Sought) (b : List ℕ) (left chosen p : ℕ) (n : left ≡ 0 → ⊥) (h : p ≤ s.count) (S : Seeking w s b left chosen p)
    (w₁ b₁ : List ℕ) (C : Chosen w s b chosen p w₁ b₁) where
  module _ (r₁ : Bool) (w₂ b₂ : List ℕ) (F : Finds w₁ s b₁ (left - 1) (chosen + 1) (p + 1) r₁ w₂ b₂) where
    same₂ : SameBut s.method w w₂
    same₂ = same-trans s.method w w₁ w₂ C.same F.same

    before₂ : Kept atoms_at (atom_place (s.first + chosen)) w w₂
    before₂ i l q = F.before i l (omega arith) ∙ C.before i l q

    places₂ : (j : ℕ) → j < chosen → byte_at b₂ j ≡ byte_at b j
    places₂ j l = F.chosen_kept j (omega arith) ∙ C.others j (λ e. omega arith)

    places₁ : places_in b₁ 0 (chosen + 1) ≡ places_in b 0 chosen ++ (p ∷ [])
    places₁ =
        ap (places_in b₁ 0) (add-one chosen)
        ∙ (run_more (byte_at b₁) 0 chosen
        ∙ (λ j. run-same (byte_at b) (byte_at b₁) 0 chosen (λ k _ l. C.others k (λ e. omega arith)) j ++ ((ap (byte_at b₁) (zero-add chosen) ∙ C.place) j ∷ [])))

    -- the sets with p
    tests : (qs : List ℕ) → passes_with w₁ s (places_in b₁ 0 (chosen + 1)) qs ≡ passes_with w s (places_in b 0 chosen) (p ∷ qs)
    tests qs =
        passes_same w w₁ s C.same (places_in b₁ 0 (chosen + 1)) qs
        ∙ (ap (λ ps. passes_with w s ps qs) places₁ ∙ passes-joined w s (places_in b 0 chosen) p qs)

    abbrev rest : List ℕ
    rest = places_from (p + 1) (suc s.count - (p + 1))

    with-p : first (λ qs. passes_with w s (places_in b 0 chosen) (p ∷ qs)) (choose (left - 1) rest) ≡ cond r₁ (some (places_in b₂ (chosen + 1) (left - 1))) none
    with-p = sym (first-same _ _ (choose (left - 1) (places_from (p + 1) (suc s.count - (p + 1)))) tests) ∙ F.answer

    both : choose left (places_from p (suc s.count - p)) ≡ map (λ q. p ∷ q) (choose (left - 1) rest) ++ choose left rest
    both = both-parts left p s.count n h

    pub taken : r₁ ≡ true → Finds w s b left chosen p true w₂ b₂
    unfolding run
    taken t =
        let k : ℕ = left - 1 in
        let z : left ≡ suc k = omega (arith, n) in
        let f : first (λ qs. passes_with w s (places_in b 0 chosen) (p ∷ qs)) (choose (left - 1) rest) ≡ some (places_in b₂ (chosen + 1) (left - 1)) =
        with-p ∙ ap (λ c. cond c (some (places_in b₂ (chosen + 1) (left - 1))) none) t in
        let g : first (passes_with w s (places_in b 0 chosen)) (choose left (places_from p (suc s.count - p))) ≡ some (p ∷ places_in b₂ (chosen + 1) (left - 1)) =
        ap (first (passes_with w s (places_in b 0 chosen))) both
        ∙ first-left _ _ _ _ (first-map-some (passes_with w s (places_in b 0 chosen)) (λ q. p ∷ q) _ _ f) in
        let e : byte_at b₂ chosen ≡ p = F.chosen_kept chosen (omega arith) ∙ C.place in
        record {
          answer = g ∙ sym (ap some (ap (places_in b₂ chosen) z ∙ (λ j. e j ∷ places_in b₂ (sym (add-one chosen) j) (left - 1))));
          ready = F.ready;
          same = same₂;
          before = before₂;
          chosen_kept = places₂;
          later_kept = λ j l. F.later_kept j (omega (arith, n)) ∙ C.others j (λ e. omega (arith, n));
          four = F.four;
          size = F.size ∙ C.size;
        }

    -- OR PASSED OVER
    pub seeks-without : r₁ ≡ false → Seeking w₂ s b₂ left chosen (p + 1)
    seeks-without t =
        record {
          ready = F.ready;
          set = set-kept w w₂ s b b₂ chosen chosen (omega arith) same₂ before₂ places₂ S.set;
          room = S.room;
          low = omega arith;
          four = F.four;
        }

    pub passed_over :
        r₁ ≡ false → (r : Bool) (w₃ b₃ : List ℕ) → Finds w₂ s b₂ left chosen (p + 1) r w₃ b₃ → Finds w s b left chosen p r w₃ b₃
    passed_over t r w₃ b₃ G =
        let f : first (λ qs. passes_with w s (places_in b 0 chosen) (p ∷ qs)) (choose (left - 1) rest) ≡ none =
        with-p ∙ ap (λ c. cond c (some (places_in b₂ (chosen + 1) (left - 1))) none) t in
        let same : (qs : List ℕ) → passes_with w₂ s (places_in b₂ 0 chosen) qs ≡ passes_with w s (places_in b 0 chosen) qs =
        λ qs. passes_same w w₂ s same₂ (places_in b₂ 0 chosen) qs
        ∙ ap (λ ps. passes_with w s ps qs) (run-same (byte_at b) (byte_at b₂) 0 chosen (λ i _ l. places₂ i (omega arith))) in
        record {
          answer =
              ap (first (passes_with w s (places_in b 0 chosen))) both
              ∙ (first-right _ _ _ (first-map-none (passes_with w s (places_in b 0 chosen)) (λ q. p ∷ q) _ f)
              ∙ (sym (first-same _ _ (choose left rest) same) ∙ G.answer));
          ready = G.ready;
          same = same-trans s.method w w₂ w₃ same₂ G.same;
          before = λ i l q. G.before i l q ∙ before₂ i l q;
          chosen_kept = λ j l. G.chosen_kept j l ∙ places₂ j l;
          later_kept = λ j l. G.later_kept j l ∙ (F.later_kept j (omega (arith, n)) ∙ C.others j (λ e. omega (arith, n)));
          four = G.four;
          size = G.size ∙ (F.size ∙ C.size);
        }
