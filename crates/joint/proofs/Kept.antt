-- Demand 3 of each script in a joint run, in the one heap: the statement is that of specs/Claims.
use mathlib.Core.Path.{◌≡◌, refl, sym, ap, ◌∙◌, subst}
use mathlib.Core.List.{List, [], ◌∷◌}
use mathlib.Core.Logic.{⊎_elim}
use Prim.Native.Nat.{ℕ, zero, suc, min, ◌≤◌, ◌<◌}
use native.Mathlib.Omega.{arith}
use lib.ListN.{length}
use Rattle.rules.specs.Answers.{Verdict, accepted, refused, then, Refusal}
use Rattle.rules.specs.Syntax.{Program}
use Rattle.rules.specs.Machine.{Config, Heap, Outcome, Room, on, step, value_at}
use Rattle.rules.specs.Runs.{Run}
use Rattle.rules.specs.Joint.{Share, Going, Progress, Joint, Station, going, over, room_of, state_of, moment, joint}
use Rattle.rules.proofs.Counting.{run-listed}
use Rattle.rules.proofs.Disjoint.{two-halves}
use Rattle.rules.proofs.Chains.{chains-end, chains-handed}
use Rattle.soundness.proofs.FrameKept.{existed, frame-kept}
use Rattle.joint.specs.Claims.{SharesFit, no_script, station_at, share_of, room_at, progress_in, field_in, alone, turns_had, StandsIn, Follows, CallsKeepShare, CallsKeepTheirShare}
use Rattle.joint.proofs.Reaches.{Reaches, reached, reached-once, at_most, as_long, no-further}
use Rattle.joint.proofs.Shares.{decide-lt, seen-field}
use Rattle.joint.proofs.Turns.{InShare, GoesOn, Ended, by-stop, by_end, PassedOver, was-refused, has_ended, Matches}
use Rattle.joint.proofs.Alone.{one-alone, matches-at}

accepted-inj : {A : Type 0} {a b : A} → ◌≡◌ {A = Verdict A} (accepted a) (accepted b) → a ≡ b
accepted-inj e = cc

accepted-refused : {A B : Type 0} {a : A} {r : Refusal} {l : ℕ} → accepted a ≡ refused r l → B
accepted-refused e = absurd (let z : ◌≡◌ {A = ℕ} 0 1 = cc in omega arith)

-- no step after the end
ended-no-further : (room : Room) (P : Program) (m : Config) (i : ℕ) (o : Outcome) → Ended room P m i o → (m' : Config) → step room P m ≡ on m' → ⊥
ended-no-further room P m i o (by-stop r e) m' q = let z : ◌≡◌ {A = ℕ} 0 1 = cc in omega arith
ended-no-further room P m i o (by_end e) m' q = let z : ◌≡◌ {A = ℕ} 0 1 = cc in omega arith

-- THE RUN R OF THE PROGRAM P, and a moment of the joint run in which the script has had n turns
module _ (s : Share) (P : Program) {r : ℕ} (R : Run (room_of s.size) P r) (h : Heap) (n : ℕ) where
  -- it stands in the run's state, unless that has ended
  record At (g : Going) : Type 0 where
    steps : g.steps ≡ n
    state : state_of h s g ≡ R.state n

  going-at : (v : Verdict Program) → v ≡ accepted P → n ≤ R.steps → (g : Going) → GoesOn v h s n g → At g
  going-at v e l g M =
      let q : g.program ≡ P = accepted-inj (sym M.program ∙ e) in
      record {
        steps = M.steps;
        state =
            reached-once (room_of s.size) P n (subst (λ (P : Program). Reaches (room_of s.size) P n (state_of h s g)) q M.reached)
            (reached (room_of s.size) P R n l);
      }

  passed-at : (v : Verdict Program) → v ≡ accepted P → n ≤ R.steps → (a : Verdict Outcome) → PassedOver v h s n a → ⊥
  passed-at v e l a (was-refused r k i) = accepted-refused (sym e ∙ i)
  passed-at v e l a (has_ended P' m i o q b x I d) =
      let p : P' ≡ P = accepted-inj (sym q ∙ e) in
      no-further (room_of s.size) P R (subst (λ (P : Program). Reaches (room_of s.size) P i m) p x)
      (subst (λ (P : Program). (m' : Config) → step (room_of s.size) P m ≡ on m' → ⊥) p (ended-no-further (room_of s.size) P' m i o d))
      (omega (arith, b, l))

  -- its objects are those of the run's state: of the last one, if that has ended
  module _ (v : Verdict Program) (e : v ≡ accepted P) (l : n ≤ r) where
    going-objects : (g : Going) → GoesOn v h s n g → InShare h s (R.state (min n R.steps))
    going-objects g M =
        let q : g.program ≡ P = accepted-inj (sym M.program ∙ e) in
        let x : Reaches (room_of s.size) P n (state_of h s g) =
        subst (λ (P : Program). Reaches (room_of s.size) P n (state_of h s g)) q M.reached in
        let b : n ≤ R.steps = as_long (room_of s.size) P R n x l in
        let k : n ≡ min n R.steps = omega (arith, b) in
        subst (λ (i : ℕ). InShare h s (R.state i)) k (subst (InShare h s) (going-at v e b g M).state M.objects)

    passed-objects : (a : Verdict Outcome) → PassedOver v h s n a → InShare h s (R.state (min n R.steps))
    passed-objects a (was-refused r k i) = accepted-refused (sym e ∙ i)
    passed-objects a (has_ended P' m i o q b x I d) =
        let p : P' ≡ P = accepted-inj (sym q ∙ e) in
        let y : Reaches (room_of s.size) P i m = subst (λ (P : Program). Reaches (room_of s.size) P i m) p x in
        let c : i ≤ R.steps = as_long (room_of s.size) P R i y (omega (arith, b, l)) in
        let none : i < R.steps → ⊥ =
        no-further (room_of s.size) P R y
        (subst (λ (P : Program). (m' : Config) → step (room_of s.size) P m ≡ on m' → ⊥) p (ended-no-further (room_of s.size) P' m i o d)) in
        let k : i ≡ min n R.steps = ⊎_elim (λ t. absurd (none t)) (λ t. omega (arith, t, b, c)) (decide-lt i R.steps) in
        subst (λ (i : ℕ). InShare h s (R.state i)) k (subst (InShare h s) (reached-once (room_of s.size) P i y (reached (room_of s.size) P R i c)) I)

    pub objects_at : (p : Progress) → Matches v h s n p → InShare h s (R.state (min n R.steps))
    objects_at (going g) M = going-objects g M
    objects_at (over a) M = passed-objects a M

-- THE SCRIPT i
module _ (ss : List Station) (l : SharesFit ss) (i : ℕ) (P : Program) (e : (station_at ss i).script ≡ accepted P) where
  -- it is there
  present : i < length ss
  present = ⊎_elim (λ t. t) (λ t. accepted-refused (sym e ∙ none-there ss i t)) (decide-lt i (length ss))
    where
      none-there : (ss : List Station) (i : ℕ) → length ss ≤ i → (station_at ss i).script ≡ no_script
      none-there [] i t = refl
      none-there (s ∷ ss) zero t = absurd (omega arith)
      none-there (s ∷ ss) (suc i) t = none-there ss i (omega arith)

  module _ {r : ℕ} (R : Run (room_at ss i) P r) where
    follows : Follows ss i P R
    follows a p b =
        let j : Joint = moment (joint ss) a p in
        go j (progress_in j i) refl (matches-at ss l a p i present) b
      where
        go :
            (j : Joint) {n : ℕ} (q : Progress) → progress_in j i ≡ q → Matches (station_at ss i).script j.heap (share_of ss i) n q → n ≤ R.steps →
            StandsIn ss i P j n (R.state n)
        go j {n} (going g) k M b =
            let X = going-at (share_of ss i) P R j.heap n (station_at ss i).script e b g M in
            record { at = g; is_at = k; steps = X.steps; state = X.state }
        go j {n} (over a) k M b = absurd (passed-at (share_of ss i) P R j.heap n (station_at ss i).script e b a M)

    objects : (a p : ℕ) → turns_had a p i ≤ r → InShare (moment (joint ss) a p).heap (share_of ss i) (R.state (min (turns_had a p i) R.steps))
    objects a p b =
        objects_at (share_of ss i) P R (moment (joint ss) a p).heap (turns_had a p i) (station_at ss i).script e b
        (progress_in (moment (joint ss) a p) i) (matches-at ss l a p i present)

    -- a field in the one heap is the field in the run's state
    field_is :
        (a p n : ℕ) → turns_had a p i ≤ r → min (turns_had a p i) R.steps ≡ n → (o f : ℕ) → o ≤ length (R.state n).heap →
        field_in (share_of ss i) (moment (joint ss) a p).heap o f ≡ value_at (R.state n).heap o f
    field_is a p n b k o f t =
        let h : Heap = (moment (joint ss) a p).heap in
        let I : InShare h (share_of ss i) (R.state n) = subst (λ (n : ℕ). InShare h (share_of ss i) (R.state n)) k (objects a p b) in
        sym (seen-field h (share_of ss i) (length (R.state n).heap) o f t) ∙ ap (λ (w : Heap). value_at w o f) I.is_seen

    kept : CallsKeepShare ss i P R
    kept n C j D o f X u a p k b q c d =
        let (x, y, z) = X in
        let t : n ≤ R.steps = omega (arith, C.is_done) in
        field_is b q j c d o f (existed (room_at ss i) P R j o D.up_to (x, omega (arith, y, D.after), z))
        ∙ frame-kept (room_at ss i) P R n C j D o f X u
        ∙ sym
        (field_is a p n (omega (arith, k, t, at_most (room_at ss i) P R)) (omega (arith, k, t)) o f (existed (room_at ss i) P R n o t X))

pub calls-keep-their-share : CallsKeepTheirShare
unfolding alone then
calls-keep-their-share ss l i P e r =
    let (R, o) = run-listed (room_at ss i) P r in
    record {
      run = R;
      answered = one-alone ss l r i ∙ (rw e (ap accepted o));
      follows = follows ss l i P e R;
      kept = kept ss l i P e R;
      halves = two-halves (room_at ss i) P R;
      chains = chains-end (room_at ss i) P R;
      handed = chains-handed (room_at ss i) P R;
    }
