-- In every moment of a joint run each script stands where its run alone stands after as many steps.
use mathlib.Core.Path.{◌≡◌, refl, sym, ap, ◌∙◌, subst}
use mathlib.Core.List.{List, [], ◌∷◌}
use Prim.Native.Nat.{ℕ, zero, suc, pred, ◌+◌, ◌≤◌, ◌<◌}
use native.Mathlib.Omega.{arith}
use lib.ListN.{length, take, drop, replicate}
use lib.Seq.{take-take, drop-drop}
use Rattle.rules.specs.Limits.{heap_objects}
use Rattle.rules.specs.Answers.{Verdict, accepted, refused, then, Refusal, Stop, finished, stopped}
use Rattle.rules.specs.Syntax.{Program}
use Rattle.rules.specs.Bounds.{total}
use Rattle.rules.specs.Machine.{Heap, Config, Outcome, Room, Step, on, stop, done, step, start, ends, run_program}
use Rattle.rules.specs.Joint.{Share, Going, Progress, Script, Joint, Station, going, over, room_of, seen, placed, state_of, after, step_from, turns, take_turns, rounds, moment, beginning, scripts_from, joint, came_to}
use Rattle.joint.specs.Claims.{SharesFit, sizes, alone}
use Rattle.joint.proofs.Reaches.{Reaches, at-start, by-step, run-taken, run-stopped, run-done, within-room}
use Rattle.joint.proofs.Shares.{Inside, inside-same, placed-inside, placed-seen, seen-high, seen_low}

-- ONE SCRIPT

-- the objects of state m stand in the share, from its first place on
pub record InShare (h : Heap) (s : Share) (m : Config) : Type 0 where
  pub fits : length m.heap ≤ s.size
  pub is_seen : seen h s (length m.heap) ≡ m.heap

-- a script that goes on after n turns
pub record GoesOn (v : Verdict Program) (h : Heap) (s : Share) (n : ℕ) (g : Going) : Type 0 where
  pub program : v ≡ accepted g.program
  pub steps : g.steps ≡ n
  pub made : length (seen h s g.made) ≡ g.made
  pub objects : InShare h s (state_of h s g)
  pub reached : Reaches (room_of s.size) g.program n (state_of h s g)

-- how its run has ended in fewer than n turns
pub data Ended (room : Room) (P : Program) (m : Config) (i : ℕ) : Outcome → Type 0 where
  by-stop : (r : Stop) → step room P m ≡ stop r → Ended room P m i (ends P (stopped r) i m)
  by_end : step room P m ≡ done → Ended room P m i (ends P finished (suc i) m)

-- one that is passed over
pub data PassedOver (v : Verdict Program) (h : Heap) (s : Share) (n : ℕ) : Verdict Outcome → Type 0 where
  was-refused : (r : Refusal) (l : ℕ) → v ≡ refused r l → PassedOver v h s n (refused r l)
  has_ended :
      (P : Program) (m : Config) (i : ℕ) (o : Outcome) → v ≡ accepted P → i < n → Reaches (room_of s.size) P i m → InShare h s m →
      Ended (room_of s.size) P m i o → PassedOver v h s n (accepted o)

-- the script v after n turns, in a heap h with its share s
abbrev pub Matches : Verdict Program → Heap → Share → ℕ → Progress → Type 0
Matches v h s n (going g) = GoesOn v h s n g
Matches v h s n (over a) = PassedOver v h s n a

-- what others do to the heap does not matter to it
in-share-heap :
    (h h' : Heap) (s : Share) → ((k : ℕ) → k ≤ s.size → seen h' s k ≡ seen h s k) → (m : Config) → InShare h s m → InShare h' s m
in-share-heap h h' s e m I = record { fits = I.fits; is_seen = e (length m.heap) I.fits ∙ I.is_seen }

matches-heap :
    (v : Verdict Program) (h h' : Heap) (s : Share) (n : ℕ) → ((k : ℕ) → k ≤ s.size → seen h' s k ≡ seen h s k) → (p : Progress) →
    Matches v h s n p → Matches v h' s n p
unfolding state_of
matches-heap v h h' s n e (going g) M =
    let l : g.made ≤ s.size = omega (arith, M.made, M.objects.fits) in
    let q : seen h s g.made ≡ seen h' s g.made = sym (e g.made l) in
    let I : InShare h' s (state_of h s g) = in-share-heap h h' s e (state_of h s g) M.objects in
    record {
      program = M.program;
      steps = M.steps;
      made = subst (λ (w : Heap). length w ≡ g.made) q M.made;
      objects = subst (λ (w : Heap). InShare h' s (record { heap = w; frame = g.frame; callers = g.callers })) q I;
      reached =
          subst (λ (w : Heap). Reaches (room_of s.size) g.program n (record { heap = w; frame = g.frame; callers = g.callers })) q
          M.reached;
    }
matches-heap v h h' s n e (over a) (was-refused r l i) = was-refused r l i
matches-heap v h h' s n e (over a) (has_ended P m i o q l x I d) = has_ended P m i o q l x (in-share-heap h h' s e m I) d

-- what it came to is what it comes to alone
ended-alone :
    (room : Room) (P : Program) (m : Config) (i : ℕ) (o : Outcome) → Ended room P m i o → Reaches room P i m → (k : ℕ) → i < k →
    run_program room P k ≡ o
ended-alone room P m i o (by-stop r e) x k l = run-stopped room P x r e k l
ended-alone room P m i o (by_end e) x k l = run-done room P x e k l

pub came-to-alone : (f : Station) (h : Heap) (s : Share) (n : ℕ) → s.size ≡ f.size → (p : Progress) → Matches f.script h s n p → came_to h s p ≡ alone n f
unfolding came_to alone then state_of
came-to-alone f h s n z (going g) M =
    rw (M.program, M.steps, ← z) (ap accepted (sym (run-taken (room_of s.size) g.program M.reached)))
came-to-alone f h s n z (over a) (was-refused r l i) = rw i refl
came-to-alone f h s n z (over a) (has_ended P m i o q l x I d) =
    rw (q, ← z) (ap accepted (sym (ended-alone (room_of s.size) P m i o d x n l)))

-- A TURN
pub record Turn (v : Verdict Program) (h : Heap) (s : Share) (n : ℕ) (b : Heap × Progress) : Type 0 where
  pub matches : Matches v b.0 s n b.1
  pub inside : Inside s h b.0

pub turn : (v : Verdict Program) (h : Heap) (s : Share) (n : ℕ) → s.first + s.size ≤ length h → (p : Progress) → Matches v h s n p → Turn v h s (suc n) (step_from h s p)
unfolding step_from after state_of room_of
turn v h s n room (over a) (was-refused r l i) = record { matches = was-refused r l i; inside = inside-same s h }
turn v h s n room (over a) (has_ended P m i o q l x I d) =
    record { matches = has_ended P m i o q (omega (arith, l)) x I d; inside = inside-same s h }
turn v h s n room (going g) M = go (step (room_of s.size) g.program m) refl
  where
    m : Config
    m = state_of h s g

    go : (t : Step) → step (room_of s.size) g.program m ≡ t → Turn v h s (suc n) (after h s g m t)
    go (on m') e =
        let x : Reaches (room_of s.size) g.program (suc n) m' = by-step M.reached e in
        let f : length m'.heap ≤ s.size = within-room (room_of s.size) g.program (suc n) x in
        let i : seen (placed h s m'.heap) s (length m'.heap) ≡ m'.heap = placed-seen s h m'.heap room f in
        record {
          matches =
              record {
                program = M.program;
                steps = ap suc M.steps;
                made = ap (λ (w : Heap). length w) i;
                objects = rw i (record { fits = f; is_seen = i });
                reached = rw i x;
              };
          inside = placed-inside s h m'.heap room f;
        }
    go (stop r) e =
        record {
          matches =
              has_ended g.program m n _ M.program (omega arith) M.reached M.objects
              (subst (λ (k : ℕ). Ended (room_of s.size) g.program m n (ends g.program (stopped r) k m)) (sym M.steps) (by-stop r e));
          inside = inside-same s h;
        }
    go done e =
        record {
          matches =
              has_ended g.program m n _ M.program (omega arith) M.reached M.objects
              (subst (λ (k : ℕ). Ended (room_of s.size) g.program m n (ends g.program finished (suc k) m)) (sym M.steps) (by_end e));
          inside = inside-same s h;
        }

-- ALL SCRIPTS

-- turns that the first script has had, of a round after r rounds in which the first p have had theirs
abbrev pub had : ℕ → ℕ → ℕ
had zero r = r
had (suc p) r = suc r

-- the share of station f from place a on
abbrev pub share_from : ℕ → Station → Share
share_from a f = record { first = a; size = f.size }

pub record Stands (f : Station) (h : Heap) (a n : ℕ) (s : Script) : Type 0 where
  pub matches : Matches f.script h (share_from a f) n s.progress
  pub share : s.share ≡ share_from a f
  pub room : a + f.size ≤ length h

-- shares one after the other from place a on
abbrev pub AllStand : Heap → ℕ → ℕ → ℕ → List Script → List Station → Type 0
AllStand h a p r [] [] = Unit {0}
AllStand h a p r [] (f ∷ fs) = ⊥
AllStand h a p r (s ∷ ss) [] = ⊥
AllStand h a p r (s ∷ ss) (f ∷ fs) = Stands f h a (had p r) s × AllStand h (a + f.size) (pred p) r ss fs

-- what lies below the shares may change
pub below-changes :
    (h h' : Heap) (a r : ℕ) (ss : List Script) (fs : List Station) → drop a h' ≡ drop a h → length h' ≡ length h →
    AllStand h a 0 r ss fs → AllStand h' a 0 r ss fs
below-changes h h' a r [] [] e q A = tt
below-changes h h' a r [] (f ∷ fs) e q A = A
below-changes h h' a r (s ∷ ss) [] e q A = A
below-changes h h' a r (s ∷ ss) (f ∷ fs) e q (S, A) = (
  record {
    matches =
        matches-heap f.script h h' (share_from a f) r (λ k l. seen-high (share_from a f) a k h h' (omega arith) e) s.progress S.matches;
    share = S.share;
    room = omega (arith, S.room, q);
  },
  below-changes h h' (a + f.size) r ss fs (sym (drop-drop f.size a h') ∙ ap (drop f.size) e ∙ drop-drop f.size a h) q A,
)

pub record Turned (h : Heap) (a p r : ℕ) (fs : List Station) (b : Heap × List Script) : Type 0 where
  pub matches : AllStand b.0 a p r b.1 fs
  pub size : length b.0 ≡ length h
  pub low : take a b.0 ≡ take a h

-- the first script's turn
pub first-turn : (h : Heap) (a r : ℕ) (s : Script) (f : Station) → Stands f h a r s → Turn f.script h (share_from a f) (suc r) (step_from h s.share s.progress)
first-turn h a r s f S =
    subst (λ (w : Share). Turn f.script h (share_from a f) (suc r) (step_from h w s.progress)) (sym S.share)
    (turn f.script h (share_from a f) r S.room s.progress S.matches)

module _ (h : Heap) (a p r : ℕ) (s : Script) (ss : List Script) (f : Station) (fs : List Station) (S : Stands f h a r s) where
  abbrev b : Heap × Progress
  b = step_from h s.share s.progress

  abbrev c : Heap × List Script
  c = turns p b.0 ss

  -- it stands in the heap that the others' turns leave
  then-others :
      Turn f.script h (share_from a f) (suc r) b → Turned b.0 (a + f.size) p r fs c →
      Turned h a (suc p) r (f ∷ fs) (c.0, record { share = s.share; progress = b.1 } ∷ c.1)
  then-others X T =
      record {
        matches = (
          record {
            matches =
                matches-heap f.script b.0 c.0 (share_from a f) (suc r)
                (λ k l. seen_low (share_from a f) k b.0 c.0 l (omega (arith, S.room, X.inside.size)) T.size T.low) b.1 X.matches;
            share = S.share;
            room = omega (arith, S.room, X.inside.size, T.size);
          },
          T.matches,
        );
        size = T.size ∙ X.inside.size;
        low =
            sym (take-take a (a + f.size) c.0 (omega arith))
            ∙ ap (take a) T.low
            ∙ take-take a (a + f.size) b.0 (omega arith)
            ∙ X.inside.low;
      }

pub turns-match :
    (p : ℕ) (h : Heap) (a r : ℕ) (ss : List Script) (fs : List Station) → AllStand h a 0 r ss fs → Turned h a p r fs (turns p h ss)
unfolding turns
turns-match zero h a r ss fs A = record { matches = A; size = refl; low = refl }
turns-match (suc p) h a r [] [] A = record { matches = tt; size = refl; low = refl }
turns-match (suc p) h a r [] (f ∷ fs) A = absurd A
turns-match (suc p) h a r (s ∷ ss) [] A = absurd A
turns-match (suc p) h a r (s ∷ ss) (f ∷ fs) (S, A) =
    let X = first-turn h a r s f S in
    let w : Heap = (step_from h s.share s.progress).0 in
    then-others h a p r s ss f fs S X
    (turns-match p w (a + f.size) r ss fs (below-changes h w (a + f.size) r ss fs X.inside.high X.inside.size A))

-- ROUNDS

-- a round in which every script had its turn is one round more
all-had : (h : Heap) (a r : ℕ) (ss : List Script) (fs : List Station) → AllStand h a (length ss) r ss fs → AllStand h a 0 (suc r) ss fs
all-had h a r [] [] A = A
all-had h a r [] (f ∷ fs) A = A
all-had h a r (s ∷ ss) [] A = A
all-had h a r (s ∷ ss) (f ∷ fs) (S, A) = (S, all-had h (a + f.size) r ss fs A)

turns-length : (p : ℕ) (h : Heap) (ss : List Script) → length (turns p h ss).1 ≡ length ss
unfolding turns
turns-length zero h ss = refl
turns-length (suc p) h [] = refl
turns-length (suc p) h (s ∷ ss) = ap suc (turns-length p (step_from h s.share s.progress).0 ss)

pub record JointStands (p r : ℕ) (j : Joint) (fs : List Station) : Type 0 where
  pub all : AllStand j.heap 0 p r j.scripts fs
  pub size : length j.heap ≡ heap_objects

pub turns-stand : (p r : ℕ) (j : Joint) (fs : List Station) → JointStands 0 r j fs → JointStands p r (take_turns p j) fs
unfolding take_turns
turns-stand p r j fs J =
    let T = turns-match p j.heap 0 r j.scripts fs J.all in record { all = T.matches; size = T.size ∙ J.size }

pub rounds-stand : (r : ℕ) (j : Joint) (fs : List Station) → JointStands 0 0 j fs → JointStands 0 r (rounds r j) fs
unfolding rounds take_turns
rounds-stand zero j fs J = J
rounds-stand (suc r) j fs J =
    let b : Joint = rounds r j in
    let n : ℕ = length b.scripts in
    let K = turns-stand n r b fs (rounds-stand r j fs J) in
    let c : Heap × List Script = turns n b.heap b.scripts in
    record {
      all =
          all-had c.0 0 r c.1 fs
          (subst (λ (n : ℕ). AllStand c.0 0 n r c.1 fs) (sym (turns-length n b.heap b.scripts)) K.all);
      size = K.size;
    }

-- THE BEGINNING
begins :
    (f : Station) (v : Verdict Program) (h : Heap) (a : ℕ) → Matches v h (share_from a f) 0 (beginning v)
unfolding beginning state_of seen start
begins f (accepted P) h a =
    record { program = refl; steps = refl; made = refl; objects = record { fits = omega arith; is_seen = refl }; reached = at-start }
begins f (refused r l) h a = was-refused r l refl

all-begin : (a : ℕ) (fs : List Station) (h : Heap) → a + total (sizes fs) ≤ length h → AllStand h a 0 0 (scripts_from a fs) fs
unfolding scripts_from total
all-begin a [] h l = tt
all-begin a (f ∷ fs) h l = (
  record { matches = begins f f.script h a; share = refl; room = omega (arith, l) },
  all-begin (a + f.size) fs h (omega (arith, l)),
)

pub joint-begins : (fs : List Station) → SharesFit fs → JointStands 0 0 (joint fs) fs
unfolding joint
joint-begins fs l = record { all = all-begin 0 fs (replicate heap_objects []) (omega (arith, l)); size = refl }

-- IN EVERY MOMENT
pub moment-stands : (r p : ℕ) (fs : List Station) → SharesFit fs → JointStands p r (moment (joint fs) r p) fs
unfolding moment
moment-stands r p fs l = turns-stand p r (rounds r (joint fs)) fs (rounds-stand r (joint fs) fs (joint-begins fs l))
