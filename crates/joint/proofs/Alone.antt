-- W12's promises of the joint run, but for demand 3: the statements are those of specs/Claims.
use mathlib.Core.Path.{◌≡◌, refl, sym, ap, ap₂, ◌∙◌, subst}
use mathlib.Core.List.{List, [], ◌∷◌, map}
use mathlib.Core.Logic.{⊎_elim}
use Prim.Native.Nat.{ℕ, zero, suc, pred, ◌+◌, ◌≤◌, ◌<◌}
use native.Mathlib.Omega.{arith}
use lib.Dec.{leb-zero, leb-suc-zero, leb-suc-suc}
use lib.ListN.{length, get_or, take}
use Rattle.rules.specs.Answers.{Verdict, then}
use Rattle.rules.specs.Bounds.{total}
use Rattle.rules.specs.Machine.{Heap, Outcome}
use Rattle.rules.specs.Joint.{Share, Going, Progress, Script, Joint, Station, going, over, step_from, turns, take_turns, rounds, moment, joint, came_to, joint_run}
use Rattle.joint.specs.Claims.{sizes, SharesFit, no_script, station_at, share_of, progress_in, alone, turns_had, AsAlone, StepEachRound, WhateverTheOthersDo, OneHeap, StaysInShare}
use Rattle.joint.proofs.Shares.{decide-lt, outside}
use Rattle.joint.proofs.Turns.{Matches, AllStand, had, share_from, came-to-alone, first-turn, below-changes, joint-begins, rounds-stand, moment-stands}

-- AS ALONE
all-alone :
    (h : Heap) (a r : ℕ) (ss : List Script) (fs : List Station) → AllStand h a 0 r ss fs →
    map (λ s. came_to h s.share s.progress) ss ≡ map (alone r) fs
all-alone h a r [] [] A = refl
all-alone h a r [] (f ∷ fs) A = absurd A
all-alone h a r (s ∷ ss) [] A = absurd A
all-alone h a r (s ∷ ss) (f ∷ fs) (S, A) =
    ap₂ ◌∷◌
    (ap (λ (w : Share). came_to h w s.progress) S.share ∙ came-to-alone f h (share_from a f) r refl s.progress S.matches)
    (all-alone h (a + f.size) r ss fs A)

pub as-alone : AsAlone
unfolding joint_run
as-alone ss l r =
    let j : Joint = rounds r (joint ss) in
    all-alone j.heap 0 r j.scripts ss (rounds-stand r (joint ss) ss (joint-begins ss l)).all

-- what one of them came to
alone_at : (ss : List Station) (r i : ℕ) → get_or (map (alone r) ss) i no_script ≡ alone r (station_at ss i)
unfolding alone then
alone_at [] r i = refl
alone_at (s ∷ ss) r zero = refl
alone_at (s ∷ ss) r (suc i) = alone_at ss r i

pub one-alone : (ss : List Station) → SharesFit ss → (r i : ℕ) → get_or (joint_run ss r) i no_script ≡ alone r (station_at ss i)
one-alone ss l r i = ap (λ (vs : List (Verdict Outcome)). get_or vs i no_script) (as-alone ss l r) ∙ alone_at ss r i

pub whatever-the-others-do : WhateverTheOthersDo
whatever-the-others-do ss ss' l l' i i' e r = one-alone ss l r i ∙ (ap (alone r) e ∙ sym (one-alone ss' l' r i'))

-- ONE SCRIPT OF THEM
had-first : (r p : ℕ) → had p r ≡ turns_had r p 0
unfolding turns_had
had-first r zero = refl
had-first r (suc p) = sym (rw (leb-suc-suc 0 p, leb-zero p))

had-later : (r p i : ℕ) → turns_had r (pred p) i ≡ turns_had r p (suc i)
unfolding turns_had
had-later r zero i = rw (leb-suc-zero i, leb-suc-zero (suc i)) refl
had-later r (suc p) i = rw (leb-suc-suc (suc i) p) refl

-- the script i in this moment: it stands in its share as its run alone does
pick :
    (i : ℕ) (h : Heap) (a p r : ℕ) (ss : List Script) (fs : List Station) → AllStand h a p r ss fs → i < length fs →
    Matches (station_at fs i).script h (record { first = a + total (take i (sizes fs)); size = (station_at fs i).size }) (turns_had r p i)
    (get_or (map (λ (s : Script). s.progress) ss) i (over no_script))
unfolding total
pick i h a p r ss [] A l = absurd (omega arith)
pick i h a p r [] (f ∷ fs) A l = absurd A
pick zero h a p r (s ∷ ss) (f ∷ fs) (S, A) l =
    let e : a ≡ a + 0 = omega arith in
    subst (λ (n : ℕ). Matches f.script h (record { first = n; size = f.size }) (turns_had r p 0) s.progress) e
    (subst (λ (n : ℕ). Matches f.script h (share_from a f) n s.progress) (had-first r p) S.matches)
pick (suc i) h a p r (s ∷ ss) (f ∷ fs) (S, A) l =
    let q : Progress = get_or (map (λ (s : Script). s.progress) ss) i (over no_script) in
    let n : ℕ = total (take i (sizes fs)) in
    let e : a + f.size + n ≡ a + (f.size + n) = omega arith in
    subst (λ (n : ℕ). Matches (station_at fs i).script h (record { first = n; size = (station_at fs i).size }) (turns_had r p (suc i)) q) e
    (subst (λ (k : ℕ). Matches (station_at fs i).script h (record { first = a + f.size + n; size = (station_at fs i).size }) k q) (had-later r p i)
    (pick i h (a + f.size) (pred p) r ss fs A (omega arith)))

pub matches-at :
    (ss : List Station) → SharesFit ss → (r p i : ℕ) → i < length ss →
    Matches (station_at ss i).script (moment (joint ss) r p).heap (share_of ss i) (turns_had r p i) (progress_in (moment (joint ss) r p) i)
matches-at ss l r p i b =
    let j : Joint = moment (joint ss) r p in
    let n : ℕ = total (take i (sizes ss)) in
    let e : 0 + n ≡ n = omega arith in
    subst
    (λ (n : ℕ).
    Matches (station_at ss i).script j.heap (record { first = n; size = (station_at ss i).size }) (turns_had r p i) (progress_in j i))
    e (pick i j.heap 0 p r j.scripts ss (moment-stands r p ss l).all b)

-- ONE STEP A ROUND
none-there : (h : Heap) (a p r : ℕ) (ss : List Script) (fs : List Station) → AllStand h a p r ss fs → (i : ℕ) → length fs ≤ i →
    get_or (map (λ (s : Script). s.progress) ss) i (over no_script) ≡ over no_script
none-there h a p r [] [] A i l = refl
none-there h a p r [] (f ∷ fs) A i l = absurd A
none-there h a p r (s ∷ ss) [] A i l = absurd A
none-there h a p r (s ∷ ss) (f ∷ fs) (S, A) zero l = absurd (omega arith)
none-there h a p r (s ∷ ss) (f ∷ fs) (S, A) (suc i) l = none-there h (a + f.size) (pred p) r ss fs A i (omega arith)

going-over : {g : Going} {v : Verdict Outcome} → going g ≡ over v → ⊥
going-over e = let z : ◌≡◌ {A = ℕ} 0 1 = cc in omega arith

pub step-each-round : StepEachRound
step-each-round ss l r p i g e =
    ⊎_elim
    (λ (b : i < length ss).
    (subst (Matches (station_at ss i).script (moment (joint ss) r p).heap (share_of ss i) (turns_had r p i)) e (matches-at ss l r p i b)).steps)
    (λ (b : length ss ≤ i).
    let j : Joint = moment (joint ss) r p in
    absurd (going-over (sym e ∙ none-there j.heap 0 p r j.scripts ss (moment-stands r p ss l).all i b)))
    (decide-lt i (length ss))

-- SHARES
pub one-heap : OneHeap
one-heap ss l r p = (moment-stands r p ss l).size

one-turn :
    (p : ℕ) (h : Heap) (a r : ℕ) (ss : List Script) (fs : List Station) → AllStand h a 0 r ss fs → (o : ℕ) →
    ((a + total (take p (sizes fs)) ≤ o) × (o < a + total (take (suc p) (sizes fs))) → ⊥) →
    get_or (turns (suc p) h ss).0 o [] ≡ get_or (turns p h ss).0 o []
unfolding turns total
one-turn zero h a r [] [] A o n = refl
one-turn (suc p) h a r [] [] A o n = refl
one-turn p h a r [] (f ∷ fs) A o n = absurd A
one-turn p h a r (s ∷ ss) [] A o n = absurd A
one-turn zero h a r (s ∷ ss) (f ∷ fs) (S, A) o n =
    outside (share_from a f) h (step_from h s.share s.progress).0 (first-turn h a r s f S).inside o
    (λ (x, y). n (omega (arith, x), omega (arith, y)))
one-turn (suc p) h a r (s ∷ ss) (f ∷ fs) (S, A) o n =
    let X = first-turn h a r s f S in
    let w : Heap = (step_from h s.share s.progress).0 in
    one-turn p w (a + f.size) r ss fs (below-changes h w (a + f.size) r ss fs X.inside.high X.inside.size A) o
    (λ (x, y). n (omega (arith, x), omega (arith, y)))

pub stays-in-share : StaysInShare
unfolding moment take_turns
stays-in-share ss l r p o n =
    let j : Joint = rounds r (joint ss) in
    one-turn p j.heap 0 r j.scripts ss (rounds-stand r (joint ss) ss (joint-begins ss l)).all o
    (λ (x, y). n (omega (arith, x), omega (arith, y)))
