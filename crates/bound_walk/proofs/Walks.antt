-- Laws of the route: a block that is left, a block that is entered, a ring; and of a walk from one method.
use mathlib.Core.Path.{◌≡◌, refl, sym, ap, ◌∙◌, subst}
use mathlib.Core.List.{List, [], ◌∷◌}
use mathlib.Core.Logic.{◌⊎◌, inl, inr, ⊎_elim}
use Prim.Native.Nat.{ℕ, zero, suc, ◌+◌, ◌-◌, ◌≤◌, ◌<◌}
use native.Mathlib.Omega.{arith}
use Rattle.std.specs.Prelude.{Option, Some}
use lib.ListN.{length, get_or, set, length-set, replicate}
use lib.Seq.{get_or-set_same, get_or-set_other}
use Rattle.rules.specs.Base.{Member}
use Rattle.rules.specs.Limits.{most_methods}
use Rattle.rules.specs.Syntax.{method_numbered}
use Rattle.rules.specs.Bounds.{Block, callees}
use Rattle.rules.proofs.Lists.{decide_eq}
use Rattle.tables.specs.Decode.{method_count, first_row_at, program_in}
use Rattle.tables.specs.Tables.{Tables}
use Rattle.bound_laws.specs.Routes.{block_at, calls, Reaches, directly, through}
use Rattle.bound_laws.proofs.Blocks.{method-block, bound-law, frames-law, frames-most}
use Rattle.bound_laws.proofs.Repeating.{no-ring, methods-loopless}
use Rattle.bound_rows.specs.Lines.{blocks_in}
use Rattle.bound_rows.proofs.Lines.{callees-there, blocks-count, block-there}
use Rattle.bound_walk.specs.declared.Visit.{Visit}
use Rattle.bound_walk.specs.declared.Visit.TheVariants.{NotVisited, OnRoute, Done}
use Rattle.bound_walk.specs.declared.Reckoned.{Reckoned}
use Rattle.bound_walk.specs.declared.Open.{Open}
use Rattle.bound_walk.specs.declared.Halt.TheVariants as Halts
use Rattle.bound_walk.specs.declared.Scanned.{Scanned}
use Rattle.bound_walk.specs.declared.Route.{Route}
use Rattle.bound_walk.specs.Counting.{cap, fresh}
use Rattle.bound_walk.specs.Walk.{Settled, settled, Right, Part, PartAt, Ended, Waits, NotDone, HasLoop, Stops, Scans, Keeps, no_open, is_new, new_ones, Walking, NoBound, Turned, left, into, waiting, begun, FreshAt, Rested}
use Rattle.bound_walk.proofs.Counted.{settled-clear, whole_part}

-- COUNTING THE METHODS THAT ARE NOT VISITED
new-set : (l : List Reckoned) (i : ℕ) (r : Reckoned) → i < length l →
    new_ones (set l i r) + is_new (get_or l i fresh).visit ≡ new_ones l + is_new r.visit
unfolding new_ones
new-set [] i r h = absurd (omega arith)
new-set (a ∷ l) zero r h = omega arith
new-set (a ∷ l) (suc i) r h = omega (arith, new-set l i r (omega arith))

new-within : (l : List Reckoned) → new_ones l ≤ length l
unfolding new_ones
new-within [] = omega arith
new-within (r ∷ l) = omega (arith, new-within l, one r.visit)
  where
    one : (v : Visit) → is_new v ≤ 1
    one NotVisited = omega arith
    one OnRoute = omega arith
    one (Done b) = omega arith

-- WHAT LEAVES NO BOUND
pub ring-unbounded : (w : List ℕ) (n : ℕ) → Reaches (blocks_in w) n n → NoBound w
ring-unbounded w n r e = no-ring (program_in w) e n r

pub loop-unbounded : (w : List ℕ) (n : ℕ) → HasLoop (block_at (blocks_in w) n) → NoBound w
loop-unbounded w n (r, i, t) e = methods-loopless (program_in w) e n r i t

-- THE TABLES
module _ (w : List ℕ) (tables : Tables w) where
  abbrev bs : List Block
  bs = blocks_in w

  -- a method that is called is there
  pub call_known : (m c : ℕ) → Member c (calls bs m) → c < method_count w
  call_known m c i =
      callees-there w tables (method_numbered (program_in w) m).first c (subst (λ b. Member c (callees b)) (method-block (program_in w) m) i)

  -- a block that is entered
  first_part :
      (c : ℕ) → c < method_count w → PartAt w (block_at bs c) (record { method = c; row = first_row_at w c; sum = 0; frames = 0 })
  first_part c h =
      (subst (λ b. Part bs (block_at bs c) b 0 0) (block-there w c h) (whole_part bs (block_at bs c)), (tables.method_fits c h).block.0)

  route-append : {a b c : ℕ} → Reaches bs a b → Member c (calls bs b) → Reaches bs a c
  route-append (directly j) i = through j (directly i)
  route-append (through j r) i = through j (route-append r i)

  -- ONE TURN, at the block on top
  module _ (r : Route) (W : Walking w r) (top : ℕ) (d : r.depth ≡ suc top) where
    abbrev o : Open
    o = get_or r.blocks top no_open

    abbrev whole : Block
    whole = block_at bs o.method

    -- a block of the route reaches the one on top, or is it
    on_chain :
        (j k : ℕ) → k + j ≡ top →
        ((get_or r.blocks k no_open).method ≡ o.method) ⊎ Reaches bs (get_or r.blocks k no_open).method o.method
    on_chain zero k e = inl (ap (λ k. (get_or r.blocks k no_open).method) (omega (arith, e)))
    on_chain (suc j) k e =
        let i : Member (get_or r.blocks (suc k) no_open).method (calls bs (get_or r.blocks k no_open).method) =
        W.chain k (omega (arith, e, d)) in
        inr
        (⊎_elim (λ q. directly (subst (λ n. Member n (calls bs (get_or r.blocks k no_open).method)) q i)) (λ s. through i s)
        (on_chain j (suc k) (omega (arith, e))))

    ring-found : (c : ℕ) → Member c (calls bs o.method) → (get_or r.marks c fresh).visit ≡ OnRoute → NoBound w
    ring-found c i e =
        let (k, l, q) = W.covered c e in
        ring-unbounded w c
        (⊎_elim
        (λ s. directly (subst (λ n. Member c (calls bs n)) (sym s ∙ q) i))
        (λ s. route-append (subst (λ n. Reaches bs n o.method) q s) i)
        (on_chain (top - k) k (omega (arith, l, d))))

    -- the block on top is done
    module _ (b : Open) (m : b.method ≡ o.method) (E : Ended bs whole b) where
      abbrev done : Reckoned
      done = record { visit = Done b.sum; frames = b.frames + 1 }

      abbrev done-marks : List Reckoned
      done-marks = set r.marks b.method done

      done-small : b.method < length r.marks
      done-small = omega (arith, m, W.exist top (omega (arith, d)), tables.methods, W.marks_length)

      done-counted : new_ones done-marks ≤ new_ones r.marks
      done-counted = omega (arith, new-set r.marks b.method done done-small)

      done_at : get_or done-marks b.method fresh ≡ done
      done_at = get_or-set_same r.marks b.method done fresh done-small

      done-other : (n : ℕ) → (n ≡ b.method → ⊥) → get_or done-marks n fresh ≡ get_or r.marks n fresh
      done-other n q = get_or-set_other r.marks b.method n done fresh q

      is-settled : Settled bs o.method
      is-settled = settled E.loopless E.settles

      done-right : Right bs b.method (get_or done-marks b.method fresh).visit (get_or done-marks b.method fresh).frames
      done-right =
          rw done_at
          (subst (λ m. Right bs m (Done b.sum) (b.frames + 1)) (sym m)
          (is-settled, E.sum ∙ ap cap (sym (bound-law bs o.method (settled-clear bs o.method is-settled))), E.frames ∙ sym (frames-law bs o.method (settled-clear bs o.method is-settled))))

      done-route : {v : ℕ} → Done v ≡ OnRoute → ⊥
      done-route e = cc

      done-covered : (n : ℕ) → (get_or done-marks n fresh).visit ≡ OnRoute → (k : ℕ) × (k < top) × ((get_or r.blocks k no_open).method ≡ n)
      done-covered n e =
          ⊎_elim
          (λ q. absurd (done-route (ap (λ (r : Reckoned). r.visit) (sym done_at) ∙ subst (λ n. (get_or done-marks n fresh).visit ≡ OnRoute) q e)))
          (λ q.
          let (k, l, s) = W.covered n (ap (λ (r : Reckoned). r.visit) (sym (done-other n q)) ∙ e) in
          (k, below k l (λ t. q (sym s ∙ ap (λ k. (get_or r.blocks k no_open).method) t ∙ sym m)), s))
          (decide_eq n b.method)
        where
          below : (k : ℕ) → k < r.depth → (k ≡ top → ⊥) → k < top
          below k l n = omega (arith, l, n, d)

      left-turned : Turned w r (Some (left r top b))
      unfolding left
      left-turned = (
        record {
          sound =
              λ n.
              ⊎_elim (λ e. subst (λ n. Right bs n (get_or done-marks n fresh).visit (get_or done-marks n fresh).frames) (sym e) done-right)
              (λ e. rw (done-other n e) (W.sound n))
              (decide_eq n b.method);
          parts = λ k l. W.parts k (omega (arith, l, d));
          exist = λ k l. W.exist k (omega (arith, l, d));
          chain = λ k l. W.chain k (omega (arith, l, d));
          covered = done-covered;
          room = omega (arith, W.room, done-counted, d);
          marks_length = length-set r.marks b.method done ∙ W.marks_length;
          blocks_length = W.blocks_length;
        },
        omega (arith, done-counted, d),
        λ n z.
            ⊎_elim (λ q. subst (λ n. is_new (get_or done-marks n fresh).visit ≡ 0) (sym q) (rw done_at refl)) (λ q. rw (done-other n q) z)
            (decide_eq n b.method),
      )

    -- the block on top waits for the method c, which is entered
    module _ (b : Open) (m : b.method ≡ o.method) (c : ℕ) (H : Waits w r.marks whole b c) (e : (get_or r.marks c fresh).visit ≡ NotVisited) where
      abbrev route : Reckoned
      route = record { visit = OnRoute; frames = 0 }

      abbrev entry : Open
      entry = record { method = c; row = first_row_at w c; sum = 0; frames = 0 }

      abbrev route-marks : List Reckoned
      route-marks = set r.marks c route

      abbrev route-blocks : List Open
      route-blocks = set (set r.blocks top b) (top + 1) entry

      known : c < method_count w
      known = call_known o.method c H.called

      small : c < length r.marks
      small = omega (arith, known, tables.methods, W.marks_length)

      counted : new_ones route-marks + 1 ≡ new_ones r.marks
      counted = omega (arith, new-set r.marks c route small, ap is_new e)

      has_room : top + 1 < most_methods
      has_room = omega (arith, W.room, counted, d)

      route-at : get_or route-marks c fresh ≡ route
      route-at = get_or-set_same r.marks c route fresh small

      route-other : (n : ℕ) → (n ≡ c → ⊥) → get_or route-marks n fresh ≡ get_or r.marks n fresh
      route-other n q = get_or-set_other r.marks c n route fresh q

      new-top : get_or route-blocks (top + 1) no_open ≡ entry
      new-top =
          get_or-set_same (set r.blocks top b) (top + 1) entry no_open (omega (arith, has_room, length-set r.blocks top b, W.blocks_length))

      old-top : get_or route-blocks top no_open ≡ b
      old-top =
          get_or-set_other (set r.blocks top b) (top + 1) top entry no_open (λ q. omega arith)
          ∙ get_or-set_same r.blocks top b no_open (omega (arith, has_room, W.blocks_length))

      old : (k : ℕ) → k < top → get_or route-blocks k no_open ≡ get_or r.blocks k no_open
      old k l =
          get_or-set_other (set r.blocks top b) (top + 1) k entry no_open (λ q. omega arith)
          ∙ get_or-set_other r.blocks top k b no_open (λ q. omega arith)

      at :
          (k : ℕ) → k < top + 2 → (Q : Open → Type 0) → Q entry → Q b → (k < top → Q (get_or r.blocks k no_open)) →
          Q (get_or route-blocks k no_open)
      at k l Q x y z =
          ⊎_elim
          (λ q. subst (λ k. Q (get_or route-blocks k no_open)) (sym q) (subst Q (sym new-top) x))
          (λ n.
          ⊎_elim
          (λ q. subst (λ k. Q (get_or route-blocks k no_open)) (sym q) (subst Q (sym old-top) y))
          (λ m. let h : k < top = less k l n m in subst Q (sym (old k h)) (z h))
          (decide_eq k top))
          (decide_eq k (top + 1))
        where
          less : (k : ℕ) → k < top + 2 → (k ≡ top + 1 → ⊥) → (k ≡ top → ⊥) → k < top
          less k l n m = omega (arith, l, n, m)

      -- the methods of the blocks below are what they were
      same-method : (k : ℕ) → k < suc top → (get_or route-blocks k no_open).method ≡ (get_or r.blocks k no_open).method
      same-method k l =
          ⊎_elim
          (λ q.
          subst (λ k. (get_or route-blocks k no_open).method ≡ (get_or r.blocks k no_open).method) (sym q)
          (ap (λ (o : Open). o.method) old-top ∙ m))
          (λ n. ap (λ (o : Open). o.method) (old k (less n)))
          (decide_eq k top)
        where
          less : (k ≡ top → ⊥) → k < top
          less n = omega (arith, l, n)

      route-chain : (k : ℕ) → suc k < top + 2 → Member (get_or route-blocks (suc k) no_open).method (calls bs (get_or route-blocks k no_open).method)
      route-chain k l =
          ⊎_elim
          (λ q.
          subst (λ n. Member n (calls bs (get_or route-blocks k no_open).method))
          (sym (ap (λ j. (get_or route-blocks j no_open).method) (is-top q) ∙ ap (λ (o : Open). o.method) new-top))
          (subst (λ n. Member c (calls bs n)) (sym (same-method k (omega (arith, q)) ∙ ap (λ j. (get_or r.blocks j no_open).method) q)) H.called))
          (λ n.
          subst (λ n. Member n (calls bs (get_or route-blocks k no_open).method)) (sym (same-method (suc k) (less n)))
          (subst (λ n. Member (get_or r.blocks (suc k) no_open).method (calls bs n)) (sym (same-method k (below n))) (W.chain k (deep n))))
          (decide_eq k top)
        where
          is-top : k ≡ top → suc k ≡ top + 1
          is-top q = omega (arith, q)

          less : (k ≡ top → ⊥) → suc k < suc top
          less n = omega (arith, l, n)

          below : (k ≡ top → ⊥) → k < suc top
          below n = omega (arith, l, n)

          deep : (k ≡ top → ⊥) → suc k < r.depth
          deep n = omega (arith, l, n, d)

      route-covered :
          (n : ℕ) → (get_or route-marks n fresh).visit ≡ OnRoute → (k : ℕ) × (k < top + 2) × ((get_or route-blocks k no_open).method ≡ n)
      route-covered n q =
          ⊎_elim
          (λ s. (top + 1, omega arith, ap (λ (o : Open). o.method) new-top ∙ sym s))
          (λ s.
          let (k, l, t) = W.covered n (ap (λ (r : Reckoned). r.visit) (sym (route-other n s)) ∙ q) in
          (k, omega (arith, l, d), same-method k (omega (arith, l, d)) ∙ t))
          (decide_eq n c)

      into-turned : Turned w r (Some (into r top b c (first_row_at w c)))
      unfolding into
      into-turned = (
        record {
          sound =
              λ n.
              ⊎_elim (λ q. subst (λ n. Right bs n (get_or route-marks n fresh).visit (get_or route-marks n fresh).frames) (sym q) (rw route-at tt))
              (λ q. rw (route-other n q) (W.sound n))
              (decide_eq n c);
          parts =
              λ k l.
              at k l (λ o. PartAt w (block_at bs o.method) o) (first_part c known)
              (subst (λ n. PartAt w (block_at bs n) b) (sym m) H.part) (λ h. W.parts k (omega (arith, h, d)));
          exist =
              λ k l.
              at k l (λ o. o.method < method_count w) known (omega (arith, m, W.exist top (omega (arith, d)))) (λ h. W.exist k (omega (arith, h, d)));
          chain = route-chain;
          covered = route-covered;
          room = omega (arith, W.room, counted, d);
          marks_length = length-set r.marks c route ∙ W.marks_length;
          blocks_length = length-set (set r.blocks top b) (top + 1) entry ∙ length-set r.blocks top b ∙ W.blocks_length;
        },
        omega (arith, counted, d),
        λ n z.
            ⊎_elim (λ q. subst (λ n. is_new (get_or route-marks n fresh).visit ≡ 0) (sym q) (rw route-at refl)) (λ q. rw (route-other n q) z)
            (decide_eq n c),
      )

    -- what a turn comes to
    waiting_turned :
        (b : Open) → b.method ≡ o.method → (c : ℕ) (v : Visit) → Waits w r.marks whole b c → (get_or r.marks c fresh).visit ≡ v →
        Turned w r (waiting r top b c (first_row_at w c) v)
    unfolding waiting
    waiting_turned b m c NotVisited H e = into-turned b m c H e
    waiting_turned b m c OnRoute H e = ring-found c H.called e
    waiting_turned b m c (Done n) H e = absurd (subst NotDone e H.not_done)

  -- THE TURN, as the code takes it
  module _ (r : Route) (W : Walking w r) (h : 0 < r.depth) (s : Scanned) (S : Scans w r.marks (get_or r.blocks (r.depth - 1) no_open) s) where
    abbrev top : ℕ
    top = r.depth - 1

    is-top : r.depth ≡ suc (r.depth - 1)
    is-top = omega (arith, h)

    abbrev top-block : Block
    top-block = block_at bs (get_or r.blocks top no_open).method

    stops : Stops w r.marks top-block s.block s.found
    stops = S.stops top-block (W.parts top (omega (arith, h)))

    ends : s.found ≡ Halts.End → Ended bs top-block s.block
    ends f = subst (λ f. Stops w r.marks top-block s.block f) f stops

    waits : (c : ℕ) → s.found ≡ Halts.Wait c → Waits w r.marks top-block s.block c
    waits c f = subst (λ f. Stops w r.marks top-block s.block f) f stops

    pub may-leave : s.found ≡ Halts.End → (s.block.method < most_methods) × (s.block.frames ≤ suc most_methods)
    may-leave f = (
      omega (arith, S.method, W.exist top (omega (arith, h)), tables.methods),
      omega (arith, (ends f).frames, frames-most bs top-block, blocks-count w, tables.methods),
    )

    pub may-wait : (c : ℕ) → s.found ≡ Halts.Wait c → (top < most_methods) × (c < most_methods)
    may-wait c f =
        (omega (arith, W.room, h), omega (arith, call_known (get_or r.blocks top no_open).method c (waits c f).called, tables.methods))

    pub turn-leaves : (r' : Route) → s.found ≡ Halts.End → r' ≡ left r top s.block → Turned w r (Some r')
    turn-leaves r' f q =
        subst (λ (r' : Route). Turned w r (Some r')) (sym q) (left-turned r W top is-top s.block S.method (ends f))

    pub turn-stops : s.found ≡ Halts.Loop → NoBound w
    turn-stops f =
        loop-unbounded w (get_or r.blocks top no_open).method (subst (λ f. Stops w r.marks top-block s.block f) f stops)

    pub turn-waits :
        (r' : Option Route) (c : ℕ) → s.found ≡ Halts.Wait c → r' ≡ waiting r top s.block c (first_row_at w c) (get_or r.marks c fresh).visit →
        Turned w r r'
    turn-waits r' c f q =
        subst (Turned w r) (sym q)
        (waiting_turned r W top is-top s.block S.method c (get_or r.marks c fresh).visit (waits c f) refl)

  -- A WALK BEGINS
  module _ (marks : List Reckoned) (R : Rested w marks) (start : ℕ) (f : FreshAt marks start) (h : start < method_count w) where
    abbrev start-route : Reckoned
    start-route = record { visit = OnRoute; frames = 0 }

    abbrev start-entry : Open
    start-entry = record { method = start; row = first_row_at w start; sum = 0; frames = 0 }

    start_small : start < length marks
    start_small = omega (arith, h, tables.methods, R.size)

    start-marked : get_or (set marks start start-route) start fresh ≡ start-route
    start-marked = get_or-set_same marks start start-route fresh start_small

    first_block : (k : ℕ) → k < 1 → (Q : Open → Type 0) → Q start-entry → Q (get_or (set (replicate 65 no_open) 0 start-entry) k no_open)
    first_block zero l Q q = q
    first_block (suc k) l Q q = absurd (omega arith)

    pub begun-walking : Walking w (begun marks start (first_row_at w start))
    unfolding begun
    begun-walking =
        record {
          sound =
              λ n.
              ⊎_elim
              (λ q.
              subst (λ n. Right bs n (get_or (set marks start start-route) n fresh).visit (get_or (set marks start start-route) n fresh).frames) (sym q)
              (rw start-marked tt))
              (λ q. rw (get_or-set_other marks start n start-route fresh q) (R.sound n))
              (decide_eq n start);
          parts = λ k l. first_block k l (λ o. PartAt w (block_at bs o.method) o) (first_part start h);
          exist = λ k l. first_block k l (λ o. o.method < method_count w) h;
          chain = λ k l. absurd (omega (arith, l));
          covered =
              λ n e.
              ⊎_elim
              (λ q. (0, omega arith, sym q))
              (λ q. absurd (R.idle n (ap (λ (r : Reckoned). r.visit) (sym (get_or-set_other marks start n start-route fresh q)) ∙ e)))
              (decide_eq n start);
          room = omega (arith, new-set marks start start-route start_small, ap is_new f, new-within marks, R.size);
          marks_length = length-set marks start start-route ∙ R.size;
          blocks_length = refl;
        }

    pub begun-keeps : Keeps marks (begun marks start (first_row_at w start)).marks
    unfolding begun
    begun-keeps n z =
        ⊎_elim
        (λ q. subst (λ n. is_new (get_or (set marks start start-route) n fresh).visit ≡ 0) (sym q) (rw start-marked refl))
        (λ q. rw (get_or-set_other marks start n start-route fresh q) z)
        (decide_eq n start)

    pub begun-start : is_new (get_or (begun marks start (first_row_at w start)).marks start fresh).visit ≡ 0
    unfolding begun
    begun-start = rw start-marked refl

  pub walk_ends : (r : Route) → Walking w r → r.depth ≡ 0 → Rested w r.marks
  walk_ends r W e =
      record { sound = W.sound; idle = λ n q. let (k, l, _) = W.covered n q in omega (arith, l, e); size = W.marks_length }

-- ALL METHODS
fresh-replicate : (k n : ℕ) → get_or (replicate k fresh) n fresh ≡ fresh
fresh-replicate zero n = refl
fresh-replicate (suc k) zero = refl
fresh-replicate (suc k) (suc n) = fresh-replicate k n

pub rested-first : (w : List ℕ) → Rested w (replicate 64 fresh)
rested-first w =
    record {
      sound = λ n. rw (fresh-replicate 64 n) tt;
      idle = λ n e. new-route (ap (λ (r : Reckoned). r.visit) (sym (fresh-replicate 64 n)) ∙ e);
      size = refl;
    }
  where
    new-route : NotVisited ≡ OnRoute → ⊥
    new-route e = cc

abbrev pub AllBelow : ℕ → List Reckoned → Type 0
AllBelow n marks = (i : ℕ) → i < n → is_new (get_or marks i fresh).visit ≡ 0
