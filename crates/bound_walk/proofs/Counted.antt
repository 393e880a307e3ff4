-- Laws of counting: methods that are reckoned, and a block that is counted row by row.
use mathlib.Core.Path.{◌≡◌, refl, sym, ap, ◌∙◌, subst}
use mathlib.Core.Bool.{false}
use mathlib.Core.List.{List, [], ◌∷◌}
use mathlib.Core.Logic.{⊎_elim}
use mathlib.Core.Option.{none, some}
use Prim.Native.Nat.{ℕ, suc, ◌+◌, ◌≤◌, ◌<◌, max}
use native.Mathlib.Omega.{arith}
use Rattle.std.specs.Prelude.{Ok, Err}
use native.Mathlib.Numerals.{add-one}
use lib.Dec.{T}
use lib.ListN.{get_or}
use Rattle.rules.specs.Base.{Member, at_head, further}
use Rattle.rules.specs.Limits.{most_bound}
use Rattle.rules.specs.Syntax.{Row, Program, row_numbered}
use Rattle.rules.specs.Bounds.{Block, is_end, called, is_loop, block, callees, greatest, method_bound, block_frames, method_frames}
use Rattle.rules.proofs.Lists.{head-or, came_from, went_to}
use Rattle.tables.specs.Decode.{row_count, program_in}
use Rattle.tables.specs.Tables.{Tables}
use Rattle.bound_laws.specs.Routes.{block_at, calls, Reaches, directly, through, Clear, Loopless}
use Rattle.bound_laws.proofs.Routes.{none_of}
use Rattle.bound_laws.proofs.Blocks.{block_goes, block-ends, block-first, callees-nil, callees-none, callees-some, bound-nil, bound-none, bound_some}
use Rattle.bound_rows.specs.declared.Line.{Line}
use Rattle.bound_rows.specs.declared.Line.TheVariants as Lines
use Rattle.bound_rows.specs.Lines.{line_in, Says, blocks_in}
use Rattle.bound_rows.proofs.Lines.{says, row-after, call-there}
use Rattle.bound_walk.specs.declared.Visit.{Visit}
use Rattle.bound_walk.specs.declared.Visit.TheVariants.{NotVisited, OnRoute, Done}
use Rattle.bound_walk.specs.declared.Reckoned.{Reckoned}
use Rattle.bound_walk.specs.declared.Open.{Open}
use Rattle.bound_walk.specs.declared.Halt.{Halt}
use Rattle.bound_walk.specs.declared.Halt.TheVariants.{Wait, Loop, End}
use Rattle.bound_walk.specs.Counting.{Looked, cap, fresh, looked_call, looked, stopped_at, BoundFits, Counts, CallFits}
use Rattle.bound_walk.specs.Walk.{Settled, settled, Right, SoundIn, Part, PartAt, Ended, NotDone, HasLoop, Scans}

-- METHODS
-- a route back from a settled method there is none
pub settled-itself : (bs : List Block) {n : ℕ} → Settled bs n → Reaches bs n n → ⊥
settled-itself bs S r = go S r refl
  where
    append : {a b c : ℕ} → Reaches bs a b → Member c (calls bs b) → Reaches bs a c
    append (directly j) i = through j (directly i)
    append (through j r) i = through j (append r i)

    -- a ring through n goes through the method that n calls on it
    go : {n m : ℕ} → Settled bs n → Reaches bs n m → m ≡ n → ⊥
    go (settled {n = n} l h) (directly {b = b} i) e = go (h b i) (directly (subst (λ n. Member b (calls bs n)) (sym e) i)) refl
    go (settled {n = n} l h) (through {b = b} {c = c} i r) e = go (h c i) (append r (subst (λ b. Member c (calls bs b)) (sym e) i)) refl

settled-reach : (bs : List Block) {n a : ℕ} → Settled bs n → Reaches bs n a → Settled bs a
settled-reach bs (settled l h) (directly i) = h _ i
settled-reach bs (settled l h) (through i r) = settled-reach bs (h _ i) r

pub settled-clear : (bs : List Block) (n : ℕ) → Settled bs n → Clear bs n
settled-clear bs n S = record { itself = settled-itself bs S; others = λ a r. settled-itself bs (settled-reach bs S r) }

pub settled-loopless : (bs : List Block) (n : ℕ) → Settled bs n → Loopless (block_at bs n)
settled-loopless bs n (settled l h) = l

right-fits : (bs : List Block) (n : ℕ) (v : Visit) (f : ℕ) → Right bs n v f → BoundFits v
right-fits bs n NotVisited f r = tt
right-fits bs n OnRoute f r = tt
right-fits bs n (Done b) f (_, e, _) = omega (arith, e)

sound-counts : (w : List ℕ) (marks : List Reckoned) (sum : ℕ) → SoundIn w marks → sum ≤ suc most_bound → Counts marks sum
sound-counts w marks sum S l =
    (l, λ n. right-fits (blocks_in w) n (get_or marks n fresh).visit (get_or marks n fresh).frames (S n))

-- A BLOCK
-- nothing is counted yet
pub whole_part : (bs : List Block) (b : Block) → Part bs b b 0 0
whole_part bs b =
    record {
      inside = λ r i. i;
      loopless = λ l. l;
      settles = λ s. s;
      sum_is = ap cap (omega arith);
      frames_is = omega arith;
      fits = omega arith;
    }

part-called : (bs : List Block) (whole rest : Block) (s f c : ℕ) → Part bs whole rest s f → Member c (callees rest) → Member c (callees whole)
unfolding callees
part-called bs whole rest s f c P m =
    let (r, i, e) = came_from (λ (r : Row). called r.stmt) rest c m in
    went_to (λ (r : Row). called r.stmt) whole r c e (P.inside r i)

module _ (bs : List Block) (whole : Block) (r : Row) (b : Block) where
  abbrev B : ℕ → ℕ
  B = method_bound bs

  -- no loop, so the rest decides
  row-loopless : is_loop r.stmt ≡ false → Loopless b → Loopless (r ∷ b)
  row-loopless e l q i t =
      ⊎_elim (λ j. l q j t) (λ w. subst T e (subst (λ (r : Row). T (is_loop r.stmt)) w t)) (head-or i)

  over_plain :
      (sum frames : ℕ) → called r.stmt ≡ none → is_loop r.stmt ≡ false → Part bs whole (r ∷ b) sum frames →
      Part bs whole b (cap (sum + 1)) frames
  over_plain sum frames e n P =
      let is : callees (r ∷ b) ≡ callees b = callees-none r b e in
      record {
        inside = λ q i. P.inside q (further i);
        loopless = λ l. P.loopless (row-loopless n l);
        settles = λ h. P.settles (λ c i. h c (subst (Member c) is i));
        sum_is = omega (arith, P.sum_is, bound-none r b B e);
        frames_is = rw is at P.frames_is;
        fits = omega arith;
      }

  over-call :
      (sum frames c v f : ℕ) → called r.stmt ≡ some c → is_loop r.stmt ≡ false → Settled bs c → v ≡ cap (B c) →
      f ≡ method_frames bs c → Part bs whole (r ∷ b) sum frames → Part bs whole b (cap (sum + 1 + v)) (max frames f)
  unfolding greatest
  over-call sum frames c v f e n S q s P =
      let is : callees (r ∷ b) ≡ c ∷ callees b = callees-some r b c e in
      record {
        inside = λ q i. P.inside q (further i);
        loopless = λ l. P.loopless (row-loopless n l);
        settles =
            λ h. P.settles (λ d i. ⊎_elim (λ j. h d j) (λ w. subst (Settled bs) (sym w) S) (head-or (subst (Member d) is i)));
        sum_is = omega (arith, P.sum_is, bound_some r b B c e, q);
        frames_is = omega (arith, (rw is at P.frames_is), s);
        fits = omega arith;
      }

-- the rest is one line that calls nothing
last_line :
    (bs : List Block) (whole : Block) (r : Row) (o : Open) (sum : ℕ) → called r.stmt ≡ none → is_loop r.stmt ≡ false →
    o.sum ≡ cap (sum + 1) → Part bs whole (r ∷ []) sum o.frames → Ended bs whole o
unfolding block_frames greatest
last_line bs whole r o sum e n q P =
    let is : callees (r ∷ []) ≡ [] = callees-none r [] e ∙ callees-nil in
    record {
      loopless = P.loopless (row-loopless bs whole r [] n (λ q i. elim i [ ]));
      settles = P.settles (λ c i. absurd (none_of is i));
      sum = omega (arith, q, P.sum_is, bound-none r [] (method_bound bs) e, bound-nil (method_bound bs));
      frames = omega (arith, (rw is at P.frames_is));
    }

-- A ROW OF THE TABLES
on-counts : {s f s' f' : ℕ} → ◌≡◌ {A = Looked} (Ok (s, f)) (Ok (s', f')) → (s ≡ s') × (f ≡ f')
on-counts {s} {f} {s'} {f'} e =
    let q : ◌≡◌ {A = ℕ × ℕ} (s, f) (s', f') = cc in
    (ap (λ (p : ℕ × ℕ). p.0) q, ap (λ (p : ℕ × ℕ). p.1) q)

call_fits : (w : List ℕ) → Tables w → (i : ℕ) → i < row_count w → (v : Line) → v ≡ line_in w i → CallFits v
call_fits w tables i l Lines.Plain e = tt
call_fits w tables i l (Lines.Call c) e = omega (arith, call-there w tables i l c (sym e), tables.methods)
call_fits w tables i l Lines.Loop e = tt
call_fits w tables i l Lines.End e = tt

module _ (w : List ℕ) (tables : Tables w) (marks : List Reckoned) (sound : SoundIn w marks) (i : ℕ) (l : i < row_count w) (sum frames : ℕ) where
  abbrev bs : List Block
  bs = blocks_in w

  abbrev P : Program
  P = program_in w

  abbrev stmt_says : (v : Line) → line_in w i ≡ v → Says v (row_numbered P i).stmt
  stmt_says v e = subst (λ v. Says v (row_numbered P i).stmt) e (says (row_numbered P i).stmt)

  module _ (whole : Block) (part : Part bs whole (block P i) sum frames) where
    goes : is_end (row_numbered P i).stmt ≡ false → Part bs whole (row_numbered P i ∷ block P (suc i)) sum frames
    goes e = subst (λ b. Part bs whole b sum frames) (block_goes P i e) part

    -- it is counted
    counted-on :
        (v : Line) → line_in w i ≡ v → (s f : ℕ) → Ok (s, f) ≡ looked marks v sum frames → Part bs whole (block P (suc i)) s f
    unfolding looked looked_call
    counted-on Lines.Plain e s f q =
        let (a, b, c) = stmt_says Lines.Plain e in
        let (x, y) = on-counts q in
        rw (x, y) (over_plain bs whole (row_numbered P i) (block P (suc i)) sum frames b c (goes a))
    counted-on (Lines.Call c) e s f q = call (get_or marks c fresh).visit (get_or marks c fresh).frames (sound c) q
      where
        call : (v : Visit) (k : ℕ) → Right bs c v k → Ok (s, f) ≡ looked_call v k c sum frames → Part bs whole (block P (suc i)) s f
        call NotVisited k r q = absurd cc
        call OnRoute k r q = absurd cc
        call (Done b) k (S, m, n) q =
            let (x, y, z) = stmt_says (Lines.Call c) e in
            let (g, h) = on-counts q in
            rw (g, h) (over-call bs whole (row_numbered P i) (block P (suc i)) sum frames c b k y z S m n (goes x))
    counted-on Lines.Loop e s f q = absurd cc
    counted-on Lines.End e s f q = absurd cc

    -- it calls a method that is not done
    waits-for :
        (v : Line) → line_in w i ≡ v → (c : ℕ) → Err (Wait c) ≡ looked marks v sum frames →
        Member c (callees whole) × NotDone (get_or marks c fresh).visit
    unfolding looked looked_call
    waits-for Lines.Plain e c q = absurd cc
    waits-for (Lines.Call d) e c q = call (get_or marks d fresh).visit refl q
      where
        same : {a b : ℕ} → ◌≡◌ {A = Looked} (Err (Wait a)) (Err (Wait b)) → a ≡ b
        same e = cc

        calls-it : (v : Visit) → (get_or marks d fresh).visit ≡ v → NotDone v → c ≡ d → Member c (callees whole) × NotDone (get_or marks c fresh).visit
        calls-it v g n h =
            let (x, y, z) = stmt_says (Lines.Call d) e in (
              part-called bs whole _ sum frames c (goes x)
                  (subst (Member c) (sym (callees-some (row_numbered P i) (block P (suc i)) d y)) (subst (λ k. Member c (k ∷ callees (block P (suc i)))) h at_head)),
              subst (λ k. NotDone (get_or marks k fresh).visit) (sym h) (subst NotDone (sym g) n),
            )

        call :
            (v : Visit) → (get_or marks d fresh).visit ≡ v → Err (Wait c) ≡ looked_call v (get_or marks d fresh).frames d sum frames →
            Member c (callees whole) × NotDone (get_or marks c fresh).visit
        call NotVisited g q = calls-it NotVisited g tt (same q)
        call OnRoute g q = calls-it OnRoute g tt (same q)
        call (Done b) g q = absurd cc
    waits-for Lines.Loop e c q = absurd cc
    waits-for Lines.End e c q = absurd cc

    has-loop : (v : Line) → line_in w i ≡ v → Err Loop ≡ looked marks v sum frames → HasLoop whole
    unfolding looked looked_call
    has-loop Lines.Plain e q = absurd cc
    has-loop (Lines.Call c) e q = absurd (no_call (get_or marks c fresh).visit q)
      where
        no_call : (v : Visit) → Err Loop ≡ looked_call v (get_or marks c fresh).frames c sum frames → ⊥
        no_call NotVisited q = cc
        no_call OnRoute q = cc
        no_call (Done b) q = cc
    has-loop Lines.Loop e q =
        let (_, _, t) = stmt_says Lines.Loop e in
        (row_numbered P i, part.inside (row_numbered P i) (block-first P i), subst T (sym t) tt)
    has-loop Lines.End e q = absurd cc

    counted-out :
        (v : Line) → line_in w i ≡ v → Err End ≡ looked marks v sum frames → (o : Open) → o.sum ≡ cap (sum + 1) → o.frames ≡ frames →
        Ended bs whole o
    unfolding looked looked_call
    counted-out Lines.Plain e q o s f = absurd cc
    counted-out (Lines.Call c) e q o s f = absurd (no_call (get_or marks c fresh).visit q)
      where
        no_call : (v : Visit) → Err End ≡ looked_call v (get_or marks c fresh).frames c sum frames → ⊥
        no_call NotVisited q = cc
        no_call OnRoute q = cc
        no_call (Done b) q = cc
    counted-out Lines.Loop e q o s f = absurd cc
    counted-out Lines.End e q o s f =
        let (a, b, c) = stmt_says Lines.End e in
        last_line bs whole (row_numbered P i) o sum b c s
        (rw f (subst (λ b. Part bs whole b sum frames) (block-ends P i a) part))

  -- only an `end` stops the counting for good
  row-follows : (v : Line) → line_in w i ≡ v → (s f : ℕ) → Ok (s, f) ≡ looked marks v sum frames → suc i < row_count w
  unfolding looked looked_call
  row-follows v e s f q = row-after w tables i l (λ x. not_end v (sym e ∙ x) q)
    where
      not_end : (v : Line) → v ≡ Lines.End → Ok (s, f) ≡ looked marks v sum frames → ⊥
      not_end v x q = go (subst (λ v. Ok (s, f) ≡ looked marks v sum frames) x q)
        where
          go : Ok (s, f) ≡ looked marks Lines.End sum frames → ⊥
          go q = cc

  sum_fits : (v : Line) (s f : ℕ) → Ok (s, f) ≡ looked marks v sum frames → s ≤ suc most_bound
  unfolding looked looked_call
  sum_fits Lines.Plain s f q = omega (arith, (on-counts q).0)
  sum_fits (Lines.Call c) s f q = call (get_or marks c fresh).visit q
    where
      call : (v : Visit) → Ok (s, f) ≡ looked_call v (get_or marks c fresh).frames c sum frames → s ≤ suc most_bound
      call (Done b) q = omega (arith, (on-counts q).0)
      call NotVisited q = absurd cc
      call OnRoute q = absurd cc
  sum_fits Lines.Loop s f q = absurd cc
  sum_fits Lines.End s f q = absurd cc

-- SCANNING
-- o, counted on up to the row
pub record Scanning (w : List ℕ) (o : Open) (row sum frames : ℕ) : Type 0 where
  pub within : row < row_count w
  pub fits : sum ≤ suc most_bound
  pub part : (whole : Block) → PartAt w whole o → Part (blocks_in w) whole (block (program_in w) row) sum frames

module _ (w : List ℕ) (tables : Tables w) (marks : List Reckoned) (sound : SoundIn w marks) (o : Open) (row sum frames : ℕ)
    (I : Scanning w o row sum frames) (v : Line) (e : v ≡ line_in w row) where
  pub may-look : CallFits v × Counts marks sum
  may-look = (call_fits w tables row I.within v e, sound-counts w marks sum sound I.fits)

  module _ (k : Looked) (h : k ≡ looked marks v sum frames) where
    pub scan-on : (s f n : ℕ) → k ≡ Ok (s, f) → n ≡ row + 1 → Scanning w o n s f
    scan-on s f n q r =
        let g : Ok (s, f) ≡ looked marks v sum frames = sym q ∙ h in
        rw (r, add-one row)
        (record {
          within = row-follows w tables marks sound row I.within sum frames v (sym e) s f g;
          fits = sum_fits w tables marks sound row I.within sum frames v s f g;
          part = λ whole p. counted-on w tables marks sound row I.within sum frames whole (I.part whole p) v (sym e) s f g;
        })

    pub scan-stops : (f : Halt) → k ≡ Err f → Scans w marks o (stopped_at o row sum frames f)
    unfolding stopped_at
    scan-stops (Wait c) q =
        record {
          method = refl;
          stops =
              λ whole p.
              let (m, n) = waits-for w tables marks sound row I.within sum frames whole (I.part whole p) v (sym e) c (sym q ∙ h) in
              record { part = (I.part whole p, I.within); called = m; not_done = n };
        }
    scan-stops Loop q =
        record {
          method = refl;
          stops = λ whole p. has-loop w tables marks sound row I.within sum frames whole (I.part whole p) v (sym e) (sym q ∙ h);
        }
    scan-stops End q =
        record {
          method = refl;
          stops =
              λ whole p. counted-out w tables marks sound row I.within sum frames whole (I.part whole p) v (sym e) (sym q ∙ h) _ refl refl;
        }
