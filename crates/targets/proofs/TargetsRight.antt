-- The walk gives each `if` the row after its `else`, each `else` its `join`, each `loop` the row after its `again`, and each `again` its
-- `loop`.
use mathlib.Core.Path.{◌≡◌, refl, sym, ap, ◌∙◌, subst}
use mathlib.Core.Bool.{Bool, true, false, cond, ◌&&◌}
use mathlib.Core.List.{List, [], ◌∷◌}
use mathlib.Core.Logic.{◌⊎◌, inl, inr, ⊎_elim}
use Prim.Native.Nat.{ℕ, zero, suc, pred, ◌+◌, ◌≤◌, ◌<◌}
use native.Mathlib.Numerals.{add-one}
use native.Mathlib.Omega.{arith}
use lib.Dec.{T, ltb, eqb, eqb→eq}
use lib.ListN.{length, get_or, drop, drop_of_length-le}
use lib.Seq.{drop-cons}
use native.Mathlib.Decide.{dec_lt}
use Rattle.rules.specs.Base.{Member, at_head, further}
use Rattle.rules.specs.Syntax.{Simple, Stmt, Row, simple, return, else, join, again, end, no_row}
use Rattle.rules.specs.Machine as Machine
use Rattle.rules.specs.Machine.{depth_after, closes, seek, closing, open_at, loop_of}
use Rattle.rules.proofs.Lists.{head-or, decide_eq, and_both, T_true}
use Rattle.tables.proofs.BytesRead.{Outside, put-half-byte, half-put}
use Rattle.tables.proofs.Runs.{run_length}
use Rattle.tables.proofs.Rows.{rows-cons}
use Rattle.tables.proofs.Statements.{if-means, else-means, join-means, loop-means, again-means, no-branch}
use Rattle.tables.specs.Decode.{kind_at, target_at, row_place, operands_at, formula_at, stmt_at, row_at, rows_from}
use Rattle.targets.proofs.Stacks.{open-at-if, open-at-else, open-at-join, open-at-loop, open-at-again, open-elsewhere, closed-at-else, closed-at-join, closed-at-again, work-elsewhere, put-length}
use Rattle.targets.specs.Targets.{open_after, work_after, targets_from, pushed, popped, replaced, put_target}
use Rattle.nesting.specs.Nests.{Wait, for_else, for_join, for_again, row_nests, rows_nest}
use Rattle.targets.specs.Right.{TargetRight}

-- SEEKING PAST A ROW

-- a row that is not what is sought here
pub seek-past :
    (d j : ℕ) (r : Row) (rs : List Row) → (T (closes r.stmt) → d ≡ 0 → ⊥) →
    seek d j (r ∷ rs) ≡ seek (depth_after r.stmt d) (suc j) rs
unfolding seek
seek-past d j r rs n = go (closes r.stmt) (eqb d 0) refl refl
  where
    go :
        (a b : Bool) → a ≡ closes r.stmt → b ≡ eqb d 0 →
        cond (a && b) j (seek (depth_after r.stmt d) (suc j) rs) ≡ seek (depth_after r.stmt d) (suc j) rs
    go true true x y = absurd (n (subst T x tt) (eqb→eq d 0 (subst T y tt)))
    go true false x y = refl
    go false b x y = refl

seek-here : (j : ℕ) (r : Row) (rs : List Row) → T (closes r.stmt) → seek 0 j (r ∷ rs) ≡ j
unfolding seek
seek-here j r rs t = go (closes r.stmt) t
  where
    go : (a : Bool) → T a → cond (a && true) j (seek (depth_after r.stmt 0) (suc j) rs) ≡ j
    go true t = refl
    go false t = absurd t

-- WHAT AN OPEN BRANCH OR LOOP WAITS FOR

-- Of the rows rs, rest is still to come, from number n on. An open `if`, with j branches and loops inside it, waits for its `else`, an open
-- `else` for its `join`, an open `loop` for its `again`.
module _ (w : List ℕ) (rs : List Row) where
  kind_of : Wait → ℕ
  kind_of for_else = 15
  kind_of for_join = 16
  kind_of for_again = 21

  abbrev Waiting : ℕ → List Row → ℕ → List Wait → List ℕ → Type 0
  Waiting n rest j [] [] = Unit {0}
  Waiting n rest j [] (i ∷ st) = ⊥
  Waiting n rest j (v ∷ ws) [] = ⊥
  Waiting n rest j (v ∷ ws) (i ∷ st) =
      (i < length rs) × (kind_at w i ≡ kind_of v) × (closing rs i ≡ seek j n rest) × Waiting n rest (suc j) ws st

  waiting-length : (n : ℕ) (rest : List Row) (j : ℕ) (ws : List Wait) (st : List ℕ) → Waiting n rest j ws st → length st ≡ length ws
  waiting-length n rest j [] [] W = refl
  waiting-length n rest j [] (i ∷ st) W = absurd W
  waiting-length n rest j (v ∷ ws) [] W = absurd W
  waiting-length n rest j (v ∷ ws) (i ∷ st) W = ap suc (waiting-length n rest (suc j) ws st W.3)

  -- a row r is passed at depth l, after which the depth is d l
  pub record Passes (s : Stmt) (d : ℕ → ℕ) (l : ℕ) : Type 0 where
    pub depth : depth_after s l ≡ d l
    pub no-close : T (closes s) → l ≡ 0 → ⊥
    pub deeper : d (suc l) ≡ suc (d l)

  waiting-past :
      (n : ℕ) (r : Row) (rest : List Row) (d : ℕ → ℕ) (j : ℕ) (ws : List Wait) (st : List ℕ) →
      ((l : ℕ) → j ≤ l → Passes r.stmt d l) → Waiting n (r ∷ rest) j ws st → Waiting (suc n) rest (d j) ws st
  waiting-past n r rest d j [] [] H W = tt
  waiting-past n r rest d j [] (i ∷ st) H W = W
  waiting-past n r rest d j (v ∷ ws) [] H W = absurd W
  waiting-past n r rest d j (v ∷ ws) (i ∷ st) H W =
      let h = H j (omega arith) in (
        W.0,
        W.1,
        W.2 ∙ (seek-past j n r rest h.no-close ∙ ap (λ (l : ℕ). seek l (suc n) rest) h.depth),
        subst (λ l. Waiting (suc n) rest l ws st) h.deeper
            (waiting-past n r rest d (suc j) ws st (λ l g. H l (omega (arith, g))) W.3),
      )

-- a row that opens and closes no branch and no loop
data Quiet : Stmt → Type 0 where
  is-simple : {p : Simple} → Quiet (simple p)
  is-return : {x : ℕ} → Quiet (return x)
  is-end : Quiet end

quiet_row :
    (w : List ℕ) (i : ℕ) → (kind_at w i ≡ 15 → ⊥) → (kind_at w i ≡ 16 → ⊥) → (kind_at w i ≡ 17 → ⊥) → (kind_at w i ≡ 21 → ⊥) →
    (kind_at w i ≡ 22 → ⊥) → Quiet (stmt_at w i)
quiet_row w i a b d e f = no-branch w (operands_at w i) Quiet (λ p. is-simple) (λ x. is-return) is-end a b d e f

-- STORES OF A TARGET
module _ (w : List ℕ) (t v : ℕ) where
  -- no other column and no other row changes
  put-kind : (i : ℕ) → kind_at (put_target w t v) i ≡ kind_at w i
  unfolding put_target
  put-kind i = put-half-byte w (row_place t + 10) v (row_place i) (go (dec_lt i (suc t)))
    where
      go : Dec (i < suc t) → Outside (row_place t + 10) 2 (row_place i)
      go (yes l) = inl (omega (arith, l))
      go (no n) = inr (omega (arith, n))

  put-target-other : (i : ℕ) → (i ≡ t → ⊥) → target_at (put_target w t v) i ≡ target_at w i
  unfolding put_target
  put-target-other i n = go (dec_lt i t)
    where
      go : Dec (i < t) → target_at (put_target w t v) i ≡ target_at w i
      go (yes l) =
          omega (
            arith,
            put-half-byte w (row_place t + 10) v (row_place i + 10) (inl (omega (arith, l))),
            put-half-byte w (row_place t + 10) v (row_place i + 10 + 1) (inl (omega (arith, l))),
          )
      go (no m) =
          let k : t < i = omega (arith, m, n) in
          omega (
            arith,
            put-half-byte w (row_place t + 10) v (row_place i + 10) (inr (omega (arith, k))),
            put-half-byte w (row_place t + 10) v (row_place i + 10 + 1) (inr (omega (arith, k))),
          )

  put-target-same : length w ≡ 65536 → t < 256 → v < 65536 → target_at (put_target w t v) t ≡ v
  unfolding put_target
  put-target-same l a b = half-put w (row_place t + 10) v (omega (arith, l, a)) b

-- THE WALK

-- w₀: the area before; rs: its n rows
module _ (w₀ : List ℕ) (rs : List Row) (few : length rs ≤ 256) (row : (i : ℕ) → i < length rs → drop i rs ≡ row_at w₀ i ∷ drop (suc i) rs) where
  -- before row k: the kinds are the same; what is open is what the definition says, and waits; the other rows above go on where they should
  record Walked (w : List ℕ) (k : ℕ) (b : Bool) (ws : List Wait) (st : List ℕ) : Type 0 where
    size : length w ≡ 65536
    kinds : (i : ℕ) → kind_at w i ≡ kind_at w₀ i
    nests : T (rows_nest b ws (drop k rs))
    waits : Waiting w₀ rs k (drop k rs) 0 ws st
    opened : open_at rs k ≡ st
    right : (i : ℕ) → i < k → Member i st ⊎ TargetRight w rs i

  nests-row : (k : ℕ) (b : Bool) (ws : List Wait) → k < length rs → T (rows_nest b ws (drop k rs)) → T (row_nests (stmt_at w₀ k) ws (λ b ws. rows_nest b ws (drop (suc k) rs)))
  unfolding rows_nest row_at
  nests-row k b ws l t = subst (λ (r : List Row). T (rows_nest b ws r)) (row k l) t

  waits-row : (k : ℕ) (ws : List Wait) (st : List ℕ) → k < length rs → Waiting w₀ rs k (drop k rs) 0 ws st → Waiting w₀ rs k (row_at w₀ k ∷ drop (suc k) rs) 0 ws st
  waits-row k ws st l W = subst (λ (r : List Row). Waiting w₀ rs k r 0 ws st) (row k l) W

  open_next :
      (k : ℕ) (s : Stmt) (is : List ℕ) → k < length rs → stmt_at w₀ k ≡ s → open_at rs k ≡ is → open_at rs (suc k) ≡ Machine.open_after s k is
  unfolding open_at row_at
  open_next k s is l e o =
      let g : get_or rs k no_row ≡ row_at w₀ k = ap (λ (r : List Row). get_or r 0 no_row) (sym (drop-cons rs k no_row l) ∙ row k l) in
      rw (ap (λ (r : Row). r.stmt) g ∙ e, o)

  -- more rows follow one that does not end a block
  more_rows : (k : ℕ) (ws : List Wait) → T (rows_nest false ws (drop (suc k) rs)) → suc k < length rs
  unfolding rows_nest
  more_rows k ws t = go (dec_lt (suc k) (length rs))
    where
      none : (ws : List Wait) → T (rows_nest false ws []) → ⊥
      none [] t = t
      none (v ∷ ws) t = t

      go : Dec (suc k < length rs) → suc k < length rs
      go (yes l) = l
      go (no n) = absurd (none ws (subst (λ (r : List Row). T (rows_nest false ws r)) (drop_of_length-le rs {i = suc k} (omega (arith, n))) t))

  -- what is open below row k, once it is passed
  waits-past :
      (k : ℕ) (d : ℕ → ℕ) (j : ℕ) (ws : List Wait) (st : List ℕ) → ((l : ℕ) → j ≤ l → Passes w₀ rs (stmt_at w₀ k) d l) →
      Waiting w₀ rs k (row_at w₀ k ∷ drop (suc k) rs) j ws st → Waiting w₀ rs (suc k) (drop (suc k) rs) (d j) ws st
  unfolding row_at
  waits-past k d j ws st H W = waiting-past w₀ rs k (row_at w₀ k) (drop (suc k) rs) d j ws st H W

  -- OPENING: `if` and `loop`
  abbrev Opens : ℕ → Type 0
  Opens k = (kind_at w₀ k ≡ 15) ⊎ (kind_at w₀ k ≡ 21)

  wait_at : (k : ℕ) → Opens k → Wait
  wait_at k (inl e) = for_else
  wait_at k (inr e) = for_again

  wait-kind : (k : ℕ) (o : Opens k) → kind_at w₀ k ≡ kind_of w₀ rs (wait_at k o)
  unfolding wait_at kind_of
  wait-kind k (inl e) = e
  wait-kind k (inr e) = e

  opens-passes : (k : ℕ) → Opens k → (l : ℕ) → Passes w₀ rs (stmt_at w₀ k) suc l
  unfolding depth_after closes
  opens-passes k (inl e) l =
      subst (λ (s : Stmt). Passes w₀ rs s suc l) (sym (if-means w₀ (operands_at w₀ k) e))
      (record { depth = refl; no-close = λ t. absurd t; deeper = refl })
  opens-passes k (inr e) l =
      subst (λ (s : Stmt). Passes w₀ rs s suc l) (sym (loop-means w₀ (operands_at w₀ k) e))
      (record { depth = refl; no-close = λ t. absurd t; deeper = refl })

  opens-nests :
      (k : ℕ) (b : Bool) (ws : List Wait) (o : Opens k) → k < length rs → T (rows_nest b ws (drop k rs)) →
      T (ltb (length ws) 4) × T (rows_nest false (wait_at k o ∷ ws) (drop (suc k) rs))
  unfolding row_nests wait_at
  opens-nests k b ws (inl e) l t =
      and_both (ltb (length ws) 4) _
      (subst (λ (s : Stmt). T (row_nests s ws (λ b ws. rows_nest b ws (drop (suc k) rs)))) (if-means w₀ (operands_at w₀ k) e) (nests-row k b ws l t))
  opens-nests k b ws (inr e) l t =
      and_both (ltb (length ws) 4) _
      (subst (λ (s : Stmt). T (row_nests s ws (λ b ws. rows_nest b ws (drop (suc k) rs)))) (loop-means w₀ (operands_at w₀ k) e) (nests-row k b ws l t))

  opens-next : (k : ℕ) (is : List ℕ) → Opens k → k < length rs → open_at rs k ≡ is → open_at rs (suc k) ≡ k ∷ is
  unfolding Machine.open_after
  opens-next k is (inl e) l p = open_next k _ is l (if-means w₀ (operands_at w₀ k) e) p
  opens-next k is (inr e) l p = open_next k _ is l (loop-means w₀ (operands_at w₀ k) e) p

  after-opening :
      (w : List ℕ) (k : ℕ) (b : Bool) (ws : List Wait) (st : List ℕ) (o : Opens k) → k < length rs → Walked w k b ws st →
      Walked w (suc k) false (wait_at k o ∷ ws) (k ∷ st)
  unfolding closing
  after-opening w k b ws st o l X =
      record {
        size = X.size;
        kinds = X.kinds;
        nests = (opens-nests k b ws o l X.nests).1;
        waits = (
          l,
          wait-kind k o,
          refl,
          waits-past k suc 0 ws st (λ l g. opens-passes k o l) (waits-row k ws st l X.waits),
        );
        opened = opens-next k st o l X.opened;
        right = λ i g. new i g (decide_eq i k);
      }
    where
      new : (i : ℕ) → i < suc k → (i ≡ k) ⊎ (i ≡ k → ⊥) → Member i (k ∷ st) ⊎ TargetRight w rs i
      new i g (inl h) = inl (subst (λ (j : ℕ). Member i (j ∷ st)) h at_head)
      new i g (inr h) = ⊎_elim (λ m. inl (further m)) inr (X.right i (omega (arith, g, h)))

  -- a quiet row
  quiet-passes : (s : Stmt) → Quiet s → (l : ℕ) → Passes w₀ rs s (λ l. l) l
  unfolding depth_after closes
  quiet-passes s is-simple l = record { depth = refl; no-close = λ t. absurd t; deeper = refl }
  quiet-passes s is-return l = record { depth = refl; no-close = λ t. absurd t; deeper = refl }
  quiet-passes s is-end l = record { depth = refl; no-close = λ t. absurd t; deeper = refl }

  quiet-nests :
      (s : Stmt) (ws : List Wait) (k : Bool → List Wait → Bool) → Quiet s → T (row_nests s ws k) → (b : Bool) × T (k b ws)
  unfolding row_nests
  quiet-nests s ws k is-simple t = (false, t)
  quiet-nests s ws k is-return t = (false, t)
  quiet-nests s [] k is-end t = (true, t)
  quiet-nests s (v ∷ ws) k is-end t = absurd t

  quiet-open : (s : Stmt) (k : ℕ) (is : List ℕ) → Quiet s → Machine.open_after s k is ≡ is
  unfolding Machine.open_after
  quiet-open s k is is-simple = refl
  quiet-open s k is is-return = refl
  quiet-open s k is is-end = refl

  -- a row that goes to no other
  no_target :
      (w : List ℕ) (i : ℕ) → (kind_at w i ≡ 15 → ⊥) → (kind_at w i ≡ 16 → ⊥) → (kind_at w i ≡ 21 → ⊥) → (kind_at w i ≡ 22 → ⊥) →
      TargetRight w rs i
  no_target w i a b d e =
      record { past = λ o. ⊎_elim (λ f. absurd (a f)) (λ f. absurd (d f)) o; to_join = λ f. absurd (b f); to_loop = λ f. absurd (e f) }

  after-quiet :
      (w : List ℕ) (k : ℕ) (b : Bool) (ws : List Wait) (st : List ℕ) → k < length rs → Quiet (stmt_at w₀ k) → TargetRight w rs k →
      Walked w k b ws st → (b' : Bool) × Walked w (suc k) b' ws st
  after-quiet w k b ws st l q R X =
      let (b', t) = quiet-nests (stmt_at w₀ k) ws _ q (nests-row k b ws l X.nests) in (
        b',
        record {
          size = X.size;
          kinds = X.kinds;
          nests = t;
          waits = waits-past k (λ l. l) 0 ws st (λ l g. quiet-passes (stmt_at w₀ k) q l) (waits-row k ws st l X.waits);
          opened = open_next k (stmt_at w₀ k) st l refl X.opened ∙ quiet-open (stmt_at w₀ k) k st q;
          right = λ i g. ⊎_elim (λ h. inr (subst (TargetRight w rs) (sym h) R)) (λ h. X.right i (omega (arith, g, h))) (decide_eq i k);
        },
      )

  -- STORES: row t, which was open, goes on to row v
  module _ (w : List ℕ) (t v : ℕ) (size : length w ≡ 65536) (small : t < 256) (inside : v < length rs) where
    stored : List ℕ
    stored = put_target w t v

    stored-kinds : ((i : ℕ) → kind_at w i ≡ kind_at w₀ i) → (i : ℕ) → kind_at stored i ≡ kind_at w₀ i
    unfolding stored
    stored-kinds h i = put-kind w t v i ∙ h i

    stored-size : length stored ≡ 65536
    unfolding stored
    stored-size = put-length w t v ∙ size

    stored-target : target_at stored t ≡ v
    unfolding stored
    stored-target = put-target-same w t v size small (omega (arith, few, inside))

    other-right : (i : ℕ) → (i ≡ t → ⊥) → TargetRight w rs i → TargetRight stored rs i
    unfolding stored
    other-right i n R =
        let k = put-kind w t v i in
        let g = put-target-other w t v i n in
        record {
          past =
              λ e.
              let (a, b) = R.past (subst (λ (c : ℕ). (c ≡ 15) ⊎ (c ≡ 21)) k e) in
              (omega (arith, a, g), g ∙ b);
          to_join =
              λ e.
              let (a, b) = R.to_join (sym k ∙ e) in
              (omega (arith, a, g), g ∙ b);
          to_loop =
              λ e.
              let (a, b) = R.to_loop (sym k ∙ e) in
              (omega (arith, a, g), g ∙ b);
        }

    module _ (h : (i : ℕ) → kind_at w i ≡ kind_at w₀ i) where
      past-right : Opens t → v ≡ suc (closing rs t) → TargetRight stored rs t
      past-right o d =
          record {
            past = λ f. (omega (arith, inside, stored-target), stored-target ∙ d);
            to_join = λ f. ⊎_elim (λ e. absurd (omega (arith, f, e, stored-kinds h t))) (λ e. absurd (omega (arith, f, e, stored-kinds h t))) o;
            to_loop = λ f. ⊎_elim (λ e. absurd (omega (arith, f, e, stored-kinds h t))) (λ e. absurd (omega (arith, f, e, stored-kinds h t))) o;
          }

      else-right : kind_at w₀ t ≡ 16 → v ≡ closing rs t → TargetRight stored rs t
      else-right e d =
          record {
            past = λ o. ⊎_elim (λ f. absurd (omega (arith, f, e, stored-kinds h t))) (λ f. absurd (omega (arith, f, e, stored-kinds h t))) o;
            to_join = λ f. (omega (arith, inside, stored-target), stored-target ∙ d);
            to_loop = λ f. absurd (omega (arith, f, e, stored-kinds h t));
          }

      again-right : kind_at w₀ t ≡ 22 → v ≡ loop_of rs t → TargetRight stored rs t
      again-right e d =
          record {
            past = λ o. ⊎_elim (λ f. absurd (omega (arith, f, e, stored-kinds h t))) (λ f. absurd (omega (arith, f, e, stored-kinds h t))) o;
            to_join = λ f. absurd (omega (arith, f, e, stored-kinds h t));
            to_loop = λ f. (omega (arith, inside, stored-target), stored-target ∙ d);
          }

    -- what was open or right before, once row t is right
    all_right :
        (st : List ℕ) (k : ℕ) → TargetRight stored rs t → ((i : ℕ) → i < k → Member i (t ∷ st) ⊎ TargetRight w rs i) →
        (i : ℕ) → i < k → Member i st ⊎ TargetRight stored rs i
    all_right st k R h i l = go (decide_eq i t) (h i l)
      where
        go : (i ≡ t) ⊎ (i ≡ t → ⊥) → Member i (t ∷ st) ⊎ TargetRight w rs i → Member i st ⊎ TargetRight stored rs i
        go (inl e) m = inr (subst (TargetRight stored rs) (sym e) R)
        go (inr n) (inl m) = ⊎_elim inl (λ e. absurd (n e)) (head-or m)
        go (inr n) (inr r) = inr (other-right i n r)

  -- `else`
  else-passes : (k : ℕ) → kind_at w₀ k ≡ 16 → (l : ℕ) → 1 ≤ l → Passes w₀ rs (stmt_at w₀ k) (λ l. l) l
  unfolding depth_after closes
  else-passes k e l g =
      subst (λ (s : Stmt). Passes w₀ rs s (λ l. l) l) (sym (else-means w₀ (operands_at w₀ k) e))
      (record { depth = refl; no-close = λ t z. omega (arith, g, z); deeper = refl })

  else-nests :
      (k : ℕ) (b : Bool) (ws : List Wait) → k < length rs → kind_at w₀ k ≡ 16 → T (rows_nest b ws (drop k rs)) →
      T (row_nests else ws (λ b ws. rows_nest b ws (drop (suc k) rs)))
  else-nests k b ws l e t =
      subst (λ (s : Stmt). T (row_nests s ws (λ b ws. rows_nest b ws (drop (suc k) rs)))) (else-means w₀ (operands_at w₀ k) e) (nests-row k b ws l t)

  -- what waits for row k has found it
  found : (k : ℕ) (s : Stmt) → stmt_at w₀ k ≡ s → T (closes s) → seek 0 k (row_at w₀ k ∷ drop (suc k) rs) ≡ k
  unfolding row_at
  found k s e t = seek-here k (row_at w₀ k) (drop (suc k) rs) (subst (λ (s : Stmt). T (closes s)) (sym e) t)

  after_else :
      (w : List ℕ) (k : ℕ) (b : Bool) (ws : List Wait) (st : List ℕ) → k < length rs → kind_at w₀ k ≡ 16 → (c : ℕ) → c ≡ 16 →
      Walked w k b ws st → (ws' : List Wait) × Walked (work_after w c k st) (suc k) false ws' (replaced k st)
  unfolding row_nests work_after replaced closing closes stored kind_of Machine.open_after
  after_else w k b ws st l e c f X = go ws st (else-nests k b ws l e X.nests) (waits-row k ws st l X.waits) X.opened X.right
    where
      go :
          (ws : List Wait) (st : List ℕ) → T (row_nests else ws (λ b ws. rows_nest b ws (drop (suc k) rs))) →
          Waiting w₀ rs k (row_at w₀ k ∷ drop (suc k) rs) 0 ws st → open_at rs k ≡ st →
          ((i : ℕ) → i < k → Member i st ⊎ TargetRight w rs i) →
          (ws' : List Wait) × Walked (work_after w c k st) (suc k) false ws' (replaced k st)
      go [] st t W o h = absurd t
      go (for_join ∷ ws) st t W o h = absurd t
      go (for_again ∷ ws) st t W o h = absurd t
      go (for_else ∷ ws) [] t W o h = absurd W
      go (for_else ∷ ws) (i ∷ st) t W o h =
          let more : suc k < length rs = more_rows k (for_join ∷ ws) t in
          let small : i < 256 = omega (arith, few, W.0) in
          let means = else-means w₀ (operands_at w₀ k) e in
          let R = past-right w i (suc k) X.size small more X.kinds (inl W.1) (ap suc (sym (W.2 ∙ found k _ means tt))) in
          let before = all_right w i (suc k) X.size small more st k R h in (
            for_join ∷ ws,
            subst (λ (v : List ℕ). Walked v (suc k) false (for_join ∷ ws) (k ∷ st)) (ap (put_target w i) (sym (add-one k)) ∙ closed-at-else w c k i f)
                (record {
                  size = stored-size w i (suc k) X.size small more;
                  kinds = stored-kinds w i (suc k) X.size small more X.kinds;
                  nests = t;
                  waits = (
                    l,
                    e,
                    refl,
                    waits-past k (λ l. l) 1 ws st (else-passes k e) W.3,
                  );
                  opened = open_next k _ (i ∷ st) l means o;
                  right = λ j g. ⊎_elim (λ z. inl (subst (λ (a : ℕ). Member j (a ∷ st)) z at_head)) (λ z. ⊎_elim (λ m. inl (further m)) inr (before j (omega (arith, g, z)))) (decide_eq j k);
                }),
          )

  -- CLOSING: `join` and `again`
  closes-passes : (k : ℕ) → (kind_at w₀ k ≡ 17) ⊎ (kind_at w₀ k ≡ 22) → (l : ℕ) → 1 ≤ l → Passes w₀ rs (stmt_at w₀ k) pred l
  unfolding depth_after closes
  closes-passes k o zero g = absurd (omega (arith, g))
  closes-passes k (inl e) (suc l) g =
      subst (λ (s : Stmt). Passes w₀ rs s pred (suc l)) (sym (join-means w₀ (operands_at w₀ k) e))
      (record { depth = refl; no-close = λ t z. omega (arith, z); deeper = refl })
  closes-passes k (inr e) (suc l) g =
      subst (λ (s : Stmt). Passes w₀ rs s pred (suc l)) (sym (again-means w₀ (operands_at w₀ k) e))
      (record { depth = refl; no-close = λ t z. omega (arith, z); deeper = refl })

  join-nests :
      (k : ℕ) (b : Bool) (ws : List Wait) → k < length rs → kind_at w₀ k ≡ 17 → T (rows_nest b ws (drop k rs)) →
      T (row_nests (join (formula_at w₀ k)) ws (λ b ws. rows_nest b ws (drop (suc k) rs)))
  join-nests k b ws l e t =
      subst (λ (s : Stmt). T (row_nests s ws (λ b ws. rows_nest b ws (drop (suc k) rs)))) (join-means w₀ (operands_at w₀ k) e) (nests-row k b ws l t)

  after-join :
      (w : List ℕ) (k : ℕ) (b : Bool) (ws : List Wait) (st : List ℕ) → k < length rs → kind_at w₀ k ≡ 17 → (c : ℕ) → c ≡ 17 →
      Walked w k b ws st → (ws' : List Wait) × Walked (work_after w c k st) (suc k) false ws' (popped st)
  unfolding row_nests work_after popped closes stored kind_of Machine.open_after
  after-join w k b ws st l e c f X = go ws st (join-nests k b ws l e X.nests) (waits-row k ws st l X.waits) X.opened X.right
    where
      go :
          (ws : List Wait) (st : List ℕ) →
          T (row_nests (join (formula_at w₀ k)) ws (λ b ws. rows_nest b ws (drop (suc k) rs))) →
          Waiting w₀ rs k (row_at w₀ k ∷ drop (suc k) rs) 0 ws st → open_at rs k ≡ st →
          ((i : ℕ) → i < k → Member i st ⊎ TargetRight w rs i) →
          (ws' : List Wait) × Walked (work_after w c k st) (suc k) false ws' (popped st)
      go [] st t W o h = absurd t
      go (for_else ∷ ws) st t W o h = absurd t
      go (for_again ∷ ws) st t W o h = absurd t
      go (for_join ∷ ws) [] t W o h = absurd W
      go (for_join ∷ ws) (i ∷ st) t W o h =
          let small : i < 256 = omega (arith, few, W.0) in
          let means = join-means w₀ (operands_at w₀ k) e in
          let R = else-right w i k X.size small l X.kinds W.1 (sym (W.2 ∙ found k _ means tt)) in
          let before = all_right w i k X.size small l st k R h in
          let kinds = stored-kinds w i k X.size small l X.kinds in
          let here : TargetRight (put_target w i k) rs k =
          no_target _ k (λ g. omega (arith, e, kinds k, g)) (λ g. omega (arith, e, kinds k, g)) (λ g. omega (arith, e, kinds k, g)) (λ g. omega (arith, e, kinds k, g)) in (
            ws,
            subst (λ (v : List ℕ). Walked v (suc k) false ws st) (closed-at-join w c k i f)
                (record {
                  size = stored-size w i k X.size small l;
                  kinds = kinds;
                  nests = t;
                  waits = waits-past k pred 1 ws st (closes-passes k (inl e)) W.3;
                  opened = open_next k _ (i ∷ st) l means o;
                  right = λ j g. ⊎_elim (λ z. inr (subst (TargetRight _ rs) (sym z) here)) (λ z. before j (omega (arith, g, z))) (decide_eq j k);
                }),
          )

  again-nests :
      (k : ℕ) (b : Bool) (ws : List Wait) → k < length rs → kind_at w₀ k ≡ 22 → T (rows_nest b ws (drop k rs)) →
      T (row_nests again ws (λ b ws. rows_nest b ws (drop (suc k) rs)))
  again-nests k b ws l e t =
      subst (λ (s : Stmt). T (row_nests s ws (λ b ws. rows_nest b ws (drop (suc k) rs)))) (again-means w₀ (operands_at w₀ k) e) (nests-row k b ws l t)

  after_again :
      (w : List ℕ) (k : ℕ) (b : Bool) (ws : List Wait) (st : List ℕ) → k < length rs → kind_at w₀ k ≡ 22 → (c : ℕ) → c ≡ 22 →
      Walked w k b ws st → (ws' : List Wait) × Walked (work_after w c k st) (suc k) false ws' (popped st)
  unfolding row_nests work_after popped closes stored kind_of loop_of Machine.open_after
  after_again w k b ws st l e c f X = go ws st (again-nests k b ws l e X.nests) (waits-row k ws st l X.waits) X.opened X.right
    where
      go :
          (ws : List Wait) (st : List ℕ) → T (row_nests again ws (λ b ws. rows_nest b ws (drop (suc k) rs))) →
          Waiting w₀ rs k (row_at w₀ k ∷ drop (suc k) rs) 0 ws st → open_at rs k ≡ st →
          ((i : ℕ) → i < k → Member i st ⊎ TargetRight w rs i) →
          (ws' : List Wait) × Walked (work_after w c k st) (suc k) false ws' (popped st)
      go [] st t W o h = absurd t
      go (for_else ∷ ws) st t W o h = absurd t
      go (for_join ∷ ws) st t W o h = absurd t
      go (for_again ∷ ws) [] t W o h = absurd W
      go (for_again ∷ ws) (i ∷ st) t W o h =
          let more : suc k < length rs = more_rows k ws t in
          let small : i < 256 = omega (arith, few, W.0) in
          let low : k < 256 = omega (arith, few, l) in
          let means = again-means w₀ (operands_at w₀ k) e in
          let R = past-right w i (suc k) X.size small more X.kinds (inr W.1) (ap suc (sym (W.2 ∙ found k _ means tt))) in
          let before = all_right w i (suc k) X.size small more st k R h in
          let size = stored-size w i (suc k) X.size small more in
          let kinds = stored-kinds w i (suc k) X.size small more X.kinds in
          let here = again-right (put_target w i (suc k)) k i size low W.0 kinds e (sym (ap (λ (is : List ℕ). get_or is 0 0) o)) in
          let other = other-right (put_target w i (suc k)) k i size low W.0 in (
            ws,
            subst (λ (v : List ℕ). Walked v (suc k) false ws st) (ap (λ (m : ℕ). put_target (put_target w i m) k i) (sym (add-one k)) ∙ closed-at-again w c k i f)
                (record {
                  size = stored-size (put_target w i (suc k)) k i size low W.0;
                  kinds = stored-kinds (put_target w i (suc k)) k i size low W.0 kinds;
                  nests = t;
                  waits = waits-past k pred 1 ws st (closes-passes k (inr e)) W.3;
                  opened = open_next k _ (i ∷ st) l means o;
                  right = λ j g. ⊎_elim (λ z. inr (subst (TargetRight _ rs) (sym z) here)) (λ z. ⊎_elim inl (λ r. inr (other j z r)) (before j (omega (arith, g, z)))) (decide_eq j k);
                }),
          )

  -- any row
  after-row :
      (w : List ℕ) (k : ℕ) (b : Bool) (ws : List Wait) (st : List ℕ) → k < length rs → Walked w k b ws st →
      (b' : Bool) × (ws' : List Wait) × Walked (work_after w (kind_at w k) k st) (suc k) b' ws' (open_after (kind_at w k) k st)
  unfolding pushed
  after-row w k b ws st l X = go (decide_eq c 15) (decide_eq c 16) (decide_eq c 17) (decide_eq c 21) (decide_eq c 22)
    where
      c : ℕ
      c = kind_at w₀ k

      q : ℕ
      q = kind_at w k

      same : q ≡ c
      same = X.kinds k

      Out : List ℕ → List ℕ → Type 0
      Out v s = (b' : Bool) × (ws' : List Wait) × Walked v (suc k) b' ws' s

      by : {v v' s s' : List ℕ} → v ≡ v' → s ≡ s' → Out v s → Out v' s'
      by {v' = v'} {s = s} p r O = subst (Out v') r (subst (λ (v : List ℕ). Out v s) p O)

      room : T (ltb (length ws) 4) → k ∷ st ≡ cond (ltb (length st) 4) (k ∷ st) st
      room t =
          let e = waiting-length w₀ rs k (drop k rs) 0 ws st X.waits in
          rw (T_true (ltb (length st) 4) (subst (λ (n : ℕ). T (ltb n 4)) (sym e) t))

      -- c is another kind than q is
      other : (n m : ℕ) → c ≡ n → (n ≡ m → ⊥) → q ≡ m → ⊥
      other n m e g f = g (sym e ∙ (sym same ∙ f))

      opening : (o : Opens k) → pushed k st ≡ open_after q k st → (q ≡ 16 → ⊥) → (q ≡ 17 → ⊥) → (q ≡ 22 → ⊥) → Out (work_after w q k st) (open_after q k st)
      opening o p d e f =
          by (work-elsewhere w q k st d e f) (room (opens-nests k b ws o l X.nests).0 ∙ p)
          (false, wait_at k o ∷ ws, after-opening w k b ws st o l X)

      go :
          (c ≡ 15) ⊎ (c ≡ 15 → ⊥) → (c ≡ 16) ⊎ (c ≡ 16 → ⊥) → (c ≡ 17) ⊎ (c ≡ 17 → ⊥) → (c ≡ 21) ⊎ (c ≡ 21 → ⊥) → (c ≡ 22) ⊎ (c ≡ 22 → ⊥) →
          Out (work_after w q k st) (open_after q k st)
      go (inl e) x y z u =
          opening (inl e) (open-at-if q k st (same ∙ e)) (other 15 16 e (λ f. omega (arith, f))) (other 15 17 e (λ f. omega (arith, f)))
          (other 15 22 e (λ f. omega (arith, f)))
      go (inr m) (inl e) y z u =
          let (ws', Y) = after_else w k b ws st l e q (same ∙ e) X in subst (Out (work_after w q k st)) (open-at-else q k st (same ∙ e)) (false, ws', Y)
      go (inr m) (inr n) (inl e) z u =
          let (ws', Y) = after-join w k b ws st l e q (same ∙ e) X in subst (Out (work_after w q k st)) (open-at-join q k st (same ∙ e)) (false, ws', Y)
      go (inr m) (inr n) (inr o) (inl e) u =
          opening (inr e) (open-at-loop q k st (same ∙ e)) (other 21 16 e (λ f. omega (arith, f))) (other 21 17 e (λ f. omega (arith, f)))
          (other 21 22 e (λ f. omega (arith, f)))
      go (inr m) (inr n) (inr o) (inr v) (inl e) =
          let (ws', Y) = after_again w k b ws st l e q (same ∙ e) X in subst (Out (work_after w q k st)) (open-at-again q k st (same ∙ e)) (false, ws', Y)
      go (inr m) (inr n) (inr o) (inr v) (inr a) =
          let R = no_target w k (λ f. m (sym same ∙ f)) (λ f. n (sym same ∙ f)) (λ f. v (sym same ∙ f)) (λ f. a (sym same ∙ f)) in
          let (b', Y) = after-quiet w k b ws st l (quiet_row w₀ k m n o v a) R X in
          by (work-elsewhere w q k st (λ f. n (sym same ∙ f)) (λ f. o (sym same ∙ f)) (λ f. a (sym same ∙ f)))
          (open-elsewhere q k st (λ f. m (sym same ∙ f)) (λ f. n (sym same ∙ f)) (λ f. o (sym same ∙ f)) (λ f. v (sym same ∙ f)) (λ f. a (sym same ∙ f)))
          (b', ws, Y)

  walk :
      (n : ℕ) (w : List ℕ) (k : ℕ) (b : Bool) (ws : List Wait) (st : List ℕ) → k + n ≡ length rs → Walked w k b ws st →
      (i : ℕ) → i < length rs → TargetRight (targets_from w k n st) rs i
  unfolding targets_from rows_nest
  walk zero w k b ws st e X i l =
      done ws st (subst (λ (r : List Row). T (rows_nest b ws r)) none X.nests) X.waits (X.right i (omega (arith, e)))
    where
      none : drop k rs ≡ []
      none = drop_of_length-le rs {i = k} (omega (arith, e))

      done :
          (ws : List Wait) (st : List ℕ) → T (rows_nest b ws []) → Waiting w₀ rs k (drop k rs) 0 ws st →
          Member i st ⊎ TargetRight w rs i → TargetRight w rs i
      done [] [] t W (inl m) = elim m [ ]
      done [] [] t W (inr r) = r
      done [] (j ∷ st) t W m = absurd W
      done (v ∷ ws) st t W m = absurd t
  walk (suc n) w k b ws st e X i l =
      let (b', ws', Y) = after-row w k b ws st (omega (arith, e)) X in
      walk n _ (suc k) b' ws' _ (omega (arith, e)) Y i l

-- THE CLAIM: rows that nest
pub targets-right :
    (w : List ℕ) (n : ℕ) → length w ≡ 65536 → n ≤ 256 → T (rows_nest true [] (rows_from w 0 n)) → (i : ℕ) → i < n →
    TargetRight (targets_from w 0 n []) (rows_from w 0 n) i
unfolding open_at
targets-right w n size few t i l =
    let e : length (rows_from w 0 n) ≡ n = run_length (row_at w) 0 n in
    walk w (rows_from w 0 n) (omega (arith, e, few)) (λ i l. rows-cons w n i (omega (arith, e, l))) n w 0 true [] [] (omega (arith, e))
    (record { size = size; kinds = λ i. refl; nests = t; waits = tt; opened = refl; right = λ i l. absurd (omega (arith, l)) })
    i (omega (arith, e, l))
