-- The tables of a read text, once they are ended, are tables for the checker and the machine, and mean its program.
use mathlib.Core.Path.{◌≡◌, refl, sym, ap, ◌∙◌, subst}
use mathlib.Core.Bool.{Bool, true, false, cond, ◌||◌}
use mathlib.Core.List.{List, [], ◌∷◌}
use mathlib.Core.Logic.{◌⊎◌, inl, inr, ⊎_elim}
use Prim.Native.Nat.{ℕ, zero, suc, ◌+◌, ◌≤◌, ◌<◌}
use native.Mathlib.Omega.{arith}
use native.Mathlib.Decide.{dec_lt}
use lib.Dec.{T, eqb, ltb}
use lib.ListN.{length, get_or, drop, drop_of_length-le}
use Rattle.rules.specs.Limits.{most_statements, work_bytes}
use Rattle.rules.specs.Syntax.{Row, Program, no_row}
use Rattle.rules.proofs.Lists.{decide_eq}
use Rattle.rules.specs.Answers.{accepted}
use Rattle.rules.specs.Items.{Item}
use Rattle.rules.specs.Reading.{read_text, program}
use Rattle.rules.specs.Syntax.{Method}
use Rattle.nesting.specs.Nests.{rows_nest}
use Rattle.nesting.proofs.ReadOrder.{BodiesNest, read-nests, read-blocks}
use Rattle.tables.specs.Decode.{byte_at, row_place, target_place, kind_at, operands_at, stmt_at, row_at, rows_from, first_row_at, all_rows, target_at, row_count, atom_count, class_count, method_count, main_first, program_in, method_at, methods_from}
use Rattle.tables.specs.Layout.{methods_at, names_at}
use Rattle.tables.specs.Tables.{Declared, HasTarget, TargetFits, Tables, BlockFits, nested}
use Rattle.tables.specs.Stores.{Kept}
use Rattle.tables.proofs.BytesRead.{Outside, put-half-byte, half-kept}
use Rattle.tables.proofs.Runs.{less-or-not, run-get}
use Rattle.tables.proofs.Statements.{not_end}
use Rattle.targets.specs.Targets.{pushed, popped, replaced, open_after, put_target, closed, work_after, targets_from}
use Rattle.write_rows.specs.Holds.{Holds, Finished}
use Rattle.write_rows.proofs.Kept.{holds_kept}
use Rattle.write_rows.proofs.Header.{with_header, header-written, header-kept, finished-program, finished-tables}
use Rattle.targets.specs.Right.{TargetRight}
use Rattle.targets.proofs.Stacks.{put-length}
use Rattle.targets.proofs.TargetsRight.{targets-right}
use Rattle.targets.proofs.Nesting.{rows-nested, not_last}

-- every open row is a row
abbrev Small : List ℕ → Type 0
Small [] = Unit {0}
Small (i ∷ st) = (i < 256) × Small st

open-small : (k i : ℕ) (st : List ℕ) → i < 256 → Small st → Small (open_after k i st)
unfolding open_after pushed popped replaced
open-small k i st l s = go (eqb k 15 || eqb k 21) (eqb k 16) (eqb k 17 || eqb k 22) (ltb (length st) 4) st s
  where
    go :
        (a b c d : Bool) (st : List ℕ) → Small st →
        Small (cond a (cond d (i ∷ st) st) (cond b (replaced i st) (cond c (popped st) st)))
    go true b c true st s = (l, s)
    go true b c false st s = s
    go false true c d [] s = s
    go false true c d (t ∷ st) s = (l, s.1)
    go false false true d [] s = s
    go false false true d (t ∷ st) s = s.1
    go false false false d st s = s

-- TARGETS STAND IN THE ROWS

put-kept : (w : List ℕ) (t v : ℕ) → t < most_statements → Kept methods_at work_bytes w (put_target w t v)
unfolding put_target
put-kept w t v l j a b = put-half-byte w (target_place t) v j (inr (omega arith))

work-kept : (w : List ℕ) (k i : ℕ) (st : List ℕ) → i < most_statements → Small st → Kept methods_at work_bytes w (work_after w k i st)
unfolding work_after closed
work-kept w k i [] l s = λ j a b. refl
work-kept w k i (t ∷ st) l s = go (eqb k 16) (eqb k 17) (eqb k 22)
  where
    go :
        (a b c : Bool) →
        Kept methods_at work_bytes w (cond a (put_target w t (i + 1)) (cond b (put_target w t i) (cond c (put_target (put_target w t (i + 1)) i t) w)))
    go true b c = put-kept w t (i + 1) s.0
    go false true c = put-kept w t i s.0
    go false false true = λ j a b. put-kept (put_target w t (i + 1)) i t l j a b ∙ put-kept w t (i + 1) s.0 j a b
    go false false false = λ j a b. refl

targets-kept : (m : ℕ) (w : List ℕ) (i : ℕ) (st : List ℕ) → i + m ≤ most_statements → Small st → Kept methods_at work_bytes w (targets_from w i m st)
unfolding targets_from
targets-kept zero w i st l s = λ j a b. refl
targets-kept (suc m) w i st l s = λ j a b.
    targets-kept m (work_after w (kind_at w i) i st) (suc i) _ (omega (arith, l)) (open-small (kind_at w i) i st (omega (arith, l)) s) j a b
    ∙ work-kept w (kind_at w i) i st (omega (arith, l)) s j a b

-- TARGETS LEAVE WHAT THE TABLES MEAN

module _ (D : Declared) (F : Program) (n : ℕ) where
  -- a target may be written at any time
  put_holds : (w : List ℕ) (t v : ℕ) → t < most_statements → Holds D w F n → Holds D (put_target w t v) F n
  unfolding put_target
  put_holds w t v l h =
      let other : (j : ℕ) → Outside (target_place t) 2 j → byte_at (put_target w t v) j ≡ byte_at w j = put-half-byte w (target_place t) v in
      let row : (i j : ℕ) → row_place i ≤ j → j < target_place i → Outside (target_place t) 2 j =
      λ i j p q. ⊎_elim (λ m. inr (omega arith)) (λ m. inl (omega arith)) (less-or-not t i (ltb t i) refl) in
      holds_kept D w (put_target w t v) F n
      (record {
        size = put-length w t v;
        atoms = λ j p q. other j (inr (omega arith));
        rows = λ i j k p q. other j (row i j p q);
        methods = λ j p q. other j (inr (omega arith));
        classes = λ j p q. other j (inr (omega arith));
        places = λ j p q. other j (inr (omega arith));
      })
      h

  work-holds : (w : List ℕ) (k i : ℕ) (st : List ℕ) → i < 256 → Small st → Holds D w F n → Holds D (work_after w k i st) F n
  unfolding work_after closed
  work-holds w k i [] l s h = h
  work-holds w k i (t ∷ st) l s h = go (eqb k 16) (eqb k 17) (eqb k 22)
    where
      past : Holds D (put_target w t (i + 1)) F n
      past = put_holds w t (i + 1) s.0 h

      go : (a b c : Bool) → Holds D (cond a (put_target w t (i + 1)) (cond b (put_target w t i) (cond c (put_target (put_target w t (i + 1)) i t) w))) F n
      go true b c = past
      go false true c = put_holds w t i s.0 h
      go false false true = put_holds (put_target w t (i + 1)) i t l past
      go false false false = h

  targets-hold : (m : ℕ) (w : List ℕ) (i : ℕ) (st : List ℕ) → i + m ≤ 256 → Small st → Holds D w F n → Holds D (targets_from w i m st) F n
  unfolding targets_from
  targets-hold zero w i st l s h = h
  targets-hold (suc m) w i st l s h =
      targets-hold m _ (suc i) _ (omega (arith, l)) (open-small (kind_at w i) i st (omega (arith, l)) s)
      (work-holds w (kind_at w i) i st (omega (arith, l)) s h)

-- LISTS READ AT A PLACE
none_method : Method
none_method = record { requires = []; ensures = []; first = 0 }

first-row : (w : List ℕ) (m n j : ℕ) → j < n → (get_or (methods_from w m n) j none_method).first ≡ first_row_at w (m + j)
unfolding method_at
first-row w m n j l = ap (λ (x : Method). x.first) (run-get (method_at w) m n j none_method l)

-- the block of the j-th method
body_at :
    (rs : List Row) (ms : List Method) → BodiesNest rs ms → (j : ℕ) → j < length ms →
    T (rows_nest false [] (drop (get_or ms j none_method).first rs))
body_at rs [] b j l = absurd (omega (arith, l))
body_at rs (m ∷ ms) b zero l = b.0
body_at rs (m ∷ ms) b (suc j) l = body_at rs ms b.1 j (omega (arith, l))

-- a block has rows
block-begins : (rs : List Row) (i : ℕ) → T (rows_nest false [] (drop i rs)) → (i < length rs) × T (nested (drop i rs) 0)
unfolding rows_nest
block-begins rs i t = (go (dec_lt i (length rs)), rows-nested (drop i rs) [] t)
  where
    go : Dec (i < length rs) → i < length rs
    go (yes l) = l
    go (no n) = absurd (subst (λ (r : List Row). T (rows_nest false [] r)) (drop_of_length-le rs {i = i} (omega (arith, n))) t)

-- w' is what ends the tables in w, which mean F, with n atoms
pub record Ended (w w' : List ℕ) (F : Program) (n : ℕ) : Type 0 where
  pub tables : Tables w'
  pub program : program_in w' ≡ F
  pub atoms : atom_count w' ≡ n
  pub classes : class_count w' ≡ length F.classes
  pub methods : method_count w' ≡ length F.methods
  pub names : Kept names_at work_bytes w w'

-- THE CLAIM
module _ (t : List ℕ) (items : List Item) (read : read_text t ≡ accepted items) (D : Declared) (w : List ℕ) (n : ℕ) where
  F : Program
  F = program items

  R : ℕ
  R = length F.rows

  -- the tables with targets, and with the header
  linked : List ℕ
  linked = targets_from w 0 R []

  ended : List ℕ
  ended = with_header linked F n

  module _ (h : Holds D w F n) where
    nests : T (rows_nest true [] F.rows)
    unfolding F
    nests = read-nests t items read

    few : R ≤ 256
    unfolding R
    few = h.rows.few

    holds : Holds D linked F n
    unfolding linked
    holds = targets-hold D F n R w 0 [] (omega (arith, few)) tt h

    finished : Finished D ended F n
    unfolding ended
    finished = header-written D linked F n holds

    all_are : all_rows ended ≡ F.rows
    unfolding all_rows
    all_are = ap (rows_from ended 0) finished.rows ∙ finished.holds.rows.mean

    right : (i : ℕ) → i < R → TargetRight linked F.rows i
    unfolding linked R
    right i l =
        subst (λ (r : List Row). TargetRight (targets_from w 0 R []) r i) h.rows.mean
        (targets-right w R h.size few (subst (λ (r : List Row). T (rows_nest true [] r)) (sym h.rows.mean) nests) i l)

    -- the header changes no row
    kept : Kept 8 65536 linked ended
    unfolding ended
    kept = header-kept linked _ n _ _ _ holds.size 8 65536 (omega arith)

    kind-is : (i : ℕ) → i < R → kind_at ended i ≡ kind_at linked i
    kind-is i l = kept (row_place i) (omega arith) (omega (arith, l, few))

    target_is : (i : ℕ) → i < R → target_at ended i ≡ target_at linked i
    target_is i l = half-kept 8 65536 linked ended kept (row_place i + 10) (omega arith) (omega (arith, l, few))

    counted : row_count ended ≡ R
    unfolding R
    counted = finished.rows

    counted-all : row_count ended ≡ length F.rows
    counted-all = finished.rows

    -- the statement of a row
    stmt-is : (i : ℕ) → i < R → (get_or F.rows i no_row).stmt ≡ stmt_at ended i
    unfolding R row_at
    stmt-is i l =
        let e : 0 + i ≡ i = omega arith in
        ap (λ (rs : List Row). (get_or rs i no_row).stmt) (sym finished.holds.rows.mean)
        ∙ (ap (λ (r : Row). r.stmt) (run-get (row_at ended) 0 R i no_row l) ∙ ap (stmt_at ended) e)

    target_fits : (i : ℕ) → i < row_count ended → TargetFits ended i
    unfolding R
    target_fits i u =
        let l : i < R = omega (arith, u, counted) in
        let k = kind-is i l in
        let g = target_is i l in
        let X = right i l in
        record {
          target = λ o. goes (subst HasTarget k o) X g;
          after_else = λ e. rw (all_are, g) (X.past (inl (sym k ∙ e))).1;
          to_join = λ e. rw (all_are, g) (X.to_join (sym k ∙ e)).1;
          after_again = λ e. rw (all_are, g) (X.past (inr (sym k ∙ e))).1;
          to_loop = λ e. rw (all_are, g) (X.to_loop (sym k ∙ e)).1;
          next = last (decide_eq (kind_at ended i) 18);
        }
      where
        goes : HasTarget (kind_at linked i) → TargetRight linked F.rows i → target_at ended i ≡ target_at linked i → target_at ended i < row_count ended
        goes (inl e) X g = omega (arith, (X.past (inl e)).0, g, counted)
        goes (inr (inl e)) X g = omega (arith, (X.to_join e).0, g, counted)
        goes (inr (inr (inl e))) X g = omega (arith, (X.past (inr e)).0, g, counted)
        goes (inr (inr (inr e))) X g = omega (arith, (X.to_loop e).0, g, counted)

        last : (kind_at ended i ≡ 18) ⊎ (kind_at ended i ≡ 18 → ⊥) → (kind_at ended i ≡ 18) ⊎ (suc i < row_count ended)
        last (inl e) = inl e
        last (inr m) =
            let l : i < R = omega (arith, u, counted) in
            let o = finished.holds.rows.fit i l in
            let s = not_last F.rows true [] nests i l (λ e. not_end ended (operands_at ended i) o.kind m (sym (stmt-is i l) ∙ e)) in
            inr (omega (arith, s, counted))

    blocks : (m : ℕ) → m < method_count ended → BlockFits ended (first_row_at ended m)
    unfolding F
    blocks m u =
        let l : m < length F.methods = omega (arith, u, finished.methods) in
        let b : BodiesNest F.rows F.methods = (read-blocks t items read).0 in
        let z : 0 + m ≡ m = omega arith in
        let e : (get_or F.methods m none_method).first ≡ first_row_at ended m =
        ap (λ (ms : List Method). (get_or ms m none_method).first) (sym finished.holds.methods.mean)
        ∙ (first-row ended 0 (length F.methods) m l ∙ ap (first_row_at ended) z) in
        let (x, y) = block-begins F.rows (get_or F.methods m none_method).first (body_at F.rows F.methods b m l) in
        (omega (arith, x, e, counted-all), rw (all_are, ← e) y)

    main_fits : BlockFits ended (main_first ended)
    unfolding F
    main_fits =
        let b : T (rows_nest false [] (drop F.main F.rows)) = (read-blocks t items read).1 in
        let (x, y) = block-begins F.rows F.main b in
        (omega (arith, x, finished.main, counted-all), rw (all_are, finished.main) y)

    names-kept : Kept names_at work_bytes w ended
    unfolding linked R
    names-kept j a b = kept j (omega arith) b ∙ targets-kept R w 0 [] (omega (arith, few)) tt j (omega arith) b

    tables : D.classes ≡ length F.classes → D.methods ≡ length F.methods → Ended w ended F n
    tables c m =
        record {
          tables = finished-tables D ended F n c m finished (record { targets = target_fits; blocks = blocks; main = main_fits });
          program = finished-program D ended F n finished;
          atoms = finished.atoms;
          classes = finished.classes;
          methods = finished.methods;
          names = names-kept;
        }

-- what `finish` leaves of tables in which n atoms are written
abbrev pub ended_tables : List ℕ → Program → ℕ → List ℕ
ended_tables w F n = with_header (targets_from w 0 (length F.rows) []) F n

-- Tables that hold what the items of a read text say, line by line, are, once they are ended, tables for the checker and the
-- machine, and mean the text's program.
pub read-tables :
    (t : List ℕ) (items : List Item) → read_text t ≡ accepted items → (D : Declared) (w : List ℕ) (n : ℕ) →
    Holds D w (program items) n → D.classes ≡ length (program items).classes →
    D.methods ≡ length (program items).methods →
    Ended w (ended_tables w (program items) n) (program items) n
unfolding F R linked ended
read-tables t items e D w n h c m = tables t items e D w n h c m
