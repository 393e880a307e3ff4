-- What the code of each step shows at its returns, from what it read and put: the ghost does the full machine's step.
use mathlib.Core.Path.{◌≡◌, refl, sym, ap, ◌∙◌, subst}
use mathlib.Core.Bool.{Bool, true, false, not}
use mathlib.Core.List.{List, []}
use mathlib.Core.Logic.{◌⊎◌, inl, inr, ⊎_elim}
use Prim.Native.Nat.{ℕ, suc, ◌+◌, ◌*◌, ◌-◌, ◌≤◌, ◌<◌}
use native.Mathlib.Omega.{arith}
use lib.Dec.{T, eqb}
use Rattle.rules.specs.Limits.{heap_fields}
use Rattle.rules.specs.Base.{Try, ok, no, ◌>>=◌, ◌>>◌, check}
use Rattle.rules.specs.Answers.{Stop, null_followed, overflow}
use Rattle.rules.specs.Syntax.{Expr, Formula, path}
use Rattle.rules.specs.Grammar.{Set, Let, If, Loop, Assert, Join, Release, Open, Shut, statement_number, loop_kind, is_computing}
use Rattle.rules.specs.Machine.{Config, Location, Step, on, took, step, bind, value_of, value_at, value, locate, take_walk, footprint, compared, computed, advance, with_frame, set_step, assign_step, if_step, choose, loop_step, assert_step, release_step, open_step, shut_step}
use Rattle.rules.specs.Calls.{whole_heap}
use Rattle.rules.specs.declared.Machine.{Machine}
use Rattle.soundness.specs.Endings.{MayStop}
use Rattle.rules.proofs.Tries.{no_ok, bind_ok}
use Rattle.soundness.proofs.LeanFollows.{locate-only, value-only, take_walk-only, footprint-only}
use Rattle.tables.specs.Layout.{frame_variables, most_names, most_atom_rows, values_at, holders_at}
use Rattle.tables.specs.declared.Expr as Tables
use Rattle.tables.specs.declared.kinds.AtomKind.{AtomKind}
use Rattle.tables.specs.Kinds.{kind_of, kind_number}
use Rattle.tables.proofs.AtomKinds.{rel-kind}
use Rattle.tables.specs.Decode.{byte_at, atom_place, left_at, right_at, rel_of, kind_at, operation_of, x_at, y_at, z_at, member_at, target_at, first_atom_at, atom_count, formula_at, program_in}
use Rattle.tables.specs.Stores.{put_word, meaning}
use Rattle.tables.proofs.BytesRead.{same_refl}
use Rattle.run_heap.specs.Views as Views
use Rattle.run_heap.specs.Views.{frame_at, variable_at, cell_value, spot, read_in, view_of}
use Rattle.run_heap.specs.Chains.{walk_in}
use Rattle.run_footprint.specs.Footprints.{test_in, right_test, take_in, spread}
use Rattle.run_footprint.proofs.Regions.{only-word, only-tables}
use Rattle.run_steps.specs.States as States
use Rattle.run_steps.proofs.Seeing.{FormulaOk, locate-is, value_is, no-footprint}
use Rattle.run_steps.proofs.Moves.{sees, moved_on, row-formula-ok}
use Rattle.run_steps.proofs.Opening.{open_no, open-walk}
use Rattle.run_steps.proofs.Doing as Steps
use Rattle.machine.proofs.Stepping as Stepping
use Rattle.lean_heap.specs.declared.Counters.{Counters}
use Rattle.rules.specs.Lean as Rules
use Rattle.lean_heap.specs.declared.Stop as Lean
use Rattle.std.specs.Prelude.{Some, Ok, Err}
use Rattle.lean_heap.specs.Ghosts.{Bare, Stands, Unstuck, Follows, Does, CanStep, AtKind, There, cell_in, value_in, Readable, full, stepped, stop_of, stop_in}
use Rattle.lean_heap.proofs.Bares.{word-both, ghost-marked, bare-value}
use Rattle.lean_heap.proofs.Following.{try_ok, ghost-ready, ghost-size, fits, x-is, y-is, z-is, member_is, first-is, kind-is, target_is, left_is, right_is, atom-kind-is, step_is, on-as, stop-as, variable-is, path-there, read-there, does-on, does-stop, has-frames, x-small, y-small, z-small, word-tables}
use Rattle.lean_steps.specs.Rows.{Passes, Jumps, Chooses, condition_of}

-- THE GHOST'S STEP
module _ {w : List ℕ} {c : Counters} {m : Config} (S : Stands w c m) where
  abbrev G : List ℕ
  G = S.ghost

  abbrev M : Machine
  M = full c S.holder S.holders

  -- the step at the row, which is not stuck
  here : (g : Config → Step) → ((n : Config) → States.Represents G M n → step whole_heap (program_in G) n ≡ g n) → Unstuck (step whole_heap (program_in w) m) → Unstuck (g m)
  here g e U = subst Unstuck (step_is S (g m) (e m S.represents)) U

  -- what a formula takes, where the definition's passes
  formula-taken :
      (φ : Formula ℕ) (A : List Location) → FormulaOk φ → footprint m.heap m.frame φ ≡ ok A →
      (ss : List ℕ) × (take_in G (view_of M) φ [] ≡ ok ss)
  formula-taken φ A l e = go (take_in G (view_of M) φ []) refl
    where
      go : (t : Try Stop (List ℕ)) → take_in G (view_of M) φ [] ≡ t → (ss : List ℕ) × (take_in G (view_of M) φ [] ≡ ok ss)
      go (ok ss) q = (ss, q)
      go (no s) q = no_ok (sym (no-footprint (sees S.represents) φ s l q) ∙ e)

  -- a step that changes no store
  moves :
      States.NotEnd G M → step whole_heap (program_in w) m ≡ on (with_frame m (advance m.frame)) →
      Follows w c (Ok (Some (stepped c (c.row + 1)))) m (step whole_heap (program_in w) m)
  moves n e =
      record {
        next = with_frame m (advance m.frame);
        is_next = e;
        stands =
            record {
              ghost = G;
              holder = S.holder;
              holders = S.holders;
              represents = moved_on S.represents n;
              bare = S.bare;
              base = S.base;
            };
        counted = refl;
      }

-- PASSES
module _ {w : List ℕ} {c : Counters} (more : c.steps < 4294967295) (m : Config) (S : Stands w c m) (U : Unstuck (step whole_heap (program_in w) m)) where
  asserts :
      AtKind w c Assert ⊎ AtKind w c Join →
      Follows w c (Ok (Some (stepped c (c.row + 1)))) m (step whole_heap (program_in w) m)
  unfolding assert_step took ◌>>=◌ statement_number
  asserts k =
      let k' : States.AtKind (G S) (M S) Assert ⊎ States.AtKind (G S) (M S) Join = ⊎_elim (λ e. inl (kind-is S e)) (λ e. inr (kind-is S e)) k in
      let φ : Formula ℕ = formula_at (G S) c.row in
      let u = here S _ (Stepping.assert-is whole_heap k') U in
      let (A, e, _) = try_ok (footprint m.heap m.frame φ) _ (λ A. ok (with_frame m (advance m.frame))) (footprint-only m.heap m.frame φ) u in
      moves S (λ z. ⊎_elim (λ q. omega (arith, q, z)) (λ q. omega (arith, q, z)) k')
      (step_is S _ (Stepping.assert-is whole_heap k' m S.represents ∙ rw e))

  shuts : AtKind w c Shut → Follows w c (Ok (Some (stepped c (c.row + 1)))) m (step whole_heap (program_in w) m)
  unfolding shut_step took ◌>>=◌ statement_number
  shuts k =
      let k' : States.AtKind (G S) (M S) Shut = kind-is S k in
      let x : ℕ = x_at (G S) c.row in
      let f : ℕ = member_at (G S) c.row in
      let u = here S _ (Stepping.shut-is whole_heap k') U in
      let (a, e₁, u₁) = try_ok (value m.heap m.frame (path x f)) _ _ (value-only m.heap m.frame (path x f)) u in
      let (A, e₂, u₂) = try_ok (take_walk m.heap m.frame f a []) _ _ (take_walk-only m.heap m.frame f a []) u₁ in
      let (p, e₃, _) = try_ok (locate m.frame A 2 x f) _ (λ p. ok (with_frame m (advance m.frame))) (locate-only m.frame A 2 x f) u₂ in
      moves S (λ z. omega (arith, k', z)) (step_is S _ (Stepping.shut-is whole_heap k' m S.represents ∙ rw (e₁, e₂, e₃)))

  releases : AtKind w c Release → Follows w c (Ok (Some (stepped c (c.row + 1)))) m (step whole_heap (program_in w) m)
  unfolding release_step statement_number
  releases k =
      let k' : States.AtKind (G S) (M S) Release = kind-is S k in
      let φ : Formula ℕ = formula_at (G S) c.row in
      let u = here S _ (Stepping.release-is whole_heap k') U in
      let (A, e, _) = try_ok (footprint m.heap m.frame φ) _ _ (footprint-only m.heap m.frame φ) u in
      let (ss, t) = formula-taken S φ A (row-formula-ok S.represents) e in
      let g = ghost-ready S more in
      on-as S S.holder S.holders S.base
      (Stepping.does-as (Stepping.release-is whole_heap k') (Steps.release-does g ss (λ z. omega (arith, k', z)) t refl refl))
      (ghost-marked (spread (G S) c.objects ss) S.holder 0 (Steps.release-fit g ss (view_of (M S)) refl t) S.bare)

pub pass-does : {w : List ℕ} {c : Counters} → CanStep w c → Passes w c → {d : Counters} → d ≡ stepped c (c.row + 1) → Does w c w (Ok (Some d))
pass-does {w} {c} R (inl k) q = does-on refl q (same_refl w) (λ m S U. asserts R.more m S U k)
pass-does {w} {c} R (inr (inl k)) q = does-on refl q (same_refl w) (λ m S U. releases R.more m S U k)
pass-does {w} {c} R (inr (inr k)) q = does-on refl q (same_refl w) (λ m S U. shuts R.more m S U k)

-- `else` and `again`
pub jump-does :
    {w : List ℕ} {c : Counters} → CanStep w c → Jumps w c → (i : ℕ) {d : Counters} → i ≡ target_at w c.row → d ≡ stepped c i → Does w c w (Ok (Some d))
jump-does {w} {c} R k i ei q =
    does-on refl (q ∙ ap (stepped c) ei) (same_refl w)
    (λ m S U.
    let k' : States.Jumps (G S) (M S) = ⊎_elim (λ e. inl (kind-is S e)) (λ e. inr (kind-is S e)) k in
    rw (target_is S)
    (on-as S S.holder S.holders S.base
    (Stepping.does-as (Stepping.jump-is whole_heap k') (Steps.jump-does (ghost-ready S R.more) k' refl)) S.bare))

-- CONDITIONS

-- the atom a is the condition of an `if`, or of a `loop`
abbrev Condition : List ℕ → Counters → ℕ → Type 0
Condition w c a =
    (AtKind w c If × (a ≡ first_atom_at w c.row)) ⊎ (AtKind w c Loop × (a ≡ first_atom_at w c.row - 1))

condition-is : (w : List ℕ) (c : Counters) (a : ℕ) → Chooses w c → a ≡ condition_of w c.row → Condition w c a
unfolding condition_of statement_number
condition-is w c a (inl k) e = inl (k, e ∙ rw k)
condition-is w c a (inr k) e = inr (k, e ∙ rw k)

module _ {w : List ℕ} {c : Counters} (a : ℕ) (more : c.steps < 4294967295) (m : Config) (S : Stands w c m) (U : Unstuck (step whole_heap (program_in w) m)) where
  -- a condition of the ghost's row, which the step comes to
  record Comes : Type 0 where
    chooses : States.Chooses (G S) (M S)
    atom : a < atom_count (G S)
    unstuck : Unstuck (States.if_on (G S) a m)
    lifts : {r : _} → States.Does (G S) (M S) (G S) r (States.if_on (G S) a) → States.Does (G S) (M S) (G S) r (step whole_heap (program_in (G S)))

  comes : Condition w c a → Comes
  unfolding loop_step
  comes (inl (k, e)) =
      let k' : States.AtKind (G S) (M S) If = kind-is S k in
      let e' : a ≡ first_atom_at (G S) c.row = e ∙ first-is S in
      record {
        chooses = inl k';
        atom = omega (arith, e', Steps.if-atom (ghost-ready S more) k');
        unstuck = subst (λ (i : ℕ). Unstuck (States.if_on (G S) i m)) (sym e') (here S _ (Stepping.if-is whole_heap k') U);
        lifts = λ {r} D.
            Stepping.does-as (Stepping.if-is whole_heap k')
            (subst (λ (i : ℕ). States.Does (G S) (M S) (G S) r (States.if_on (G S) i)) e' D);
      }
  comes (inr (k, e)) =
      let k' : States.AtKind (G S) (M S) Loop = kind-is S k in
      let g = ghost-ready S more in
      let e' : a ≡ first_atom_at (G S) c.row - 1 = e ∙ ap (λ (i : ℕ). i - 1) (first-is S) in
      let φ : Formula ℕ = formula_at (G S) c.row in
      let u = here S _ (Stepping.loop-is whole_heap k') U in
      let (A, q, u₁) = try_ok (footprint m.heap m.frame φ) _ _ (footprint-only m.heap m.frame φ) u in
      let (ss, t) = formula-taken S φ A (row-formula-ok S.represents) q in
      record {
        chooses = inr k';
        atom = omega (arith, e', (Steps.loop-atom g k').1);
        unstuck = subst (λ (i : ℕ). Unstuck (States.if_on (G S) i m)) (sym e') u₁;
        lifts = λ {r} D. Stepping.does-as (Stepping.loop-is whole_heap k') (Steps.loop-does g ss t a e' D);
      }

  module _ (C : Comes) where
    sides : (l : ℕ) × (r : ℕ) × (read_in (G S) (view_of (M S)) (left_at (G S) a) ≡ ok l) × (read_in (G S) (view_of (M S)) (right_at (G S) a) ≡ ok r)
    unfolding if_step choose
    sides =
        let F = S.represents.tables.atom_fits a C.atom in
        let (l, e, u) = try_ok (value m.heap m.frame (left_at (G S) a)) _ _ (value-only m.heap m.frame (left_at (G S) a)) C.unstuck in
        let (r, q, _) = try_ok (value m.heap m.frame (right_at (G S) a)) _ _ (value-only m.heap m.frame (right_at (G S) a)) u in (
          l,
          r,
          sym (value_is (sees S.represents) (left_at (G S) a) F.left) ∙ e,
          sym (value_is (sees S.represents) (right_at (G S) a) F.right) ∙ q,
        )

    atom-small : a < most_atom_rows
    atom-small = omega (arith, C.atom, S.represents.tables.atoms)

    left-read :
        (b : ℕ) (e : Tables.Expr) → b ≡ frame_at (c.frames - 1) → meaning e ≡ left_at w a →
        Readable w b e × (value_in w b (meaning e) ≡ sides.0)
    left-read b e eb q =
        let q' : meaning e ≡ left_at (G S) a = q ∙ left_is S a atom-small in
        let (x, y) = read-there S e _ q' (S.represents.tables.atom_fits a C.atom).left _ sides.2 in
        rw eb (x, ap (value_in w _) q' ∙ y)

    right-read :
        (b : ℕ) (e : Tables.Expr) → b ≡ frame_at (c.frames - 1) → meaning e ≡ right_at w a →
        Readable w b e × (value_in w b (meaning e) ≡ sides.1)
    right-read b e eb q =
        let q' : meaning e ≡ right_at (G S) a = q ∙ right_is S a atom-small in
        let (x, y) = read-there S e _ q' (S.represents.tables.atom_fits a C.atom).right _ sides.3 in
        rw eb (x, ap (value_in w _) q' ∙ y)

    tested :
        (b l r : ℕ) (el er : Tables.Expr) (t : Bool) → b ≡ frame_at (c.frames - 1) → meaning el ≡ left_at w a → meaning er ≡ right_at w a →
        l ≡ value_in w b (meaning el) → r ≡ value_in w b (meaning er) → t ≡ compared (rel_of (byte_at w (atom_place a))) l r →
        test_in (G S) (view_of (M S)) a ≡ ok t
    unfolding test_in right_test ◌>>=◌
    tested b l r el er t eb ml mr vl vr et =
        let l' : l ≡ sides.0 = vl ∙ (left-read b el eb ml).1 in
        let r' : r ≡ sides.1 = vr ∙ (right-read b er eb mr).1 in
        rw (sides.2, sides.3) (ap ok (sym (et ∙ rw (l', r', atom-kind-is S a atom-small))))

module _ {w : List ℕ} {c : Counters} {a : ℕ} (R : CanStep w c) (chooses : Chooses w c) (ea : a ≡ condition_of w c.row) where
  K : Condition w c a
  K = condition-is w c a chooses ea

  first : Comes a R.more R.state R.stands R.unstuck
  first = comes a R.more R.state R.stands R.unstuck K

  pub condition-small : a < most_atom_rows
  condition-small = atom-small a R.more R.state R.stands R.unstuck first

  pub left-readable : (b : ℕ) (e : Tables.Expr) → b ≡ frame_at (c.frames - 1) → meaning e ≡ left_at w a → Readable w b e
  left-readable b e eb q = (left-read a R.more R.state R.stands R.unstuck first b e eb q).0

  pub right-readable : (b : ℕ) (e : Tables.Expr) → b ≡ frame_at (c.frames - 1) → meaning e ≡ right_at w a → Readable w b e
  right-readable b e eb q = (right-read a R.more R.state R.stands R.unstuck first b e eb q).0

  module _
      (b l r : ℕ) (n : AtomKind) (el er : Tables.Expr) (t : Bool) (eb : b ≡ frame_at (c.frames - 1)) (ml : meaning el ≡ left_at w a)
      (mr : meaning er ≡ right_at w a) (vl : l ≡ value_in w b (meaning el)) (vr : r ≡ value_in w b (meaning er))
      (en : n ≡ kind_of (byte_at w (atom_place a))) (et : t ≡ compared (rel_of (kind_number n)) l r) where
    compares : t ≡ compared (rel_of (byte_at w (atom_place a))) l r
    compares = et ∙ ap (λ i. compared i l r) (ap (λ k. rel_of (kind_number k)) en ∙ rel-kind (byte_at w (atom_place a)))

    pub condition-holds : t ≡ true → {d : Counters} → d ≡ stepped c (c.row + 1) → Does w c w (Ok (Some d))
    condition-holds h q =
        does-on refl q (same_refl w)
        (λ m S U.
        let C = comes a R.more m S U K in
        on-as S S.holder S.holders S.base
        (C.lifts
        (Steps.if-holds (ghost-ready S R.more) C.chooses (view_of (M S)) a C.atom refl
        (tested a R.more m S U C b l r el er t eb ml mr vl vr compares ∙ ap ok h) refl))
        S.bare)

    pub condition-fails : t ≡ false → (i : ℕ) {d : Counters} → i ≡ target_at w c.row → d ≡ stepped c i → Does w c w (Ok (Some d))
    condition-fails h i ei q =
        does-on refl (q ∙ ap (stepped c) ei) (same_refl w)
        (λ m S U.
        let C = comes a R.more m S U K in
        rw (target_is S)
        (on-as S S.holder S.holders S.base
        (C.lifts
        (Steps.if-fails (ghost-ready S R.more) C.chooses (view_of (M S)) a C.atom refl
        (tested a R.more m S U C b l r el er t eb ml mr vl vr compares ∙ ap ok h) refl))
        S.bare))

-- VARIABLES
module _ {w : List ℕ} {c : Counters} (R : CanStep w c) where
  -- a loop's condition stands before its invariant
  pub loop-first : kind_at w c.row ≡ loop_kind → 1 ≤ first_atom_at w c.row
  unfolding statement_number
  loop-first k =
      let S = R.stands in omega (arith, first-is S, (Steps.loop-atom (ghost-ready S R.more) (kind-is S k)).0)

  -- a variable of the running frame gets a value
  word-bare :
      {m : Config} (S : Stands w c m) (b x n : ℕ) → b ≡ frame_at (c.frames - 1) → x < frame_variables →
      Bare (put_word (G S) (frame_at (c.frames - 1) + x * 4) n) (put_word w (b + x * 4) n)
  word-bare S b x n eb l =
      rw eb (word-both (frame_at (c.frames - 1) + x * 4) n (omega (arith, ghost-size S, (has-frames R).1, l)) S.bare)

-- `let`
module _ {w : List ℕ} {c : Counters} (k : AtKind w c Let) (more : c.steps < 4294967295) (m : Config) (S : Stands w c m) (U : Unstuck (step whole_heap (program_in w) m)) where
  let_kind : States.AtKind (G S) (M S) Let
  let_kind = kind-is S k

  let-atom : first_atom_at (G S) c.row < atom_count (G S)
  let-atom = Steps.let-atom (ghost-ready S more) let_kind

  let-value : (n : ℕ) × (read_in (G S) (view_of (M S)) (right_at (G S) (first_atom_at (G S) c.row)) ≡ ok n)
  unfolding assign_step
  let-value =
      let E : Expr ℕ = right_at (G S) (first_atom_at (G S) c.row) in
      let u = here S _ (Stepping.let-is whole_heap let_kind) U in
      let (n, e, _) = try_ok (value m.heap m.frame E) _ _ (value-only m.heap m.frame E) u in
      (n, sym (value_is (sees S.represents) E (S.represents.tables.atom_fits _ let-atom).right) ∙ e)

  let-read :
      (a b : ℕ) (e : Tables.Expr) → a ≡ first_atom_at w c.row → b ≡ frame_at (c.frames - 1) → meaning e ≡ right_at w a →
      Readable w b e × (value_in w b (meaning e) ≡ let-value.0)
  let-read a b e ea eb q =
      let a' : a ≡ first_atom_at (G S) c.row = ea ∙ first-is S in
      let l : a < most_atom_rows = omega (arith, a', let-atom, S.represents.tables.atoms) in
      let q' : meaning e ≡ right_at (G S) (first_atom_at (G S) c.row) = q ∙ (right_is S a l ∙ ap (right_at (G S)) a') in
      let (x, y) = read-there S e _ q' (S.represents.tables.atom_fits _ let-atom).right _ let-value.1 in
      rw eb (x, ap (value_in w _) q' ∙ y)

pub let-small : {w : List ℕ} {c : Counters} → CanStep w c → AtKind w c Let → (a : ℕ) → a ≡ first_atom_at w c.row → a < most_atom_rows
let-small R k a ea =
    let S = R.stands in
    omega (arith, ea, first-is S, let-atom k R.more R.state S R.unstuck, S.represents.tables.atoms)

module _ {w : List ℕ} {c : Counters} (R : CanStep w c) (k : AtKind w c Let) (a b : ℕ) (e : Tables.Expr) (ea : a ≡ first_atom_at w c.row)
    (eb : b ≡ frame_at (c.frames - 1)) (q : meaning e ≡ right_at w a) where
  pub let-readable : Readable w b e
  let-readable = (let-read k R.more R.state R.stands R.unstuck a b e ea eb q).0

  pub let-does :
      (x n : ℕ) {w' : List ℕ} {d : Counters} → n ≡ value_in w b (meaning e) → n < 4294967296 → x ≡ x_at w c.row →
      w' ≡ put_word w (b + x * 4) n → d ≡ stepped c (c.row + 1) → Does w c w' (Ok (Some d))
  let-does x n en ln ex p r =
      does-on p r (word-tables R b x n eb (x-small R ex))
      (λ m S U.
      let i : n ≡ (let-value k R.more m S U).0 = en ∙ (let-read k R.more m S U a b e ea eb q).1 in
      on-as S S.holder S.holders S.base
      (Stepping.does-as (Stepping.let-is whole_heap (kind-is S k))
      (Steps.let-does (ghost-ready S R.more) (kind-is S k) (view_of (M S)) (first_atom_at (G S) c.row) refl refl x n
      (ex ∙ x-is S) ln ((let-value k R.more m S U).1 ∙ ap ok (sym i)) refl refl))
      (word-bare R S b x n eb (x-small R ex)))

-- `open`
elim-try : {A B : Type 0} (t : Try Stop A) → ((a : A) → t ≡ ok a → B) → ((s : Stop) → t ≡ no s → B) → B
elim-try (ok a) f g = f a refl
elim-try (no s) f g = g s refl

check-on :
    (c : Bool) (s : Stop) (t : Try Stop Config) → (MayStop s → ⊥) → Unstuck (took (check c s >> t)) →
    (check c s >> t ≡ t) × Unstuck (took t)
unfolding ◌>>◌ check took
check-on true s t n u = (refl, u)
check-on false s t n u = absurd (n u)

module _ {w : List ℕ} {c : Counters} (k : AtKind w c Open) (more : c.steps < 4294967295) (m : Config) (S : Stands w c m) (U : Unstuck (step whole_heap (program_in w) m)) where
  -- the location of `x.f` is held whole, and the walk goes on from there
  record Opened : Type 0 where
    cell : ℕ
    is_cell : spot (G S) (view_of (M S)) 2 (y_at (G S) c.row) (member_at (G S) c.row) ≡ ok cell
    last : ℕ
    walked : walk_in (G S) (view_of (M S)) (λ _. true) (member_at (G S) c.row) (suc c.objects) (cell_value (G S) cell) 0 ≡ ok last

  open-goes : (m' : Config) × (open_step (x_at (G S) c.row) (y_at (G S) c.row) (member_at (G S) c.row) m ≡ ok m')
  unfolding open_step ◌>>=◌
  open-goes =
      let o : ℕ = value_of m.frame (y_at (G S) c.row) in
      let f : ℕ = member_at (G S) c.row in
      let u = here S _ (Stepping.open_is whole_heap (kind-is S k)) U in
      let (e₁, u₁) = check-on (not (eqb o 0)) null_followed _ (λ z. z) u in
      let (A, e₂, _) = try_ok (take_walk m.heap m.frame f o []) _ _ (take_walk-only m.heap m.frame f o []) u₁ in
      (with_frame m (advance (bind (x_at (G S) c.row) (value_at m.heap o f) m.frame)), e₁ ∙ rw e₂)

  whole-walk : Opened
  whole-walk =
      elim-try (spot (G S) (view_of (M S)) 2 (y_at (G S) c.row) (member_at (G S) c.row))
      (λ j e.
      elim-try (walk_in (G S) (view_of (M S)) (λ _. true) (member_at (G S) c.row) (suc c.objects) (cell_value (G S) j) 0)
      (λ last q. record { cell = j; is_cell = e; last = last; walked = q })
      (λ s q. no_ok (sym (open-walk m (sees S.represents) _ _ (fits S).y (x_at (G S) c.row) j s e q) ∙ open-goes.1)))
      (λ s e. no_ok (sym (open_no m (sees S.represents) _ _ (fits S).y (x_at (G S) c.row) s e) ∙ open-goes.1))

module _ {w : List ℕ} {c : Counters} (R : CanStep w c) (k : AtKind w c Open) (b x f : ℕ) (eb : b ≡ frame_at (c.frames - 1)) (ex : x ≡ y_at w c.row) (ef : f ≡ member_at w c.row) where
  open-there :
      (m : Config) (S : Stands w c m) (U : Unstuck (step whole_heap (program_in w) m)) →
      There w (variable_at w b x) f × (cell_in w (variable_at w b x) f ≡ (whole-walk k R.more m S U).cell) × ((whole-walk k R.more m S U).cell < heap_fields)
  open-there m S U =
      rw (eb, ex ∙ y-is S, ef ∙ member_is S) (path-there S 2 _ _ _ (fits S).y (whole-walk k R.more m S U).is_cell)

  pub open-operands : (x < frame_variables) × ((f < most_names) × There w (variable_at w b x) f)
  unfolding statement_number
  open-operands =
      let S = R.stands in (
        y-small R ex,
        (
          omega (arith, ef, member_is S, (fits S).field (inr (inl (kind-is S k)))),
          (open-there R.state S R.unstuck).0,
        ),
      )

  pub open-does :
      (y n : ℕ) {w' : List ℕ} {d : Counters} → n ≡ cell_value w (cell_in w (variable_at w b x) f) → n < 4294967296 → y ≡ x_at w c.row →
      w' ≡ put_word w (b + y * 4) n → d ≡ stepped c (c.row + 1) → Does w c w' (Ok (Some d))
  open-does y n en ln ey p q =
      does-on p q (word-tables R b y n eb (x-small R ey))
      (λ m S U.
      let O = whole-walk k R.more m S U in
      let (_, i, l) = open-there m S U in
      let n' : n ≡ cell_value (G S) O.cell = en ∙ (ap (cell_value w) i ∙ bare-value S.bare O.cell l) in
      let H : States.Opening (G S) (M S) (member_at (G S) c.row) O.cell =
      record { ready = ghost-ready S R.more; at_open = kind-is S k; field = refl; cell = O.is_cell } in
      on-as S S.holder S.holders S.base
      (Stepping.does-as (Stepping.open_is whole_heap (kind-is S k))
      (Steps.open-does H (view_of (M S)) n refl n' y O.last (ey ∙ x-is S) ln (rw n' O.walked) refl refl))
      (word-bare R S b y n eb (x-small R ey)))

-- `add` and `sub`
module _ {w : List ℕ} {c : Counters} (R : CanStep w c) (t : T (is_computing (kind_at w c.row))) (b y z k n₁ n₂ : ℕ) (eb : b ≡ frame_at (c.frames - 1))
    (ey : y ≡ y_at w c.row) (ez : z ≡ z_at w c.row) (ek : k ≡ kind_at w c.row) (e₁ : n₁ ≡ variable_at w b y) (e₂ : n₂ ≡ variable_at w b z) where
  computing : {m : Config} (S : Stands w c m) → T (is_computing (kind_at (G S) c.row))
  computing S = subst (λ (i : ℕ). T (is_computing i)) (sym (kind-is S refl)) t

  ghost-variable : {m : Config} (S : Stands w c m) (x i : ℕ) → x < frame_variables → i ≡ variable_at w b x → i ≡ variable_at (G S) (frame_at (c.frames - 1)) x
  ghost-variable S x i l e = e ∙ (ap (λ (j : ℕ). variable_at w j x) eb ∙ variable-is S x l)

  pub compute-does :
      (x n : ℕ) {w' : List ℕ} {d : Counters} → x ≡ x_at w c.row → n < 4294967296 → computed (operation_of k) n₁ n₂ ≡ ok n →
      w' ≡ put_word w (b + x * 4) n → d ≡ stepped c (c.row + 1) → Does w c w' (Ok (Some d))
  compute-does x n ex ln e p q =
      does-on p q (word-tables R b x n eb (x-small R ex))
      (λ m S U.
      on-as S S.holder S.holders S.base
      (Stepping.does-as (Stepping.compute-is whole_heap (computing S))
      (Steps.compute-does (ghost-ready S R.more) (computing S) (view_of (M S)) refl y z k n₁ n₂ (ey ∙ y-is S) (ez ∙ z-is S) (ek ∙ sym (kind-is S refl))
      (ghost-variable S y n₁ (y-small R ey) e₁) (ghost-variable S z n₂ (z-small R ez) e₂) x n (ex ∙ x-is S) ln e refl refl))
      (word-bare R S b x n eb (x-small R ex)))

  pub compute-stops : computed (operation_of k) n₁ n₂ ≡ no overflow → Does w c w (Err Lean.Stop.Overflow)
  unfolding stop_of stop_in Rules.stop_of Views.stop_of
  compute-stops e =
      does-stop Lean.Stop.Overflow
      (λ m S U.
      stop-as S Lean.Stop.Overflow refl
      (Stepping.does-as (Stepping.compute-is whole_heap (computing S))
      (Steps.compute-stops (ghost-ready S R.more) (computing S) (view_of (M S)) refl y z k n₁ n₂ (ey ∙ y-is S) (ez ∙ z-is S) (ek ∙ sym (kind-is S refl))
      (ghost-variable S y n₁ (y-small R ey) e₁) (ghost-variable S z n₂ (z-small R ez) e₂) e)))

-- `set`
module _ {w : List ℕ} {c : Counters} (k : AtKind w c Set) (m : Config) (S : Stands w c m) (U : Unstuck (step whole_heap (program_in w) m)) where
  set-spot : (j : ℕ) × (spot (G S) (view_of (M S)) 2 (x_at (G S) c.row) (member_at (G S) c.row) ≡ ok j)
  unfolding set_step
  set-spot =
      let x : ℕ = x_at (G S) c.row in
      let f : ℕ = member_at (G S) c.row in
      let u = here S _ (Stepping.set_is whole_heap (kind-is S k)) U in
      let (p, e, _) = try_ok (locate m.frame [] 2 x f) _ _ (locate-only m.frame [] 2 x f) u in
      let (j, q, _) = bind_ok (spot (G S) (view_of (M S)) 2 x f) (sym (locate-is (sees S.represents) 2 x f (omega arith) (fits S).x) ∙ e) in
      (j, q)

module _ {w : List ℕ} {c : Counters} (R : CanStep w c) (k : AtKind w c Set) (b x f : ℕ) (eb : b ≡ frame_at (c.frames - 1)) (ex : x ≡ x_at w c.row) (ef : f ≡ member_at w c.row) where
  set_there :
      (m : Config) (S : Stands w c m) (U : Unstuck (step whole_heap (program_in w) m)) →
      There w (variable_at w b x) f × (cell_in w (variable_at w b x) f ≡ (set-spot k m S U).0) × ((set-spot k m S U).0 < heap_fields)
  set_there m S U = rw (eb, ex ∙ x-is S, ef ∙ member_is S) (path-there S 2 _ _ _ (fits S).x (set-spot k m S U).1)

  pub set-operands : (o : ℕ) → o ≡ variable_at w b x → There w o f × (f < most_names)
  unfolding statement_number
  set-operands o eo =
      let S = R.stands in (
        rw eo (set_there R.state S R.unstuck).0,
        omega (arith, ef, member_is S, (fits S).field (inl (kind-is S k))),
      )

  pub set_does :
      (o j y n : ℕ) {w' : List ℕ} {d : Counters} → o ≡ variable_at w b x → j ≡ cell_in w o f → j < heap_fields → y ≡ y_at w c.row →
      n ≡ variable_at w b y → n < 4294967296 → w' ≡ put_word w (values_at + j * 4) n → d ≡ stepped c (c.row + 1) → Does w c w' (Ok (Some d))
  set_does o j y n eo ej lj ey en ln p q =
      does-on p q (only-tables (only-word values_at holders_at w (values_at + j * 4) n (omega arith) (omega arith)) (omega arith))
      (λ m S U.
      let j' : j ≡ (set-spot k m S U).0 = ej ∙ (ap (λ (i : ℕ). cell_in w i f) eo ∙ (set_there m S U).1) in
      on-as S S.holder S.holders S.base
      (Stepping.does-as (Stepping.set_is whole_heap (kind-is S k))
      (Steps.set_does (ghost-ready S R.more) (kind-is S k) (view_of (M S)) (x_at (G S) c.row) (member_at (G S) c.row) refl refl refl j y n
      ((set-spot k m S U).1 ∙ ap ok (sym j')) (ey ∙ y-is S) ln
      (en ∙ (ap (λ (i : ℕ). variable_at w i y) eb ∙ variable-is S y (y-small R ey))) refl refl))
      (word-both (values_at + j * 4) n (omega (arith, ghost-size S, lj)) S.bare))
