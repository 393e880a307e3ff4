-- What the code of a step shows at its returns, from what it read and put.
use mathlib.Core.Path.{◌≡◌, refl, sym, ◌∙◌, subst}
use mathlib.Core.Bool.{true, false}
use mathlib.Core.List.{List, []}
use mathlib.Core.Logic.{inl, inr}
use Prim.Native.Nat.{ℕ, suc, ◌+◌, ◌*◌, ◌-◌, ◌≤◌, ◌<◌}
use native.Mathlib.Omega.{arith}
use lib.Dec.{T}
use lib.ListN.{length}
use Rattle.rules.specs.Limits.{heap_fields, most_statements, most_frames}
use Rattle.rules.specs.Base.{Try, ok, no}
use Rattle.rules.specs.Answers.{Stop, overflow}
use Rattle.rules.specs.Grammar.{Set, Let, If, Loop, Open, Shut, statement_number, is_computing}
use Rattle.rules.specs.Machine.{Config, Step, computed}
use Rattle.rules.specs.declared.Machine.{Machine}
use Rattle.tables.specs.Layout.{frame_variables, values_at, holders_at, frames_at, most_names}
use Rattle.tables.specs.Decode.{operation_of, kind_at, x_at, y_at, z_at, member_at, target_at, first_atom_at, atom_count_at, atoms_from, atom_count, operands_at, formula_at, right_at}
use Rattle.tables.specs.Tables.{declared_in, OperandsFit}
use Rattle.tables.specs.Stores.{SameTables, put_word}
use Rattle.tables.proofs.BytesRead.{same_refl}
use Rattle.run_heap.specs.declared.View.{View}
use Rattle.run_heap.specs.declared.Fault.{Fault}
use Rattle.std.specs.Prelude.{Some, Ok, Err}
use Rattle.run_steps.specs.States.{Turn}
use Rattle.run_heap.specs.Views.{frame_at, variable_at, cell_value, halves_at, spot, read_in, view_of, stop_of, Readable, frame_holder}
use Rattle.run_heap.specs.Chains.{walk_in}
use Rattle.run_footprint.specs.Footprints.{test_in, spread, take_in, marked, SharesFit}
use Rattle.run_steps.specs.States.{Represents, Follows, Does, CanStep, NotEnd, AtKind, Chooses, Jumps, stepped, set_here, let_here, compute_here, assert_here, release_here, open_here, shut_here, Opening, Shutting, Walked, if_on, loop_here, jump_here}
use Rattle.run_heap.proofs.Reading.{spot-small}
use Rattle.run_steps.proofs.Seeing.{ok-footprint}
use Rattle.run_footprint.proofs.Regions.{only-word, only-tables}
use Rattle.run_footprint.proofs.Handing.{only-marked}
use Rattle.run_steps.proofs.Moves as Moves
use Rattle.run_steps.proofs.Steps as Steps

-- THE TWO ANSWERS
pub does-on :
    {w w' w'' : List ℕ} {c d d' : Machine} {f : Config → Step} → w' ≡ w'' → d ≡ d' → SameTables w w'' →
    ((m : Config) → Represents w c m → Follows w'' c (Ok (Some d')) m (f m)) → Does w c w' (Ok (Some d)) f
does-on {w} {w'} {w''} {c} {d} {d'} {f} e q t h =
    record {
      tables = subst (SameTables w) (sym e) t;
      follows = λ m R. subst (λ u. Follows u c (Ok (Some d)) m (f m)) (sym e) (subst (λ g. Follows w'' c (Ok (Some g)) m (f m)) (sym q) (h m R));
    }

-- a step's answer, known
pub does-answer : {w w' : List ℕ} {c : Machine} {r t : Turn} {f : Config → Step} → r ≡ t → Does w c w' r f → Does w c w' t f
does-answer {w} {w'} {c} {r} {t} {f} e D = subst (λ (u : Turn). Does w c w' u f) e D

pub does-stop :
    {w : List ℕ} {c : Machine} {f : Config → Step} (s : Fault) → ((m : Config) → Represents w c m → Follows w c (Err s) m (f m)) →
    Does w c w (Err s) f
does-stop {w} s h = record { tables = same_refl w; follows = h }

module _ {w : List ℕ} {c : Machine} (ready : CanStep w c) where
  -- WHAT A READY MACHINE HAS
  pub fits : OperandsFit (declared_in w) (atom_count w) (operands_at w c.row)
  fits = (Moves.row_fits ready.represents).operands

  pub frames-fit : (1 ≤ c.frames) × (c.frames ≤ most_frames)
  frames-fit = (omega (arith, ready.represents.frames), ready.represents.most)

  pub size : length w ≡ 65536
  size = ready.represents.tables.size

  pub row_small : c.row < most_statements
  row_small = omega (arith, ready.represents.frame.row_fits, ready.represents.tables.rows)

  pub view-readable : {v : View} → v ≡ view_of c → Readable w v
  view-readable e = subst (Readable w) (sym e) (Moves.readable ready.represents)

  pub base-fits : {v : View} → v ≡ view_of c → v.base + frame_holder ≤ 65536
  base-fits e = (view-readable e).base

  frame-words : (x : ℕ) → x < frame_variables → (n : ℕ) → SameTables w (put_word w (frame_at (c.frames - 1) + x * 4) n)
  frame-words x l n =
      only-tables (only-word frames_at (frames_at + 8192) w (frame_at (c.frames - 1) + x * 4) n (omega arith) (omega (arith, frames-fit.1)))
      (omega arith)

  -- FORMULAS
  module _ (v : View) (a n : ℕ) (ev : v ≡ view_of c) (ea : a ≡ first_atom_at w c.row) (en : n ≡ atom_count_at w c.row) where
    pub row-takes : take_in w v (atoms_from w a n) [] ≡ take_in w (view_of c) (formula_at w c.row) []
    row-takes = rw (ev, ea, en)

    pub row-atoms : (a + n ≤ atom_count w) × (n ≤ 8)
    row-atoms = (omega (arith, fits.atoms.1), omega (arith, fits.atoms.0))

  pub assert-does :
      (ss : List ℕ) {d : Machine} → NotEnd w c → take_in w (view_of c) (formula_at w c.row) [] ≡ ok ss → d ≡ stepped c (c.row + 1) →
      Does w c w (Ok (Some d)) (assert_here w c)
  assert-does ss n e q = does-on refl q (same_refl w) (λ m R. Moves.assert-on R _ ss (Moves.row-formula-ok R) n e)

  pub assert-stops :
      (s : Fault) → take_in w (view_of c) (formula_at w c.row) [] ≡ no (stop_of s) →
      Does w c w (Err s) (assert_here w c)
  assert-stops s e = does-stop s (λ m R. Moves.assert-stop R _ s (Moves.row-formula-ok R) e)

  -- the shares that a formula took
  taken-fit : (ss : List ℕ) → take_in w (view_of c) (formula_at w c.row) [] ≡ ok ss → SharesFit (spread w c.objects ss)
  taken-fit ss e =
      let R = ready.represents in
      let (A, a, M) = ok-footprint (Moves.sees R) _ ss (Moves.row-formula-ok R) e in
      M.fit

  pub release-fit :
      (ss : List ℕ) (v : View) → v ≡ view_of c → take_in w (view_of c) (formula_at w c.row) [] ≡ ok ss → SharesFit (spread w v.objects ss)
  release-fit ss v ev e = rw ev (taken-fit ss e)

  pub release-does :
      (ss : List ℕ) {w' : List ℕ} {d : Machine} → NotEnd w c → take_in w (view_of c) (formula_at w c.row) [] ≡ ok ss →
      w' ≡ marked w (spread w c.objects ss) c.holder 0 →
      d ≡ stepped c (c.row + 1) → Does w c w' (Ok (Some d)) (release_here w c)
  release-does ss n e p q =
      does-on p q (only-tables (only-marked w (spread w c.objects ss) c.holder 0 (taken-fit ss e)) (omega arith))
      (λ m R. Steps.release-on R _ ss (Moves.row-formula-ok R) n e)

  pub release-stops :
      (s : Fault) → take_in w (view_of c) (formula_at w c.row) [] ≡ no (stop_of s) →
      Does w c w (Err s) (release_here w c)
  release-stops s e = does-stop s (λ m R. Steps.release-stop R _ s (Moves.row-formula-ok R) e)

  -- BRANCHES AND LOOPS
  pub jump-does : {d : Machine} → Jumps w c → d ≡ stepped c (target_at w c.row) → Does w c w (Ok (Some d)) (jump_here w c)
  jump-does k q = does-on refl q (same_refl w) (λ m R. Moves.jump-on R k)

  pub if-atom : AtKind w c If → first_atom_at w c.row < atom_count w
  unfolding statement_number
  if-atom k = omega (arith, fits.atoms.1, fits.one_atom (inr k))

  module _ (k : Chooses w c) (v : View) (a : ℕ) (l : a < atom_count w) (ev : v ≡ view_of c) where
    pub if-holds : {d : Machine} → test_in w v a ≡ ok true → d ≡ stepped c (c.row + 1) → Does w c w (Ok (Some d)) (if_on w a)
    if-holds e q = does-on refl q (same_refl w) (λ m R. Moves.if-true R a l k (rw (← ev) e))

    pub if-fails : {d : Machine} → test_in w v a ≡ ok false → d ≡ stepped c (target_at w c.row) → Does w c w (Ok (Some d)) (if_on w a)
    if-fails e q = does-on refl q (same_refl w) (λ m R. Moves.if-false R a l k (rw (← ev) e))

    pub if-stops : (s : Fault) → test_in w v a ≡ no (stop_of s) → Does w c w (Err s) (if_on w a)
    if-stops s e = does-stop s (λ m R. Moves.if-stop R a l s (rw (← ev) e))

  -- the condition of a loop is the atom before its invariant
  pub loop-atom : AtKind w c Loop → (1 ≤ first_atom_at w c.row) × (first_atom_at w c.row - 1 < atom_count w)
  unfolding statement_number
  loop-atom k = let l = fits.condition k in (l, omega (arith, l, fits.atoms.1))

  pub loop-does :
      (ss : List ℕ) {r : Turn} → take_in w (view_of c) (formula_at w c.row) [] ≡ ok ss → (a : ℕ) → a ≡ first_atom_at w c.row - 1 →
      Does w c w r (if_on w a) → Does w c w r (loop_here w c)
  loop-does ss {r} e a ea D =
      record {
        tables = D.tables;
        follows = λ m R. subst (Follows w c r m) (rw ea (sym (Moves.loop-is R _ ss e))) (D.follows m R);
      }

  pub loop-stops : (s : Fault) → take_in w (view_of c) (formula_at w c.row) [] ≡ no (stop_of s) → Does w c w (Err s) (loop_here w c)
  loop-stops s e = does-stop s (λ m R. Moves.loop-stop R _ s e)

  -- VARIABLES
  pub let-atom : AtKind w c Let → first_atom_at w c.row < atom_count w
  unfolding statement_number
  let-atom k = omega (arith, fits.atoms.1, fits.one_atom (inl k))

  module _ (k : AtKind w c Let) (v : View) (a : ℕ) (ev : v ≡ view_of c) (ea : a ≡ first_atom_at w c.row) where
    pub let-does :
        (x n : ℕ) {w' : List ℕ} {d : Machine} → x ≡ x_at w c.row → n < 4294967296 → read_in w v (right_at w a) ≡ ok n →
        w' ≡ put_word w (v.base + x * 4) n → d ≡ stepped c (c.row + 1) →
        Does w c w' (Ok (Some d)) (let_here w c)
    unfolding statement_number
    let-does x n ex ln e p q =
        does-on (p ∙ rw (ev, ex)) q (frame-words (x_at w c.row) fits.x n)
        (λ m R.
        Steps.assign-on R (x_at w c.row) (right_at w (first_atom_at w c.row)) n fits.x ln
        (R.tables.atom_fits _ (let-atom k)).right (λ z. omega (arith, z, k)) (rw (← ev, ← ea) e))

    pub let-stops :
        (s : Fault) → read_in w v (right_at w a) ≡ no (stop_of s) →
        Does w c w (Err s) (let_here w c)
    let-stops s e =
        does-stop s
        (λ m R. Steps.assign-stop R (x_at w c.row) _ s (R.tables.atom_fits _ (let-atom k)).right (rw (← ev, ← ea) e))

  -- `add` and `sub`, where the code reads y and z as n₁ and n₂
  module _
      (t : T (is_computing (kind_at w c.row))) (v : View) (ev : v ≡ view_of c) (y z k n₁ n₂ : ℕ) (ey : y ≡ y_at w c.row)
      (ez : z ≡ z_at w c.row) (ek : k ≡ kind_at w c.row) (e₁ : n₁ ≡ variable_at w v.base y)
      (e₂ : n₂ ≡ variable_at w v.base z) where
    not_end : NotEnd w c
    unfolding is_computing statement_number
    not_end e = subst (λ k. T (is_computing k)) e t

    read-so :
        computed (operation_of k) n₁ n₂
        ≡ computed (operation_of (kind_at w c.row)) (variable_at w (view_of c).base (y_at w c.row)) (variable_at w (view_of c).base (z_at w c.row))
    read-so = rw (ek, e₁, e₂, ey, ez, ev)

    pub compute-does :
        (x n : ℕ) {w' : List ℕ} {d : Machine} → x ≡ x_at w c.row → n < 4294967296 → computed (operation_of k) n₁ n₂ ≡ ok n →
        w' ≡ put_word w (v.base + x * 4) n → d ≡ stepped c (c.row + 1) →
        Does w c w' (Ok (Some d)) (compute_here w c)
    compute-does x n ex ln e p q =
        does-on (p ∙ rw (ev, ex)) q (frame-words (x_at w c.row) fits.x n)
        (λ m R. Steps.compute-on R _ (x_at w c.row) _ _ fits.y fits.z n fits.x ln not_end (sym read-so ∙ e))

    pub compute-stops :
        computed (operation_of k) n₁ n₂ ≡ no overflow →
        Does w c w (Err Fault.Overflow) (compute_here w c)
    compute-stops e =
        does-stop Fault.Overflow
        (λ m R. Steps.compute-stop R _ (x_at w c.row) _ _ fits.y fits.z (sym read-so ∙ e))

  -- `set`
  module _ (k : AtKind w c Set) (v : View) (x f : ℕ) (ev : v ≡ view_of c) (ex : x ≡ x_at w c.row) (ef : f ≡ member_at w c.row) where
    pub set-operands : (x < frame_variables) × (f < most_names)
    unfolding statement_number
    set-operands = (omega (arith, fits.x), omega (arith, fits.field (inl k)))

    pub set-small : (j : ℕ) → spot w v 2 x f ≡ ok j → j < heap_fields
    set-small j e = spot-small 2 x f (view-readable ev) e

    pub set_does :
        (j y n : ℕ) {w' : List ℕ} {d : Machine} → spot w v 2 x f ≡ ok j → y ≡ y_at w c.row → n < 4294967296 →
        n ≡ variable_at w v.base y → w' ≡ put_word w (values_at + j * 4) n → d ≡ stepped c (c.row + 1) →
        Does w c w' (Ok (Some d)) (set_here w c)
    unfolding statement_number
    set_does j y n e ey ln en p q =
        let l : j < heap_fields = set-small j e in
        does-on p q (only-tables (only-word values_at holders_at w (values_at + j * 4) n (omega arith) (omega arith)) (omega arith))
        (λ m R.
        Steps.set_on R (x_at w c.row) (member_at w c.row) (y_at w c.row) j n fits.x fits.y ln (λ z. omega (arith, z, k))
        (en ∙ rw (ev, ey)) (rw (← ev, ← ex, ← ef) e) l)

    pub set-stops :
        (s : Fault) → spot w v 2 x f ≡ no (stop_of s) →
        Does w c w (Err s) (set_here w c)
    set-stops s e = does-stop s (λ m R. Steps.set-stop R (x_at w c.row) _ _ s fits.x (rw (← ev, ← ex, ← ef) e))

-- the walk that the code does
walk-as :
    (w : List ℕ) (c : Machine) (v : View) (f g n j : ℕ) {t : Try Stop ℕ} → v ≡ view_of c → f ≡ g → n ≡ j →
    walk_in w v (λ _. true) f (suc v.objects) n 0 ≡ t → walk_in w (view_of c) (λ _. true) g (suc c.objects) j 0 ≡ t
walk-as w c v f g n j {t} ev ef en e =
    rw (← ef, ← en) (subst (λ (u : View). walk_in w u (λ _. true) f (suc u.objects) n 0 ≡ t) ev e)

-- `open`
module _ {w : List ℕ} {c : Machine} (ready : CanStep w c) (k : AtKind w c Open) (v : View) (ev : v ≡ view_of c) where
  pub open-operands : (x f : ℕ) → x ≡ y_at w c.row → f ≡ member_at w c.row → (x < frame_variables) × (f < most_names)
  unfolding statement_number
  open-operands x f ex ef = (omega (arith, (fits ready).y), omega (arith, (fits ready).field (inr (inl k))))

  pub open-stops :
      (x f : ℕ) (s : Fault) → x ≡ y_at w c.row → f ≡ member_at w c.row → spot w v 2 x f ≡ no (stop_of s) →
      Does w c w (Err s) (open_here w c)
  open-stops x f s ex ef e = does-stop s (λ m R. Steps.open-stop R _ _ _ s (fits ready).y (rw (← ev, ← ex, ← ef) e))

pub open-small : {w : List ℕ} {c : Machine} {f k : ℕ} → Opening w c f k → k < heap_fields
open-small O = spot-small 2 _ _ (view-readable O.ready refl) O.cell

module _ {w : List ℕ} {c : Machine} {f k : ℕ} (O : Opening w c f k) (v : View) (n : ℕ) (ev : v ≡ view_of c) (en : n ≡ cell_value w k) where
  here : spot w (view_of c) 2 (y_at w c.row) (member_at w c.row) ≡ ok k
  here = rw (← O.field) O.cell

  pub open-does :
      (y last : ℕ) {w' : List ℕ} {d : Machine} → y ≡ x_at w c.row → n < 4294967296 →
      walk_in w v (λ _. true) f (suc v.objects) n 0 ≡ ok last → w' ≡ put_word w (v.base + y * 4) n → d ≡ stepped c (c.row + 1) →
      Does w c w' (Ok (Some d)) (open_here w c)
  unfolding statement_number
  open-does y last ey ln e p q =
      does-on (p ∙ rw (ev, ey, en)) q (frame-words O.ready (x_at w c.row) (fits O.ready).x (cell_value w k))
      (λ m R.
      Steps.open-on R (x_at w c.row) (y_at w c.row) (member_at w c.row) k last (fits O.ready).x (fits O.ready).y
      (omega (arith, ln, en)) (λ z. omega (arith, z, O.at_open)) here (walk-as w c v f _ n _ ev O.field en e))

  pub open-walk-stops :
      (s : Fault) → walk_in w v (λ _. true) f (suc v.objects) n 0 ≡ no (stop_of s) → Does w c w (Err s) (open_here w c)
  open-walk-stops s e =
      does-stop s
      (λ m R. Steps.open-walk-stop R (x_at w c.row) (y_at w c.row) (member_at w c.row) k s (fits O.ready).y here (walk-as w c v f _ n _ ev O.field en e))

-- `shut`
module _ {w : List ℕ} {c : Machine} (ready : CanStep w c) (k : AtKind w c Shut) where
  shut-fits : (x_at w c.row < frame_variables) × (member_at w c.row < most_names)
  unfolding statement_number
  shut-fits = ((fits ready).x, (fits ready).field (inr (inr k)))

  pub shut-operands : (x f : ℕ) → x ≡ x_at w c.row → f ≡ member_at w c.row → (x < frame_variables) × (f < most_names)
  shut-operands x f ex ef = (omega (arith, shut-fits.0), omega (arith, shut-fits.1))

  pub shut-stops :
      (v : View) (x f : ℕ) (s : Fault) → v ≡ view_of c → x ≡ x_at w c.row → f ≡ member_at w c.row → spot w v 1 x f ≡ no (stop_of s) →
      Does w c w (Err s) (shut_here w c)
  shut-stops v x f s ev ex ef e =
      does-stop s (λ m R. Steps.shut-stop R _ _ shut-fits.0 shut-fits.1 s (rw (← ev, ← ex, ← ef) e))

pub shut-small : {w : List ℕ} {c : Machine} {f k : ℕ} → Shutting w c f k → k < heap_fields
shut-small O = spot-small 1 _ _ (view-readable O.ready refl) O.cell

module _ {w : List ℕ} {c : Machine} {f k : ℕ} (O : Shutting w c f k) where
  at-member : Shutting w c (member_at w c.row) k
  at-member = subst (λ g. Shutting w c g k) O.field O

  module _ (v : View) (n : ℕ) (ev : v ≡ view_of c) (en : n ≡ cell_value w k) where
    pub shut-walked :
        (last : ℕ) → walk_in w v (λ _. true) f (suc v.objects) n 0 ≡ ok last → Walked w c k
    shut-walked last e = record { shutting = at-member; last = last; walked = walk-as w c v f _ n _ ev O.field en e }

    pub shut-walk-stops :
        (s : Fault) → walk_in w v (λ _. true) f (suc v.objects) n 0 ≡ no (stop_of s) → Does w c w (Err s) (shut_here w c)
    shut-walk-stops s e =
        let l = shut-fits O.ready O.at_shut in
        does-stop s (λ m R. Steps.shut-walk-stop R _ _ l.0 l.1 k at-member.cell s (walk-as w c v f _ n _ ev O.field en e))

module _ {w : List ℕ} {c : Machine} {k : ℕ} (O : Walked w c k) where
  shut_at : (x_at w c.row < frame_variables) × (member_at w c.row < most_names)
  shut_at = shut-fits O.shutting.ready O.shutting.at_shut

  pub shut-does : {d : Machine} → 2 ≤ halves_at w c.holder k → d ≡ stepped c (c.row + 1) → Does w c w (Ok (Some d)) (shut_here w c)
  unfolding statement_number
  shut-does l q =
      does-on refl q (same_refl w)
      (λ m R.
      Steps.shut-done R _ _ shut_at.0 shut_at.1 k O.shutting.cell O.last O.walked
      (λ z. omega (arith, z, O.shutting.at_shut)) l)

  pub shut-lacks : halves_at w c.holder k < 2 → Does w c w (Err Fault.Permission) (shut_here w c)
  shut-lacks l =
      does-stop Fault.Permission
      (λ m R. Steps.shut-half-stop R _ _ shut_at.0 shut_at.1 k O.shutting.cell O.last O.walked l)
