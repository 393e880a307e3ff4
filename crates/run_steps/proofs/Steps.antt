-- The steps that stay in their frame: `let`, `add`, `sub`, `open`, `shut`, `set`, `release`.
use mathlib.Core.Path.{◌≡◌, refl, sym, ap₂, ◌∙◌, subst}
use mathlib.Core.Bool.{true}
use mathlib.Core.List.{List, []}
use mathlib.Core.Logic.{inr}
use Prim.Native.Nat.{ℕ, suc, ◌+◌, ◌*◌, ◌-◌, ◌≤◌, ◌<◌}
use native.Mathlib.Omega.{arith}
use lib.ListN.{length}
use Rattle.rules.specs.Limits.{heap_fields}
use Rattle.rules.specs.Base.{Try, ok, no, ◌>>=◌}
use Rattle.rules.specs.Answers.{Stop, overflow}
use Rattle.rules.specs.Syntax.{Operation, Expr, Formula}
use Rattle.rules.specs.Machine.{Frame, Location, Config, Step, halves, took, without, value_of, advance, bind, holding, with_frame, stored, set_step, assign_step, computed, compute_step, release_step, open_step, shut_step}
use Rattle.rules.specs.declared.Machine.{Machine}
use Rattle.rules.proofs.Sets.{halves-without}
use Rattle.rules.proofs.Footprints.{footprint-held}
use Rattle.tables.specs.Layout.{most_names, frame_variables, values_at, holders_at, objects_at, frames_at}
use Rattle.tables.specs.Decode.{row_count, kind_at}
use Rattle.tables.specs.Tables.{SideFits}
use Rattle.tables.specs.Stores.{SameTables, put_word}
use Rattle.tables.proofs.Decoding.{tables-same, rows-count-same, kind-same}
use Rattle.run_heap.specs.declared.Fault.{Fault}
use Rattle.std.specs.Prelude.{Some, Ok, Err}
use Rattle.run_heap.specs.Views.{frame_at, variable_at, cell_value, halves_at, halves_of, spot, read_in, view_of, stop_of}
use Rattle.run_heap.specs.Chains.{walk_in}
use Rattle.run_footprint.specs.Footprints.{spread, take_in, marked}
use Rattle.run_steps.specs.States.{FrameIs, Represents, Follows, stepped, NotEnd}
use Rattle.run_steps.proofs.Seeing.{Matches, FormulaOk, locate-at, locate-no, value_is, no-footprint, ok-footprint}
use Rattle.run_steps.proofs.Opening.{open_done, open-walk, open_no, shut-no, shut-walk, shut-half, shut-on}
use Rattle.run_footprint.proofs.Regions.{Only, only-word, only-tables}
use Rattle.run_steps.proofs.Keeping.{same-frame, ensures-kept, callers-kept}
use Rattle.run_steps.proofs.Moves.{sees, moved_on, follow-stop, follow-on}
use Rattle.run_steps.proofs.Changes.{put-variable, put-value, marks-only, marks-tables, lost, others-kept, heap-marked}

-- the same frame with another set
pub frame-holding :
    {w w' : List ℕ} {n n' b number row : ℕ} {F : Frame} (A : List Location) →
    ((x : ℕ) → x < frame_variables → variable_at w' b x ≡ variable_at w b x) → row_count w' ≡ row_count w →
    ((p : Location) → halves A p ≡ halves_of w' n' number p) → FrameIs w n b number row F →
    FrameIs w' n' b number row (holding A F)
unfolding holding value_of
frame-holding A v k h I =
    record {
      size = I.size;
      values = λ x l. I.values x l ∙ sym (v x l);
      row_is = I.row_is;
      row_fits = omega (arith, I.row_fits, k);
      held = h;
      numbered = I.numbered;
    }

module _ {w : List ℕ} {c : Machine} {m : Config} (R : Represents w c m) where
  base-is : frame_at (c.frames - 1) ≡ frame_at (length m.callers)
  base-is = omega (arith, R.frames)

  -- the kind is as before where the tables are
  kind-kept : (w' : List ℕ) → SameTables w w' → kind_at w' c.row ≡ kind_at w c.row
  kind-kept w' t = kind-same w w' t c.row (omega (arith, R.frame.row_fits, R.tables.rows))

  -- a variable gets what was found, if something was
  abbrev bound : ℕ → Try Stop ℕ → Step
  bound x t = took (t >>= λ v. ok (with_frame m (advance (bind x v m.frame))))

  bound-on :
      (x : ℕ) (t : Try Stop ℕ) (v : ℕ) → x < frame_variables → v < 4294967296 → NotEnd w c → t ≡ ok v →
      Follows (put_word w (frame_at (c.frames - 1) + x * 4) v) c (Ok (Some (stepped c (c.row + 1)))) m (bound x t)
  unfolding ◌>>=◌ with_frame advance bind
  bound-on x u v lx lv n r =
      let w' : List ℕ = put_word w (frame_at (length m.callers) + x * 4) v in
      let t : SameTables w w' =
      only-tables (only-word frames_at (frames_at + 8192) w (frame_at (length m.callers) + x * 4) v (omega arith) (omega (arith, R.most, R.frames)))
      (omega arith) in
      rw base-is
      (follow-on R _ _ _ (rw r) refl
      (moved_on (put-variable R x v lx lv) (λ z. n (sym (kind-kept w' t) ∙ z))))

  bound-stop : (x : ℕ) (t : Try Stop ℕ) (f : Fault) → t ≡ no (stop_of f) → Follows w c (Err f) m (bound x t)
  unfolding ◌>>=◌
  bound-stop x t f r = follow-stop R f _ (rw r)

  -- `let`
  pub assign-on :
      (x : ℕ) (e : Expr ℕ) (v : ℕ) → x < frame_variables → v < 4294967296 → SideFits e → NotEnd w c →
      read_in w (view_of c) e ≡ ok v →
      Follows (put_word w (frame_at (c.frames - 1) + x * 4) v) c (Ok (Some (stepped c (c.row + 1)))) m (took (assign_step x e m))
  unfolding assign_step
  assign-on x e v lx lv ok-e n r = bound-on x _ v lx lv n (value_is (sees R) e ok-e ∙ r)

  pub assign-stop :
      (x : ℕ) (e : Expr ℕ) (f : Fault) → SideFits e → read_in w (view_of c) e ≡ no (stop_of f) →
      Follows w c (Err f) m (took (assign_step x e m))
  unfolding assign_step
  assign-stop x e f ok-e r = bound-stop x _ f (value_is (sees R) e ok-e ∙ r)

  -- `add` AND `sub`
  module _ (o : Operation) (x y z : ℕ) (ly : y < frame_variables) (lz : z < frame_variables) where
    variable-is : (y : ℕ) → y < frame_variables → value_of m.frame y ≡ variable_at w (view_of c).base y
    variable-is y l = rw base-is (R.frame.values y l)

    computed-is :
        computed o (value_of m.frame y) (value_of m.frame z)
        ≡ computed o (variable_at w (view_of c).base y) (variable_at w (view_of c).base z)
    computed-is = ap₂ (computed o) (variable-is y ly) (variable-is z lz)

    pub compute-on :
        (v : ℕ) → x < frame_variables → v < 4294967296 → NotEnd w c →
        computed o (variable_at w (view_of c).base y) (variable_at w (view_of c).base z) ≡ ok v →
        Follows (put_word w (frame_at (c.frames - 1) + x * 4) v) c (Ok (Some (stepped c (c.row + 1)))) m (took (compute_step o x y z m))
    unfolding compute_step
    compute-on v lx lv n r = bound-on x _ v lx lv n (computed-is ∙ r)

    pub compute-stop :
        computed o (variable_at w (view_of c).base y) (variable_at w (view_of c).base z) ≡ no overflow →
        Follows w c (Err Fault.Overflow) m (took (compute_step o x y z m))
    unfolding compute_step stop_of
    compute-stop r = bound-stop x _ Fault.Overflow (computed-is ∙ r)

  -- `open`
  pub open-on :
      (y x f k last : ℕ) → y < frame_variables → x < frame_variables → cell_value w k < 4294967296 → NotEnd w c →
      spot w (view_of c) 2 x f ≡ ok k → walk_in w (view_of c) (λ _. true) f (suc c.objects) (cell_value w k) 0 ≡ ok last →
      Follows (put_word w (frame_at (c.frames - 1) + y * 4) (cell_value w k)) c (Ok (Some (stepped c (c.row + 1)))) m (took (open_step y x f m))
  unfolding ◌>>=◌
  open-on y x f k last ly lx lv n e q =
      subst (λ t. Follows (put_word w (frame_at (c.frames - 1) + y * 4) (cell_value w k)) c (Ok (Some (stepped c (c.row + 1)))) m (took t))
      (sym (open_done m (sees R) x f lx y k last e q)) (bound-on y (ok (cell_value w k)) (cell_value w k) ly lv n refl)

  pub open-stop :
      (y x f : ℕ) (s : Fault) → x < frame_variables → spot w (view_of c) 2 x f ≡ no (stop_of s) →
      Follows w c (Err s) m (took (open_step y x f m))
  open-stop y x f s lx e = follow-stop R s _ (open_no m (sees R) x f lx y (stop_of s) e)

  pub open-walk-stop :
      (y x f k : ℕ) (s : Fault) → x < frame_variables → spot w (view_of c) 2 x f ≡ ok k →
      walk_in w (view_of c) (λ _. true) f (suc c.objects) (cell_value w k) 0 ≡ no (stop_of s) →
      Follows w c (Err s) m (took (open_step y x f m))
  open-walk-stop y x f k s lx e q = follow-stop R s _ (open-walk m (sees R) x f lx y k (stop_of s) e q)

  -- `shut`
  module _ (x f : ℕ) (lx : x < frame_variables) (lf : f < most_names) where
    pub shut-stop : (s : Fault) → spot w (view_of c) 1 x f ≡ no (stop_of s) → Follows w c (Err s) m (took (shut_step x f m))
    shut-stop s e = follow-stop R s _ (shut-no m (sees R) x f lx lf (stop_of s) e)

    module _ (k : ℕ) (e : spot w (view_of c) 1 x f ≡ ok k) where
      pub shut-walk-stop :
          (s : Fault) → walk_in w (view_of c) (λ _. true) f (suc c.objects) (cell_value w k) 0 ≡ no (stop_of s) →
          Follows w c (Err s) m (took (shut_step x f m))
      shut-walk-stop s q = follow-stop R s _ (shut-walk m (sees R) x f lx lf k (stop_of s) e q)

      module _ (last : ℕ) (q : walk_in w (view_of c) (λ _. true) f (suc c.objects) (cell_value w k) 0 ≡ ok last) where
        pub shut-half-stop : halves_at w c.holder k < 2 → Follows w c (Err Fault.Permission) m (took (shut_step x f m))
        unfolding stop_of
        shut-half-stop l = follow-stop R Fault.Permission _ (shut-half m (sees R) x f lx lf k last e q l)

        pub shut-done :
            NotEnd w c → 2 ≤ halves_at w c.holder k → Follows w c (Ok (Some (stepped c (c.row + 1)))) m (took (shut_step x f m))
        shut-done n l = follow-on R _ _ _ (shut-on m (sees R) x f lx lf k last e q l) refl (moved_on R n)

  -- `set`
  pub set_on :
      (x f y k v : ℕ) → x < frame_variables → y < frame_variables → v < 4294967296 → NotEnd w c →
      v ≡ variable_at w (frame_at (c.frames - 1)) y → spot w (view_of c) 2 x f ≡ ok k → k < heap_fields →
      Follows (put_word w (values_at + k * 4) v) c (Ok (Some (stepped c (c.row + 1)))) m (took (set_step x f y m))
  unfolding set_step stored ◌>>=◌ with_frame advance
  set_on x f y k v lx ly lv n ev e kl =
      let w' : List ℕ = put_word w (values_at + k * 4) v in
      let t : SameTables w w' = only-tables (only-word values_at holders_at w (values_at + k * 4) v (omega arith) (omega arith)) (omega arith) in
      let (a, p) = locate-at (sees R) 2 x f k (omega arith) lx e in
      let q : v ≡ value_of m.frame y = ev ∙ sym ((sees R).values y ly) in
      follow-on R _ _ _ (rw (a, ← q)) refl
      (moved_on (put-value R (value_of m.frame x) f k v lv p) (λ z. n (sym (kind-kept w' t) ∙ z)))

  pub set-stop :
      (x f y : ℕ) (s : Fault) → x < frame_variables → spot w (view_of c) 2 x f ≡ no (stop_of s) →
      Follows w c (Err s) m (took (set_step x f y m))
  unfolding set_step ◌>>=◌
  set-stop x f y s lx e = follow-stop R s _ (rw (locate-no (sees R) 2 x f (stop_of s) (omega arith) lx e))

  -- `release`
  module _
      (A : List Location) (ss : List ℕ) (M : Matches w c.objects A ss)
      (held : (p : Location) → halves A p ≤ halves m.frame.held p) where
    released : Represents (marked w ss c.holder 0) c (with_frame m (holding (without A m.frame.held) m.frame))
    unfolding with_frame holding
    released =
        let w' : List ℕ = marked w ss c.holder 0 in
        let s : Only holders_at objects_at w w' = marks-only R A ss 0 M in
        let t : SameTables w w' = marks-tables R A ss 0 M in
        record {
          tables = tables-same w w' t R.tables;
          heap = heap-marked R A ss 0 M c.holders (omega arith) (omega arith) (omega arith);
          frames = R.frames;
          most = R.most;
          frame =
              frame-holding (without A m.frame.held)
              (same-frame holders_at objects_at w w' (length m.callers) s (inr (omega arith))).variables (rows-count-same w w' t) less R.frame;
          ensures =
              ensures-kept w w' t R.tables _ m.frame
              (same-frame holders_at objects_at w w' (length m.callers) s (inr (omega arith))).method R.ensures;
          callers =
              callers-kept w w' t R.tables c.objects c.objects c.holder m.callers
              (λ j l. same-frame holders_at objects_at w w' j s (inr (omega arith)))
              (λ number o l p. others-kept R A ss 0 M held (omega arith) number l (λ e. omega (arith, e, o)) p) R.callers;
          last = R.last;
          given = R.given;
        }
      where
        less : (p : Location) → halves (without A m.frame.held) p ≡ halves_of (marked w ss c.holder 0) c.objects c.holder p
        less p =
            omega (
              arith,
              halves-without A m.frame.held p,
              lost R A ss 0 M held (omega arith) (λ e. omega (arith, e, R.frame.numbered)) p,
              R.frame.held p,
            )

  pub release-on :
      (φ : Formula ℕ) (ss : List ℕ) → FormulaOk φ → NotEnd w c → take_in w (view_of c) φ [] ≡ ok ss →
      Follows (marked w (spread w c.objects ss) c.holder 0) c (Ok (Some (stepped c (c.row + 1)))) m (took (release_step φ m))
  unfolding release_step ◌>>=◌ with_frame advance holding
  release-on φ ss l n e =
      let rs : List ℕ = spread w c.objects ss in
      let (A, a, M) = ok-footprint (sees R) φ ss l e in
      let t : SameTables w (marked w rs c.holder 0) = marks-tables R A rs 0 M in
      follow-on R _ _ _ (rw a) refl
      (moved_on (released A rs M (footprint-held m.heap m.frame φ A a)) (λ z. n (sym (kind-kept (marked w rs c.holder 0) t) ∙ z)))

  pub release-stop :
      (φ : Formula ℕ) (f : Fault) → FormulaOk φ → take_in w (view_of c) φ [] ≡ no (stop_of f) →
      Follows w c (Err f) m (took (release_step φ m))
  unfolding release_step ◌>>=◌
  release-stop φ f l e = follow-stop R f _ (rw (no-footprint (sees R) φ (stop_of f) l e))
