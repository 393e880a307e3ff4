-- What one step does to the heap and to the frames' sets, whatever the statement: it stays in its frame, enters a call or returns
-- from one.
use mathlib.Core.Path.{◌≡◌, refl, sym, ap, ◌∙◌, subst}
use mathlib.Core.Bool.{cond}
use mathlib.Core.List.{List, [], ◌∷◌, map}
use mathlib.Core.Logic.{◌⊎◌, inl, inr, ⊎_elim}
use Prim.Native.Nat.{ℕ, suc, ◌+◌, ◌≤◌, ◌<◌}
use native.Mathlib.Omega.{arith}
use native.Mathlib.Nat.{le_refl}
use lib.ListN.{length, get_or, length-append}
use Rattle.rules.specs.Base.{ok}
use Rattle.rules.specs.Syntax.{Rel, Expr, Operation, Simple, Stmt, Field, Method, Formula, Program, method_numbered, result_variable}
use Rattle.rules.specs.Syntax.{path, set, assign, compute, new, call, return, assert, release, open_chain, shut_chain, simple, if, else, join, loop, again, end}
use Rattle.rules.specs.Machine.{Config, Frame, Location, Cell, Room, on, halves, whole_of, without, value_at, value_of, locate, value, compared, footprint, jump, advance, bind, holding, with_frame, choose}
use Rattle.rules.specs.Machine.{if_step, else_step, loop_step, again_step, stored, set_step, assign_step, computed, compute_step, new_cell, grown, new_step, call_frame, entered, call_step, returned, assert_step, release_step, take_walk, open_step, shut_step, end_step, return_step, simple_step, step_at, step, statement_of}
use Rattle.rules.proofs.Tries.{bind_ok, check-ok, ok-inj}
use Rattle.rules.proofs.Sets.{location-eq, halves-append, halves-without, whole-most, whole-new, locate-held, locate-is}
use Rattle.rules.proofs.Footprints.{footprint-held}
use Rattle.rules.proofs.Lists.{decide_eq}
use Rattle.rules.proofs.Heaps.{store_other, store_length, grown-other}
use Rattle.rules.proofs.States.{on-inj, took-on}

-- how many halves of a location the frame holds
abbrev pub holds : Frame → Location → ℕ
holds F p = halves F.held p

-- a location of an object that the step made: the frame gains it whole
pub record Gained (m m' : Config) (p : Location) : Type 0 where
  pub new : length m.heap < p.object
  pub exists : p.object ≤ length m'.heap
  pub gained : holds m'.frame p ≤ holds m.frame p + 2

-- the frame goes on: it gains only locations of new objects, and what it does not hold whole keeps its value
pub record Within (m m' : Config) : Type 0 where
  pub callers : m'.callers ≡ m.callers
  pub grows : length m.heap ≤ length m'.heap
  pub gains : (p : Location) → (holds m'.frame p ≤ holds m.frame p) ⊎ Gained m m' p
  pub outside :
      (p : Location) → holds m.frame p < 2 → p.object ≤ length m.heap →
      value_at m'.heap p.object p.field ≡ value_at m.heap p.object p.field

-- a call: the set is divided between the frame that is entered and its caller
pub record Entering (m m' : Config) : Type 0 where
  pub caller : Frame
  pub callers : m'.callers ≡ caller ∷ m.callers
  pub heap : m'.heap ≡ m.heap
  pub divided : (p : Location) → holds m'.frame p + holds caller p ≤ holds m.frame p

-- a call's `end` or `return`: the caller goes on, with its set and some of the ended frame's
pub record Returning (m m' : Config) : Type 0 where
  pub caller : Frame
  pub callers : m.callers ≡ caller ∷ m'.callers
  pub heap : m'.heap ≡ m.heap
  pub gains : (p : Location) → holds m'.frame p ≤ holds caller p + holds m.frame p

pub data Change (m m' : Config) : Type 0 where
  within : Within m m' → Change m m'
  entering : Entering m m' → Change m m'
  returning : Returning m m' → Change m m'

-- a step that leaves the callers as they are stays in its frame
pub change-within : (m m' : Config) → Change m m' → m'.callers ≡ m.callers → Within m m'
change-within m m' (within W) e = W
change-within m m' (entering N) e = absurd (omega (arith, ap (λ (Fs : List Frame). length Fs) (sym e ∙ N.callers)))
change-within m m' (returning R) e = absurd (omega (arith, ap (λ (Fs : List Frame). length Fs) (e ∙ R.callers)))

-- STATEMENTS
-- only the frame changes, and its set does not grow
same_heap :
    (m : Config) (F : Frame) → ((p : Location) → holds F p ≤ holds m.frame p) → Within m (with_frame m F)
unfolding with_frame
same_heap m F s = record { callers = refl; grows = le_refl _; gains = λ p. inl (s p); outside = λ p n l. refl }

stored-within :
    (m : Config) (p : Location) (v : ℕ) → 2 ≤ holds m.frame p → Within m (stored m p.object p.field v)
unfolding stored advance jump
stored-within m p v i =
    record {
      callers = refl;
      grows = store_length m.heap p.object p.field v;
      gains = λ q. inl (le_refl _);
      outside =
          λ q n l.
          store_other m.heap p.object p.field v q.object q.field
          (λ e.
          omega (arith, n, subst (λ (r : Location). 2 ≤ holds m.frame r) (location-eq e.0 (sym e.1)) i));
    }

set-within : (x f y : ℕ) (m m' : Config) → set_step x f y m ≡ ok m' → Within m m'
unfolding set_step
set-within x f y m m' e =
    let (p, l, q) = bind_ok (locate m.frame [] 2 x f) e in
    let v : ℕ = value_of m.frame y in
    let is : p.field ≡ f = ap (λ (r : Location). r.field) (locate-is m.frame [] 2 x f p l) in
    subst (Within m) (ap (λ (g : ℕ). stored m p.object g v) is ∙ ok-inj q)
    (stored-within m p v (omega (arith, locate-held m.frame [] 2 x f p l)))

assign-within : (x : ℕ) (e : Expr ℕ) (m m' : Config) → assign_step x e m ≡ ok m' → Within m m'
unfolding assign_step advance jump bind
assign-within x e m m' q =
    let (v, _, r) = bind_ok (value m.heap m.frame e) q in
    subst (Within m) (ok-inj r) (same_heap m (advance (bind x v m.frame)) (λ p. le_refl _))

compute-within : (o : Operation) (x y z : ℕ) (m m' : Config) → compute_step o x y z m ≡ ok m' → Within m m'
unfolding compute_step advance jump bind
compute-within o x y z m m' q =
    let (v, _, r) = bind_ok (computed o (value_of m.frame y) (value_of m.frame z)) q in
    subst (Within m) (ok-inj r) (same_heap m (advance (bind x v m.frame)) (λ p. le_refl _))

grown-within : (x : ℕ) (cs : List Cell) (m : Config) → Within m (grown m x cs)
unfolding grown advance jump bind holding
grown-within x cs m =
    record {
      callers = refl;
      grows = rw length-append (omega arith);
      gains =
          λ p.
          let o : ℕ = suc (length m.heap) in
          let sum = halves-append m.frame.held (whole_of o cs) p in
          ⊎_elim
          (λ z. inl (omega (arith, z, sum)))
          (λ z.
          let e : p.object ≡ o = whole-new o cs p (omega (arith, z)) in
          inr
          (record {
            new = omega (arith, e);
            exists = omega (arith, e, length-append m.heap (cs ∷ []));
            gained = omega (arith, sum, whole-most o cs p);
          }))
          (decide_eq (halves (whole_of o cs) p) 0);
      outside = λ p n l. grown-other m.heap cs p.object p.field l;
    }

new-within : (room : Room) (x : ℕ) (fs : List Field) (m m' : Config) → new_step room x fs m ≡ ok m' → Within m m'
unfolding new_step
new-within room x fs m m' e = subst (Within m) (ok-inj (check-ok _ _ e).1) (grown-within x (map new_cell fs) m)

entered-entering :
    (m : Config) (M : Method) (y z : ℕ) (A : List Location) → footprint m.heap (call_frame m M y z) M.requires ≡ ok A →
    Entering m (entered m (call_frame m M y z) A)
unfolding entered holding call_frame
entered-entering m M y z A e =
    record {
      caller = holding (without A m.frame.held) m.frame;
      callers = refl;
      heap = refl;
      divided =
          λ p.
          omega
          (arith, footprint-held m.heap (call_frame m M y z) M.requires A e p, halves-without A m.frame.held p);
    }

-- a call that is done enters with the footprint of requires
pub call_enters :
    (y : ℕ) (M : Method) (z : ℕ) (m m' : Config) → call_step y M z m ≡ ok m' →
    (A :
    List Location) × (footprint m.heap (call_frame m M y z) M.requires ≡ ok A) × (m' ≡ entered m (call_frame m M y z) A)
unfolding call_step
call_enters y M z m m' e =
    let (A, f, q) = bind_ok (footprint m.heap (call_frame m M y z) M.requires) (check-ok _ _ e).1 in
    (A, f, sym (ok-inj (check-ok _ _ q).1))

call-entering : (y : ℕ) (M : Method) (z : ℕ) (m m' : Config) → call_step y M z m ≡ ok m' → Entering m m'
call-entering y M z m m' e =
    let (A, f, q) = call_enters y M z m m' e in subst (Entering m) (sym q) (entered-entering m M y z A f)

assert-within : (φ : Formula ℕ) (m m' : Config) → assert_step φ m ≡ ok m' → Within m m'
unfolding assert_step advance jump
assert-within φ m m' e =
    let (A, _, q) = bind_ok (footprint m.heap m.frame φ) e in
    subst (Within m) (ok-inj q) (same_heap m (advance m.frame) (λ p. le_refl _))

release-within : (φ : Formula ℕ) (m m' : Config) → release_step φ m ≡ ok m' → Within m m'
unfolding release_step advance jump holding
release-within φ m m' e =
    let (A, _, q) = bind_ok (footprint m.heap m.frame φ) e in
    subst (Within m) (ok-inj q)
    (same_heap m (advance (holding (without A m.frame.held) m.frame))
    (λ p. omega (arith, halves-without A m.frame.held p)))

open-within : (y x f : ℕ) (m m' : Config) → open_step y x f m ≡ ok m' → Within m m'
unfolding open_step advance jump bind
open-within y x f m m' e =
    let (_, e₁) = check-ok _ _ e in
    let (A, _, q) = bind_ok (take_walk m.heap m.frame f (value_of m.frame x) []) e₁ in
    subst (Within m) (ok-inj q) (same_heap m _ (λ p. le_refl _))

shut-within : (x f : ℕ) (m m' : Config) → shut_step x f m ≡ ok m' → Within m m'
unfolding shut_step advance jump
shut-within x f m m' e =
    let (v, _, e₁) = bind_ok (value m.heap m.frame (path x f)) e in
    let (A, _, e₂) = bind_ok (take_walk m.heap m.frame f v []) e₁ in
    let (p, _, q) = bind_ok (locate m.frame A 2 x f) e₂ in
    subst (Within m) (ok-inj q) (same_heap m _ (λ p. le_refl _))

jump-within : (m : Config) (i : ℕ) → Within m (with_frame m (jump i m.frame))
unfolding jump
jump-within m i = same_heap m (jump i m.frame) (λ p. le_refl _)

choose-within : (n : Rel) (a b : Expr ℕ) (i j : ℕ) (m m' : Config) → choose n a b i j m ≡ ok m' → Within m m'
unfolding choose
choose-within n a b i j m m' e =
    let (v, _, q) = bind_ok (value m.heap m.frame a) e in
    let (w, _, r) = bind_ok (value m.heap m.frame b) q in
    subst (Within m) (ok-inj r) (jump-within m (cond (compared n v w) i j))

returned-returning :
    (P : Program) (m : Config) (C : Frame) (Cs : List Frame) (A : List Location) → m.callers ≡ C ∷ Cs →
    footprint m.heap m.frame m.frame.ensures ≡ ok A → Returning m (returned P m C Cs A)
unfolding returned advance jump bind holding
returned-returning P m C Cs A c e =
    record {
      caller = C;
      callers = c;
      heap = refl;
      gains =
          λ p.
          omega (arith, footprint-held m.heap m.frame m.frame.ensures A e p, halves-append C.held A p);
    }

end-returning : (P : Program) (m m' : Config) (Cs : List Frame) → m.callers ≡ Cs → end_step P m Cs ≡ on m' → Returning m m'
unfolding end_step
end-returning P m m' [] c e = absurd (let z : ◌≡◌ {A = ℕ} 0 1 = cc in omega arith)
end-returning P m m' (C ∷ Cs) c e =
    let (A, f, q) = bind_ok (footprint m.heap m.frame m.frame.ensures) (took-on _ m' e) in
    subst (Returning m) (ok-inj q) (returned-returning P m C Cs A c f)

return-returning : (P : Program) (x : ℕ) (m m' : Config) → return_step P x m ≡ on m' → Returning m m'
unfolding return_step with_frame bind
return-returning P x m m' e =
    let R : Returning (with_frame m (bind result_variable (value_of m.frame x) m.frame)) m' =
    end-returning P _ m' m.callers refl e in
    record { caller = R.caller; callers = R.callers; heap = R.heap; gains = R.gains }

-- A STEP
module _ (room : Room) (P : Program) where
  simple-changes : (p : Simple) (m m' : Config) → simple_step room P p m ≡ ok m' → Change m m'
  unfolding simple_step
  simple-changes (set x f y) m m' e = within (set-within x f y m m' e)
  simple-changes (assign x a) m m' e = within (assign-within x a m m' e)
  simple-changes (compute o x y z) m m' e = within (compute-within o x y z m m' e)
  simple-changes (new x c) m m' e = within (new-within room x (get_or P.classes c []) m m' e)
  simple-changes (call x y n z) m m' e = entering (call-entering y (method_numbered P n) z m m' e)
  simple-changes (assert φ) m m' e = within (assert-within φ m m' e)
  simple-changes (release φ) m m' e = within (release-within φ m m' e)
  simple-changes (open_chain y x f) m m' e = within (open-within y x f m m' e)
  simple-changes (shut_chain x f) m m' e = within (shut-within x f m m' e)

  step_at-changes : (s : Stmt) (m m' : Config) → step_at room P s m ≡ on m' → Change m m'
  unfolding step_at if_step else_step loop_step again_step
  step_at-changes (simple p) m m' e = simple-changes p m m' (took-on _ m' e)
  step_at-changes (return x) m m' e = returning (return-returning P x m m' e)
  step_at-changes (if n a b) m m' e = within (choose-within n a b _ _ m m' (took-on _ m' e))
  step_at-changes else m m' e = within (subst (Within m) (on-inj e) (jump-within m _))
  step_at-changes (join φ) m m' e = within (assert-within φ m m' (took-on _ m' e))
  step_at-changes (loop n a b φ) m m' e =
      let (_, _, q) = bind_ok _ (took-on _ m' e) in within (choose-within n a b _ _ m m' q)
  step_at-changes again m m' e = within (subst (Within m) (on-inj e) (jump-within m _))
  step_at-changes end m m' e = returning (end-returning P m m' m.callers refl e)

  pub step-changes : (m m' : Config) → step room P m ≡ on m' → Change m m'
  unfolding step
  step-changes m m' e = step_at-changes (statement_of P m.frame) m m' e

  -- a `call` step that is done
  call-done :
      (x y n z : ℕ) (m m' : Config) → step_at room P (simple (call x y n z)) m ≡ on m' →
      call_step y (method_numbered P n) z m ≡ ok m'
  unfolding step_at simple_step
  call-done x y n z m m' e = took-on _ m' e

  pub step-enters :
      (x y n z : ℕ) (m m' : Config) → statement_of P m.frame ≡ simple (call x y n z) → step room P m ≡ on m' →
      call_step y (method_numbered P n) z m ≡ ok m'
  unfolding step
  step-enters x y n z m m' r e = call-done x y n z m m' (subst (λ (s : Stmt). step_at room P s m ≡ on m') r e)
