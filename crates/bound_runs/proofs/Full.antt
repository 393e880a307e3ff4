-- Where the frames are full: only a `call` stops with 23, and only where 64 frames are open.
use mathlib.Core.Path.{◌≡◌, refl, subst}
use mathlib.Core.Bool.{Bool, true, false, cond, not}
use mathlib.Core.List.{List, [], ◌∷◌}
use mathlib.Core.Option.{some}
use Prim.Native.Nat.{ℕ, zero, suc, ◌≤◌}
use native.Mathlib.Omega.{arith}
use lib.Dec.{T, eqb, ltb, nltb→le}
use lib.ListN.{length}
use Rattle.rules.specs.Base.{Try, ok, no, ◌>>=◌, ◌>>◌, check}
use Rattle.rules.specs.Limits.{most_frames}
use Rattle.rules.specs.Answers.{Stop, heap_full, frames_full, permission_missing, null_followed, formula_false, overflow}
use Rattle.rules.specs.Syntax.{Rel, Expr, Formula, Permit, Method, Simple, Stmt, Program, method_numbered, acc, read, chain, num, null, var, path, own, cmp}
use Rattle.rules.specs.Syntax.{set, assign, compute, new, call, return, assert, release, open_chain, shut_chain, simple, if, else, join, loop, again, end}
use Rattle.rules.specs.Machine.{Config, Frame, Heap, Location, Room, Step, stop, value_of, value_at, locate, value, walk, take_walk, take_halves, take_share, take_from, footprint, call_frame, choose, if_step, loop_step}
use Rattle.rules.specs.Machine.{set_step, assign_step, computed, compute_step, new_step, call_step, assert_step, release_step, open_step, shut_step, took, end_step, return_step, simple_step, step_at, step, statement_of}
use Rattle.rules.specs.Bounds.{is_end, called}

-- WHAT IS TRIED DOES NOT STOP SO
abbrev Other : Stop → Type 0
Other heap_full = Unit {0}
Other frames_full = ⊥
Other permission_missing = Unit {0}
Other null_followed = Unit {0}
Other formula_false = Unit {0}
Other overflow = Unit {0}

abbrev Unfull : {A : Type 0} → Try Stop A → Type 0
Unfull (ok a) = Unit {0}
Unfull (no s) = Other s

bind-unfull : {A B : Type 0} (a : Try Stop A) (f : A → Try Stop B) → Unfull a → ((x : A) → Unfull (f x)) → Unfull (a >>= f)
unfolding ◌>>=◌
bind-unfull (ok x) f u h = h x
bind-unfull (no s) f u h = u

check-unfull : {B : Type 0} (c : Bool) (s : Stop) (b : Try Stop B) → (T c → Unfull b) → Other s → Unfull (check c s >> b)
unfolding ◌>>◌ check
check-unfull true s b h o = h tt
check-unfull false s b h o = o

cond-unfull : {A : Type 0} (c : Bool) (a : A) (r : Try Stop A) → Unfull r → Unfull (cond c (ok a) r)
cond-unfull true a r u = tt
cond-unfull false a r u = u

module _ (F : Frame) where
  locate-unfull : (taken : List Location) (n x f : ℕ) → Unfull (locate F taken n x f)
  unfolding locate
  locate-unfull taken n x f = check-unfull _ null_followed _ (λ u. check-unfull _ permission_missing _ (λ v. tt) tt) tt

  module _ (h : Heap) where
    value-unfull : (e : Expr ℕ) → Unfull (value h F e)
    unfolding value
    value-unfull (num n) = tt
    value-unfull null = tt
    value-unfull (var x) = tt
    value-unfull (path x f) = bind-unfull (locate F [] 1 x f) _ (locate-unfull [] 1 x f) (λ p. tt)

    walk-unfull : (taken : List Location) (f n o : ℕ) (passed : List Location) → Unfull (walk h F taken f n o passed)
    unfolding walk
    walk-unfull taken f zero o passed = cond-unfull (eqb o 0) passed (no permission_missing) tt
    walk-unfull taken f (suc n) o passed =
        cond-unfull (eqb o 0) passed _
        (check-unfull _ formula_false _
        (λ u. check-unfull _ permission_missing _ (λ v. walk-unfull taken f n (value_at h o f) _) tt) tt)

    take-walk-unfull : (f o : ℕ) (taken : List Location) → Unfull (take_walk h F f o taken)
    unfolding take_walk
    take-walk-unfull f o taken = bind-unfull (walk h F taken f (length F.held) o []) _ (walk-unfull taken f _ o []) (λ ws. tt)

    share-unfull : (k : Permit) (x f : ℕ) (taken : List Location) → Unfull (take_share h F k x f taken)
    unfolding take_share take_halves
    share-unfull acc x f taken = bind-unfull (locate F taken 2 x f) _ (locate-unfull taken 2 x f) (λ p. tt)
    share-unfull read x f taken = bind-unfull (locate F taken 1 x f) _ (locate-unfull taken 1 x f) (λ p. tt)
    share-unfull chain x f taken = take-walk-unfull f (value_of F x) taken

    from-unfull : (φ : Formula ℕ) (taken : List Location) → Unfull (take_from h F φ taken)
    unfolding take_from
    from-unfull [] taken = tt
    from-unfull (own k x f ∷ φ) taken = bind-unfull (take_share h F k x f taken) _ (share-unfull k x f taken) (λ A. from-unfull φ A)
    from-unfull (cmp n a b ∷ φ) taken =
        bind-unfull (value h F a) _ (value-unfull a)
        (λ v. bind-unfull (value h F b) _ (value-unfull b) (λ w. check-unfull _ formula_false _ (λ u. from-unfull φ taken) tt))

    formula-unfull : (φ : Formula ℕ) → Unfull (footprint h F φ)
    unfolding footprint
    formula-unfull φ = from-unfull φ []

-- STEPS
module _ (m : Config) where
  choose-unfull : (n : Rel) (a b : Expr ℕ) (i j : ℕ) → Unfull (choose n a b i j m)
  unfolding choose
  choose-unfull n a b i j =
      bind-unfull (value m.heap m.frame a) _ (value-unfull m.frame m.heap a)
      (λ v. bind-unfull (value m.heap m.frame b) _ (value-unfull m.frame m.heap b) (λ w. tt))

  call-unfull : (y : ℕ) (M : Method) (z : ℕ) → T (ltb (suc (length m.callers)) most_frames) → Unfull (call_step y M z m)
  unfolding call_step check ◌>>◌
  call-unfull y M z t =
      check-unfull (not (eqb (value_of m.frame y) 0)) null_followed _
      (λ u.
      bind-unfull (footprint m.heap (call_frame m M y z) M.requires) _ (formula-unfull (call_frame m M y z) m.heap M.requires)
      (λ A. go (ltb (suc (length m.callers)) most_frames) t _))
      tt
    where
      go : {B : Type 0} (c : Bool) → T c → (b : B) → Unfull (check c frames_full >> ok b)
      go true t b = tt
      go false t b = absurd t

  -- a `call` that stops so
  pub record FullAt (s : Stmt) : Type 0 where
    pub method : ℕ
    pub is_call : called s ≡ some method
    pub goes : is_end s ≡ false
    pub full : most_frames ≤ suc (length m.callers)

  took-full : (t : Try Stop Config) → Unfull t → took t ≡ stop frames_full → ⊥
  unfolding took
  took-full (ok a) u e = let z : ◌≡◌ {A = ℕ} 0 1 = cc in omega arith
  took-full (no s) u e = subst Other (stop-inj e) u
    where
      stop-inj : {s s' : Stop} → ◌≡◌ {A = Step} (stop s) (stop s') → s ≡ s'
      stop-inj e = cc

  call-full : (x y n z : ℕ) (M : Method) → took (call_step y M z m) ≡ stop frames_full → FullAt (simple (call x y n z))
  unfolding called is_end
  call-full x y n z M e = go (ltb (suc (length m.callers)) most_frames) refl
    where
      go : (c : Bool) → ltb (suc (length m.callers)) most_frames ≡ c → FullAt (simple (call x y n z))
      go true c = absurd (took-full (call_step y M z m) (call-unfull y M z (rw c tt)) e)
      go false c = record { method = n; is_call = refl; goes = refl; full = nltb→le (suc (length m.callers)) most_frames (rw c tt) }

  module _ (room : Room) (P : Program) where
    simple-unfull : (p : Simple) → took (simple_step room P p m) ≡ stop frames_full → FullAt (simple p)
    unfolding simple_step set_step assign_step compute_step computed new_step assert_step release_step open_step shut_step
    simple-unfull (set x f y) e = absurd (took-full _ (bind-unfull (locate m.frame [] 2 x f) _ (locate-unfull m.frame [] 2 x f) (λ p. tt)) e)
    simple-unfull (assign x a) e =
        absurd (took-full _ (bind-unfull (value m.heap m.frame a) _ (value-unfull m.frame m.heap a) (λ v. tt)) e)
    simple-unfull (compute o x y z) e =
        absurd (took-full _ (bind-unfull _ _ (check-unfull _ overflow _ (λ u. tt) tt) (λ v. tt)) e)
    simple-unfull (new x c) e = absurd (took-full _ (check-unfull _ heap_full _ (λ u. tt) tt) e)
    simple-unfull (call x y n z) e = call-full x y n z (method_numbered P n) e
    simple-unfull (assert φ) e =
        absurd (took-full _ (bind-unfull (footprint m.heap m.frame φ) _ (formula-unfull m.frame m.heap φ) (λ A. tt)) e)
    simple-unfull (release φ) e =
        absurd (took-full _ (bind-unfull (footprint m.heap m.frame φ) _ (formula-unfull m.frame m.heap φ) (λ A. tt)) e)
    simple-unfull (open_chain y x f) e =
        absurd
        (took-full _
        (check-unfull _ null_followed _
        (λ u. bind-unfull (take_walk m.heap m.frame f (value_of m.frame x) []) _ (take-walk-unfull m.frame m.heap f _ []) (λ A. tt)) tt) e)
    simple-unfull (shut_chain x f) e =
        absurd
        (took-full _
        (bind-unfull (value m.heap m.frame (path x f)) _ (value-unfull m.frame m.heap (path x f))
        (λ v.
        bind-unfull (take_walk m.heap m.frame f v []) _ (take-walk-unfull m.frame m.heap f v [])
        (λ A. bind-unfull (locate m.frame A 2 x f) _ (locate-unfull m.frame A 2 x f) (λ p. tt)))) e)

    end-unfull : (c : Config) (Cs : List Frame) → end_step P c Cs ≡ stop frames_full → ⊥
    unfolding end_step
    end-unfull c [] e = let z : ◌≡◌ {A = ℕ} 0 1 = cc in omega arith
    end-unfull c (C ∷ Cs) e =
        took-full _
        (bind-unfull (footprint c.heap c.frame c.frame.ensures) _ (formula-unfull c.frame c.heap c.frame.ensures) (λ A. tt)) e

    row-full : (s : Stmt) → step_at room P s m ≡ stop frames_full → FullAt s
    unfolding step_at if_step loop_step return_step assert_step
    row-full (simple p) e = simple-unfull p e
    row-full (return x) e = absurd (end-unfull _ m.callers e)
    row-full (if n a b) e = absurd (took-full _ (choose-unfull n a b _ _) e)
    row-full else e = absurd (let z : ◌≡◌ {A = ℕ} 0 1 = cc in omega arith)
    row-full (join φ) e =
        absurd (took-full _ (bind-unfull (footprint m.heap m.frame φ) _ (formula-unfull m.frame m.heap φ) (λ A. tt)) e)
    row-full (loop n a b φ) e =
        absurd
        (took-full _
        (bind-unfull (footprint m.heap m.frame φ) _ (formula-unfull m.frame m.heap φ) (λ A. choose-unfull n a b _ _)) e)
    row-full again e = absurd (let z : ◌≡◌ {A = ℕ} 0 1 = cc in omega arith)
    row-full end e = absurd (end-unfull m m.callers e)

    pub step-full : step room P m ≡ stop frames_full → FullAt (statement_of P m.frame)
    unfolding step
    step-full e = row-full (statement_of P m.frame) e
