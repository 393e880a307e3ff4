-- What one step does to the rows of the frames, where rows nest and no block has a loop: it goes on in its block, enters a method or
-- returns from one.
use mathlib.Core.Path.{◌≡◌, refl, sym, ap, ◌∙◌, subst}
use mathlib.Core.Bool.{Bool, true, false, cond}
use mathlib.Core.List.{List, [], ◌∷◌}
use mathlib.Core.Option.{some}
use Prim.Native.Nat.{ℕ, suc}
use native.Mathlib.Omega.{arith}
use lib.Dec.{T, ltb}
use lib.ListN.{length}
use Rattle.bound_laws.specs.Routes.{Loopless}
use Rattle.rules.specs.Base.{ok}
use Rattle.rules.specs.Limits.{most_branches}
use Rattle.rules.specs.Syntax.{Rel, Expr, Formula, Operation, Simple, Stmt, Field, Program, path, row_numbered, method_numbered}
use Rattle.rules.specs.Syntax.{set, assign, compute, new, call, return, assert, release, open_chain, shut_chain, simple, if, else, join, loop, again, end}
use Rattle.rules.specs.Machine.{Config, Frame, Room, on, statement_of, without, footprint, value, compared, locate, closing, jump, advance, bind, holding, with_frame, choose, if_step}
use Rattle.rules.specs.Machine.{else_step, take_walk, stored, set_step, assign_step, computed, compute_step, grown, new_step, call_frame, entered, call_step, returned, assert_step, release_step, open_step, shut_step, end_step, return_step, simple_step, step_at, step, value_of}
use Rattle.rules.specs.Bounds.{is_end, called, is_loop, block}
use Rattle.rules.proofs.Lists.{and_both}
use Rattle.rules.proofs.Tries.{bind_ok, check-ok, ok-inj}
use Rattle.rules.proofs.Changes.{call_enters}
use Rattle.rules.proofs.States.{on-inj, took-on}
use Rattle.nesting.specs.Nests.{Wait, for_else, for_join, for_again, row_nests}
use Rattle.bound_laws.proofs.Blocks.{block-first}
use Rattle.bound_runs.proofs.InBlock.{Later, same, NestsAt, goes, nests-row, nests-next, after_else, to_join}

-- no loop is open
abbrev pub NoLoop : List Wait → Type 0
NoLoop [] = Unit {0}
NoLoop (for_else ∷ ws) = NoLoop ws
NoLoop (for_join ∷ ws) = NoLoop ws
NoLoop (for_again ∷ ws) = ⊥

-- the rows from i on nest, with branches open and no loop
abbrev pub Nested : Program → ℕ → Type 0
Nested P i = (ws : List Wait) × NestsAt P i ws × NoLoop ws

module _ (P : Program) where
  pub data Move (m m' : Config) : Type 0 where
    goes_on :
        is_end (statement_of P m.frame) ≡ false → Later P (suc m.frame.row) m'.frame.row → Nested P m'.frame.row →
        m'.callers ≡ m.callers → Move m m'
    enters :
        (n : ℕ) (C : Frame) → is_end (statement_of P m.frame) ≡ false → called (statement_of P m.frame) ≡ some n →
        m'.frame.row ≡ (method_numbered P n).first → C.row ≡ m.frame.row → Nested P (suc m.frame.row) →
        m'.callers ≡ C ∷ m.callers → Move m m'
    returns : (C : Frame) → m.callers ≡ C ∷ m'.callers → m'.frame.row ≡ suc C.row → Move m m'

-- on to the next line
abbrev Stays : Config → Config → Type 0
Stays m m' = (m'.frame.row ≡ suc m.frame.row) × (m'.callers ≡ m.callers)

set-stays : (x f y : ℕ) (m m' : Config) → set_step x f y m ≡ ok m' → Stays m m'
unfolding set_step stored advance jump
set-stays x f y m m' e = let (p, _, q) = bind_ok (locate m.frame [] 2 x f) e in subst (Stays m) (ok-inj q) (refl, refl)

assign-stays : (x : ℕ) (a : Expr ℕ) (m m' : Config) → assign_step x a m ≡ ok m' → Stays m m'
unfolding assign_step with_frame advance jump bind
assign-stays x a m m' e = let (v, _, q) = bind_ok (value m.heap m.frame a) e in subst (Stays m) (ok-inj q) (refl, refl)

compute-stays : (o : Operation) (x y z : ℕ) (m m' : Config) → compute_step o x y z m ≡ ok m' → Stays m m'
unfolding compute_step with_frame advance jump bind
compute-stays o x y z m m' e =
    let (v, _, q) = bind_ok (computed o (value_of m.frame y) (value_of m.frame z)) e in subst (Stays m) (ok-inj q) (refl, refl)

new-stays : (room : Room) (x : ℕ) (fs : List Field) (m m' : Config) → new_step room x fs m ≡ ok m' → Stays m m'
unfolding new_step grown advance jump bind holding
new-stays room x fs m m' e = subst (Stays m) (ok-inj (check-ok _ _ e).1) (refl, refl)

assert-stays : (φ : Formula ℕ) (m m' : Config) → assert_step φ m ≡ ok m' → Stays m m'
unfolding assert_step with_frame advance jump
assert-stays φ m m' e = let (A, _, q) = bind_ok (footprint m.heap m.frame φ) e in subst (Stays m) (ok-inj q) (refl, refl)

release-stays : (φ : Formula ℕ) (m m' : Config) → release_step φ m ≡ ok m' → Stays m m'
unfolding release_step with_frame advance jump holding
release-stays φ m m' e = let (A, _, q) = bind_ok (footprint m.heap m.frame φ) e in subst (Stays m) (ok-inj q) (refl, refl)

open_stays : (y x f : ℕ) (m m' : Config) → open_step y x f m ≡ ok m' → Stays m m'
unfolding open_step with_frame advance jump bind
open_stays y x f m m' e =
    let (A, _, q) = bind_ok (take_walk m.heap m.frame f (value_of m.frame x) []) (check-ok _ _ e).1 in
    subst (Stays m) (ok-inj q) (refl, refl)

shut-stays : (x f : ℕ) (m m' : Config) → shut_step x f m ≡ ok m' → Stays m m'
unfolding shut_step with_frame advance jump
shut-stays x f m m' e =
    let (v, _, q) = bind_ok (value m.heap m.frame (path x f)) e in
    let (A, _, r) = bind_ok (take_walk m.heap m.frame f v []) q in
    let (p, _, s) = bind_ok (locate m.frame A 2 x f) r in
    subst (Stays m) (ok-inj s) (refl, refl)

module _ (room : Room) (P : Program) (m m' : Config) where
  abbrev i : ℕ
  i = m.frame.row

  abbrev Is : Stmt → Type 0
  Is t = statement_of P m.frame ≡ t

  goes-here : (t : Stmt) → Is t → is_end t ≡ false → is_end (statement_of P m.frame) ≡ false
  goes-here t w n = ap is_end w ∙ n

  stays-move : (t : Stmt) → Is t → is_end t ≡ false → Nested P (suc i) → Stays m m' → Move P m m'
  stays-move t w n N (a, b) =
      goes_on (goes-here t w n) (subst (Later P (suc i)) (sym a) same) (subst (Nested P) (sym a) N) b

  jump-move :
      (t : Stmt) → Is t → is_end t ≡ false → (j : ℕ) → Later P (suc i) j → Nested P j → with_frame m (jump j m.frame) ≡ m' → Move P m m'
  unfolding with_frame jump
  jump-move t w n j l N e =
      let is : j ≡ m'.frame.row = ap (λ (c : Config). c.frame.row) e in
      goes_on (goes-here t w n) (subst (Later P (suc i)) is l) (subst (Nested P) is N) (sym (ap (λ (c : Config). c.callers) e))

  call-move : (x y n z : ℕ) → Is (simple (call x y n z)) → Nested P (suc i) → call_step y (method_numbered P n) z m ≡ ok m' → Move P m m'
  unfolding entered holding call_frame is_end called
  call-move x y n z w N e =
      let (A, _, f) = call_enters y (method_numbered P n) z m m' e in
      enters n (holding (without A m.frame.held) m.frame) (goes-here _ w refl) (ap called w)
      (ap (λ (c : Config). c.frame.row) f) refl N (ap (λ (c : Config). c.callers) f)

  simple-move : (p : Simple) → Is (simple p) → Nested P (suc i) → simple_step room P p m ≡ ok m' → Move P m m'
  unfolding simple_step is_end
  simple-move (set x f y) w N q = stays-move _ w refl N (set-stays x f y m m' q)
  simple-move (assign x a) w N q = stays-move _ w refl N (assign-stays x a m m' q)
  simple-move (compute o x y z) w N q = stays-move _ w refl N (compute-stays o x y z m m' q)
  simple-move (new x c) w N q = stays-move _ w refl N (new-stays room x _ m m' q)
  simple-move (call x y n z) w N q = call-move x y n z w N q
  simple-move (assert φ) w N q = stays-move _ w refl N (assert-stays φ m m' q)
  simple-move (release φ) w N q = stays-move _ w refl N (release-stays φ m m' q)
  simple-move (open_chain y x f) w N q = stays-move _ w refl N (open_stays y x f m m' q)
  simple-move (shut_chain x f) w N q = stays-move _ w refl N (shut-stays x f m m' q)

  choose_move :
      (t : Stmt) → Is t → is_end t ≡ false → (n : Rel) (a b : Expr ℕ) (j k : ℕ) → Later P (suc i) j → Nested P j →
      Later P (suc i) k → Nested P k → choose n a b j k m ≡ ok m' → Move P m m'
  unfolding choose
  choose_move t w u n a b j k lj Nj lk Nk e =
      let (x, _, q) = bind_ok (value m.heap m.frame a) e in
      let (y, _, r) = bind_ok (value m.heap m.frame b) q in
      go (compared n x y) (ok-inj r)
    where
      go : (c : Bool) → with_frame m (jump (cond c j k) m.frame) ≡ m' → Move P m m'
      go true e = jump-move t w u j lj Nj e
      go false e = jump-move t w u k lk Nk e

  end-move : (c : Config) → c.callers ≡ m.callers → (Cs : List Frame) → m.callers ≡ Cs → end_step P c Cs ≡ on m' → Move P m m'
  unfolding end_step returned advance jump bind holding
  end-move c s [] e q = absurd (let z : ◌≡◌ {A = ℕ} 0 1 = cc in omega arith)
  end-move c s (C ∷ Cs) e q =
      let (A, _, f) = bind_ok (footprint c.heap c.frame c.frame.ensures) (took-on _ m' q) in
      let is : returned P c C Cs A ≡ m' = ok-inj f in
      returns C (e ∙ ap (λ (Cs : List Frame). C ∷ Cs) (ap (λ (w : Config). w.callers) is)) (sym (ap (λ (w : Config). w.frame.row) is))

  row_move :
      (t : Stmt) → Is t → (is_loop t ≡ true → ⊥) → (ws : List Wait) → NoLoop ws → T (row_nests t ws (goes P i)) →
      step_at room P t m ≡ on m' → Move P m m'
  unfolding step_at row_nests is_end is_loop if_step else_step return_step with_frame
  row_move (simple p) w n ws N k q = simple-move p w (ws, nests-next P i ws k, N) (took-on _ m' q)
  row_move (return x) w n ws N k q = end-move _ refl m.callers refl q
  row_move (if r a b) w n ws N k q =
      let h : NestsAt P (suc i) (for_else ∷ ws) = nests-next P i (for_else ∷ ws) (and_both (ltb (length ws) most_branches) _ k).1 in
      let (l, f) = after_else P i ws h in
      choose_move (if r a b) w refl r a b (suc i) (suc (closing P.rows i)) same (for_else ∷ ws, h, N) l (for_join ∷ ws, f, N) (took-on _ m' q)
  row_move else w n [] N k q = absurd k
  row_move else w n (for_else ∷ ws) N k q =
      let (l, f) = to_join P i ws (nests-next P i (for_join ∷ ws) k) in
      jump-move else w refl (closing P.rows i) l (for_join ∷ ws, f, N) (on-inj q)
  row_move else w n (for_join ∷ ws) N k q = absurd k
  row_move else w n (for_again ∷ ws) N k q = absurd k
  row_move (join φ) w n [] N k q = absurd k
  row_move (join φ) w n (for_else ∷ ws) N k q = absurd k
  row_move (join φ) w n (for_join ∷ ws) N k q = stays-move (join φ) w refl (ws, nests-next P i ws k, N) (assert-stays φ m m' (took-on _ m' q))
  row_move (join φ) w n (for_again ∷ ws) N k q = absurd k
  row_move (loop r a b φ) w n ws N k q = absurd (n refl)
  row_move again w n [] N k q = absurd k
  row_move again w n (for_else ∷ ws) N k q = absurd k
  row_move again w n (for_join ∷ ws) N k q = absurd k
  row_move again w n (for_again ∷ ws) N k q = absurd N
  row_move end w n ws N k q = end-move m refl m.callers refl q

  pub step-moves : Nested P i → Loopless (block P i) → step room P m ≡ on m' → Move P m m'
  unfolding step statement_of
  step-moves (ws, h, N) L e =
      row_move (row_numbered P i).stmt refl (λ t. L (row_numbered P i) (block-first P i) (subst T (sym t) tt)) ws N (nests-row P i ws h) e
