-- Whoever holds a chain, or is handed one, is at a list of its own that ends in null: in every state of every run.
use mathlib.Core.Path.{◌≡◌, sym, subst}
use mathlib.Core.List.{List, [], ◌∷◌}
use Prim.Native.Nat.{ℕ, suc, ◌+◌, ◌≤◌}
use native.Mathlib.Omega.{arith}
use native.Mathlib.Nat.{le_refl}
use Rattle.rules.specs.Base.{ok, Member, at_head, further}
use Rattle.rules.specs.Syntax.{Formula, Method, Program, method_numbered, chain, own, cmp}
use Rattle.rules.specs.Answers.{formula_false}
use Rattle.rules.specs.Machine.{Config, Frame, Heap, Location, Room, halves, value, value_of, compared, take_share, take_from, footprint, call_frame, entered, holding}
use Rattle.rules.specs.Runs.{Run, Walk, OwnList, ChainsEnd, ChainsHanded, TwoHalves, shares, shares_in}
use Rattle.rules.proofs.Tries.{bind_ok, check-ok}
use Rattle.rules.proofs.Sets.{halves-nil}
use Rattle.rules.proofs.Walks.{walk-taken}
use Rattle.rules.proofs.Footprints.{taken-held, taken-grows}
use Rattle.rules.proofs.Changes.{step-enters, call_enters}
use Rattle.rules.proofs.Disjoint.{shares-cons, two-halves}

-- THE WALK OF A CHAIN IN A FORMULA: what it passes is taken whole
record Walked (h : Heap) (f o : ℕ) (B : List Location) : Type 0 where
  cards : List Location
  is-walk : Walk h f o cards
  taken : (p : Location) → halves cards p + halves cards p ≤ halves B p

module _ (h : Heap) (F : Frame) (x f : ℕ) where
  chain-walked :
      (φ : Formula ℕ) (A B : List Location) → take_from h F φ A ≡ ok B → Member (own chain x f) φ → Walked h f (value_of F x) B
  unfolding take_from take_share
  chain-walked [] A B e i = elim i [ ]
  chain-walked (cmp n a b ∷ φ) A B e (further i) =
      let (v, _, e₁) = bind_ok (value h F a) e in
      let (w, _, e₂) = bind_ok (value h F b) e₁ in
      let (_, e₃) = check-ok (compared n v w) formula_false e₂ in
      chain-walked φ A B e₃ i
  chain-walked (own k y g ∷ φ) A B e (further i) =
      let (C, _, d) = bind_ok (take_share h F k y g A) e in chain-walked φ C B d i
  chain-walked (own chain y g ∷ φ) A B e at_head =
      let (C, c, d) = bind_ok (take_share h F chain x f A) e in
      let (ws, W, k) = walk-taken h F f (value_of F x) A C c in
      record { cards = ws; is-walk = W; taken = λ p. omega (arith, k p, taken-grows h F φ C B d p) }

-- FRAMES OF ONE STATE
frame-shares : (F : Frame) (Fs : List Frame) (p : Location) → Member F Fs → halves F.held p ≤ shares Fs p
frame-shares F (G ∷ Fs) p at_head = omega (arith, shares-cons F Fs p)
frame-shares F (G ∷ Fs) p (further i) = omega (arith, shares-cons G Fs p, frame-shares F Fs p i)
frame-shares F [] p x' = elim x' [ ]

-- what a frame holds twice as often as a walk passes it is a list of its own
own-list :
    (m : Config) (F : Frame) (f o : ℕ) (B : List Location) → TwoHalves m → Member F (m.frame ∷ m.callers) → Walked m.heap f o B →
    ((p : Location) → halves B p ≤ halves F.held p) → OwnList m F f o
own-list m F f o B H i W l =
    let all : (p : Location) → halves F.held p ≤ shares_in m p =
    λ p. omega (arith, frame-shares F (m.frame ∷ m.callers) p i, shares-cons m.frame m.callers p) in
    record {
      cards = W.cards;
      reaches_null = W.is-walk;
      once = λ p. omega (arith, W.taken p, l p, all p, H p);
      whole = λ p c. omega (arith, c, W.taken p, l p, all p, H p);
      alone = λ p c. omega (arith, c, W.taken p, l p, all p, H p);
    }

module _ (room : Room) (P : Program) {k : ℕ} (R : Run room P k) where
  pub chains-end : ChainsEnd room P R
  unfolding footprint
  chains-end i b F j φ A e x f c =
      own-list (R.state i) F f (value_of F x) A (two-halves room P R i b) j
      (chain-walked (R.state i).heap F x f φ [] A e c)
      (λ p. taken-held (R.state i).heap F φ [] A e p (omega (arith, halves-nil p)))

  pub chains-handed : ChainsHanded room P R
  unfolding footprint call_frame entered holding value_of
  chains-handed i C x f c =
      let m : Config = R.state i in
      let M : Method = method_numbered P C.method in
      let G : Frame = call_frame m M C.y C.z in
      let (A, e, q) =
      call_enters C.y M C.z m (R.state (suc i))
      (step-enters room P C.x C.y C.method C.z m (R.state (suc i)) C.is_call (R.next i C.is_done)) in
      let two : TwoHalves (entered m G A) = subst TwoHalves q (two-halves room P R (suc i) C.is_done) in
      subst (λ (w : Config). OwnList w w.frame f (value_of w.frame x)) (sym q)
      (own-list (entered m G A) (holding A G) f (value_of G x) A two at_head
      (chain-walked m.heap G x f M.requires [] A e c) (λ p. le_refl _))
