-- Laws of what an atom and a formula take: it is held, and what was taken stays taken.
use mathlib.Core.Path.{◌≡◌, sym, ap, subst}
use mathlib.Core.List.{List, [], ◌∷◌, ◌++◌}
use mathlib.Core.Logic.{⊎_elim}
use Prim.Native.Nat.{ℕ, ◌+◌, ◌≤◌}
use native.Mathlib.Omega.{arith}
use lib.ListN.{replicate}
use Rattle.rules.specs.Base.{ok}
use Rattle.rules.specs.Answers.{formula_false}
use Rattle.rules.specs.Syntax.{Permit, Formula, acc, read, chain, own, cmp}
use Rattle.rules.specs.Machine.{Frame, Heap, Location, halves, locate, value, value_of, take_halves, take_share, take_from, footprint, compared}
use Rattle.rules.proofs.Tries.{bind_ok, check-ok, ok-inj}
use Rattle.rules.proofs.Sets.{at-cases, halves-nil, halves-append, locate-held, halves-replicate, replicate-other}
use Rattle.rules.proofs.Walks.{walk-taken, walk-held}

pub more-held :
    (F : Frame) (A : List Location) (n : ℕ) (q p : Location) → n + halves A q ≤ halves F.held q →
    halves A p ≤ halves F.held p → halves (replicate n q ++ A) p ≤ halves F.held p
more-held F A n q p l m =
    ⊎_elim
    (λ (e, _).
    subst (λ (r : Location). halves (replicate n q ++ A) r ≤ halves F.held r) (sym e)
    (omega (arith, l, halves-append (replicate n q) A q, halves-replicate n q)))
    (λ (d, _). omega (arith, m, halves-append (replicate n q) A p, replicate-other n q p d))
    (at-cases q p)

-- WHAT AN ATOM TAKES
pub halves-taken :
    (F : Frame) (n x f : ℕ) (A B : List Location) → take_halves F n x f A ≡ ok B →
    (q : Location) × (locate F A n x f ≡ ok q) × (replicate n q ++ A ≡ B)
unfolding take_halves
halves-taken F n x f A B e = let (q, i, j) = bind_ok (locate F A n x f) e in (q, i, ok-inj j)

halves-held :
    (F : Frame) (n x f : ℕ) (A B : List Location) → take_halves F n x f A ≡ ok B → (p : Location) →
    halves A p ≤ halves F.held p → halves B p ≤ halves F.held p
halves-held F n x f A B e p l =
    let (q, i, j) = halves-taken F n x f A B e in
    subst (λ (C : List Location). halves C p ≤ halves F.held p) j (more-held F A n q p (locate-held F A n x f q i) l)

halves-grows :
    (F : Frame) (n x f : ℕ) (A B : List Location) → take_halves F n x f A ≡ ok B → (p : Location) → halves A p ≤ halves B p
halves-grows F n x f A B e p =
    let (q, i, j) = halves-taken F n x f A B e in
    omega (arith, ap (λ (C : List Location). halves C p) j, halves-append (replicate n q) A p)

share-held :
    (h : Heap) (F : Frame) (k : Permit) (x f : ℕ) (A B : List Location) → take_share h F k x f A ≡ ok B → (p : Location) →
    halves A p ≤ halves F.held p → halves B p ≤ halves F.held p
unfolding take_share
share-held h F acc x f A B e p l = halves-held F 2 x f A B e p l
share-held h F read x f A B e p l = halves-held F 1 x f A B e p l
share-held h F chain x f A B e p l = walk-held h F f (value_of F x) A B e p l

share-grows :
    (h : Heap) (F : Frame) (k : Permit) (x f : ℕ) (A B : List Location) → take_share h F k x f A ≡ ok B → (p : Location) →
    halves A p ≤ halves B p
unfolding take_share
share-grows h F acc x f A B e p = halves-grows F 2 x f A B e p
share-grows h F read x f A B e p = halves-grows F 1 x f A B e p
share-grows h F chain x f A B e p = let (ws, _, k) = walk-taken h F f (value_of F x) A B e in omega (arith, k p)

-- what a formula takes is held, and what was taken stays taken
pub taken-held :
    (h : Heap) (F : Frame) (φ : Formula ℕ) (A B : List Location) → take_from h F φ A ≡ ok B → (p : Location) →
    halves A p ≤ halves F.held p → halves B p ≤ halves F.held p
unfolding take_from
taken-held h F [] A B e p l = subst (λ (C : List Location). halves C p ≤ halves F.held p) (ok-inj e) l
taken-held h F (own k x f ∷ φ) A B e p l =
    let (C, i, e₁) = bind_ok (take_share h F k x f A) e in taken-held h F φ C B e₁ p (share-held h F k x f A C i p l)
taken-held h F (cmp n a b ∷ φ) A B e p l =
    let (v, _, e₁) = bind_ok (value h F a) e in
    let (w, _, e₂) = bind_ok (value h F b) e₁ in
    let (_, e₃) = check-ok (compared n v w) formula_false e₂ in
    taken-held h F φ A B e₃ p l

pub taken-grows :
    (h : Heap) (F : Frame) (φ : Formula ℕ) (A B : List Location) → take_from h F φ A ≡ ok B → (p : Location) →
    halves A p ≤ halves B p
unfolding take_from
taken-grows h F [] A B e p = omega (arith, ap (λ (C : List Location). halves C p) (ok-inj e))
taken-grows h F (own k x f ∷ φ) A B e p =
    let (C, i, e₁) = bind_ok (take_share h F k x f A) e in
    omega (arith, taken-grows h F φ C B e₁ p, share-grows h F k x f A C i p)
taken-grows h F (cmp n a b ∷ φ) A B e p =
    let (v, _, e₁) = bind_ok (value h F a) e in
    let (w, _, e₂) = bind_ok (value h F b) e₁ in
    taken-grows h F φ A B (check-ok (compared n v w) formula_false e₂).1 p

pub footprint-held :
    (h : Heap) (F : Frame) (φ : Formula ℕ) (B : List Location) → footprint h F φ ≡ ok B → (p : Location) →
    halves B p ≤ halves F.held p
unfolding footprint
footprint-held h F φ B e p = taken-held h F φ [] B e p (omega (arith, halves-nil p))
