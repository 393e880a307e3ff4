-- Verdicts of the parts of a line, put together.
use mathlib.Core.Path.{◌≡◌, refl, ap}
use mathlib.Core.Bool.{Bool, true, false, ◌&&◌}
use Prim.Native.Nat.{ℕ}
use native.Mathlib.Omega.{arith}
use Rattle.read_types.specs.declared.Fault.{Fault}
use Rattle.std.proofs.Common.{Ok, Err}
use Rattle.read_types.specs.Verdicts.{Verdict, test, judged, and_then, lower_fault, lower}

-- of two parts: the tests of both
pub lower-judged : (k t a l u b : Bool) → lower (judged k t a) (judged l u b) ≡ judged (k && l) (t && u) (a && b)
unfolding judged test lower lower_fault
lower-judged true true true l u b = refl
lower-judged true true false true true true = refl
lower-judged true true false true true false = refl
lower-judged true true false true false b = refl
lower-judged true true false false u b = refl
lower-judged true false a true true true = refl
lower-judged true false a true true false = refl
lower-judged true false a true false b = refl
lower-judged true false a false u b = refl
lower-judged false t a true true true = refl
lower-judged false t a true true false = refl
lower-judged false t a true false b = refl
lower-judged false t a false u b = refl

-- one more test of types, where nothing is assigned
pub then_typed : (k t p : Bool) → and_then (judged k t true) (test p Fault.WrongType (Ok tt)) ≡ judged k (t && p) true
unfolding judged test and_then
then_typed true true p = refl
then_typed true false p = refl
then_typed false t p = refl

lower-fault-assoc : (f g h : Fault) → lower_fault f (lower_fault g h) ≡ lower_fault (lower_fault f g) h
unfolding lower_fault
lower-fault-assoc Fault.Undeclared g h = refl
lower-fault-assoc Fault.WrongType Fault.Undeclared h = refl
lower-fault-assoc Fault.WrongType Fault.WrongType Fault.Undeclared = refl
lower-fault-assoc Fault.WrongType Fault.WrongType Fault.WrongType = refl
lower-fault-assoc Fault.WrongType Fault.WrongType Fault.WrongTarget = refl
lower-fault-assoc Fault.WrongType Fault.WrongTarget h = refl
lower-fault-assoc Fault.WrongTarget g h = refl

pub lower-assoc : (u v w : Verdict) → lower u (lower v w) ≡ lower (lower u v) w
unfolding lower
lower-assoc (Ok u) v w = refl
lower-assoc (Err f) (Ok u) w = refl
lower-assoc (Err f) (Err g) (Ok u) = refl
lower-assoc (Err f) (Err g) (Err h) = ap Err (lower-fault-assoc f g h)

pub lower_last : (v : Verdict) → lower v (Ok tt) ≡ v
unfolding lower
lower_last (Ok u) = refl
lower_last (Err f) = refl

pub not-bad : {A : Type 0} (f : Fault) → ◌≡◌ {A = Verdict} (Err f) (Ok tt) → A
not-bad f e = absurd (let z : ◌≡◌ {A = ℕ} 0 1 = cc in omega arith)

-- what is good of two parts
pub lower-good : (u v : Verdict) → lower u v ≡ Ok tt → (u ≡ Ok tt) × (v ≡ Ok tt)
unfolding lower
lower-good (Ok u) v e = (refl, e)
lower-good (Err f) (Ok u) e = not-bad f e
lower-good (Err f) (Err g) e = not-bad (lower_fault f g) e

pub then-good : (u v : Verdict) → and_then u v ≡ Ok tt → (u ≡ Ok tt) × (v ≡ Ok tt)
unfolding and_then
then-good (Ok u) v e = (refl, e)
then-good (Err f) v e = not-bad f e

-- a test that a good part passes
pub test_good : (b : Bool) (f : Fault) (v : Verdict) → test b f v ≡ Ok tt → (b ≡ true) × (v ≡ Ok tt)
unfolding test
test_good true f v e = (refl, e)
test_good false f v e = not-bad f e

pub judged-good : (k t a : Bool) → judged k t a ≡ Ok tt → (k ≡ true) × ((t ≡ true) × (a ≡ true))
unfolding judged
judged-good k t a e =
    let x = test_good k Fault.Undeclared _ e in
    let y = test_good t Fault.WrongType _ x.1 in
    (x.0, (y.0, (test_good a Fault.WrongTarget (Ok tt) y.1).0))
