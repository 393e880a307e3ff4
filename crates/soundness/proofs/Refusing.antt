-- With which refusals a part of the check refuses: the reader with 2 to 9, number 10 and the rules with 10 to 14.
use mathlib.Core.Bool.{Bool, true, false}
use mathlib.Core.Option.{Option, none, some}
use Prim.Native.Nat.{◌≤◌}
use native.Mathlib.Omega.{arith}
use Rattle.rules.specs.Base.{Try, ok, no, ◌>>=◌, ◌>>◌, check, or_else}
use Rattle.rules.specs.Answers.{Refusal, refusal_number}
use Rattle.rules.specs.Answers.{text_too_long, bad_byte, malformed, limit_passed, undeclared, wrong_type, text_ends, wrong_target, unframed, unresolved, no_permission, not_shown, state_full}
use Rattle.rules.specs.Refusals.{FromRules}

pub data Part : Type 0 where
  reading rules : Part

-- the rows of the table that belong to it
pub data OfPart : Part → Refusal → Type 0 where
  two : OfPart reading text_too_long
  three : OfPart reading bad_byte
  four : OfPart reading malformed
  five : OfPart reading limit_passed
  six : OfPart reading undeclared
  seven : OfPart reading wrong_type
  eight : OfPart reading text_ends
  nine : OfPart reading wrong_target
  ten : OfPart rules unframed
  eleven : OfPart rules unresolved
  twelve : OfPart rules no_permission
  thirteen : OfPart rules not_shown
  fourteen : OfPart rules state_full

pub reading-number : {r : Refusal} → OfPart reading r → (2 ≤ refusal_number r) × (refusal_number r ≤ 9)
unfolding refusal_number
reading-number two = (omega arith, omega arith)
reading-number three = (omega arith, omega arith)
reading-number four = (omega arith, omega arith)
reading-number five = (omega arith, omega arith)
reading-number six = (omega arith, omega arith)
reading-number seven = (omega arith, omega arith)
reading-number eight = (omega arith, omega arith)
reading-number nine = (omega arith, omega arith)

pub rules-number : {r : Refusal} → OfPart rules r → FromRules (refusal_number r)
unfolding refusal_number
rules-number ten = (omega arith, omega arith)
rules-number eleven = (omega arith, omega arith)
rules-number twelve = (omega arith, omega arith)
rules-number thirteen = (omega arith, omega arith)
rules-number fourteen = (omega arith, omega arith)

-- refused, if at all, with one of them
pub data Refuses (p : Part) {A : Type 0} : Try Refusal A → Type 0 where
  yes : {a : A} → Refuses p (ok a)
  for : {r : Refusal} → OfPart p r → Refuses p (no r)

pub bind : {p : Part} {A B : Type 0} {x : Try Refusal A} {f : A → Try Refusal B} → Refuses p x → ((a : A) → Refuses p (f a)) → Refuses p (x >>= f)
unfolding ◌>>=◌
bind yes h = h _
bind (for r) h = for r

pub tested : {p : Part} {B : Type 0} (b : Bool) {r : Refusal} {x : Try Refusal B} → OfPart p r → Refuses p x → Refuses p (check b r >> x)
unfolding check ◌>>◌
tested true r h = h
tested false r h = for r

pub or-else : {p : Part} {A : Type 0} (o : Option A) {r : Refusal} → OfPart p r → Refuses p (or_else o r)
unfolding or_else
or-else none r = for r
or-else (some a) r = yes
