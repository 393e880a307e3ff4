-- The reader refuses with 2 to 9 only.
use mathlib.Core.Path.{◌≡◌, subst}
use mathlib.Core.Bool.{Bool, true, false, cond}
use mathlib.Core.List.{List, [], ◌∷◌}
use Prim.Native.Nat.{ℕ, suc, ◌≤◌}
use lib.Dec.{ltb}
use lib.ListN.{length}
use Rattle.rules.specs.Base.{Name, Try}
use Rattle.rules.specs.Limits.{most_bytes}
use Rattle.rules.specs.Answers.{Refusal, Verdict, accepted, refused, at_line, then, refusal_number}
use Rattle.rules.specs.Text.{lines}
use Rattle.rules.specs.Grammar.{Kind, Line, read_line}
use Rattle.rules.specs.Places.{Place, place_line, scan_line, scan_lines, ended, first_place}
use Rattle.rules.specs.Scope.{Declarations, Scope, declarations, first_scope, scope_after}
use Rattle.rules.specs.Items.{Item, resolve_line, resolve_lines}
use Rattle.rules.specs.Reading.{read_text}
use Rattle.soundness.proofs.Refusing.{OfPart, Refuses, reading, yes, for, bind, tested, or-else, two, three, four, five, six, seven, eight, nine, reading-number}

-- LINES

line_read : (l : Name) → Refuses reading (read_line l)
unfolding read_line
line_read l = tested _ three (bind (or-else _ four) (λ k. tested _ four yes))

line-placed : (p : Place) (k : Kind) → Refuses reading (place_line p k)
unfolding place_line
line-placed p k = tested _ four (tested _ five yes)

line-scanned : (p : Place) (l : Name) → Refuses reading (scan_line p l)
unfolding scan_line
line-scanned p l = bind (line_read l) (λ a. bind (line-placed p a.kind) (λ q. yes))

line-resolved : (Γ : Declarations) (s : Scope) (l : Line) → Refuses reading (resolve_line Γ s l)
unfolding resolve_line
line-resolved Γ s l = tested _ six (tested _ seven (tested _ nine yes))

-- THE TEXT

data Read {A : Type 0} : Verdict A → Type 0 where
  taken : {a : A} → Read (accepted a)
  not_taken : {r : Refusal} {l : ℕ} → OfPart reading r → Read (refused r l)

at-line : {A B : Type 0} (l : ℕ) {x : Try Refusal A} {k : A → Verdict B} → Refuses reading x → ((a : A) → Read (k a)) → Read (at_line l x k)
unfolding at_line
at-line l yes h = h _
at-line l (for r) h = not_taken r

and_then : {A B : Type 0} {v : Verdict A} {k : A → Verdict B} → Read v → ((a : A) → Read (k a)) → Read (then v k)
unfolding then
and_then taken h = h _
and_then (not_taken r) h = not_taken r

either : {A : Type 0} (b : Bool) {v w : Verdict A} → Read v → Read w → Read (cond b v w)
either true h k = h
either false h k = k

lines-scanned : (ls : List Name) (n : ℕ) (p : Place) → Read (scan_lines ls n p)
unfolding scan_lines
lines-scanned [] n p = either (ended p) taken (not_taken eight)
lines-scanned (l ∷ ls) n p = at-line (suc n) (line-scanned p l) (λ a. and_then (lines-scanned ls (suc n) a.next) (λ rest. taken))

lines-resolved : (Γ : Declarations) (ls : List Line) (n : ℕ) (s : Scope) → Read (resolve_lines Γ ls n s)
unfolding resolve_lines
lines-resolved Γ [] n s = taken
lines-resolved Γ (l ∷ ls) n s =
    at-line (suc n) (line-resolved Γ s l) (λ a. and_then (lines-resolved Γ ls (suc n) (scope_after s l)) (λ rest. taken))

text-read : (t : List ℕ) → Read (read_text t)
unfolding read_text
text-read t =
    either (ltb most_bytes (length t)) (not_taken two)
    (and_then (lines-scanned (lines t) 0 first_place) (λ ls. lines-resolved (declarations ls) ls 0 first_scope))

pub read-refused : (t : List ℕ) (r : Refusal) (l : ℕ) → read_text t ≡ refused r l → (2 ≤ refusal_number r) × (refusal_number r ≤ 9)
read-refused t r l e = number (subst Read e (text-read t))
  where
    number : Read {A = List Item} (refused r l) → (2 ≤ refusal_number r) × (refusal_number r ≤ 9)
    number (not_taken o) = reading-number o
