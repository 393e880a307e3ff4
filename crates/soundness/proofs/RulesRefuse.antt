-- The rules refuse with 11 to 14 only: each operation on states, each statement's rule, `return`, `if`, `loop` and `join`.
use mathlib.Core.Bool.{Bool, true, false, cond}
use mathlib.Core.List.{List, [], ◌∷◌}
use mathlib.Core.Option.{Option, none, some}
use Prim.Native.Nat.{ℕ}
use Rattle.rules.specs.Base.{Try}
use Rattle.rules.specs.Answers.{Refusal}
use Rattle.rules.specs.Syntax.{Rel, Permit, Formula, Simple, Field, Program, same, eq, num, null, var, path, acc, read, chain, own, cmp, set, assign, compute, new, call, assert, release, open_chain, shut_chain, result_variable}
use Rattle.rules.specs.State.{Term, State, Permission, Equality, Split, empty, equal_in, resolve, shown_by, giving, take_own, show_from, show, split, joins, add_permission, add_fact, add_read, add_own, add}
use Rattle.rules.specs.Rules.{add_equal, assign_rule, add_fields, add_initial, new_rule, set_rule, call_rule, open_rule, shut_rule, if_rule, return_rule, End, show_end, join_rule, loop_rule, rule}
use Rattle.soundness.proofs.Refusing.{Refuses, rules, yes, bind, tested, or-else, eleven, twelve, thirteen, fourteen}

abbrev pub Ruled : {A : Type 0} → Try Refusal A → Type 0
Ruled x = Refuses rules x

either : {A : Type 0} (b : Bool) {x y : Try Refusal A} → Ruled x → Ruled y → Ruled (cond b x y)
either true h k = h
either false h k = k

-- STATES
resolve-ruled : (q : Equality) (ps : List Permission) (t : Term) → Ruled (resolve q ps t)
unfolding resolve
resolve-ruled q ps (num n) = yes
resolve-ruled q ps null = yes
resolve-ruled q ps (var x) = yes
resolve-ruled q ps (path y f) = bind (or-else _ eleven) (λ p. yes)

shown-ruled : (b : Bool) (r : List Permission) (o : Option Split) → Ruled (shown_by b r o)
unfolding shown_by
shown-ruled b r none = tested b twelve yes
shown-ruled b r (some c) = yes

take-ruled : (q : Equality) (k : Permit) (t : Term) (f : ℕ) (r : List Permission) → Ruled (take_own q k t f r)
unfolding take_own
take-ruled q k t f r = shown-ruled _ r (split (giving q k t f) r)

show-from-ruled : (q : Equality) (s : State) (φ : Formula ℕ) (r : List Permission) → Ruled (show_from q s φ r)
unfolding show_from
show-from-ruled q s [] r = yes
show-from-ruled q s (own k y f ∷ φ) r = bind (take-ruled q k (var y) f r) (λ kept. show-from-ruled q s φ kept)
show-from-ruled q s (cmp n a b ∷ φ) r =
    bind (resolve-ruled q _ a) (λ t. bind (resolve-ruled q _ b) (λ u. tested _ thirteen (show-from-ruled q s φ r)))

show-ruled : (s : State) (φ : Formula ℕ) → Ruled (show s φ)
unfolding show
show-ruled s φ = show-from-ruled _ s φ _

permission-ruled : (p : Permission) (s : State) → Ruled (add_permission p s)
unfolding add_permission
permission-ruled p s = tested _ fourteen yes

fact-ruled : (n : Rel) (t u : Term) (s : State) → Ruled (add_fact n t u s)
unfolding add_fact
fact-ruled n t u s = tested _ fourteen yes

read-ruled : (x f : ℕ) (s : State) (o : Option Split) → Ruled (add_read x f s o)
unfolding add_read
read-ruled x f s none = permission-ruled _ s
read-ruled x f s (some c) = yes

own-ruled : (k : Permit) (x f : ℕ) (s : State) → Ruled (add_own k x f s)
unfolding add_own
own-ruled acc x f s = permission-ruled _ s
own-ruled chain x f s = permission-ruled _ s
own-ruled read x f s = read-ruled x f s (split (joins (equal_in s) x f) s.permissions)

add-ruled : (φ : Formula ℕ) (s : State) → Ruled (add φ s)
unfolding add
add-ruled [] s = yes
add-ruled (own k x f ∷ φ) s = bind (own-ruled k x f s) (add-ruled φ)
add-ruled (cmp n a b ∷ φ) s =
    bind (resolve-ruled _ _ a) (λ t. bind (resolve-ruled _ _ b) (λ u. bind (fact-ruled n t u s) (add-ruled φ)))

-- STATEMENTS
equal-ruled : (x : ℕ) (o : Option Term) (s : State) → Ruled (add_equal x o s)
unfolding add_equal
equal-ruled x none s = yes
equal-ruled x (some r) s = fact-ruled eq (var x) r s

assign-ruled : (x : ℕ) (e : Term) (s : State) → Ruled (assign_rule x e s)
unfolding assign_rule
assign-ruled x e s = bind (resolve-ruled _ _ e) (λ r. either (same r (var x)) yes (equal-ruled x _ _))

fields-ruled : (x : ℕ) (fs : List Field) (s : State) → Ruled (add_fields x fs s)
unfolding add_fields
fields-ruled x [] s = yes
fields-ruled x (f ∷ fs) s = bind (permission-ruled _ s) (fields-ruled x fs)

initial-ruled : (x : ℕ) (fs : List Field) (s : State) → Ruled (add_initial x fs s)
unfolding add_initial
initial-ruled x [] s = yes
initial-ruled x (f ∷ fs) s = bind (fact-ruled _ _ _ s) (initial-ruled x fs)

pub rule-ruled : (P : Program) (p : Simple) (s : State) → Ruled (rule P p s)
unfolding rule set_rule new_rule call_rule open_rule shut_rule
rule-ruled P (set x f y) s = bind (or-else _ twelve) (λ c. fact-ruled _ _ _ _)
rule-ruled P (assign x e) s = assign-ruled x e s
rule-ruled P (compute o x y z) s = yes
rule-ruled P (new x c) s = bind (fields-ruled x _ _) (λ s. bind (fact-ruled _ _ _ s) (initial-ruled x _))
rule-ruled P (call x y m z) s = tested _ thirteen (bind (show-ruled s _) (λ r. add-ruled _ _))
rule-ruled P (assert φ) s = bind (show-ruled s φ) (λ r. yes)
rule-ruled P (release φ) s = bind (show-ruled s φ) (λ r. yes)
rule-ruled P (open_chain y x f) s =
    tested _ thirteen
    (bind (take-ruled _ _ _ f _) (λ r. bind (permission-ruled _ _) (λ s₁. bind (fact-ruled _ _ _ s₁) (permission-ruled _))))
rule-ruled P (shut_chain x f) s =
    bind (or-else _ twelve) (λ p. bind (take-ruled _ _ _ f _) (λ r. bind (take-ruled _ _ _ f r) (λ r'. permission-ruled _ _)))

pub if-ruled : (n : Rel) (a b : Term) (s : State) → Ruled (if_rule n a b s)
unfolding if_rule
if-ruled n a b s =
    bind (resolve-ruled _ _ a) (λ t.
    bind (resolve-ruled _ _ b) (λ u. bind (fact-ruled _ _ _ s) (λ s₁. bind (fact-ruled _ _ _ s) (λ s₂. yes))))

pub loop-ruled : (n : Rel) (a b : Term) (φ : Formula ℕ) (s : State) → Ruled (loop_rule n a b φ s)
unfolding loop_rule
loop-ruled n a b φ s = bind (show-ruled s φ) (λ r. bind (add-ruled φ empty) (if-ruled n a b))

pub return-ruled : (x : ℕ) (φ : Formula ℕ) (s : State) → Ruled (return_rule x φ s)
unfolding return_rule
return-ruled x φ s = bind (assign-ruled result_variable (var x) s) (λ s'. bind (show-ruled s' φ) (λ r. yes))

pub end-ruled : (φ : Formula ℕ) (e : End) → Ruled (show_end φ e)
unfolding show_end
end-ruled φ none = yes
end-ruled φ (some s) = bind (show-ruled s φ) (λ r. yes)

pub join-ruled : (φ : Formula ℕ) (e₁ e₂ : End) → Ruled (join_rule φ e₁ e₂)
unfolding join_rule
join-ruled φ e₁ e₂ = bind (end-ruled φ e₁) (λ u. bind (end-ruled φ e₂) (λ u. add-ruled φ empty))
