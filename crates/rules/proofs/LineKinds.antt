-- Laws of the kinds of line: what a test finds at each row of the table holds of every kind; kinds and their numbers.
use mathlib.Core.Path.{◌≡◌, refl, sym, ap, subst, ◌∙◌}
use mathlib.Core.Bool.{Bool, true, false, ◌&&◌, beq}
use mathlib.Core.List.{List, [], ◌∷◌}
use Prim.Native.Nat.{ℕ, zero, suc, ◌-◌}
use lib.Dec.{T, eqb, leb, eqb→eq, leb→le}
use lib.ListN.{get_or}
use Rattle.rules.specs.Base.{all, between}
use Rattle.rules.specs.Grammar as Grammar
use Rattle.rules.specs.Grammar.{Kind, Class, Field, Method, Requires, Ensures, Main, Var, statement}
use Rattle.rules.specs.Grammar.{Set, Let, New, Call, Return, Assert, Release, If, Else, Join, End, Add, Sub, Loop, Again, Open, Shut}
use Rattle.rules.specs.Grammar.{kinds, first_statement, last_kind, IsKindNumber, kind_number, is_statement, is_kind}
use Rattle.rules.proofs.Lists.{and_both}

-- THE TABLE

-- each kind stands at its number: the only law that names every kind
kind-at : (k : Kind) → get_or kinds (kind_number k - 1) Class ≡ k
unfolding Grammar.opened
kind-at Class = refl
kind-at Field = refl
kind-at Method = refl
kind-at Requires = refl
kind-at Ensures = refl
kind-at Main = refl
kind-at Var = refl
kind-at (statement Set) = refl
kind-at (statement Let) = refl
kind-at (statement New) = refl
kind-at (statement Call) = refl
kind-at (statement Return) = refl
kind-at (statement Assert) = refl
kind-at (statement Release) = refl
kind-at (statement If) = refl
kind-at (statement Else) = refl
kind-at (statement Join) = refl
kind-at (statement End) = refl
kind-at (statement Add) = refl
kind-at (statement Sub) = refl
kind-at (statement Loop) = refl
kind-at (statement Again) = refl
kind-at (statement Open) = refl
kind-at (statement Shut) = refl

all-at : {A : Type 0} (t : A → Bool) (a : A) (l : List A) (i : ℕ) → T (t a) → T (all t l) → T (t (get_or l i a))
unfolding all
all-at t a [] i h g = h
all-at t a (b ∷ l) zero h g = (and_both (t b) (all t l) g).0
all-at t a (b ∷ l) (suc i) h g = all-at t a l i h (and_both (t b) (all t l) g).1

-- a test that holds of each row of the table
pub every-kind : (t : Kind → Bool) → T (all t kinds) → (k : Kind) → T (t k)
unfolding all
every-kind t h k = subst (λ a. T (t a)) (kind-at k) (all-at t Class kinds (kind_number k - 1) (and_both (t Class) _ h).0 h)

-- NUMBERS

pub kind-bounds : (k : Kind) → IsKindNumber (kind_number k)
unfolding Grammar.opened all between
kind-bounds k =
    let (a, b) = and_both (leb 1 (kind_number k)) (leb (kind_number k) last_kind) (every-kind (λ k. between 1 last_kind (kind_number k)) tt k) in
    (leb→le 1 (kind_number k) a, leb→le (kind_number k) last_kind b)

pub same_kind : (a k : Kind) → kind_number a ≡ kind_number k → a ≡ k
same_kind a k e = sym (kind-at a) ∙ (ap (λ n. get_or kinds (n - 1) Class) e ∙ kind-at k)

beq_same : (a b : Bool) → T (beq a b) → a ≡ b
beq_same true true h = refl
beq_same true false h = absurd h
beq_same false true h = absurd h
beq_same false false h = refl

same-beq : (a b : Bool) → a ≡ b → beq a b ≡ true
same-beq true b e = subst (λ b. beq true b ≡ true) e refl
same-beq false b e = subst (λ b. beq false b ≡ true) e refl

-- the statements come last
pub statement-is : (k : Kind) → is_statement k ≡ leb first_statement (kind_number k)
unfolding Grammar.opened all
statement-is k = beq_same _ _ (every-kind (λ k. beq (is_statement k) (leb first_statement (kind_number k))) tt k)

pub kind-is : (a k : Kind) → is_kind a k ≡ eqb (kind_number a) (kind_number k)
unfolding is_kind
kind-is a k = go (beq (is_statement a) (is_statement k)) (eqb (kind_number a) (kind_number k)) refl refl
  where
    go : (b e : Bool) → beq (is_statement a) (is_statement k) ≡ b → eqb (kind_number a) (kind_number k) ≡ e → (b && e) ≡ e
    go true e i j = refl
    go false false i j = refl
    go false true i j =
        let z = same_kind a k (eqb→eq (kind_number a) (kind_number k) (subst T (sym j) tt)) in
        sym i ∙ same-beq (is_statement a) (is_statement k) (ap is_statement z)

pub is_same : (a k : Kind) → T (is_kind a k) → a ≡ k
is_same a k h = same_kind a k (eqb→eq (kind_number a) (kind_number k) (subst T (kind-is a k) h))
