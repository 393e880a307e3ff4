-- Number 10 in pass 2: the first line that it refuses, kept from line to line, is that of the rules.
use mathlib.Core.Path.{◌≡◌, refl}
use mathlib.Core.Bool.{Bool, true, false, cond, ◌||◌}
use mathlib.Core.List.{List, [], ◌∷◌}
use Prim.Native.Nat.{ℕ, suc}
use lib.Dec.{T}
use Rattle.std.proofs.Common.{Option, Some, None}
use Rattle.rules.specs.Base.{all}
use Rattle.rules.specs.Answers.{Verdict, accepted, refused, unframed}
use Rattle.rules.specs.Syntax.{Stmt, simple, return, if, else, join, loop, again, end}
use Rattle.rules.specs.Grammar as Grammar
use Rattle.rules.specs.Grammar.{Kind, Line}
use Rattle.rules.specs.Scope.{Declarations, Variable}
use Rattle.rules.specs.Items as Items
use Rattle.rules.specs.Items.{Item, item_of, a_class, a_field, a_method, a_requires, an_ensures, a_main, a_local, a_statement}
use Rattle.rules.specs.Reading.{framed, framed_stmt, framed_item, check_framed}
use Rattle.rules.proofs.LineKinds.{every-kind}
use Rattle.read_bytes.proofs.Search.{true-false}
use Rattle.resolve_pass.specs.Passes.{is_framed, stated_formula, framed_formula, unframed_after}

-- ONE LINE

framed-statement : (s : Stmt) → framed_stmt s ≡ framed [] (stated_formula s)
unfolding framed_stmt framed stated_formula
framed-statement (simple s) = refl
framed-statement (return x) = refl
framed-statement (if n a b) = refl
framed-statement else = refl
framed-statement (join φ) = refl
framed-statement (loop n a b φ) = refl
framed-statement again = refl
framed-statement end = refl

-- it is about the line's formula
pub framed-formula : (a : Item) → framed_item a ≡ framed [] (framed_formula a)
unfolding framed_item framed framed_formula
framed-formula a_class = refl
framed-formula (a_field f) = refl
framed-formula a_method = refl
framed-formula (a_requires φ) = refl
framed-formula (an_ensures φ) = refl
framed-formula a_main = refl
framed-formula (a_local x) = refl
framed-formula (a_statement s) = framed-statement s

-- a line of another kind passes
pub framed-other : (Γ : Declarations) (vs : List Variable) (k : Kind) (l : Line) → is_framed k ≡ false → framed_item (item_of Γ vs k l) ≡ true
unfolding Grammar.opened Items.opened all is_framed framed_item framed_stmt
framed-other Γ vs k l e = second (is_framed k) (framed_item (item_of Γ vs k l)) e (every-kind (λ k. is_framed k || framed_item (item_of Γ vs k l)) tt k)
  where
    second : (a b : Bool) → a ≡ false → T (a || b) → b ≡ true
    second true b e h = true-false e
    second false true e h = refl
    second false false e h = absurd h

-- ALL LINES: u is the first of n lines that number 10 refuses, if any, and the items are those of the lines to come

unfoldable pub framed_after : Option ℕ → ℕ → List Item → Verdict (Unit {0})
framed_after None n items = check_framed items n
framed_after (Some u) n items = refused unframed u

pub framed-first : (items : List Item) → framed_after None 0 items ≡ check_framed items 0
unfolding framed_after
framed-first items = refl

-- the verdict stays from line to line
pub framed-on : (u : Option ℕ) (n : ℕ) (a : Item) (items : List Item) → framed_after (unframed_after u n a) (suc n) items ≡ framed_after u n (a ∷ items)
unfolding framed_after unframed_after check_framed
framed-on None n a items = go (framed_item a)
  where
    go :
        (b : Bool) →
        framed_after (cond b None (Some (suc n))) (suc n) items ≡ cond b (check_framed items (suc n)) (refused unframed (suc n))
    go true = refl
    go false = refl
framed-on (Some u) n a items = refl

-- after the last
pub framed-last : (n : ℕ) → framed_after None n [] ≡ accepted tt
unfolding framed_after check_framed
framed-last n = refl

pub unframed-last : (u n : ℕ) → framed_after (Some u) n [] ≡ refused unframed u
unfolding framed_after
unframed-last u n = refl
