-- No two kinds have one number, and what a comparison of two kinds says of their numbers.
use mathlib.Core.Path.{◌≡◌, sym, ap, ◌∙◌, refl}
use mathlib.Core.Logic.{◌⊎◌, inl, inr, ⊎_elim}
use mathlib.Core.Bool.{Bool, true, false, cond, not}
use Prim.Native.Nat.{ℕ, ◌≤◌}
use native.Mathlib.Omega.{arith}
use borrow.Author.Tests.{eq-eqb, ne_eqb}
use lib.Dec.{T, eqb}
use denote.Enum.Bare.{sameb, same_true, same_false, differs_true, differs_false}
use Rattle.rules.specs.contracts.Kind.{the_type}
use Rattle.rules.specs.declared.Kind.{Kind}
use Rattle.rules.specs.declared.Kind.TheVariants.{Class, Field, Method, Requires, Ensures, Main, Var, Set, Let, New, Call, Return, Assert, Release, If, Else, Join, End, Add, Sub, Loop, Again, Open, Shut}
use Rattle.rules.specs.Grammar.{IsKindNumber, first_statement, is_computing, statement_number}
use Rattle.rules.specs.Numbered.{number}

abbrev by_number : ℕ → Kind
by_number n =
    (cond (eqb n 1) Class
    (cond (eqb n 2) Field
    (cond (eqb n 3) Method
    (cond (eqb n 4) Requires
    (cond (eqb n 5) Ensures
    (cond (eqb n 6) Main
    (cond (eqb n 7) Var
    (cond (eqb n 8) Set
    (cond (eqb n 9) Let
    (cond (eqb n 10) New
    (cond (eqb n 11) Call
    (cond (eqb n 12) Return
    (cond (eqb n 13) Assert
    (cond (eqb n 14) Release
    (cond (eqb n 15) If
    (cond (eqb n 16) Else
    (cond (eqb n 17) Join
    (cond (eqb n 18) End
    (cond (eqb n 19) Add
    (cond (eqb n 20) Sub
    (cond (eqb n 21) Loop
    (cond (eqb n 22) Again
    (cond (eqb n 23) Open
    Shut)))))))))))))))))))))))

known : (k : Kind) → by_number (number k) ≡ k
known Class = refl
known Field = refl
known Method = refl
known Requires = refl
known Ensures = refl
known Main = refl
known Var = refl
known Set = refl
known Let = refl
known New = refl
known Call = refl
known Return = refl
known Assert = refl
known Release = refl
known If = refl
known Else = refl
known Join = refl
known End = refl
known Add = refl
known Sub = refl
known Loop = refl
known Again = refl
known Open = refl
known Shut = refl

pub one_number : (a b : Kind) → number a ≡ number b → a ≡ b
one_number a b e = sym (known a) ∙ (ap by_number e ∙ known b)

pub other : {a b : Kind} → (a ≡ b → ⊥) → eqb (number a) (number b) ≡ false
other {a} {b} n = ne_eqb (number a) (number b) (λ e. n (one_number a b e))

-- every kind has a kind's number
pub bounds : (k : Kind) → IsKindNumber (number k)
bounds Class = (omega arith, omega arith)
bounds Field = (omega arith, omega arith)
bounds Method = (omega arith, omega arith)
bounds Requires = (omega arith, omega arith)
bounds Ensures = (omega arith, omega arith)
bounds Main = (omega arith, omega arith)
bounds Var = (omega arith, omega arith)
bounds Set = (omega arith, omega arith)
bounds Let = (omega arith, omega arith)
bounds New = (omega arith, omega arith)
bounds Call = (omega arith, omega arith)
bounds Return = (omega arith, omega arith)
bounds Assert = (omega arith, omega arith)
bounds Release = (omega arith, omega arith)
bounds If = (omega arith, omega arith)
bounds Else = (omega arith, omega arith)
bounds Join = (omega arith, omega arith)
bounds End = (omega arith, omega arith)
bounds Add = (omega arith, omega arith)
bounds Sub = (omega arith, omega arith)
bounds Loop = (omega arith, omega arith)
bounds Again = (omega arith, omega arith)
bounds Open = (omega arith, omega arith)
bounds Shut = (omega arith, omega arith)

-- a kind that is none of the first seven is a statement's
pub statement_left :
    (k : Kind) → (k ≡ Class → ⊥) → (k ≡ Field → ⊥) → (k ≡ Method → ⊥) → (k ≡ Requires → ⊥) → (k ≡ Ensures → ⊥) → (k ≡ Main → ⊥) →
    (k ≡ Var → ⊥) → first_statement ≤ number k
statement_left Class a b c d e f g = absurd (a refl)
statement_left Field a b c d e f g = absurd (b refl)
statement_left Method a b c d e f g = absurd (c refl)
statement_left Requires a b c d e f g = absurd (d refl)
statement_left Ensures a b c d e f g = absurd (e refl)
statement_left Main a b c d e f g = absurd (f refl)
statement_left Var a b c d e f g = absurd (g refl)
statement_left Set a b c d e f g = omega arith
statement_left Let a b c d e f g = omega arith
statement_left New a b c d e f g = omega arith
statement_left Call a b c d e f g = omega arith
statement_left Return a b c d e f g = omega arith
statement_left Assert a b c d e f g = omega arith
statement_left Release a b c d e f g = omega arith
statement_left If a b c d e f g = omega arith
statement_left Else a b c d e f g = omega arith
statement_left Join a b c d e f g = omega arith
statement_left End a b c d e f g = omega arith
statement_left Add a b c d e f g = omega arith
statement_left Sub a b c d e f g = omega arith
statement_left Loop a b c d e f g = omega arith
statement_left Again a b c d e f g = omega arith
statement_left Open a b c d e f g = omega arith
statement_left Shut a b c d e f g = omega arith

-- where `a == b` is true
pub same : (a b : Kind) → true ≡ sameb the_type a b → number a ≡ number b
same a b e = ap number (same_true the_type tt a b (sym e))

-- where it is false
pub apart : (a b : Kind) → false ≡ sameb the_type a b → number a ≡ number b → ⊥
apart a b e n = same_false the_type a b (sym e) (one_number a b n)

-- the flag of `a == b`
pub same_eqb : (a b : Kind) → sameb the_type a b ≡ eqb (number a) (number b)
same_eqb a b = go (sameb the_type a b) refl
  where
    go : (q : Bool) → sameb the_type a b ≡ q → q ≡ eqb (number a) (number b)
    go true e = sym (eq-eqb (number a) (number b) (same a b (sym e)))
    go false e = sym (ne_eqb (number a) (number b) (apart a b (sym e)))

-- where `a != b` is false
pub alike : (a b : Kind) → false ≡ not (sameb the_type a b) → number a ≡ number b
alike a b e = ap number (differs_false the_type tt a b (sym e))

-- where it is true
pub unlike : (a b : Kind) → true ≡ not (sameb the_type a b) → number a ≡ number b → ⊥
unlike a b e n = differs_true the_type a b (sym e) (one_number a b n)

-- the number of a kind that is one of two
pub either : {k a b : Kind} {n : ℕ} → number k ≡ n → (k ≡ a) ⊎ (k ≡ b) → (n ≡ number a) ⊎ (n ≡ number b)
either is o = ⊎_elim (λ e. inl (sym is ∙ ap number e)) (λ e. inr (sym is ∙ ap number e)) o

-- `add` and `sub` compute
pub computes : {k : Kind} {n : ℕ} → number k ≡ n → (k ≡ Add) ⊎ (k ≡ Sub) → T (is_computing n)
unfolding is_computing statement_number
computes is o = ⊎_elim (λ z. rw z tt) (λ z. rw z tt) (either is o)
