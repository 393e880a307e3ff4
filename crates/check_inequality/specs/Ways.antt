-- The ways of showing an inequality, as tests of labels, keys and entries.
use Rattle.std.specs.Prelude.{◌≡◌, Bool, not, ◌&&◌, ◌||◌, List, ℕ, ◌+◌, ◌*◌, eqb, leb, get_or}
use Rattle.rules.specs.Base.{any}
use Rattle.rules.specs.Syntax.{var}
use Rattle.rules.specs.State.{Equality, equal_by, representative, different_numbers, differ}
use Rattle.check_equality.specs.Layout.{terms_at, left_sides, right_sides, relations_at}
use Rattle.check_equality.specs.Keys.{term_of, first_number}
use Rattle.check_equality.specs.Links.{alike_by, Labelled, Decides}
use Rattle.check_state.specs.States.{permission_at, facts_in, variable_at}
use Rattle.check_state.specs.Questions.{places}

-- labels x and y agree with a and b, either way round
unfoldable pub either_way : ℕ → ℕ → ℕ → ℕ → Bool
either_way x y a b = (eqb x a && eqb y b) || (eqb x b && eqb y a)

-- (a) the fact i is an inequality whose sides have the labels x and y
unfoldable pub unequal_at : ℕ → ℕ → ℕ → ℕ → ℕ → Bool
unequal_at c x y a b = eqb c 1 && either_way x y a b

abbrev pub unequal_in : List ℕ → ℕ → ℕ → ℕ → Bool
unequal_in b x y i = unequal_at (get_or b (relations_at + i) 0) (get_or b (left_sides + 2 * i) 0) (get_or b (right_sides + 2 * i) 0) x y

-- (b) a number ~ the term of l
unfoldable pub number_like : ℕ → ℕ → ℕ → ℕ → Bool
number_like k c l b = leb first_number k && alike_by k c l b

-- a number ~ the term of l, and not that of j
unfoldable pub other_like : ℕ → ℕ → ℕ → ℕ → ℕ → Bool
other_like j l b k c = not (eqb j k) && number_like k c l b

-- the two terms and the sides of all facts
abbrev pub most_terms : ℕ
most_terms = 130

-- among n slots from TERMS on
abbrev pub other_in : List ℕ → List ℕ → ℕ → ℕ → ℕ → ℕ → Bool
other_in key label l b j i = other_like j l b (get_or key (terms_at + i) 0) (get_or label (terms_at + i) 0)

unfoldable pub other_number : List ℕ → List ℕ → ℕ → ℕ → ℕ → ℕ → Bool
other_number key label n l b j = any (other_in key label l b j) (places n)

-- the label of a term's slot among those of n facts
abbrev pub FactLabel : List ℕ → List ℕ → ℕ → ℕ → ℕ → Type 0
FactLabel key label n t a = Labelled key label (left_sides + 2 * n) t a

-- (b) for the terms of t and u, where labels decide ~ among n facts
abbrev pub NumbersTold : List ℕ → List ℕ → ℕ → ℕ → ℕ → Bool → Type 0
NumbersTold key label n t u r =
    Decides (facts_in key label n) key label (left_sides + 2 * n) →
    r ≡ different_numbers (equal_by (representative (facts_in key label n))) (facts_in key label n) (term_of t) (term_of u)

unfoldable pub two_numbers : List ℕ → List ℕ → ℕ → ℕ → ℕ → ℕ → ℕ → ℕ → Bool
two_numbers key label n t a u b i =
    number_like (get_or key (terms_at + i) 0) (get_or label (terms_at + i) 0) t a && other_number key label n u b (get_or key (terms_at + i) 0)

-- (d) the variable of entry i is ~ the term of k
abbrev pub named_at : List ℕ → ℕ → Equality → ℕ → Bool
named_at b k same i = same (var (variable_at b i)) (term_of k)

-- r tells this of the entries j and i, where p and q say whether the variable of i is ~ t and ~ u
abbrev pub PairTold : List ℕ → ℕ → ℕ → ℕ → ℕ → Bool → Bool → Bool → Equality → Type 0
PairTold b t u j i p q r same =
    p ≡ same (var (variable_at b i)) (term_of t) → q ≡ same (var (variable_at b i)) (term_of u) →
    r ≡ differ same (permission_at b j) (permission_at b i) (term_of t) (term_of u)
