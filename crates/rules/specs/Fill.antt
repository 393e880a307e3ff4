-- W11, a requires line to be filled in: the line `requires *`, the atoms that may stand there, and the sets of them in the order told.
use Rattle.std.specs.Prelude.{Bool, cond, List, [], ◌∷◌, ◌++◌, map, ℕ, zero, suc, pred, eqb, get_or, take}
use Rattle.rules.specs.Base.{Name, bytes, eq_name, keep}
use Rattle.rules.specs.Limits.{most_filled}
use Rattle.rules.specs.Text.{tab, line_feed}
use Rattle.rules.specs.Grammar.{Line}
use Rattle.rules.specs.Scope.{Declarations, Variable, Scope, declarations, first_scope, scope_after}
use Rattle.rules.specs.Names.{class_number}

-- THE STAR

abbrev pub star : ℕ
star = 42

-- the words of a line, each after a tab, and its LF
unfoldable pub tabbed : List Name → Name
tabbed [] = line_feed ∷ []
tabbed (w ∷ ws) = tab ∷ (w ++ tabbed ws)

-- a requires line with these fields
unfoldable pub requires_line : List Name → Name
requires_line ws = bytes "requires" ++ tabbed ws

-- "`requires *`"
unfoldable pub is_starred : Name → Bool
is_starred l = eq_name l (requires_line ((star ∷ []) ∷ []))

-- the numbers of the lines with a star, after n lines above
unfoldable pub stars_from : ℕ → List Name → List ℕ
stars_from n [] = []
stars_from n (l ∷ ls) = let r : List ℕ = stars_from (suc n) ls in cond (is_starred l) (suc n ∷ r) r

-- WHAT MAY STAND THERE: "`acc` atoms, over the fields of `this` and then of w"

-- `acc x f`
pub record Access : Type 0 where
  pub variable : Name
  pub field : Name

-- of a variable by its class: an int has no field
unfoldable pub accesses_of : Declarations → Variable → List Access
accesses_of Γ v =
    map (λ d. record { variable = v.name; field = d.name })
    (keep (λ d. eqb d.owner (class_number Γ v.type)) Γ.fields)

unfoldable pub accesses_for : Declarations → List Variable → List Access
accesses_for Γ [] = []
accesses_for Γ (v ∷ vs) = accesses_of Γ v ++ accesses_for Γ vs

unfoldable pub scope_from : Scope → List Line → Scope
scope_from s [] = s
scope_from s (l ∷ ls) = scope_from (scope_after s l) ls

-- at line l, a requires line of a method: the block has `this` and w there, and no more
unfoldable pub accesses_at : List Line → ℕ → List Access
accesses_at ls l = accesses_for (declarations ls) (scope_from first_scope (take (pred l) ls)).block.variables

-- THE SETS: rising "places from 1"

-- n places from a on
unfoldable pub places_from : ℕ → ℕ → List ℕ
places_from a zero = []
places_from a (suc n) = a ∷ places_from (suc a) n

-- k of these places: first those with the first of them, so "the earlier place where two sets first differ"
unfoldable pub choose : ℕ → List ℕ → List (List ℕ)
choose zero ps = [] ∷ []
choose (suc k) [] = []
choose (suc k) (p ∷ ps) = map (λ q. p ∷ q) (choose k ps) ++ choose (suc k) ps

-- at most k: "Fewer atoms come first"
unfoldable pub choose_up_to : ℕ → List ℕ → List (List ℕ)
choose_up_to zero ps = choose zero ps
choose_up_to (suc k) ps = choose_up_to k ps ++ choose (suc k) ps

-- "of at most 4", where there are n atoms to choose from
unfoldable pub sets_of : ℕ → List (List ℕ)
sets_of n = choose_up_to most_filled (places_from 1 n)

-- THE LINE WITH A SET

abbrev pub no_access : Access
no_access = record { variable = []; field = [] }

unfoldable pub at_places : List Access → List ℕ → List Access
at_places αs ps = map (λ p. get_or αs (pred p) no_access) ps

unfoldable pub atom_words : List Access → List Name
atom_words [] = []
atom_words (a ∷ αs) = bytes "acc" ∷ a.variable ∷ a.field ∷ atom_words αs

-- the lines with these atoms in the place of each star
unfoldable pub with_atoms : List Access → List Name → List Name
with_atoms αs ls = map (λ l. cond (is_starred l) (requires_line (atom_words αs)) l) ls

-- Everything above computes where this unfolds.
unfoldable pub opened : Unit {0}
unfolding tabbed requires_line is_starred stars_from accesses_of accesses_for scope_from accesses_at places_from choose choose_up_to sets_of at_places atom_words with_atoms
opened = tt
