-- What is left of the entries, and their kinds when that is stored.
use mathlib.Core.Path.{◌≡◌, refl, ap, ap₂, ◌∙◌}
use mathlib.Core.Bool.{Bool, true, false, cond}
use mathlib.Core.List.{List, [], ◌∷◌, ◌++◌}
use mathlib.Core.Logic.{inl}
use Prim.Native.Nat.{ℕ, zero, suc, ◌+◌, ◌≤◌, ◌<◌}
use native.Mathlib.Omega.{arith}
use lib.Dec.{eqb}
use lib.ListN.{get_or}
use borrow.Author.Tests.{ne_eqb}
use Rattle.rules.specs.Limits.{most_permissions}
use Rattle.rules.specs.State.{entry}
use Rattle.check_equality.specs.Listing.{listed}
use Rattle.check_equality.specs.Layout.{variables_at, fields_at, kinds_at}
use Rattle.check_state.specs.States.{variable_at, field_at, kind_at, permit_of, permission_at, permissions_in, KindsIn}
use Rattle.check_entries.specs.Entries.{kept, entry_left, appended, left_in, kind_left, StoredLeft, OutBy}

-- the same parts
pub appended-same : {A : Type 0} (p q : ℕ → List A) (n : ℕ) → ((i : ℕ) → i < n → p i ≡ q i) → appended p n ≡ appended q n
unfolding appended
appended-same p q zero h = refl
appended-same {A = A} p q (suc n) h = ap₂ (λ (a b : List A). a ++ b) (appended-same p q n (λ i k. h i (omega arith))) (h n (omega arith))

-- parts of one element each
pub appended-listed : {A : Type 0} (f : ℕ → A) (n : ℕ) → appended (λ i. f i ∷ []) n ≡ listed f n
unfolding appended listed
appended-listed f zero = refl
appended-listed {A = A} f (suc n) = ap (λ (l : List A). l ++ (f n ∷ [])) (appended-listed f n)

pub kept-parts : {A : Type 0} (out : List Bool) (f : ℕ → A) (n : ℕ) → kept out f n ≡ appended (λ i. cond (get_or out i false) [] (f i ∷ [])) n
unfolding kept appended
kept-parts out f zero = refl
kept-parts {A = A} out f (suc n) = ap (λ (l : List A). l ++ cond (get_or out n false) [] (f n ∷ [])) (kept-parts out f n)

-- all is left that there is
pub all_left : (b left : List ℕ) (n : ℕ) → ((i : ℕ) → i < n → get_or left i 0 ≡ kind_at b i) → KindsIn b n → left_in b left n ≡ permissions_in b n
unfolding entry_left
all_left b left n e K =
    appended-same _ (λ i. permission_at b i ∷ []) n (λ i h. rw (e i h, ne_eqb (kind_at b i) 0 (λ d. omega (arith, (K i h).0, d))))
    ∙ appended-listed (permission_at b) n

-- the entries that are not out then are what is left
pub stored-left :
    (b left b' : List ℕ) (out : List Bool) (n : ℕ) → n ≤ most_permissions → StoredLeft b left most_permissions b' → OutBy left most_permissions out →
    kept out (permission_at b') n ≡ left_in b left n
unfolding entry_left kind_left
stored-left b left b' out n h S O = kept-parts out (permission_at b') n ∙ appended-same _ _ n one
  where
    low : (s i : ℕ) → s + i < kinds_at → get_or b' (s + i) 0 ≡ get_or b (s + i) 0
    low s i g = S.rest (s + i) (inl g)

    one : (i : ℕ) → i < n → cond (get_or out i false) [] (permission_at b' i ∷ []) ≡ entry_left (get_or left i 0) (variable_at b i) (field_at b i)
    one i g = rw (O.at i (omega arith), S.kinds i (omega arith), low variables_at i (omega arith), low fields_at i (omega arith)) (go (eqb (get_or left i 0) 0))
      where
        go :
            (c : Bool) →
            cond c [] (entry (permit_of (cond c (kind_at b i) (get_or left i 0))) (variable_at b i) (field_at b i) ∷ [])
            ≡ cond c [] (entry (permit_of (get_or left i 0)) (variable_at b i) (field_at b i) ∷ [])
        go true = refl
        go false = refl
