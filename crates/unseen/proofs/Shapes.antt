-- Heaps of alike objects: what of them a step sees, and that a store and a new object keep them alike.
use mathlib.Core.Path.{◌≡◌, refl, sym, ap, ap₂, ◌∙◌}
use mathlib.Core.Bool.{Bool, true, false, cond}
use mathlib.Core.List.{List, [], ◌∷◌, ◌++◌, map}
use mathlib.Core.Logic.{◌⊎◌, inl, inr}
use Prim.Native.Nat.{ℕ, zero, suc, ◌+◌, ◌≤◌, ◌<◌}
use native.Mathlib.Omega.{arith}
use lib.Dec.{eqb}
use lib.ListN.{length, get_or}
use Rattle.rules.specs.Base.{update}
use Rattle.rules.specs.Machine.{Heap, Cell, Location, value_at, value_in, object, store, store_in, fields_in}
use Rattle.rules.proofs.Lists.{decide_eq}
use Rattle.rules.proofs.Heaps.{store_same, store_other}
use Rattle.unseen.specs.Unseen.{names_of, classes_of, SameAt}

-- COUNTS
length-map : {A B : Type 0} (g : A → B) (l : List A) → length (map g l) ≡ length l
length-map g [] = refl
length-map g (a ∷ l) = ap suc (length-map g l)

pub alike-length : (h h' : Heap) → classes_of h' ≡ classes_of h → length h' ≡ length h
unfolding classes_of
alike-length h h' e = sym (length-map names_of h') ∙ (ap (λ (l : List (List ℕ)). length l) e ∙ length-map names_of h)

sum : List (List ℕ) → ℕ
sum [] = 0
sum (l ∷ ls) = length l + sum ls

fields-sum : (h : Heap) → fields_in h ≡ sum (classes_of h)
unfolding fields_in classes_of names_of sum
fields-sum [] = refl
fields-sum (o ∷ h) = ap₂ ◌+◌ (sym (length-map (λ (c : Cell). c.name) o)) (fields-sum h)

pub alike-fields : (h h' : Heap) → classes_of h' ≡ classes_of h → fields_in h' ≡ fields_in h
alike-fields h h' e = fields-sum h' ∙ (ap sum e ∙ sym (fields-sum h))

-- A STORE
-- the names of an object's fields after a store
add_name : ℕ → List ℕ → List ℕ
add_name f [] = f ∷ []
add_name f (n ∷ ns) = cond (eqb n f) (f ∷ ns) (n ∷ add_name f ns)

stored-names : (f v : ℕ) (cs : List Cell) → names_of (store_in f v cs) ≡ add_name f (names_of cs)
unfolding names_of store_in add_name
stored-names f v [] = refl
stored-names f v (c ∷ cs) = go (eqb c.name f) (stored-names f v cs)
  where
    go :
        (b : Bool) → names_of (store_in f v cs) ≡ add_name f (names_of cs) →
        names_of (cond b (record { name = f; value = v } ∷ cs) (c ∷ store_in f v cs))
        ≡ cond b (f ∷ names_of cs) (c.name ∷ add_name f (names_of cs))
    go true e = refl
    go false e = ap (λ (l : List ℕ). c.name ∷ l) e

map-update :
    {A B : Type 0} (g : A → B) (d : A) (l : List A) (i : ℕ) (a : A) → map g (update d l i a) ≡ update (g d) (map g l) i (g a)
unfolding update
map-update g d [] zero a = refl
map-update g d (x ∷ l) zero a = refl
map-update g d [] (suc i) a = ap (λ (k : List _). g d ∷ k) (map-update g d [] i a)
map-update g d (x ∷ l) (suc i) a = ap (λ (k : List _). g x ∷ k) (map-update g d l i a)

map-get_or : {A B : Type 0} (g : A → B) (l : List A) (i : ℕ) (d : A) → g (get_or l i d) ≡ get_or (map g l) i (g d)
map-get_or g [] i d = refl
map-get_or g (x ∷ l) zero d = refl
map-get_or g (x ∷ l) (suc i) d = map-get_or g l i d

-- what a store makes of the classes
store_class : List (List ℕ) → ℕ → ℕ → List (List ℕ)
store_class ls zero f = ls
store_class ls (suc i) f = update [] ls i (add_name f (get_or ls i []))

store-classes_of : (h : Heap) (o f v : ℕ) → classes_of (store h o f v) ≡ store_class (classes_of h) o f
unfolding classes_of store store_class names_of
store-classes_of h zero f v = refl
store-classes_of h (suc i) f v =
    map-update names_of [] h i (store_in f v (get_or h i []))
    ∙ ap (λ (l : List ℕ). update [] (map names_of h) i l)
    (stored-names f v (get_or h i []) ∙ ap (add_name f) (map-get_or names_of h i []))

pub store-alike :
    (h h' : Heap) (o f v : ℕ) → classes_of h' ≡ classes_of h → classes_of (store h' o f v) ≡ classes_of (store h o f v)
store-alike h h' o f v e =
    store-classes_of h' o f v ∙ (ap (λ (l : List (List ℕ)). store_class l o f) e ∙ sym (store-classes_of h o f v))

-- the heaps agree where they did
pub store-agrees :
    (h h' : Heap) (o f v : ℕ) (p : Location) → SameAt h h' p → SameAt (store h o f v) (store h' o f v) p
unfolding store
store-agrees h h' zero f v p e = e
store-agrees h h' (suc i) f v p e = go (decide_eq (suc i) p.object) (decide_eq p.field f)
  where
    other : ((suc i ≡ p.object) × (p.field ≡ f) → ⊥) → SameAt (store h (suc i) f v) (store h' (suc i) f v) p
    other n =
        store_other h' (suc i) f v p.object p.field n ∙ (e ∙ sym (store_other h (suc i) f v p.object p.field n))

    one : (k : Heap) → suc i ≡ p.object → p.field ≡ f → value_at (store k (suc i) f v) p.object p.field ≡ v
    one k a b = rw (sym a, b) (store_same k (suc i) f v (λ z. omega (arith, z)))

    go :
        (suc i ≡ p.object) ⊎ (suc i ≡ p.object → ⊥) → (p.field ≡ f) ⊎ (p.field ≡ f → ⊥) →
        SameAt (store h (suc i) f v) (store h' (suc i) f v) p
    go (inl a) (inl b) = one h' a b ∙ sym (one h a b)
    go (inl a) (inr b) = other (λ q. b q.1)
    go (inr a) (inl b) = other (λ q. a q.0)
    go (inr a) (inr b) = other (λ q. a q.0)

-- A NEW OBJECT
map-append : {A B : Type 0} (g : A → B) (l k : List A) → map g (l ++ k) ≡ map g l ++ map g k
map-append g [] k = refl
map-append g (a ∷ l) k = ap (λ (j : List _). g a ∷ j) (map-append g l k)

pub grown-alike :
    (h h' : Heap) (c : List Cell) → classes_of h' ≡ classes_of h → classes_of (h' ++ (c ∷ [])) ≡ classes_of (h ++ (c ∷ []))
unfolding classes_of
grown-alike h h' c e =
    map-append names_of h' (c ∷ [])
    ∙ (ap (λ (l : List (List ℕ)). l ++ (names_of c ∷ [])) e ∙ sym (map-append names_of h (c ∷ [])))

append-agrees :
    (h h' : Heap) (c : List Cell) (i f : ℕ) → length h' ≡ length h → value_in (get_or h' i []) f ≡ value_in (get_or h i []) f →
    value_in (get_or (h' ++ (c ∷ [])) i []) f ≡ value_in (get_or (h ++ (c ∷ [])) i []) f
append-agrees [] [] c i f l e = refl
append-agrees [] (o ∷ h') c i f l e = absurd (omega (arith, l))
append-agrees (o ∷ h) [] c i f l e = absurd (omega (arith, l))
append-agrees (o ∷ h) (o' ∷ h') c zero f l e = e
append-agrees (o ∷ h) (o' ∷ h') c (suc i) f l e = append-agrees h h' c i f (omega (arith, l)) e

value-agrees :
    (h h' : Heap) (c : List Cell) (o f : ℕ) → classes_of h' ≡ classes_of h → value_at h' o f ≡ value_at h o f →
    value_at (h' ++ (c ∷ [])) o f ≡ value_at (h ++ (c ∷ [])) o f
unfolding value_at object
value-agrees h h' c zero f a e = refl
value-agrees h h' c (suc i) f a e = append-agrees h h' c i f (alike-length h h' a) e

pub grown-agrees :
    (h h' : Heap) (c : List Cell) (p : Location) → classes_of h' ≡ classes_of h → SameAt h h' p →
    SameAt (h ++ (c ∷ [])) (h' ++ (c ∷ [])) p
grown-agrees h h' c p a e = value-agrees h h' c p.object p.field a e

-- AN OBJECT THAT IS NOT THERE
beyond : (h : Heap) (i : ℕ) → length h ≤ i → get_or h i [] ≡ []
beyond [] i l = refl
beyond (o ∷ h) zero l = absurd (omega (arith, l))
beyond (o ∷ h) (suc i) l = beyond h i (omega (arith, l))

absent : (h : Heap) (o f : ℕ) → length h < o → value_at h o f ≡ 0
unfolding value_at object value_in
absent h zero f l = absurd (omega (arith, l))
absent h (suc i) f l = rw (beyond h i (omega (arith, l))) refl

pub absent-agrees : (h h' : Heap) (p : Location) → classes_of h' ≡ classes_of h → length h < p.object → SameAt h h' p
absent-agrees h h' p a l =
    absent h' p.object p.field (omega (arith, l, alike-length h h' a)) ∙ sym (absent h p.object p.field l)
