-- Laws of a store in the heap: it keeps the count of objects and fields, and the names of each object's fields.
use mathlib.Core.Path.{◌≡◌, refl, sym, ap, subst}
use mathlib.Core.Bool.{Bool, true, false, cond, ◌||◌}
use mathlib.Core.List.{List, [], ◌∷◌}
use mathlib.Core.Logic.{◌⊎◌, inl, inr}
use Prim.Native.Nat.{ℕ, zero, suc, ◌+◌, ◌<◌}
use native.Mathlib.Omega.{arith}
use lib.Dec.{T, eqb, eqb→eq}
use lib.ListN.{length, get_or}
use Rattle.rules.specs.Base.{any, update}
use Rattle.rules.specs.Machine.{Heap, Cell, store, store_in, object, fields_in}
use Rattle.rules.proofs.Lists.{decide_eq, update_same, update_other, or_left, or_right, or_cases}

-- a field of this name is there
abbrev pub Has : List Cell → ℕ → Type 0
Has cs f = T (any (λ c. eqb c.name f) cs)

store-in-size : (f v : ℕ) (cs : List Cell) → Has cs f → length (store_in f v cs) ≡ length cs
unfolding store_in any
store-in-size f v [] t = absurd t
store-in-size f v (c ∷ cs) t = go (eqb c.name f) t (λ h. store-in-size f v cs h)
  where
    go :
        (b : Bool) → T (b || any (λ c. eqb c.name f) cs) → (Has cs f → length (store_in f v cs) ≡ length cs) →
        length (cond b (record { name = f; value = v } ∷ cs) (c ∷ store_in f v cs)) ≡ suc (length cs)
    go true t k = refl
    go false t k = ap suc (k t)

store-in-has : (f v g : ℕ) (cs : List Cell) → Has cs g → Has (store_in f v cs) g
unfolding store_in any
store-in-has f v g [] t = absurd t
store-in-has f v g (c ∷ cs) t =
    go (eqb c.name f) refl (λ k. store-in-has f v g cs k) (or_cases (eqb c.name g) (any (λ c. eqb c.name g) cs) t)
  where
    go :
        (b : Bool) → eqb c.name f ≡ b → (Has cs g → Has (store_in f v cs) g) → T (eqb c.name g) ⊎ Has cs g →
        T (any (λ c. eqb c.name g) (cond b (record { name = f; value = v } ∷ cs) (c ∷ store_in f v cs)))
    go true e k (inl t) =
        or_left (eqb f g) (any (λ c. eqb c.name g) cs) (subst (λ i. T (eqb i g)) (eqb→eq c.name f (subst T (sym e) tt)) t)
    go true e k (inr t) = or_right (eqb f g) (any (λ c. eqb c.name g) cs) t
    go false e k (inl t) = or_left (eqb c.name g) _ t
    go false e k (inr t) = or_right (eqb c.name g) _ (k t)

update-size : {A : Type 0} (d : A) (l : List A) (i : ℕ) (a : A) → i < length l → length (update d l i a) ≡ length l
unfolding update
update-size d [] i a h = absurd (omega arith)
update-size d (x ∷ l) zero a h = refl
update-size d (x ∷ l) (suc i) a h = ap suc (update-size d l i a (omega arith))

fields-update : (h : Heap) (i : ℕ) (o : List Cell) → i < length h → length o ≡ length (get_or h i []) → fields_in (update [] h i o) ≡ fields_in h
unfolding update fields_in
fields-update [] i o l e = absurd (omega arith)
fields-update (x ∷ h) zero o l e = rw e
fields-update (x ∷ h) (suc i) o l e = ap (λ (n : ℕ). length x + n) (fields-update h i o (omega arith) e)

module _ (h : Heap) (i f v : ℕ) (l : i < length h) where
  pub store-size : length (store h (suc i) f v) ≡ length h
  unfolding store
  store-size = update-size [] h i _ l

  pub store-fields : Has (object h (suc i)) f → fields_in (store h (suc i) f v) ≡ fields_in h
  unfolding store object
  store-fields t = fields-update h i _ l (store-in-size f v (get_or h i []) t)

  pub store-has : (o g : ℕ) → Has (object h o) g → Has (object (store h (suc i) f v) o) g
  unfolding store object
  store-has zero g t = t
  store-has (suc j) g t = go (decide_eq i j)
    where
      go : (i ≡ j) ⊎ (i ≡ j → ⊥) → Has (get_or (update [] h i (store_in f v (get_or h i []))) j []) g
      go (inl e) =
          subst (λ k. Has (get_or (update [] h i (store_in f v (get_or h i []))) k []) g) e
          (rw (update_same [] h i (store_in f v (get_or h i [])))
          (store-in-has f v g (get_or h i []) (subst (λ k. Has (get_or h k []) g) (sym e) t)))
      go (inr n) = rw (update_other [] h i j (store_in f v (get_or h i [])) n) t
