-- Laws of atoms and formulas at a cursor.
use mathlib.Core.Path.{◌≡◌, refl, sym, ◌∙◌}
use mathlib.Core.Bool.{true, false, not, ◌&&◌}
use mathlib.Core.List.{List, [], ◌∷◌}
use Prim.Native.Nat.{ℕ, zero, suc, ◌+◌, ◌≤◌, ◌<◌}
use native.Mathlib.Omega.{arith}
use lib.Dec.{eqb, eqb-suc-zero}
use lib.ListN.{length, get_or, drop}
use borrow.Author.Tests.{eq-eqb}
use Rattle.rules.specs.Base.{Name}
use Rattle.rules.specs.Text.{is_atom, is_formula}
use Rattle.read_bytes.proofs.Search.{true-false}
use Rattle.read_fields.specs.Cuts.{part, more, NextField}
use Rattle.read_fields.proofs.Cuts.{more-tab}

-- FORMULAS
pub formula-none : (n : ℕ) (ws : List Name) → ws ≡ [] → is_formula n ws ≡ true
unfolding is_formula
formula-none zero ws e = rw e
formula-none (suc n) ws e = rw e

pub formula-zero : (ws : List Name) → is_formula 0 ws ≡ eqb (length ws) 0
unfolding is_formula
formula-zero [] = refl
formula-zero (w ∷ ws) = sym (eqb-suc-zero (length ws))

formula-one : (n : ℕ) (w : Name) → is_formula (suc n) (w ∷ []) ≡ false
unfolding is_formula
formula-one n w = refl

formula-two : (n : ℕ) (w a : Name) → is_formula (suc n) (w ∷ a ∷ []) ≡ false
unfolding is_formula
formula-two n w a = refl

formula-atom : (n : ℕ) (w a b : Name) (ws : List Name) → is_formula (suc n) (w ∷ a ∷ b ∷ ws) ≡ (is_atom w a b && is_formula n ws)
unfolding is_formula
formula-atom n w a b ws = refl

-- no atom is allowed any more, and a field is there
full : (ws : List Name) → (ws ≡ [] → ⊥) → is_formula 0 ws ≡ false
unfolding is_formula
full [] h = absurd (h refl)
full (w ∷ ws) h = refl

-- a tab shows that a field is there
pub not_none : (t : List ℕ) (r : ℕ) → get_or t r 0 ≡ 9 → more (drop r t) ≡ [] → ⊥
not_none t r e n =
    let q : eqb 0 0 ≡ not (eqb (get_or t r 0) 9) = rw n at (more-tab t r) in
    let z : true ≡ false = rw (eq-eqb _ 9 e) at q in
    true-false z

pub formula-full : (t : List ℕ) (r : ℕ) → get_or t r 0 ≡ 9 → is_formula 0 (more (drop r t)) ≡ false
formula-full t r e = full (more (drop r t)) (not_none t r e)

-- AN ATOM, FIELD BY FIELD

-- After a field that ends at r, the next three are an atom and end at e; e is r where they are none.
pub record NextAtom (t : List ℕ) (r e : ℕ) : Type 0 where
  pub low : r ≤ e
  pub high : e ≤ length t
  pub none : e ≡ r → (n : ℕ) → (more (drop r t) ≡ [] → ⊥) → is_formula (suc n) (more (drop r t)) ≡ false
  pub some : r < e → (n : ℕ) → is_formula (suc n) (more (drop r t)) ≡ is_formula n (more (drop e t))

pub more-on : {t : List ℕ} {r e : ℕ} → NextField t r e → (e ≡ r → ⊥) → more (drop r t) ≡ part (r + 1) e t ∷ more (drop e t)
more-on f n = f.some (omega (arith, f.low, n))

no-atom :
    {t : List ℕ} {r : ℕ} → r ≤ length t →
    ((n : ℕ) → (more (drop r t) ≡ [] → ⊥) → is_formula (suc n) (more (drop r t)) ≡ false) → NextAtom t r r
no-atom h f = record { low = omega arith; high = h; none = λ e. f; some = λ l. absurd (omega arith) }

module _ {t : List ℕ} {r x : ℕ} (f : NextField t r x) where
  pub atom-0 : x ≡ r → NextAtom t r r
  atom-0 e = no-atom (omega (arith, f.low, f.high)) (λ n k. absurd (k (f.none e)))

  module _ (a : x ≡ r → ⊥) {y : ℕ} (g : NextField t x y) where
    pub atom-1 : y ≡ x → NextAtom t r r
    atom-1 e = no-atom (omega (arith, f.low, f.high)) (λ n k. rw (more-on f a, g.none e) (formula-one n _))

    module _ (b : y ≡ x → ⊥) {z : ℕ} (h : NextField t y z) where
      pub atom-2 : z ≡ y → NextAtom t r r
      atom-2 e = no-atom (omega (arith, f.low, f.high)) (λ n k. rw (more-on f a, more-on g b, h.none e) (formula-two n _ _))

      module _ (d : z ≡ y → ⊥) where
        three :
            (n : ℕ) →
            is_formula (suc n) (more (drop r t)) ≡ (is_atom (part (r + 1) x t) (part (x + 1) y t) (part (y + 1) z t) && is_formula n (more (drop z t)))
        three n = rw (more-on f a, more-on g b, more-on h d) (formula-atom n _ _ _ _)

        pub atom-3 : is_atom (part (r + 1) x t) (part (x + 1) y t) (part (y + 1) z t) ≡ false → NextAtom t r r
        atom-3 e = no-atom (omega (arith, f.low, f.high)) (λ n k. three n ∙ rw e)

        pub atom-here : is_atom (part (r + 1) x t) (part (x + 1) y t) (part (y + 1) z t) ≡ true → NextAtom t r z
        atom-here e =
            record {
              low = omega (arith, f.low, g.low, h.low);
              high = h.high;
              none = λ q. absurd (omega (arith, f.low, g.low, h.low, d));
              some = λ l n. three n ∙ rw e;
            }
