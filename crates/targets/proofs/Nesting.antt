-- What rows that nest say of each block: it nests, and only its `end` is last.
use mathlib.Core.Path.{◌≡◌, refl, subst}
use mathlib.Core.Bool.{Bool, true, false}
use mathlib.Core.List.{List, [], ◌∷◌}
use Prim.Native.Nat.{ℕ, zero, suc, ◌<◌}
use native.Mathlib.Omega.{arith}
use lib.Dec.{T, ltb, leb, le→leb}
use lib.ListN.{length, get_or}
use Rattle.rules.specs.Syntax.{Stmt, Row, simple, return, if, else, join, loop, again, end, no_row}
use Rattle.rules.proofs.Lists.{and_both, and_intro}
use Rattle.tables.specs.Tables.{nested_row, nested}
use Rattle.nesting.specs.Nests.{Wait, for_else, for_join, for_again, row_nests, rows_nest}

-- EACH BLOCK NESTS
row-nested :
    (s : Stmt) (ws : List Wait) (k : Bool → List Wait → Bool) (l : ℕ → Bool) →
    ((ws : List Wait) → T (k false ws) → T (l (length ws))) → T (row_nests s ws k) → T (nested_row s l (length ws))
unfolding row_nests nested_row
row-nested (simple p) ws k l h t = h ws t
row-nested (return x) ws k l h t = h ws t
row-nested (if n a b) ws k l h t =
    let (x, y) = and_both (ltb (length ws) 4) _ t in and_intro (leb (suc (length ws)) 4) _ x (h (for_else ∷ ws) y)
row-nested else [] k l h t = absurd t
row-nested else (for_else ∷ ws) k l h t = and_intro (leb 1 (suc (length ws))) _ (le→leb 1 (suc (length ws)) (omega arith)) (h (for_join ∷ ws) t)
row-nested else (for_join ∷ ws) k l h t = absurd t
row-nested else (for_again ∷ ws) k l h t = absurd t
row-nested (join φ) [] k l h t = absurd t
row-nested (join φ) (for_else ∷ ws) k l h t = absurd t
row-nested (join φ) (for_join ∷ ws) k l h t = h ws t
row-nested (join φ) (for_again ∷ ws) k l h t = absurd t
row-nested (loop n a b φ) ws k l h t =
    let (x, y) = and_both (ltb (length ws) 4) _ t in and_intro (leb (suc (length ws)) 4) _ x (h (for_again ∷ ws) y)
row-nested again [] k l h t = absurd t
row-nested again (for_else ∷ ws) k l h t = absurd t
row-nested again (for_join ∷ ws) k l h t = absurd t
row-nested again (for_again ∷ ws) k l h t = h ws t
row-nested end [] k l h t = tt
row-nested end (v ∷ ws) k l h t = absurd t

pub rows-nested : (rs : List Row) (ws : List Wait) → T (rows_nest false ws rs) → T (nested rs (length ws))
unfolding rows_nest nested
rows-nested [] [] t = t
rows-nested [] (v ∷ ws) t = absurd t
rows-nested (r ∷ rs) ws t =
    row-nested r.stmt ws (λ b ws. rows_nest b ws rs) (λ d. nested rs d) (λ ws u. rows-nested rs ws u) t

-- FROM ROW TO ROW

-- the state after a row is that of the rows that follow
row_on :
    (s : Stmt) (ws : List Wait) (k : Bool → List Wait → Bool) → T (row_nests s ws k) →
    (b : Bool) × (ws' : List Wait) × T (k b ws') × (s ≡ end → (b ≡ true) × (ws' ≡ [])) × ((s ≡ end → ⊥) → b ≡ false)
unfolding row_nests
row_on (simple p) ws k t = (false, ws, t, λ e. absurd (let z : ◌≡◌ {A = ℕ} 0 1 = cc in omega arith), λ n. refl)
row_on (return x) ws k t = (false, ws, t, λ e. absurd (let z : ◌≡◌ {A = ℕ} 0 1 = cc in omega arith), λ n. refl)
row_on (if n a b) ws k t =
    (false, for_else ∷ ws, (and_both (ltb (length ws) 4) _ t).1, λ e. absurd (let z : ◌≡◌ {A = ℕ} 0 1 = cc in omega arith), λ n. refl)
row_on else [] k t = absurd t
row_on else (for_else ∷ ws) k t = (false, for_join ∷ ws, t, λ e. absurd (let z : ◌≡◌ {A = ℕ} 0 1 = cc in omega arith), λ n. refl)
row_on else (for_join ∷ ws) k t = absurd t
row_on else (for_again ∷ ws) k t = absurd t
row_on (join φ) [] k t = absurd t
row_on (join φ) (for_else ∷ ws) k t = absurd t
row_on (join φ) (for_join ∷ ws) k t = (false, ws, t, λ e. absurd (let z : ◌≡◌ {A = ℕ} 0 1 = cc in omega arith), λ n. refl)
row_on (join φ) (for_again ∷ ws) k t = absurd t
row_on (loop n a b φ) ws k t =
    (false, for_again ∷ ws, (and_both (ltb (length ws) 4) _ t).1, λ e. absurd (let z : ◌≡◌ {A = ℕ} 0 1 = cc in omega arith), λ n. refl)
row_on again [] k t = absurd t
row_on again (for_else ∷ ws) k t = absurd t
row_on again (for_join ∷ ws) k t = absurd t
row_on again (for_again ∷ ws) k t = (false, ws, t, λ e. absurd (let z : ◌≡◌ {A = ℕ} 0 1 = cc in omega arith), λ n. refl)
row_on end [] k t = (true, [], t, λ e. (refl, refl), λ n. absurd (n refl))
row_on end (v ∷ ws) k t = absurd t

-- a row that is no `end` is not the last
pub not_last :
    (rs : List Row) (b : Bool) (ws : List Wait) → T (rows_nest b ws rs) → (i : ℕ) → i < length rs →
    ((get_or rs i no_row).stmt ≡ end → ⊥) → suc i < length rs
unfolding rows_nest
not_last [] b ws t i l n = absurd (omega (arith, l))
not_last (r ∷ rs) b ws t zero l n =
    let (b', ws', u, h, m) = row_on r.stmt ws (λ b ws. rows_nest b ws rs) t in
    more rs ws' (subst (λ (c : Bool). T (rows_nest c ws' rs)) (m n) u)
  where
    more : (rs : List Row) (ws : List Wait) → T (rows_nest false ws rs) → 1 < suc (length rs)
    more [] [] t = absurd t
    more [] (v ∷ ws) t = absurd t
    more (r ∷ rs) ws t = omega arith
not_last (r ∷ rs) b ws t (suc i) l n =
    let (b', ws', u, h, m) = row_on r.stmt ws (λ b ws. rows_nest b ws rs) t in
    let k = not_last rs b' ws' u i (omega (arith, l)) n in omega (arith, k)
