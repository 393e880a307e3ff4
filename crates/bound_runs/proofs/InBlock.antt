-- Rows of one block: where rows nest, a jump of `if` and `else` goes to a later row of its block, and not past its `end`.
use mathlib.Core.Path.{◌≡◌, refl, sym, ap, ◌∙◌, subst}
use mathlib.Core.Bool.{Bool, true, false, cond, ◌&&◌}
use mathlib.Core.List.{List, [], ◌∷◌, ◌++◌}
use Prim.Native.Nat.{ℕ, zero, suc}
use native.Mathlib.Omega.{arith}
use lib.Dec.{T, eqb, ltb, eqb-suc-zero}
use lib.ListN.{length, get_or, drop}
use Rattle.rules.specs.Limits.{most_branches}
use Rattle.rules.specs.Syntax.{Stmt, Row, Program, no_row, row_numbered, simple, return, if, else, join, loop, again, end}
use Rattle.rules.specs.Machine.{seek, closing, closes, depth_after}
use Rattle.rules.specs.Bounds.{is_end}
use Rattle.rules.proofs.Lists.{and_both, cons_head, cons_tail}
use Rattle.nesting.specs.Nests.{Wait, for_else, for_join, for_again, row_nests, rows_nest}

-- a list that goes on only where a row does
pub nests-more : (ws : List Wait) (l : List Row) → T (rows_nest false ws l) → T (rows_nest true ws l)
unfolding rows_nest
nests-more [] [] t = tt
nests-more (v ∷ ws) [] t = t
nests-more [] (r ∷ l) t = t
nests-more (v ∷ ws) (r ∷ l) t = t

row_first : (l : List Row) (i : ℕ) (r : Row) (rs : List Row) → drop i l ≡ r ∷ rs → (get_or l i no_row ≡ r) × (drop (suc i) l ≡ rs)
row_first [] zero r rs e = absurd (let z : ◌≡◌ {A = ℕ} 0 1 = cc in omega arith)
row_first [] (suc i) r rs e = absurd (let z : ◌≡◌ {A = ℕ} 0 1 = cc in omega arith)
row_first (x ∷ l) zero r rs e = (cons_head e, cons_tail e)
row_first (x ∷ l) (suc i) r rs e = row_first l i r rs e

module _ (P : Program) where
  -- the second row is the first or follows it, with no `end` between
  pub data Later : ℕ → ℕ → Type 0 where
    same : {i : ℕ} → Later i i
    pass : {i j : ℕ} → is_end (row_numbered P i).stmt ≡ false → Later (suc i) j → Later i j

  later-one : {i j : ℕ} → Later i j → is_end (row_numbered P j).stmt ≡ false → Later i (suc j)
  later-one same e = pass e same
  later-one (pass n l) e = pass n (later-one l e)

  -- from row i on the rows nest, with ws open
  abbrev pub NestsAt : ℕ → List Wait → Type 0
  NestsAt i ws = T (rows_nest true ws (drop i P.rows))

  -- what follows a row that is no `end`
  abbrev pub goes : ℕ → Bool → List Wait → Bool
  goes i b ws = rows_nest b ws (drop (suc i) P.rows)

  pub nests-row : (i : ℕ) (ws : List Wait) → NestsAt i ws → T (row_nests (row_numbered P i).stmt ws (goes i))
  unfolding row_numbered rows_nest row_nests
  nests-row i ws t = go P.rows i ws t
    where
      go :
          (l : List Row) (i : ℕ) (ws : List Wait) → T (rows_nest true ws (drop i l)) →
          T (row_nests (get_or l i no_row).stmt ws (λ b ws. rows_nest b ws (drop (suc i) l)))
      go [] zero [] t = tt
      go [] (suc i) [] t = tt
      go [] zero (v ∷ ws) t = t
      go [] (suc i) (v ∷ ws) t = t
      go (r ∷ l) zero [] t = t
      go (r ∷ l) zero (v ∷ ws) t = t
      go (r ∷ l) (suc i) ws t = go l i ws t

  pub nests-next : (i : ℕ) (ws : List Wait) → T (goes i false ws) → NestsAt (suc i) ws
  nests-next i ws t = nests-more ws (drop (suc i) P.rows) t

  -- the row that closes what waits for v
  record ClosedBy (v : Wait) (ws : List Wait) (i j : ℕ) : Type 0 where
    later : Later i j
    closes-it : T (closes (row_numbered P j).stmt)
    nests : NestsAt j (v ∷ ws)

  abbrev ClosedLater : Wait → List Wait → ℕ → List Row → Type 0
  ClosedLater v ws i rs = (us : List Wait) → NestsAt i (us ++ (v ∷ ws)) → ClosedBy v ws i (seek (length us) i rs)

  further : {v : Wait} {ws : List Wait} {i j : ℕ} → is_end (row_numbered P i).stmt ≡ false → ClosedBy v ws (suc i) j → ClosedBy v ws i j
  further e F = record { later = pass e F.later; closes-it = F.closes-it; nests = F.nests }

  module _ (v : Wait) (ws : List Wait) (i : ℕ) (rs : List Row) (ih : ClosedLater v ws (suc i) rs) where
    -- on over the row i, with us open after it
    over :
        (t : Stmt) → (row_numbered P i).stmt ≡ t → is_end t ≡ false → (us : List Wait) → T (goes i false (us ++ (v ∷ ws))) →
        ClosedBy v ws i (seek (length us) (suc i) rs)
    over t w n us k = further (ap is_end w ∙ n) (ih us (nests-next i (us ++ (v ∷ ws)) k))

    here : (t : Stmt) → (row_numbered P i).stmt ≡ t → T (closes t) → NestsAt i (v ∷ ws) → ClosedBy v ws i i
    here t w c k = record { later = same; closes-it = subst (λ t. T (closes t)) (sym w) c; nests = k }

    found-row :
        (t : Stmt) → (row_numbered P i).stmt ≡ t → (us : List Wait) → NestsAt i (us ++ (v ∷ ws)) → T (row_nests t (us ++ (v ∷ ws)) (goes i)) →
        ClosedBy v ws i (cond (closes t && eqb (length us) 0) i (seek (depth_after t (length us)) (suc i) rs))
    unfolding row_nests closes depth_after is_end
    found-row (simple p) w us h k = over (simple p) w refl us k
    found-row (return x) w us h k = over (return x) w refl us k
    found-row (if n a b) w us h k =
        over (if n a b) w refl (for_else ∷ us) (and_both (ltb (length (us ++ (v ∷ ws))) most_branches) _ k).1
    found-row (loop n a b φ) w us h k =
        over (loop n a b φ) w refl (for_again ∷ us) (and_both (ltb (length (us ++ (v ∷ ws))) most_branches) _ k).1
    found-row else w [] h k = here else w tt h
    found-row else w (for_else ∷ us) h k = rw eqb-suc-zero (over else w refl (for_join ∷ us) k)
    found-row else w (for_join ∷ us) h k = absurd k
    found-row else w (for_again ∷ us) h k = absurd k
    found-row (join φ) w [] h k = here (join φ) w tt h
    found-row (join φ) w (for_else ∷ us) h k = absurd k
    found-row (join φ) w (for_join ∷ us) h k = rw eqb-suc-zero (over (join φ) w refl us k)
    found-row (join φ) w (for_again ∷ us) h k = absurd k
    found-row again w [] h k = here again w tt h
    found-row again w (for_else ∷ us) h k = absurd k
    found-row again w (for_join ∷ us) h k = absurd k
    found-row again w (for_again ∷ us) h k = rw eqb-suc-zero (over again w refl us k)
    found-row end w [] h k = absurd k
    found-row end w (u ∷ us) h k = absurd k

  find : (v : Wait) (ws : List Wait) (rs : List Row) (i : ℕ) → drop i P.rows ≡ rs → ClosedLater v ws i rs
  unfolding rows_nest seek row_numbered
  find v ws [] i e us t = absurd (nothing us (subst (λ rs. T (rows_nest true (us ++ (v ∷ ws)) rs)) e t))
    where
      nothing : (us : List Wait) → T (rows_nest true (us ++ (v ∷ ws)) []) → ⊥
      nothing [] t = t
      nothing (u ∷ us) t = t
  find v ws (r ∷ rs) i e us t =
      let (is, rest) = row_first P.rows i r rs e in
      let w : (row_numbered P i).stmt ≡ r.stmt = ap (λ (r : Row). r.stmt) is in
      found-row v ws i rs (find v ws rs (suc i) rest) r.stmt w us t
      (subst (λ t. T (row_nests t (us ++ (v ∷ ws)) (goes i))) w (nests-row i (us ++ (v ∷ ws)) t))

  to-closing : (v : Wait) (ws : List Wait) (i : ℕ) → NestsAt (suc i) (v ∷ ws) → ClosedBy v ws (suc i) (closing P.rows i)
  unfolding closing
  to-closing v ws i t = find v ws (drop (suc i) P.rows) (suc i) refl [] t

  -- a false `if` goes to the row after its `else`
  pub after_else :
      (i : ℕ) (ws : List Wait) → NestsAt (suc i) (for_else ∷ ws) →
      Later (suc i) (suc (closing P.rows i)) × NestsAt (suc (closing P.rows i)) (for_join ∷ ws)
  unfolding closes row_nests is_end
  after_else i ws t =
      let F = to-closing for_else ws i t in
      go _ refl F.closes-it (nests-row (closing P.rows i) (for_else ∷ ws) F.nests) F.later
    where
      go :
          (t : Stmt) → (row_numbered P (closing P.rows i)).stmt ≡ t → T (closes t) → T (row_nests t (for_else ∷ ws) (goes (closing P.rows i))) →
          Later (suc i) (closing P.rows i) →
          Later (suc i) (suc (closing P.rows i)) × NestsAt (suc (closing P.rows i)) (for_join ∷ ws)
      go (simple p) w c k l = absurd c
      go (return x) w c k l = absurd c
      go (if n a b) w c k l = absurd c
      go else w c k l = (later-one l (ap is_end w), nests-next (closing P.rows i) (for_join ∷ ws) k)
      go (join φ) w c k l = absurd k
      go (loop n a b φ) w c k l = absurd c
      go again w c k l = absurd k
      go end w c k l = absurd c

  -- an `else` goes to its `join`
  pub to_join :
      (i : ℕ) (ws : List Wait) → NestsAt (suc i) (for_join ∷ ws) →
      Later (suc i) (closing P.rows i) × NestsAt (closing P.rows i) (for_join ∷ ws)
  to_join i ws t =
      let F = to-closing for_join ws i t in (F.later, F.nests)
