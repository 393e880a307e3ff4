-- One row at a time.
use mathlib.Core.Path.{◌≡◌, refl, sym, ap, ap₂, ◌∙◌, subst}
use mathlib.Core.Bool.{◌&&◌}
use mathlib.Core.List.{List, [], ◌∷◌}
use mathlib.Core.Logic.{⊎_elim}
use mathlib.Core.Option.{none, some}
use Prim.Native.Nat.{ℕ, suc, ◌+◌, ◌≤◌, ◌<◌}
use native.Mathlib.Omega.{arith}
use lib.Dec.{T, leb, leb→le}
use lib.ListN.{drop}
use Rattle.std.proofs.Common.{Ok, Err}
use Rattle.rules.specs.Base.{Try, ok, no, ◌>>=◌}
use Rattle.rules.specs.Grammar.{IsStatementNumber}
use Rattle.rules.specs.Answers as Answers
use Rattle.rules.specs.Answers.{Refusal, accepted, refused, at_line, malformed}
use Rattle.rules.specs.Syntax.{Formula, Rel, Stmt, Row, simple, return, if, else, join, loop, again, end}
use Rattle.rules.specs.State as Rules
use Rattle.rules.specs.Rules.{End, Following, Open, in_first, in_second, in_loop, if_rule, return_rule, show_end, join_rule, loop_rule, reached, else_row, join_row, again_row, end_row, check_row, check_rows}
use Rattle.rules.proofs.Lists.{and_both, decide_eq}
use Rattle.tables.specs.Decode.{operands_at, kind_at, line_at, stmt_at, row_at, row_count, all_rows, program_in}
use Rattle.tables.specs.Tables.{nested, nested_row}
use Rattle.tables.proofs.Rows.{row_cons}
use Rattle.tables.proofs.Statements.{if-means, loop-means, no-branch, not_end}
use Rattle.check_state.specs.States.{state_of}
use Rattle.check_entailment.specs.Answers.{Answer, answered, Adds}
use Rattle.check_statements.specs.Statements.{Parts, Says}
use Rattle.check_rows.specs.Rows.{Stepped}
use Rattle.checker.specs.Checked.{outcome, Nests, verdict_from}

-- A VERDICT AT A LINE
line-answered :
    {A : Type 0} (l : ℕ) (a : Answer) (x : A) (k : A → Answers.Verdict (Unit {0})) → at_line l (answered a x) k ≡ outcome a l (k x)
unfolding at_line answered outcome
line-answered l (Ok u) x k = refl
line-answered l (Err e) x k = refl

pub at-line :
    {A : Type 0} (l : ℕ) (t : Try Refusal A) (a : Answer) (x : A) → answered a x ≡ t → (k : A → Answers.Verdict (Unit {0})) →
    at_line l t k ≡ outcome a l (k x)
at-line {A} l t a x e k = ap (λ (u : Try Refusal A). at_line l u k) (sym e) ∙ line-answered l a x k

-- THE ROW AT i

-- the kind of the row that closes what is open, or turns to its second part
unfoldable pub closer : Open → ℕ
closer (in_first s) = 16
closer (in_second e) = 17
closer (in_loop φ s) = 22

module _ (w : List ℕ) (i : ℕ) (h : i < row_count w) where
  pub row-verdict :
      (q : Stmt) → stmt_at w i ≡ q → (u : End) (φ : Formula ℕ) (os : List Open) →
      verdict_from w i u φ os ≡ check_row (program_in w) q (line_at w i) φ (λ u os. verdict_from w (i + 1) u φ os) u os
  unfolding check_rows row_at
  row-verdict q e u φ os =
      let d : suc i ≡ i + 1 = omega arith in
      ap (λ (rs : List Row). check_rows (program_in w) φ rs u os) (row_cons w i h)
      ∙ ap₂ (λ (p : Stmt) (k : ℕ). check_row (program_in w) p (line_at w i) φ (λ u os. verdict_from w k u φ os) u os) e d

  pub row-nested : (q : Stmt) → stmt_at w i ≡ q → (d : ℕ) → nested (drop i (all_rows w)) d ≡ nested_row q (λ d. nested (drop (i + 1) (all_rows w)) d) d
  unfolding nested row_at
  row-nested q e d =
      let f : suc i ≡ i + 1 = omega arith in
      ap (λ (rs : List Row). nested rs d) (row_cons w i h)
      ∙ ap₂ (λ (p : Stmt) (k : ℕ). nested_row p (λ d. nested (drop k (all_rows w)) d) d) e f

module _ (w : List ℕ) (i : ℕ) (h : i < row_count w) where
  -- a statement that goes on
  pub step-verdict :
      (s : Rules.State) (k : Answer) (key b : List ℕ) → Stepped w i s k key b → (φ : Formula ℕ) (os : List Open) →
      verdict_from w i (some s) φ os ≡ outcome k (line_at w i) (verdict_from w (i + 1) (some (state_of key b)) φ os)
  unfolding check_row reached
  step-verdict s k key b S φ os =
      row-verdict w i h (simple S.statement) S.is (some s) φ os
      ∙ at-line (line_at w i) _ k (state_of key b) S.adds.same (λ s'. verdict_from w (i + 1) (some s') φ os)

  pub step-nests : (s : Rules.State) (k : Answer) (key b : List ℕ) → Stepped w i s k key b → (d : ℕ) → Nests w i d → Nests w (i + 1) d
  unfolding nested_row
  step-nests s k key b S d t = subst T (row-nested w i h (simple S.statement) S.is d) t

  -- `return`
  module _ (x : ℕ) (e : stmt_at w i ≡ return x) where
    pub return-verdict :
        (s : Rules.State) (φ : Formula ℕ) (k : Answer) → Says (return_rule x φ s) k → (os : List Open) →
        verdict_from w i (some s) φ os ≡ outcome k (line_at w i) (verdict_from w (i + 1) none φ os)
    unfolding check_row reached
    return-verdict s φ k S os =
        row-verdict w i h (return x) e (some s) φ os ∙ at-line (line_at w i) _ k tt S (λ v. verdict_from w (i + 1) none φ os)

    pub return-nests : (d : ℕ) → Nests w i d → Nests w (i + 1) d
    unfolding nested_row
    return-nests d t = subst T (row-nested w i h (return x) e d) t

  -- a row that closes nothing is out of place after it
  pub after-return :
      IsStatementNumber (kind_at w i) → (kind_at w i ≡ 16 → ⊥) → (kind_at w i ≡ 17 → ⊥) → (kind_at w i ≡ 18 → ⊥) → (kind_at w i ≡ 22 → ⊥) →
      (φ : Formula ℕ) (os : List Open) → verdict_from w i none φ os ≡ refused malformed (line_at w i)
  unfolding check_row reached
  after-return g a b c d φ os =
      row-verdict w i h (stmt_at w i) refl none φ os
      ∙ ⊎_elim
      (λ e. ap (λ q. check_row (program_in w) q (line_at w i) φ following none os) (if-means w (operands_at w i) e))
      (λ n. ⊎_elim
      (λ e. ap (λ q. check_row (program_in w) q (line_at w i) φ following none os) (loop-means w (operands_at w i) e))
      (λ m. no-branch w (operands_at w i) Refuses (λ p d. refl) (λ x d. refl) (λ d. absurd (d refl)) n a b m d (not_end w (operands_at w i) g c))
      (decide_eq (kind_at w i) 21))
      (decide_eq (kind_at w i) 15)
    where
      following : Following
      following = λ u os. verdict_from w (i + 1) u φ os

      Refuses : Stmt → Type 0
      Refuses q = (q ≡ end → ⊥) → check_row (program_in w) q (line_at w i) φ following none os ≡ refused malformed (line_at w i)

  opened : (d : ℕ) → T (leb (suc d) 4 && nested (drop (i + 1) (all_rows w)) (suc d)) → (suc d ≤ 4) × Nests w (i + 1) (suc d)
  opened d t = let p = and_both (leb (suc d) 4) (nested (drop (i + 1) (all_rows w)) (suc d)) t in (leb→le (suc d) 4 p.0, p.1)

  -- a branch
  module _ (n : Rel) (a b : Rules.Term) (e : stmt_at w i ≡ if n a b) where
    pub if-verdict :
        (s : Rules.State) (k : Answer) (key c key2 c2 : List ℕ) → Parts (if_rule n a b s) k key c key2 c2 → (φ : Formula ℕ) (os : List Open) →
        verdict_from w i (some s) φ os
        ≡ outcome k (line_at w i) (verdict_from w (i + 1) (some (state_of key c)) φ (in_first (state_of key2 c2) ∷ os))
    unfolding check_row reached
    if-verdict s k key c key2 c2 P φ os =
        row-verdict w i h (if n a b) e (some s) φ os
        ∙ at-line (line_at w i) _ k (state_of key c, state_of key2 c2) P.same (λ c. verdict_from w (i + 1) (some c.0) φ (in_first c.1 ∷ os))

    pub if-nests : (d : ℕ) → Nests w i d → (suc d ≤ 4) × Nests w (i + 1) (suc d)
    unfolding nested_row
    if-nests d t = opened d (subst T (row-nested w i h (if n a b) e d) t)

  -- its second part
  module _ (e : stmt_at w i ≡ else) where
    pub else-verdict :
        (u : End) (s₂ : Rules.State) (φ : Formula ℕ) (os : List Open) →
        verdict_from w i u φ (in_first s₂ ∷ os) ≡ verdict_from w (i + 1) (some s₂) φ (in_second u ∷ os)
    unfolding check_row else_row
    else-verdict u s₂ φ os = row-verdict w i h else e u φ (in_first s₂ ∷ os)

    pub else-out : (u : End) (o : Open) → (16 ≡ closer o → ⊥) → (φ : Formula ℕ) (os : List Open) → verdict_from w i u φ (o ∷ os) ≡ refused malformed (line_at w i)
    unfolding check_row else_row closer
    else-out u (in_first s) q φ os = absurd (q refl)
    else-out u (in_second v) q φ os = row-verdict w i h else e u φ (in_second v ∷ os)
    else-out u (in_loop ψ s) q φ os = row-verdict w i h else e u φ (in_loop ψ s ∷ os)

    pub else-nests : (d : ℕ) → Nests w i d → Nests w (i + 1) d
    unfolding nested_row
    else-nests d t = (and_both (leb 1 d) (nested (drop (i + 1) (all_rows w)) d) (subst T (row-nested w i h else e d) t)).1

  -- its end
  module _ (ψ : Formula ℕ) (e : stmt_at w i ≡ join ψ) where
    pub join-verdict :
        (u u₁ : End) (k : Answer) (key b : List ℕ) → Adds (join_rule ψ u₁ u) k key b → (φ : Formula ℕ) (os : List Open) →
        verdict_from w i u φ (in_second u₁ ∷ os) ≡ outcome k (line_at w i) (verdict_from w (i + 1) (some (state_of key b)) φ os)
    unfolding check_row join_row
    join-verdict u u₁ k key b A φ os =
        row-verdict w i h (join ψ) e u φ (in_second u₁ ∷ os)
        ∙ at-line (line_at w i) _ k (state_of key b) A.same (λ s'. verdict_from w (i + 1) (some s') φ os)

    pub join-out : (u : End) (o : Open) → (17 ≡ closer o → ⊥) → (φ : Formula ℕ) (os : List Open) → verdict_from w i u φ (o ∷ os) ≡ refused malformed (line_at w i)
    unfolding check_row join_row closer
    join-out u (in_first s) q φ os = row-verdict w i h (join ψ) e u φ (in_first s ∷ os)
    join-out u (in_second v) q φ os = absurd (q refl)
    join-out u (in_loop χ s) q φ os = row-verdict w i h (join ψ) e u φ (in_loop χ s ∷ os)

    pub join-alone : (u : End) (φ : Formula ℕ) → verdict_from w i u φ [] ≡ refused malformed (line_at w i)
    unfolding check_row join_row
    join-alone u φ = row-verdict w i h (join ψ) e u φ []

    pub join-nests : (d : ℕ) → Nests w i (suc d) → Nests w (i + 1) d
    unfolding nested_row
    join-nests d t = subst T (row-nested w i h (join ψ) e (suc d)) t

  -- a loop
  module _ (n : Rel) (a b : Rules.Term) (ψ : Formula ℕ) (e : stmt_at w i ≡ loop n a b ψ) where
    pub loop-verdict :
        (s t after : Rules.State) (k : Answer) → answered k (t, after) ≡ loop_rule n a b ψ s → (φ : Formula ℕ) (os : List Open) →
        verdict_from w i (some s) φ os ≡ outcome k (line_at w i) (verdict_from w (i + 1) (some t) φ (in_loop ψ after ∷ os))
    unfolding check_row reached
    loop-verdict s t after k S φ os =
        row-verdict w i h (loop n a b ψ) e (some s) φ os
        ∙ at-line (line_at w i) _ k (t, after) S (λ c. verdict_from w (i + 1) (some c.0) φ (in_loop ψ c.1 ∷ os))

    pub loop-nests : (d : ℕ) → Nests w i d → (suc d ≤ 4) × Nests w (i + 1) (suc d)
    unfolding nested_row
    loop-nests d t = opened d (subst T (row-nested w i h (loop n a b ψ) e d) t)

  -- its end
  module _ (e : stmt_at w i ≡ again) where
    pub again-verdict :
        (u : End) (ψ : Formula ℕ) (after : Rules.State) (k : Answer) (key b : List ℕ) → Adds (show_end ψ u >>= λ v. ok after) k key b →
        (φ : Formula ℕ) (os : List Open) →
        verdict_from w i u φ (in_loop ψ after ∷ os) ≡ outcome k (line_at w i) (verdict_from w (i + 1) (some (state_of key b)) φ os)
    unfolding check_row again_row at_line ◌>>=◌
    again-verdict u ψ after k key b A φ os =
        row-verdict w i h again e u φ (in_loop ψ after ∷ os) ∙ go (show_end ψ u)
        ∙ at-line (line_at w i) _ k (state_of key b) A.same (λ s'. verdict_from w (i + 1) (some s') φ os)
      where
        go :
            (t : Try Refusal (Unit {0})) →
            at_line (line_at w i) t (λ v. verdict_from w (i + 1) (some after) φ os)
            ≡ at_line (line_at w i) (t >>= λ v. ok after) (λ s'. verdict_from w (i + 1) (some s') φ os)
        go (ok v) = refl
        go (no r) = refl

    pub again-out : (u : End) (o : Open) → (22 ≡ closer o → ⊥) → (φ : Formula ℕ) (os : List Open) → verdict_from w i u φ (o ∷ os) ≡ refused malformed (line_at w i)
    unfolding check_row again_row closer
    again-out u (in_first s) q φ os = row-verdict w i h again e u φ (in_first s ∷ os)
    again-out u (in_second v) q φ os = row-verdict w i h again e u φ (in_second v ∷ os)
    again-out u (in_loop ψ s) q φ os = absurd (q refl)

    pub again_alone : (u : End) (φ : Formula ℕ) → verdict_from w i u φ [] ≡ refused malformed (line_at w i)
    unfolding check_row again_row
    again_alone u φ = row-verdict w i h again e u φ []

    pub again-nests : (d : ℕ) → Nests w i (suc d) → Nests w (i + 1) d
    unfolding nested_row
    again-nests d t = subst T (row-nested w i h again e (suc d)) t

  -- the block's end
  module _ (e : stmt_at w i ≡ end) where
    pub end-inside : (u : End) (o : Open) (φ : Formula ℕ) (os : List Open) → verdict_from w i u φ (o ∷ os) ≡ refused malformed (line_at w i)
    unfolding check_row end_row
    end-inside u o φ os = row-verdict w i h end e u φ (o ∷ os)

    pub end-verdict :
        (u : End) (φ : Formula ℕ) (k : Answer) → Says (show_end φ u) k → verdict_from w i u φ [] ≡ outcome k (line_at w i) (accepted tt)
    unfolding check_row end_row
    end-verdict u φ k S = row-verdict w i h end e u φ [] ∙ at-line (line_at w i) _ k tt S (λ v. accepted tt)

  pub else-alone : stmt_at w i ≡ else → (u : End) (φ : Formula ℕ) → verdict_from w i u φ [] ≡ refused malformed (line_at w i)
  unfolding check_row else_row
  else-alone e u φ = row-verdict w i h else e u φ []
