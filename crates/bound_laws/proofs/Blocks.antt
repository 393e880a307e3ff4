-- Laws of blocks: by their rows, and the bound and frames of a method by its block, where no method that it reaches reaches itself.
use mathlib.Core.Path.{◌≡◌, refl, sym, ap, ap₂, ◌∙◌, subst}
use mathlib.Core.Bool.{Bool, true, false, cond}
use mathlib.Core.List.{List, [], ◌∷◌, map}
use mathlib.Core.Logic.{⊎_elim}
use mathlib.Core.Option.{none, some}
use Prim.Native.Nat.{ℕ, zero, suc, ◌+◌, ◌≤◌, max, suc-le-suc}
use native.Mathlib.Omega.{arith}
use lib.ListN.{length, get_or, drop}
use Rattle.rules.specs.Base.{Member, at_head, further}
use Rattle.rules.specs.Base as Base
use Rattle.rules.specs.Syntax.{Row, Method, Program, no_row, no_method, row_numbered, method_numbered}
use Rattle.rules.specs.Bounds.{Block, no_block, is_end, called, up_to_end, block, blocks, callees, total, greatest, round, value_by, block_bound, method_bound, block_frames, method_frames}
use Rattle.rules.specs.Bounds as Bounds
use Rattle.rules.proofs.Lists.{head-or, option_cases, map_option-none, map_option-some}
use Rattle.bound_laws.specs.Routes.{block_at, Clear}
use Rattle.bound_laws.proofs.Routes.{value-law}

-- ROWS
block_row : (P : Program) (i : ℕ) → block P i ≡ row_numbered P i ∷ cond (is_end (row_numbered P i).stmt) [] (block P (suc i))
unfolding block row_numbered up_to_end is_end
block_row P i = go P.rows i
  where
    go : (l : List Row) (i : ℕ) → up_to_end (drop i l) ≡ get_or l i no_row ∷ cond (is_end (get_or l i no_row).stmt) [] (up_to_end (drop (suc i) l))
    go [] zero = refl
    go [] (suc i) = refl
    go (r ∷ l) zero = refl
    go (r ∷ l) (suc i) = go l i

pub block_goes : (P : Program) (i : ℕ) → is_end (row_numbered P i).stmt ≡ false → block P i ≡ row_numbered P i ∷ block P (suc i)
block_goes P i e = block_row P i ∙ rw e refl

pub block-ends : (P : Program) (i : ℕ) → is_end (row_numbered P i).stmt ≡ true → block P i ≡ row_numbered P i ∷ []
block-ends P i e = block_row P i ∙ rw e refl

pub block-first : (P : Program) (i : ℕ) → Member (row_numbered P i) (block P i)
block-first P i = subst (Member (row_numbered P i)) (sym (block_row P i)) at_head

-- each line of a block is a row
pub block-member : (P : Program) (i : ℕ) (r : Row) → Member r (block P i) → (j : ℕ) × (r ≡ row_numbered P j)
unfolding block row_numbered up_to_end
block-member P i r m = go P.rows i m
  where
    go : (l : List Row) (i : ℕ) → Member r (up_to_end (drop i l)) → (j : ℕ) × (r ≡ get_or l j no_row)
    go [] zero m = (0, ⊎_elim (λ k. elim k [ ]) (λ e. e) (head-or m))
    go [] (suc i) m = (0, ⊎_elim (λ k. elim k [ ]) (λ e. e) (head-or m))
    go (x ∷ l) zero m = ⊎_elim (λ k. let (j, e) = rest (is_end x.stmt) k (λ k. go l 0 k) in (suc j, e)) (λ e. (0, e)) (head-or m)
      where
        rest :
            (b : Bool) → Member r (cond b [] (up_to_end l)) → (Member r (up_to_end l) → (j : ℕ) × (r ≡ get_or l j no_row)) →
            (j : ℕ) × (r ≡ get_or l j no_row)
        rest true k f = elim k [ ]
        rest false k f = f k
    go (x ∷ l) (suc i) m = let (j, e) = go l i m in (suc j, e)

-- the block of a method starts at its first row
pub method-block : (P : Program) (n : ℕ) → block_at (blocks P) n ≡ block P (method_numbered P n).first
unfolding blocks method_numbered block up_to_end
method-block P n = go P.methods n
  where
    past : (l : List Row) → up_to_end (drop (length l) l) ≡ no_block
    past [] = refl
    past (r ∷ l) = past l

    go :
        (Ms : List Method) (n : ℕ) →
        get_or (map (λ M. up_to_end (drop M.first P.rows)) Ms) n no_block ≡ up_to_end (drop (get_or Ms n (no_method P)).first P.rows)
    go [] n = sym (past P.rows)
    go (M ∷ Ms) zero = refl
    go (M ∷ Ms) (suc n) = go Ms n

-- a block has a line
pub bound-positive : (v : ℕ → ℕ) (P : Program) (i : ℕ) → 1 ≤ block_bound v (block P i)
unfolding block_bound
bound-positive v P i = rw (block_row P i) (omega arith)

pub callees-nil : callees [] ≡ []
unfolding Bounds.opened Base.opened
callees-nil = refl

pub bound-nil : (v : ℕ → ℕ) → block_bound v [] ≡ 0
unfolding Bounds.opened Base.opened
bound-nil v = refl

-- what a row adds
module _ (r : Row) (b : Block) where
  pub callees-none : called r.stmt ≡ none → callees (r ∷ b) ≡ callees b
  unfolding callees
  callees-none e = map_option-none (λ (r : Row). called r.stmt) r b e

  pub callees-some : (n : ℕ) → called r.stmt ≡ some n → callees (r ∷ b) ≡ n ∷ callees b
  unfolding callees
  callees-some n e = map_option-some (λ (r : Row). called r.stmt) r b n e

  module _ (v : ℕ → ℕ) where
    pub bound-none : called r.stmt ≡ none → block_bound v (r ∷ b) ≡ suc (block_bound v b)
    unfolding block_bound
    bound-none e = rw (callees-none e) (omega arith)

    pub bound_some : (n : ℕ) → called r.stmt ≡ some n → block_bound v (r ∷ b) ≡ suc (v n + block_bound v b)
    unfolding block_bound total
    bound_some n e = rw (callees-some n e) (omega arith)

    pub frames-none : called r.stmt ≡ none → block_frames v (r ∷ b) ≡ block_frames v b
    unfolding block_frames
    frames-none e = rw (callees-none e) refl

    pub frames-some : (n : ℕ) → called r.stmt ≡ some n → block_frames v (r ∷ b) ≡ max (suc (v n)) (block_frames v b)
    unfolding block_frames greatest
    frames-some n e = rw (callees-some n e) (omega arith)

    pub bound-more : suc (block_bound v b) ≤ block_bound v (r ∷ b)
    bound-more =
        ⊎_elim (λ e. omega (arith, bound-none e)) (λ (n, e). omega (arith, bound_some n e)) (option_cases (called r.stmt))

    pub frames-more : block_frames v b ≤ block_frames v (r ∷ b)
    frames-more =
        ⊎_elim (λ e. omega (arith, frames-none e)) (λ (n, e). omega (arith, frames-some n e)) (option_cases (called r.stmt))

-- METHODS
total-agree : (v w : ℕ → ℕ) (cs : List ℕ) → ((c : ℕ) → Member c cs → v c ≡ w c) → total (map v cs) ≡ total (map w cs)
unfolding total
total-agree v w [] h = refl
total-agree v w (c ∷ cs) h = ap₂ ◌+◌ (h c at_head) (total-agree v w cs (λ d i. h d (further i)))

greatest-agree : (v w : ℕ → ℕ) (cs : List ℕ) → ((c : ℕ) → Member c cs → v c ≡ w c) → greatest (map v cs) ≡ greatest (map w cs)
unfolding greatest
greatest-agree v w [] h = refl
greatest-agree v w (c ∷ cs) h = ap₂ max (h c at_head) (greatest-agree v w cs (λ d i. h d (further i)))

module _ (bs : List Block) (n : ℕ) (C : Clear bs n) where
  pub bound-law : method_bound bs n ≡ block_bound (method_bound bs) (block_at bs n)
  unfolding Bounds.opened Base.opened
  bound-law =
      value-law 1 block_bound bs (λ v. refl) (λ v w b h. ap (λ t. length b + t) (total-agree v w (callees b) h)) n C

  pub frames-law : method_frames bs n ≡ block_frames (method_frames bs) (block_at bs n)
  unfolding Bounds.opened Base.opened
  frames-law = value-law 1 block_frames bs (λ v. refl) (λ v w b h. ap suc (greatest-agree v w (callees b) h)) n C

-- no route has more frames than there are methods, and one
greatest-within : (v : ℕ → ℕ) (k : ℕ) (cs : List ℕ) → ((c : ℕ) → v c ≤ k) → greatest (map v cs) ≤ k
unfolding greatest
greatest-within v k [] h = omega arith
greatest-within v k (c ∷ cs) h = omega (arith, h c, greatest-within v k cs h)

map-within : (g : Block → ℕ) (k : ℕ) (bs : List Block) (n : ℕ) → ((b : Block) → g b ≤ k) → 1 ≤ k → get_or (map g bs) n 1 ≤ k
map-within g k [] n h l = l
map-within g k (b ∷ bs) zero h l = h b
map-within g k (b ∷ bs) (suc n) h l = map-within g k bs n h l

rounds-within : (bs : List Block) (k n : ℕ) → get_or (round 1 block_frames bs k) n 1 ≤ suc k
unfolding round block_frames
rounds-within bs zero n = omega arith
rounds-within bs (suc k) n =
    map-within _ (suc (suc k)) bs n (λ b. suc-le-suc (greatest-within _ (suc k) (callees b) (λ c. rounds-within bs k c))) (omega arith)

pub frames-most : (bs : List Block) (b : Block) → block_frames (method_frames bs) b ≤ 2 + length bs
unfolding block_frames method_frames value_by
frames-most bs b = omega (arith, greatest-within (method_frames bs) (suc (length bs)) (callees b) (λ c. rounds-within bs (length bs) c))
