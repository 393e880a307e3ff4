-- How many halves of a cell are taken by shares of cells, and how many by chains.
use mathlib.Core.Path.{◌≡◌, refl, sym, ap, ◌∙◌, subst}
use mathlib.Core.Bool.{Bool, true, false, cond, ◌&&◌, not}
use mathlib.Core.List.{List, [], ◌∷◌, ◌++◌, map}
use mathlib.Core.Logic.{⊎_elim}
use Prim.Native.Nat.{ℕ, ◌+◌, ◌≤◌}
use native.Mathlib.Omega.{arith}
use lib.Dec.{eqb}
use borrow.Author.Tests.{eq-eqb, eqb-true}
use Rattle.rules.specs.Base.{Member, at_head, further, any}
use Rattle.rules.proofs.Lists.{head-or}
use Rattle.rules.proofs.CountedWalks.{decide-bool}
use Rattle.run_footprint.specs.Footprints.{share_of, cell_in, halves_in, part_of, taken, is_chain, field_in, cells_in, spread_one, spread, chain_part, part_by, taken_by, share_at, SharesFit}
use Rattle.run_footprint.proofs.Shares.{share_cell, share_halves, part_same, part-other, taken_none, taken-cons, by-none, by-cons, any_left, any-right, plain_fits}

-- a test is not both
pub no-yes : {A : Type 0} {b : Bool} → b ≡ true → b ≡ false → A
no-yes e f = absurd (let z : ◌≡◌ {A = ℕ} 0 1 = cc in omega arith)

module _ (w : List ℕ) (n k : ℕ) where
  pub taken-append : (ss rs : List ℕ) → taken k (ss ++ rs) ≡ taken k ss + taken k rs
  taken-append [] rs = omega (arith, taken_none k)
  taken-append (s ∷ ss) rs = omega (arith, taken-cons k s ss, taken-cons k s (ss ++ rs), taken-append ss rs)

  -- A CHAIN'S CELLS, each whole
  pub cell-here : (j : ℕ) → j ≡ k → part_of k (share_of j 2) ≡ 2
  cell-here j e = part_same k (share_of j 2) (share_cell j 2 (omega arith) ∙ e) ∙ share_halves j 2 (omega arith)

  pub cell-there : (j : ℕ) → (j ≡ k → ⊥) → part_of k (share_of j 2) ≡ 0
  cell-there j d = part-other k (share_of j 2) (λ e. d (sym (share_cell j 2 (omega arith)) ∙ e))

  pub cell-part : (j : ℕ) (js : List ℕ) → taken k (map (λ i. share_of i 2) (j ∷ js)) ≡ part_of k (share_of j 2) + taken k (map (λ i. share_of i 2) js)
  cell-part j js = taken-cons k (share_of j 2) (map (λ i. share_of i 2) js)

  among-cells : (js : List ℕ) → any (eqb k) js ≡ true → 2 ≤ taken k (map (λ i. share_of i 2) js)
  unfolding any
  among-cells [] e = no-yes e refl
  among-cells (j ∷ js) e =
      ⊎_elim
      (λ (q : eqb k j ≡ true). omega (arith, cell-part j js, cell-here j (sym (eqb-true k j q))))
      (λ (q : eqb k j ≡ false). omega (arith, cell-part j js, among-cells js (rw q at e)))
      (decide-bool (eqb k j))

  no_cell : (js : List ℕ) → any (eqb k) js ≡ false → taken k (map (λ i. share_of i 2) js) ≡ 0
  unfolding any
  no_cell [] e = taken_none k
  no_cell (j ∷ js) e =
      ⊎_elim
      (λ (q : eqb k j ≡ true). no-yes refl (rw q at e))
      (λ (q : eqb k j ≡ false).
      omega (arith, cell-part j js, no_cell js (rw q at e), cell-there j (λ z. no-yes (eq-eqb k j (sym z)) q)))
      (decide-bool (eqb k j))

  module _ (s : ℕ) where
    chain-has : is_chain s ≡ true → any (eqb k) (cells_in w n s) ≡ true → 2 ≤ taken k (spread_one w n s)
    unfolding spread_one
    chain-has c e = rw c (among-cells (cells_in w n s) e)

    chain-has-not : is_chain s ≡ true → any (eqb k) (cells_in w n s) ≡ false → taken k (spread_one w n s) ≡ 0
    unfolding spread_one
    chain-has-not c e = rw c (no_cell (cells_in w n s) e)

    plain-part : is_chain s ≡ false → taken k (spread_one w n s) ≡ part_of k s
    unfolding spread_one
    plain-part c = rw c (omega (arith, taken-cons k s [], taken_none k))

  spread-cons : (s : ℕ) (ss : List ℕ) → taken k (spread w n (s ∷ ss)) ≡ taken k (spread_one w n s) + taken k (spread w n ss)
  unfolding spread
  spread-cons s ss = taken-append (spread_one w n s) (spread w n ss)

  pub part-least : (s : ℕ) (ss : List ℕ) → Member s ss → taken k (spread_one w n s) ≤ taken k (spread w n ss)
  part-least s [] i = elim i [ ]
  part-least s (r ∷ ss) i =
      ⊎_elim
      (λ j. omega (arith, spread-cons r ss, part-least s ss j))
      (λ e. omega (arith, spread-cons r ss, ap (λ (q : ℕ). taken k (spread_one w n q)) e))
      (head-or i)

  -- THE TWO SUMS
  plain : List ℕ → ℕ
  plain [] = 0
  plain (s ∷ ss) = cond (is_chain s) 0 (part_of k s) + plain ss

  chained : List ℕ → ℕ
  chained [] = 0
  chained (s ∷ ss) = cond (is_chain s) (taken k (spread_one w n s)) 0 + chained ss

  split : (ss : List ℕ) → taken k (spread w n ss) ≡ plain ss + chained ss
  unfolding plain chained spread
  split [] = taken_none k
  split (s ∷ ss) =
      ⊎_elim
      (λ (c : is_chain s ≡ true). rw c (omega (arith, spread-cons s ss, split ss)))
      (λ (c : is_chain s ≡ false). rw c (omega (arith, spread-cons s ss, split ss, plain-part s c)))
      (decide-bool (is_chain s))

  share-not : (s : ℕ) → share_at k s ≡ false → cond (is_chain s) 0 (part_of k s) ≡ 0
  unfolding share_at part_of
  share-not s e = go (is_chain s) (eqb (cell_in s) k) e
    where
      go : (c b : Bool) → (not c && b) ≡ false → cond c 0 (cond b (halves_in s) 0) ≡ 0
      go true b q = refl
      go false true q = no-yes refl q
      go false false q = refl

  share-is : (s : ℕ) → share_at k s ≡ true → (is_chain s ≡ false) × (cell_in s ≡ k)
  unfolding share_at
  share-is s e = go (is_chain s) refl (eqb (cell_in s) k) refl e
    where
      go : (c : Bool) → is_chain s ≡ c → (b : Bool) → eqb (cell_in s) k ≡ b → (not c && b) ≡ true → (is_chain s ≡ false) × (cell_in s ≡ k)
      go true p b q e = no-yes refl (sym e)
      go false p true q e = (p, eqb-true (cell_in s) k q)
      go false p false q e = no-yes refl (sym e)

  no_plain : (ss : List ℕ) → any (share_at k) ss ≡ false → plain ss ≡ 0
  unfolding plain any
  no_plain [] e = refl
  no_plain (s ∷ ss) e =
      ⊎_elim
      (λ (q : share_at k s ≡ true). no-yes refl (rw q at e))
      (λ (q : share_at k s ≡ false). omega (arith, share-not s q, no_plain ss (rw q at e)))
      (decide-bool (share_at k s))

  some-plain : (ss : List ℕ) → any (share_at k) ss ≡ true → SharesFit (spread w n ss) → 1 ≤ plain ss
  unfolding plain any spread
  some-plain [] e F = no-yes e refl
  some-plain (s ∷ ss) e F =
      ⊎_elim
      (λ (q : share_at k s ≡ true).
      let (c, z) = share-is s q in
      let f = plain_fits w n s c (λ j t. F j (any_left (eqb j) (spread_one w n s) (spread w n ss) t)) in
      rw c (omega (arith, f.1, part_same k s z)))
      (λ (q : share_at k s ≡ false).
      omega (arith, some-plain ss (rw q at e) (λ j t. F j (any-right (eqb j) (spread_one w n s) (spread w n ss) t))))
      (decide-bool (share_at k s))

  some-chained : (s : ℕ) (ss : List ℕ) → Member s ss → is_chain s ≡ true → any (eqb k) (cells_in w n s) ≡ true → 2 ≤ chained ss
  unfolding chained
  some-chained s [] i c e = elim i [ ]
  some-chained s (r ∷ ss) i c e =
      ⊎_elim
      (λ j. omega (arith, some-chained s ss j c e))
      (λ q. subst (λ (u : ℕ). 2 ≤ cond (is_chain u) (taken k (spread_one w n u)) 0 + chained ss) q (rw c (omega (arith, chain-has s c e))))
      (head-or i)

  -- a chain that has the cell among its own
  pub record Chained (ss : List ℕ) : Type 0 where
    pub share : ℕ
    pub among : Member share ss
    pub chain : is_chain share ≡ true
    pub has : any (eqb k) (cells_in w n share) ≡ true

  chained-from : (ss : List ℕ) → 1 ≤ chained ss → Chained ss
  unfolding chained
  chained-from [] l = absurd (omega arith)
  chained-from (s ∷ ss) l =
      ⊎_elim
      (λ (c : is_chain s ≡ true).
      ⊎_elim
      (λ e. record { share = s; among = at_head; chain = c; has = e })
      (λ e. further-on (chained-from ss (omega (arith, (rw c at l), chain-has-not s c e))))
      (decide-bool (any (eqb k) (cells_in w n s))))
      (λ (c : is_chain s ≡ false). further-on (chained-from ss (omega (arith, (rw c at l)))))
      (decide-bool (is_chain s))
    where
      further-on : Chained ss → Chained (s ∷ ss)
      further-on C = record { share = C.share; among = further C.among; chain = C.chain; has = C.has }

  -- a cell of a chain has two halves taken, and no more if it is of no share
  pub chain-takes : (ss : List ℕ) → Chained ss → 2 ≤ taken k (spread w n ss)
  chain-takes ss C = omega (arith, split ss, some-chained C.share ss C.among C.chain C.has)

  pub chain-alone : (ss : List ℕ) → Chained ss → SharesFit (spread w n ss) → taken k (spread w n ss) ≤ 2 → any (share_at k) ss ≡ false
  chain-alone ss C F l =
      ⊎_elim
      (λ e. absurd (omega (arith, split ss, some-plain ss e F, some-chained C.share ss C.among C.chain C.has, l)))
      (λ e. e)
      (decide-bool (any (share_at k) ss))

  -- what is taken of a cell of which no share is, a chain took
  pub chain-took : (ss : List ℕ) → any (share_at k) ss ≡ false → 1 ≤ taken k (spread w n ss) → Chained ss
  chain-took ss e l = chained-from ss (omega (arith, split ss, no_plain ss e, l))

  -- nothing is taken of a cell: no share is of it
  pub nothing-taken : (ss : List ℕ) → SharesFit (spread w n ss) → taken k (spread w n ss) ≡ 0 → any (share_at k) ss ≡ false
  nothing-taken ss F z =
      ⊎_elim (λ e. absurd (omega (arith, split ss, some-plain ss e F, z))) (λ e. e) (decide-bool (any (share_at k) ss))

  -- WHAT THE CODE COUNTS, of a cell of the field f: each chain that has the cell is by f, and has it once
  module _ (f : ℕ) where
    pub by-spread :
        (ss : List ℕ) →
        ((s : ℕ) → Member s ss → is_chain s ≡ true → any (eqb k) (cells_in w n s) ≡ true →
        (taken k (spread_one w n s) ≤ 2) × (field_in s ≡ f)) →
        taken_by w n f k ss ≡ taken k (spread w n ss)
    unfolding spread part_by chain_part
    by-spread [] h = by-none w n f k ∙ sym (taken_none k)
    by-spread (s ∷ ss) h =
        omega (
          arith,
          by-cons w n f k s ss,
          spread-cons s ss,
          by-spread ss (λ r i. h r (further i)),
          ⊎_elim
              (λ c. ⊎_elim (λ e. of-chain c e (h s at_head c e)) (λ e. of-other c e) (decide-bool (any (eqb k) (cells_in w n s))))
              of_plain
              (decide-bool (is_chain s)),
        )
      where
        of-chain :
            is_chain s ≡ true → any (eqb k) (cells_in w n s) ≡ true → (taken k (spread_one w n s) ≤ 2) × (field_in s ≡ f) →
            part_by w n f k s ≡ taken k (spread_one w n s)
        of-chain c e (l, q) = rw (c, eq-eqb (field_in s) f q, e) (omega (arith, chain-has s c e, l))

        of-other : is_chain s ≡ true → any (eqb k) (cells_in w n s) ≡ false → part_by w n f k s ≡ taken k (spread_one w n s)
        of-other c e = rw (c, e) (either (eqb (field_in s) f) ∙ sym (chain-has-not s c e))
          where
            either : (b : Bool) → ◌≡◌ {A = ℕ} (cond (b && false) 2 0) 0
            either true = refl
            either false = refl

        of_plain : is_chain s ≡ false → part_by w n f k s ≡ taken k (spread_one w n s)
        of_plain c = rw c (sym (plain-part s c))
