-- Laws of places: the numbers of a place stand for what the rules say of it.
use mathlib.Core.Path.{◌≡◌, refl, sym, ◌∙◌}
use mathlib.Core.Bool.{Bool, true, false, cond, ◌&&◌, and-true}
use mathlib.Core.List.{List, [], ◌∷◌}
use Prim.Native.Nat.{ℕ, zero, suc, ◌+◌, ◌*◌, ◌/◌, ◌%◌, ◌≤◌, ◌<◌}
use native.Mathlib.Omega.{arith}
use lib.Dec.{eqb, leb, ltb}
use lib.ListN.{length}
use borrow.Author.Tests.{eq-eqb, ne_eqb, eqb-true, eqb-false, lt-ltb, le-ltb, le-leb, lt-leb, leb-true, ltb-true}
use Rattle.rules.specs.Grammar.{Kind, form, first_statement, IsKindNumber, statement_number, kind_number, is_kind, after_main, after_method}
use Rattle.rules.specs.Grammar.{Class, Field, Method, Main, Var, statement, Return, If, Else, Join, End, Loop, Again}
use Rattle.rules.specs.Places as Places
use Rattle.rules.specs.Places.{Branch, before_else, behind_else, in_loop, stage_number, one_more_if, may_else, may_join, may_again, may_end, outer}
use Rattle.read_bytes.proofs.Search.{both_true}
use Rattle.read_grammar.specs.declared.Place.{Place}
use Rattle.read_grammar.specs.Rows.{kind_numbered}
use Rattle.read_grammar.specs.Coded.{branch_number, branches_number, coded, fits, in_place}
use Rattle.read_grammar.specs.Coded.{stage_after, branches_after, place_after, within_limits, AfterWithin}
use Rattle.read_grammar.proofs.Rows.{kind-numbered, statement-numbered}

eqb-sym : (a b : ℕ) → eqb a b ≡ eqb b a
eqb-sym a b = go (eqb a b) refl
  where
    go : (q : Bool) → eqb a b ≡ q → q ≡ eqb b a
    go true e = sym (eq-eqb b a (sym (eqb-true a b e)))
    go false e = sym (ne_eqb b a (λ z. eqb-false a b e (sym z)))

-- OPEN BRANCHES AND LOOPS
branch-bounds : (b : Branch) → (1 ≤ branch_number b) × (branch_number b ≤ 3)
unfolding branch_number
branch-bounds before_else = omega arith
branch-bounds behind_else = omega arith
branch-bounds in_loop = omega arith

may-else : (bs : List Branch) → eqb (branches_number bs % 4) 1 ≡ may_else bs
unfolding branches_number branch_number may_else
may-else [] = refl
may-else (before_else ∷ bs) = eq-eqb (branches_number (before_else ∷ bs) % 4) 1 (omega arith)
may-else (behind_else ∷ bs) = ne_eqb (branches_number (behind_else ∷ bs) % 4) 1 (λ e. omega arith)
may-else (in_loop ∷ bs) = ne_eqb (branches_number (in_loop ∷ bs) % 4) 1 (λ e. omega arith)

may-join : (bs : List Branch) → eqb (branches_number bs % 4) 2 ≡ may_join bs
unfolding branches_number branch_number may_join
may-join [] = refl
may-join (before_else ∷ bs) = ne_eqb (branches_number (before_else ∷ bs) % 4) 2 (λ e. omega arith)
may-join (behind_else ∷ bs) = eq-eqb (branches_number (behind_else ∷ bs) % 4) 2 (omega arith)
may-join (in_loop ∷ bs) = ne_eqb (branches_number (in_loop ∷ bs) % 4) 2 (λ e. omega arith)

may-again : (bs : List Branch) → eqb (branches_number bs % 4) 3 ≡ may_again bs
unfolding branches_number branch_number may_again
may-again [] = refl
may-again (before_else ∷ bs) = ne_eqb (branches_number (before_else ∷ bs) % 4) 3 (λ e. omega arith)
may-again (behind_else ∷ bs) = ne_eqb (branches_number (behind_else ∷ bs) % 4) 3 (λ e. omega arith)
may-again (in_loop ∷ bs) = eq-eqb (branches_number (in_loop ∷ bs) % 4) 3 (omega arith)

may-end : (bs : List Branch) → eqb (branches_number bs) 0 ≡ may_end bs
unfolding branches_number may_end
may-end [] = refl
may-end (b ∷ bs) = ne_eqb (branches_number (b ∷ bs)) 0 (λ e. omega (arith, branch-bounds b))

outer-number : (bs : List Branch) → branches_number (outer bs) ≡ branches_number bs / 4
unfolding branches_number outer
outer-number [] = refl
outer-number (b ∷ bs) = omega (arith, branch-bounds b)

-- at most four are open
few : (bs : List Branch) → ltb (branches_number bs) 256 ≡ leb (length bs) 4
unfolding branches_number
few [] = refl
few (a ∷ []) = lt-ltb (branches_number (a ∷ [])) 256 (omega (arith, branch-bounds a))
few (a ∷ b ∷ []) = lt-ltb (branches_number (a ∷ b ∷ [])) 256 (omega (arith, branch-bounds a, branch-bounds b))
few (a ∷ b ∷ c ∷ []) = lt-ltb (branches_number (a ∷ b ∷ c ∷ [])) 256 (omega (arith, branch-bounds a, branch-bounds b, branch-bounds c))
few (a ∷ b ∷ c ∷ d ∷ []) =
    lt-ltb (branches_number (a ∷ b ∷ c ∷ d ∷ [])) 256
    (omega (arith, branch-bounds a, branch-bounds b, branch-bounds c, branch-bounds d))
few (a ∷ b ∷ c ∷ d ∷ e ∷ bs) =
    le-ltb (branches_number (a ∷ b ∷ c ∷ d ∷ e ∷ bs)) 256 (omega (arith, branch-bounds e)) ∙
    sym (lt-leb (length (a ∷ b ∷ c ∷ d ∷ e ∷ bs)) 4 (omega arith))

-- PLACES
module _ (p : Places.Place) where
  pub within-is : within_limits (coded p) ≡ Places.within_limits p
  unfolding within_limits coded Places.within_limits
  within-is = rw (few p.branches)

  module _ (k : ℕ) (h : IsKindNumber k) where
    kind-is : (a : Kind) → is_kind a (kind_numbered k) ≡ eqb k (kind_number a)
    kind-is a = kind-numbered k h a ∙ eqb-sym (kind_number a) k

    fits-is : fits k (coded p) ≡ Places.fits (kind_numbered k) p
    unfolding fits coded Places.fits kind_number statement_number
    fits-is =
        let bs = p.branches in
        rw (kind-is (statement Return), kind-is (statement Else), kind-is (statement Join), kind-is (statement Again), kind-is (statement End), may-else bs, may-join bs, may-again bs, may-end bs)

    pub in-place-is : in_place k (coded p) ≡ Places.in_place (kind_numbered k) p
    unfolding in_place coded Places.in_place
    in-place-is = rw fits-is

    branches-is : branches_after k (branches_number p.branches) ≡ branches_number (Places.branches_after (kind_numbered k) p.branches)
    unfolding branches_after Places.branches_after kind_number statement_number branches_number branch_number
    branches-is =
        rw (kind-is (statement If), kind-is (statement Else), kind-is (statement Join), kind-is (statement Loop), kind-is (statement Again))
        (go p.branches (eqb k 15) (eqb k 16) (eqb k 17) (eqb k 21) (eqb k 22))
      where
        go :
            (bs : List Branch) (x y z u v : Bool) → let n = branches_number bs in
            cond x (1 + 4 * n) (cond y (2 + 4 * (n / 4)) (cond z (n / 4) (cond u (3 + 4 * n) (cond v (n / 4) n))))
            ≡ branches_number (cond x (before_else ∷ bs) (cond y (behind_else ∷ outer bs) (cond z (outer bs) (cond u (in_loop ∷ bs) (cond v (outer bs) bs)))))
        go bs true y z u v = refl
        go bs false true z u v = rw (← outer-number bs)
        go bs false false true u v = sym (outer-number bs)
        go bs false false false true v = refl
        go bs false false false false true = sym (outer-number bs)
        go bs false false false false false = refl

    stage_is : stage_after k p.main (stage_number (form (kind_numbered k)).next) ≡ stage_number (Places.stage_after (kind_numbered k) p)
    unfolding stage_after Places.stage_after kind_number statement_number stage_number
    stage_is = rw (kind-is (statement End)) (go (eqb k 18) p.main)
      where
        go :
            (x y : Bool) → let n = (form (kind_numbered k)).next in
            cond x (cond y (stage_number after_main) (stage_number after_method)) (stage_number n) ≡ stage_number (cond x (cond y after_main after_method) n)
        go true true = refl
        go true false = refl
        go false y = refl

    pub place-after-is : place_after k (coded p) ≡ coded (Places.place_after (kind_numbered k) p)
    unfolding place_after coded Places.place_after kind_number
    place-after-is =
        rw (statement-numbered k h, kind-is Main, kind-is Class, kind-is Field, kind-is Method, kind-is Var, stage_is, branches-is)

-- what the limits leave room for
pub record Low (s : Place) : Type 0 where
  pub classes : s.classes ≤ 16
  pub fields : s.fields ≤ 8
  pub methods : s.methods ≤ 64
  pub locals : s.locals ≤ 12
  pub statements : s.statements ≤ 256
  pub branches : s.branches < 256

pub low : (s : Place) → within_limits s ≡ true → Low s
unfolding within_limits
low s e0 =
    let e1 = both_true _ _ e0 in
    let e2 = both_true _ _ e1.1 in
    let e3 = both_true _ _ e2.1 in
    let e4 = both_true _ _ e3.1 in
    let e5 = both_true _ _ e4.1 in
    record {
      classes = leb-true _ _ e1.0;
      fields = leb-true _ _ e2.0;
      methods = leb-true _ _ e3.0;
      locals = leb-true _ _ e4.0;
      statements = leb-true _ _ e5.0;
      branches = ltb-true _ _ e5.1;
    }

-- Is what a line of kind k, no statement, counts within its limit?
unfoldable pub counted : ℕ → Place → Bool
counted k q =
    cond (eqb k 1) (leb q.classes 16)
    (cond (eqb k 2) (leb q.fields 8)
    (cond (eqb k 3) (leb q.methods 64)
    (cond (eqb k 7) (leb q.locals 12)
    true)))

-- the limits are kept after a line if what it counts is within its limit
module _ (s : Place) (b : Low s) where
  classes-kept : leb s.classes 16 ≡ true
  classes-kept = le-leb s.classes 16 b.classes

  fields-kept : leb s.fields 8 ≡ true
  fields-kept = le-leb s.fields 8 b.fields

  methods-kept : leb s.methods 64 ≡ true
  methods-kept = le-leb s.methods 64 b.methods

  locals-kept : leb s.locals 12 ≡ true
  locals-kept = le-leb s.locals 12 b.locals

  statements-kept : leb s.statements 256 ≡ true
  statements-kept = le-leb s.statements 256 b.statements

  branches-kept : ltb s.branches 256 ≡ true
  branches-kept = lt-ltb s.branches 256 b.branches

  ruleset kept = (classes-kept, fields-kept, methods-kept, locals-kept, statements-kept, branches-kept, and-true)

  early : (k : ℕ) → k < first_statement → within_limits (place_after k s) ≡ counted k (place_after k s)
  unfolding within_limits place_after branches_after counted one_more_if
  early zero h = simp kept
  early (suc zero) h = simp kept
  early (suc (suc zero)) h = simp kept
  early (suc (suc (suc zero))) h = simp kept
  early (suc (suc (suc (suc zero)))) h = simp kept
  early (suc (suc (suc (suc (suc zero))))) h = simp kept
  early (suc (suc (suc (suc (suc (suc zero)))))) h = simp kept
  early (suc (suc (suc (suc (suc (suc (suc zero))))))) h = simp kept
  early (suc (suc (suc (suc (suc (suc (suc (suc n)))))))) h = absurd (omega arith)

  late : (k : ℕ) → first_statement ≤ k → let q = place_after k s in within_limits q ≡ (leb q.statements 256 && ltb q.branches 256)
  unfolding within_limits place_after one_more_if
  late k h =
      rw (
        ne_eqb k 1 (λ e. omega arith),
        ne_eqb k 2 (λ e. omega arith),
        ne_eqb k 3 (λ e. omega arith),
        ne_eqb k 6 (λ e. omega arith),
        ne_eqb k 7 (λ e. omega arith),
        classes-kept,
        fields-kept,
        methods-kept,
        locals-kept,
      )

module _ (k : ℕ) (q : Place) (a : AfterWithin k q) where
  pub counts : k < first_statement → within_limits q ≡ counted k q
  counts h = rw a.after (early a.place (low a.place a.within) k h)

  pub counts-statement : first_statement ≤ k → within_limits q ≡ (leb q.statements 256 && ltb q.branches 256)
  counts-statement h = rw a.after (late a.place (low a.place a.within) k h)

-- what the limits say of each count, and what a line of each kind counts
pub ruleset limits = (low, counts, counts-statement)
