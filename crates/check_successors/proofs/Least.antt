-- A search for the least number, slot by slot.
use mathlib.Core.Path.{◌≡◌, refl, sym, ap, ◌∙◌}
use mathlib.Core.Bool.{Bool, true, false, cond, ◌&&◌}
use mathlib.Core.List.{List, [], ◌∷◌, ◌++◌}
use mathlib.Core.Option.{Option, none, some}
use Rattle.std.specs.Prelude as Std
use Rattle.std.specs.Prelude.{Some, None}
use Prim.Native.Nat.{ℕ, zero, suc, ◌+◌, ◌-◌, ◌/◌, ◌%◌, ◌≤◌, ◌<◌}
use native.Mathlib.Omega.{arith}
use lib.Dec.{eqb, ltb, leb}
use lib.ListN.{get_or}
use mathlib.Core.Logic.{inl}
use borrow.Author.Tests.{ne_eqb, ltb-true, ltb-false, leb-true, leb-false, lt-ltb, le-ltb, lt-leb}
use Rattle.rules.specs.Syntax.{offset, num, null, var, path}
use Rattle.rules.specs.State.{Term, Fact, numbers, representative, equal_by}
use Rattle.rules.proofs.Rising.{lower, least}
use Rattle.check_equality.specs.Keys.{term_of}
use Rattle.check_equality.specs.Links.{alike_by, Labelled, Decides}
use Rattle.check_equality.proofs.Keys.{of_number}
use Rattle.check_equality.proofs.Labels.{alike}
use Rattle.check_inequality.specs.Ways.{number_like}
use Rattle.check_equality.specs.Listing.{listed}
use Rattle.check_successors.specs.Successors.{number_or, Numbered, offset_of, lower_of, with_slot, number_with, number_at_side, side_terms}

-- what there is, or a later number that is lower
up_to : Option ℕ → ℕ → ℕ
up_to none n = n
up_to (some m) n = cond (ltb (offset n) (offset m)) n m

swap-order : (k n : ℕ) → cond (leb (offset k) (offset n)) k n ≡ cond (ltb (offset n) (offset k)) n k
swap-order k n = go (leb (offset k) (offset n)) refl
  where
    go : (b : Bool) → leb (offset k) (offset n) ≡ b → cond b k n ≡ cond (ltb (offset n) (offset k)) n k
    go true e = rw (le-ltb (offset n) (offset k) (leb-true (offset k) (offset n) e))
    go false e = rw (lt-ltb (offset n) (offset k) (leb-false (offset k) (offset n) e))

group : (k n : ℕ) (o : Option ℕ) → lower k (some (up_to o n)) ≡ up_to (some (lower k o)) n
unfolding lower up_to
group k n none = swap-order k n
group k n (some m) = go (ltb (offset n) (offset m)) (leb (offset k) (offset m)) refl refl
  where
    go :
        (a b : Bool) → ltb (offset n) (offset m) ≡ a → leb (offset k) (offset m) ≡ b →
        cond (leb (offset k) (offset (cond a n m))) k (cond a n m)
        ≡ cond (ltb (offset n) (offset (cond b k m))) n (cond b k m)
    go true true e f = swap-order k n
    go true false e f =
        let l : offset n < offset m = ltb-true _ _ e in
        let g : offset m < offset k = leb-false _ _ f in
        rw (lt-leb (offset k) (offset n) (omega (arith, l, g)), e)
    go false true e f =
        let l : offset m ≤ offset n = ltb-false _ _ e in
        let g : offset k ≤ offset m = leb-true _ _ f in
        rw (f, le-ltb (offset n) (offset k) (omega (arith, l, g)))
    go false false e f = rw (f, e)

least-snoc : (p : ℕ → Bool) (l : List ℕ) (n : ℕ) → least p (l ++ (n ∷ [])) ≡ cond (p n) (some (up_to (least p l) n)) (least p l)
unfolding least up_to lower
least-snoc p [] n = refl
least-snoc p (k ∷ l) n = rw (least-snoc p l n) (go (p k) (p n))
  where
    go :
        (a b : Bool) →
        cond a (some (lower k (cond b (some (up_to (least p l) n)) (least p l)))) (cond b (some (up_to (least p l) n)) (least p l))
        ≡ cond b (some (up_to (cond a (some (lower k (least p l))) (least p l)) n)) (cond a (some (lower k (least p l))) (least p l))
    go true true = ap some (group k n (least p l))
    go true false = refl
    go false true = refl
    go false false = refl

numbers-append : (ts us : List Term) → numbers (ts ++ us) ≡ numbers ts ++ numbers us
unfolding numbers
numbers-append [] us = refl
numbers-append (num n ∷ ts) us = ap (λ (l : List ℕ). n ∷ l) (numbers-append ts us)
numbers-append (null ∷ ts) us = numbers-append ts us
numbers-append (var x ∷ ts) us = numbers-append ts us
numbers-append (path x f ∷ ts) us = numbers-append ts us

one_number : (k : ℕ) → 65793 ≤ k → numbers (term_of k ∷ []) ≡ (k - 65793) ∷ []
unfolding numbers
one_number k h =
    let e : k ≡ 65793 + (k - 65793) = omega (arith, h) in
    ap (λ (j : ℕ). numbers (term_of j ∷ [])) e ∙ rw (of_number (k - 65793))

no_number : (k : ℕ) → k < 65793 → numbers (term_of k ∷ []) ≡ []
unfolding numbers term_of
no_number k h = rw (lt-ltb k 65793 h) (small (ltb k 256) (eqb k 256))
  where
    small : (a b : Bool) → numbers (cond a (var k) (cond b null (path ((k - 257) / 256) ((k - 257) % 256))) ∷ []) ≡ []
    small true b = refl
    small false true = refl
    small false false = refl

pub lower-numbered : (k : ℕ) (o : Std.Option ℕ) → 65793 ≤ k → Numbered o → 65793 ≤ lower_of k o
unfolding lower_of
lower-numbered k None h n = h
lower-numbered k (Some l) h n = go (ltb (offset_of k) (offset_of l))
  where
    go : (c : Bool) → 65793 ≤ cond c k l
    go true = h
    go false = n

-- one slot more
module _ (p : ℕ → Bool) (ts : List Term) (best : Std.Option ℕ) (k c t a : ℕ) (so_far : number_or best ≡ least p (numbers ts)) where
  taken : number_or (Some (lower_of k best)) ≡ some (up_to (least p (numbers ts)) (k - 65793))
  unfolding number_or lower_of up_to
  taken = rw (← so_far) (go best)
    where
      go : (o : Std.Option ℕ) → number_or (Some (lower_of k o)) ≡ some (up_to (number_or o) (k - 65793))
      go None = refl
      go (Some l) = at (ltb (offset_of k) (offset_of l))
        where
          at : (f : Bool) → ◌≡◌ {A = Option ℕ} (some (cond f k l - 65793)) (some (cond f (k - 65793) (l - 65793)))
          at true = refl
          at false = refl

  pub slot-more : number_like k c t a ≡ (leb 65793 k && p (k - 65793)) → number_or (with_slot best k c t a) ≡ least p (numbers (ts ++ (term_of k ∷ [])))
  unfolding with_slot
  slot-more like = rw (like, numbers-append ts (term_of k ∷ [])) (go (leb 65793 k) refl)
    where
      go :
          (d : Bool) → leb 65793 k ≡ d →
          number_or (cond (d && p (k - 65793)) (Some (lower_of k best)) best) ≡ least p (numbers ts ++ numbers (term_of k ∷ []))
      go false e = rw (no_number k (leb-false 65793 k e)) (so_far ∙ ap (least p) (sym (append-none (numbers ts))))
        where
          append-none : (l : List ℕ) → l ++ [] ≡ l
          append-none [] = refl
          append-none (n ∷ l) = ap (λ (r : List ℕ). n ∷ r) (append-none l)
      go true e = rw (one_number k (leb-true 65793 k e), least-snoc p (numbers ts) (k - 65793)) (at (p (k - 65793)))
        where
          at :
              (f : Bool) →
              number_or (cond f (Some (lower_of k best)) best) ≡ cond f (some (up_to (least p (numbers ts)) (k - 65793))) (least p (numbers ts))
          at true = taken
          at false = so_far

pub like-number : (k c t a : ℕ) → number_like k c t a ≡ true → 65793 ≤ k
unfolding number_like
like-number k c t a e = go (leb 65793 k) (alike_by k c t a) refl e
  where
    go : (d b : Bool) → leb 65793 k ≡ d → (d && b) ≡ true → 65793 ≤ k
    go true b f e = leb-true 65793 k f
    go false b f e = absurd (let z : ◌≡◌ {A = ℕ} 0 1 = cc in omega arith)

-- a slot's number is ~ the term of t by its label
pub slot-number :
    {fs : List Fact} {key label : List ℕ} {m : ℕ} → Decides fs key label m → m ≤ 144 → (i t a : ℕ) → i < m → Labelled key label m t a →
    number_like (get_or key i 0) (get_or label i 0) t a
    ≡ (leb 65793 (get_or key i 0) && equal_by (representative fs) (num (get_or key i 0 - 65793)) (term_of t))
unfolding number_like
slot-number {fs = fs} {key = key} {label = label} D low i t a h w = go (leb 65793 (get_or key i 0)) refl
  where
    go :
        (c : Bool) → leb 65793 (get_or key i 0) ≡ c →
        (c && alike_by (get_or key i 0) (get_or label i 0) t a)
        ≡ (c && equal_by (representative fs) (num (get_or key i 0 - 65793)) (term_of t))
    go true e =
        let k : ℕ = get_or key i 0 in
        let d : 65793 + (k - 65793) ≡ k = omega (arith, leb-true 65793 k e) in
        sym (ap (λ (x : Term). equal_by (representative fs) x (term_of t)) (sym (of_number (k - 65793)) ∙ ap term_of d)
        ∙ alike D low k (get_or label i 0) t a (inl (record { place = i; within = h; is = refl; shown = refl })) w)
    go false e = refl

-- THE LOOP
pub none_yet : (p : ℕ → Bool) (key : List ℕ) → number_or None ≡ least p (numbers (side_terms key 0))
unfolding number_or least numbers listed
none_yet p key = refl

pub slot-on :
    {fs : List Fact} {key label : List ℕ} {m : ℕ} → Decides fs key label m → m ≤ 144 → (i t a : ℕ) (best : Std.Option ℕ) → 16 + i < m →
    Labelled key label m t a →
    number_or best ≡ least (λ v. equal_by (representative fs) (num v) (term_of t)) (numbers (side_terms key i)) →
    number_or (with_slot best (get_or key (16 + i) 0) (get_or label (16 + i) 0) t a)
    ≡ least (λ v. equal_by (representative fs) (num v) (term_of t)) (numbers (side_terms key (suc i)))
unfolding listed
slot-on {key = key} {label = label} D low i t a best h w e =
    slot-more _ (side_terms key i) best (get_or key (16 + i) 0) (get_or label (16 + i) 0) t a e (slot-number D low (16 + i) t a h w)

-- the sides before the first number with the label of t
module _ {fs : List Fact} {key label : List ℕ} {m : ℕ} (D : Decides fs key label m) (low : m ≤ 144) (t a r : ℕ) (h : 16 + r ≤ m)
    (w : Labelled key label m t a) (before : (i : ℕ) → i < r → number_at_side key label a i ≡ false) where
  not-like : (i : ℕ) → i < r → with_slot None (get_or key (16 + i) 0) (get_or label (16 + i) 0) t a ≡ None
  unfolding with_slot number_like number_with alike_by
  not-like i g =
      let c : ℕ = get_or label (16 + i) 0 in
      rw (ne_eqb c 255 (λ e. omega (arith, e, D.low (16 + i) (omega arith)))) (go (leb 65793 (get_or key (16 + i) 0)) (eqb c a) (before i g))
    where
      go : (d e : Bool) → (e && d) ≡ false → cond (d && e) (Some (lower_of (get_or key (16 + i) 0) None)) None ≡ None
      go true true f = absurd (let z : ◌≡◌ {A = ℕ} 0 1 = cc in omega arith)
      go true false f = refl
      go false e f = refl

  pub none_before : (i : ℕ) → i ≤ r → number_or None ≡ least (λ v. equal_by (representative fs) (num v) (term_of t)) (numbers (side_terms key i))
  none_before zero g = none_yet _ key
  none_before (suc i) g = ap number_or (sym (not-like i (omega arith))) ∙ slot-on D low i t a None (omega arith) w (none_before i (omega arith))
