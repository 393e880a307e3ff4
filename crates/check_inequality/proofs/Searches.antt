-- Laws of searches over a list by its places.
use mathlib.Core.Path.{◌≡◌, refl, sym, ap, ap₂, ◌∙◌}
use mathlib.Core.Bool.{Bool, true, false, cond, ◌&&◌, ◌||◌}
use mathlib.Core.List.{List, [], ◌∷◌}
use mathlib.Core.Logic.{inl, ⊎_elim}
use Prim.Native.Nat.{ℕ, zero, suc, ◌+◌, ◌*◌, ◌≤◌, ◌<◌}
use native.Mathlib.Omega.{arith}
use lib.Dec.{eqb}
use lib.ListN.{get_or}
use borrow.Author.Tests.{ne_eqb}
use Rattle.rules.specs.Base.{any}
use Rattle.rules.specs.Limits.{most_facts}
use Rattle.rules.specs.Syntax.{null}
use Rattle.rules.specs.State.{Fact, Term, representative, equal_by, links, listed_unequal, is_ne}
use Rattle.rules.proofs.Lists.{decide_eq}
use Rattle.check_equality.specs.Layout.{slots, relations_at}
use Rattle.check_equality.specs.Keys.{term_of}
use Rattle.check_equality.specs.Listing.{listed}
use Rattle.check_equality.specs.Links.{Labelled, Decides, term_at, alike_by, rel_of}
use Rattle.check_equality.proofs.Keys.{of-null}
use Rattle.check_equality.proofs.Listing.{any_append, any_none, any-past}
use Rattle.check_equality.proofs.Labels.{alike}
use Rattle.check_state.specs.States.{apart_at, fact_at, facts_in}
use Rattle.check_state.specs.Questions.{Slots, places}
use Rattle.check_inequality.specs.Ways.{either_way, unequal_at, unequal_in}

module _ {A B : Type 0} where
  -- tests that agree at each place
  pub any_same :
      (p : A → Bool) (q : B → Bool) (f : ℕ → A) (g : ℕ → B) (n : ℕ) → ((i : ℕ) → i < n → p (f i) ≡ q (g i)) →
      any p (listed f n) ≡ any q (listed g n)
  unfolding any listed
  any_same p q f g zero h = refl
  any_same p q f g (suc n) h =
      any_append p (listed f n) (f n ∷ [])
      ∙ ap₂ (λ (a b : Bool). a || (b || false)) (any_same p q f g n (λ i k. h i (omega arith))) (h n (omega arith))
      ∙ sym (any_append q (listed g n) (g n ∷ []))

pub any_false : {A : Type 0} (p : A → Bool) (l : List A) → ((a : A) → p a ≡ false) → any p l ≡ false
unfolding any
any_false p [] h = refl
any_false p (a ∷ l) h = ap₂ (λ (x y : Bool). x || y) (h a) (any_false p l h)

pub any-places : {A : Type 0} (p : A → Bool) (f : ℕ → A) (n : ℕ) → ((i : ℕ) → i < n → p (f i) ≡ false) → any p (listed f n) ≡ false
any-places p f zero h = any_none p f
any-places p f (suc n) h = let e : n + 1 ≡ suc n = omega arith in rw e at (any-past p f n (any-places p f n (λ i k. h i (omega arith))) (h n (omega arith)))

pub any-on : {A : Type 0} (p : A → Bool) (f : ℕ → A) (m n : ℕ) → m ≤ n → any p (listed f m) ≡ true → any p (listed f n) ≡ true
unfolding listed
any-on p f m zero h e = let d : m ≡ 0 = omega arith in rw d at e
any-on p f m (suc n) h e =
    ⊎_elim (λ d. rw d at e) (λ d. any_append p (listed f n) (f n ∷ []) ∙ rw (any-on p f m n (omega arith) e)) (decide_eq m (suc n))

true-is-not : ◌≡◌ {A = Bool} true false → ⊥
true-is-not e = let z : ◌≡◌ {A = ℕ} 0 1 = cc in omega arith

pub or-none-left : (a b : Bool) → (a || b) ≡ false → a ≡ false
or-none-left true b e = e
or-none-left false b e = refl

pub or-none-right : (a b : Bool) → (a || b) ≡ false → b ≡ false
or-none-right true b e = absurd (let z : ◌≡◌ {A = ℕ} 0 1 = cc in omega arith)
or-none-right false b e = e

eight-none :
    (a b c d e f g h : Bool) → (((((((a || b) || c) || d) || e) || f) || g) || h) ≡ false →
    (a ≡ false) × (b ≡ false) × (c ≡ false) × (d ≡ false) × (e ≡ false) × (f ≡ false) × (g ≡ false) × (h ≡ false)
eight-none false false false false false false false false p = (refl, refl, refl, refl, refl, refl, refl, refl)
eight-none true b c d e f g h p = absurd (true-is-not p)
eight-none false true c d e f g h p = absurd (true-is-not p)
eight-none false false true d e f g h p = absurd (true-is-not p)
eight-none false false false true e f g h p = absurd (true-is-not p)
eight-none false false false false true f g h p = absurd (true-is-not p)
eight-none false false false false false true g h p = absurd (true-is-not p)
eight-none false false false false false false true h p = absurd (true-is-not p)
eight-none false false false false false false false true p = absurd (true-is-not p)

-- (a) eight facts that are equalities
module _ (b : List ℕ) (x y : ℕ) where
  abbrev None : ℕ → Type 0
  None i = any (unequal_in b x y) (places i) ≡ false

  abbrev apart : ℕ → Bool
  apart i = eqb (get_or b (relations_at + i) 0) 1

  equal-past : (i j : ℕ) → j ≡ i + 1 → apart i ≡ false → None i → None j
  unfolding unequal_at
  equal-past i j d e h = rw d (any-past (unequal_in b x y) (λ i. i) i h (rw e))

  pub equal-block :
      (i : ℕ) → None i →
      (((((((apart i || apart (i + 1)) || apart (i + 2)) || apart (i + 3)) || apart (i + 4)) || apart (i + 5)) || apart (i + 6)) || apart (i + 7)) ≡ false →
      None (i + 8)
  equal-block i h e =
      let n = eight-none (apart i) (apart (i + 1)) (apart (i + 2)) (apart (i + 3)) (apart (i + 4)) (apart (i + 5)) (apart (i + 6)) (apart (i + 7)) e in
      equal-past (i + 7) (i + 8) (omega arith) n.7
      (equal-past (i + 6) (i + 7) (omega arith) n.6
      (equal-past (i + 5) (i + 6) (omega arith) n.5
      (equal-past (i + 4) (i + 5) (omega arith) n.4
      (equal-past (i + 3) (i + 4) (omega arith) n.3
      (equal-past (i + 2) (i + 3) (omega arith) n.2
      (equal-past (i + 1) (i + 2) (omega arith) n.1
      (equal-past i (i + 1) (omega arith) n.0 h)))))))

-- (c)
pub null-like :
    {fs : List Fact} {key label : List ℕ} {m : ℕ} → Slots key label m → Decides fs key label m → (t a : ℕ) → Labelled key label m t a →
    equal_by (representative fs) null (term_of t) ≡ alike_by 256 (get_or label 15 0) t a
null-like {fs = fs} {key = key} {label = label} S D t a w =
    ap (λ (x : Term). equal_by (representative fs) x (term_of t)) (sym of-null)
    ∙ alike D S.most 256 (get_or label 15 0) t a (inl (record { place = 15; within = omega (arith, S.some); is = S.header.null; shown = refl })) w

-- (a)
-- a slot and a term with its label
pub slot-like :
    {fs : List Fact} {key label : List ℕ} {m : ℕ} → Decides fs key label m → m ≤ slots → (i t a : ℕ) → i < m →
    Labelled key label m t a → equal_by (representative fs) (term_at key i) (term_of t) ≡ eqb (get_or label i 0) a
unfolding alike_by
slot-like {key = key} {label = label} D low i t a h w =
    alike D low (get_or key i 0) (get_or label i 0) t a (inl (record { place = i; within = h; is = refl; shown = refl })) w
    ∙ ap (λ (c : Bool). cond c (eqb (get_or key i 0) t) (eqb (get_or label i 0) a)) (ne_eqb (get_or label i 0) 255 (λ e. omega (arith, D.low i h)))

pub ne-is : (b : Bool) → is_ne (rel_of b) ≡ b
unfolding is_ne rel_of
ne-is true = refl
ne-is false = refl

pub unequal-law :
    (key label : List ℕ) (n t a u b : ℕ) → n ≤ most_facts → Decides (facts_in key label n) key label (16 + 2 * n) →
    Labelled key label (16 + 2 * n) t a → Labelled key label (16 + 2 * n) u b →
    any (unequal_in label a b) (places n) ≡ listed_unequal (equal_by (representative (facts_in key label n))) (facts_in key label n) (term_of t) (term_of u)
unfolding listed_unequal unequal_at links either_way
unequal-law key label n t a u b h D wt wu =
    sym (any_same _ _ (fact_at key label) (λ i. i) n λ i g.
    ap₂ (λ (x y : Bool). x && y) (ne-is (apart_at label i))
    (ap₂ (λ (x y : Bool). x || y)
    (ap₂ (λ (x y : Bool). x && y) (slot-like D (omega arith) (16 + 2 * i) t a (omega arith) wt) (slot-like D (omega arith) (17 + 2 * i) u b (omega arith) wu))
    (ap₂ (λ (x y : Bool). x && y) (slot-like D (omega arith) (16 + 2 * i) u b (omega arith) wu) (slot-like D (omega arith) (17 + 2 * i) t a (omega arith) wt))))
