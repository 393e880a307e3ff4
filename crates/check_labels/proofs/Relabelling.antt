-- Labels numbered anew.
use mathlib.Core.Path.{◌≡◌, refl, sym, ap, ◌∙◌}
use mathlib.Core.Bool.{Bool, true, false, cond, not, ◌&&◌}
use mathlib.Core.List.{List}
use mathlib.Core.Logic.{◌⊎◌, inl, inr, ⊎_elim}
use Prim.Native.Nat.{ℕ, ◌+◌, ◌≤◌, ◌<◌}
use native.Mathlib.Omega.{arith}
use lib.Dec.{eqb, ltb}
use lib.ListN.{length, get_or, set, replicate, length-set, length-replicate, get_or-replicate}
use lib.Seq.{get_or-set_same, get_or-set_other}
use borrow.Author.Tests.{eqb-false, ltb-true, lt-ltb}
use Rattle.rules.proofs.Lists.{decide_eq}
use Rattle.check_equality.specs.Layout.{slots, null_slot, left_sides, bytes}
use Rattle.check_equality.specs.Links.{no_label}
use Rattle.check_labels.specs.Labels.{Lone, lone_of, LabelsBelow, Named, own, known, new, Relabelled, LabelsFit, fitting, with_label}

-- the first i slots have new labels: `name` has them by the old ones, and each is a slot's
pub record Naming (b : List ℕ) (x i : ℕ) (name b' : List ℕ) : Type 0 where
  pub names-size : length name ≡ slots
  pub size : length b' ≡ length b
  pub at : (j : ℕ) → j < i → (j ≡ x → ⊥) → get_or b' j 0 ≡ get_or name (get_or b j 0) 0
  pub alone : x < i → get_or b' x 0 ≡ x
  pub low : (a : ℕ) → a < slots → (get_or name a 0 ≡ no_label) ⊎ ((get_or name a 0 < i) × (get_or name a 0 ≡ x → ⊥))
  pub found : (j : ℕ) → j < i → (j ≡ x → ⊥) → get_or name (get_or b j 0) 0 < i
  pub apart : (a c : ℕ) → a < slots → c < slots → (get_or name a 0 ≡ no_label → ⊥) → get_or name a 0 ≡ get_or name c 0 → a ≡ c
  pub rest : (j : ℕ) → i ≤ j → get_or b' j 0 ≡ get_or b j 0

pub naming-first : (b : List ℕ) (x : ℕ) → Naming b x 0 (replicate slots no_label) b
naming-first b x =
    record {
      names-size = length-replicate {A = ℕ} slots no_label;
      size = refl;
      at = λ j h n. absurd (omega arith);
      alone = λ h. absurd (omega arith);
      low = λ a h. inl (get_or-replicate slots a no_label 0 h);
      found = λ j h n. absurd (omega arith);
      apart = λ a c h g n e. absurd (n (get_or-replicate slots a no_label 0 h));
      rest = λ j h. refl;
    }

module _ (b : List ℕ) (x i : ℕ) (name b' : List ℕ) (N : Naming b x i name b') (h : i < slots) (l : length b ≡ bytes) (low : (j : ℕ) → j ≤ i → get_or b j 0 < slots) where
  abbrev a : ℕ
  a = get_or b i 0

  wide : i < length b'
  wide = omega (arith, N.size)

  less : (j : ℕ) → j < i + 1 → (j ≡ i → ⊥) → j < i
  less j g d = omega arith

  -- i is x
  named-own : i ≡ x → Naming b x (i + 1) name (set b' i i)
  named-own e =
      record {
        names-size = N.names-size;
        size = length-set b' i i ∙ N.size;
        at = λ j g n. get_or-set_other b' i j i 0 (λ d. n (d ∙ e)) ∙ N.at j (less j g (λ d. n (d ∙ e))) n;
        alone = λ g. rw (← e) (get_or-set_same b' i i 0 wide);
        low = λ c g. ⊎_elim (λ z. inl z) (λ (z, y). inr (omega arith, y)) (N.low c g);
        found = λ j g n. omega (arith, N.found j (less j g (λ d. n (d ∙ e))) n);
        apart = N.apart;
        rest = λ j g. get_or-set_other b' i j i 0 (omega arith) ∙ N.rest j (omega arith);
      }

  before : (j : ℕ) → j < i + 1 → (j ≡ i) ⊎ (j < i)
  before j g = ⊎_elim (λ d. inl d) (λ d. inr (omega arith)) (decide_eq j i)

  named-known : (i ≡ x → ⊥) → (get_or name a 0 ≡ no_label → ⊥) → Naming b x (i + 1) name (set b' i (get_or name a 0))
  named-known n k =
      record {
        names-size = N.names-size;
        size = length-set b' i (get_or name a 0) ∙ N.size;
        at = λ j g m. ⊎_elim (λ d. rw d (get_or-set_same b' i (get_or name a 0) 0 wide)) (λ d. get_or-set_other b' i j (get_or name a 0) 0 (omega arith) ∙ N.at j d m) (before j g);
        alone = λ g. get_or-set_other b' i x (get_or name a 0) 0 (λ d. n (sym d)) ∙ N.alone (less x g (λ d. n (sym d)));
        low = λ c g. ⊎_elim (λ z. inl z) (λ (z, y). inr (omega arith, y)) (N.low c g);
        found =
            λ j g m.
            ⊎_elim (λ d. rw d (⊎_elim (λ z. absurd (k z)) (λ (z, y). omega arith) (N.low a (low i (omega arith))))) (λ d. omega (arith, N.found j d m)) (before j g);
        apart = N.apart;
        rest = λ j g. get_or-set_other b' i j (get_or name a 0) 0 (omega arith) ∙ N.rest j (omega arith);
      }

  module _ (n : i ≡ x → ⊥) (k : get_or name a 0 ≡ no_label) where
    abbrev name' : List ℕ
    name' = set name a i

    here : get_or name' a 0 ≡ i
    here = get_or-set_same name a i 0 (omega (arith, low i (omega arith), N.names-size))

    there : (c : ℕ) → (c ≡ a → ⊥) → get_or name' c 0 ≡ get_or name c 0
    there c d = get_or-set_other name a c i 0 d

    -- a slot with that label had a name
    other : (j : ℕ) → j < i → (j ≡ x → ⊥) → get_or b j 0 ≡ a → ⊥
    other j g m e = let z : get_or name (get_or b j 0) 0 ≡ no_label = ap (λ (c : ℕ). get_or name c 0) e ∙ k in omega (arith, z, N.found j g m)

    new-low : (c : ℕ) → c < slots → (get_or name' c 0 ≡ no_label) ⊎ ((get_or name' c 0 < i + 1) × (get_or name' c 0 ≡ x → ⊥))
    new-low c g =
        ⊎_elim (λ d. let z : get_or name' c 0 ≡ i = ap (λ (z : ℕ). get_or name' z 0) d ∙ here in inr (omega arith, λ e. n (sym z ∙ e)))
        (λ d. rw (there c d) (⊎_elim (λ z. inl z) (λ (z, y). inr (omega arith, y)) (N.low c g)))
        (decide_eq c a)

    small : (c : ℕ) → c < slots → (c ≡ a → ⊥) → get_or name c 0 ≡ i → ⊥
    small c g d e = ⊎_elim (λ z. omega (arith, z, e)) (λ (z, y). omega (arith, z, e)) (N.low c g)

    new_apart : (c d : ℕ) → c < slots → d < slots → (get_or name' c 0 ≡ no_label → ⊥) → get_or name' c 0 ≡ get_or name' d 0 → c ≡ d
    new_apart c d g f u e = go (decide_eq c a) (decide_eq d a)
      where
        go : (c ≡ a) ⊎ (c ≡ a → ⊥) → (d ≡ a) ⊎ (d ≡ a → ⊥) → c ≡ d
        go (inl p) (inl q) = p ∙ sym q
        go (inl p) (inr q) = absurd (small d f q (sym (there d q) ∙ sym e ∙ ap (λ (z : ℕ). get_or name' z 0) p ∙ here))
        go (inr p) (inl q) = absurd (small c g p (sym (there c p) ∙ e ∙ ap (λ (z : ℕ). get_or name' z 0) q ∙ here))
        go (inr p) (inr q) = N.apart c d g f (λ z. u (there c p ∙ z)) (sym (there c p) ∙ e ∙ there d q)

    named_new : Naming b x (i + 1) name' (set b' i i)
    named_new =
        record {
          names-size = length-set name a i ∙ N.names-size;
          size = length-set b' i i ∙ N.size;
          at =
              λ j g m.
              ⊎_elim (λ d. rw d (get_or-set_same b' i i 0 wide ∙ sym here))
              (λ d. get_or-set_other b' i j i 0 (omega arith) ∙ N.at j d m ∙ sym (there (get_or b j 0) (other j d m))) (before j g);
          alone = λ g. get_or-set_other b' i x i 0 (λ d. n (sym d)) ∙ N.alone (less x g (λ d. n (sym d)));
          low = new-low;
          found =
              λ j g m.
              ⊎_elim (λ d. let z : get_or name' (get_or b j 0) 0 ≡ i = ap (λ (k : ℕ). get_or name' (get_or b k 0) 0) d ∙ here in omega arith) (λ d. rw (there (get_or b j 0) (other j d m)) (omega (arith, N.found j d m))) (before j g);
          apart = new_apart;
          rest = λ j g. get_or-set_other b' i j i 0 (omega arith) ∙ N.rest j (omega arith);
        }

  pub naming-more : (name₁ : List ℕ) (r : ℕ) → Named i a x name name₁ r → Naming b x (i + 1) name₁ (set b' i r)
  naming-more name₁ r (own e p q) = rw (p, q) (named-own e)
  naming-more name₁ r (known n k p q) = rw (p, q) (named-known n k)
  naming-more name₁ r (new n k p q) = rw (p, q) (named_new n k)

fit_is : (m x l : ℕ) → fitting m x l ≡ true → (l < m) × (l ≡ x → ⊥)
unfolding fitting
fit_is m x l e = go (ltb l m) (eqb l x) refl refl e
  where
    go : (a c : Bool) → ltb l m ≡ a → eqb l x ≡ c → (a && not c) ≡ true → (l < m) × (l ≡ x → ⊥)
    go true true p q z = absurd (let y : ◌≡◌ {A = ℕ} 0 1 = cc in omega arith)
    go true false p q z = (ltb-true l m p, eqb-false l x q)
    go false c p q z = absurd (let y : ◌≡◌ {A = ℕ} 0 1 = cc in omega arith)

module _ (b : List ℕ) (x : ℕ) (w : Lone x) (s : length b ≡ bytes) where
  pub label-other : (l i : ℕ) → (i ≡ x → ⊥) → get_or (with_label x l b) i 0 ≡ get_or b i 0
  unfolding with_label
  label-other l i n = go (ltb x null_slot)
    where
      go : (c : Bool) → get_or (cond c (set b x l) b) i 0 ≡ get_or b i 0
      go true = get_or-set_other b x i l 0 n
      go false = refl

  pub label-size : (l : ℕ) → length (with_label x l b) ≡ bytes
  unfolding with_label
  label-size l = go (ltb x null_slot)
    where
      go : (c : Bool) → length (cond c (set b x l) b) ≡ bytes
      go true = length-set b x l ∙ s
      go false = s

  label-here : (l : ℕ) → x < null_slot → get_or (with_label x l b) x 0 ≡ l
  unfolding with_label
  label-here l h = rw (lt-ltb x null_slot h) (get_or-set_same b x l 0 (omega arith))

  lone : (m : ℕ) → m ≤ slots → x < m → x < null_slot
  lone m g h = ⊎_elim (λ z. z) (λ z. absurd (omega arith)) w

  -- another label for x first does not matter
  pub relabelled-first : (m l : ℕ) (b' : List ℕ) → left_sides ≤ m → Relabelled (with_label x l b) m x b' → Relabelled b m x b'
  unfolding with_label
  relabelled-first m l b' g R =
      record {
        size = R.size ∙ label-size l ∙ sym s;
        low = R.low;
        same = λ i j h k p q e. R.same i j h k p q (label-other l i p ∙ e ∙ sym (label-other l j q));
        apart = λ i j h k p q e. sym (label-other l i p) ∙ R.apart i j h k p q e ∙ label-other l j q;
        alone = R.alone;
        rest = λ i h. R.rest i h ∙ far i h (ltb x null_slot) refl;
      }
    where
      far : (i : ℕ) → m ≤ i → (c : Bool) → ltb x null_slot ≡ c → get_or (with_label x l b) i 0 ≡ get_or b i 0
      far i h true e = label-other l i (λ d. omega (arith, ltb-true x null_slot e))
      far i h false e = rw e

  pub labels-first : (m l : ℕ) → l < slots → LabelsBelow b m → LabelsBelow (with_label x l b) m
  unfolding with_label
  labels-first m l g L =
      record {
        size = label-size l;
        low = λ i h. ⊎_elim (λ e. at i h e (ltb x null_slot) refl) (λ n. rw (label-other l i n) (L.low i h)) (decide_eq i x);
      }
    where
      at : (i : ℕ) → i < m → i ≡ x → (c : Bool) → ltb x null_slot ≡ c → get_or (with_label x l b) i 0 < slots
      at i h e true d = rw e (let z : get_or (with_label x l b) x 0 ≡ l = label-here l (ltb-true x null_slot d) in omega arith)
      at i h e false d = rw d (L.low i h)

  -- all labels but x's stay
  pub fits_kept : (m : ℕ) → left_sides ≤ m → m ≤ slots → LabelsFit b m m x → Relabelled b m x (with_label x x b)
  unfolding with_label
  fits_kept m g u F =
      record {
        size = label-size x ∙ sym s;
        low = λ i h. ⊎_elim (λ e. low-own i h e) (λ n. rw (label-other x i n) (fit i h).0) (decide_eq i x);
        same = λ i j h k p q e. label-other x i p ∙ e ∙ sym (label-other x j q);
        apart = λ i j h k p q e. sym (label-other x i p) ∙ e ∙ label-other x j q;
        alone = λ i h k n e. (fit i h).1 (sym (label-other x i n) ∙ e ∙ label-here x (lone m u k));
        rest = λ i h. far i h (ltb x null_slot) refl;
      }
    where
      fit : (i : ℕ) → i < m → (get_or b i 0 < m) × (get_or b i 0 ≡ x → ⊥)
      fit i h = fit_is m x (get_or b i 0) (F i h)

      low-own : (i : ℕ) → i < m → i ≡ x → get_or (with_label x x b) i 0 < m
      low-own i h e = rw e (let z : get_or (with_label x x b) x 0 ≡ x = label-here x (lone m u (omega arith)) in omega arith)

      far : (i : ℕ) → m ≤ i → (c : Bool) → ltb x null_slot ≡ c → get_or (with_label x x b) i 0 ≡ get_or b i 0
      far i h true e = label-other x i (λ d. omega (arith, ltb-true x null_slot e))
      far i h false e = rw e

pub is-lone : (x : ℕ) → Lone (lone_of x)
unfolding lone_of
is-lone x = go (ltb x null_slot) refl
  where
    go : (c : Bool) → ltb x null_slot ≡ c → Lone (cond c x 255)
    go true e = inl (ltb-true x null_slot e)
    go false e = inr refl
