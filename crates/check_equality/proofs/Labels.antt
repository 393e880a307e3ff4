-- Labels keep deciding ~ as slots and facts are added.
use mathlib.Core.Path.{◌≡◌, refl, sym, ap, ◌∙◌, subst}
use mathlib.Core.Bool.{Bool, true, false, cond}
use mathlib.Core.List.{List, [], ◌∷◌, ◌++◌}
use mathlib.Core.Logic.{◌⊎◌, inl, inr, ⊎_elim}
use Prim.Native.Nat.{ℕ, ◌+◌, ◌≤◌, ◌<◌}
use native.Mathlib.Omega.{arith}
use lib.Dec.{T, eqb}
use lib.ListN.{length, get_or, set, length-set}
use lib.Seq.{get_or-set_same, get_or-set_other}
use borrow.Author.Tests.{eq-eqb, ne_eqb, eqb-true, eqb-false}
use Rattle.rules.specs.Syntax.{eq, ne, same}
use Rattle.rules.specs.State.{Term, Fact, representative, equal_by}
use Rattle.rules.proofs.Closure.{Listed, Equivalence, linked-least, here, there, listed, linked→representative, representative→linked, same→≡, same_refl}
use Rattle.rules.proofs.Lists.{decide_eq, T_true, F-false}
use Rattle.check_equality.specs.Layout.{slots, mark_count}
use Rattle.check_equality.specs.Keys.{term_of}
use Rattle.check_equality.specs.Links.{term_at, Header, HasLabel, Labelled, Alike, Together, Decides, Merged, Joined, LinkedUnless, Slotted, Pushed, Marked, place_of, picked, rel_of, fact_of, alike_by, left_new, right_new, both_known}
use Rattle.check_equality.proofs.Keys.{one_key}

-- ONE MORE FACT
pub record Ends (f : Fact) (t u : Term) : Type 0 where
  pub rel : f.rel ≡ eq
  pub left : f.left ≡ t
  pub right : f.right ≡ u

listed-before : {t u : Term} (fs : List Fact) (f : Fact) → Listed t u fs → Listed t u (fs ++ (f ∷ []))
listed-before (g ∷ fs) f (here e p q) = here e p q
listed-before (g ∷ fs) f (there l) = there (listed-before fs f l)
listed-before {t = t} {u = u} [] f x' = elim x' [ ]

listed-end : {t u : Term} (fs : List Fact) (f : Fact) → Ends f t u → Listed t u (fs ++ (f ∷ []))
listed-end [] f e = here e.rel e.left e.right
listed-end (g ∷ fs) f e = there (listed-end fs f e)

listed-cases : {t u : Term} (fs : List Fact) (f : Fact) → Listed t u (fs ++ (f ∷ [])) → Listed t u fs ⊎ Ends f t u
listed-cases [] f (here e p q) = inr (record { rel = e; left = p; right = q })
listed-cases [] f (there l) = elim l [ ]
listed-cases (g ∷ fs) f (here e p q) = inl (here e p q)
listed-cases (g ∷ fs) f (there l) = ⊎_elim (λ k. inl (there k)) (λ k. inr k) (listed-cases fs f l)

alike-equivalence : (fs : List Fact) → Equivalence (Alike fs)
alike-equivalence fs = record { reflexive = refl; symmetric = λ e. sym e; transitive = λ e d. e ∙ d }

grows : (fs : List Fact) (f : Fact) (t u : Term) → Alike fs t u → Alike (fs ++ (f ∷ [])) t u
grows fs f t u e =
    linked-least (alike-equivalence (fs ++ (f ∷ []))) (λ t u l. linked→representative (listed (listed-before fs f l)))
    (representative→linked fs t u e)

-- ONE MORE SLOT
pub data Choice (key label : List ℕ) (m k l : ℕ) : Type 0 where
  known : HasLabel key label m k l → Choice key label m k l
  fresh : ((i : ℕ) → i < m → get_or key i 0 ≡ k → ⊥) → l ≡ m → Choice key label m k l

module _ {fs : List Fact} {key label : List ℕ} {m : ℕ} (D : Decides fs key label m) where
  module _ (k l : ℕ) (hk : m < length key) (hl : m < length label) where
    old-key : (i : ℕ) → i < m → get_or (set key m k) i 0 ≡ get_or key i 0
    old-key i h = get_or-set_other key m i k 0 (omega arith)

    old-label : (i : ℕ) → i < m → get_or (set label m l) i 0 ≡ get_or label i 0
    old-label i h = get_or-set_other label m i l 0 (omega arith)

    new-key : (i : ℕ) → i ≡ m → get_or (set key m k) i 0 ≡ k
    new-key i h = rw h (get_or-set_same key m k 0 hk)

    new-label : (i : ℕ) → i ≡ m → get_or (set label m l) i 0 ≡ l
    new-label i h = rw h (get_or-set_same label m l 0 hl)

    still : (t u : Term) → Together key label m t u → Together (set key m k) (set label m l) (m + 1) t u
    still t u w =
        record {
          one = w.one;
          other = w.other;
          one_within = omega (arith, w.one_within);
          other_within = omega (arith, w.other_within);
          one_is = ap term_of (old-key w.one w.one_within) ∙ w.one_is;
          other_is = ap term_of (old-key w.other w.other_within) ∙ w.other_is;
          agree = old-label w.one w.one_within ∙ w.agree ∙ sym (old-label w.other w.other_within);
        }

    still-linked : (t u : Term) → Alike fs t u → (t ≡ u) ⊎ Together (set key m k) (set label m l) (m + 1) t u
    still-linked t u e = ⊎_elim (λ d. inl d) (λ w. inr (still t u w)) (D.linked t u e)

    -- a slot that every other stands for
    record Stands (i : ℕ) : Type 0 where
      for : ℕ
      within : for < m
      key-is : get_or (set key m k) i 0 ≡ get_or key for 0
      label_is : get_or (set label m l) i 0 ≡ get_or label for 0

    stands : HasLabel key label m k l → (i : ℕ) → i < m + 1 → Stands i
    stands w i h = ⊎_elim at-end before (decide_eq i m)
      where
        at-end : i ≡ m → Stands i
        at-end e = record { for = w.place; within = w.within; key-is = new-key i e ∙ sym w.is; label_is = new-label i e ∙ w.shown }

        before : (i ≡ m → ⊥) → Stands i
        before n = let g : i < m = omega arith in record { for = i; within = g; key-is = old-key i g; label_is = old-label i g }

    known-slot : HasLabel key label m k l → Decides fs (set key m k) (set label m l) (m + 1)
    known-slot w =
        record {
          low = λ i h. let s = stands w i h in omega (arith, s.label_is, D.low s.for s.within);
          unique = λ i j h g e.
              let s = stands w i h in
              let r = stands w j g in
              s.label_is ∙ D.unique s.for r.for s.within r.within (sym (ap term_of s.key-is) ∙ e ∙ ap term_of r.key-is) ∙ sym r.label_is;
          sound = λ i j h g e.
              let s = stands w i h in
              let r = stands w j g in
              ap (λ (n : ℕ). representative fs (term_of n)) s.key-is ∙ D.sound s.for r.for s.within r.within (sym s.label_is ∙ e ∙ r.label_is)
              ∙ sym (ap (λ (n : ℕ). representative fs (term_of n)) r.key-is);
          linked = still-linked;
        }

    fresh-slot : ((i : ℕ) → i < m → get_or key i 0 ≡ k → ⊥) → l ≡ m → Decides fs (set key m k) (set label m l) (m + 1)
    fresh-slot nowhere e =
        record {
          low = λ i h. ⊎_elim (λ d. omega (arith, new-label i d)) (λ d. omega (arith, old-label i (omega arith), D.low i (omega arith))) (decide_eq i m);
          unique = λ i j h g d. unique-at i j h g d (decide_eq i m) (decide_eq j m);
          sound = λ i j h g d. sound-at i j h g d (decide_eq i m) (decide_eq j m);
          linked = still-linked;
        }
      where
        unique-at : (i j : ℕ) → i < m + 1 → j < m + 1 → term_at (set key m k) i ≡ term_at (set key m k) j → (i ≡ m) ⊎ (i ≡ m → ⊥) → (j ≡ m) ⊎ (j ≡ m → ⊥) → get_or (set label m l) i 0 ≡ get_or (set label m l) j 0
        unique-at i j h g d (inl a) (inl b) = new-label i a ∙ sym (new-label j b)
        unique-at i j h g d (inl a) (inr b) =
            absurd (nowhere j (omega arith) (sym (old-key j (omega arith)) ∙ sym (one_key _ _ d) ∙ new-key i a))
        unique-at i j h g d (inr a) (inl b) = absurd (nowhere i (omega arith) (sym (old-key i (omega arith)) ∙ one_key _ _ d ∙ new-key j b))
        unique-at i j h g d (inr a) (inr b) =
            let p : i < m = omega arith in
            let q : j < m = omega arith in
            old-label i p ∙ D.unique i j p q (sym (ap term_of (old-key i p)) ∙ d ∙ ap term_of (old-key j q)) ∙ sym (old-label j q)

        sound-at : (i j : ℕ) → i < m + 1 → j < m + 1 → get_or (set label m l) i 0 ≡ get_or (set label m l) j 0 → (i ≡ m) ⊎ (i ≡ m → ⊥) → (j ≡ m) ⊎ (j ≡ m → ⊥) → Alike fs (term_at (set key m k) i) (term_at (set key m k) j)
        sound-at i j h g d (inl a) (inl b) = ap (λ (n : ℕ). representative fs (term_at (set key m k) n)) (a ∙ sym b)
        sound-at i j h g d (inl a) (inr b) =
            absurd (omega (arith, d, new-label i a, old-label j (omega arith), D.low j (omega arith)))
        sound-at i j h g d (inr a) (inl b) =
            absurd (omega (arith, d, new-label j b, old-label i (omega arith), D.low i (omega arith)))
        sound-at i j h g d (inr a) (inr b) =
            let p : i < m = omega arith in
            let q : j < m = omega arith in
            ap (λ (n : ℕ). representative fs (term_of n)) (old-key i p) ∙ D.sound i j p q (sym (old-label i p) ∙ d ∙ old-label j q)
            ∙ sym (ap (λ (n : ℕ). representative fs (term_of n)) (old-key j q))

    pub one-slot : Choice key label m k l → Decides fs (set key m k) (set label m l) (m + 1)
    one-slot (known w) = known-slot w
    one-slot (fresh nowhere e) = fresh-slot nowhere e

  -- AN INEQUALITY
  pub one-inequality : (f : Fact) → f.rel ≡ ne → Decides (fs ++ (f ∷ [])) key label m
  one-inequality f r =
      record {
        low = D.low;
        unique = D.unique;
        sound = λ i j h g e. grows fs f _ _ (D.sound i j h g e);
        linked = λ t u e. D.linked t u (shrink t u e);
      }
    where
      clash : {t u : Term} → Ends f t u → Alike fs t u
      clash w = absurd (let z : eq ≡ ne = sym w.rel ∙ r in let y : ◌≡◌ {A = ℕ} 0 1 = cc in omega arith)

      shrink : (t u : Term) → Alike (fs ++ (f ∷ [])) t u → Alike fs t u
      shrink t u e =
          linked-least (alike-equivalence fs)
          (λ t u l. ⊎_elim (λ k. linked→representative (listed k)) clash (listed-cases fs f l))
          (representative→linked (fs ++ (f ∷ [])) t u e)

  -- AN EQUALITY: the label of b's slot becomes that of a's
  module _
      (f : Fact) (a b : ℕ) (ha : a < m) (hb : b < m) (ends : Ends f (term_at key a) (term_at key b) ⊎ Ends f (term_at key b) (term_at key a)) (label' : List ℕ)
      (new : (i : ℕ) → i < m → get_or label' i 0 ≡ picked (get_or label b 0) (get_or label a 0) (get_or label i 0))
    where
      hit : (l : ℕ) → l ≡ get_or label b 0 → picked (get_or label b 0) (get_or label a 0) l ≡ get_or label a 0
      unfolding picked
      hit l e = rw (eq-eqb l (get_or label b 0) e)

      pass : (l : ℕ) → (l ≡ get_or label b 0 → ⊥) → picked (get_or label b 0) (get_or label a 0) l ≡ l
      unfolding picked
      pass l e = rw (ne_eqb l (get_or label b 0) e)

      both : Alike (fs ++ (f ∷ [])) (term_at key a) (term_at key b)
      both = ⊎_elim (λ e. linked→representative (listed (listed-end fs f e))) (λ e. sym (linked→representative (listed (listed-end fs f e)))) ends

      more : (i j : ℕ) → i < m → j < m → get_or label i 0 ≡ get_or label j 0 → Alike (fs ++ (f ∷ [])) (term_at key i) (term_at key j)
      more i j h g e = grows fs f _ _ (D.sound i j h g e)

      kept : (i j : ℕ) → i < m → j < m → get_or label i 0 ≡ get_or label j 0 → get_or label' i 0 ≡ get_or label' j 0
      kept i j h g e = new i h ∙ ap (picked (get_or label b 0) (get_or label a 0)) e ∙ sym (new j g)

      sound-at : (i j : ℕ) (h : i < m) (g : j < m) → get_or label' i 0 ≡ get_or label' j 0 → (get_or label i 0 ≡ get_or label b 0) ⊎ (get_or label i 0 ≡ get_or label b 0 → ⊥) → (get_or label j 0 ≡ get_or label b 0) ⊎ (get_or label j 0 ≡ get_or label b 0 → ⊥) → Alike (fs ++ (f ∷ [])) (term_at key i) (term_at key j)
      sound-at i j h g e (inl p) (inl q) = more i j h g (p ∙ sym q)
      sound-at i j h g e (inl p) (inr q) =
          more i b h hb p ∙ sym both ∙ more a j ha g (sym (hit _ p) ∙ sym (new i h) ∙ e ∙ new j g ∙ pass _ q)
      sound-at i j h g e (inr p) (inl q) =
          more i a h ha (sym (pass _ p) ∙ sym (new i h) ∙ e ∙ new j g ∙ hit _ q) ∙ both ∙ more b j hb g (sym q)
      sound-at i j h g e (inr p) (inr q) = more i j h g (sym (pass _ p) ∙ sym (new i h) ∙ e ∙ new j g ∙ pass _ q)

      abbrev Meets : Term → Term → Type 0
      Meets t u = (t ≡ u) ⊎ Together key label' m t u

      joined-sym : (t u : Term) → Meets t u → Meets u t
      joined-sym t u (inl e) = inl (sym e)
      joined-sym t u (inr w) =
          inr (record { one = w.other; other = w.one; one_within = w.other_within; other_within = w.one_within; one_is = w.other_is; other_is = w.one_is; agree = sym w.agree })

      joined-on : (t u v : Term) → Meets t u → Meets u v → Meets t v
      joined-on t u v (inl e) x = subst (λ (z : Term). Meets z v) (sym e) x
      joined-on t u v (inr w) (inl e) = inr (subst (λ (z : Term). Together key label' m t z) e w)
      joined-on t u v (inr w) (inr x) =
          inr (record {
            one = w.one;
            other = x.other;
            one_within = w.one_within;
            other_within = x.other_within;
            one_is = w.one_is;
            other_is = x.other_is;
            agree = w.agree ∙ kept w.other x.one w.other_within x.one_within (D.unique w.other x.one w.other_within x.one_within (w.other_is ∙ sym x.one_is)) ∙ x.agree;
          })

      joined-old : (t u : Term) → Alike fs t u → Meets t u
      joined-old t u e = ⊎_elim (λ d. inl d) (λ w. inr (record { one = w.one; other = w.other; one_within = w.one_within; other_within = w.other_within; one_is = w.one_is; other_is = w.other_is; agree = kept w.one w.other w.one_within w.other_within w.agree })) (D.linked t u e)

      meet : get_or label' a 0 ≡ get_or label' b 0
      meet = ⊎_elim (λ p. kept a b ha hb p) (λ p. new a ha ∙ pass _ p ∙ sym (hit _ refl) ∙ sym (new b hb)) (decide_eq (get_or label a 0) (get_or label b 0))

      joined_end : (t u : Term) → Ends f t u → Meets t u
      joined_end t u w =
          ⊎_elim (λ e. inr (record { one = a; other = b; one_within = ha; other_within = hb; one_is = sym e.left ∙ w.left; other_is = sym e.right ∙ w.right; agree = meet }))
          (λ e. inr (record { one = b; other = a; one_within = hb; other_within = ha; one_is = sym e.left ∙ w.left; other_is = sym e.right ∙ w.right; agree = sym meet })) ends

      joined-all : (t u : Term) → Alike (fs ++ (f ∷ [])) t u → Meets t u
      joined-all t u e =
          linked-least (record { reflexive = inl refl; symmetric = λ {t} {u} w. joined-sym t u w; transitive = λ {t} {u} {v} w x. joined-on t u v w x })
          (λ t u l. ⊎_elim (λ k. joined-old t u (linked→representative (listed k))) (joined_end t u) (listed-cases fs f l))
          (representative→linked (fs ++ (f ∷ [])) t u e)

      pub one-equality : Decides (fs ++ (f ∷ [])) key label' m
      one-equality =
          record {
            low = λ i h. ⊎_elim (λ p. omega (arith, new i h, hit _ p, D.low a ha)) (λ p. omega (arith, new i h, pass _ p, D.low i h)) (decide_eq (get_or label i 0) (get_or label b 0));
            unique = λ i j h g e. kept i j h g (D.unique i j h g e);
            sound = λ i j h g e. sound-at i j h g e (decide_eq (get_or label i 0) (get_or label b 0)) (decide_eq (get_or label j 0) (get_or label b 0));
            linked = joined-all;
          }

  -- THE TEST
  -- two slots
  pub slots-alike : (i j : ℕ) → i < m → j < m → equal_by (representative fs) (term_at key i) (term_at key j) ≡ eqb (get_or label i 0) (get_or label j 0)
  unfolding equal_by
  slots-alike i j h g = go (eqb (get_or label i 0) (get_or label j 0)) refl
    where
      together : Together key label m (term_at key i) (term_at key j) → get_or label i 0 ≡ get_or label j 0
      together w = D.unique i w.one h w.one_within (sym w.one_is) ∙ w.agree ∙ D.unique w.other j w.other_within g w.other_is

      go : (c : Bool) → eqb (get_or label i 0) (get_or label j 0) ≡ c → same (representative fs (term_at key i)) (representative fs (term_at key j)) ≡ c
      go true e = T_true _ (subst (λ (t : Term). T (same (representative fs (term_at key i)) t)) (D.sound i j h g (eqb-true _ _ e)) (same_refl _))
      go false e = F-false _ (λ t. eqb-false _ _ e (⊎_elim (λ d. D.unique i j h g d) together (D.linked _ _ (same→≡ _ _ t))))

  -- a term without a slot is alone
  alone : (k l : ℕ) → ((i : ℕ) → i < m → get_or key i 0 ≡ k → ⊥) → equal_by (representative fs) (term_of k) (term_of l) ≡ eqb k l
  unfolding equal_by
  alone k l nowhere = go (eqb k l) refl
    where
      apart : Together key label m (term_of k) (term_of l) → k ≡ l
      apart w = absurd (nowhere w.one w.one_within (one_key _ _ w.one_is))

      go : (c : Bool) → eqb k l ≡ c → same (representative fs (term_of k)) (representative fs (term_of l)) ≡ c
      go true e = rw (eqb-true k l e) (T_true _ (same_refl _))
      go false e = F-false _ (λ t. eqb-false k l e (⊎_elim (λ d. one_key k l d) apart (D.linked _ _ (same→≡ _ _ t))))

  swap : (t u : Term) → equal_by (representative fs) t u ≡ equal_by (representative fs) u t
  unfolding equal_by
  swap t u = go (same (representative fs u) (representative fs t)) refl
    where
      go : (c : Bool) → same (representative fs u) (representative fs t) ≡ c → same (representative fs t) (representative fs u) ≡ c
      go true e = let d = same→≡ _ _ (subst T (sym e) tt) in T_true _ (subst (λ (r : Term). T (same (representative fs t) r)) (sym d) (same_refl _))
      go false e = F-false _ (λ h. let d = same→≡ _ _ h in subst T e (subst (λ (r : Term). T (same (representative fs u) r)) (sym d) (same_refl (representative fs u))))

  module _ (low : m ≤ slots) where
    -- the label of a slot is no 255
    labelled : (i : ℕ) → i < m → get_or label i 0 ≡ 255 → ⊥
    labelled i h e = omega (arith, D.low i h)

    pub alike : (k a l b : ℕ) → Labelled key label m k a → Labelled key label m l b → equal_by (representative fs) (term_of k) (term_of l) ≡ alike_by k a l b
    unfolding alike_by
    alike k a l b (inl w) (inl x) =
        rw (ne_eqb a 255 (λ e. labelled w.place w.within (sym w.shown ∙ e)))
        (rw (w.shown, x.shown, ← w.is, ← x.is) (slots-alike w.place x.place w.within x.within))
    alike k a l b (inl w) (inr x) =
        rw (ne_eqb a 255 (λ e. labelled w.place w.within (sym w.shown ∙ e)))
        (swap _ _ ∙ alone l k x.nowhere ∙ ne_eqb l k (λ e. x.nowhere w.place w.within (w.is ∙ sym e))
        ∙ sym (ne_eqb a b (λ e. labelled w.place w.within (sym w.shown ∙ e ∙ x.shown))))
    alike k a l b (inr w) x = rw (eq-eqb a 255 w.shown) (alone k l w.nowhere)

-- THE OPERATIONS
pub header-set : (key : List ℕ) (m k : ℕ) → Header key → 16 ≤ m → Header (set key m k)
header-set key m k H h =
    record {
      size = length-set key m k ∙ H.size;
      variables = λ i g. get_or-set_other key m i k 0 (omega arith) ∙ H.variables i g;
      null = get_or-set_other key m 15 k 0 (omega arith) ∙ H.null;
    }

pub slotted :
    (key label : List ℕ) (m k l n : ℕ) → m < slots → m < length key → m < length label → Labelled key label m k l →
    n ≡ cond (eqb l 255) m l → Slotted key label m k (set key m k) (set label m n)
slotted key label m k l n h hk hl (inl w) e =
    record {
      keys = refl;
      size = length-set label m n;
      rest = λ i g. get_or-set_other label m i n 0 g;
      labels = λ fs D.
          let d : n ≡ l = e ∙ rw (ne_eqb l 255 (λ x. labelled D (omega arith) w.place w.within (sym w.shown ∙ x))) in
          one-slot D k n hk hl (known (record { place = w.place; within = w.within; is = w.is; shown = d ∙ w.shown }));
    }
slotted key label m k l n h hk hl (inr w) e =
    record { keys = refl; size = length-set label m n; rest = λ i g. get_or-set_other label m i n 0 g; labels = λ fs D. one-slot D k n hk hl (fresh w.nowhere (e ∙ rw (eq-eqb l 255 w.shown))) }

module _
    (key label : List ℕ) (m l r : ℕ) (hk : m + 2 ≤ length key) (key₁ label₁ key₂ label₂ : List ℕ)
    (one : Slotted key label m l key₁ label₁) (two : Slotted key₁ label₁ (m + 1) r key₂ label₂)
  where
    keys-set : key₂ ≡ set (set key m l) (m + 1) r
    keys-set = two.keys ∙ ap (λ (k : List ℕ). set k (m + 1) r) one.keys

    both-slots : (fs : List Fact) → Decides fs key label m → Decides fs key₂ label₂ (m + 2)
    both-slots fs D =
        let e : m + 1 + 1 ≡ m + 2 = omega arith in
        subst (λ (n : ℕ). Decides fs key₂ label₂ n) e (two.labels fs (one.labels fs D))

    far : m + 2 ≤ slots → (i : ℕ) → slots ≤ i → get_or label₂ i 0 ≡ get_or label i 0
    far h i g = two.rest i (omega arith) ∙ one.rest i (omega arith)

    pushed-ne : m + 2 ≤ slots → Pushed key label m true l r key₂ label₂
    unfolding rel_of
    pushed-ne h = record { keys = keys-set; size = two.size ∙ one.size; rest = far h; labels = λ fs D. one-inequality (both-slots fs D) (fact_of true l r) refl }

    left_is : get_or key₂ m 0 ≡ l
    left_is =
        ap (λ (k : List ℕ). get_or k m 0) keys-set ∙ get_or-set_other (set key m l) (m + 1) m r 0 (omega arith)
        ∙ get_or-set_same key m l 0 (omega arith)

    right_is : get_or key₂ (m + 1) 0 ≡ r
    right_is =
        ap (λ (k : List ℕ). get_or k (m + 1) 0) keys-set
        ∙ get_or-set_same (set key m l) (m + 1) r 0 (rw (length-set key m l) (omega arith))

    left_end : Ends (fact_of false l r) (term_at key₂ m) (term_at key₂ (m + 1))
    unfolding rel_of
    left_end = record { rel = refl; left = ap term_of (sym left_is); right = ap term_of (sym right_is) }

    -- the labels before the two slots, and that of the first
    old-low : {fs : List Fact} → Decides fs key label m → (i : ℕ) → i < m → get_or label₂ i 0 < m
    old-low D i h = omega (arith, two.rest i (omega arith), one.rest i (omega arith), D.low i h)

    -- the slot c, alone with its label, takes another label
    alone-picked :
        (c to : ℕ) → c < length label₂ → ((i : ℕ) → i < m + 2 → (i ≡ c → ⊥) → (get_or label₂ i 0 ≡ get_or label₂ c 0 → ⊥) ⊎ (get_or label₂ i 0 ≡ to)) →
        (i : ℕ) → i < m + 2 → get_or (set label₂ c to) i 0 ≡ picked (get_or label₂ c 0) to (get_or label₂ i 0)
    unfolding picked
    alone-picked c to h only i g = ⊎_elim here there (decide_eq i c)
      where
        here : i ≡ c → get_or (set label₂ c to) i 0 ≡ cond (eqb (get_or label₂ i 0) (get_or label₂ c 0)) to (get_or label₂ i 0)
        here e = rw (e, eq-eqb (get_or label₂ c 0) (get_or label₂ c 0) refl) (get_or-set_same label₂ c to 0 h)

        same : get_or label₂ i 0 ≡ to → (x : Bool) → get_or label₂ i 0 ≡ cond x to (get_or label₂ i 0)
        same d true = d
        same d false = refl

        there : (i ≡ c → ⊥) → get_or (set label₂ c to) i 0 ≡ cond (eqb (get_or label₂ i 0) (get_or label₂ c 0)) to (get_or label₂ i 0)
        there e =
            get_or-set_other label₂ c i to 0 e
            ∙ ⊎_elim (λ d. rw (ne_eqb (get_or label₂ i 0) (get_or label₂ c 0) d)) (λ d. same d (eqb (get_or label₂ i 0) (get_or label₂ c 0))) (only i g e)

    abbrev Equal : List ℕ → Type 0
    Equal label₃ = Pushed key label m false l r key₂ label₃

    pushed-left : m + 2 ≤ slots → slots ≤ length label₂ → get_or label₂ m 0 ≡ m → Equal (set label₂ m (get_or label₂ (m + 1) 0))
    pushed-left h s e =
        record {
          keys = keys-set;
          size = length-set label₂ m _ ∙ two.size ∙ one.size;
          rest = λ i g. get_or-set_other label₂ m i _ 0 (omega arith) ∙ far h i g;
          labels = λ fs D.
              one-equality (both-slots fs D) (fact_of false l r) (m + 1) m (omega arith) (omega arith) (inr left_end) _
              (alone-picked m (get_or label₂ (m + 1) 0) (omega arith) (λ i g d.
              ⊎_elim (λ q. inr (ap (λ (j : ℕ). get_or label₂ j 0) q)) (λ q. inl (λ x. omega (arith, old-low D i (omega arith)))) (decide_eq i (m + 1))));
        }

    pushed-right : m + 2 ≤ slots → slots ≤ length label₂ → get_or label₂ (m + 1) 0 ≡ m + 1 → Equal (set label₂ (m + 1) (get_or label₂ m 0))
    pushed-right h s e =
        record {
          keys = keys-set;
          size = length-set label₂ (m + 1) _ ∙ two.size ∙ one.size;
          rest = λ i g. get_or-set_other label₂ (m + 1) i _ 0 (omega arith) ∙ far h i g;
          labels = λ fs D.
              one-equality (both-slots fs D) (fact_of false l r) m (m + 1) (omega arith) (omega arith) (inl left_end) _
              (alone-picked (m + 1) (get_or label₂ m 0) (omega arith) (λ i g d.
              ⊎_elim (λ q. inr (ap (λ (j : ℕ). get_or label₂ j 0) q)) (λ q. inl (λ x. omega (arith, old-low D i (omega arith)))) (decide_eq i m)));
        }

    pushed-merged : m + 2 ≤ slots → (label₃ : List ℕ) → Merged (get_or label₂ m 0) (get_or label₂ (m + 1) 0) label₂ label₃ → Equal label₃
    pushed-merged h label₃ M =
        record {
          keys = keys-set;
          size = M.size ∙ two.size ∙ one.size;
          rest = λ i g. M.rest i g ∙ far h i g;
          labels = λ fs D.
              one-equality (both-slots fs D) (fact_of false l r) (m + 1) m (omega arith) (omega arith) (inr left_end) label₃
              (λ i g. M.labels i (omega arith));
        }

    pushed-eq : m + 2 ≤ slots → slots ≤ length label₂ → (label₃ : List ℕ) → Joined m label₂ label₃ → Equal label₃
    pushed-eq h s label₃ (left_new e d) = subst Equal (sym d) (pushed-left h s e)
    pushed-eq h s label₃ (right_new e d) = subst Equal (sym d) (pushed-right h s e)
    pushed-eq h s label₃ (both_known M) = pushed-merged h label₃ M

    pub pushed :
        m + 2 ≤ slots → slots ≤ length label₂ → (b : Bool) (label₃ : List ℕ) → LinkedUnless b m label₂ label₃ → Pushed key label m b l r key₂ label₃
    pushed h s true label₃ T = subst (λ (k : List ℕ). Pushed key label m true l r key₂ k) (sym (T.apart refl)) (pushed-ne h)
    pushed h s false label₃ T = pushed-eq h s label₃ (T.equal refl)

-- MARKS
pub marked_more :
    (key key' : List ℕ) (marks : List Bool) (m k p : ℕ) → key' ≡ set key m k → m < length key → (p ≡ place_of k) × (p < mark_count) →
    Marked key marks m → Marked key' (set marks p true) (m + 1)
marked_more key key' marks m k p e h q M =
    record { size = length-set marks p true ∙ M.size; at = λ i g s. rw e (⊎_elim here (there i g s) (decide_eq i m)) }
  where
    on : (r : ℕ) → get_or marks r false ≡ true → get_or (set marks p true) r false ≡ true
    on r d = ⊎_elim (λ x. rw x (get_or-set_same marks p true false (omega (arith, M.size)))) (λ x. get_or-set_other marks p r true false x ∙ d) (decide_eq r p)

    here : {i : ℕ} → i ≡ m → get_or (set marks p true) (place_of (get_or (set key m k) i 0)) false ≡ true
    here d = rw (d, get_or-set_same key m k 0 h, ← q.0) (get_or-set_same marks p true false (omega (arith, M.size)))

    there : (i : ℕ) → 16 ≤ i → i < m + 1 → (i ≡ m → ⊥) → get_or (set marks p true) (place_of (get_or (set key m k) i 0)) false ≡ true
    there i g s d = rw (get_or-set_other key m i k 0 d) (on _ (M.at i g (omega arith)))
