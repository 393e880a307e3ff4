-- Labels kept decide ~ of the facts that are left.
use mathlib.Core.Path.{◌≡◌, refl, sym, ap, ◌∙◌, subst}
use mathlib.Core.Bool.{Bool, true, false, cond, not}
use mathlib.Core.List.{List}
use mathlib.Core.Option.{Option, none, some}
use mathlib.Core.Logic.{◌⊎◌, inl, inr, ⊎_elim}
use Prim.Native.Nat.{ℕ, zero, suc, ◌+◌, ◌*◌, ◌≤◌, ◌<◌}
use native.Mathlib.Omega.{arith}
use lib.Dec.{eqb, ltb}
use lib.ListN.{get_or}
use borrow.Author.Tests.{ltb-true, lt-ltb}
use Rattle.rules.specs.Base.{Member}
use Rattle.rules.specs.Syntax.{eq, ne, null, var}
use Rattle.rules.specs.State.{Term, Fact, representative, rename_facts}
use Rattle.rules.proofs.Closure as Closure
use Rattle.rules.proofs.Closure.{Listed, linked-least, linked→representative, representative→linked, itself, listed, back, onward}
use Rattle.rules.proofs.Lists.{decide_eq, end-member, none-some}
use Rattle.rules.proofs.Successors.{Joined, left-law, after-before, listed-fact, alone, by-fact, by_name, swapped, chained}
use Rattle.check_equality.specs.Layout.{slots, null_slot, left_sides, right_sides, relations_at}
use Rattle.check_equality.specs.Keys.{term_of}
use Rattle.check_equality.specs.Listing as Places
use Rattle.check_equality.specs.Links.{Header, Alike, Together, Decides, term_at, rel_of}
use Rattle.check_equality.proofs.Keys.{of-variable, of-null, one_key}
use Rattle.check_state.specs.States.{facts, facts_of, fact_at, facts_in, apart_at}
use Rattle.check_labels.specs.Facts.{become_of}
use Rattle.check_labels.specs.Labels.{lone_of, Relabelled, Keeps, even}

-- a member of a list by its places
pub listed-member : {A : Type 0} (f : ℕ → A) (n : ℕ) (a : A) → Member a (Places.listed f n) → (i : ℕ) × (i < n) × (f i ≡ a)
unfolding Places.listed
listed-member f zero a m = elim m [ ]
listed-member f (suc n) a m =
    ⊎_elim (λ k. let (i, h, e) = listed-member f n a k in (i, omega arith, e)) (λ e. (n, omega arith, sym e)) (end-member (Places.listed f n) (f n) a m)

-- an equality of the first n facts by its slots
pub record Placed (key b : List ℕ) (n : ℕ) (t u : Term) : Type 0 where
  pub at : ℕ
  pub within : at < n
  pub apart : apart_at b at ≡ false
  pub left : term_at key (left_sides + 2 * at) ≡ t
  pub right : term_at key (right_sides + 2 * at) ≡ u

pub placed : (key b : List ℕ) (n : ℕ) (t u : Term) → Listed t u (facts_in key b n) → Placed key b n t u
unfolding rel_of
placed key b n t u l =
    let (f, m, r, p, q) = listed-fact (facts_in key b n) l in
    let (i, h, e) = listed-member (fact_at key b) n f m in
    record {
      at = i;
      within = h;
      apart = go (apart_at b i) (ap (λ (f : Fact). f.rel) e ∙ r);
      left = ap (λ (f : Fact). f.left) e ∙ p;
      right = ap (λ (f : Fact). f.right) e ∙ q;
    }
  where
    go : (c : Bool) → cond c ne eq ≡ eq → c ≡ false
    go true e = absurd (let z : ◌≡◌ {A = ℕ} 0 1 = cc in omega arith)
    go false e = refl

-- slots of ~ terms have one label
pub agree :
    {fs : List Fact} {key b : List ℕ} {m : ℕ} → Decides fs key b m → (i j : ℕ) → i < m → j < m → Alike fs (term_at key i) (term_at key j) →
    get_or b i 0 ≡ get_or b j 0
agree D i j h g e =
    ⊎_elim (λ d. D.unique i j h g d)
    (λ w. D.unique i w.one h w.one_within (sym w.one_is) ∙ w.agree ∙ D.unique w.other j w.other_within g w.other_is)
    (D.linked _ _ e)

-- WHAT IS LEFT IS ~ AS BEFORE
module _ (key b : List ℕ) (gone : List Bool) (x : ℕ) (K : Keeps key b gone x) where
  abbrev old-facts : List Fact
  old-facts = facts_of K.old b

  abbrev new-facts : List Fact
  new-facts = rename_facts K.way old-facts

  joined-alike : {t u : Term} → Joined old-facts K.way t u → Alike old-facts t u
  joined-alike alone = refl
  joined-alike (by-fact l) = linked→representative (listed l)
  joined-alike {t} {u} (by_name e) = K.was t u e
  joined-alike (swapped j) = sym (joined-alike j)
  joined-alike (chained j k) = joined-alike j ∙ joined-alike k

  linked-joined : {t u : Term} → Closure.Linked old-facts t u → Joined old-facts K.way t u
  linked-joined itself = alone
  linked-joined (listed l) = by-fact l
  linked-joined (back j) = swapped (linked-joined j)
  linked-joined (onward j k) = chained (linked-joined j) (linked-joined k)

  -- where one of two equal terms becomes something, so does the other
  abbrev Left : Option Term → Type 0
  Left o = (a : Term) × (o ≡ some a)

  side_left : (g h : Bool) (c : ℕ) (t u : Term) → even c g h ≡ true → eqb c 1 ≡ false → Left (cond g none (some t)) → Left (cond h none (some u))
  unfolding even
  side_left g h c t u w d L = go g h (rw d at w) L
    where
      go : (g h : Bool) → cond g h (not h) ≡ true → Left (cond g none (some t)) → Left (cond h none (some u))
      go true h w (a, e) = none-some e
      go false true w L = absurd (let z : ◌≡◌ {A = ℕ} 0 1 = cc in omega arith)
      go false false w L = (u, refl)

  side_right : (g h : Bool) (c : ℕ) (t u : Term) → even c g h ≡ true → eqb c 1 ≡ false → Left (cond h none (some u)) → Left (cond g none (some t))
  unfolding even
  side_right g h c t u w d L = go g h (rw d at w) L
    where
      go : (g h : Bool) → cond g h (not h) ≡ true → Left (cond h none (some u)) → Left (cond g none (some t))
      go g true w (a, e) = none-some e
      go true false w L = absurd (let z : ◌≡◌ {A = ℕ} 0 1 = cc in omega arith)
      go false false w L = (t, refl)

  fact_left : {t u : Term} → Listed t u old-facts → (Left (K.way t) → Left (K.way u)) × (Left (K.way u) → Left (K.way t))
  fact_left {t} {u} l =
      let P = placed K.old b (facts b) t u l in
      let c : ℕ = P.at in
      let h : c < facts b = P.within in
      let p : K.way t ≡ become_of key gone (left_sides + 2 * c) = ap K.way (sym P.left) ∙ K.stands (left_sides + 2 * c) (omega arith) (omega arith) in
      let q : K.way u ≡ become_of key gone (right_sides + 2 * c) = ap K.way (sym P.right) ∙ K.stands (right_sides + 2 * c) (omega arith) (omega arith) in
      let w = K.whole c (omega arith) h in (
        λ L. rw q (side_left _ _ (get_or b (relations_at + c) 0) _ _ w P.apart (rw p at L)),
        λ L. rw p (side_right _ _ (get_or b (relations_at + c) 0) _ _ w P.apart (rw q at L)),
      )

  both_left : {t u : Term} → Closure.Linked old-facts t u → (Left (K.way t) → Left (K.way u)) × (Left (K.way u) → Left (K.way t))
  both_left itself = (λ L. L, λ L. L)
  both_left (listed l) = fact_left l
  both_left (back j) = let (p, q) = both_left j in (q, p)
  both_left (onward j k) = let (p, q) = both_left j in let (r, s) = both_left k in (λ L. r (p L), λ L. q (s L))

  pub still_alike : (t u : Term) → K.way t ≡ some t → K.way u ≡ some u → Alike old-facts t u → Alike new-facts t u
  still_alike t u p q e =
      linked→representative
      ((left-law old-facts K.way K.stays (λ v w i l a d. (both_left l).0 (a, d)) t u p q).1 (linked-joined (representative→linked old-facts t u e)))

  pub was-alike : (t u : Term) → Listed t u new-facts → Alike old-facts t u
  was-alike t u l = joined-alike (after-before old-facts K.way (listed l))

-- SLOTS, each from a slot before
pub data Origin (gone : List Bool) (j place : ℕ) : Type 0 where
  header : place ≡ j → j < left_sides → Origin gone j place
  side : left_sides ≤ place → left_sides ≤ j → get_or gone place false ≡ false → Origin gone j place

pub record Source (key b : List ℕ) (gone : List Bool) (i : ℕ) (key' b' : List ℕ) (j : ℕ) : Type 0 where
  pub place : ℕ
  pub within : place < left_sides + 2 * i
  pub key-is : get_or key' j 0 ≡ get_or key place 0
  pub label_is : get_or b' j 0 ≡ get_or b place 0
  pub origin : Origin gone j place

header-same : (key key' : List ℕ) → Header key → Header key' → (j : ℕ) → j < left_sides → get_or key j 0 ≡ get_or key' j 0
header-same key key' H H' j h =
    ⊎_elim (λ e. rw e (H.null ∙ sym H'.null)) (λ n. H.variables j (omega arith) ∙ sym (H'.variables j (omega arith))) (decide_eq j 15)

lone_is : (x v : ℕ) → v < null_slot → v ≡ x → v ≡ lone_of x
unfolding lone_of
lone_is x v h e = rw (lt-ltb x null_slot (omega arith)) e

lone-low : (x : ℕ) → lone_of x < slots → (lone_of x ≡ x) × (x < null_slot)
unfolding lone_of
lone-low x h = go (ltb x null_slot) refl h
  where
    go : (c : Bool) → ltb x null_slot ≡ c → cond c x 255 < slots → (cond c x 255 ≡ x) × (x < null_slot)
    go true e h = (refl, ltb-true x null_slot e)
    go false e h = absurd (omega arith)

module _ (key b : List ℕ) (gone : List Bool) (x : ℕ) (K : Keeps key b gone x) (key' b₁ b₂ : List ℕ) (n : ℕ) (fit : n ≤ 64) (H : Header key')
    (S : (j : ℕ) → j < left_sides + 2 * n → Source key b gone (facts b) key' b₁ j) (R : Relabelled b₁ (left_sides + 2 * n) (lone_of x) b₂)
    (F : facts_in key' b₂ n ≡ rename_facts K.way (facts_of K.old b)) where
  abbrev m : ℕ
  m = left_sides + 2 * n

  abbrev before : ℕ → ℕ → Type 0
  before j k = Alike (facts_of K.old b) (term_at K.old j) (term_at key' k)

  -- what a side became
  became : (j : ℕ) (h : j < m) → left_sides ≤ (S j h).place → get_or gone (S j h).place false ≡ false → K.way (term_at K.old (S j h).place) ≡ some (term_at key' j)
  became j h g d =
      K.stands (S j h).place g (S j h).within ∙ ap (λ (c : Bool). cond c none (some (term_at key (S j h).place))) d
      ∙ ap (λ (k : ℕ). some (term_of k)) (sym (S j h).key-is)

  slot-was : (j : ℕ) (h : j < m) → before (S j h).place j
  slot-was j h = go (S j h).origin
    where
      go : Origin gone j (S j h).place → before (S j h).place j
      go (header e l) = ap (λ (k : ℕ). representative (facts_of K.old b) (term_of k)) (ap (λ (i : ℕ). get_or K.old i 0) e ∙ header-same K.old key' K.wf.linked.header H j l)
      go (side g l d) = K.was _ _ (became j h g d)

  slot-left : (j : ℕ) (h : j < m) → (j ≡ lone_of x → ⊥) → K.way (term_at key' j) ≡ some (term_at key' j)
  slot-left j h n = go (S j h).origin
    where
      variable : j < null_slot → K.way (term_at key' j) ≡ some (term_at key' j)
      variable l =
          let e : term_at key' j ≡ var j = ap term_of (H.variables j l) ∙ of-variable j (omega arith) in
          rw e (K.left j l (λ d. n (lone_is x j l d)))

      nothing : j ≡ 15 → K.way (term_at key' j) ≡ some (term_at key' j)
      nothing d =
          let e : term_at key' j ≡ null = ap (term_at key') d ∙ ap term_of H.null ∙ of-null in
          rw e K.null

      go : Origin gone j (S j h).place → K.way (term_at key' j) ≡ some (term_at key' j)
      go (header e l) = ⊎_elim nothing (λ d. variable (omega arith)) (decide_eq j 15)
      go (side g l d) = K.stays _ _ (became j h g d)

  -- no other slot holds x
  slot-other : (j : ℕ) (h : j < m) → (j ≡ lone_of x → ⊥) → lone_of x < m → term_at key' j ≡ term_at key' (lone_of x) → ⊥
  slot-other j h n g e = go (S j h).origin
    where
      low : (lone_of x ≡ x) × (x < null_slot)
      low = lone-low x (omega arith)

      is : term_at key' j ≡ var x
      is = e ∙ ap (term_at key') low.0 ∙ ap term_of (H.variables x low.1) ∙ of-variable x (omega (arith, low.1))

      key_of : get_or key' j 0 ≡ x
      key_of = one_key _ _ (is ∙ sym (of-variable x (omega (arith, low.1))))

      go : Origin gone j (S j h).place → ⊥
      go (header d l) =
          ⊎_elim (λ z. let y : get_or key' j 0 ≡ 256 = rw z H.null in omega (arith, y, key_of, low.1))
          (λ z. n (sym (H.variables j (omega arith)) ∙ key_of ∙ sym low.0)) (decide_eq j 15)
      go (side p l d) = K.alone _ low.1 (became j h p d ∙ ap some is)

  -- labels after as before
  label-before : (j : ℕ) (h : j < m) → get_or b₁ j 0 ≡ get_or b (S j h).place 0
  label-before j h = (S j h).label_is

  abbrev D : Decides (facts_of K.old b) K.old b (left_sides + 2 * facts b)
  D = K.wf.linked.decides

  one_label :
      (i j : ℕ) (h : i < m) (g : j < m) → (i ≡ lone_of x → ⊥) → (j ≡ lone_of x → ⊥) → Alike (facts_of K.old b) (term_at key' i) (term_at key' j) →
      get_or b₂ i 0 ≡ get_or b₂ j 0
  one_label i j h g p q e =
      R.same i j h g p q
      (label-before i h ∙ agree D (S i h).place (S j g).place (S i h).within (S j g).within (slot-was i h ∙ e ∙ sym (slot-was j g)) ∙ sym (label-before j g))

  unique : (i j : ℕ) → i < m → j < m → term_at key' i ≡ term_at key' j → get_or b₂ i 0 ≡ get_or b₂ j 0
  unique i j h g e = go (decide_eq i (lone_of x)) (decide_eq j (lone_of x))
    where
      go : (i ≡ lone_of x) ⊎ (i ≡ lone_of x → ⊥) → (j ≡ lone_of x) ⊎ (j ≡ lone_of x → ⊥) → get_or b₂ i 0 ≡ get_or b₂ j 0
      go (inl p) (inl q) = ap (λ (k : ℕ). get_or b₂ k 0) (p ∙ sym q)
      go (inl p) (inr q) = absurd (slot-other j g q (omega arith) (sym e ∙ ap (term_at key') p))
      go (inr p) (inl q) = absurd (slot-other i h p (omega arith) (e ∙ ap (term_at key') q))
      go (inr p) (inr q) = one_label i j h g p q (ap (representative (facts_of K.old b)) e)

  sound : (i j : ℕ) → i < m → j < m → get_or b₂ i 0 ≡ get_or b₂ j 0 → Alike (facts_in key' b₂ n) (term_at key' i) (term_at key' j)
  sound i j h g e = go (decide_eq i (lone_of x)) (decide_eq j (lone_of x))
    where
      go : (i ≡ lone_of x) ⊎ (i ≡ lone_of x → ⊥) → (j ≡ lone_of x) ⊎ (j ≡ lone_of x → ⊥) → Alike (facts_in key' b₂ n) (term_at key' i) (term_at key' j)
      go (inl p) (inl q) = ap (λ (k : ℕ). representative (facts_in key' b₂ n) (term_at key' k)) (p ∙ sym q)
      go (inl p) (inr q) = absurd (R.alone j g (omega arith) q (sym e ∙ ap (λ (k : ℕ). get_or b₂ k 0) p))
      go (inr p) (inl q) = absurd (R.alone i h (omega arith) p (e ∙ ap (λ (k : ℕ). get_or b₂ k 0) q))
      go (inr p) (inr q) =
          subst (λ (fs : List Fact). Alike fs (term_at key' i) (term_at key' j)) (sym F)
          (still_alike key b gone x K _ _ (slot-left i h p) (slot-left j g q)
          (sym (slot-was i h)
          ∙ D.sound (S i h).place (S j g).place (S i h).within (S j g).within (sym (label-before i h) ∙ R.apart i j h g p q e ∙ label-before j g)
          ∙ slot-was j g))

  abbrev Meets : Term → Term → Type 0
  Meets t u = (t ≡ u) ⊎ Together key' b₂ m t u

  meets-back : (t u : Term) → Meets t u → Meets u t
  meets-back t u (inl e) = inl (sym e)
  meets-back t u (inr w) =
      inr (record { one = w.other; other = w.one; one_within = w.other_within; other_within = w.one_within; one_is = w.other_is; other_is = w.one_is; agree = sym w.agree })

  meets_on : (t u v : Term) → Meets t u → Meets u v → Meets t v
  meets_on t u v (inl e) y = subst (λ (z : Term). Meets z v) (sym e) y
  meets_on t u v (inr w) (inl e) = inr (subst (λ (z : Term). Together key' b₂ m t z) e w)
  meets_on t u v (inr w) (inr y) =
      inr (record {
        one = w.one;
        other = y.other;
        one_within = w.one_within;
        other_within = y.other_within;
        one_is = w.one_is;
        other_is = y.other_is;
        agree = w.agree ∙ unique w.other y.one w.other_within y.one_within (w.other_is ∙ sym y.one_is) ∙ y.agree;
      })

  listed-meets : (t u : Term) → Listed t u (facts_in key' b₂ n) → Meets t u
  listed-meets t u l =
      let P = placed key' b₂ n t u l in
      let c : ℕ = P.at in
      let h : c < n = P.within in
      let low = lone-low x in
      inr (record {
        one = left_sides + 2 * c;
        other = right_sides + 2 * c;
        one_within = omega arith;
        other_within = omega arith;
        one_is = P.left;
        other_is = P.right;
        agree =
            one_label (left_sides + 2 * c) (right_sides + 2 * c) (omega arith) (omega arith) (not-lone (left_sides + 2 * c) (omega arith) (omega arith)) (not-lone (right_sides + 2 * c) (omega arith) (omega arith))
            (ap (representative (facts_of K.old b)) P.left ∙ was-alike key b gone x K t u (subst (Listed t u) F l) ∙ sym (ap (representative (facts_of K.old b)) P.right));
      })
    where
      not-lone : (j : ℕ) → left_sides ≤ j → j < slots → j ≡ lone_of x → ⊥
      not-lone j g h e = let (p, q) = lone-low x (subst (λ (k : ℕ). k < slots) e h) in omega (arith, p, q, e)

  pub kept-decides : Decides (facts_in key' b₂ n) key' b₂ m
  kept-decides =
      record {
        low = R.low;
        unique = unique;
        sound = sound;
        linked =
            λ t u e.
            linked-least (record { reflexive = inl refl; symmetric = λ {t} {u} w. meets-back t u w; transitive = λ {t} {u} {v} w y. meets_on t u v w y })
            listed-meets (representative→linked (facts_in key' b₂ n) t u e);
      }
