-- What a state is when some of its bytes are written: the others stay, a count changes, there is one more fact.
use mathlib.Core.Path.{◌≡◌, refl, sym, ap, ap₂, ◌∙◌, subst}
use mathlib.Core.Bool.{Bool}
use mathlib.Core.List.{List, [], ◌∷◌, ◌++◌}
use mathlib.Core.Logic.{◌⊎◌, inl, inr, ⊎_elim}
use Prim.Native.Nat.{ℕ, ◌+◌, ◌*◌, ◌≤◌, ◌<◌}
use native.Mathlib.Omega.{arith}
use lib.Dec.{eqb}
use lib.ListN.{length, get_or, set, length-set}
use lib.Seq.{get_or-set_same, get_or-set_other}
use Rattle.rules.specs.Limits.{most_permissions, most_facts}
use Rattle.rules.specs.State.{Fact}
use Rattle.check_equality.specs.Links.{Header, Decides, Pushed, fact_of}
use Rattle.check_equality.specs.Layout.{left_sides, right_sides, relations_at, variables_at, fields_at, fact_count, entry_count, kinds_at, bytes}
use Rattle.check_equality.proofs.Listing.{listed_more, listed_same}
use Rattle.check_equality.proofs.Labels.{header-set}
use Rattle.check_state.specs.States.{fact_at, facts_in, facts_of, facts, variable_at, field_at, kind_at, permission_at, IsKind, KindsIn, Linked, Wf}

-- THE SAME BYTES
-- labels that are the same decide the same
decides-same : {fs : List Fact} {key : List ℕ} (b b' : List ℕ) {m : ℕ} → ((i : ℕ) → i < m → get_or b' i 0 ≡ get_or b i 0) → Decides fs key b m → Decides fs key b' m
decides-same b b' e D =
    record {
      low = λ i h. omega (arith, e i h, D.low i h);
      unique = λ i j h g d. e i h ∙ D.unique i j h g d ∙ sym (e j g);
      sound = λ i j h g d. D.sound i j h g (sym (e i h) ∙ d ∙ e j g);
      linked = λ t u d. ⊎_elim (λ p. inl p) (λ w. inr (record { one = w.one; other = w.other; one_within = w.one_within; other_within = w.other_within; one_is = w.one_is; other_is = w.other_is; agree = e w.one w.one_within ∙ w.agree ∙ sym (e w.other w.other_within) })) (D.linked t u d);
    }

pub facts-same : (key b b' : List ℕ) (n : ℕ) → n ≤ most_facts → ((i : ℕ) → i < variables_at → get_or b' i 0 ≡ get_or b i 0) → facts_in key b' n ≡ facts_in key b n
facts-same key b b' n h e = listed_same _ _ n (λ i g. rw (e (relations_at + i) (omega arith)))

pub linked-same : (key b b' : List ℕ) (n : ℕ) → length b' ≡ bytes → ((i : ℕ) → i < variables_at → get_or b' i 0 ≡ get_or b i 0) → Linked key b n → Linked key b' n
linked-same key b b' n l e L =
    record {
      header = L.header;
      size = l;
      fit = L.fit;
      decides = subst (λ (fs : List Fact). Decides fs key b' (left_sides + 2 * n)) (sym (facts-same key b b' n L.fit e)) (decides-same b b' (λ i h. e i (omega (arith, L.fit))) L.decides);
    }

-- an entry by its three bytes
pub entry-same :
    (b b' : List ℕ) (i : ℕ) → kind_at b' i ≡ kind_at b i → variable_at b' i ≡ variable_at b i → field_at b' i ≡ field_at b i → permission_at b' i ≡ permission_at b i
entry-same b b' i k x f = rw (k, x, f)

pub entries-same :
    (b b' : List ℕ) (n : ℕ) → n ≤ most_permissions → ((i : ℕ) → variables_at ≤ i → (i ≡ fact_count → ⊥) → (i ≡ entry_count → ⊥) → get_or b' i 0 ≡ get_or b i 0) →
    (i : ℕ) → i < n → permission_at b' i ≡ permission_at b i
entries-same b b' n h e i g = entry-same b b' i (at kinds_at (omega arith) (omega arith) (omega arith)) (at variables_at (omega arith) (omega arith) (omega arith)) (at fields_at (omega arith) (omega arith) (omega arith))
  where
    at : (s : ℕ) → variables_at ≤ s + i → (s + i ≡ fact_count → ⊥) → (s + i ≡ entry_count → ⊥) → get_or b' (s + i) 0 ≡ get_or b (s + i) 0
    at s p q r = e (s + i) p q r

-- the kinds are as they were
pub kinds-same : (b b' : List ℕ) (n n' : ℕ) → n' ≡ n → ((i : ℕ) → kinds_at ≤ i → get_or b' i 0 ≡ get_or b i 0) → KindsIn b n → KindsIn b' n'
kinds-same b b' n n' d e w i h = subst IsKind (sym (e (kinds_at + i) (omega arith))) (w i (omega arith))

-- a state whose facts are as they were
module _ (key b b' : List ℕ) (w : Wf key b) (l : length b' ≡ bytes) (rest : (i : ℕ) → (i < variables_at) ⊎ (i ≡ fact_count) → get_or b' i 0 ≡ get_or b i 0) where
  pub same-linked : Linked key b' (facts b')
  same-linked =
      subst (λ (n : ℕ). Linked key b' n) (sym (rest fact_count (inr refl))) (linked-same key b b' (facts b) l (λ i h. rest i (inl h)) w.linked)

  pub same-facts : facts_of key b' ≡ facts_of key b
  same-facts = ap (λ (n : ℕ). facts_in key b' n) (rest fact_count (inr refl)) ∙ facts-same key b b' (facts b) w.linked.fit (λ i h. rest i (inl h))

-- the count of facts is written
module _ (b : List ℕ) (n : ℕ) (l : length b ≡ bytes) where
  pub counted : facts (set b fact_count n) ≡ n
  counted = get_or-set_same b fact_count n 0 (omega arith)

  pub counted-other : (i : ℕ) → (i ≡ fact_count → ⊥) → get_or (set b fact_count n) i 0 ≡ get_or b i 0
  counted-other i h = get_or-set_other b fact_count i n 0 h

  pub counted-linked : (key : List ℕ) → Linked key b n → Linked key (set b fact_count n) (facts (set b fact_count n))
  counted-linked key L =
      subst (λ (k : ℕ). Linked key (set b fact_count n) k) (sym counted) (linked-same key b (set b fact_count n) n (length-set b fact_count n ∙ l) (λ i h. counted-other i (omega arith)) L)

  pub counted-facts : (key : List ℕ) → n ≤ most_facts → facts_of key (set b fact_count n) ≡ facts_in key b n
  counted-facts key h = ap (λ (k : ℕ). facts_in key (set b fact_count n) k) counted ∙ facts-same key b (set b fact_count n) n h (λ i g. counted-other i (omega arith))

-- ONE MORE FACT
module _ (key b : List ℕ) (n c l r : ℕ) (L : Linked key b n) (h : n < most_facts) (key' b₁ : List ℕ) (d : Bool) (e : eqb c 1 ≡ d) (P : Pushed key b (left_sides + 2 * n) d l r key' b₁) where
  abbrev b₂ : List ℕ
  b₂ = set b₁ (relations_at + n) c

  sized : length b₁ ≡ bytes
  sized = P.size ∙ L.size

  pub pushed-keys : (j : ℕ) → (j ≡ left_sides + 2 * n → ⊥) → (j ≡ right_sides + 2 * n → ⊥) → get_or key' j 0 ≡ get_or key j 0
  pushed-keys j p q =
      ap (λ (k : List ℕ). get_or k j 0) P.keys ∙ get_or-set_other (set key (left_sides + 2 * n) l) (left_sides + 2 * n + 1) j r 0 (omega arith)
      ∙ get_or-set_other key (left_sides + 2 * n) j l 0 p

  left : get_or key' (left_sides + 2 * n) 0 ≡ l
  left =
      ap (λ (k : List ℕ). get_or k (left_sides + 2 * n) 0) P.keys ∙ get_or-set_other (set key (left_sides + 2 * n) l) (left_sides + 2 * n + 1) (left_sides + 2 * n) r 0 (omega arith)
      ∙ get_or-set_same key (left_sides + 2 * n) l 0 (omega (arith, L.header.size))

  right : get_or key' (right_sides + 2 * n) 0 ≡ r
  right =
      let g : right_sides + 2 * n ≡ left_sides + 2 * n + 1 = omega arith in
      ap (λ (k : List ℕ). get_or k (right_sides + 2 * n) 0) P.keys ∙ ap (λ (j : ℕ). get_or (set (set key (left_sides + 2 * n) l) (left_sides + 2 * n + 1) r) j 0) g
      ∙ get_or-set_same (set key (left_sides + 2 * n) l) (left_sides + 2 * n + 1) r 0 (rw (length-set key (left_sides + 2 * n) l) (omega (arith, L.header.size)))

  flag-old : (i : ℕ) → i < n → get_or b₂ (relations_at + i) 0 ≡ get_or b (relations_at + i) 0
  flag-old i g = get_or-set_other b₁ (relations_at + n) (relations_at + i) c 0 (omega arith) ∙ P.rest (relations_at + i) (omega arith)

  flag-new : get_or b₂ (relations_at + n) 0 ≡ c
  flag-new = get_or-set_same b₁ (relations_at + n) c 0 (omega (arith, sized))

  pub pushed-facts : facts_in key' b₂ (n + 1) ≡ facts_in key b n ++ (fact_of (eqb c 1) l r ∷ [])
  pushed-facts =
      listed_more (fact_at key' b₂) n
      ∙ ap₂ (λ (fs : List Fact) (f : Fact). fs ++ (f ∷ [])) (listed_same _ _ n (λ i g. rw (pushed-keys (left_sides + 2 * i) (omega arith) (omega arith), pushed-keys (right_sides + 2 * i) (omega arith) (omega arith), flag-old i g)))
      (rw (left, right, flag-new))

  pub pushed-linked : Linked key' b₂ (n + 1)
  pushed-linked =
      record {
        header = subst Header (sym P.keys) (header-set (set key (left_sides + 2 * n) l) (left_sides + 2 * n + 1) r (header-set key (left_sides + 2 * n) l L.header (omega arith)) (omega arith));
        size = length-set b₁ (relations_at + n) c ∙ sized;
        fit = omega arith;
        decides =
            let g : left_sides + 2 * n + 2 ≡ left_sides + 2 * (n + 1) = omega arith in
            subst (λ (fs : List Fact). Decides fs key' b₂ (left_sides + 2 * (n + 1))) (ap (λ (x : Bool). facts_in key b n ++ (fact_of x l r ∷ [])) (sym e) ∙ sym pushed-facts)
            (decides-same b₁ b₂ (λ i s. get_or-set_other b₁ (relations_at + n) i c 0 (omega arith))
            (subst (λ (m : ℕ). Decides (facts_in key b n ++ (fact_of d l r ∷ [])) key' b₁ m) g (P.labels (facts_in key b n) L.decides)));
      }

  pub pushed-rest : (j : ℕ) → relations_at + n < j → get_or b₂ j 0 ≡ get_or b j 0
  pushed-rest j g = get_or-set_other b₁ (relations_at + n) j c 0 (omega arith) ∙ P.rest j (omega arith)
