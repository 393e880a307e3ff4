-- Facts moved with their labels, one after the other.
use mathlib.Core.Path.{◌≡◌, refl, sym, ap, ap₂, ◌∙◌, subst}
use mathlib.Core.Bool.{Bool, true, false, cond, ◌||◌}
use mathlib.Core.List.{List, [], ◌∷◌, ◌++◌, append-nil}
use mathlib.Core.Option.{none, some}
use mathlib.Core.Logic.{◌⊎◌, inl, inr}
use Prim.Native.Nat.{ℕ, ◌+◌, ◌*◌, ◌≤◌, ◌<◌}
use native.Mathlib.Omega.{arith}
use lib.Dec.{eqb, ltb}
use lib.ListN.{length, get_or, set, length-set}
use lib.Seq.{get_or-set_same, get_or-set_other}
use borrow.Author.Tests.{ltb-true, ltb-false}
use Rattle.rules.specs.Limits.{most_facts}
use Rattle.rules.specs.State.{Fact, Renaming, rename_facts}
use Rattle.rules.proofs.Lists.{decide_eq}
use Rattle.check_equality.specs.Layout.{slots, bytes, left_sides, right_sides, relations_at, variables_at, fact_count, entry_count}
use Rattle.check_equality.specs.Links.{Header, fact_of, term_at}
use Rattle.check_equality.proofs.Listing.{listed_more, listed_same}
use Rattle.check_equality.proofs.Labels.{header-set}
use Rattle.check_state.specs.States.{facts, entries, fact_at, facts_in}
use Rattle.check_state.proofs.Writing.{kinds-same, counted, counted-other}
use Rattle.check_inequality.proofs.Searches.{or-none-left, or-none-right}
use Rattle.check_scans.specs.Scans.{same_sides, Untouched}
use Rattle.check_labels.specs.Facts.{Stands, Rebuilt}
use Rattle.check_labels.specs.Labels.{lone_of, LabelsBelow, Relabelled, MovesFact, moved_sides, moved_bytes, Keeps}
use Rattle.check_labels.proofs.Rebuilding.{facts-as, facts-next}
use Rattle.check_labels.proofs.KeptLabels.{Source, kept-decides, header, side}

-- i facts are looked at, and n stay
pub record Packing (key₀ b₀ : List ℕ) (gone : List Bool) (i n : ℕ) (key b : List ℕ) : Type 0 where
  pub few : n ≤ i
  pub header : Header key
  pub size : length b ≡ bytes
  pub source : (j : ℕ) → j < left_sides + 2 * n → Source key₀ b₀ gone i key b j
  pub facts :
      (ρ : Renaming) (old : List ℕ) → Stands ρ old key₀ gone (facts b₀) → facts_in key b n ≡ rename_facts ρ (facts_in old b₀ i)
  pub keys : (j : ℕ) → left_sides + 2 * i ≤ j → get_or key j 0 ≡ get_or key₀ j 0
  pub labels : (j : ℕ) → left_sides + 2 * i ≤ j → j < slots → get_or b j 0 ≡ get_or b₀ j 0
  pub rest : (j : ℕ) → relations_at + i ≤ j → get_or b j 0 ≡ get_or b₀ j 0

pub packing-first :
    (key b : List ℕ) (gone : List Bool) (x i : ℕ) → Keeps key b gone x → Untouched key b gone i → Packing key b gone i i key b
packing-first key b gone x i K U =
    record {
      few = omega arith;
      header = K.header;
      size = K.wf.linked.size;
      source = λ j h. at j h (ltb j left_sides) refl;
      facts = λ ρ old S. facts-as key b old ρ i U.plain (λ j a h. S j a (omega (arith, U.most)) ∙ ap (λ (c : Bool). cond c none (some (term_at key j))) (U.flags j a h));
      keys = λ j h. refl;
      labels = λ j h g. refl;
      rest = λ j h. refl;
    }
  where
    at : (j : ℕ) → j < left_sides + 2 * i → (c : Bool) → ltb j left_sides ≡ c → Source key b gone i key b j
    at j h true e = record { place = j; within = h; key-is = refl; label_is = refl; origin = header refl (ltb-true j left_sides e) }
    at j h false e =
        let g : left_sides ≤ j = ltb-false j left_sides e in
        record { place = j; within = h; key-is = refl; label_is = refl; origin = side g g (U.flags j g h) }

-- ONE FACT MORE
module _ (key₀ b₀ : List ℕ) (gone : List Bool) (i n : ℕ) (key b : List ℕ) (P : Packing key₀ b₀ gone i n key b) (h : i < facts b₀) (fit : facts b₀ ≤ most_facts)
    (c l r : ℕ) (t : Bool) (et : t ≡ same_sides c l r) (el : l ≡ get_or key (left_sides + 2 * i) 0) (er : r ≡ get_or key (right_sides + 2 * i) 0)
    (ec : c ≡ get_or b (relations_at + i) 0) where
  abbrev out : Bool
  out = (get_or gone (left_sides + 2 * i) false || get_or gone (right_sides + 2 * i) false) || t

  widen : (j : ℕ) → Source key₀ b₀ gone i key b j → Source key₀ b₀ gone (i + 1) key b j
  widen j s = record { place = s.place; within = omega (arith, s.within); key-is = s.key-is; label_is = s.label_is; origin = s.origin }

  next :
      (ρ : Renaming) (old : List ℕ) → Stands ρ old key₀ gone (facts b₀) → (fs : List Fact) →
      fs ≡ facts_in key b n ++ cond out [] (fact_of (eqb c 1) l r ∷ []) → fs ≡ rename_facts ρ (facts_in old b₀ (i + 1))
  next ρ old S fs e =
      facts-next ρ old key₀ b₀ gone (facts b₀) i S h (facts_in key b n) fs c l r t e et (el ∙ P.keys (left_sides + 2 * i) (omega arith)) (er ∙ P.keys (right_sides + 2 * i) (omega arith))
      (ec ∙ P.rest (relations_at + i) (omega arith)) (P.facts ρ old S)

  pub packing-out : out ≡ true → Packing key₀ b₀ gone (i + 1) n key b
  packing-out e =
      record {
        few = omega (arith, P.few);
        header = P.header;
        size = P.size;
        source = λ j g. widen j (P.source j g);
        facts = λ ρ old S. next ρ old S (facts_in key b n) (sym (append-nil (facts_in key b n)) ∙ ap (λ (d : Bool). facts_in key b n ++ cond d [] (fact_of (eqb c 1) l r ∷ [])) (sym e));
        keys = λ j g. P.keys j (omega arith);
        labels = λ j g s. P.labels j (omega arith) s;
        rest = λ j g. P.rest j (omega arith);
      }

  -- lists of which two slots are set
  sides-other : (a : List ℕ) (j : ℕ) → (j ≡ left_sides + 2 * n → ⊥) → (j ≡ right_sides + 2 * n → ⊥) → get_or (moved_sides a n i) j 0 ≡ get_or a j 0
  sides-other a j p q =
      get_or-set_other (set a (left_sides + 2 * n) (get_or a (left_sides + 2 * i) 0)) (right_sides + 2 * n) j (get_or a (right_sides + 2 * i) 0) 0 q
      ∙ get_or-set_other a (left_sides + 2 * n) j (get_or a (left_sides + 2 * i) 0) 0 p

  sides-left : (a : List ℕ) → slots ≤ length a → get_or (moved_sides a n i) (left_sides + 2 * n) 0 ≡ get_or a (left_sides + 2 * i) 0
  sides-left a g =
      get_or-set_other (set a (left_sides + 2 * n) (get_or a (left_sides + 2 * i) 0)) (right_sides + 2 * n) (left_sides + 2 * n) (get_or a (right_sides + 2 * i) 0) 0 (omega arith)
      ∙ get_or-set_same a (left_sides + 2 * n) (get_or a (left_sides + 2 * i) 0) 0 (omega (arith, P.few))

  sides-right : (a : List ℕ) → slots ≤ length a → get_or (moved_sides a n i) (right_sides + 2 * n) 0 ≡ get_or a (right_sides + 2 * i) 0
  sides-right a g =
      get_or-set_same (set a (left_sides + 2 * n) (get_or a (left_sides + 2 * i) 0)) (right_sides + 2 * n) (get_or a (right_sides + 2 * i) 0) 0
      (rw (length-set a (left_sides + 2 * n) (get_or a (left_sides + 2 * i) 0)) (omega (arith, P.few)))

  sides-size : (a : List ℕ) → length (moved_sides a n i) ≡ length a
  sides-size a =
      length-set (set a (left_sides + 2 * n) (get_or a (left_sides + 2 * i) 0)) (right_sides + 2 * n) (get_or a (right_sides + 2 * i) 0)
      ∙ length-set a (left_sides + 2 * n) (get_or a (left_sides + 2 * i) 0)

  abbrev key₂ : List ℕ
  key₂ = moved_sides key n i

  abbrev b₂ : List ℕ
  b₂ = moved_bytes b n i

  bytes-other : (j : ℕ) → (j ≡ relations_at + n → ⊥) → get_or b₂ j 0 ≡ get_or (moved_sides b n i) j 0
  bytes-other j d = get_or-set_other (moved_sides b n i) (relations_at + n) j (get_or b (relations_at + i) 0) 0 d

  relation-new : get_or b₂ (relations_at + n) 0 ≡ get_or b (relations_at + i) 0
  relation-new =
      get_or-set_same (moved_sides b n i) (relations_at + n) (get_or b (relations_at + i) 0) 0 (rw (sides-size b) (omega (arith, P.few, P.size)))

  key-long : slots ≤ length key
  key-long = omega (arith, P.header.size)

  b-long : slots ≤ length b
  b-long = omega (arith, P.size)

  facts-moved : facts_in key₂ b₂ (n + 1) ≡ facts_in key b n ++ (fact_of (eqb c 1) l r ∷ [])
  facts-moved =
      listed_more (fact_at key₂ b₂) n
      ∙ ap₂ (λ (fs : List Fact) (f : Fact). fs ++ (f ∷ []))
      (listed_same _ _ n
      (λ j g.
      rw (
        sides-other key (left_sides + 2 * j) (omega arith) (omega arith),
        sides-other key (right_sides + 2 * j) (omega arith) (omega arith),
        bytes-other (relations_at + j) (omega arith),
        sides-other b (relations_at + j) (omega (arith, P.few)) (omega (arith, P.few)),
      )))
      (rw (sides-left key key-long, sides-right key key-long, relation-new, el, er, ec))

  flags-none : out ≡ false → (get_or gone (left_sides + 2 * i) false ≡ false) × (get_or gone (right_sides + 2 * i) false ≡ false)
  flags-none e =
      let d = or-none-left (get_or gone (left_sides + 2 * i) false || get_or gone (right_sides + 2 * i) false) t e in
      (or-none-left (get_or gone (left_sides + 2 * i) false) (get_or gone (right_sides + 2 * i) false) d, or-none-right (get_or gone (left_sides + 2 * i) false) (get_or gone (right_sides + 2 * i) false) d)

  moved-source : out ≡ false → (j : ℕ) → j < left_sides + 2 * (n + 1) → Source key₀ b₀ gone (i + 1) key₂ b₂ j
  moved-source e j g = go (decide_eq j (left_sides + 2 * n)) (decide_eq j (right_sides + 2 * n))
    where
      go :
          (j ≡ left_sides + 2 * n) ⊎ (j ≡ left_sides + 2 * n → ⊥) → (j ≡ right_sides + 2 * n) ⊎ (j ≡ right_sides + 2 * n → ⊥) →
          Source key₀ b₀ gone (i + 1) key₂ b₂ j
      go (inl d) q =
          record {
            place = left_sides + 2 * i;
            within = omega arith;
            key-is = rw d (sides-left key key-long ∙ P.keys (left_sides + 2 * i) (omega arith));
            label_is = rw d (bytes-other (left_sides + 2 * n) (omega (arith, P.few)) ∙ sides-left b b-long ∙ P.labels (left_sides + 2 * i) (omega arith) (omega arith));
            origin = side (omega arith) (omega arith) (flags-none e).0;
          }
      go (inr p) (inl d) =
          record {
            place = right_sides + 2 * i;
            within = omega arith;
            key-is = rw d (sides-right key key-long ∙ P.keys (right_sides + 2 * i) (omega arith));
            label_is = rw d (bytes-other (right_sides + 2 * n) (omega (arith, P.few)) ∙ sides-right b b-long ∙ P.labels (right_sides + 2 * i) (omega arith) (omega arith));
            origin = side (omega arith) (omega arith) (flags-none e).1;
          }
      go (inr p) (inr q) =
          let s = widen j (P.source j (omega arith)) in
          record {
            place = s.place;
            within = s.within;
            key-is = sides-other key j p q ∙ s.key-is;
            label_is = bytes-other j (omega (arith, P.few)) ∙ sides-other b j p q ∙ s.label_is;
            origin = s.origin;
          }

  pub packing-moved : out ≡ false → Packing key₀ b₀ gone (i + 1) (n + 1) key₂ b₂
  packing-moved e =
      record {
        few = omega (arith, P.few);
        header = header-set (set key (left_sides + 2 * n) (get_or key (left_sides + 2 * i) 0)) (right_sides + 2 * n) (get_or key (right_sides + 2 * i) 0) (header-set key (left_sides + 2 * n) (get_or key (left_sides + 2 * i) 0) P.header (omega arith)) (omega arith);
        size = length-set (moved_sides b n i) (relations_at + n) (get_or b (relations_at + i) 0) ∙ sides-size b ∙ P.size;
        source = moved-source e;
        facts = λ ρ old S. next ρ old S (facts_in key₂ b₂ (n + 1)) (facts-moved ∙ ap (λ (d : Bool). facts_in key b n ++ cond d [] (fact_of (eqb c 1) l r ∷ [])) (sym e));
        keys = λ j g. sides-other key j (omega (arith, P.few)) (omega (arith, P.few)) ∙ P.keys j (omega arith);
        labels = λ j g s. bytes-other j (omega arith) ∙ sides-other b j (omega (arith, P.few)) (omega (arith, P.few)) ∙ P.labels j (omega arith) s;
        rest = λ j g. bytes-other j (omega (arith, P.few)) ∙ sides-other b j (omega (arith, P.few)) (omega (arith, P.few)) ∙ P.rest j (omega arith);
      }

  pub packing-more :
      (key' b' : List ℕ) (n' : ℕ) → MovesFact key b n out i key' b' n' → Packing key₀ b₀ gone (i + 1) n' key' b'
  packing-more key' b' n' M = go out refl
    where
      go : (d : Bool) → out ≡ d → Packing key₀ b₀ gone (i + 1) n' key' b'
      go true e = let (p, q, r) = M.gone e in rw (p, q, r) (packing-out e)
      go false e = let (p, q, r) = M.moved e in rw (p, q, r) (packing-moved e)

-- ALL OF THEM: the count of facts is written, and the labels are kept
module _ (key₀ b₀ : List ℕ) (gone : List Bool) (x i n : ℕ) (key b : List ℕ) (K : Keeps key₀ b₀ gone x) (all : i ≡ facts b₀) (P₀ : Packing key₀ b₀ gone i n key b) where
  P : Packing key₀ b₀ gone (facts b₀) n key b
  P = subst (λ (j : ℕ). Packing key₀ b₀ gone j n key b) all P₀

  abbrev b₁ : List ℕ
  b₁ = set b fact_count n

  fit : n ≤ most_facts
  fit = omega (arith, P.few, K.wf.linked.fit)

  label_at : (j : ℕ) → j < slots → get_or b₁ j 0 ≡ get_or b j 0
  label_at j h = counted-other b n P.size j (omega arith)

  counted-source : (j : ℕ) → j < left_sides + 2 * n → Source key₀ b₀ gone (facts b₀) key b₁ j
  counted-source j h =
      let s = P.source j h in
      record { place = s.place; within = s.within; key-is = s.key-is; label_is = label_at j (omega (arith, fit)) ∙ s.label_is; origin = s.origin }

  pub labels-below : LabelsBelow b₁ (left_sides + 2 * n)
  labels-below =
      record {
        size = length-set b fact_count n ∙ P.size;
        low = λ j h. let s = counted-source j h in omega (arith, s.label_is, K.wf.linked.decides.low s.place s.within, K.wf.linked.fit);
      }

  module _ (b₂ : List ℕ) (R : Relabelled b₁ (left_sides + 2 * n) (lone_of x) b₂) where
    far : (i : ℕ) → relations_at ≤ i → (i ≡ fact_count → ⊥) → get_or b₂ i 0 ≡ get_or b i 0
    far i g d = R.rest i (omega (arith, fit)) ∙ counted-other b n P.size i d

    rest : (i : ℕ) → variables_at ≤ i → (i ≡ fact_count → ⊥) → get_or b₂ i 0 ≡ get_or b₀ i 0
    rest i g d = far i (omega arith) d ∙ P.rest i (omega (arith, K.wf.linked.fit))

    count : facts b₂ ≡ n
    count = R.rest fact_count (omega (arith, fit)) ∙ counted b n P.size

    facts-are : facts_in key b₂ n ≡ facts_in key b n
    facts-are = listed_same _ _ n (λ i h. rw (far (relations_at + i) (omega arith) (omega (arith, fit))))

    pub repacked : Rebuilt key₀ b₀ gone key b₂
    repacked =
        record {
          wf = record {
            linked = rw count (record {
              header = P.header;
              size = R.size ∙ length-set b fact_count n ∙ P.size;
              fit = fit;
              decides = kept-decides key₀ b₀ gone x K key b₁ b₂ n fit P.header counted-source R (facts-are ∙ P.facts K.way K.old K.stands);
            });
            fit = omega (arith, rest entry_count (omega arith) (omega arith), K.wf.fit);
            kinds = kinds-same b₀ b₂ (entries b₀) (entries b₂) (rest entry_count (omega arith) (omega arith)) (λ i g. rest i (omega arith) (omega arith)) K.wf.kinds;
          };
          facts = λ ρ old S. rw count (facts-are ∙ P.facts ρ old S);
          rest = rest;
        }
