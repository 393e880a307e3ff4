-- Giving way: what becomes of the sides that are dropped.
use mathlib.Core.Path.{◌≡◌, refl, sym, ap, ◌∙◌}
use mathlib.Core.Bool.{Bool, true, false, cond, ◌&&◌}
use mathlib.Core.List.{List}
use mathlib.Core.Option.{Option, none, some}
use mathlib.Core.Logic.{◌⊎◌}
use Prim.Native.Nat.{ℕ, ◌+◌, ◌*◌, ◌≤◌, ◌<◌}
use native.Mathlib.Omega.{arith}
use native.Mathlib.Decide.{dec_lt}
use lib.ListN.{length, get_or, set, replicate, length-set, get_or-replicate, get_or-eq_default, length-replicate}
use lib.Seq.{get_or-set_same, get_or-set_other}
use Rattle.rules.specs.Base.{first}
use Rattle.rules.specs.Syntax.{same}
use Rattle.rules.specs.State as Rules
use Rattle.rules.specs.State.{Term, Permission, Renaming, representative, equal_by, equal_in, in_order, is_left, gives_way, becomes}
use Rattle.check_equality.specs.Layout.{slots, left_sides}
use Rattle.check_equality.specs.Keys.{term_of}
use Rattle.check_equality.specs.Links.{Header, term_at}
use Rattle.check_equality.proofs.Labels.{header-set}
use Rattle.check_state.specs.States.{Wf, facts, facts_of, state_of}
use Rattle.check_successors.specs.Successors.{Drops}
use Rattle.check_labels.specs.Facts.{Stands, Rebuilt, become_of}
use Rattle.check_dropping.specs.Dropping.{Stored, Lead, Giving, SideGiven, GaveWay, Forgotten, successor_at, given_at}

-- WHAT BECOMES OF A TERM
-- one that is dropped or left
pub gave : (s : Rules.State) (ρ : Renaming) (ps : List Permission) (t : Term) (g : Bool) → ρ t ≡ cond g none (some t) → becomes s ρ ps t ≡ cond g (Rules.successor (equal_in s) ρ ps s.facts t) (some t)
unfolding becomes gives_way
gave s ρ ps t g e = go (ρ t) g e
  where
    go : (o : Option Term) (g : Bool) → o ≡ cond g none (some t) → elim o [ none ↦ Rules.successor (equal_in s) ρ ps s.facts t | some u ↦ some u ] ≡ cond g (Rules.successor (equal_in s) ρ ps s.facts t) (some t)
    go o true e = rw e
    go o false e = rw e

-- one that is renamed
pub named : (s : Rules.State) (ρ : Renaming) (ps : List Permission) (t u : Term) → ρ t ≡ some u → becomes s ρ ps t ≡ some u
unfolding becomes gives_way
named s ρ ps t u e = go (ρ t) e
  where
    go : (o : Option Term) → o ≡ some u → elim o [ none ↦ Rules.successor (equal_in s) ρ ps s.facts t | some u ↦ some u ] ≡ some u
    go o e = rw e

-- STORED
module _ (key : List ℕ) (gone : List Bool) (j : ℕ) (a : left_sides ≤ j) (h : j < slots) (H : Header key) (l : length gone ≡ slots) where
  pub stored-none : Stored j none key gone key (set gone j true)
  stored-none =
      record {
        header = H;
        size = length-set gone j true ∙ l;
        here = rw (get_or-set_same gone j true false (omega arith));
        keys = λ i d. refl;
        flags = λ i d. get_or-set_other gone j i true false d;
      }

  pub stored-key : (k : ℕ) → Stored j (some (term_of k)) key gone (set key j k) (set gone j false)
  stored-key k =
      record {
        header = header-set key j k H a;
        size = length-set gone j false ∙ l;
        here = rw (get_or-set_same gone j false false (omega arith), get_or-set_same key j k 0 (omega (arith, H.size)));
        keys = λ i d. get_or-set_other key j i k 0 d;
        flags = λ i d. get_or-set_other gone j i false false d;
      }

-- TERMS THAT ARE ~ HAVE ONE SUCCESSOR
alike-successor :
    (old b : List ℕ) → Wf old b → (i j : ℕ) → i < left_sides + 2 * facts b → j < left_sides + 2 * facts b → get_or b i 0 ≡ get_or b j 0 →
    (ρ : Renaming) (ps : List Permission) → successor_at old b ρ ps i ≡ successor_at old b ρ ps j
unfolding Rules.successor equal_in equal_by
alike-successor old b w i j h g e ρ ps =
    ap (λ (z : Term). first (λ u. is_left ρ u && same (representative (facts_of old b) u) z) (in_order ps (facts_of old b))) (w.linked.decides.sound i j h g e)

-- ONE SIDE
module _ (old b : List ℕ) (skip : List Bool) (x j : ℕ) (key : List ℕ) (gone : List Bool) (lead : List ℕ) (G : Giving old b skip x j key gone lead) where
  -- a lead stays one where other sides stay
  lead-on :
      (key' : List ℕ) (gone' : List Bool) → ((i : ℕ) → (i ≡ j → ⊥) → get_or key' i 0 ≡ get_or key i 0) →
      ((i : ℕ) → (i ≡ j → ⊥) → get_or gone' i false ≡ get_or gone i false) → (a : ℕ) → (get_or lead a 0 ≡ 0 → ⊥) → Lead old b skip x (j + 1) key' gone' a (get_or lead a 0)
  lead-on key' gone' ks fs a n =
      let L = G.leads a n in
      record {
        within = omega (arith, L.within);
        label = L.label;
        is = λ ρ ps W. rw (ks (get_or lead a 0) (omega (arith, L.within)), fs (get_or lead a 0) (omega (arith, L.within))) (L.is ρ ps W);
      }

  module _ (w : Wf old b) (h : j < left_sides + 2 * facts b) (d : get_or gone j false ≡ true) where
    -- one of its label has given way
    module _ (g : left_sides ≤ j) (n : get_or lead (get_or b j 0) 0 ≡ 0 → ⊥) where
      abbrev i : ℕ
      i = get_or lead (get_or b j 0) 0

      abbrev key₁ : List ℕ
      key₁ = set key j (get_or key i 0)

      abbrev gone₁ : List Bool
      gone₁ = set gone j (get_or gone i false)

      ks : (c : ℕ) → (c ≡ j → ⊥) → get_or key₁ c 0 ≡ get_or key c 0
      ks c q = get_or-set_other key j c (get_or key i 0) 0 q

      fs : (c : ℕ) → (c ≡ j → ⊥) → get_or gone₁ c false ≡ get_or gone c false
      fs c q = get_or-set_other gone j c (get_or gone i false) false q

      pub side-copied : SideGiven old b skip x j key gone key₁ gone₁ lead
      side-copied =
          let L = G.leads (get_or b j 0) n in
          record {
            next = record {
              header = header-set key j (get_or key i 0) G.header g;
              size = length-set gone j (get_or gone i false) ∙ G.size;
              leads_size = G.leads_size;
              leads = lead-on key₁ gone₁ ks fs;
            };
            here =
                λ ρ ps W.
                rw (
                  get_or-set_same gone j (get_or gone i false) false (omega (arith, G.size, w.linked.fit)),
                  get_or-set_same key j (get_or key i 0) 0 (omega (arith, G.header.size, w.linked.fit)),
                  d,
                )
                (L.is ρ ps W ∙ alike-successor old b w i j (omega (arith, L.within)) h L.label ρ ps);
            keys = ks;
            flags = fs;
          }

-- EACH SIDE: those before slot i have, the others are as they were, and so are those of the facts before `from`
pub record Given (old b : List ℕ) (skip : List Bool) (x : ℕ) (gone₀ : List Bool) (from i : ℕ) (key : List ℕ) (gone : List Bool) : Type 0 where
  pub done :
      (ρ : Renaming) (ps : List Permission) → Drops ρ ps b skip x → (j : ℕ) → left_sides ≤ j → j < i → become_of key gone j ≡ given_at old b ρ ps gone₀ j
  pub keys : (j : ℕ) → (j < left_sides + 2 * from) ⊎ (i ≤ j) → get_or key j 0 ≡ get_or old j 0
  pub flags : (j : ℕ) → (j < left_sides + 2 * from) ⊎ (i ≤ j) → get_or gone j false ≡ get_or gone₀ j false

no_lead : (z n i : ℕ) → get_or (replicate n z) i z ≡ z
no_lead z n i = go (dec_lt i n)
  where
    go : Dec (i < n) → get_or (replicate n z) i z ≡ z
    go (yes h) = get_or-replicate n i z z h
    go (no h) = get_or-eq_default (replicate n z) z {n = i} (rw (length-replicate n z) (omega (arith, h)))

pub giving-first : (old b : List ℕ) (skip : List Bool) (x i : ℕ) (gone : List Bool) → Header old → length gone ≡ slots → Giving old b skip x i old gone (replicate slots 0)
giving-first old b skip x i gone H l =
    record { header = H; size = l; leads_size = length-replicate {A = ℕ} slots 0; leads = λ a n. absurd (n (no_lead 0 slots a)) }

pub given-first :
    (old b : List ℕ) (skip : List Bool) (x : ℕ) (gone : List Bool) (from : ℕ) →
    ((j : ℕ) → left_sides ≤ j → j < left_sides + 2 * from → get_or gone j false ≡ false) → Given old b skip x gone from (left_sides + 2 * from) old gone
given-first old b skip x gone from free = record { done = λ ρ ps W j a h. rw (free j a h); keys = λ j h. refl; flags = λ j h. refl }

-- THE FACTS THEN
-- what becomes of the sides
pub gave-sides :
    (key b : List ℕ) (skip : List Bool) (x : ℕ) (gone : List Bool) (from : ℕ) (key₁ : List ℕ) (gone₁ : List Bool) → GaveWay key b skip x gone from key₁ gone₁ →
    (ρ : Renaming) (ps : List Permission) → Drops ρ ps b skip x → Stands ρ key key gone (facts b) → Stands (becomes (state_of key b) ρ ps) key key₁ gone₁ (facts b)
gave-sides key b skip x gone from key₁ gone₁ G ρ ps W S j a h =
    gave (state_of key b) ρ ps (term_at key j) (get_or gone j false) (S j a h) ∙ sym (G.at ρ ps W j a h)

pub gave-way :
    (key b : List ℕ) (skip : List Bool) (x : ℕ) (gone : List Bool) (from : ℕ) (key₁ key' b' : List ℕ) (gone₁ : List Bool) →
    GaveWay key b skip x gone from key₁ gone₁ → Rebuilt key₁ b gone₁ key' b' → Forgotten key b skip x gone key' b'
gave-way key b skip x gone from key₁ key' b' gone₁ G R =
    record {
      wf = R.wf;
      facts = λ ρ ps W S. R.facts (becomes (state_of key b) ρ ps) key (gave-sides key b skip x gone from key₁ gone₁ G ρ ps W S);
      rest = R.rest;
    }
