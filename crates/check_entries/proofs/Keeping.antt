-- Entries of which some are out.
use mathlib.Core.Path.{◌≡◌, refl, sym, ap, ap₂, ◌∙◌, subst}
use mathlib.Core.Bool.{Bool, true, false, cond, not, ◌&&◌, ◌||◌}
use mathlib.Core.List.{List, [], ◌∷◌, ◌++◌}
use mathlib.Core.Option.{Option, none, some}
use mathlib.Core.Logic.{◌⊎◌, inl, inr, ⊎_elim}
use Prim.Native.Nat.{ℕ, zero, suc, ◌+◌, ◌≤◌, ◌<◌}
use native.Mathlib.Omega.{arith}
use native.Mathlib.Numerals.{add-one}
use lib.ListN.{length, get_or, set, length-set}
use lib.Seq.{get_or-set_same, get_or-set_other}
use Rattle.rules.specs.Base.{any, map_option}
use Rattle.rules.specs.Limits.{most_permissions}
use Rattle.rules.specs.State.{Permission, entry}
use Rattle.rules.proofs.Lists.{decide_eq}
use Rattle.check_equality.specs.Listing.{listed}
use Rattle.check_equality.specs.Layout.{variables_at, fields_at, fact_count, entry_count, kinds_at, bytes}
use Rattle.check_equality.proofs.Listing.{listed_more, listed_same, any_append, map-append}
use Rattle.check_state.specs.States.{entries, variable_at, field_at, permit_of, permission_at, permissions_in, kind_at, IsKind, KindsIn}
use Rattle.check_state.specs.Questions.{FirstPlace}
use Rattle.check_state.proofs.Writing.{entry-same, entries-same}
use Rattle.check_equality.specs.Links.{picked}
use Rattle.check_entries.specs.Entries.{kept, RenamedEntries, SameEntry, KeepsEntry, Packed}

module _ {A : Type 0} where
  pub kept_more : (out : List Bool) (f : ℕ → A) (n : ℕ) → kept out f (n + 1) ≡ kept out f n ++ cond (get_or out n false) [] (f n ∷ [])
  unfolding kept
  kept_more out f n = rw add-one

  -- the same flags, the same elements
  pub kept_same :
      (out out' : List Bool) (f g : ℕ → A) (n : ℕ) → ((i : ℕ) → i < n → get_or out i false ≡ get_or out' i false) →
      ((i : ℕ) → i < n → f i ≡ g i) → kept out f n ≡ kept out' g n
  unfolding kept
  kept_same out out' f g zero h e = refl
  kept_same out out' f g (suc n) h e =
      ap₂ (λ (a b : List A). a ++ b) (kept_same out out' f g n (λ i k. h i (omega arith)) (λ i k. e i (omega arith)))
      (ap₂ (λ (c : Bool) (a : A). cond c [] (a ∷ [])) (h n (omega arith)) (e n (omega arith)))

  -- none is out
  pub kept-all : (out : List Bool) (f : ℕ → A) (n : ℕ) → ((i : ℕ) → i < n → get_or out i false ≡ false) → kept out f n ≡ listed f n
  unfolding kept listed
  kept-all out f zero h = refl
  kept-all out f (suc n) h =
      ap₂ (λ (l : List A) (c : Bool). l ++ cond c [] (f n ∷ [])) (kept-all out f n (λ i k. h i (omega arith))) (h n (omega arith))

  -- some element that is not out
  pub kept_any : (q : A → Bool) (out : List Bool) (f : ℕ → A) (n : ℕ) → any q (kept out f n) ≡ any (λ i. not (get_or out i false) && q (f i)) (listed (λ i. i) n)
  unfolding kept listed any
  kept_any q out f zero = refl
  kept_any q out f (suc n) =
      any_append q (kept out f n) (cond (get_or out n false) [] (f n ∷ []))
      ∙ ap₂ (λ (a b : Bool). a || b) (kept_any q out f n) (one (get_or out n false))
      ∙ sym (any_append (λ i. not (get_or out i false) && q (f i)) (listed (λ i. i) n) (n ∷ []))
    where
      one : (c : Bool) → any q (cond c [] (f n ∷ [])) ≡ ((not c && q (f n)) || false)
      one true = refl
      one false = refl

pub kept_map :
    {A B : Type 0} (g : A → Option B) (out : List Bool) (f : ℕ → A) (h : ℕ → B) (n : ℕ) →
    ((i : ℕ) → i < n → g (f i) ≡ cond (get_or out i false) none (some (h i))) → map_option g (listed f n) ≡ kept out h n
unfolding kept listed map_option
kept_map g out f h zero e = refl
kept_map {B = B} g out f h (suc n) e =
    map-append g (listed f n) (f n ∷ [])
    ∙ ap₂ (λ (a b : List B). a ++ b) (kept_map g out f h n (λ i k. e i (omega arith))) (one (g (f n)) (get_or out n false) (e n (omega arith)))
  where
    one : (o : Option B) (c : Bool) → o ≡ cond c none (some (h n)) → elim o [ none ↦ [] | some b ↦ b ∷ [] ] ≡ cond c [] (h n ∷ [])
    one o true d = rw d
    one o false d = rw d

-- FLAGS
-- ONE MORE ENTRY RENAMED
pub renamed-more :
    (x to : ℕ) (b₀ : List ℕ) (i : ℕ) (b : List ℕ) (v : ℕ) → i < most_permissions → RenamedEntries x to b₀ i b → v ≡ picked x to (variable_at b i) →
    RenamedEntries x to b₀ (i + 1) (set b (variables_at + i) v)
renamed-more x to b₀ i b v h R e =
    record {
      size = length-set b (variables_at + i) v ∙ R.size;
      variables = λ j g. ⊎_elim (λ d. rw d here) (λ d. other (variables_at + j) (omega arith) ∙ R.variables j (omega arith)) (decide_eq j i);
      rest = λ j g. ⊎_elim (λ p. other j (omega arith) ∙ R.rest j (inl p)) (λ p. other j (omega arith) ∙ R.rest j (inr (omega arith))) g;
    }
  where
    other : (j : ℕ) → (j ≡ variables_at + i → ⊥) → get_or (set b (variables_at + i) v) j 0 ≡ get_or b j 0
    other j d = get_or-set_other b (variables_at + i) j v 0 d

    here : variable_at (set b (variables_at + i) v) i ≡ picked x to (variable_at b₀ i)
    here = get_or-set_same b (variables_at + i) v 0 (omega (arith, R.size)) ∙ e ∙ ap (picked x to) (R.rest (variables_at + i) (inr (omega arith)))

-- ONE MORE ENTRY
module _ (b : List ℕ) (n x f k : ℕ) (l : length b ≡ bytes) (h : n < most_permissions) where
  abbrev with-path : List ℕ
  with-path = set (set b (variables_at + n) x) (fields_at + n) f

  abbrev pub with-entry : List ℕ
  with-entry = set with-path (kinds_at + n) k

  path-size : length with-path ≡ bytes
  path-size = length-set (set b (variables_at + n) x) (fields_at + n) f ∙ length-set b (variables_at + n) x ∙ l

  pub entry-size : length with-entry ≡ bytes
  entry-size = length-set with-path (kinds_at + n) k ∙ path-size

  path-other : (j : ℕ) → (j ≡ variables_at + n → ⊥) → (j ≡ fields_at + n → ⊥) → get_or with-path j 0 ≡ get_or b j 0
  path-other j p q = get_or-set_other (set b (variables_at + n) x) (fields_at + n) j f 0 q ∙ get_or-set_other b (variables_at + n) j x 0 p

  pub entry_other : (j : ℕ) → (j ≡ variables_at + n → ⊥) → (j ≡ fields_at + n → ⊥) → (j ≡ kinds_at + n → ⊥) → get_or with-entry j 0 ≡ get_or b j 0
  entry_other j p q r = get_or-set_other with-path (kinds_at + n) j k 0 r ∙ path-other j p q

  kind-other : (j : ℕ) → (j ≡ n → ⊥) → kind_at with-entry j ≡ kind_at b j
  kind-other j d = get_or-set_other with-path (kinds_at + n) (kinds_at + j) k 0 (omega arith) ∙ path-other (kinds_at + j) (omega arith) (omega arith)

  entry_at : (j : ℕ) → j < most_permissions → (j ≡ n → ⊥) → SameEntry b with-entry j
  entry_at j g d =
      record {
        permission = entry-same b with-entry j (kind-other j d) (entry_other (variables_at + j) (omega arith) (omega arith) (omega arith)) (entry_other (fields_at + j) (omega arith) (omega arith) (omega arith));
        kind = kind-other j d;
      }

  path-at : (j : ℕ) → j < kinds_at → get_or with-entry j 0 ≡ get_or with-path j 0
  path-at j g = get_or-set_other with-path (kinds_at + n) j k 0 (omega arith)

  variable-new : variable_at with-entry n ≡ x
  variable-new =
      path-at (variables_at + n) (omega arith) ∙ get_or-set_other (set b (variables_at + n) x) (fields_at + n) (variables_at + n) f 0 (omega arith)
      ∙ get_or-set_same b (variables_at + n) x 0 (omega arith)

  field-new : field_at with-entry n ≡ f
  field-new = path-at (fields_at + n) (omega arith) ∙ get_or-set_same (set b (variables_at + n) x) (fields_at + n) f 0 (rw (length-set b (variables_at + n) x) (omega arith))

  kind-new : kind_at with-entry n ≡ k
  kind-new = get_or-set_same with-path (kinds_at + n) k 0 (omega (arith, path-size))

  entry_new : permission_at with-entry n ≡ entry (permit_of k) x f
  entry_new = rw (kind-new, variable-new, field-new)

  pub entries-more : permissions_in with-entry (n + 1) ≡ permissions_in b n ++ (entry (permit_of k) x f ∷ [])
  entries-more =
      listed_more (permission_at with-entry) n
      ∙ ap₂ (λ (ps : List Permission) (p : Permission). ps ++ (p ∷ [])) (listed_same _ _ n (λ i g. (entry_at i (omega arith) (omega arith)).permission)) entry_new

  pub kinds-more : IsKind k → KindsIn b n → KindsIn with-entry (n + 1)
  kinds-more w ws i g =
      ⊎_elim (λ d. subst IsKind (sym (ap (kind_at with-entry) d ∙ kind-new)) w) (λ d. subst IsKind (sym (entry_at i (omega arith) d).kind) (ws i (omega arith)))
      (decide_eq i n)

  pub keeps_entry : KeepsEntry b n false x f k with-entry (n + 1)
  keeps_entry =
      record {
        few = omega arith;
        size = entry-size;
        kinds = kinds-more;
        entries = entries-more;
        later = λ j g s. entry_at j s (omega arith);
        rest = λ j g. ⊎_elim (λ p. entry_other j (omega arith) (omega arith) (omega arith)) (λ p. entry_other j (omega arith) (omega arith) (omega arith)) g;
      }

-- PACKED: the first i entries are, the others are as they were
pub record Packing (b₀ : List ℕ) (out : List Bool) (i : ℕ) (b : List ℕ) (n : ℕ) : Type 0 where
  pub few : n ≤ i
  pub size : length b ≡ bytes
  pub kinds : KindsIn b₀ i → KindsIn b n
  pub entries : permissions_in b n ≡ kept out (permission_at b₀) i
  pub later : (j : ℕ) → i ≤ j → j < most_permissions → SameEntry b₀ b j
  pub rest : (j : ℕ) → (j < variables_at) ⊎ (j ≡ fact_count) → get_or b j 0 ≡ get_or b₀ j 0

pub packing-first : (b : List ℕ) (out : List Bool) (n i : ℕ) → length b ≡ bytes → FirstPlace (λ j. get_or out j false) n i → Packing b out i b i
packing-first b out n i l F =
    record {
      few = omega arith;
      size = l;
      kinds = λ w. w;
      entries = sym (kept-all out (permission_at b) i F.before);
      later = λ j g s. record { permission = refl; kind = refl };
      rest = λ j g. refl;
    }

pub packing-more :
    (b₀ : List ℕ) (out : List Bool) (i : ℕ) (b : List ℕ) (n : ℕ) (b' : List ℕ) (n' : ℕ) → i < most_permissions → Packing b₀ out i b n →
    KeepsEntry b n (get_or out i false) (variable_at b i) (field_at b i) (kind_at b i) b' n' → Packing b₀ out (i + 1) b' n'
packing-more b₀ out i b n b' n' h P K =
    record {
      few = omega (arith, K.few, P.few);
      size = K.size;
      kinds = λ w. K.kinds (subst IsKind (sym (P.later i (omega arith) h).kind) (w i (omega arith))) (P.kinds (λ j g. w j (omega arith)));
      entries =
          K.entries
          ∙ ap₂ (λ (ps : List Permission) (p : Permission). ps ++ cond (get_or out i false) [] (p ∷ [])) P.entries (P.later i (omega arith) h).permission
          ∙ sym (kept_more out (permission_at b₀) i);
      later = λ j g s. let k = K.later j (omega (arith, P.few)) s in let p = P.later j (omega arith) s in record { permission = k.permission ∙ p.permission; kind = k.kind ∙ p.kind };
      rest = λ j g. K.rest j g ∙ P.rest j g;
    }

-- the count of entries is written
pub packed-at : (b₀ b : List ℕ) (out : List Bool) (n : ℕ) → entries b₀ ≤ most_permissions → Packing b₀ out (entries b₀) b n → Packed b₀ out (set b entry_count n)
packed-at b₀ b out n h P =
    record {
      size = length-set b entry_count n ∙ P.size;
      few = omega (arith, last, P.few);
      kinds = λ w i g. subst IsKind (sym (at (kinds_at + i) (omega arith))) (P.kinds w i (omega (arith, last)));
      entries = ap (permissions_in (set b entry_count n)) last ∙ listed_same _ _ n (entries-same b (set b entry_count n) n (omega (arith, P.few)) (λ i g s r. at i r)) ∙ P.entries;
      rest = λ i g. at i (⊎_elim (λ p q. omega arith) (λ p q. omega arith) g) ∙ P.rest i g;
    }
  where
    at : (i : ℕ) → (i ≡ entry_count → ⊥) → get_or (set b entry_count n) i 0 ≡ get_or b i 0
    at i g = get_or-set_other b entry_count i n 0 g

    last : entries (set b entry_count n) ≡ n
    last = get_or-set_same b entry_count n 0 (omega (arith, P.size))
