-- The first entry that gives way, and the list with what comes in its place.
use mathlib.Core.Path.{◌≡◌, refl, sym, ap, ◌∙◌}
use mathlib.Core.Bool.{Bool, true, false, cond, ◌&&◌}
use mathlib.Core.List.{List, [], ◌∷◌, ◌++◌, append_assoc, append-nil}
use mathlib.Core.Option.{Option, none, some}
use mathlib.Core.Logic.{⊎_elim}
use Prim.Native.Nat.{ℕ, zero, suc, ◌-◌, ◌≤◌, ◌<◌}
use native.Mathlib.Omega.{arith}
use lib.Dec.{eqb}
use borrow.Author.Tests.{lt-leb}
use lib.ListN.{length, get_or, set}
use lib.Seq.{get_or-set_same, get_or-set_other}
use Rattle.rules.specs.Base.{bind_option}
use Rattle.rules.specs.Syntax.{acc, read, chain, var}
use Rattle.rules.specs.State.{Term, Permission, Equality, Split, entry, entry_of, leaves, with_permit, giving, split, joining, joins}
use Rattle.rules.proofs.Lists.{decide_eq}
use Rattle.check_equality.specs.Layout.{read_kind, acc_kind, chain_kind}
use Rattle.check_state.specs.States.{variable_at, field_at, permit_of, IsKind}
use Rattle.check_state.specs.Questions.{FirstPlace, entry_test, passes, in_range}
use Rattle.check_entries.specs.Entries.{entry_left, appended, left_in}
use Rattle.check_entries.proofs.Halves.{appended-same}
use Rattle.check_entailment.specs.Answers.{most_serving}

abbrev ahead : List Permission → Split → Split
ahead l c = record { taken = c.taken; left = c.left; list = l ++ c.list }

abbrev behind : Split → List Permission → Split
behind c m = record { taken = c.taken; left = c.left; list = c.list ++ m }

abbrev past : Permission → Split → Option Split
past p c = some (ahead (p ∷ []) c)

clash : {A B : Type 0} {a : A} → ◌≡◌ {A = Option A} (some a) none → B
clash e = absurd (let z : ◌≡◌ {A = ℕ} 0 1 = cc in omega arith)

-- ONE LIST AFTER THE OTHER
module _ (t : Permission → Option (List Permission)) where
  itself : (o : Option Split) → o ≡ bind_option o (λ c. some (ahead [] c))
  unfolding bind_option
  itself none = refl
  itself (some c) = refl

  none_in : (p : Permission) (o : Option Split) → bind_option o (past p) ≡ none → o ≡ none
  unfolding bind_option
  none_in p none e = refl
  none_in p (some c) e = clash e

  twice : (p : Permission) (l : List Permission) (o : Option Split) → bind_option (bind_option o (λ c. some (ahead l c))) (past p) ≡ bind_option o (λ c. some (ahead (p ∷ l) c))
  unfolding bind_option
  twice p l none = refl
  twice p l (some c) = refl

  -- what the head of a list gives
  abbrev from-head : Permission → List Permission → Option (List Permission) → Option Split
  from-head p ps o = elim o [ some l ↦ some (record { taken = p; left = l; list = l ++ ps }) | none ↦ bind_option (split t ps) (past p) ]

  split-on : (l m : List Permission) → split t l ≡ none → split t (l ++ m) ≡ bind_option (split t m) (λ c. some (ahead l c))
  unfolding split
  split-on [] m e = itself (split t m)
  split-on (p ∷ l) m e = go (t p) (split-on l m) e
    where
      go :
          (o : Option (List Permission)) → (split t l ≡ none → split t (l ++ m) ≡ bind_option (split t m) (λ c. some (ahead l c))) →
          from-head p l o ≡ none → from-head p (l ++ m) o ≡ bind_option (split t m) (λ c. some (ahead (p ∷ l) c))
      go (some k) r e = clash e
      go none r e = ap (λ (o : Option Split). bind_option o (past p)) (r (none_in p (split t l) e)) ∙ twice p l (split t m)

  some_in : (p : Permission) (o : Option Split) (c : Split) → bind_option o (past p) ≡ some c → (d : Split) × (o ≡ some d) × (ahead (p ∷ []) d ≡ c)
  unfolding bind_option
  some_in p none c e = clash (sym e)
  some_in p (some d) c e = (d, refl, cc)

  split_stays : (l m : List Permission) (c : Split) → split t l ≡ some c → split t (l ++ m) ≡ some (behind c m)
  unfolding split bind_option
  split_stays [] m c e = clash (sym e)
  split_stays (p ∷ l) m c e = go (t p) (split_stays l m) e
    where
      go :
          (o : Option (List Permission)) → ((d : Split) → split t l ≡ some d → split t (l ++ m) ≡ some (behind d m)) →
          from-head p l o ≡ some c → from-head p (l ++ m) o ≡ some (behind c m)
      go (some k) r e =
          let d : record { taken = p; left = k; list = k ++ l } ≡ c = cc in
          ap (λ (x : List Permission). some (record { taken = p; left = k; list = x })) (sym (append_assoc k l m)) ∙ ap (λ (x : Split). some (behind x m)) d
      go none r e =
          let (d, f, g) = some_in p (split t l) c e in
          ap (λ (o : Option Split). bind_option o (past p)) (r d f) ∙ ap (λ (x : Split). some (behind x m)) g

  module _ (part : ℕ → List Permission) where
    -- no part gives way
    pub split-none : (n : ℕ) → ((i : ℕ) → i < n → split t (part i) ≡ none) → split t (appended part n) ≡ none
    unfolding split appended bind_option
    split-none zero h = refl
    split-none (suc n) h = split-on (appended part n) (part n) (split-none n (λ i k. h i (omega arith))) ∙ rw (h n (omega arith))

    -- the first that does
    pub split-first :
        (part' : ℕ → List Permission) (c : Split) (n i : ℕ) → i < n → ((j : ℕ) → j < i → split t (part j) ≡ none) → split t (part i) ≡ some c →
        ((j : ℕ) → j < n → (j ≡ i → ⊥) → part j ≡ part' j) → c.list ≡ part' i →
        split t (appended part n) ≡ some (record { taken = c.taken; left = c.left; list = appended part' n })
    unfolding appended bind_option
    split-first part' c zero i h b e s d = absurd (omega arith)
    split-first part' c (suc n) i h b e s d = ⊎_elim last (λ k. before k (split-first part' c n i (omega arith) b e (λ j m. s j (omega arith)) d)) (decide_eq i n)
      where
        last : i ≡ n → split t (appended part n ++ part n) ≡ some (record { taken = c.taken; left = c.left; list = appended part' n ++ part' n })
        last k =
            let f : split t (part n) ≡ some c = rw k at e in
            let g : c.list ≡ part' n = rw k at d in
            split-on (appended part n) (part n) (split-none n (λ j m. b j (omega arith)))
            ∙ rw (f, g, appended-same part part' n (λ j m. s j (omega arith) (omega arith)))

        before :
            (i ≡ n → ⊥) → split t (appended part n) ≡ some (record { taken = c.taken; left = c.left; list = appended part' n }) →
            split t (appended part n ++ part n) ≡ some (record { taken = c.taken; left = c.left; list = appended part' n ++ part' n })
        before k r = split_stays (appended part n) (part n) _ r ∙ rw (s n (omega arith) (λ g. k (sym g)))

-- ONE ENTRY
-- what becomes of an entry, where a test passes
abbrev pub instead : Bool → Permission → List Permission → Option Split
instead c p l = cond c (some (record { taken = p; left = l; list = l })) none

module _ (t : Permission → Option (List Permission)) (p : Permission) where
  gives-way : (c : Bool) (l : List Permission) → t p ≡ cond c (some l) none → split t (p ∷ []) ≡ instead c p l
  unfolding split bind_option
  gives-way true l e = rw (e, split) (ap (λ (m : List Permission). some (record { taken = p; left = l; list = m })) (append-nil l))
  gives-way false l e = rw (e, split)

  never : (c : Bool) → t p ≡ cond c none none → split t (p ∷ []) ≡ none
  never true e = gives-way false [] e
  never false e = gives-way false [] e

-- by kinds
pub of-kind : (P : ℕ → Type 0) → P read_kind → P acc_kind → P chain_kind → (k : ℕ) → IsKind k → P k
of-kind P r a c k w =
    ⊎_elim (λ e. rw e r) (λ d. ⊎_elim (λ e. rw e a) (λ e. let g : k ≡ chain_kind = omega arith in rw g c) (decide_eq k acc_kind)) (decide_eq k read_kind)

module _ (◌~◌ : Equality) (t : Term) (f x g : ℕ) where
  abbrev named : Bool
  named = eqb g f && ◌~◌ (var x) t

  -- what an atom takes of what is left
  abbrev Taken : ℕ → ℕ → Type 0
  Taken w l =
      split (giving ◌~◌ (permit_of w) t f) (entry_left l x g)
      ≡ instead (passes ◌~◌ t f (in_range w (most_serving w) l) x g) (entry (permit_of l) x g) (entry_left (l - w) x g)

  none-taken : (w : ℕ) → IsKind w → Taken w 0
  unfolding split passes in_range entry_left
  none-taken w k = rw (lt-leb w 0 (omega arith))

  some-taken : (w l : ℕ) → IsKind w → IsKind l → Taken w l
  unfolding giving entry_of leaves with_permit passes in_range most_serving entry_left permit_of bind_option
  some-taken w l k h =
      of-kind (λ w. Taken w l)
      (of-kind (Taken read_kind) (gives-way (giving ◌~◌ read t f) (entry read x g) named [] refl)
      (gives-way (giving ◌~◌ read t f) (entry acc x g) named (entry read x g ∷ []) refl) (never (giving ◌~◌ read t f) (entry chain x g) named refl) l h)
      (of-kind (Taken acc_kind) (never (giving ◌~◌ acc t f) (entry read x g) named refl)
      (gives-way (giving ◌~◌ acc t f) (entry acc x g) named [] refl) (never (giving ◌~◌ acc t f) (entry chain x g) named refl) l h)
      (of-kind (Taken chain_kind) (never (giving ◌~◌ chain t f) (entry read x g) named refl)
      (never (giving ◌~◌ chain t f) (entry acc x g) named refl) (gives-way (giving ◌~◌ chain t f) (entry chain x g) named [] refl) l h)
      w k

  taken_at : (w l : ℕ) → IsKind w → l ≤ chain_kind → Taken w l
  taken_at w l k h = ⊎_elim (λ d. rw d (none-taken w k)) (λ d. some-taken w l k (omega arith, h)) (decide_eq l 0)

-- a half added is joined to one
pub joined_at :
    (◌~◌ : Equality) (y f x g k : ℕ) → IsKind k →
    split (joins ◌~◌ y f) (entry (permit_of k) x g ∷ [])
    ≡ instead (passes ◌~◌ (var y) f (in_range read_kind read_kind k) x g) (entry (permit_of k) x g) (entry acc x g ∷ [])
unfolding joins joining with_permit entry_of passes in_range permit_of
joined_at ◌~◌ y f x g k w =
    of-kind
    (λ k. split (joins ◌~◌ y f) (entry (permit_of k) x g ∷ [])
    ≡ instead (passes ◌~◌ (var y) f (in_range read_kind read_kind k) x g) (entry (permit_of k) x g) (entry acc x g ∷ []))
    (gives-way (joins ◌~◌ y f) (entry read x g) (named ◌~◌ (var y) f x g) (entry acc x g ∷ []) refl)
    (never (joins ◌~◌ y f) (entry acc x g) (named ◌~◌ (var y) f x g) refl)
    (never (joins ◌~◌ y f) (entry chain x g) (named ◌~◌ (var y) f x g) refl) k w

-- WHAT IS LEFT
module _ (b left : List ℕ) (◌~◌ : Equality) (w : ℕ) (t : Term) (f n i : ℕ) (k : IsKind w) (most : (j : ℕ) → j < n → get_or left j 0 ≤ chain_kind)
    (F : FirstPlace (entry_test b left w (most_serving w) t f ◌~◌) n i) where
  at : (j : ℕ) → j < n → (c : Bool) → entry_test b left w (most_serving w) t f ◌~◌ j ≡ c →
      split (giving ◌~◌ (permit_of w) t f) (entry_left (get_or left j 0) (variable_at b j) (field_at b j))
      ≡ instead c (entry (permit_of (get_or left j 0)) (variable_at b j) (field_at b j)) (entry_left (get_or left j 0 - w) (variable_at b j) (field_at b j))
  at j h c e = taken_at ◌~◌ t f (variable_at b j) (field_at b j) w (get_or left j 0) k (most j h) ∙ rw e

  pub left-none : n ≤ i → split (giving ◌~◌ (permit_of w) t f) (left_in b left n) ≡ none
  left-none h = split-none (giving ◌~◌ (permit_of w) t f) _ n (λ j g. at j g false (F.before j (omega arith)))

  pub left-first :
      i < n → i < length left →
      split (giving ◌~◌ (permit_of w) t f) (left_in b left n)
      ≡ some (record {
        taken = entry (permit_of (get_or left i 0)) (variable_at b i) (field_at b i);
        left = entry_left (get_or left i 0 - w) (variable_at b i) (field_at b i);
        list = left_in b (set left i (get_or left i 0 - w)) n;
      })
  left-first h l =
      split-first (giving ◌~◌ (permit_of w) t f) _ _ _ n i h (λ j g. at j (omega arith) false (F.before j g)) (at i h true (F.found h))
      (λ j m g. rw (get_or-set_other left i j (get_or left i 0 - w) 0 g)) (rw (get_or-set_same left i (get_or left i 0 - w) 0 l))
