-- Laws of lists that the other proofs share: a property of every element, parts of a list, the first that passes.
use mathlib.Core.Path.{◌≡◌, refl, sym, ap, subst, ◌∙◌}
use mathlib.Core.Bool.{Bool, true, false, cond}
use mathlib.Core.List.{List, [], ◌∷◌, ◌++◌}
use mathlib.Core.Logic.{⊎_elim}
use mathlib.Core.Option.{none, some}
use Prim.Native.Nat.{ℕ, zero, suc, ◌<◌}
use native.Mathlib.Omega.{arith}
use lib.Dec.{T}
use lib.ListN.{length, get_or, take}
use Rattle.rules.specs.Base.{Member, at_head, further, any, first, keep, index}
use Rattle.rules.specs.Reading.{on_last}
use Rattle.rules.proofs.Lists.{head-or, or_left, or_right, F-false, some_inj, none-some}

module _ {A : Type 0} (Q : A → Type 0) where
  -- of every element
  abbrev pub All : List A → Type 0
  All [] = Unit {0}
  All (a ∷ l) = Q a × All l

  pub every : (l : List A) → ((a : A) → Member a l → Q a) → All l
  every [] h = tt
  every (a ∷ l) h = (h a at_head, every l (λ b i. h b (further i)))

  pub of-every : (l : List A) → All l → (a : A) → Member a l → Q a
  of-every [] h a i = elim i [ ]
  of-every (b ∷ l) (q, h) a i = ⊎_elim (λ j. of-every l h a j) (λ e. subst Q (sym e) q) (head-or i)

module _ {A : Type 0} where
  pub member-at : (l : List A) (i : ℕ) (d : A) → i < length l → Member (get_or l i d) l
  member-at [] i d h = absurd (omega arith)
  member-at (a ∷ l) zero d h = at_head
  member-at (a ∷ l) (suc i) d h = further (member-at l i d (omega arith))

  -- PARTS

  pub take_part : (l : List A) (a : A) (m : List A) → take (suc (length l)) (l ++ (a ∷ m)) ≡ l ++ (a ∷ [])
  take_part [] a m = refl
  take_part (b ∷ l) a m = ap (λ r. b ∷ r) (take_part l a m)

  pub keep_append : (t : A → Bool) (l m : List A) → keep t (l ++ m) ≡ keep t l ++ keep t m
  unfolding keep
  keep_append t [] m = refl
  keep_append t (a ∷ l) m = go (t a) (keep_append t l m)
    where
      go :
          (b : Bool) → keep t (l ++ m) ≡ keep t l ++ keep t m →
          cond b (a ∷ keep t (l ++ m)) (keep t (l ++ m)) ≡ cond b (a ∷ keep t l) (keep t l) ++ keep t m
      go true e = ap (λ r. a ∷ r) e
      go false e = e

  -- with its last element changed
  pub last-length : (f : A → A) (l : List A) → length (on_last f l) ≡ length l
  unfolding on_last
  last-length f [] = refl
  last-length f (a ∷ []) = refl
  last-length f (a ∷ b ∷ l) = ap suc (last-length f (b ∷ l))

  -- THE FIRST THAT PASSES

  -- two tests that agree on the members
  pub first-agree : (t u : A → Bool) (l : List A) → ((a : A) → Member a l → t a ≡ u a) → first t l ≡ first u l
  unfolding first
  first-agree t u [] h = refl
  first-agree t u (a ∷ l) h = go (t a) (u a) (h a at_head) (first-agree t u l (λ b i. h b (further i)))
    where
      go : (b c : Bool) → b ≡ c → first t l ≡ first u l → cond b (some a) (first t l) ≡ cond c (some a) (first u l)
      go b c e r = cc

  pub first-none : (t : A → Bool) (l : List A) → ((a : A) → Member a l → t a ≡ false) → first t l ≡ none
  unfolding first
  first-none t [] h = refl
  first-none t (a ∷ l) h = go (t a) (h a at_head) (first-none t l (λ b i. h b (further i)))
    where
      go : (b : Bool) → b ≡ false → first t l ≡ none → cond b (some a) (first t l) ≡ none
      go b e r = cc

  -- what stands before it does not pass
  pub record Found (t : A → Bool) (l : List A) (a : A) : Type 0 where
    pub before : List A
    pub after : List A
    pub parts : l ≡ before ++ (a ∷ after)
    pub passes : T (t a)
    pub earlier : (b : A) → Member b before → T (t b) → ⊥

  pub first_found : (t : A → Bool) (l : List A) (a : A) → first t l ≡ some a → Found t l a
  unfolding first
  first_found t [] a e = none-some e
  first_found t (c ∷ l) a e = go (t c) refl e (first_found t l a)
    where
      go :
          (b : Bool) → t c ≡ b → cond b (some c) (first t l) ≡ some a → (first t l ≡ some a → Found t l a) → Found t (c ∷ l) a
      go true h e ih =
          record {
            before = [];
            after = l;
            parts = ap (λ b. b ∷ l) (some_inj e);
            passes = subst T (sym h ∙ ap t (some_inj e)) tt;
            earlier = λ b i. elim i [ ];
          }
      go false h e ih =
          let F = ih e in
          record {
            before = c ∷ F.before;
            after = F.after;
            parts = ap (λ r. c ∷ r) F.parts;
            passes = F.passes;
            earlier =
                λ b i p.
                ⊎_elim (λ j. F.earlier b j p) (λ e. subst T h (subst (λ b. T (t b)) e p)) (head-or i);
          }

  -- ITS PLACE

  pub index-none : (t : A → Bool) (l : List A) → (T (any t l) → ⊥) → index t l ≡ length l
  unfolding any index
  index-none t [] h = refl
  index-none t (a ∷ l) h =
      go (t a) (F-false (t a) (λ p. h (or_left (t a) (any t l) p))) (index-none t l (λ p. h (or_right (t a) (any t l) p)))
    where
      go : (b : Bool) → b ≡ false → index t l ≡ length l → cond b 0 (suc (index t l)) ≡ suc (length l)
      go b e r = cc

  pub index-after : (t : A → Bool) (l : List A) (a : A) (m : List A) → (T (any t l) → ⊥) → T (t a) → index t (l ++ (a ∷ m)) ≡ length l
  unfolding any index
  index-after t [] a m h p = go (t a) p
    where
      go : (b : Bool) → T b → cond b 0 (suc (index t m)) ≡ 0
      go true p = refl
      go false p = absurd p
  index-after t (c ∷ l) a m h p =
      go (t c) (F-false (t c) (λ p. h (or_left (t c) (any t l) p)))
      (index-after t l a m (λ p. h (or_right (t c) (any t l) p)) p)
    where
      go : (b : Bool) → b ≡ false → index t (l ++ (a ∷ m)) ≡ length l → cond b 0 (suc (index t (l ++ (a ∷ m)))) ≡ suc (length l)
      go b e r = cc
