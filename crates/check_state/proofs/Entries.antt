-- The first entry that passes.
use mathlib.Core.Path.{◌≡◌, refl, sym, ap, ◌∙◌}
use mathlib.Core.Bool.{Bool, true, false, cond}
use mathlib.Core.List.{List, [], ◌∷◌}
use mathlib.Core.Option.{none, some}
use mathlib.Core.Logic.{◌⊎◌, inl, inr, ⊎_elim}
use Prim.Native.Nat.{ℕ, zero, suc, ◌-◌, ◌≤◌, ◌<◌}
use native.Mathlib.Omega.{arith}
use lib.Dec.{eqb, ltb, leb}
use lib.ListN.{length, get_or, replicate, get_or-replicate, get_or-eq_default, length-replicate, length-drop}
use lib.Seq.{get_or-drop}
use borrow.Author.Tests.{eqb-true, lt-ltb, le-leb, lt-leb, ltb-true, ltb-false}
use Rattle.rules.specs.Base.{ok, no, ◌>>=◌, or_else, first}
use Rattle.rules.specs.Limits.{most_permissions}
use Rattle.rules.specs.Answers.{unresolved}
use Rattle.rules.specs.Syntax.{var, path, acc, read, chain, is_path}
use Rattle.rules.specs.State as Rules
use Rattle.rules.specs.State.{Equality, equal_in, equal_by, representative, entry_of, names, path_of}
use Rattle.check_equality.specs.Layout.{read_kind, acc_kind, chain_kind, kinds_at, bytes}
use Rattle.check_equality.specs.Keys.{term_of}
use Rattle.check_equality.specs.Listing.{listed}
use Rattle.check_equality.proofs.Listing.{first-append, first-here, first_found}
use Rattle.check_state.specs.States.{facts_of, permission_at, permissions_of, permit_of, kind_at, kinds_of, IsKind, KindsIn, state_of, entries}
use Rattle.check_state.specs.Questions.{FirstPlace, Bytes, entry_test, passes, in_range, path_at, stands_for}

pub no-flags : (n i : ℕ) → get_or (replicate n false) i false ≡ false
no-flags n i = ⊎_elim (λ h. h) (λ h. h) (go (ltb i n) refl)
  where
    go : (c : Bool) → ltb i n ≡ c → (get_or (replicate n false) i false ≡ false) ⊎ (get_or (replicate n false) i false ≡ false)
    go true e = inl (get_or-replicate n i false false (ltb-true i n e))
    go false e = inr (get_or-eq_default (replicate n false) false {n = i} (rw (length-replicate n false) (ltb-false i n e)))

-- the kinds that the entries have
pub own-kinds : (b : List ℕ) → length b ≡ bytes → Bytes (kind_at b) most_permissions (kinds_of b)
own-kinds b e = record { size = length-drop kinds_at b ∙ ap (λ (n : ℕ). n - kinds_at) e; at = λ i h. get_or-drop kinds_at b i 0 }

pub first-none : {A : Type 0} (p : A → Bool) (f : ℕ → A) (n : ℕ) → ((i : ℕ) → i < n → p (f i) ≡ false) → first p (listed f n) ≡ none
unfolding first listed
first-none p f zero h = refl
first-none p f (suc n) h =
    first-append p (listed f n) (f n ∷ []) (first-none p f n (λ i k. h i (omega arith))) ∙ rw (h n (omega arith))

-- the kinds of listed paths
pub path-kind : (k : ℕ) → is_path (permit_of k) ≡ ltb k chain_kind
unfolding is_path permit_of
path-kind k = go (eqb k acc_kind) (ltb k chain_kind) refl refl
  where
    go : (a c : Bool) → eqb k acc_kind ≡ a → ltb k chain_kind ≡ c → is_path (cond a acc (cond c read chain)) ≡ c
    go true c e d = sym (lt-ltb k chain_kind (omega (arith, eqb-true k acc_kind e))) ∙ d
    go false true e d = refl
    go false false e d = refl

path-range : (k : ℕ) → IsKind k → is_path (permit_of k) ≡ in_range read_kind acc_kind k
unfolding in_range
path-range k w = path-kind k ∙ rw (le-leb read_kind k w.0) (go (ltb k chain_kind) refl)
  where
    go : (c : Bool) → ltb k chain_kind ≡ c → c ≡ leb k acc_kind
    go true e = sym (le-leb k acc_kind (omega (arith, ltb-true k chain_kind e)))
    go false e = sym (lt-leb k acc_kind (omega (arith, ltb-false k chain_kind e)))

module _ (b kinds : List ℕ) (◌~◌ : Equality) (y g i : ℕ) (K : KindsIn b (entries b)) (few : entries b ≤ most_permissions) (B : Bytes (kind_at b) most_permissions kinds)
    (F : FirstPlace (entry_test b kinds read_kind acc_kind (var y) g ◌~◌) (entries b) i) where
  in_order_lem : (j : ℕ) → j < entries b → names ◌~◌ y g (permission_at b j) ≡ entry_test b kinds read_kind acc_kind (var y) g ◌~◌ j
  unfolding passes names entry_of
  in_order_lem j h = rw (path-range (kind_at b j) (K j h), B.at j (omega arith))

  none_before : first (names ◌~◌ y g) (listed (permission_at b) i) ≡ none
  none_before = first-none _ (permission_at b) i (λ j h. in_order_lem j (omega (arith, F.within)) ∙ F.before j h)

  pub resolve-path : path_at b i ≡ Rules.resolve ◌~◌ (permissions_of b) (path y g)
  unfolding Rules.resolve path_at or_else ◌>>=◌
  resolve-path = go (ltb i (entries b)) refl
    where
      go : (c : Bool) → ltb i (entries b) ≡ c → cond c (ok (path_of (permission_at b i))) (no unresolved) ≡ (or_else (first (names ◌~◌ y g) (permissions_of b)) unresolved >>= λ p. ok (path_of p))
      go true e =
          let h : i < entries b = ltb-true i (entries b) e in
          rw (first_found (names ◌~◌ y g) (permission_at b) (entries b) i h
          (first-here (names ◌~◌ y g) (permission_at b) i none_before (in_order_lem i h ∙ F.found h)))
      go false e =
          let d : i ≡ entries b = omega (arith, ltb-false i (entries b) e, F.within) in
          rw (rw d at none_before)

-- THE STAND-IN
module _ (key b : List ℕ) (x k v : ℕ) (e : term_of k ≡ var x) (F : FirstPlace (stands_for (equal_by (representative (facts_of key b))) x (term_of k)) 15 v) where
  abbrev test : ℕ → Bool
  test = stands_for (equal_by (representative (facts_of key b))) x (term_of k)

  is : Rules.stand_in (state_of key b) x ≡ first test (listed (λ i. i) 15)
  unfolding Rules.stand_in stands_for listed equal_in
  is = rw e

  none_yet : first test (listed (λ i. i) v) ≡ none
  none_yet = first-none _ (λ i. i) v F.before

  pub stand-in-none : 15 ≤ v → none ≡ Rules.stand_in (state_of key b) x
  stand-in-none h = let d : v ≡ 15 = omega (arith, F.within) in sym (is ∙ (rw d at none_yet))

  pub stand-in-found : v < 15 → some v ≡ Rules.stand_in (state_of key b) x
  stand-in-found h = sym (is ∙ first_found test (λ i. i) 15 v h (first-here test (λ i. i) v none_yet (F.found h)))
