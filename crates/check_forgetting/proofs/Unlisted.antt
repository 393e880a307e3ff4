-- Paths that a list of entries has, and those that it has not any more.
use mathlib.Core.Path.{◌≡◌, refl, sym, ap, ap₂, ◌∙◌}
use mathlib.Core.Bool.{Bool, true, false, cond, not, ◌&&◌, ◌||◌}
use mathlib.Core.List.{List, [], ◌∷◌, ◌++◌}
use mathlib.Core.Option.{none, some}
use mathlib.Core.Logic.{◌⊎◌, inl, inr}
use Prim.Native.Nat.{ℕ, zero, suc, ◌<◌}
use native.Mathlib.Omega.{arith}
use Rattle.rules.specs.Base.{any, keep}
use Rattle.rules.specs.Syntax.{num, null, var, same, is_path}
use Rattle.rules.specs.State.{Term, Permission, State, becomes, rename_facts, facts_without, equal_in, is_left, path_of, paths, lists, unlisted, without_paths}
use Rattle.rules.proofs.Lists.{T_true}
use Rattle.rules.proofs.Closure.{same_refl, same→≡}
use Rattle.check_equality.specs.Listing.{listed}
use Rattle.check_equality.proofs.Listing.{or-false}
use Rattle.check_inequality.proofs.Searches.{any_false}
use Rattle.check_labels.proofs.Rebuilding.{keep_append}

pub paths-left : (gs : List Permission) (t : Term) → is_left (without_paths gs) t ≡ not (lists gs t)
unfolding is_left without_paths
paths-left gs t = go (lists gs t)
  where
    go : (b : Bool) → ◌≡◌ {A = Bool} (elim (cond b none (some t)) [ none ↦ false | some u ↦ same u t ]) (not b)
    go true = refl
    go false = T_true (same t t) (same_refl t)

-- LISTED PATHS
pub and-false : (b : Bool) → (b && false) ≡ false
and-false true = refl
and-false false = refl

pub and-true : (b : Bool) → (b && true) ≡ b
and-true true = refl
and-true false = refl

pub any-kept : {A : Type 0} (p r : A → Bool) (l : List A) → any p (keep r l) ≡ any (λ a. r a && p a) l
unfolding keep any
any-kept p r [] = refl
any-kept p r (a ∷ l) = go (r a) (any-kept p r l)
  where
    go : (c : Bool) → any p (keep r l) ≡ any (λ a. r a && p a) l → any p (cond c (a ∷ keep r l) (keep r l)) ≡ ((c && p a) || any (λ a. r a && p a) l)
    go true e = ap (λ (d : Bool). p a || d) e
    go false e = e

-- the entry is a path, and is t
abbrev pub is_at : Term → Permission → Bool
is_at t p = is_path p.permit && same (path_of p) t

pub lists-any : (ps : List Permission) (t : Term) → lists ps t ≡ any (is_at t) ps
unfolding lists paths
lists-any ps t = any-kept _ _ ps

pub lists-one : (p : Permission) (t : Term) → is_path p.permit ≡ true → lists (p ∷ []) t ≡ same (path_of p) t
unfolding any
lists-one p t e = lists-any (p ∷ []) t ∙ rw e (or-false (same (path_of p) t))

-- only paths are dropped
pub lists-variable : (gs : List Permission) (v : ℕ) → lists gs (var v) ≡ false
unfolding lists path_of same
lists-variable gs v = any_false _ (paths gs) (λ p. refl)

pub lists-null : (gs : List Permission) → lists gs null ≡ false
unfolding lists path_of same
lists-null gs = any_false _ (paths gs) (λ p. refl)

pub lists-number : (gs : List Permission) (n : ℕ) → lists gs (num n) ≡ false
unfolding lists path_of same
lists-number gs n = any_false _ (paths gs) (λ p. refl)

-- what is dropped: a path not listed any more
pub lists-unlisted : (ks us : List Permission) (t : Term) → lists (unlisted ks us) t ≡ (lists us t && not (lists ks t))
unfolding unlisted paths any
lists-unlisted ks us t =
    lists-any (unlisted ks us) t ∙ any-kept _ _ (paths us) ∙ any-kept _ _ us ∙ go us ∙ ap (λ (c : Bool). c && not (lists ks t)) (sym (lists-any us t))
  where
    at : (u : Permission) (p s : Bool) → same (path_of u) t ≡ s → (p && (not (lists ks (path_of u)) && (p && s))) ≡ ((p && s) && not (lists ks t))
    at u false s e = refl
    at u true false e = and-false (not (lists ks (path_of u)))
    at u true true e = and-true (not (lists ks (path_of u))) ∙ ap (λ (v : Term). not (lists ks v)) (same→≡ _ _ (rw e tt))

    either : (a b n : Bool) → ((a && n) || (b && n)) ≡ ((a || b) && n)
    either true true true = refl
    either true false true = refl
    either true b false = and-false b
    either false b n = refl

    go : (us : List Permission) → any (λ u. is_path u.permit && (not (lists ks (path_of u)) && is_at t u)) us ≡ (any (is_at t) us && not (lists ks t))
    go [] = refl
    go (u ∷ us) =
        ap₂ (λ (a b : Bool). a || b) (at u (is_path u.permit) (same (path_of u) t) refl) (go us)
        ∙ either (is_at t u) (any (is_at t) us) (not (lists ks t))

-- WHETHER ANYTHING IS DROPPED
pub some-without : (gs ps : List Permission) (s : State) → any (λ p. true) gs ≡ true → facts_without gs ps s ≡ rename_facts (becomes s (without_paths gs) ps) s.facts
unfolding facts_without any
some-without [] ps s e = absurd (let z : ◌≡◌ {A = ℕ} 0 1 = cc in omega arith)
some-without (g ∷ gs) ps s e = refl

pub none-without : (gs ps : List Permission) (s : State) → any (λ p. true) gs ≡ false → facts_without gs ps s ≡ s.facts
unfolding facts_without any
none-without [] ps s e = refl
none-without (g ∷ gs) ps s e = absurd (let z : ◌≡◌ {A = ℕ} 0 1 = cc in omega arith)

-- WHAT IS LEFT, STORED
unlisted-append : (ks l m : List Permission) → unlisted ks (l ++ m) ≡ unlisted ks l ++ unlisted ks m
unfolding unlisted paths
unlisted-append ks l m = ap (keep (λ p. not (lists ks (path_of p)))) (keep_append _ l m) ∙ keep_append _ (paths l) (paths m)

unlisted-none : (ks : List Permission) (p : Permission) → lists ks (path_of p) ≡ true → unlisted ks (p ∷ []) ≡ []
unfolding unlisted paths keep
unlisted-none ks p e = go (is_path p.permit)
  where
    go : (c : Bool) → keep (λ p. not (lists ks (path_of p))) (cond c (p ∷ []) []) ≡ []
    go true = rw e
    go false = refl

-- entries that differ are listed
pub unlisted-same :
    (ks : List Permission) (f g : ℕ → Permission) (n : ℕ) →
    ((i : ℕ) → i < n → (f i ≡ g i) ⊎ ((lists ks (path_of (f i)) ≡ true) × (lists ks (path_of (g i)) ≡ true))) →
    unlisted ks (listed f n) ≡ unlisted ks (listed g n)
unfolding listed
unlisted-same ks f g zero h = refl
unlisted-same ks f g (suc n) h =
    unlisted-append ks (listed f n) (f n ∷ []) ∙ ap₂ (λ (a b : List Permission). a ++ b) (unlisted-same ks f g n (λ i k. h i (omega arith))) (one (h n (omega arith)))
    ∙ sym (unlisted-append ks (listed g n) (g n ∷ []))
  where
    one : (f n ≡ g n) ⊎ ((lists ks (path_of (f n)) ≡ true) × (lists ks (path_of (g n)) ≡ true)) → unlisted ks (f n ∷ []) ≡ unlisted ks (g n ∷ [])
    one (inl e) = ap (λ (p : Permission). unlisted ks (p ∷ [])) e
    one (inr e) = unlisted-none ks (f n) e.0 ∙ sym (unlisted-none ks (g n) e.1)

-- only the facts of a state count
pub facts-only : (gs ps : List Permission) (s t : State) → s.facts ≡ t.facts → facts_without gs ps s ≡ facts_without gs ps t
unfolding facts_without becomes equal_in
facts-only [] ps s t e = e
facts-only (g ∷ gs) ps s t e = rw e
