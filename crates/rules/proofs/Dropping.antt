-- The law of W3 where paths are dropped, and where a variable is removed.
use mathlib.Core.Path.{◌≡◌, refl, sym, ap, ◌∙◌, subst}
use mathlib.Core.Bool.{Bool, true, false, not, cond}
use mathlib.Core.List.{List, [], ◌∷◌}
use mathlib.Core.Logic.{◌↔◌, ◌⊎◌, inl, inr, ⊎_elim}
use mathlib.Core.Option.{Option, none, some}
use Prim.Native.Nat.{ℕ}
use native.Mathlib.Omega.{arith}
use lib.Dec.{T, eqb, eqb→eq, eqb_refl, T_not, not_T}
use Rattle.rules.specs.Base.{bind_option, Member}
use Rattle.rules.specs.Syntax.{num, null, var, path, is_path}
use Rattle.rules.specs.State.{Term, Permission, State, Renaming, entry, path_of, equal_in, paths, becomes, lists, without_paths, facts_without, drop_paths, unlisted, remainder, rename_variable, rename_term, rename_permission, rename_permissions, variables, stand_in, removed_term, remove_to, remove}
use Rattle.rules.proofs.Lists.{first-in, and_both, head-or, keep-member, member-keep, went_to, decide-test, F-false, some_inj, none-some, bind-some}
use Rattle.rules.proofs.Closure.{equal_in-sound, equal_in-complete}
use Rattle.rules.specs.Reached.{Known, Formed}
use Rattle.rules.proofs.Successors.{Joined, way-renamed, entry_listed, listed-entry, without_is, left-law, drop-law}

-- PATHS
-- a path of s is one of ps, or gone
abbrev pub LeftOr : State → List Permission → List Permission → Type 0
LeftOr s ps gone = (t : Term) → T (lists s.permissions t) → T (lists ps t) ⊎ T (lists gone t)

-- what is not dropped is still listed
pub still-known :
    (s : State) (ps gone : List Permission) → LeftOr s ps gone → (t : Term) → (T (lists gone t) → ⊥) → Known s.permissions t → Known ps t
still-known s ps gone all (num n) out k = tt
still-known s ps gone all null out k = tt
still-known s ps gone all (var v) out k = k
still-known s ps gone all (path v f) out k = ⊎_elim (λ i. i) (λ i. absurd (out i)) (all (path v f) k)

-- ps are left of the entries of s, and the paths of the others are dropped
module _ (s : State) (formed : Formed s) (ps : List Permission) where
  left-without : (gone : List Permission) (t : Term) → (T (lists gone t) → ⊥) → without_paths gone t ≡ some t
  unfolding without_paths
  left-without gone t n = rw (F-false (lists gone t) n)

  pub paths-law :
      (gone : List Permission) → LeftOr s ps gone → (a b : Term) → (T (lists gone a) → ⊥) → (T (lists gone b) → ⊥) →
      T (equal_in (drop_paths gone ps s) a b) ↔ T (equal_in s a b)
  unfolding drop_paths facts_without equal_in
  paths-law [] all a b na nb = (λ h. h, λ h. h)
  paths-law (p ∷ gone) all a b na nb =
      drop-law s (without_paths (p ∷ gone)) ps (λ t u e. (without_is (p ∷ gone) t u e).1)
      (λ t i e. still-known s ps (p ∷ gone) all t (without_is (p ∷ gone) t t e).0 (formed t i)) (drop_paths (p ∷ gone) ps s) refl a b
      (left-without (p ∷ gone) a na) (left-without (p ∷ gone) b nb)

-- a path is still listed, or it is dropped
pub kept-or-unlisted : (s : State) (kept : List Permission) → LeftOr s kept (unlisted kept s.permissions)
unfolding unlisted paths
kept-or-unlisted s kept t h =
    let (p, i, k, e) = listed-entry s.permissions t h in
    ⊎_elim (λ l. inl l)
    (λ n.
    inr
    (subst (λ t. T (lists (unlisted kept s.permissions) t)) e
    (entry_listed (unlisted kept s.permissions) p
    (member-keep (λ p. not (lists kept (path_of p))) _ p
    (not_T (lists kept (path_of p)) (subst (λ t. T (lists kept t) → ⊥) (sym e) n))
    (member-keep (λ q. is_path q.permit) s.permissions p k i))
    k)))
    (decide-test (lists kept t))

-- a term that is known of what is left is not dropped
pub known-left : (s : State) (kept : List Permission) (t : Term) → Known kept t → T (lists (unlisted kept s.permissions) t) → ⊥
unfolding unlisted path_of
known-left s kept t k h =
    let (p, i, _, e) = listed-entry (unlisted kept s.permissions) t h in
    let (_, n) = keep-member (λ p. not (lists kept (path_of p))) (paths s.permissions) p i in
    T_not (lists kept (path_of p)) n (named t k p e)
  where
    named : (t : Term) → Known kept t → (p : Permission) → path_of p ≡ t → T (lists kept (path_of p))
    named (num n) k p e = absurd (let z : ◌≡◌ {A = ℕ} 0 1 = cc in omega arith)
    named null k p e = absurd (let z : ◌≡◌ {A = ℕ} 0 1 = cc in omega arith)
    named (var v) k p e = absurd (let z : ◌≡◌ {A = ℕ} 0 1 = cc in omega arith)
    named (path v f) k p e = subst (λ t. T (lists kept t)) (sym e) k

-- the law at `release`, `shut`, and at a `call` before x is removed; it holds whatever is left of the entries
pub remainder-law :
    (s : State) (kept : List Permission) → Formed s → (a b : Term) → Known kept a → Known kept b →
    T (equal_in (remainder s kept) a b) ↔ T (equal_in s a b)
unfolding remainder
remainder-law s kept F a b ka kb =
    paths-law s F kept (unlisted kept s.permissions) (kept-or-unlisted s kept) a b (known-left s kept a ka) (known-left s kept b kb)

only : (p : Permission) (t : Term) → T (lists (p ∷ []) t) → path_of p ≡ t
only p t h =
    let (q, i, _, e) = listed-entry (p ∷ []) t h in
    ap path_of (⊎_elim (λ j. elim j [ ]) (λ w. sym w) (head-or i)) ∙ e

-- the law at `set`, before the new value is added
pub set-law :
    (s : State) (p : Permission) → Formed s → (a b : Term) → (path_of p ≡ a → ⊥) → (path_of p ≡ b → ⊥) →
    T (equal_in (drop_paths (p ∷ []) s.permissions s) a b) ↔ T (equal_in s a b)
set-law s p F a b na nb =
    paths-law s F s.permissions (p ∷ []) (λ t i. inl i) a b (λ h. na (only p a h)) (λ h. nb (only p b h))

-- A VARIABLE
-- a term whose variable is left or renamed is still listed
pub renamed-known :
    (x : ℕ) (to : Option ℕ) (ps : List Permission) → ((w : ℕ) → to ≡ some w → Member w variables) → (t u : Term) →
    rename_term x to t ≡ some u → Known ps t → Known (rename_permissions x to ps) u
unfolding rename_term rename_permissions rename_permission bind_option rename_variable path_of
renamed-known x to ps N (num n) u e k = subst (Known _) (some_inj e) tt
renamed-known x to ps N null u e k = subst (Known _) (some_inj e) tt
renamed-known x to ps N (var v) u e k =
    let (w, m, q) = bind-some (cond (eqb v x) to (some v)) _ u e in subst (Known _) (some_inj q) (go (eqb v x) w m)
  where
    go : (b : Bool) (w : ℕ) → cond b to (some v) ≡ some w → Member w variables
    go true w m = N w m
    go false w m = subst (λ z. Member z variables) (some_inj m) k
renamed-known x to ps N (path v f) u e k =
    let (w, m, q) = bind-some (cond (eqb v x) to (some v)) _ u e in
    let (p, i, listable, z) = listed-entry ps (path v f) k in
    let zv : p.variable ≡ v = cc in
    let zf : p.field ≡ f = cc in
    subst (Known _) (some_inj q)
    (entry_listed (rename_permissions x to ps) (entry p.permit w f)
    (went_to (rename_permission x to) ps p (entry p.permit w f)
    (ap (λ (o : Option ℕ). bind_option o (λ w. some (entry p.permit w p.field)))
    (subst (λ v. cond (eqb v x) to (some v) ≡ some w) (sym zv) m)
    ∙ ap (λ (g : ℕ). some (entry p.permit w g)) zf) i)
    listable)

-- where none takes its place: x and the paths of x are dropped
dropped-variable : (x v w : ℕ) → rename_variable x none v ≡ some w → v ≡ w
unfolding rename_variable
dropped-variable x v w e = go (eqb v x) e
  where
    go : (b : Bool) → cond b none (some v) ≡ some w → v ≡ w
    go true e = none-some e
    go false e = some_inj e

dropped-plain : (x : ℕ) (t u : Term) → rename_term x none t ≡ some u → t ≡ u
unfolding rename_term
dropped-plain x (num n) u e = some_inj e
dropped-plain x null u e = some_inj e
dropped-plain x (var v) u e =
    let (w, m, q) = bind-some (rename_variable x none v) _ u e in ap var (dropped-variable x v w m) ∙ some_inj q
dropped-plain x (path v f) u e =
    let (w, m, q) = bind-some (rename_variable x none v) _ u e in
    ap (λ (v : ℕ). path v f) (dropped-variable x v w m) ∙ some_inj q

pub removed-law :
    (s : State) (x : ℕ) → Formed s → stand_in s x ≡ none → (a b : Term) → rename_term x none a ≡ some a →
    rename_term x none b ≡ some b → T (equal_in (remove x s) a b) ↔ T (equal_in s a b)
unfolding remove remove_to removed_term
removed-law s x F e a b ea eb =
    subst (λ (to : Option ℕ). T (equal_in (remove_to x to s) a b) ↔ T (equal_in s a b)) (sym e)
    (drop-law s (rename_term x none) (rename_permissions x none s.permissions) (dropped-plain x)
    (λ t i k. renamed-known x none s.permissions (λ w z. none-some z) t t k (F t i)) (remove_to x none s) refl a b ea eb)

-- where w takes its place: "A path renamed onto a listed one counts as ~ to it before"
module _ (x w : ℕ) (other : x ≡ w → ⊥) where
  renamed-variable : (v : ℕ) → (u : ℕ) × (rename_variable x (some w) v ≡ some u) × (rename_variable x (some w) u ≡ some u)
  unfolding rename_variable
  renamed-variable v = go (eqb v x) refl
    where
      apart : (u : ℕ) → (x ≡ u → ⊥) → cond (eqb u x) (some w) (some u) ≡ some u
      apart u n = rw (F-false (eqb u x) (λ t. n (sym (eqb→eq u x t))))

      go : (b : Bool) → eqb v x ≡ b → (u : ℕ) × (cond b (some w) (some v) ≡ some u) × (cond (eqb u x) (some w) (some u) ≡ some u)
      go true e = (w, refl, apart w other)
      go false e = (v, refl, rw e)

  renamed-stays : (t : Term) → (u : Term) × (rename_term x (some w) t ≡ some u) × (rename_term x (some w) u ≡ some u)
  unfolding rename_term bind_option
  renamed-stays (num n) = (num n, refl, refl)
  renamed-stays null = (null, refl, refl)
  renamed-stays (var v) = let (u, p, q) = renamed-variable v in (var u, rw p, rw q)
  renamed-stays (path v f) = let (u, p, q) = renamed-variable v in (path u f, rw p, rw q)

  module _ (s : State) where
    abbrev way : Renaming
    way = removed_term x (some w) s

    way-is : (t : Term) → (u : Term) × (way t ≡ some u) × (way u ≡ some u)
    unfolding removed_term becomes
    way-is t =
        let (u, p, q) = renamed-stays t in
        (u, way-renamed (equal_in s) (rename_term x (some w)) _ s.facts t u p, way-renamed (equal_in s) (rename_term x (some w)) _ s.facts u u q)

    left-joined :
        (a b : Term) → way a ≡ some a → way b ≡ some b → T (equal_in (remove_to x (some w) s) a b) ↔ Joined s.facts way a b
    unfolding remove_to
    left-joined a b ea eb =
        let L =
        left-law s.facts way
        (λ t u e. let (v, p, q) = way-is t in subst (λ v. way v ≡ some v) (some_inj (sym p ∙ e)) q)
        (λ t u i l c e. let (v, p, _) = way-is u in (v, p)) a b ea eb in
        (λ h. L.0 (equal_in-sound (remove_to x (some w) s) a b h), λ j. equal_in-complete (remove_to x (some w) s) a b (L.1 j))

-- the variable that takes the place of x is another, ~ to it
pub stand_in-is : (s : State) (x w : ℕ) → stand_in s x ≡ some w → (x ≡ w → ⊥) × T (equal_in s (var w) (var x))
unfolding stand_in
stand_in-is s x w e =
    let (a, b) = and_both (not (eqb w x)) _ (first-in _ variables w e).1 in
    (λ p. T_not (eqb w x) a (subst (λ z. T (eqb w z)) (sym p) (eqb_refl w)), b)

pub renamed-law :
    (s : State) (x w : ℕ) → stand_in s x ≡ some w → (a b : Term) → rename_term x (some w) a ≡ some a →
    rename_term x (some w) b ≡ some b →
    T (equal_in (remove x s) a b) ↔ Joined s.facts (removed_term x (some w) s) a b
unfolding remove removed_term becomes
renamed-law s x w e a b ea eb =
    let way : (t : Term) → rename_term x (some w) t ≡ some t → removed_term x (some w) s t ≡ some t =
    λ t k. way-renamed (equal_in s) (rename_term x (some w)) _ s.facts t t k in
    subst (λ (to : Option ℕ). T (equal_in (remove_to x to s) a b) ↔ Joined s.facts (removed_term x (some w) s) a b) (sym e)
    (left-joined x w (stand_in-is s x w e).0 s a b (way a ea) (way b eb))
