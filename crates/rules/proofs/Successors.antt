-- What is left, what a successor is, and the law of W3 over what becomes of terms: two terms that are left are ~ exactly if they were
-- ~ before. `Dropping` has it for each statement.
use mathlib.Core.Path.{◌≡◌, refl, sym, ap, ◌∙◌, subst}
use mathlib.Core.Bool.{Bool, true, false, not, cond, ◌&&◌}
use mathlib.Core.List.{List, [], ◌∷◌, map}
use mathlib.Core.Logic.{◌↔◌, ◌⊎◌, inl, inr, ⊎_elim}
use mathlib.Core.Option.{Option, none, some}
use Prim.Native.Nat.{ℕ}
use lib.Dec.{T, leb, not_T}
use Rattle.rules.specs.Base.{map_option, bind_option, Member, at_head, further}
use Rattle.rules.specs.Syntax.{offset, eq, num, null, var, path, is_path, same}
use Rattle.rules.specs.State.{Term, Permission, Fact, State, Equality, Renaming, path_of, is_ne, equal_in, numbers, terms_of, variables, insert, rising, in_order, is_left, successor, gives_way, becomes, rename_fact, trivial, rename_facts, paths, lists, without_paths}
use Rattle.rules.specs.Reached.{Known}
use Rattle.rules.proofs.Lists.{head-or, is-head, append-member, member-left, member_right, map-member, member-map, keep-member, member-keep, came_from, went_to, and_both, and_intro, any-in, in-any, first-in, first_some, none-some, some_inj, bind-some, option_cases, decide-test}
use Rattle.rules.proofs.Closure.{Listed, here, there, Linked, itself, listed, back, onward, same→≡, same_refl, equal_in-sound, equal_in-complete}

-- A TERM THAT IS LEFT
pub left_is : (ρ : Renaming) (t : Term) → T (is_left ρ t) → ρ t ≡ some t
unfolding is_left
left_is ρ t h = go (ρ t) h
  where
    go : (o : Option Term) → T (elim o [ none ↦ false | some u ↦ same u t ]) → o ≡ some t
    go none h = absurd h
    go (some u) h = ap some (same→≡ u t h)

pub is-left : (ρ : Renaming) (t : Term) → ρ t ≡ some t → T (is_left ρ t)
unfolding is_left
is-left ρ t e = go (ρ t) e
  where
    go : (o : Option Term) → o ≡ some t → T (elim o [ none ↦ false | some u ↦ same u t ])
    go none e = none-some e
    go (some u) e = subst (λ v. T (same u v)) (some_inj e) (same_refl u)

-- PATHS THAT ARE LISTED
-- the path of an entry that is no chain is listed, and no other
pub entry_listed :
    (ps : List Permission) (p : Permission) → Member p ps → T (is_path p.permit) → T (lists ps (path_of p))
unfolding lists paths
entry_listed ps p i k =
    any-in (λ q. same (path_of q) (path_of p)) (paths ps) p (member-keep (λ q. is_path q.permit) ps p k i)
    (same_refl (path_of p))

pub listed-entry :
    (ps : List Permission) (t : Term) → T (lists ps t) →
    (p : Permission) × Member p ps × T (is_path p.permit) × (path_of p ≡ t)
unfolding lists paths
listed-entry ps t h =
    in-any _ (paths ps) h λ p i e.
    let (j, k) = keep-member (λ q. is_path q.permit) ps p i in (p, j, k, same→≡ _ _ e)

-- a term that is left is the term itself
pub without_is : (gone : List Permission) (t u : Term) → without_paths gone t ≡ some u → (T (lists gone t) → ⊥) × (t ≡ u)
unfolding without_paths
without_is gone t u e = go (lists gone t) e
  where
    go : (b : Bool) → cond b none (some t) ≡ some u → (T b → ⊥) × (t ≡ u)
    go true e = none-some e
    go false e = (λ z. z, some_inj e)

-- SUCCESSORS
module _ (◌~◌ : Equality) (ρ : Renaming) (ps : List Permission) (fs : List Fact) where
  -- a successor is left, and was ~
  pub successor-is :
      (t u : Term) → successor ◌~◌ ρ ps fs t ≡ some u → Member u (in_order ps fs) × (ρ u ≡ some u) × T (◌~◌ u t)
  unfolding successor
  successor-is t u e =
      let (i, h) = first-in _ (in_order ps fs) u e in
      let (l, q) = and_both (is_left ρ u) _ h in
      (i, left_is ρ u l, q)

  -- there is one where some term that is left was ~
  pub has-successor :
      (t u : Term) → Member u (in_order ps fs) → ρ u ≡ some u → T (◌~◌ u t) → (v : Term) × (successor ◌~◌ ρ ps fs t ≡ some v)
  unfolding successor
  has-successor t u i e q =
      first_some (λ u. is_left ρ u && ◌~◌ u t) (in_order ps fs) u i (and_intro (is_left ρ u) _ (is-left ρ u e) q)

  -- a term is renamed, or dropped and gives way
  pub gives-way :
      (t u : Term) → gives_way ◌~◌ ρ ps fs t ≡ some u → (ρ t ≡ some u) ⊎ ((ρ t ≡ none) × (successor ◌~◌ ρ ps fs t ≡ some u))
  unfolding gives_way
  gives-way t u e = go (ρ t) refl e
    where
      go :
          (o : Option Term) → ρ t ≡ o → elim o [ none ↦ successor ◌~◌ ρ ps fs t | some u ↦ some u ] ≡ some u →
          (ρ t ≡ some u) ⊎ ((ρ t ≡ none) × (successor ◌~◌ ρ ps fs t ≡ some u))
      go none r e = inr (r, e)
      go (some v) r e = inl (r ∙ e)

  pub way-renamed : (t u : Term) → ρ t ≡ some u → gives_way ◌~◌ ρ ps fs t ≡ some u
  unfolding gives_way
  way-renamed t u e = rw (e, gives_way)

  pub way-dropped : (t : Term) → ρ t ≡ none → gives_way ◌~◌ ρ ps fs t ≡ successor ◌~◌ ρ ps fs t
  unfolding gives_way
  way-dropped t e = rw (e, gives_way)

-- EQUALITIES THAT ARE LISTED
pub listed-fact :
    {a b : Term} (fs : List Fact) → Listed a b fs →
    (f : Fact) × Member f fs × (f.rel ≡ eq) × (f.left ≡ a) × (f.right ≡ b)
listed-fact (f ∷ fs) (here r p q) = (f, at_head, r, p, q)
listed-fact (f ∷ fs) (there l) = let (g, i, r, p, q) = listed-fact fs l in (g, further i, r, p, q)
listed-fact {a = a} {b = b} [] x' = elim x' [ ]

pub fact-listed :
    {a b : Term} (fs : List Fact) (f : Fact) → Member f fs → f.rel ≡ eq → f.left ≡ a → f.right ≡ b → Listed a b fs
fact-listed [] f i r p q = elim i [ ]
fact-listed {a} {b} (g ∷ fs) f i r p q =
    ⊎_elim (λ j. there (fact-listed fs f j r p q))
    (λ e. here (ap (λ (f : Fact). f.rel) (sym e) ∙ r) (ap (λ (f : Fact). f.left) (sym e) ∙ p) (ap (λ (f : Fact). f.right) (sym e) ∙ q))
    (head-or i)

pub listed-left : {a b : Term} (fs : List Fact) → Listed a b fs → Member a (terms_of fs)
unfolding terms_of
listed-left (f ∷ fs) (here r p q) = is-head (sym p)
listed-left (f ∷ fs) (there l) = further (further (listed-left fs l))
listed-left {a = a} {b = b} [] x' = elim x' [ ]

pub listed-right : {a b : Term} (fs : List Fact) → Listed a b fs → Member b (terms_of fs)
unfolding terms_of
listed-right (f ∷ fs) (here r p q) = further (is-head (sym q))
listed-right (f ∷ fs) (there l) = further (further (listed-right fs l))
listed-right {a = a} {b = b} [] x' = elim x' [ ]

-- THE LAW, over what becomes of terms
module _ (fs : List Fact) (g : Renaming) where
  -- ~ before, with each term counted as ~ to what becomes of it
  pub data Joined : Term → Term → Type 0 where
    alone : {t : Term} → Joined t t
    by-fact : {t u : Term} → Listed t u fs → Joined t u
    by_name : {t u : Term} → g t ≡ some u → Joined t u
    swapped : {t u : Term} → Joined t u → Joined u t
    chained : {t u v : Term} → Joined t u → Joined u v → Joined t v

  -- an equality after comes from one before
  fact-joined : {a b : Term} → Listed a b (rename_facts g fs) → Joined a b
  unfolding rename_facts rename_fact
  fact-joined {a} {b} l =
      let (f, i, r, p, q) = listed-fact _ l in
      let (j, _) = keep-member (λ f. not (trivial f)) (map_option (rename_fact g) fs) f i in
      let (f₀, k, e) = came_from (rename_fact g) fs f j in
      let (a₀, ea, e₁) = bind-some (g f₀.left) _ f e in
      let (b₀, eb, e₂) = bind-some (g f₀.right) _ f e₁ in
      let is : record { rel = f₀.rel; left = a₀; right = b₀ } ≡ f = some_inj e₂ in
      let l₀ : Listed f₀.left f₀.right fs = fact-listed fs f₀ k (ap (λ (f : Fact). f.rel) is ∙ r) refl refl in
      let ja : Joined f₀.left a = by_name (ea ∙ ap some (ap (λ (f : Fact). f.left) is ∙ p)) in
      let jb : Joined f₀.right b = by_name (eb ∙ ap some (ap (λ (f : Fact). f.right) is ∙ q)) in
      chained (swapped ja) (chained (by-fact l₀) jb)

  pub after-before : {a b : Term} → Linked (rename_facts g fs) a b → Joined a b
  after-before itself = alone
  after-before (listed l) = fact-joined l
  after-before (back l) = swapped (after-before l)
  after-before (onward l m) = chained (after-before l) (after-before m)

  -- two terms that are equal before: both with_permit nothing, or terms that are ~ after
  abbrev Meet : Option Term → Option Term → Type 0
  Meet none none = Unit {0}
  Meet none (some b) = ⊥
  Meet (some a) none = ⊥
  Meet (some a) (some b) = Linked (rename_facts g fs) a b

  meet-itself : (o : Option Term) → Meet o o
  meet-itself none = tt
  meet-itself (some a) = itself

  meet-back : (o q : Option Term) → Meet o q → Meet q o
  meet-back none none m = tt
  meet-back none (some b) m = m
  meet-back (some a) none m = m
  meet-back (some a) (some b) m = back m

  meet-onward : (o q r : Option Term) → Meet o q → Meet q r → Meet o r
  meet-onward none none r m n = n
  meet-onward none (some b) r m n = absurd m
  meet-onward (some a) none r m n = absurd m
  meet-onward (some a) (some b) none m n = n
  meet-onward (some a) (some b) (some c) m n = onward m n

  -- what a fact becomes is listed, or has one term on both sides
  fact-linked :
      (f : Fact) → Member f fs → f.rel ≡ eq → (a b : Term) → g f.left ≡ some a → g f.right ≡ some b →
      Linked (rename_facts g fs) a b
  unfolding rename_facts rename_fact bind_option trivial
  fact-linked f i r a b ea eb =
      let f₁ : Fact = record { rel = f.rel; left = a; right = b } in
      let j : Member f₁ (map_option (rename_fact g) fs) = went_to (rename_fact g) fs f f₁ (rw (ea, eb)) i in
      ⊎_elim
      (λ t. subst (λ b. Linked (rename_facts g fs) a b) (same→≡ a b (and_both (not (is_ne f.rel)) _ t).1) itself)
      (λ n. listed (fact-listed _ f₁ (member-keep (λ f. not (trivial f)) _ f₁ (not_T (trivial f₁) n) j) r refl refl))
      (decide-test (trivial f₁))

  -- a term becomes what is left, and where one side of an equality becomes nothing, so does the other
  module _ (stays : (t u : Term) → g t ≡ some u → g u ≡ some u)
      (whole : (t u : Term) → Member t (terms_of fs) → Linked fs t u → (a : Term) → g t ≡ some a → (b : Term) × (g u ≡ some b)) where
    listed-meet : (t u : Term) → Listed t u fs → (o q : Option Term) → g t ≡ o → g u ≡ q → Meet o q
    listed-meet t u l none none e k = tt
    listed-meet t u l none (some b) e k = let (a, z) = whole u t (listed-right fs l) (back (listed l)) b k in none-some (sym e ∙ z)
    listed-meet t u l (some a) none e k = let (b, z) = whole t u (listed-left fs l) (listed l) a e in none-some (sym k ∙ z)
    listed-meet t u l (some a) (some b) e k =
        let (f, i, r, p, q) = listed-fact fs l in fact-linked f i r a b (ap g p ∙ e) (ap g q ∙ k)

    joined-meet : {t u : Term} → Joined t u → Meet (g t) (g u)
    joined-meet {t} alone = meet-itself (g t)
    joined-meet {t} {u} (by-fact l) = listed-meet t u l (g t) (g u) refl refl
    joined-meet {t} {u} (by_name e) = rw (e, stays t u e) itself
    joined-meet {t} {u} (swapped j) = meet-back (g u) (g t) (joined-meet j)
    joined-meet {t} {u} (chained {u = v} j k) = meet-onward (g t) (g v) (g u) (joined-meet j) (joined-meet k)

    pub left-law : (a b : Term) → g a ≡ some a → g b ≡ some b → Linked (rename_facts g fs) a b ↔ Joined a b
    left-law a b ea eb =
        (after-before, λ j. let m : Meet (g a) (g b) = joined-meet j in let m₁ : Meet (some a) (g b) = rw ea at m in rw eb at m₁)

-- STATES: "equalities and inequalities over variables, constants and listed paths"
-- the order has every such term
insert-member : (n m : ℕ) (ns : List ℕ) → Member n ns ⊎ (n ≡ m) → Member n (insert m ns)
unfolding insert
insert-member n m [] (inl i) = elim i [ ]
insert-member n m [] (inr e) = is-head e
insert-member n m (k ∷ ns) i = go (leb (offset m) (offset k)) (λ j. insert-member n m ns j) i
  where
    go :
        (b : Bool) → (Member n ns ⊎ (n ≡ m) → Member n (insert m ns)) → Member n (k ∷ ns) ⊎ (n ≡ m) →
        Member n (cond b (m ∷ k ∷ ns) (k ∷ insert m ns))
    go true ih (inl i) = further i
    go true ih (inr e) = is-head e
    go false ih (inl i) = ⊎_elim (λ j. further (ih (inl j))) (λ e. is-head e) (head-or i)
    go false ih (inr e) = further (ih (inr e))

rising-member : (n : ℕ) (ns : List ℕ) → Member n ns → Member n (rising ns)
unfolding rising
rising-member n [] i = elim i [ ]
rising-member n (m ∷ ns) i = insert-member n m (rising ns) (⊎_elim (λ j. inl (rising-member n ns j)) (λ e. inr e) (head-or i))

number-here : (n : ℕ) (ts : List Term) → Member n (numbers (num n ∷ ts))
unfolding numbers
number-here n ts = at_head

number-there : (n : ℕ) (t : Term) (ts : List Term) → Member n (numbers ts) → Member n (numbers (t ∷ ts))
unfolding numbers
number-there n (num m) ts i = further i
number-there n null ts i = i
number-there n (var x) ts i = i
number-there n (path x f) ts i = i

number-member : (n : ℕ) (ts : List Term) → Member (num n) ts → Member n (numbers ts)
number-member n [] i = elim i [ ]
number-member n (t ∷ ts) i =
    ⊎_elim (λ j. number-there n t ts (number-member n ts j))
    (λ e. subst (λ u. Member n (numbers (u ∷ ts))) e (number-here n ts))
    (head-or i)

known_ordered : (ps : List Permission) (fs : List Fact) (t : Term) → Known ps t → Member t (terms_of fs) → Member t (in_order ps fs)
unfolding in_order paths
known_ordered ps fs (num n) k i =
    member_right (map var variables) _ _
    (member_right (map path_of (paths ps)) _ _ (further (member-map num _ n (rising-member n _ (number-member n (terms_of fs) i)))))
known_ordered ps fs null k i = member_right (map var variables) _ _ (member_right (map path_of (paths ps)) _ _ at_head)
known_ordered ps fs (var v) k i = member-left (map var variables) _ _ (member-map var variables v k)
known_ordered ps fs (path v f) k i =
    let (p, j, q, e) = listed-entry ps (path v f) k in
    subst (λ t. Member t (in_order ps fs)) e
    (member_right (map var variables) _ _
    (member-left (map path_of (paths ps)) _ _ (member-map path_of (paths ps) p (member-keep (λ q. is_path q.permit) ps p q j))))

-- and only such terms
pub order-known : (ps : List Permission) (fs : List Fact) (u : Term) → Member u (in_order ps fs) → Known ps u
unfolding in_order paths path_of
order-known ps fs u i =
    ⊎_elim
    (λ j. let (v, k, e) = map-member var variables u j in subst (Known ps) (sym e) k)
    (λ j.
    ⊎_elim
    (λ k.
    let (p, l, e) = map-member path_of (paths ps) u k in
    let (j, q) = keep-member (λ q. is_path q.permit) ps p l in
    subst (Known ps) (sym e) (entry_listed ps p j q))
    (λ k.
    ⊎_elim
    (λ l. let (_, _, e) = map-member num (rising (numbers (terms_of fs))) u l in subst (Known ps) (sym e) tt)
    (λ e. subst (Known ps) (sym e) tt)
    (head-or k))
    (append-member (map path_of (paths ps)) _ u j))
    (append-member (map var variables) _ u i)

-- DROPPING, where nothing is renamed
module _ (s : State) (ρ : Renaming) (ps : List Permission) (plain : (t u : Term) → ρ t ≡ some u → t ≡ u)
    (known : (t : Term) → Member t (terms_of s.facts) → ρ t ≡ some t → Known ps t) where
  abbrev way : Renaming
  way = becomes s ρ ps

  -- what a term becomes is left and was ~
  way-is : (t u : Term) → way t ≡ some u → (ρ u ≡ some u) × Linked s.facts t u
  unfolding becomes
  way-is t u e =
      ⊎_elim
      (λ k. let is : t ≡ u = plain t u k in (subst (λ v. ρ v ≡ some u) is k, subst (λ v. Linked s.facts t v) is itself))
      (λ (_, k). let (i, l, q) = successor-is (equal_in s) ρ ps s.facts t u k in (l, back (equal_in-sound s u t q)))
      (gives-way (equal_in s) ρ ps s.facts t u e)

  left-way : (t : Term) → ρ t ≡ some t → way t ≡ some t
  unfolding becomes
  left-way t e = way-renamed (equal_in s) ρ ps s.facts t t e

  -- it is in the order
  way-ordered : (t u : Term) → Member t (terms_of s.facts) → way t ≡ some u → Member u (in_order ps s.facts)
  unfolding becomes
  way-ordered t u i e =
      ⊎_elim
      (λ k. let is : t ≡ u = plain t u k in
      subst (λ v. Member v (in_order ps s.facts)) is
      (known_ordered ps s.facts t (known t i (k ∙ ap some (sym is))) i))
      (λ (_, k). (successor-is (equal_in s) ρ ps s.facts t u k).0)
      (gives-way (equal_in s) ρ ps s.facts t u e)

  way-whole :
      (t u : Term) → Member t (terms_of s.facts) → Linked s.facts t u → (a : Term) → way t ≡ some a →
      (b : Term) × (way u ≡ some b)
  unfolding becomes
  way-whole t u i l a e =
      ⊎_elim
      (λ n.
      let (k, m) = way-is t a e in
      let (b, z) = has-successor (equal_in s) ρ ps s.facts u a (way-ordered t a i e) k (equal_in-complete s a u (onward (back m) l)) in
      (b, way-dropped (equal_in s) ρ ps s.facts u n ∙ z))
      (λ (b, z). (b, way-renamed (equal_in s) ρ ps s.facts u b z))
      (option_cases (ρ u))

  joined-linked : {t u : Term} → Joined s.facts way t u → Linked s.facts t u
  joined-linked alone = itself
  joined-linked (by-fact l) = listed l
  joined-linked {t} {u} (by_name e) = (way-is t u e).1
  joined-linked (swapped j) = back (joined-linked j)
  joined-linked (chained j k) = onward (joined-linked j) (joined-linked k)

  linked-joined : {t u : Term} → Linked s.facts t u → Joined s.facts way t u
  linked-joined itself = alone
  linked-joined (listed l) = by-fact l
  linked-joined (back j) = swapped (linked-joined j)
  linked-joined (onward j k) = chained (linked-joined j) (linked-joined k)

  -- "two terms that are left shall be ~ exactly if they were ~ before"
  pub drop-law :
      (s' : State) → s'.facts ≡ rename_facts way s.facts → (a b : Term) → ρ a ≡ some a → ρ b ≡ some b →
      T (equal_in s' a b) ↔ T (equal_in s a b)
  drop-law s' e a b ea eb =
      let L = left-law s.facts way (λ t u k. left-way u (way-is t u k).0) way-whole a b (left-way a ea) (left-way b eb) in (
        λ h. equal_in-complete s a b (joined-linked (L.0 (subst (λ fs. Linked fs a b) e (equal_in-sound s' a b h)))),
        λ h. equal_in-complete s' a b (subst (λ fs. Linked fs a b) (sym e) (L.1 (linked-joined (equal_in-sound s a b h)))),
      )
