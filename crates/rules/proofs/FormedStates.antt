-- Each rule of the checker keeps a state what the paper says it is: facts over variables, constants and listed paths (`Formed`), which
-- the law of what is left asks for.
use mathlib.Core.Path.{◌≡◌, refl, sym, ap, subst}
use mathlib.Core.Bool.{Bool, true, false, not, cond}
use mathlib.Core.List.{List, [], ◌∷◌, ◌++◌, map}
use mathlib.Core.Logic.{◌⊎◌, inl, inr, ⊎_elim}
use mathlib.Core.Option.{Option, none, some}
use Prim.Native.Nat.{ℕ}
use lib.Dec.{T, eqb}
use lib.ListN.{get_or}
use Rattle.rules.specs.Base.{ok, any, keep, first, map_option, bind_option, or_else, Member, at_head, further}
use Rattle.rules.specs.Answers.{unresolved, not_shown, no_permission}
use Rattle.rules.specs.Syntax.{Rel, Permit, Formula, Field, Method, Program, Simple, method_numbered, num, null, var, path, acc, read, chain, is_path, own, cmp, eq, ne, set, assign, compute, new, call, assert, release, open_chain, shut_chain, same, this_variable, parameter, result_variable}
use Rattle.rules.specs.State.{Term, Permission, Fact, State, Equality, Split, Renaming, empty, entry, path_of, equal_in, entry_of, names, resolve, holds_in, split, leaves, with_permit, giving, take_own, show, paths, lists}
use Rattle.rules.specs.State.{variables, terms_of, becomes, rename_fact, trivial, rename_facts, without_paths, facts_without, drop_paths, unlisted, remainder, rename_term, rename_permissions, stand_in, removed_term, remove_to, remove, add_permission, add_fact, joining, joins, add_read, add_own, add}
use Rattle.rules.specs.Rules.{actual, subst_term, subst_atom, add_equal, assign_rule, add_fields, initial, add_initial, new_rule, set_rule, call_rule, open_rule, shut_rule, opposite, if_rule, rule}
use Rattle.rules.proofs.Lists.{and_both, head-or, is-head, append-member, member-left, member_right, keep-member, came_from, end-member, bind-some, some_inj, none-some, first-in}
use Rattle.rules.proofs.Tries.{bind_ok, check-ok, or_else-ok, ok-inj}
use Rattle.rules.specs.Reached.{Known, Formed}
use Rattle.rules.proofs.Successors.{entry_listed, listed-entry, order-known, gives-way, successor-is, without_is}
use Rattle.rules.proofs.Dropping.{LeftOr, still-known, kept-or-unlisted, renamed-known}

-- TERMS OF FACTS
side-fact : (fs : List Fact) (t : Term) → Member t (terms_of fs) → (f : Fact) × Member f fs × ((t ≡ f.left) ⊎ (t ≡ f.right))
unfolding terms_of
side-fact [] t i = elim i [ ]
side-fact (f ∷ fs) t i =
    ⊎_elim
    (λ j.
    ⊎_elim (λ k. let (g, m, e) = side-fact fs t k in (g, further m, e)) (λ e. (f, at_head, inr e)) (head-or j))
    (λ e. (f, at_head, inl e))
    (head-or i)

fact-sides : (fs : List Fact) (f : Fact) → Member f fs → Member f.left (terms_of fs) × Member f.right (terms_of fs)
unfolding terms_of
fact-sides [] f i = elim i [ ]
fact-sides (g ∷ fs) f i =
    ⊎_elim (λ j. let (a, b) = fact-sides fs f j in (further (further a), further (further b)))
    (λ e. (is-head (ap (λ (f : Fact). f.left) e), further (is-head (ap (λ (f : Fact). f.right) e))))
    (head-or i)

-- what a state is, by its facts
sides-formed : (s : State) → ((f : Fact) → Member f s.facts → Known s.permissions f.left × Known s.permissions f.right) → Formed s
sides-formed s K t i =
    let (f, j, e) = side-fact s.facts t i in
    ⊎_elim (λ w. subst (Known s.permissions) (sym w) (K f j).0) (λ w. subst (Known s.permissions) (sym w) (K f j).1) e

formed-sides : (s : State) → Formed s → (f : Fact) → Member f s.facts → Known s.permissions f.left × Known s.permissions f.right
formed-sides s F f i = let (a, b) = fact-sides s.facts f i in (F _ a, F _ b)

pub formed-empty : Formed empty
unfolding terms_of
formed-empty t i = elim i [ ]

-- a name that is listed stays listed
abbrev Still : List Permission → List Permission → Type 0
Still ps qs = (t : Term) → T (lists ps t) → T (lists qs t)

known_more : (ps qs : List Permission) (t : Term) → Still ps qs → Known ps t → Known qs t
known_more ps qs (num n) m k = tt
known_more ps qs null m k = tt
known_more ps qs (var v) m k = k
known_more ps qs (path v f) m k = m _ k

still-more : (ps qs : List Permission) → ((p : Permission) → Member p ps → Member p qs) → Still ps qs
still-more ps qs m t h =
    let (p, i, k, e) = listed-entry ps t h in subst (λ t. T (lists qs t)) e (entry_listed qs p (m p i) k)

path-known : (ps : List Permission) (p : Permission) → Member p ps → T (is_path p.permit) → Known ps (path_of p)
unfolding path_of
path-known ps p i k = entry_listed ps p i k

-- the entry that gave way, and what came in its place
pub record Parted (t : Permission → Option (List Permission)) (ps : List Permission) (c : Split) : Type 0 where
  pub gives : t c.taken ≡ some c.left
  pub was : Member c.taken ps
  pub stays : (p : Permission) → Member p ps → Member p c.list ⊎ (p ≡ c.taken)
  pub comes : (p : Permission) → Member p c.left → Member p c.list
  pub from : (p : Permission) → Member p c.list → Member p ps ⊎ Member p c.left

pub parted : (t : Permission → Option (List Permission)) (ps : List Permission) (c : Split) → split t ps ≡ some c → Parted t ps c
unfolding split
parted t [] c e = none-some e
parted t (p ∷ ps) c e = go (t p) refl e (λ d k. parted t ps d k)
  where
    go :
        (o : Option (List Permission)) → t p ≡ o →
        elim o [
          | some l ↦ some (record { taken = p; left = l; list = l ++ ps })
          | none ↦ bind_option (split t ps) (λ c. some (record { taken = c.taken; left = c.left; list = p ∷ c.list }))
        ]
        ≡ some c →
        ((d : Split) → split t ps ≡ some d → Parted t ps d) → Parted t (p ∷ ps) c
    go (some l) r e ih =
        subst (Parted t (p ∷ ps)) (some_inj e)
        (record {
          gives = r;
          was = at_head;
          stays = λ q i. ⊎_elim (λ j. inl (member_right l ps q j)) (λ w. inr w) (head-or i);
          comes = λ q i. member-left l ps q i;
          from = λ q i. ⊎_elim (λ j. inr j) (λ j. inl (further j)) (append-member l ps q i);
        })
    go none r e ih =
        let (d, k, z) = bind-some (split t ps) _ c e in
        let D : Parted t ps d = ih d k in
        subst (Parted t (p ∷ ps)) (some_inj z)
        (record {
          gives = D.gives;
          was = further D.was;
          stays = λ q i. ⊎_elim (λ j. ⊎_elim (λ m. inl (further m)) (λ w. inr w) (D.stays q j)) (λ w. inl (is-head w)) (head-or i);
          comes = λ q i. further (D.comes q i);
          from =
              λ q i.
              ⊎_elim (λ j. ⊎_elim (λ m. inl (further m)) (λ m. inr m) (D.from q j)) (λ w. inl (is-head w)) (head-or i);
        })

-- ADDING
pub formed-fact :
    (n : Rel) (t u : Term) (s s' : State) → Formed s → Known s.permissions t → Known s.permissions u →
    add_fact n t u s ≡ ok s' → Formed s' × (s'.permissions ≡ s.permissions)
unfolding add_fact
formed-fact n t u s s' F a b e =
    let is = ok-inj (check-ok _ _ e).1 in (
      subst Formed is
          (sides-formed _
          (λ f i.
          ⊎_elim (λ j. formed-sides s F f j)
          (λ w. (
            subst (Known s.permissions) (sym (ap (λ (f : Fact). f.left) w)) a,
            subst (Known s.permissions) (sym (ap (λ (f : Fact). f.right) w)) b,
          ))
          (end-member s.facts _ f i))),
      ap (λ (s : State). s.permissions) (sym is),
    )

pub formed-permission :
    (p : Permission) (s s' : State) → Formed s → add_permission p s ≡ ok s' →
    Formed s' × (s'.permissions ≡ s.permissions ++ (p ∷ []))
unfolding add_permission
formed-permission p s s' F e =
    let is = ok-inj (check-ok _ _ e).1 in
    (subst Formed is (λ t i. known_more s.permissions _ t (still-more s.permissions _ (member-left s.permissions (p ∷ []))) (F t i)), ap (λ (s : State). s.permissions) (sym is))

-- variables of a frame
abbrev pub Named : Term → Type 0
Named (num n) = Unit {0}
Named null = Unit {0}
Named (var v) = Member v variables
Named (path v f) = Unit {0}

abbrev pub NamedFormula : Formula ℕ → Type 0
NamedFormula [] = Unit {0}
NamedFormula (own k x f ∷ φ) = NamedFormula φ
NamedFormula (cmp n a b ∷ φ) = Named a × Named b × NamedFormula φ

pub resolved-known : (◌~◌ : Equality) (ps : List Permission) (e t : Term) → Named e → resolve ◌~◌ ps e ≡ ok t → Known ps t
unfolding resolve names
resolved-known l ps (num n) t k r = subst (Known ps) (ok-inj r) tt
resolved-known l ps null t k r = subst (Known ps) (ok-inj r) tt
resolved-known l ps (var x) t k r = subst (Known ps) (ok-inj r) k
resolved-known l ps (path y f) t k r =
    let (p, e, q) = bind_ok (or_else (first (names l y f) ps) unresolved) r in
    let (i, g) = first-in (names l y f) ps p (or_else-ok _ unresolved p e) in
    subst (Known ps) (ok-inj q) (path-known ps p i (and_both (is_path p.permit) _ g).0)

-- a `read` that becomes an `acc` is listed under its name
joined-still :
    (◌~◌ : Equality) (x f : ℕ) (ps : List Permission) (c : Split) → split (joins ◌~◌ x f) ps ≡ some c → Still ps c.list
unfolding joins joining with_permit path_of is_path
joined-still ◌~◌ x f ps c e t h =
    let D : Parted (joins ◌~◌ x f) ps c = parted _ ps c e in
    let (p, i, k, z) = listed-entry ps t h in
    subst (λ t. T (lists c.list t)) z
    (⊎_elim (λ j. entry_listed c.list p j k)
    (λ w.
    subst (λ (q : Permission). T (lists c.list (path q.variable q.field))) (sym w)
    (entry_listed c.list (entry acc c.taken.variable c.taken.field)
    (D.comes _ (is-acc (entry_of ◌~◌ (var x) f c.taken) c.taken.permit D.gives)) tt))
    (D.stays p i))
  where
    is-acc :
        (b : Bool) (k : Permit) → cond b (joining k c.taken) none ≡ some c.left →
        Member (entry acc c.taken.variable c.taken.field) c.left
    is-acc true acc q = none-some q
    is-acc true read q = subst (Member _) (some_inj q) at_head
    is-acc true chain q = none-some q
    is-acc false k q = none-some q

pub formed-own : (k : Permit) (x f : ℕ) (s s' : State) → Formed s → add_own k x f s ≡ ok s' → Formed s'
unfolding add_own add_read
formed-own acc x f s s' F e = (formed-permission (entry acc x f) s s' F e).0
formed-own chain x f s s' F e = (formed-permission (entry chain x f) s s' F e).0
formed-own read x f s s' F e = go (split (joins (equal_in s) x f) s.permissions) refl e
  where
    go : (o : Option Split) → split (joins (equal_in s) x f) s.permissions ≡ o → add_read x f s o ≡ ok s' → Formed s'
    go none r q = (formed-permission (entry read x f) s s' F q).0
    go (some c) r q =
        subst Formed (ok-inj q) (λ t i. known_more s.permissions _ t (joined-still (equal_in s) x f s.permissions c r) (F t i))

pub formed-add : (φ : Formula ℕ) (s s' : State) → NamedFormula φ → Formed s → add φ s ≡ ok s' → Formed s'
unfolding add
formed-add [] s s' N F e = subst Formed (ok-inj e) F
formed-add (own k x f ∷ φ) s s' N F e =
    let (s₁, a, b) = bind_ok (add_own k x f s) e in formed-add φ s₁ s' N (formed-own k x f s s₁ F a) b
formed-add (cmp n a b ∷ φ) s s' N F e =
    let (t, i, e₁) = bind_ok (resolve (equal_in s) s.permissions a) e in
    let (u, j, e₂) = bind_ok (resolve (equal_in s) s.permissions b) e₁ in
    let (s₁, d, e₃) = bind_ok (add_fact n t u s) e₂ in
    formed-add φ s₁ s' N.2
    (formed-fact n t u s s₁ F (resolved-known _ _ a t N.0 i) (resolved-known _ _ b u N.1 j) d).0 e₃

-- DROPPING
module _ (s : State) (F : Formed s) (ρ : Renaming) (ps : List Permission)
    (renamed : (t u : Term) → ρ t ≡ some u → Known s.permissions t → Known ps u) where
  pub became-known : (t u : Term) → becomes s ρ ps t ≡ some u → Known s.permissions t → Known ps u
  unfolding becomes
  became-known t u e k =
      ⊎_elim (λ r. renamed t u r k)
      (λ (_, r). order-known ps s.facts u (successor-is (equal_in s) ρ ps s.facts t u r).0)
      (gives-way (equal_in s) ρ ps s.facts t u e)

  pub became-formed : Formed (record { permissions = ps; facts = rename_facts (becomes s ρ ps) s.facts })
  unfolding rename_facts rename_fact
  became-formed =
      sides-formed _
      (λ g i.
      let (j, _) = keep-member (λ f. not (trivial f)) (map_option (rename_fact (becomes s ρ ps)) s.facts) g i in
      let (f, k, e) = came_from (rename_fact (becomes s ρ ps)) s.facts g j in
      let (a, p, e₁) = bind-some (becomes s ρ ps f.left) _ g e in
      let (b, q, e₂) = bind-some (becomes s ρ ps f.right) _ g e₁ in
      let (x, y) = formed-sides s F f k in
      let is : record { rel = f.rel; left = a; right = b } ≡ g = some_inj e₂ in (
        subst (λ (g : Fact). Known ps g.left) is (became-known f.left a p x),
        subst (λ (g : Fact). Known ps g.right) is (became-known f.right b q y),
      ))

pub formed-dropped :
    (gone ps : List Permission) (s : State) → Formed s → LeftOr s ps gone → Formed (drop_paths gone ps s)
unfolding drop_paths facts_without lists paths keep any
formed-dropped [] ps s F all =
    λ t i. known_more s.permissions _ t (λ t j. ⊎_elim (λ k. k) (λ k. absurd k) (all t j)) (F t i)
formed-dropped (p ∷ gone) ps s F all =
    became-formed s F (without_paths (p ∷ gone)) ps
    (λ t u e k. let (out, is) = without_is (p ∷ gone) t u e in subst (Known ps) is (still-known s ps (p ∷ gone) all t out k))

pub formed-remainder : (s : State) (kept : List Permission) → Formed s → Formed (remainder s kept)
unfolding remainder
formed-remainder s kept F = formed-dropped (unlisted kept s.permissions) kept s F (kept-or-unlisted s kept)

-- REMOVING
stand_in-named : (s : State) (x w : ℕ) → stand_in s x ≡ some w → Member w variables
unfolding stand_in
stand_in-named s x w e = (first-in _ variables w e).0

module _ (s : State) (F : Formed s) (x : ℕ) where
  pub formed-removed : Formed (remove x s)
  unfolding remove remove_to removed_term
  formed-removed =
      became-formed s F (rename_term x (stand_in s x)) (rename_permissions x (stand_in s x) s.permissions)
      (renamed-known x (stand_in s x) s.permissions (stand_in-named s x))

  -- what becomes of a term is known then
  pub removed-known : (t u : Term) → removed_term x (stand_in s x) s t ≡ some u → Known s.permissions t → Known (remove x s).permissions u
  unfolding remove remove_to removed_term
  removed-known =
      became-known s F (rename_term x (stand_in s x)) (rename_permissions x (stand_in s x) s.permissions)
      (renamed-known x (stand_in s x) s.permissions (stand_in-named s x))

-- RULES
pub formed-if : (n : Rel) (a b : Term) (s : State) (c : State × State) → Named a → Named b → Formed s → if_rule n a b s ≡ ok c → Formed c.0 × Formed c.1
unfolding if_rule
formed-if n a b s c na nb F e =
    let (t, i, e₁) = bind_ok (resolve (equal_in s) s.permissions a) e in
    let (u, j, e₂) = bind_ok (resolve (equal_in s) s.permissions b) e₁ in
    let (s₁, d, e₃) = bind_ok (add_fact n t u s) e₂ in
    let (s₂, g, e₄) = bind_ok (add_fact (opposite n) t u s) e₃ in
    let kt = resolved-known _ _ a t na i in
    let ku = resolved-known _ _ b u nb j in
    subst (λ (c : State × State). Formed c.0 × Formed c.1) (ok-inj e₄)
    ((formed-fact n t u s s₁ F kt ku d).0, (formed-fact (opposite n) t u s s₂ F kt ku g).0)

formed-equal :
    (x : ℕ) (o : Option Term) (s s' : State) → Member x variables → ((t : Term) → o ≡ some t → Known s.permissions t) → Formed s →
    add_equal x o s ≡ ok s' → Formed s'
unfolding add_equal
formed-equal x none s s' v k F e = subst Formed (ok-inj e) F
formed-equal x (some t) s s' v k F e = (formed-fact eq (var x) t s s' F v (k t refl) e).0

pub formed-assign : (x : ℕ) (a : Term) (s s' : State) → Member x variables → Named a → Formed s → assign_rule x a s ≡ ok s' → Formed s'
unfolding assign_rule remove
formed-assign x a s s' v na F e =
    let (r, i, e₁) = bind_ok (resolve (equal_in s) s.permissions a) e in go r (resolved-known _ _ a r na i) (same r (var x)) e₁
  where
    go :
        (r : Term) → Known s.permissions r → (b : Bool) →
        cond b (ok s) (add_equal x (removed_term x (stand_in s x) s r) (remove_to x (stand_in s x) s)) ≡ ok s' → Formed s'
    go r k true e = subst Formed (ok-inj e) F
    go r k false e =
        formed-equal x (removed_term x (stand_in s x) s r) (remove_to x (stand_in s x) s) s' v (λ t m. removed-known s F x r t m k)
        (formed-removed s F x) e

-- the path that shows `acc x f` is listed
acc-known :
    (◌~◌ : Equality) (t : Term) (f : ℕ) (ps : List Permission) (c : Split) → split (giving ◌~◌ acc t f) ps ≡ some c →
    Known ps (path_of c.taken)
unfolding giving leaves is_path bind_option
acc-known ◌~◌ t f ps c e =
    let D : Parted (giving ◌~◌ acc t f) ps c = parted _ ps c e in
    path-known ps c.taken D.was (go (entry_of ◌~◌ t f c.taken) c.taken.permit D.gives)
  where
    go :
        (b : Bool) (k : Permit) →
        cond b (bind_option (leaves acc k) (λ ks. some (map (with_permit c.taken) ks))) none ≡ some c.left → T (is_path k)
    go true acc q = tt
    go true read q = none-some q
    go true chain q = none-some q
    go false k q = none-some q

pub formed-set : (x f y : ℕ) (s s' : State) → Member y variables → Formed s → set_rule x f y s ≡ ok s' → Formed s'
unfolding set_rule drop_paths path_of
formed-set x f y s s' v F e =
    let (c, o, e₁) = bind_ok (or_else (split (giving (equal_in s) acc (var x) f) s.permissions) no_permission) e in
    (formed-fact eq (path_of c.taken) (var y) (drop_paths (c.taken ∷ []) s.permissions s) s'
    (formed-dropped (c.taken ∷ []) s.permissions s F (λ t i. inl i))
    (acc-known _ (var x) f s.permissions c (or_else-ok _ no_permission c o)) v e₁).0

-- `new`: every path that is said to be null or 0 is listed first
fields-formed :
    (x : ℕ) (fs : List Field) (s s' : State) → Formed s → add_fields x fs s ≡ ok s' →
    Formed s' × ((p : Permission) → Member p s.permissions → Member p s'.permissions)
    × ((g : Field) → Member g fs → Member (entry acc x g.name) s'.permissions)
unfolding add_fields
fields-formed x [] s s' F e =
    (subst Formed (ok-inj e) F, λ p i. subst (λ (s : State). Member p s.permissions) (ok-inj e) i, λ g i. elim i [ ])
fields-formed x (f ∷ fs) s s' F e =
    let p₀ : Permission = entry acc x f.name in
    let (s₁, a, b) = bind_ok (add_permission p₀ s) e in
    let (F₁, is) = formed-permission p₀ s s₁ F a in
    let (F₂, more, all) = fields-formed x fs s₁ s' F₁ b in
    let here : Member p₀ s₁.permissions = subst (Member p₀) (sym is) (member_right s.permissions (p₀ ∷ []) p₀ at_head) in (
      F₂,
      λ p i. more p (subst (Member p) (sym is) (member-left s.permissions (p₀ ∷ []) p i)),
      λ g i.
          ⊎_elim (λ j. all g j)
          (λ w. subst (λ (g : Field). Member (entry acc x g.name) s'.permissions) (sym w) (more p₀ here))
          (head-or i),
    )

initial-known : (ps : List Permission) (g : Field) → Known ps (initial g)
unfolding initial
initial-known ps g = go g.int
  where
    go : (b : Bool) → Known ps (cond b (num 0) null)
    go true = tt
    go false = tt

initials-formed :
    (x : ℕ) (fs : List Field) (s s' : State) → Formed s →
    ((g : Field) → Member g fs → Member (entry acc x g.name) s.permissions) → add_initial x fs s ≡ ok s' → Formed s'
unfolding add_initial path_of is_path
initials-formed x [] s s' F L e = subst Formed (ok-inj e) F
initials-formed x (f ∷ fs) s s' F L e =
    let (s₁, a, b) = bind_ok (add_fact eq (path x f.name) (initial f) s) e in
    let (F₁, is) = formed-fact eq (path x f.name) (initial f) s s₁ F (path-known s.permissions (entry acc x f.name) (L f at_head) tt) (initial-known s.permissions f) a in
    initials-formed x fs s₁ s' F₁ (λ g i. subst (Member _) (sym is) (L g (further i))) b

pub formed-new : (x : ℕ) (fs : List Field) (s s' : State) → Member x variables → Formed s → new_rule x fs s ≡ ok s' → Formed s'
unfolding new_rule
formed-new x fs s s' v F e =
    let (s₁, a, e₁) = bind_ok (add_fields x fs (remove x s)) e in
    let (s₂, b, c) = bind_ok (add_fact ne (var x) null s₁) e₁ in
    let (F₁, _, all) = fields-formed x fs (remove x s) s₁ (formed-removed s F x) a in
    let (F₂, is) = formed-fact ne (var x) null s₁ s₂ F₁ v tt b in
    initials-formed x fs s₂ s' F₂ (λ g i. subst (Member _) (sym is) (all g i)) c

-- the actual names of a call
actual-named : (x y z v : ℕ) → Member x variables → Member y variables → Member z variables → Member v variables → Member (actual y z x v) variables
unfolding actual
actual-named x y z v mx my mz mv = go (eqb v this_variable) (eqb v parameter) (eqb v result_variable)
  where
    go : (a b c : Bool) → Member (cond a y (cond b z (cond c x v))) variables
    go true b c = my
    go false true c = mz
    go false false true = mx
    go false false false = mv

module _ (x y z : ℕ) (mx : Member x variables) (my : Member y variables) (mz : Member z variables) where
  term-named : (t : Term) → Named t → Named (subst_term (actual y z x) t)
  unfolding subst_term
  term-named (num n) k = tt
  term-named null k = tt
  term-named (var v) k = actual-named x y z v mx my mz k
  term-named (path v f) k = tt

  formula-named : (φ : Formula ℕ) → NamedFormula φ → NamedFormula (map (subst_atom (actual y z x)) φ)
  unfolding subst_atom
  formula-named [] N = tt
  formula-named (own k v f ∷ φ) N = formula-named φ N
  formula-named (cmp n a b ∷ φ) N = (term-named a N.0, term-named b N.1, formula-named φ N.2)

  pub formed-call :
      (M : Method) (s s' : State) → NamedFormula M.ensures → Formed s → call_rule x y M z s ≡ ok s' → Formed s'
  unfolding call_rule
  formed-call M s s' N F e =
      let (_, e₁) = check-ok (holds_in (equal_in s) s ne (var y) null) not_shown e in
      let (r, a, e₂) = bind_ok (show s (map (subst_atom (actual y z x)) M.requires)) e₁ in
      formed-add (map (subst_atom (actual y z x)) M.ensures) (remove x (remainder s r)) s' (formula-named M.ensures N)
      (formed-removed (remainder s r) (formed-remainder s r F) x) e₂

-- `open`: `x.f` is listed before it is said to be y
pub formed_open : (y x f : ℕ) (s s' : State) → Member y variables → Formed s → open_rule y x f s ≡ ok s' → Formed s'
unfolding open_rule path_of is_path
formed_open y x f s s' v F e =
    let (_, e₁) = check-ok (holds_in (equal_in s) s ne (var x) null) not_shown e in
    let (r, _, e₂) = bind_ok (take_own (equal_in s) chain (var x) f s.permissions) e₁ in
    let s₀ : State = remove y (remainder s r) in
    let p : Permission = entry acc x f in
    let (s₁, a, e₃) = bind_ok (add_permission p s₀) e₂ in
    let (s₂, b, e₄) = bind_ok (add_fact eq (path x f) (var y) s₁) e₃ in
    let (F₁, is) = formed-permission p s₀ s₁ (formed-removed (remainder s r) (formed-remainder s r F) y) a in
    let at-end : Member p s₁.permissions = subst (Member p) (sym is) (member_right s₀.permissions (p ∷ []) p at_head) in
    let (F₂, _) = formed-fact eq (path x f) (var y) s₁ s₂ F₁ (path-known s₁.permissions p at-end tt) v b in
    (formed-permission (entry chain y f) s₂ s' F₂ e₄).0

pub formed-shut : (x f : ℕ) (s s' : State) → Formed s → shut_rule x f s ≡ ok s' → Formed s'
unfolding shut_rule
formed-shut x f s s' F e =
    let (p, _, e₁) = bind_ok (or_else (first (names (equal_in s) x f) s.permissions) no_permission) e in
    let (r, _, e₂) = bind_ok (take_own (equal_in s) chain (path_of p) f s.permissions) e₁ in
    let (r', _, e₃) = bind_ok (take_own (equal_in s) acc (var x) f r) e₂ in
    (formed-permission (entry chain x f) (remainder s r') s' (formed-remainder s r' F) e₃).0

-- what a statement names
abbrev pub NamedSimple : Program → Simple → Type 0
NamedSimple P (set x f y) = Member y variables
NamedSimple P (assign x e) = Member x variables × Named e
NamedSimple P (compute o x y z) = Unit {0}
NamedSimple P (new x c) = Member x variables
NamedSimple P (call x y m z) =
    Member x variables × Member y variables × Member z variables × NamedFormula (method_numbered P m).ensures
NamedSimple P (assert φ) = Unit {0}
NamedSimple P (release φ) = Unit {0}
NamedSimple P (open_chain y x f) = Member y variables
NamedSimple P (shut_chain x f) = Unit {0}

-- THE CLAIM
pub formed-rule : (P : Program) (p : Simple) (s s' : State) → NamedSimple P p → Formed s → rule P p s ≡ ok s' → Formed s'
unfolding rule
formed-rule P (set x f y) s s' N F e = formed-set x f y s s' N F e
formed-rule P (assign x a) s s' N F e = formed-assign x a s s' N.0 N.1 F e
formed-rule P (compute o x y z) s s' N F e = subst Formed (ok-inj e) (formed-removed s F x)
formed-rule P (new x c) s s' N F e = formed-new x (get_or P.classes c []) s s' N F e
formed-rule P (call x y m z) s s' N F e = formed-call x y z N.0 N.1 N.2 (method_numbered P m) s s' N.3 F e
formed-rule P (assert φ) s s' N F e = let (_, _, q) = bind_ok (show s φ) e in subst Formed (ok-inj q) F
formed-rule P (release φ) s s' N F e =
    let (r, a, q) = bind_ok (show s φ) e in subst Formed (ok-inj q) (formed-remainder s r F)
formed-rule P (open_chain y x f) s s' N F e = formed_open y x f s s' N F e
formed-rule P (shut_chain x f) s s' N F e = formed-shut x f s s' F e
