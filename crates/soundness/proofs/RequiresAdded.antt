-- Requires, added to nothing: after number 10, and with its few atoms, it is never refused.
use mathlib.Core.Path.{◌≡◌, refl, sym, ap, ◌∙◌, subst}
use mathlib.Core.Bool.{Bool, true, false, cond, ◌&&◌}
use mathlib.Core.List.{List, [], ◌∷◌, ◌++◌}
use mathlib.Core.Logic.{⊎_elim}
use mathlib.Core.Option.{Option, none, some}
use Prim.Native.Nat.{ℕ, zero, suc, ◌+◌, ◌≤◌, ◌<◌}
use native.Mathlib.Omega.{arith}
use lib.Dec.{T, eqb, eqb→eq, eqb_refl, lt→ltb}
use lib.ListN.{length, length-append}
use Rattle.rules.specs.Base.{Name, Try, ok, ◌>>=◌, or_else, bind_option, Member, at_head}
use Rattle.rules.specs.Limits.{most_atoms, most_permissions, most_facts}
use Rattle.rules.specs.Answers.{Refusal, state_full}
use Rattle.rules.specs.Syntax.{Rel, Permit, Formula, num, null, var, path, acc, read, chain, is_path, own, cmp}
use Rattle.rules.specs.Text.{is_atom, is_formula, formula_of}
use Rattle.rules.specs.Reading.{Access, framed_expr, framed}
use Rattle.rules.specs.State.{Term, Fact, State, Permission, Equality, Split, empty, entry, path_of, entry_of, names, equal_in, resolve, split, with_permit, joining, joins, add_read, add_own, add_permission, add_fact, add}
use Rattle.rules.proofs.Lists.{head-or, member-left, member_right, in-any, first_some, and_both, and_intro, some_inj, none-some, bind-some}
use Rattle.rules.proofs.Tries.{bind-of-ok, pass}
use Rattle.rules.proofs.Closure.{Linked, itself, listed, back, onward, equal_in-sound, equal_in-complete}
use Rattle.rules.proofs.Successors.{listed-fact, fact-listed}
use Rattle.rules.proofs.FormedStates.{Parted, parted}

-- MORE FACTS: what was ~ is ~
linked-more : (fs gs : List Fact) → ((f : Fact) → Member f fs → Member f gs) → {t u : Term} → Linked fs t u → Linked gs t u
linked-more fs gs m itself = itself
linked-more fs gs m (listed l) = let (f, i, r, p, q) = listed-fact fs l in listed (fact-listed gs f (m f i) r p q)
linked-more fs gs m (back l) = back (linked-more fs gs m l)
linked-more fs gs m (onward k l) = onward (linked-more fs gs m k) (linked-more fs gs m l)

names_more :
    (s s' : State) → ((f : Fact) → Member f s.facts → Member f s'.facts) → (y f : ℕ) (p : Permission) →
    T (names (equal_in s) y f p) → T (names (equal_in s') y f p)
unfolding names entry_of
names_more s s' m y f p h =
    let (t, g) = and_both (is_path p.permit) _ h in
    let (a, b) = and_both (eqb p.field f) _ g in
    and_intro (is_path p.permit) _ t
    (and_intro (eqb p.field f) _ a
    (equal_in-complete s' _ _ (linked-more s.facts s'.facts m (equal_in-sound s _ _ b))))

-- THE PATHS OF A FRAMED FORMULA RESOLVE
-- what stands before the next atom: a chain is no listed path
abbrev With : Permit → ℕ → ℕ → List Access → List Access
With k x f before = cond (is_path k) (record { variable = x; field = f } ∷ before) before

-- each access that stands before in the line is listed, perhaps by another name
abbrev Covered : List Access → State → Type 0
Covered before s =
    (a : Access) → Member a before → (p : Permission) × Member p s.permissions × T (names (equal_in s) a.variable a.field p)

covered-too :
    (before : List Access) (s : State) (x f : ℕ) (p : Permission) → Covered before s → Member p s.permissions →
    T (names (equal_in s) x f p) → Covered (record { variable = x; field = f } ∷ before) s
covered-too before s x f p C i h a j =
    ⊎_elim (λ k. C a k)
    (λ w.
    subst (λ (a : Access). (p : Permission) × Member p s.permissions × T (names (equal_in s) a.variable a.field p)) (sym w) (p, i, h))
    (head-or j)

resolves :
    (before : List Access) (s : State) → Covered before s → (t : Term) → T (framed_expr before t) →
    (u : Term) × (resolve (equal_in s) s.permissions t ≡ ok u)
unfolding resolve framed_expr or_else ◌>>=◌
resolves before s C (num n) h = (num n, refl)
resolves before s C null h = (null, refl)
resolves before s C (var x) h = (var x, refl)
resolves before s C (path y f) h =
    in-any (λ a. eqb a.variable y && eqb a.field f) before h λ a i g.
    let (b, c) = and_both (eqb a.variable y) _ g in
    let (p, j, l) = C a i in
    let is : T (names (equal_in s) y f p) =
    subst (λ v. T (names (equal_in s) v f p)) (eqb→eq a.variable y b)
    (subst (λ g. T (names (equal_in s) a.variable g p)) (eqb→eq a.field f c) l) in
    let (q, e) = first_some (names (equal_in s) y f) s.permissions p j is in
    (path_of q, rw e)

-- WITH ROOM FOR ITS ATOMS, A FRAMED FORMULA IS ADDED
-- no more than n entries and n facts
record Small (n : ℕ) (s : State) : Type 0 where
  entries : length s.permissions ≤ n
  known : length s.facts ≤ n

-- a state with one more of them, which covers these accesses
record Next (n : ℕ) (before : List Access) (t : Try Refusal State) : Type 0 where
  after : State
  is-after : t ≡ ok after
  covered : Covered before after
  small : Small (suc n) after

fact-adds :
    (n : ℕ) (before : List Access) (s : State) → Covered before s → Small n s → n < most_facts → (r : Rel) (t u : Term) →
    Next n before (add_fact r t u s)
unfolding add_fact
fact-adds n before s C S l r t u =
    let f : Fact = record { rel = r; left = t; right = u } in
    let s' : State = record { permissions = s.permissions; facts = s.facts ++ (f ∷ []) } in
    record {
      after = s';
      is-after = pass _ state_full _ (lt→ltb (length s.facts) most_facts (omega (arith, S.known, l)));
      covered =
          λ a i. let (p, j, h) = C a i in (p, j, names_more s s' (λ f k. member-left s.facts _ f k) a.variable a.field p h);
      small = record { entries = omega (arith, S.entries); known = omega (arith, S.known, length-append s.facts (f ∷ [])) };
    }

-- a path by its own name
names-itself : (s : State) (k : Permit) (x f : ℕ) → T (is_path k) → T (names (equal_in s) x f (entry k x f))
unfolding names entry_of
names-itself s k x f t = and_intro (is_path k) _ t (and_intro (eqb f f) _ (eqb_refl f) (equal_in-complete s (var x) (var x) itself))

covered-with :
    (before : List Access) (s : State) (k : Permit) (x f : ℕ) → Covered before s → Member (entry k x f) s.permissions →
    Covered (With k x f before) s
covered-with before s k x f C i = go (is_path k) refl
  where
    go : (b : Bool) → is_path k ≡ b → Covered (cond b (record { variable = x; field = f } ∷ before) before) s
    go true e = covered-too before s x f (entry k x f) C i (names-itself s k x f (subst T (sym e) tt))
    go false e = C

entry-adds :
    (n : ℕ) (before : List Access) (s : State) → Covered before s → Small n s → n < most_permissions → (k : Permit) (x f : ℕ) →
    Next n (With k x f before) (add_permission (entry k x f) s)
unfolding add_permission equal_in
entry-adds n before s C S l k x f =
    let s' : State = record { permissions = s.permissions ++ (entry k x f ∷ []); facts = s.facts } in
    record {
      after = s';
      is-after = pass _ state_full _ (lt→ltb (length s.permissions) most_permissions (omega (arith, S.entries, l)));
      covered =
          covered-with before s' k x f
          (λ a i. let (p, j, h) = C a i in (p, member-left s.permissions (entry k x f ∷ []) p j, h))
          (member_right s.permissions (entry k x f ∷ []) _ at_head);
      small =
          record {
            entries = omega (arith, S.entries, length-append s.permissions (entry k x f ∷ []));
            known = omega (arith, S.known);
          };
    }

-- A `read` that joins another: the entries are as many
joined_is :
    (◌~◌ : Equality) (x f : ℕ) (p : Permission) (l : List Permission) → joins ◌~◌ x f p ≡ some l →
    T (entry_of ◌~◌ (var x) f p) × (l ≡ entry acc p.variable p.field ∷ [])
unfolding joins joining with_permit
joined_is ◌~◌ x f p l e = go (entry_of ◌~◌ (var x) f p) p.permit e
  where
    go : (b : Bool) (k : Permit) → cond b (joining k p) none ≡ some l → T b × (l ≡ entry acc p.variable p.field ∷ [])
    go true acc q = none-some q
    go true read q = (tt, sym (some_inj q))
    go true chain q = none-some q
    go false k q = none-some q

joined_length :
    (◌~◌ : Equality) (x f : ℕ) (ps : List Permission) (c : Split) → split (joins ◌~◌ x f) ps ≡ some c → length c.list ≡ length ps
unfolding split
joined_length ◌~◌ x f [] c e = none-some e
joined_length ◌~◌ x f (p ∷ ps) c e = go (joins ◌~◌ x f p) refl e (λ d k. joined_length ◌~◌ x f ps d k)
  where
    go :
        (o : Option (List Permission)) → joins ◌~◌ x f p ≡ o →
        elim o [
          | some l ↦ some (record { taken = p; left = l; list = l ++ ps })
          | none ↦
              bind_option (split (joins ◌~◌ x f) ps)
              (λ c. some (record { taken = c.taken; left = c.left; list = p ∷ c.list }))
        ]
        ≡ some c →
        ((d : Split) → split (joins ◌~◌ x f) ps ≡ some d → length d.list ≡ length ps) → length c.list ≡ length (p ∷ ps)
    go none r e ih =
        let (d, k, z) = bind-some (split (joins ◌~◌ x f) ps) _ c e in
        subst (λ (c : Split). length c.list ≡ length (p ∷ ps)) (some_inj z) (ap suc (ih d k))
    go (some l) r e ih =
        subst (λ (c : Split). length c.list ≡ length (p ∷ ps)) (some_inj e)
        (ap (λ (l : List Permission). length (l ++ ps)) (joined_is ◌~◌ x f p l r).1)

joined-adds :
    (n : ℕ) (before : List Access) (s : State) → Covered before s → Small n s → (x f : ℕ) (c : Split) →
    split (joins (equal_in s) x f) s.permissions ≡ some c →
    Next n (record { variable = x; field = f } ∷ before) (ok (record { permissions = c.list; facts = s.facts }))
unfolding equal_in names entry_of is_path
joined-adds n before s C S x f c e =
    let s' : State = record { permissions = c.list; facts = s.facts } in
    let D : Parted (joins (equal_in s) x f) s.permissions c = parted _ s.permissions c e in
    let q : Permission = entry acc c.taken.variable c.taken.field in
    let (named, is) = joined_is (equal_in s) x f c.taken c.left D.gives in
    let i : Member q c.list = D.comes q (subst (Member q) (sym is) at_head) in
    record {
      after = s';
      is-after = refl;
      covered =
          covered-too before s' x f q
          (λ a j.
          let (p, k, h) = C a j in
          ⊎_elim (λ m. (p, m, h))
          (λ w. (q, i, subst (λ (p : Permission). T (entry_of (equal_in s) (var a.variable) a.field p)) w (and_both (is_path p.permit) _ h).1))
          (D.stays p k))
          i named;
      small = record { entries = omega (arith, S.entries, joined_length (equal_in s) x f s.permissions c e); known = omega (arith, S.known) };
    }

own-adds :
    (n : ℕ) (before : List Access) (s : State) → Covered before s → Small n s → n < most_permissions → (k : Permit) (x f : ℕ) →
    Next n (With k x f before) (add_own k x f s)
unfolding add_own add_read is_path
own-adds n before s C S l acc x f = entry-adds n before s C S l acc x f
own-adds n before s C S l chain x f = entry-adds n before s C S l chain x f
own-adds n before s C S l read x f = go (split (joins (equal_in s) x f) s.permissions) refl
  where
    go :
        (o : Option Split) → split (joins (equal_in s) x f) s.permissions ≡ o →
        Next n (record { variable = x; field = f } ∷ before) (add_read x f s o)
    go none r = entry-adds n before s C S l read x f
    go (some c) r = joined-adds n before s C S x f c r

adds :
    (φ : Formula ℕ) (n : ℕ) (before : List Access) (s : State) → T (framed before φ) → Covered before s → Small n s →
    n + length φ ≤ most_permissions → (s' : State) × (add φ s ≡ ok s')
unfolding framed add
adds [] n before s t C S l = (s, refl)
adds (own k x f ∷ φ) n before s t C S l =
    let N : Next n (With k x f before) (add_own k x f s) = own-adds n before s C S (omega (arith, l)) k x f in
    let (s'', e) = adds φ (suc n) _ N.after t N.covered N.small (omega (arith, l)) in
    (s'', bind-of-ok (add_own k x f s) N.after _ N.is-after ∙ e)
adds (cmp r a b ∷ φ) n before s t C S l =
    let (ta, tr) = and_both (framed_expr before a) _ t in
    let (tb, tφ) = and_both (framed_expr before b) _ tr in
    let (u, eu) = resolves before s C a ta in
    let (v, ev) = resolves before s C b tb in
    let N : Next n before (add_fact r u v s) = fact-adds n before s C S (omega (arith, l)) r u v in
    let (s'', e) = adds φ (suc n) before N.after tφ N.covered N.small (omega (arith, l)) in (
      s'',
      bind-of-ok (resolve (equal_in s) s.permissions a) u _ eu
          ∙ (bind-of-ok (resolve (equal_in s) s.permissions b) v _ ev ∙ (bind-of-ok (add_fact r u v s) N.after _ N.is-after ∙ e)),
    )

-- THE CLAIM
-- a formula that number 10 does not refuse, with the atoms that a line may have
abbrev pub Addable : Formula ℕ → Type 0
Addable φ = T (framed [] φ) × (length φ ≤ most_atoms)

pub requires-added : (φ : Formula ℕ) → Addable φ → (s : State) × (add φ empty ≡ ok s)
requires-added φ (t, l) =
    adds φ 0 [] empty t (λ a i. elim i [ ]) (record { entries = omega arith; known = omega arith }) (omega (arith, l))

-- THE ATOMS OF A LINE
pub few-atoms : (n : ℕ) (ws : List Name) → T (is_formula n ws) → length (formula_of ws) ≤ n
unfolding is_formula formula_of
few-atoms n [] e = omega arith
few-atoms zero (a ∷ ws) e = absurd e
few-atoms (suc n) (a ∷ []) e = absurd e
few-atoms (suc n) (a ∷ b ∷ []) e = absurd e
few-atoms (suc n) (a ∷ b ∷ d ∷ ws) e = let i = few-atoms n ws (and_both (is_atom a b d) (is_formula n ws) e).1 in omega (arith, i)
