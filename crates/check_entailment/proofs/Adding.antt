-- Adding, one atom at a time.
use mathlib.Core.Path.{◌≡◌, refl, sym, ap, ◌∙◌, subst}
use mathlib.Core.Bool.{Bool, false, true}
use mathlib.Core.List.{List, [], ◌∷◌, ◌++◌}
use mathlib.Core.Logic.{◌⊎◌, ⊎_elim}
use Rattle.std.specs.Prelude.{Ok, Err}
use mathlib.Core.Option.{Option, none, some}
use Prim.Native.Nat.{ℕ, ◌+◌, ◌*◌, ◌≤◌, ◌<◌}
use native.Mathlib.Omega.{arith}
use lib.Dec.{eqb}
use mir.Val.{bool_byte}
use lib.ListN.{length, get_or, set, length-set}
use lib.Seq.{get_or-set_same, get_or-set_other}
use borrow.Author.Tests.{lt-ltb, le-ltb}
use Rattle.rules.specs.Base.{Try, ok, no, ◌>>=◌, ◌>>◌, check}
use Rattle.rules.specs.Limits.{most_permissions, most_facts}
use Rattle.rules.specs.Answers.{Refusal}
use Rattle.rules.specs.Syntax.{Rel, Permit, var, acc, read, own, cmp}
use Rattle.rules.specs.State as Rules
use Rattle.rules.specs.State.{Permission, Term, entry, equal_in, split}
use Rattle.rules.proofs.Lists.{decide_eq}
use Rattle.check_equality.specs.Keys.{term_of}
use Rattle.check_equality.specs.Links.{Pushed, rel_of, fact_of}
use Rattle.check_equality.specs.Layout.{left_sides, relations_at, variables_at, fields_at, kinds_at, fact_count, entry_count, read_kind, acc_kind, chain_kind, bytes}
use Rattle.check_equality.proofs.Listing.{listed-length, listed_same}
use Rattle.check_state.specs.States.{Wf, Linked, state_of, facts, entries, fact_at, facts_in, facts_of, variable_at, field_at, kind_at, permit_of, permission_at, permissions_in, permissions_of, IsKind}
use Rattle.check_state.specs.Questions.{FirstPlace, Bytes, entry_test, passes, in_range}
use Rattle.check_state.proofs.Writing.{entries-same, kinds-same, linked-same, facts-same, same-linked, same-facts, pushed-facts, pushed-linked, pushed-rest, counted-linked, counted-facts, counted-other}
use Rattle.check_entries.specs.Entries.{appended}
use Rattle.check_entries.proofs.Halves.{appended-listed}
use Rattle.check_entries.proofs.Keeping.{with-entry, entry-size, entry_other, entries-more, kinds-more}
use Rattle.check_entailment.specs.declared.Refusal as Declared
use Rattle.check_entailment.specs.declared.Refusal.TheVariants.{Full}
use Rattle.check_entailment.specs.Answers.{Answer, refusal_of, answered, sides_of, resolved_sides, Adds, AddsAtom}
use Rattle.check_entailment.proofs.Refusals.{by-sides}
use Rattle.check_entailment.proofs.Splits.{instead, split-none, split-first, joined_at}

-- nothing follows
last : (t : Try Refusal Rules.State) → (t >>= λ s. Rules.add [] s) ≡ t
unfolding Rules.add ◌>>=◌
last (ok s) = refl
last (no r) = refl

-- RELATIONS
module _ (key b : List ℕ) (apart : Bool) (l r : Term) where
  abbrev related : Term → Term → Try Refusal Rules.State
  related t u = Rules.add_fact (rel_of apart) t u (state_of key b) >>= λ s. Rules.add [] s

  pub relation-unadded : (e : Declared.Refusal) → sides_of (Err e) ≡ resolved_sides (state_of key b) l r → Wf key b → AddsAtom key b (cmp (rel_of apart) l r) (Err e) key b
  unfolding Rules.add answered sides_of ◌>>=◌
  relation-unadded e d w = record { wf = w; same = sym (by-sides (state_of key b) l r related ∙ rw (← d)) }

  pub relation-added :
      (t u : ℕ) → sides_of (Ok (t, u)) ≡ resolved_sides (state_of key b) l r → (a : Answer) (key' b' : List ℕ) →
      Adds (Rules.add_fact (rel_of apart) (term_of t) (term_of u) (state_of key b)) a key' b' → AddsAtom key b (cmp (rel_of apart) l r) a key' b'
  unfolding Rules.add sides_of ◌>>=◌
  relation-added t u d a key' b' A =
      record { wf = A.wf; same = A.same ∙ sym (by-sides (state_of key b) l r related ∙ rw (← d) (last (Rules.add_fact (rel_of apart) (term_of t) (term_of u) (state_of key b)))) }

-- PERMISSIONS
pub own-atom : (key b : List ℕ) (k : Permit) (x f : ℕ) (a : Answer) (key' b' : List ℕ) → Adds (Rules.add_own k x f (state_of key b)) a key' b' → AddsAtom key b (own k x f) a key' b'
unfolding Rules.add
own-atom key b k x f a key' b' A = record { wf = A.wf; same = A.same ∙ sym (last (Rules.add_own k x f (state_of key b))) }

-- where it is not a `read`, one more entry
pub own-listed : (k x f : ℕ) (s : Rules.State) → IsKind k → (k ≡ read_kind → ⊥) → Rules.add_permission (entry (permit_of k) x f) s ≡ Rules.add_own (permit_of k) x f s
unfolding Rules.add_own permit_of
own-listed k x f s i h =
    ⊎_elim (λ (e : k ≡ acc_kind). rw e) (λ (n : k ≡ acc_kind → ⊥). let e : k ≡ chain_kind = omega (arith, i.0, i.1, h, n) in rw e) (decide_eq k acc_kind)

-- ROOM
pub full-permissions : (key b : List ℕ) (p : Permission) → Wf key b → most_permissions ≤ entries b → Adds (Rules.add_permission p (state_of key b)) (Err Full) key b
unfolding Rules.add_permission check ◌>>◌ answered refusal_of
full-permissions key b p w h = record { wf = w; same = sym (rw (listed-length (permission_at b) (entries b), le-ltb (entries b) most_permissions h)) }

room-permissions :
    (key b : List ℕ) (p : Permission) (b' : List ℕ) → entries b < most_permissions → Wf key b' → permissions_of b' ≡ permissions_of b ++ (p ∷ []) → facts_of key b' ≡ facts_of key b →
    Adds (Rules.add_permission p (state_of key b)) (Ok tt) key b'
unfolding Rules.add_permission check ◌>>◌ answered refusal_of
room-permissions key b p b' h w e d = record { wf = w; same = sym (rw (listed-length (permission_at b) (entries b), lt-ltb (entries b) most_permissions h, e, d)) }

pub full-facts : (key b : List ℕ) (n : Rel) (t u : Term) → Wf key b → most_facts ≤ facts b → Adds (Rules.add_fact n t u (state_of key b)) (Err Full) key b
unfolding Rules.add_fact check ◌>>◌ answered refusal_of
full-facts key b n t u w h = record { wf = w; same = sym (rw (listed-length (fact_at key b) (facts b), le-ltb (facts b) most_facts h)) }

room-facts :
    (key b : List ℕ) (n : Rel) (t u : Term) (key' b' : List ℕ) → facts b < most_facts → Wf key' b' → permissions_of b' ≡ permissions_of b →
    facts_of key' b' ≡ facts_of key b ++ (record { rel = n; left = t; right = u } ∷ []) → Adds (Rules.add_fact n t u (state_of key b)) (Ok tt) key' b'
unfolding Rules.add_fact check ◌>>◌ answered refusal_of
room-facts key b n t u key' b' h w e d = record { wf = w; same = sym (rw (listed-length (fact_at key b) (facts b), lt-ltb (facts b) most_facts h, e, d)) }

-- one more entry and its count
module _ (key b : List ℕ) (k x f : ℕ) (is_kind : IsKind k) (w : Wf key b) (h : entries b < most_permissions) where
  abbrev one : List ℕ
  one = with-entry b (entries b) x f k w.linked.size h

  abbrev counted-one : List ℕ
  counted-one = set one entry_count (entries b + 1)

  sized : length one ≡ bytes
  sized = entry-size b (entries b) x f k w.linked.size h

  at_one : (i : ℕ) → (i ≡ entry_count → ⊥) → get_or counted-one i 0 ≡ get_or one i 0
  at_one i g = get_or-set_other one entry_count i (entries b + 1) 0 g

  last_one : entries counted-one ≡ entries b + 1
  last_one = get_or-set_same one entry_count (entries b + 1) 0 (omega (arith, sized))

  more-entries : permissions_in counted-one (entries b + 1) ≡ permissions_of b ++ (entry (permit_of k) x f ∷ [])
  more-entries =
      listed_same _ _ (entries b + 1) (entries-same one counted-one (entries b + 1) (omega arith) (λ i g s r. at_one i r))
      ∙ entries-more b (entries b) x f k w.linked.size h

  low-one : (i : ℕ) → i < variables_at → get_or counted-one i 0 ≡ get_or b i 0
  low-one i g = at_one i (omega arith) ∙ entry_other b (entries b) x f k w.linked.size h i (omega arith) (omega arith) (omega arith)

  count-one : facts counted-one ≡ facts b
  count-one = at_one fact_count (omega arith) ∙ entry_other b (entries b) x f k w.linked.size h fact_count (omega arith) (omega arith) (omega arith)

  wf-one : Wf key counted-one
  wf-one =
      record {
        linked = subst (λ (n : ℕ). Linked key counted-one n) (sym count-one) (linked-same key b counted-one (facts b) (length-set one entry_count (entries b + 1) ∙ sized) low-one w.linked);
        fit = omega (arith, last_one);
        kinds = kinds-same one counted-one (entries b + 1) (entries counted-one) last_one (λ i g. at_one i (omega arith)) (kinds-more b (entries b) x f k w.linked.size h is_kind w.kinds);
      }

  pub one-permission : Adds (Rules.add_permission (entry (permit_of k) x f) (state_of key b)) (Ok tt) key counted-one
  one-permission =
      room-permissions key b _ counted-one h wf-one (ap (permissions_in counted-one) last_one ∙ more-entries)
      (ap (facts_in key counted-one) count-one ∙ facts-same key b counted-one (facts b) w.linked.fit low-one)

-- a half joined to the one of an entry
module _ (key b : List ℕ) (w : Wf key b) (kinds : List ℕ) (x f i : ℕ) (B : Bytes (kind_at b) most_permissions kinds)
    (F : FirstPlace (entry_test b kinds read_kind read_kind (var x) f (equal_in (state_of key b))) (entries b) i) where
  abbrev joins-it : Permission → Option (List Permission)
  joins-it = Rules.joins (equal_in (state_of key b)) x f

  abbrev raised : List ℕ
  raised = set b (kinds_at + i) acc_kind

  joined-entry :
      (j : ℕ) → j < entries b → (c : Bool) → entry_test b kinds read_kind read_kind (var x) f (equal_in (state_of key b)) j ≡ c →
      split joins-it (permission_at b j ∷ []) ≡ instead c (permission_at b j) (entry acc (variable_at b j) (field_at b j) ∷ [])
  joined-entry j h c e =
      joined_at (equal_in (state_of key b)) x f (variable_at b j) (field_at b j) (kind_at b j) (w.kinds j h)
      ∙ ap (λ (c : Bool). instead c (permission_at b j) (entry acc (variable_at b j) (field_at b j) ∷ [])) (sym (ap (λ (l : ℕ). passes (equal_in (state_of key b)) (var x) f (in_range read_kind read_kind l) (variable_at b j) (field_at b j)) (B.at j (omega (arith, w.fit)))) ∙ e)

  none-joined : entries b ≤ i → split joins-it (permissions_of b) ≡ none
  none-joined h =
      subst (λ (l : List Permission). split joins-it l ≡ none) (appended-listed (permission_at b) (entries b))
      (split-none joins-it _ (entries b) (λ j g. joined-entry j g false (F.before j (omega arith))))

  pub read-apart :
      entries b ≤ i → (a : Answer) (key' b' : List ℕ) → Adds (Rules.add_permission (entry (permit_of read_kind) x f) (state_of key b)) a key' b' →
      Adds (Rules.add_own read x f (state_of key b)) a key' b'
  unfolding Rules.add_own Rules.add_read permit_of
  read-apart h a key' b' A = rw (none-joined h) A

  module _ (h : i < entries b) where
    raised-size : length raised ≡ bytes
    raised-size = length-set b (kinds_at + i) acc_kind ∙ w.linked.size

    raised-other : (j : ℕ) → (j ≡ kinds_at + i → ⊥) → get_or raised j 0 ≡ get_or b j 0
    raised-other j d = get_or-set_other b (kinds_at + i) j acc_kind 0 d

    raised-low : (j : ℕ) → j < kinds_at → get_or raised j 0 ≡ get_or b j 0
    raised-low j g = raised-other j (omega arith)

    raised-here : kind_at raised i ≡ acc_kind
    raised-here = get_or-set_same b (kinds_at + i) acc_kind 0 (omega (arith, w.fit, w.linked.size))

    as_before : (j : ℕ) → j < entries b → (j ≡ i → ⊥) → permission_at b j ∷ [] ≡ permission_at raised j ∷ []
    as_before j g d = sym (rw (raised-other (kinds_at + j) (omega arith), raised-low (variables_at + j) (omega (arith, w.fit)), raised-low (fields_at + j) (omega (arith, w.fit))))

    whole : entry acc (variable_at b i) (field_at b i) ∷ [] ≡ permission_at raised i ∷ []
    unfolding permit_of
    whole = rw (raised-here, raised-low (variables_at + i) (omega (arith, w.fit)), raised-low (fields_at + i) (omega (arith, w.fit)))

    raised-count : entries raised ≡ entries b
    raised-count = raised-low entry_count (omega arith)

    raised-entries : appended (λ j. permission_at raised j ∷ []) (entries b) ≡ permissions_of raised
    raised-entries = appended-listed (permission_at raised) (entries b) ∙ ap (permissions_in raised) (sym raised-count)

    raised-kinds : (j : ℕ) → j < entries raised → IsKind (kind_at raised j)
    raised-kinds j g =
        ⊎_elim (λ d. subst IsKind (sym (ap (kind_at raised) d ∙ raised-here)) (omega arith, omega arith))
        (λ d. subst IsKind (sym (raised-other (kinds_at + j) (omega arith))) (w.kinds j (omega (arith, raised-count)))) (decide_eq j i)

    raised-rest : (j : ℕ) → (j < variables_at) ⊎ (j ≡ fact_count) → get_or raised j 0 ≡ get_or b j 0
    raised-rest j = ⊎_elim (λ g. raised-low j (omega arith)) (λ g. raised-low j (omega arith))

    first-joined :
        split joins-it (permissions_of b)
        ≡ some (record { taken = permission_at b i; left = entry acc (variable_at b i) (field_at b i) ∷ []; list = permissions_of raised })
    first-joined =
        subst (λ (l : List Permission). split joins-it l ≡ some (record { taken = permission_at b i; left = entry acc (variable_at b i) (field_at b i) ∷ []; list = permissions_of raised })) (appended-listed (permission_at b) (entries b))
        (split-first joins-it _ (λ j. permission_at raised j ∷ []) _ (entries b) i h (λ j g. joined-entry j (omega arith) false (F.before j g)) (joined-entry i h true (F.found h)) as_before whole
        ∙ ap (λ (l : List Permission). some (record { taken = permission_at b i; left = entry acc (variable_at b i) (field_at b i) ∷ []; list = l })) raised-entries)

    pub read-joined : Adds (Rules.add_own read x f (state_of key b)) (Ok tt) key raised
    unfolding Rules.add_own Rules.add_read answered refusal_of
    read-joined =
        record {
          wf = record { linked = same-linked key b raised w raised-size raised-rest; fit = omega (arith, raised-count, w.fit); kinds = raised-kinds };
          same = rw (first-joined, same-facts key b raised w raised-size raised-rest);
        }

pub flagged : (c : ℕ) (apart : Bool) → c ≡ bool_byte apart → eqb c 1 ≡ apart
flagged c true e = rw e
flagged c false e = rw e

-- one more fact, its flag and the count
module _ (key b : List ℕ) (c l r : ℕ) (apart : Bool) (w : Wf key b) (h : facts b < most_facts) (key' b₁ : List ℕ) (e : eqb c 1 ≡ apart) (P : Pushed key b (left_sides + 2 * facts b) apart l r key' b₁) where
  abbrev two : List ℕ
  two = set b₁ (relations_at + facts b) c

  abbrev counted-two : List ℕ
  counted-two = set two fact_count (facts b + 1)

  more-facts : Linked key' two (facts b + 1)
  more-facts = pushed-linked key b (facts b) c l r w.linked h key' b₁ apart e P

  at-two : (i : ℕ) → variables_at ≤ i → (i ≡ fact_count → ⊥) → get_or counted-two i 0 ≡ get_or b i 0
  at-two i g s = counted-other two (facts b + 1) more-facts.size i s ∙ pushed-rest key b (facts b) c l r w.linked h key' b₁ apart e P i (omega arith)

  last-two : entries counted-two ≡ entries b
  last-two = at-two entry_count (omega arith) (omega arith)

  pub one-fact : Adds (Rules.add_fact (rel_of apart) (term_of l) (term_of r) (state_of key b)) (Ok tt) key' counted-two
  one-fact =
      room-facts key b _ _ _ key' counted-two h
      (record { linked = counted-linked two (facts b + 1) more-facts.size key' more-facts; fit = omega (arith, last-two, w.fit); kinds = kinds-same b counted-two (entries b) (entries counted-two) last-two (λ i g. at-two i (omega arith) (omega arith)) w.kinds })
      (ap (permissions_in counted-two) last-two ∙ listed_same _ _ (entries b) (entries-same b counted-two (entries b) w.fit (λ i g s r. at-two i g s)))
      (counted-facts two (facts b + 1) more-facts.size key' (omega arith) ∙ pushed-facts key b (facts b) c l r w.linked h key' b₁ apart e P
      ∙ ap (λ (x : Bool). facts_of key b ++ (fact_of x l r ∷ [])) e)
