-- What the changes of a state leave.
use mathlib.Core.Path.{◌≡◌, refl, sym, ap, ap₂, ◌∙◌}
use mathlib.Core.Bool.{Bool, true, false, cond}
use mathlib.Core.List.{List, [], ◌∷◌}
use mathlib.Core.Option.{Option, none, some}
use mathlib.Core.Logic.{◌⊎◌, inl, inr, ⊎_elim}
use Prim.Native.Nat.{ℕ, ◌+◌, ◌≤◌, ◌<◌}
use native.Mathlib.Omega.{arith}
use lib.Dec.{eqb}
use lib.ListN.{get_or}
use borrow.Author.Tests.{eqb-true, eqb-false}
use Rattle.rules.specs.Base.{bind_option}
use Rattle.rules.specs.Syntax as Syntax
use Rattle.rules.specs.Syntax.{path}
use Rattle.rules.specs.State as Rules
use Rattle.rules.specs.State.{Permission, Fact, entry, path_of, without_paths, rename_variable, rename_term, rename_permission, rename_permissions}
use Rattle.rules.proofs.Lists.{some_inj, none-some, bind-some}
use Rattle.rules.proofs.Successors.{without_is}
use Rattle.check_equality.specs.Keys.{term_of}
use Rattle.check_equality.specs.Listing.{listed}
use Rattle.check_equality.proofs.Keys.{same_key}
use Rattle.check_equality.proofs.Listing.{listed_same}
use Rattle.check_equality.specs.Layout.{variables_at, fields_at, kinds_at, fact_count, entry_count}
use Rattle.check_state.specs.States.{Wf, state_of, entries, facts_of, variable_at, field_at, kind_at, permit_of, permission_at, permissions_in, permissions_of, is_path_at, path_at_entry}
use Rattle.check_successors.specs.Successors.{Drops}
use Rattle.check_forgetting.specs.Changes.{Becomes, without_path}
use Rattle.check_dropping.specs.Dropping.{Forgettable, Forgot, Renamed}
use Rattle.check_equality.specs.Links.{picked}
use Rattle.check_entries.specs.Entries.{RenamedEntries, Packed, Flags, kept}
use Rattle.check_scans.specs.Sides.{renamed_key, mentions_key}
use Rattle.check_scans.proofs.Renaming.{gone-term, renamed-term}
use Rattle.check_entries.proofs.Keeping.{kept_same, kept-all, kept_map}
use Rattle.check_state.proofs.Entries.{path-kind}
use Rattle.check_state.proofs.Writing.{entries-same, kinds-same, same-linked, same-facts}
use Rattle.check_dropping.proofs.GivingWay.{gave, named}
use Rattle.check_forgetting.proofs.Unlisted.{lists-one}
use Rattle.check_forgetting.proofs.Droppings.{path-drops, kept-entries, removed-drops}

-- FACTS AND ENTRIES, one after the other: key₁ and b₁ have the facts, and the entries are as they were
module _ (key b key₁ b₁ : List ℕ) (w : Wf key b) (w₁ : Wf key₁ b₁) (rest : (i : ℕ) → variables_at ≤ i → (i ≡ fact_count → ⊥) → get_or b₁ i 0 ≡ get_or b i 0) where
  count : entries b₁ ≡ entries b
  count = rest entry_count (omega arith) (omega arith)

  as_before : (i : ℕ) → i < entries b → permission_at b₁ i ≡ permission_at b i
  as_before = entries-same b b₁ (entries b) w.fit (λ i g p q. rest i g p)

  same_entries : permissions_of b₁ ≡ permissions_of b
  same_entries = ap (λ (n : ℕ). listed (permission_at b₁) n) count ∙ listed_same _ _ (entries b) as_before

  module _ (b₂ : List ℕ) (out : List Bool) (P : Packed b₁ out b₂) where
    pub packed-facts : facts_of key₁ b₂ ≡ facts_of key₁ b₁
    packed-facts = same-facts key₁ b₁ b₂ (w₁) P.size P.rest

    pub packed-entries : permissions_of b₂ ≡ kept out (permission_at b) (entries b)
    packed-entries = P.entries ∙ ap (kept out (permission_at b₁)) count ∙ kept_same out out _ _ (entries b) (λ i h. refl) as_before

    pub packed-wf : Wf key₁ b₂
    packed-wf = record { linked = same-linked key₁ b₁ b₂ (w₁) P.size P.rest; fit = P.few; kinds = P.kinds w₁.kinds }

  module _ (b₂ : List ℕ) (x to : ℕ) (E : RenamedEntries x to b₁ (entries b₁) b₂) where
    low : (i : ℕ) → (i < variables_at) ⊎ (i ≡ fact_count) → get_or b₂ i 0 ≡ get_or b₁ i 0
    low i = ⊎_elim (λ p. E.rest i (inl p)) (λ p. E.rest i (inr (omega (arith, w₁.fit))))

    still : entries b₂ ≡ entries b₁
    still = E.rest entry_count (inr (omega (arith, w₁.fit)))

    pub renamed-facts : facts_of key₁ b₂ ≡ facts_of key₁ b₁
    renamed-facts = same-facts key₁ b₁ b₂ (w₁) E.size low

    entry_new : (i : ℕ) → i < entries b → rename_permission x (some to) (permission_at b i) ≡ some (permission_at b₂ i)
    unfolding rename_permission rename_variable picked bind_option
    entry_new i h =
        ap (rename_permission x (some to)) (sym (as_before i h)) ∙ go (eqb (variable_at b₁ i) x)
        ∙ sym (rw (E.variables i (omega (arith, count)), above kinds_at i (omega (arith, w₁.fit)), above fields_at i (omega (arith, w₁.fit))))
      where
        above : (s j : ℕ) → variables_at + entries b₁ ≤ s + j → get_or b₂ (s + j) 0 ≡ get_or b₁ (s + j) 0
        above s j g = E.rest (s + j) (inr g)

        go :
            (c : Bool) →
            bind_option {B = Permission} (cond c (some to) (some (variable_at b₁ i))) (λ w. some (entry (permit_of (kind_at b₁ i)) w (field_at b₁ i)))
            ≡ some (entry (permit_of (kind_at b₁ i)) (cond c to (variable_at b₁ i)) (field_at b₁ i))
        go true = refl
        go false = refl

    pub renamed-entries : permissions_of b₂ ≡ rename_permissions x (some to) (permissions_of b)
    unfolding rename_permissions
    renamed-entries =
        ap (permissions_in b₂) (still ∙ count) ∙ sym (kept-all [] (permission_at b₂) (entries b) (λ i h. refl))
        ∙ sym (kept_map (rename_permission x (some to)) [] (permission_at b) (permission_at b₂) (entries b) entry_new)

    pub renamed-wf : Wf key₁ b₂
    renamed-wf =
        record {
          linked = same-linked key₁ b₁ b₂ (w₁) E.size low;
          fit = omega (arith, still, w₁.fit);
          kinds = kinds-same b₁ b₂ (entries b₁) (entries b₂) still (λ i h. E.rest i (inr (omega (arith, w₁.fit)))) w₁.kinds;
        }

-- WITHOUT A PATH
-- k is the key of the path of entry i
path-term :
    (b : List ℕ) (i k : ℕ) → is_path_at b i ≡ true → term_of k ≡ path (variable_at b i) (field_at b i) → (l : ℕ) →
    without_paths (permission_at b i ∷ []) (term_of l) ≡ cond (eqb l k) none (some (term_of l))
unfolding without_paths path_of
path-term b i k p e l = ap (λ (c : Bool). cond c none (some (term_of l))) (lists-one (permission_at b i) (term_of l) (path-kind (kind_at b i) ∙ p) ∙ is)
  where
    flip : (a c : Bool) → eqb k l ≡ a → eqb l k ≡ c → a ≡ c
    flip true true p q = refl
    flip true false p q = absurd (eqb-false l k q (sym (eqb-true k l p)))
    flip false true p q = absurd (eqb-false k l p (sym (eqb-true l k q)))
    flip false false p q = refl

    is : Syntax.same (path_of (permission_at b i)) (term_of l) ≡ eqb l k
    is = ap (λ (t : Rules.Term). Syntax.same t (term_of l)) (sym e) ∙ same_key k l ∙ flip (eqb k l) (eqb l k) refl refl

module _ (key b : List ℕ) (skip : List Bool) (i k : ℕ) (p : is_path_at b i ≡ true) (e : term_of k ≡ path (variable_at b i) (field_at b i))
    (G : Flags (λ j. Syntax.same (term_of k) (path_at_entry b j)) (entries b) skip) where
  abbrev ρ : Rules.Renaming
  ρ = without_paths (permission_at b i ∷ [])

  ρ-drops : Drops ρ (permissions_of b) b skip 255
  unfolding path_of
  ρ-drops = path-drops (permission_at b i) (path-kind (kind_at b i) ∙ p) b skip (λ j h. G.at j h ∙ ap (λ (t : Rules.Term). Syntax.same t (path_at_entry b j)) e)

  pub path-forgettable : Forgettable (λ l. eqb l k) key b skip 255
  path-forgettable =
      record {
        ρ = ρ;
        ps = permissions_of b;
        plain = λ t u d. (without_is (permission_at b i ∷ []) t u d).1;
        drops = ρ-drops;
        sides = λ j a h. path-term b i k p e (get_or key j 0);
      }

  pub path-law : (key' b' : List ℕ) → Wf key b → Forgot (λ l. eqb l k) key b skip 255 key' b' → Becomes (without_path key b i) key' b'
  unfolding Rules.drop_paths Rules.facts_without
  path-law key' b' w F =
      record {
        wf = F.wf;
        same = ap₂ (λ (ps : List Permission) (fs : List Fact). record { permissions = ps; facts = fs })
            (same_entries key b key' b' w F.wf F.rest) (F.facts ρ (permissions_of b) ρ-drops (λ j a h. path-term b i k p e (get_or key j 0)));
      }

-- REMOVED
left-variable : (x v w : ℕ) → rename_variable x none v ≡ some w → v ≡ w
unfolding rename_variable
left-variable x v w e = go (eqb v x) e
  where
    go : (c : Bool) → cond c none (some v) ≡ some w → v ≡ w
    go true e = none-some e
    go false e = some_inj e

-- a term that is left is the term itself
removed-plain : (x : ℕ) (t u : Rules.Term) → rename_term x none t ≡ some u → t ≡ u
unfolding rename_term
removed-plain x (Syntax.num n) u e = some_inj e
removed-plain x Syntax.null u e = some_inj e
removed-plain x (Syntax.var v) u e =
    let (w, m, q) = bind-some (rename_variable x none v) _ u e in ap Syntax.var (left-variable x v w m) ∙ some_inj q
removed-plain x (path v f) u e =
    let (w, m, q) = bind-some (rename_variable x none v) _ u e in ap (λ (v : ℕ). path v f) (left-variable x v w m) ∙ some_inj q

module _ (key b : List ℕ) (x : ℕ) (h : x < 256) (w : Wf key b) where
  -- x is dropped
  module _ (out : List Bool) (G : Flags (λ i. eqb (variable_at b i) x) (entries b) out) where
    abbrev x-drops : Drops (rename_term x none) (rename_permissions x none (permissions_of b)) b out x
    x-drops = removed-drops x b out (λ i g. G.at i g)

    pub names-forgettable : Forgettable (mentions_key x) key b out x
    names-forgettable =
        record {
          ρ = rename_term x none;
          ps = rename_permissions x none (permissions_of b);
          plain = removed-plain x;
          drops = x-drops;
          sides = λ j a l. gone-term x h (get_or key j 0);
        }

    -- what becomes of a term that names x
    pub successor-term :
        (k : ℕ) (t : Option Rules.Term) → mentions_key x k ≡ true →
        ((ρ : Rules.Renaming) (ps : List Permission) → Drops ρ ps b out x → t ≡ Rules.successor (Rules.equal_in (state_of key b)) ρ ps (facts_of key b) (term_of k)) →
        t ≡ Rules.removed_term x none (state_of key b) (term_of k)
    unfolding Rules.removed_term
    successor-term k t m S =
        S _ _ x-drops ∙ sym (gave (state_of key b) (rename_term x none) (rename_permissions x none (permissions_of b)) (term_of k) true (gone-term x h k ∙ rw m))

    module _ (key₁ b₁ b₂ : List ℕ) (F : Forgot (mentions_key x) key b out x key₁ b₁) (P : Packed b₁ out b₂) where
      pub erase-law : Becomes (Rules.remove_to x none (state_of key b)) key₁ b₂
      unfolding Rules.remove_to Rules.removed_term
      erase-law =
          record {
            wf = packed-wf key b key₁ b₁ w F.wf F.rest b₂ out P;
            same = ap₂ (λ (ps : List Permission) (fs : List Fact). record { permissions = ps; facts = fs })
                (packed-entries key b key₁ b₁ w F.wf F.rest b₂ out P ∙ sym (kept-entries x b out (λ i g. G.at i g)))
                (packed-facts key b key₁ b₁ w F.wf F.rest b₂ out P
                ∙ F.facts (rename_term x none) (rename_permissions x none (permissions_of b)) x-drops (λ j a l. gone-term x h (get_or key j 0)));
          }

  -- a term that does not name x
  pub left-term : (k : ℕ) → mentions_key x k ≡ false → some (term_of k) ≡ Rules.removed_term x none (state_of key b) (term_of k)
  unfolding Rules.removed_term
  left-term k m = sym (named (state_of key b) (rename_term x none) (rename_permissions x none (permissions_of b)) (term_of k) (term_of k) (gone-term x h k ∙ rw m))

  -- a variable takes the place of x
  module _ (to : ℕ) (g : to < 256) where
    pub named-term : (k : ℕ) → some (term_of (renamed_key x to k)) ≡ Rules.removed_term x (some to) (state_of key b) (term_of k)
    unfolding Rules.removed_term
    named-term k = sym (named (state_of key b) (rename_term x (some to)) (rename_permissions x (some to) (permissions_of b)) (term_of k) (term_of (renamed_key x to k)) (renamed-term x h to g k))

    module _ (key₁ b₁ b₂ : List ℕ) (R : Renamed (renamed_key x to) key b key₁ b₁) (E : RenamedEntries x to b₁ (entries b₁) b₂) where
      pub replace-law : Becomes (Rules.remove_to x (some to) (state_of key b)) key₁ b₂
      unfolding Rules.remove_to
      replace-law =
          record {
            wf = renamed-wf key b key₁ b₁ w R.wf R.rest b₂ x to E;
            same = ap₂ (λ (ps : List Permission) (fs : List Fact). record { permissions = ps; facts = fs })
                (renamed-entries key b key₁ b₁ w R.wf R.rest b₂ x to E)
                (renamed-facts key b key₁ b₁ w R.wf R.rest b₂ x to E
                ∙ R.facts (Rules.removed_term x (some to) (state_of key b)) (λ k. sym (named-term k)));
          }
