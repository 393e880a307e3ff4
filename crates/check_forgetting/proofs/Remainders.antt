-- A remainder: the entries of which nothing is left go, and their paths are dropped, but for names still listed.
use mathlib.Core.Path.{◌≡◌, refl, sym, ap, ap₂, ◌∙◌, subst}
use mathlib.Core.Bool.{Bool, true, false, cond, not, ◌&&◌, ◌||◌}
use mathlib.Core.List.{List, [], ◌∷◌}
use mathlib.Core.Option.{none, some}
use mathlib.Core.Logic.{◌⊎◌, inl, inr, ⊎_elim}
use Prim.Native.Nat.{ℕ, zero, suc, ◌+◌, ◌≤◌, ◌<◌}
use native.Mathlib.Omega.{arith}
use native.Mathlib.Decide.{dec_lt}
use lib.ListN.{length, get_or}
use borrow.Author.Tests.{eq-eqb, ne_eqb, lt-ltb}
use Rattle.rules.specs.Base.{any}
use Rattle.rules.specs.Limits.{most_permissions}
use Rattle.rules.specs.Syntax.{num, null, var, same}
use Rattle.rules.specs.State as Rules
use Rattle.rules.specs.State.{Term, Fact, Permission, State, becomes, rename_facts, facts_without, path_of, paths, lists, unlisted, without_paths}
use Rattle.rules.proofs.Lists.{T_true, decide_eq}
use Rattle.rules.proofs.Closure.{same_refl}
use Rattle.rules.proofs.Successors.{without_is}
use Rattle.check_equality.specs.Listing.{listed}
use Rattle.check_equality.specs.Keys.{term_of}
use Rattle.check_equality.specs.Layout.{variables_at, fields_at, kinds_at, fact_count, entry_count, chain_kind, bytes}
use Rattle.check_equality.proofs.Listing.{any_append, any_found}
use Rattle.check_inequality.proofs.Searches.{any_same, any-places}
use Rattle.check_state.specs.States.{Wf, state_of, facts, entries, kind_at, permission_at, permissions_in, permissions_of, is_path_at, left_at, path_at_entry, IsKind}
use Rattle.check_state.specs.Questions.{places}
use Rattle.check_state.proofs.Entries.{path-kind}
use Rattle.check_state.proofs.Writing.{entry-same, same-linked, same-facts}
use Rattle.check_successors.specs.Successors.{Drops}
use Rattle.check_entries.specs.Entries.{kept, kind_left, left_of, LeftFits, StoredLeft, OutBy, Packed}
use Rattle.check_entries.specs.PathsOut.{kept_names, path_out, path_out_at, key_dropped, dropped_at, OutMarked}
use Rattle.check_entries.proofs.Halves.{stored-left}
use Rattle.check_entries.proofs.Keeping.{kept-all, kept_any}
use Rattle.check_scans.specs.Scans.{Scanned, marked_key}
use Rattle.check_scans.proofs.Scanning.{scanned-less, unmarked-kept}
use Rattle.check_dropping.specs.Dropping.{Forgettable, Forgot}
use Rattle.check_dropping.proofs.Untouched.{scanned-forgot}
use Rattle.check_forgetting.specs.Changes.{Becomes, ForgotOut, kept_of, dropped_of}
use Rattle.check_forgetting.proofs.Droppings.{kept-search}
use Rattle.check_forgetting.proofs.Changes.{packed-facts, packed-entries, packed-wf}
use Rattle.check_forgetting.proofs.Unlisted.{paths-left, is_at, lists-any, any-kept, lists-variable, lists-null, lists-number, and-false, and-true, lists-unlisted, some-without, none-without, unlisted-same, facts-only}

and_assoc : (a b c : Bool) → ((a && b) && c) ≡ (a && (b && c))
and_assoc true b c = refl
and_assoc false b c = refl

-- the entries kept list a path
kept-lists : (b : List ℕ) (out : List Bool) (n : ℕ) (t : Term) → lists (kept out (permission_at b) n) t ≡ any (kept_names b out t) (places n)
unfolding kept_names path_of
kept-lists b out n t =
    lists-any (kept out (permission_at b) n) t ∙ kept_any (is_at t) out (permission_at b) n
    ∙ any_same _ _ (λ i. i) (λ i. i) n (λ i h. rw (path-kind (kind_at b i)) (sym (and_assoc (not (get_or out i false)) (is_path_at b i) (same (path_at_entry b i) t))))

still-listed : (b : List ℕ) (out : List Bool) (n i : ℕ) → i < n → left_at b out i ≡ true → lists (kept out (permission_at b) n) (path_at_entry b i) ≡ true
unfolding kept_names
still-listed b out n i h e =
    kept-lists b out n (path_at_entry b i)
    ∙ any_found (kept_names b out (path_at_entry b i)) (λ j. j) n i h (rw e (T_true (same (path_at_entry b i) (path_at_entry b i)) (same_refl (path_at_entry b i))))

-- an entry that is out, or one that is not
out-or-kept :
    (out : List Bool) (p : ℕ → Bool) (n : ℕ) →
    any p (places n) ≡ (any (λ i. get_or out i false && p i) (places n) || any (λ i. not (get_or out i false) && p i) (places n))
unfolding any listed
out-or-kept out p zero = refl
out-or-kept out p (suc n) =
    any_append p (listed (λ i. i) n) (n ∷ []) ∙ rw (out-or-kept out p n) (shuffle (any (λ i. get_or out i false && p i) (places n)) (any (λ i. not (get_or out i false) && p i) (places n)) (get_or out n false) (p n))
    ∙ ap₂ (λ (a b : Bool). a || b) (sym (any_append (λ i. get_or out i false && p i) (listed (λ i. i) n) (n ∷ []))) (sym (any_append (λ i. not (get_or out i false) && p i) (listed (λ i. i) n) (n ∷ [])))
  where
    shuffle : (a b o c : Bool) → ((a || b) || (c || false)) ≡ ((a || ((o && c) || false)) || (b || ((not o && c) || false)))
    shuffle true b o c = refl
    shuffle false true true true = refl
    shuffle false true true false = refl
    shuffle false true false c = refl
    shuffle false false true true = refl
    shuffle false false true false = refl
    shuffle false false false c = refl

module _ (b : List ℕ) (out : List Bool) where
  kept-drops : Drops (without_paths (dropped_of b out)) (kept_of b out) b out 255
  kept-drops =
      record {
        variables = λ v h. paths-left (dropped_of b out) (var v) ∙ ap not (lists-variable (dropped_of b out) v ∙ sym (ne_eqb v 255 (omega arith)));
        null = paths-left (dropped_of b out) null ∙ ap not (lists-null (dropped_of b out));
        numbers = λ n. paths-left (dropped_of b out) (num n) ∙ ap not (lists-number (dropped_of b out) n);
        paths =
            λ q.
            kept-search (without_paths (dropped_of b out)) b out q (entries b)
            (λ i h f.
            paths-left (dropped_of b out) (path_at_entry b i)
            ∙ ap not
            (lists-unlisted (kept_of b out) (permissions_of b) (path_at_entry b i)
            ∙ ap (λ (d : Bool). lists (permissions_of b) (path_at_entry b i) && not d) (still-listed b out (entries b) i h f)
            ∙ and-false (lists (permissions_of b) (path_at_entry b i))));
      }

  -- a path that is not out is listed
  drops-at :
      (i : ℕ) → i < entries b → (p o : Bool) → is_path_at b i ≡ p → get_or out i false ≡ o →
      (p && (not (lists (kept_of b out) (path_at_entry b i)) && true)) ≡ ((o && p) && not (any (kept_names b out (path_at_entry b i)) (places (entries b))))
  drops-at i h false true e d = refl
  drops-at i h false false e d = refl
  drops-at i h true true e d = and-true (not (lists (kept_of b out) (path_at_entry b i))) ∙ ap not (kept-lists b out (entries b) (path_at_entry b i))
  drops-at i h true false e d = ap (λ (c : Bool). not c && true) (still-listed b out (entries b) i h (rw (d, e)))

  drops : any (λ p. true) (dropped_of b out) ≡ any (dropped_at b out (entries b)) (places (entries b))
  unfolding unlisted paths path_of
  drops =
      any-kept _ _ (paths (permissions_of b)) ∙ any-kept _ _ (permissions_of b)
      ∙ any_same _ _ (permission_at b) (λ i. i) (entries b) (λ i h. rw (path-kind (kind_at b i)) (drops-at i h (is_path_at b i) (get_or out i false) refl refl))

  drops-facts :
      (s : State) → true ≡ any (dropped_at b out (entries b)) (places (entries b)) →
      facts_without (dropped_of b out) (kept_of b out) s ≡ rename_facts (becomes s (without_paths (dropped_of b out)) (kept_of b out)) s.facts
  drops-facts s e = some-without _ _ s (drops ∙ sym e)

  keeps-facts : (s : State) → false ≡ any (dropped_at b out (entries b)) (places (entries b)) → facts_without (dropped_of b out) (kept_of b out) s ≡ s.facts
  keeps-facts s e = none-without _ _ s (drops ∙ sym e)

  only : (a c : Bool) → ((a || c) && not c) ≡ (a && not c)
  only true true = refl
  only true false = refl
  only false true = refl
  only false false = refl

  -- which keys: an entry that is out has the path, and no other
  dropped-key : (k : ℕ) → (lists (permissions_of b) (term_of k) && not (any (kept_names b out (term_of k)) (places (entries b)))) ≡ key_dropped b out k
  unfolding path_out kept_names path_of
  dropped-key k =
      ap (λ (c : Bool). c && not (any (kept_names b out (term_of k)) (places (entries b))))
      (lists-any (permissions_of b) (term_of k)
      ∙ any_same (is_at (term_of k)) is (permission_at b) (λ i. i) (entries b) (λ i h. rw (path-kind (kind_at b i)))
      ∙ out-or-kept out is (entries b) ∙ ap₂ (λ (a c : Bool). a || c) (grouped (λ i. get_or out i false)) (grouped (λ i. not (get_or out i false))))
      ∙ only (any (path_out_at b out k) (places (entries b))) _
    where
      is : ℕ → Bool
      is i = is_path_at b i && same (path_at_entry b i) (term_of k)

      grouped :
          (o : ℕ → Bool) →
          any (λ i. o i && is i) (places (entries b)) ≡ any (λ i. (o i && is_path_at b i) && same (path_at_entry b i) (term_of k)) (places (entries b))
      grouped o = any_same _ _ (λ i. i) (λ i. i) (entries b) (λ i h. sym (and_assoc (o i) (is_path_at b i) (same (path_at_entry b i) (term_of k))))

  dropped-term : (k : ℕ) → without_paths (dropped_of b out) (term_of k) ≡ cond (key_dropped b out k) none (some (term_of k))
  unfolding without_paths
  dropped-term k =
      rw (lists-unlisted (kept_of b out) (permissions_of b) (term_of k)
      ∙ ap (λ (d : Bool). lists (permissions_of b) (term_of k) && not d) (kept-lists b out (entries b) (term_of k)) ∙ dropped-key k)

  pub out-forgettable : (key : List ℕ) → Forgettable (key_dropped b out) key b out 255
  out-forgettable key =
      record {
        ρ = without_paths (dropped_of b out);
        ps = kept_of b out;
        plain = λ t u e. (without_is (dropped_of b out) t u e).1;
        drops = kept-drops;
        sides = λ j a h. dropped-term (get_or key j 0);
      }

  -- nothing is dropped, or the sides that name a dropped path give way
  pub kept_out : (key : List ℕ) → Wf key b → false ≡ any (dropped_at b out (entries b)) (places (entries b)) → ForgotOut key b out key b
  kept_out key w e = record { wf = w; facts = sym (keeps-facts (state_of key b) e); rest = λ i g s. refl }

  pub nothing-out : (key : List ℕ) → Wf key b → ((i : ℕ) → i < entries b → get_or out i false ≡ false) → ForgotOut key b out key b
  nothing-out key w h = kept_out key w (sym (any-places _ (λ i. i) (entries b) (λ i l. rw (h i l))))

  pub dropped-out :
      (key key₁ b₁ : List ℕ) → true ≡ any (dropped_at b out (entries b)) (places (entries b)) → Forgot (key_dropped b out) key b out 255 key₁ b₁ → ForgotOut key b out key₁ b₁
  dropped-out key key₁ b₁ e F =
      record {
        wf = F.wf;
        facts = F.facts (without_paths (dropped_of b out)) (kept_of b out) kept-drops (λ j a h. dropped-term (get_or key j 0)) ∙ sym (drops-facts (state_of key b) e);
        rest = F.rest;
      }

  -- no side is that of a path that is out
  pub none_out :
      (key : List ℕ) (marks : List Bool) (i : ℕ) → Wf key b → OutMarked b out marks → Scanned (marked_key marks) key b i → facts b ≤ i → ForgotOut key b out key b
  none_out key marks i w M S h = go (any (dropped_at b out (entries b)) (places (entries b))) refl
    where
      go : (c : Bool) → any (dropped_at b out (entries b)) (places (entries b)) ≡ c → ForgotOut key b out key b
      go true e =
          dropped-out key key b (sym e)
          (scanned-forgot (key_dropped b out) key b i (scanned-less (marked_key marks) (key_dropped b out) key b i (λ k d. unmarked-kept b out marks k M d) S) w h out 255)
      go false e = kept_out key w (sym e)

-- where none is out, all stay
pub packed_all :
    (b : List ℕ) (out : List Bool) → length b ≡ bytes → entries b ≤ most_permissions → ((i : ℕ) → i < entries b → get_or out i false ≡ false) → Packed b out b
packed_all b out l f h =
    record { size = l; few = f; kinds = λ k. k; entries = sym (kept-all out (permission_at b) (entries b) h); rest = λ i g. refl }

module _ (key b left : List ℕ) (w : Wf key b) (L : LeftFits b left) (b₁ : List ℕ) (out : List Bool) (S : StoredLeft b left most_permissions b₁) (O : OutBy left most_permissions out) where
  low : (i : ℕ) → i < kinds_at → get_or b₁ i 0 ≡ get_or b i 0
  low i h = S.rest i (inl h)

  rest : (i : ℕ) → (i < variables_at) ⊎ (i ≡ fact_count) → get_or b₁ i 0 ≡ get_or b i 0
  rest i = ⊎_elim (λ h. low i (omega arith)) (λ h. low i (omega arith))

  count : entries b₁ ≡ entries b
  count = low entry_count (omega arith)

  kind-is : (k l : ℕ) → IsKind k → l ≤ k → IsKind (kind_left l k)
  unfolding kind_left
  kind-is k l w h = ⊎_elim (λ e. rw (eq-eqb l 0 e) w) (λ d. rw (ne_eqb l 0 d) (omega arith, omega arith)) (decide_eq l 0)

  pub stored-wf : Wf key b₁
  stored-wf =
      record {
        linked = same-linked key b b₁ w S.size rest;
        fit = omega (arith, count, w.fit);
        kinds =
            λ i h.
            subst IsKind (sym (S.kinds i (omega (arith, count, w.fit))))
            (kind-is (kind_at b i) (get_or left i 0) (w.kinds i (omega (arith, count))) (L.most i (omega (arith, count))));
      }

  listed-left : kept_of b₁ out ≡ left_of b left
  listed-left = ap (kept out (permission_at b₁)) count ∙ stored-left b left b₁ out (entries b) w.fit S O

  path-is : (i : ℕ) → i < entries b → path_at_entry b₁ i ≡ path_at_entry b i
  path-is i h = rw (low (variables_at + i) (omega (arith, w.fit)), low (fields_at + i) (omega (arith, w.fit)))

  as_it_was : (i : ℕ) → i < entries b → kind_left (get_or left i 0) (kind_at b i) ≡ kind_at b i → permission_at b₁ i ≡ permission_at b i
  as_it_was i h e =
      entry-same b b₁ i (S.kinds i (omega (arith, w.fit)) ∙ e) (low (variables_at + i) (omega (arith, w.fit))) (low (fields_at + i) (omega (arith, w.fit)))

  abbrev BothListed : ℕ → Type 0
  BothListed i = (lists (left_of b left) (path_of (permission_at b₁ i)) ≡ true) × (lists (left_of b left) (path_of (permission_at b i)) ≡ true)

  both-listed : (i : ℕ) → i < entries b → (get_or left i 0 ≡ 0 → ⊥) → kind_at b i < chain_kind → BothListed i
  unfolding path_of kind_left
  both-listed i h d p =
      let k : kind_at b₁ i ≡ get_or left i 0 = S.kinds i (omega (arith, w.fit)) ∙ rw (ne_eqb (get_or left i 0) 0 d) in
      let stays : left_at b₁ out i ≡ true =
      rw (O.at i (omega (arith, w.fit)) ∙ ne_eqb (get_or left i 0) 0 d) (lt-ltb (kind_at b₁ i) chain_kind (omega (arith, k, L.most i h))) in
      let e : lists (left_of b left) (path_at_entry b₁ i) ≡ true =
      ap (λ (ks : List Permission). lists ks (path_at_entry b₁ i)) (sym listed-left) ∙ still-listed b₁ out (entries b₁) i (omega (arith, count)) stays in
      (e, ap (lists (left_of b left)) (sym (path-is i h)) ∙ e)

  -- an entry that changes is a path that stays listed: a chain is left whole, or not at all
  one-dropped : (i : ℕ) → i < entries b → (permission_at b₁ i ≡ permission_at b i) ⊎ BothListed i
  unfolding kind_left
  one-dropped i h = ⊎_elim gone (λ d. some_left d (dec_lt (kind_at b i) chain_kind)) (decide_eq (get_or left i 0) 0)
    where
      gone : get_or left i 0 ≡ 0 → (permission_at b₁ i ≡ permission_at b i) ⊎ BothListed i
      gone e = inl (as_it_was i h (rw (eq-eqb (get_or left i 0) 0 e)))

      some_left : (get_or left i 0 ≡ 0 → ⊥) → Dec (kind_at b i < chain_kind) → (permission_at b₁ i ≡ permission_at b i) ⊎ BothListed i
      some_left d (yes p) = inr (both-listed i h d p)
      some_left d (no n) =
          ⊎_elim (λ e. absurd (d e))
          (λ e. inl (as_it_was i h (rw (ne_eqb (get_or left i 0) 0 d) (omega (arith, e, (w.kinds i h).1, n)))))
          (L.whole i h (omega (arith, n)))

  same-dropped : dropped_of b₁ out ≡ unlisted (left_of b left) (permissions_of b)
  same-dropped =
      ap₂ (λ (ks : List Permission) (n : ℕ). unlisted ks (permissions_in b₁ n)) listed-left count
      ∙ unlisted-same (left_of b left) (permission_at b₁) (permission_at b) (entries b) one-dropped

  module _ (key₂ b₂ : List ℕ) (F : ForgotOut key b₁ out key₂ b₂) (b₃ : List ℕ) (P : Packed b₂ out b₃) where
    pub remainder-law : Becomes (Rules.remainder (state_of key b) (left_of b left)) key₂ b₃
    unfolding Rules.remainder Rules.drop_paths
    remainder-law =
        record {
          wf = packed-wf key b₁ key₂ b₂ stored-wf F.wf F.rest b₃ out P;
          same = ap₂ (λ (ps : List Permission) (fs : List Fact). record { permissions = ps; facts = fs })
              (packed-entries key b₁ key₂ b₂ stored-wf F.wf F.rest b₃ out P ∙ listed-left)
              (packed-facts key b₁ key₂ b₂ stored-wf F.wf F.rest b₃ out P ∙ F.facts
              ∙ ap₂ (λ (gs ps : List Permission). facts_without gs ps (state_of key b₁)) same-dropped listed-left
              ∙ facts-only _ _ (state_of key b₁) (state_of key b) (same-facts key b b₁ w S.size rest));
        }
