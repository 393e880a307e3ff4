-- Forgetting keeps labels: what becomes of terms is left, and was ~.
use mathlib.Core.Path.{◌≡◌, refl, sym, ap, ◌∙◌, subst}
use mathlib.Core.Bool.{Bool, true, false, cond, not, ◌||◌}
use mathlib.Core.List.{List}
use mathlib.Core.Option.{Option, none, some}
use mathlib.Core.Logic.{◌⊎◌, inl, inr, ⊎_elim}
use Prim.Native.Nat.{ℕ, ◌+◌, ◌*◌, ◌≤◌, ◌<◌}
use native.Mathlib.Omega.{arith}
use lib.Dec.{T, eqb, ltb}
use lib.ListN.{get_or, replicate}
use borrow.Author.Tests.{eq-eqb, ne_eqb, eqb-true, ltb-true, ltb-false}
use Rattle.rules.specs.Syntax.{var, null, same}
use Rattle.rules.specs.State as Rules
use Rattle.rules.specs.State.{Term, Permission, Renaming, representative, equal_in, is_left, becomes}
use Rattle.rules.proofs.Closure.{linked→representative, equal_in-sound, same→≡, same_refl}
use Rattle.rules.proofs.Lists.{some_inj, T_true, F-false}
use Rattle.rules.proofs.Successors.{left_is, is-left, successor-is, gives-way, way-renamed}
use Rattle.check_equality.specs.Layout.{slots, null_slot, left_sides, right_sides, relations_at}
use Rattle.check_equality.specs.Keys.{term_of}
use Rattle.check_equality.specs.Links.{Header, Alike, term_at, picked}
use Rattle.check_equality.proofs.Keys.{of-variable, one_key, same_key}
use Rattle.check_state.specs.States.{Wf, facts, facts_of, state_of}
use Rattle.check_state.proofs.Entries.{no-flags}
use Rattle.std.specs.Prelude as Std
use Rattle.check_successors.specs.Successors.{Drops, term_or}
use Rattle.check_labels.specs.Facts.{Stands, Rebuilt}
use Rattle.check_scans.specs.Sides.{Dropped, MappedKeys, mentions_key, renamed_key}
use Rattle.check_dropping.specs.Dropping.{Dropping, DropsSides, Forgettable, Forgot, Renamed, GaveWay, StandsIn}
use Rattle.check_scans.specs.Scans.{path_key_of, Untouched}
use Rattle.check_labels.specs.Labels.{Whole, even, Keeps}
use Rattle.check_dropping.proofs.GivingWay.{gave, named, gave-sides}
use Rattle.check_scans.proofs.Scanning.{sole-name, sole-renamed}

-- NO SIDE GONE
pub none-whole : (b : List ℕ) (n : ℕ) → Whole b (replicate slots false) 0 n
unfolding even
none-whole b n i g h = rw (no-flags slots (left_sides + 2 * i), no-flags slots (right_sides + 2 * i)) (or-end (eqb (get_or b (relations_at + i) 0) 1))
  where
    or-end : (c : Bool) → (c || true) ≡ true
    or-end true = refl
    or-end false = refl

-- the facts before `from` are whole
pub whole_from :
    (b : List ℕ) (gone : List Bool) (from n : ℕ) → ((j : ℕ) → left_sides ≤ j → j < left_sides + 2 * from → get_or gone j false ≡ false) →
    Whole b gone from n → Whole b gone 0 n
unfolding even
whole_from b gone from n free W i g h = go (ltb i from) refl
  where
    or-end : (c : Bool) → (c || true) ≡ true
    or-end true = refl
    or-end false = refl

    go :
        (c : Bool) → ltb i from ≡ c →
        (eqb (get_or b (relations_at + i) 0) 1 || cond (get_or gone (left_sides + 2 * i) false) (get_or gone (right_sides + 2 * i) false) (not (get_or gone (right_sides + 2 * i) false))) ≡ true
    go true e =
        let l : i < from = ltb-true i from e in
        rw (free (left_sides + 2 * i) (omega arith) (omega arith), free (right_sides + 2 * i) (omega arith) (omega arith)) (or-end (eqb (get_or b (relations_at + i) 0) 1))
    go false e = W i (ltb-false i from e) h

-- DROPPING
module _ (key b : List ℕ) (skip : List Bool) (x : ℕ) (w : Wf key b) (ρ : Renaming) (ps : List Permission) (plain : (t u : Term) → ρ t ≡ some u → t ≡ u)
    (W : Drops ρ ps b skip x) where
  abbrev s : Rules.State
  s = state_of key b

  -- what a term becomes is left, and was ~
  way-is : (t u : Term) → becomes s ρ ps t ≡ some u → (ρ u ≡ some u) × Alike (facts_of key b) t u
  unfolding becomes
  way-is t u e =
      ⊎_elim
      (λ k. let is : t ≡ u = plain t u k in (subst (λ (v : Term). ρ v ≡ some u) is k, ap (representative (facts_of key b)) is))
      (λ (_, k). let (i, l, q) = successor-is (equal_in s) ρ ps (facts_of key b) t u k in (l, sym (linked→representative (equal_in-sound s u t q))))
      (gives-way (equal_in s) ρ ps (facts_of key b) t u e)

  left-way : (t : Term) → ρ t ≡ some t → becomes s ρ ps t ≡ some t
  unfolding becomes
  left-way t e = way-renamed (equal_in s) ρ ps (facts_of key b) t t e

  is_true : (c : Bool) → c ≡ true → T c
  is_true c e = subst T (sym e) tt

  not-x : (v : ℕ) → (v ≡ x → ⊥) → not (eqb v x) ≡ true
  not-x v n = rw (ne_eqb v x n)

  pub way-keeps :
      (key₁ : List ℕ) (gone₁ : List Bool) → Header key₁ → Stands (becomes s ρ ps) key key₁ gone₁ (facts b) → Whole b gone₁ 0 (facts b) → Keeps key₁ b gone₁ x
  way-keeps key₁ gone₁ H S I =
      record {
        old = key;
        wf = w;
        header = H;
        way = becomes s ρ ps;
        stands = S;
        was = λ t u e. (way-is t u e).1;
        stays = λ t u e. left-way u (way-is t u e).0;
        whole = I;
        left = λ v h n. left-way (var v) (left_is ρ (var v) (is_true _ (W.variables v h ∙ not-x v n)));
        null = left-way null (left_is ρ null (is_true _ W.null));
        alone =
            λ t h e.
            let z : is_left ρ (var x) ≡ true = T_true _ (is-left ρ (var x) (way-is t (var x) e).0) in
            let y : is_left ρ (var x) ≡ false = W.variables x h ∙ ap not (eq-eqb x x refl) in
            absurd (let u : ◌≡◌ {A = Bool} true false = sym z ∙ y in let v : ◌≡◌ {A = ℕ} 0 1 = cc in omega arith);
      }

-- SIDES WITH FLAGS
pub flags-dropping :
    (test : ℕ → Bool) (key b : List ℕ) (skip : List Bool) (x : ℕ) (gone : List Bool) → Forgettable test key b skip x →
    Dropped test key (left_sides + 2 * facts b) gone → Dropping key b skip x gone
flags-dropping test key b skip x gone F D =
    record {
      ρ = F.ρ;
      ps = F.ps;
      plain = F.plain;
      drops = F.drops;
      stands = λ j a h. F.sides j a h ∙ ap (λ (c : Bool). cond c none (some (term_at key j))) (sym (D.at j a h));
    }

module _ (key b : List ℕ) (skip : List Bool) (x : ℕ) (gone : List Bool) (from : ℕ) (key₁ : List ℕ) (gone₁ : List Bool) (U : Untouched key b gone from)
    (G : GaveWay key b skip x gone from key₁ gone₁) where
  pub gave-untouched : Untouched key₁ b gone₁ from
  gave-untouched =
      record {
        most = U.most;
        flags = λ j a h. G.flags j h ∙ U.flags j a h;
        plain = λ c h. rw (G.keys (left_sides + 2 * c) (omega arith), G.keys (right_sides + 2 * c) (omega arith)) (U.plain c h);
      }

  pub gave_keeps : Wf key b → Dropping key b skip x gone → Whole b gone₁ from (facts b) → Keeps key₁ b gone₁ x
  gave_keeps w D I =
      way-keeps key b skip x w D.ρ D.ps D.plain D.drops key₁ gone₁ G.header
      (gave-sides key b skip x gone from key₁ gone₁ G D.ρ D.ps D.drops D.stands)
      (whole_from b gone₁ from (facts b) gave-untouched.flags I)

-- ONE KEY: that of its successor takes its place
module _ (key b : List ℕ) (skip : List Bool) (x k t : ℕ) (key₁ : List ℕ) (M : MappedKeys (picked k t) key (left_sides + 2 * facts b) key₁)
    (next :
    (ρ : Renaming) (ps : List Permission) → Drops ρ ps b skip x →
    some (term_of t) ≡ Rules.successor (equal_in (state_of key b)) ρ ps (facts_of key b) (term_of k)) where
  key-sides :
      (ρ : Renaming) (ps : List Permission) → Drops ρ ps b skip x → DropsSides (λ l. eqb l k) ρ key b →
      Stands (becomes (state_of key b) ρ ps) key key₁ (replicate slots false) (facts b)
  unfolding picked
  key-sides ρ ps W S j a h =
      go (eqb (get_or key j 0) k) refl ∙ ap (λ (l : ℕ). some (term_of l)) (sym (M.at j a h))
      ∙ ap (λ (c : Bool). cond c none (some (term_at key₁ j))) (sym (no-flags slots j))
    where
      go : (c : Bool) → eqb (get_or key j 0) k ≡ c → becomes (state_of key b) ρ ps (term_at key j) ≡ some (term_of (cond c t (get_or key j 0)))
      go true e =
          gave (state_of key b) ρ ps (term_at key j) true (S j a h ∙ rw e)
          ∙ ap (λ (l : ℕ). Rules.successor (equal_in (state_of key b)) ρ ps (facts_of key b) (term_of l)) (eqb-true (get_or key j 0) k e) ∙ sym (next ρ ps W)
      go false e = named (state_of key b) ρ ps (term_at key j) (term_at key j) (S j a h ∙ rw e)

  pub key-keeps : Wf key b → Forgettable (λ l. eqb l k) key b skip x → Keeps key₁ b (replicate slots false) x
  key-keeps w F =
      way-keeps key b skip x w F.ρ F.ps F.plain F.drops key₁ (replicate slots false) M.header (key-sides F.ρ F.ps F.drops F.sides)
      (none-whole b (facts b))

  pub key-forgot : (key' b' : List ℕ) → Rebuilt key₁ b (replicate slots false) key' b' → Forgot (λ l. eqb l k) key b skip x key' b'
  key-forgot key' b' R =
      record { wf = R.wf; facts = λ ρ ps W S. R.facts (becomes (state_of key b) ρ ps) key (key-sides ρ ps W S); rest = R.rest }

-- A VARIABLE whose paths are no sides
module _ (key b : List ℕ) (x : ℕ) (no-path : (j : ℕ) → left_sides ≤ j → j < left_sides + 2 * facts b → path_key_of x (get_or key j 0) ≡ false) where
  sole-sides : (ρ : Renaming) → DropsSides (mentions_key x) ρ key b → DropsSides (λ l. eqb l x) ρ key b
  sole-sides ρ S j a h = S j a h ∙ ap (λ (c : Bool). cond c none (some (term_at key j))) (sole-name x (get_or key j 0) (no-path j a h))

  pub sole-forgettable : (skip : List Bool) → Forgettable (mentions_key x) key b skip x → Forgettable (λ l. eqb l x) key b skip x
  sole-forgettable skip F = record { ρ = F.ρ; ps = F.ps; plain = F.plain; drops = F.drops; sides = sole-sides F.ρ F.sides }

  pub sole-forgot : (skip : List Bool) (key' b' : List ℕ) → Forgot (λ l. eqb l x) key b skip x key' b' → Forgot (mentions_key x) key b skip x key' b'
  sole-forgot skip key' b' F = record { wf = F.wf; facts = λ ρ ps W S. F.facts ρ ps W (sole-sides ρ S); rest = F.rest }

  -- another variable takes its place
  module _ (to : ℕ) (w : Wf key b) (I : StandsIn b x to) (key₁ : List ℕ) (M : MappedKeys (picked x to) key (left_sides + 2 * facts b) key₁) where
    abbrev swap : Renaming
    swap t = cond (same t (var x)) (some (var to)) (some t)

    swapped : (t u : Term) → swap t ≡ some u → ((t ≡ var x) × (u ≡ var to)) ⊎ ((t ≡ u) × (same t (var x) ≡ false))
    swapped t u e = go (same t (var x)) refl e
      where
        go : (c : Bool) → same t (var x) ≡ c → cond c (some (var to)) (some t) ≡ some u → ((t ≡ var x) × (u ≡ var to)) ⊎ ((t ≡ u) × (same t (var x) ≡ false))
        go true d e = inl (same→≡ t (var x) (subst T (sym d) tt), sym (some_inj e))
        go false d e = inr (some_inj e, d)

    other : (v : ℕ) → v < 256 → (v ≡ x → ⊥) → same (var v) (var x) ≡ false
    other v h n = F-false _ (λ z. n (one_key v x (of-variable v h ∙ same→≡ (var v) (var x) z ∙ sym (of-variable x (omega (arith, I.variable))))))

    to_is : to < 256
    to_is = omega (arith, I.name)

    stays-to : swap (var to) ≡ some (var to)
    stays-to = rw (other to to_is (λ e. I.other (sym e)))

    header-term : (v : ℕ) → v < null_slot → term_at key v ≡ var v
    header-term v h = ap term_of (w.linked.header.variables v h) ∙ of-variable v (omega arith)

    alike : Alike (facts_of key b) (var x) (var to)
    alike =
        ap (representative (facts_of key b)) (sym (header-term x I.variable))
        ∙ w.linked.decides.sound x to (omega (arith, I.variable)) (omega (arith, I.name)) I.label
        ∙ ap (representative (facts_of key b)) (header-term to I.name)

    swap-side : (k : ℕ) → swap (term_of k) ≡ some (term_of (picked x to k))
    unfolding picked
    swap-side k = rw (← of-variable x (omega (arith, I.variable)), same_key k x, ← of-variable to to_is) (go (eqb k x))
      where
        go : (c : Bool) → cond c (some (term_of to)) (some (term_of k)) ≡ some (term_of (cond c to k))
        go true = refl
        go false = refl

    sides-are : (ρ : Renaming) → ((k : ℕ) → path_key_of x k ≡ false → ρ (term_of k) ≡ some (term_of (picked x to k))) → Stands ρ key key₁ (replicate slots false) (facts b)
    sides-are ρ D j a h =
        D (get_or key j 0) (no-path j a h) ∙ ap (λ (l : ℕ). some (term_of l)) (sym (M.at j a h))
        ∙ ap (λ (c : Bool). cond c none (some (term_at key₁ j))) (sym (no-flags slots j))

    pub swap-keeps : Keeps key₁ b (replicate slots false) x
    unfolding same
    swap-keeps =
        record {
          old = key;
          wf = w;
          header = M.header;
          way = swap;
          stands = sides-are swap (λ k p. swap-side k);
          was = λ t u e. ⊎_elim (λ (p, q). rw (p, q) alike) (λ (p, q). ap (representative (facts_of key b)) p) (swapped t u e);
          stays = λ t u e. ⊎_elim (λ (p, q). rw q stays-to) (λ (p, q). subst (λ (v : Term). swap v ≡ some v) p (rw q)) (swapped t u e);
          whole = none-whole b (facts b);
          left = λ v h n. rw (other v (omega arith) n);
          null = refl;
          alone =
              λ t h e.
              ⊎_elim (λ (p, q). I.other (one_key x to (of-variable x (omega arith) ∙ q ∙ sym (of-variable to to_is))))
              (λ (p, q). absurd (let z : same (var x) (var x) ≡ false = subst (λ (v : Term). same v (var x) ≡ false) p q in subst T z (same_refl (var x)))) (swapped t (var x) e);
        }

    pub swap-renamed : (key' b' : List ℕ) → Rebuilt key₁ b (replicate slots false) key' b' → Renamed (renamed_key x to) key b key' b'
    swap-renamed key' b' R =
        record {
          wf = R.wf;
          facts = λ ρ D. R.facts ρ key (sides-are ρ (λ k p. D k ∙ ap (λ (l : ℕ). some (term_of l)) (sole-renamed x to k p)));
          rest = R.rest;
        }

-- all keys renamed, and linked anew
pub rebuilt-renamed :
    (map : ℕ → ℕ) (key b key₁ key' b' : List ℕ) → MappedKeys map key (left_sides + 2 * facts b) key₁ → Rebuilt key₁ b (replicate slots false) key' b' →
    Renamed map key b key' b'
rebuilt-renamed map key b key₁ key' b' M R =
    record {
      wf = R.wf;
      facts =
          λ ρ D.
          R.facts ρ key
          (λ j a h. D (get_or key j 0) ∙ ap (λ (l : ℕ). some (term_of l)) (sym (M.at j a h)) ∙ ap (λ (c : Bool). cond c none (some (term_at key₁ j))) (sym (no-flags slots j)));
      rest = R.rest;
    }

-- the key that a search gives
pub told-key : (r : Std.Option ℕ) (t : ℕ) (o : Option Term) → r ≡ Std.Some t → term_or r ≡ o → some (term_of t) ≡ o
unfolding term_or
told-key r t o e d = sym (ap term_or e) ∙ d
