-- `set`: the checker's state after it is satisfied after the machine's step.
use mathlib.Core.Path.{◌≡◌, refl, sym, ap, ◌∙◌, subst}
use mathlib.Core.List.{List, [], ◌∷◌, ◌++◌}
use mathlib.Core.Option.{some}
use mathlib.Core.Logic.{◌⊎◌, inl, inr, ⊎_elim}
use Prim.Native.Nat.{ℕ, ◌+◌, ◌≤◌}
use native.Mathlib.Omega.{arith}
use native.Mathlib.Nat.{le_refl}
use lib.Dec.{T}
use Rattle.rules.specs.Base.{ok, or_else, Member}
use Rattle.rules.specs.Answers.{no_permission}
use Rattle.rules.specs.Syntax.{Permit, acc, read, chain, is_path, eq, num, null, var, path}
use Rattle.rules.specs.State.{Term, Permission, State, Split, entry, equal_in, leaves, giving, split, path_of, lists, drop_paths, add_fact}
use Rattle.rules.specs.Rules.{set_rule}
use Rattle.rules.specs.Machine.{Config, Frame, Heap, Location, value_at, value_of, locate, store, advance, jump, stored, set_step}
use Rattle.rules.proofs.Lists.{head-or, is-head, append-member, member-left, member_right, none-some}
use Rattle.rules.proofs.Tries.{bind_ok, or_else-ok, bind-of-ok}
use Rattle.rules.proofs.Sets.{location-eq, halves-nil, halves-replicate}
use Rattle.rules.proofs.Heaps.{store_same, store_other}
use Rattle.soundness.proofs.Satisfied.{term_value, location_of, Stock, OwnsPath, OwnsAs, Owns, Stocked, Listed, Reads, Knows, Satisfied, AgreeOn, stocked-same, stocked-parts, stocked-append, stocked-by, value-by, path-reads, satisfied-frame}
use Rattle.soundness.proofs.ShowSound.{AtMostTwo, entry-location, located, Parted, split-parted, Divided, divided, Given, given}
use Rattle.soundness.proofs.DropSound.{reads-listed, paths-dropped}
use Rattle.soundness.proofs.AddSound.{fact-added}
use Rattle.soundness.proofs.Stack.{Goes}

only-acc : (j : Permit) (ks : List Permit) → leaves acc j ≡ some ks → j ≡ acc
unfolding leaves
only-acc acc ks e = refl
only-acc read ks e = none-some e
only-acc chain ks e = none-some e

module _ (h : Heap) (F : Frame) (s : State) (S : Satisfied h F s) (most : AtMostTwo F) (x f y : ℕ) where
  abbrev written : Heap
  written = store h (value_of F x) f (value_of F y)

  abbrev spot : Location
  spot = record { object = value_of F x; field = f }

  -- the entry that shows `acc x f`, and the others
  module _ (c : Split) (D : Parted (giving (equal_in s) acc (var x) f) s.permissions c) where
    gift : Given (equal_in s) acc (var x) f c.taken c.left
    gift = given (equal_in s) acc (var x) f c.taken c.left D.gives

    spot-is : location_of F c.taken ≡ spot
    spot-is = entry-location h F s S x f c.taken gift.named

    parts : Divided h F c.taken D.before D.after S.stock
    parts = divided h F _ s.permissions c S.stock D S.knows.stocked

    -- it is an `acc`, and owns the location whole
    is-acc : c.taken.permit ≡ acc
    is-acc = only-acc c.taken.permit gift.permits gift.leaving

    entry-owns : OwnsPath 2 F c.taken parts.of_entry
    entry-owns = subst (λ (k : Permit). OwnsAs k h F c.taken parts.of_entry) is-acc parts.entry-owns

    entry_whole : 2 ≤ parts.of_entry spot
    entry_whole =
        let p : Location = location_of F c.taken in
        subst (λ (l : Location). 2 ≤ parts.of_entry l) spot-is (omega (arith, entry-owns.amount p, halves-replicate 2 p))

    abbrev others : List Permission
    others = D.before ++ D.after

    abbrev of_others : Stock
    of_others l = parts.of-before l + parts.of-after l

    others-none : of_others spot ≡ 0
    others-none = omega (arith, entry_whole, parts.sum spot, S.within spot, most spot)

    -- of which nothing is written
    others-agree : AgreeOn h written of_others
    others-agree l i =
        store_other h (value_of F x) f (value_of F y) l.object l.field
        (λ w. omega (arith, i, others-none, ap of_others (location-eq {o = l.object} {f = l.field} (sym w.0) w.1)))

    -- a listed path is another's, or the entry's
    other-or :
        (z g : ℕ) → (i : Listed s.permissions z g) → Listed others z g ⊎ (entry i.0 z g ≡ c.taken)
    other-or z g (k, t, i) =
        ⊎_elim
        (λ j. inl (k, t, member-left D.before D.after _ j))
        (λ j. ⊎_elim (λ m. inl (k, t, member_right D.before D.after _ m)) (λ e. inr e) (head-or j))
        (append-member D.before (c.taken ∷ D.after) _ (subst (Member _) D.was i))

    -- a term that is not the entry's path reads the others
    reads-others : (t : Term) → (T (lists (c.taken ∷ []) t) → ⊥) → Reads s.permissions t → Reads others t
    reads-others (num n) out i = tt
    reads-others null out i = tt
    reads-others (var v) out i = tt
    reads-others (path z g) out i =
        ⊎_elim (λ k. k) (λ e. absurd (out (reads-listed (c.taken ∷ []) z g (i.0, i.1, is-head e)))) (other-or z g i)

    others-own : Stocked h F others of_others
    others-own =
        stocked-append h F D.before D.after parts.of-before parts.of-after parts.before-owns parts.after-owns

    -- and its value is not written
    unwritten :
        (t : Term) → (T (lists (c.taken ∷ []) t) → ⊥) → Reads s.permissions t → term_value written F t ≡ term_value h F t
    unwritten t out r =
        value-by h written F F (λ v. refl) others of_others others-agree others-own t (reads-others t out r)

    entry-still : Owns written F c.taken parts.of_entry
    entry-still = subst (λ (k : Permit). OwnsAs k written F c.taken parts.of_entry) (sym is-acc) entry-owns

    -- the state in which the path that is set is dropped
    abbrev forgotten : State
    forgotten = drop_paths (c.taken ∷ []) s.permissions s

    -- the entry back in its place
    put :
        (bs ds : List Permission) (o : Stock) → Stocked written F (bs ++ ds) o →
        Stocked written F (bs ++ (c.taken ∷ ds)) (λ l. parts.of_entry l + o l)
    put bs ds o k =
        let (b, d, B, A, e) = stocked-parts written F bs ds o k in
        stocked-same written F (bs ++ (c.taken ∷ ds)) _ _ (λ l. omega (arith, e l))
        (stocked-append written F bs (c.taken ∷ ds) b (λ l. parts.of_entry l + d l) B
        (parts.of_entry, d, entry-still, A, λ l. refl))

    forgotten-known : Knows written F forgotten S.stock
    unfolding drop_paths
    forgotten-known =
        record {
          stocked =
              subst (λ l. Stocked written F l S.stock) (sym D.was)
              (stocked-same written F (D.before ++ (c.taken ∷ D.after)) (λ l. parts.of_entry l + of_others l) S.stock parts.sum
              (put D.before D.after of_others (stocked-by h written F F (λ v. refl) others of_others others-agree others-own)));
          facts = paths-dropped h written F s S s.permissions (c.taken ∷ []) (λ x f r. inl r) unwritten;
        }

    written-value :
        (p : Permission) → (value_of F x ≡ 0 → ⊥) → location_of F p ≡ spot →
        term_value written F (path_of p) ≡ term_value written F (var y)
    unfolding term_value path_of
    written-value p n e =
        ap (λ (l : Location). value_at written l.object l.field) e ∙ store_same h (value_of F x) f (value_of F y) n

    entry-object : value_of F x ≡ 0 → ⊥
    entry-object z = entry-owns.object (ap (λ (l : Location). l.object) spot-is ∙ z)

    set_known :
        (s' : State) → add_fact eq (path_of c.taken) (var y) forgotten ≡ ok s' →
        (locate F [] 2 x f ≡ ok spot) × Satisfied written F s'
    unfolding is_path drop_paths
    set_known s' b = (
      located F [] 2 x f entry-object
          (omega (arith, entry_whole, parts.sum spot, S.within spot, halves-nil spot)),
      record {
        stock = S.stock;
        knows =
            fact-added written F eq (path_of c.taken) (var y) forgotten s' S.stock b
            (path-reads s.permissions c.taken (subst (λ (k : Permit). T (is_path k)) (sym is-acc) tt)
            (subst (Member _) (sym D.was) (member_right D.before (c.taken ∷ D.after) _ (is-head refl))))
            tt (written-value c.taken entry-object spot-is) forgotten-known;
        within = S.within;
      },
    )

  -- the rule: the machine locates `x.f`, and the frame satisfies the state over the heap that is written
  set-rule :
      (s' : State) → set_rule x f y s ≡ ok s' → (locate F [] 2 x f ≡ ok spot) × Satisfied written F s'
  unfolding set_rule
  set-rule s' a =
      let (c, o, b) = bind_ok (or_else (split (giving (equal_in s) acc (var x) f) s.permissions) no_permission) a in
      set_known c (split-parted _ s.permissions c (or_else-ok _ no_permission c o)) s' b

-- the lemma on `set`
pub set-sound :
    (m : Config) (s s' : State) (x f y : ℕ) → Satisfied m.heap m.frame s → AtMostTwo m.frame →
    set_rule x f y s ≡ ok s' → Goes m s' (set_step x f y m)
unfolding set_step stored advance jump value_of
set-sound m s s' x f y S most a =
    let F : Frame = m.frame in
    let (l, S') = set-rule m.heap F s S most x f y s' a in
    subst (Goes m s') (sym (bind-of-ok (locate F [] 2 x f) _ _ l))
    (record {
      satisfied = satisfied-frame _ F (advance F) s' (λ v. refl) (λ l. le_refl _) S';
      row = refl;
      same-call = record { ensures = refl; this = refl; w = refl };
      callers = refl;
    })
