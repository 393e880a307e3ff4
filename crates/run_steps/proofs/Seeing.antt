-- What the code reads is what the definitions evaluate, in a frame that the view sees.
use mathlib.Core.Path.{◌≡◌, refl, sym, ap, ◌∙◌, subst}
use mathlib.Core.Bool.{Bool, true, false, cond, not, ◌&&◌}
use mathlib.Core.List.{List, [], ◌∷◌, ◌++◌, map}
use mathlib.Core.Logic.{◌⊎◌, inl, inr, ⊎_elim}
use mathlib.Core.Option.{Option, none, some}
use Prim.Native.Nat.{ℕ, zero, suc, ◌+◌, ◌≤◌, ◌<◌}
use native.Mathlib.Omega.{arith}
use lib.Dec.{T, eqb, leb, ltb, eqb→eq, leb→le, eqb_refl}
use lib.ListN.{length, replicate}
use borrow.Author.Tests.{ltb-true, lt-leb, le-leb, leb-true}
use Rattle.rules.specs.Base.{Member, Try, ok, no, ◌>>=◌, ◌>>◌, check, any}
use Rattle.rules.specs.Answers.{Stop, permission_missing, null_followed, formula_false}
use Rattle.rules.specs.Syntax.{Rel, Expr, Atom, Formula, num, null, var, path, acc, read, chain, own, cmp}
use Rattle.rules.specs.Machine.{Heap, Frame, Location, halves, value_at, value_of, locate, value, compared, walk, take_walk, take_halves, take_share, take_from, footprint}
use Rattle.rules.proofs.Lists.{T_true, some_inj, and_intro, and_both, or_cases, decide_eq, in-any, any-in, end-member}
use Rattle.rules.proofs.Sets.{halves-nil, halves-append, halves-replicate, replicate-other}
use Rattle.rules.proofs.Tries.{ok-inj, no_ok}
use Rattle.rules.proofs.Walks.{walk-held, walk-null}
use Rattle.rules.proofs.Footprints.{more-held}
use Rattle.rules.proofs.CountedWalks.{count, last_of, Goes, ended, went, goes-count, goes_by, goes-may, goes-from, goes-next, goes_last, goes_end, Outcome, through, stuck, too_long, outcome}
use Rattle.rules.proofs.CountedWalks.{both-stuck, both_long, apart, meets, long-ever, places, Same, both, neither, may_pass, walk-counts, decide-bool}
use Rattle.tables.specs.Layout.{most_names, frame_variables}
use Rattle.tables.specs.Numbers.{eq_atom}
use Rattle.tables.specs.Decode.{run, left_at, right_at, atom_at, atoms_from, atom_kind_at, acc_variable_at, acc_field_at, is_permission, permit_of, atom_count, rel_of}
use Rattle.tables.specs.Tables.{Tables, SideFits, AtomFitsAt}
use Rattle.run_heap.specs.declared.View.{View}
use Rattle.run_heap.specs.Views.{variable_at, halves_at, cell_value, cell_of, present, found_of, found, held_cell, spot, read_in}
use Rattle.run_heap.specs.Chains.{walk_in, cells_by}
use Rattle.run_footprint.specs.Footprints.{share_of, taken, chain_of, is_chain, start_in, field_in, cells_in, spread_one, spread, taken_by, new_share, share_in, share_at, free_of, end_matches, ends_by, new_chain, chain_in, own_in, take_in, ShareFits, SharesFit}
use Rattle.run_heap.proofs.Halves.{halves-most}
use Rattle.run_heap.proofs.Reading.{spot-is}
use Rattle.run_footprint.proofs.Shares.{share_cell, share_halves, part_same, part-other, taken_none, taken-end, any-end, any-either, share-plain, spread-plain, spread_end, spread-is, chain-start, chain-field}
use Rattle.run_footprint.proofs.Taking.{access-fits, chain-null, chain-walked, chain-stops, chain-met, chain-free}
use Rattle.run_steps.proofs.Sights.{Sees, at, held_at, held_none, held-exists}
use Rattle.run_steps.proofs.Sums.{no-yes, taken-append, part-least, Chained, chain-takes, chain-alone, chain-took, nothing-taken, by-spread}
use Rattle.run_steps.proofs.Ways.{may_in, next, Passes, may-cell, cell-may, walk-counted, Way, way-cell, cell-way, cells-places, cells_fit}

-- its sides fit
abbrev pub AtomOk : Atom ℕ → Type 0
AtomOk (own k x f) = (x < frame_variables) × (f < most_names)
AtomOk (cmp n a b) = SideFits a × SideFits b

unfoldable pub FormulaOk : Formula ℕ → Type 0
FormulaOk [] = Unit {0}
FormulaOk (a ∷ φ) = AtomOk a × FormulaOk φ

-- the halves of locations in A are those in the shares of cells ss
pub record Matches (w : List ℕ) (n : ℕ) (A : List Location) (ss : List ℕ) : Type 0 where
  pub member : (p : Location) (k : ℕ) → cell_of w n p.object p.field ≡ some k → halves A p ≡ taken k ss
  pub fit : SharesFit ss

-- the same stop, or what P says
data Agree (P : List Location → List ℕ → Type 0) : Try Stop (List Location) → Try Stop (List ℕ) → Type 0 where
  took-so : {A : List Location} {ss : List ℕ} → P A ss → Agree P (ok A) (ok ss)
  stops_so : {s : Stop} → Agree P (no s) (no s)

module _ {w : List ℕ} {v : View} {h : Heap} {F : Frame} (S : Sees w v h F) where
  -- LOCATIONS

  -- can n halves be asked for beside those taken, t of each cell? A location without a cell is in no A.
  allowed : (ℕ → ℕ) → ℕ → Option ℕ → Bool
  allowed t n none = false
  allowed t n (some k) = leb (n + t k) (halves_at w v.holder k)

  allowed-is :
      (A : List Location) (t : ℕ → ℕ) (n o f : ℕ) → 1 ≤ n →
      ((k : ℕ) → cell_of w v.objects o f ≡ some k → halves A (at o f) ≡ t k) → (c : Option ℕ) → cell_of w v.objects o f ≡ c →
      leb (n + halves A (at o f)) (halves F.held (at o f)) ≡ allowed t n c
  unfolding allowed
  allowed-is A t n o f l same none e =
      lt-leb (n + halves A (at o f)) (halves F.held (at o f)) (omega (arith, held_none S o f e))
  allowed-is A t n o f l same (some k) e = rw (held_at S o f k e, same k e)

  pub locate-is :
      (n x f : ℕ) → 1 ≤ n → x < frame_variables → locate F [] n x f ≡ spot w v n x f >>= λ k. ok (at (value_of F x) f)
  unfolding locate spot found found_of present held_cell allowed check ◌>>◌ ◌>>=◌
  locate-is n x f l lx =
      rw (← S.values x lx, allowed-is [] (λ k. 0) n (value_of F x) f l (λ k _. halves-nil (at (value_of F x) f)) _ refl)
      (go (not (eqb (value_of F x) 0)) (cell_of w v.objects (value_of F x) f))
    where
      go :
          (b : Bool) (c : Option ℕ) →
          check b null_followed >> (check (allowed (λ k. 0) n c) permission_missing >> ok (at (value_of F x) f))
          ≡ ((check b null_followed >> present c) >>= held_cell w v.holder n) >>= λ k. ok (at (value_of F x) f)
      go false c = refl
      go true none = refl
      go true (some k) =
          let e : n + 0 ≡ n = omega arith in
          rw e (held (leb n (halves_at w v.holder k)) k)
        where
          held :
              (b : Bool) (k : ℕ) →
              check b permission_missing >> ok (at (value_of F x) f) ≡ (check b permission_missing >> ok k) >>= λ k. ok (at (value_of F x) f)
          held true k = refl
          held false k = refl

  pub locate-at :
      (n x f k : ℕ) → 1 ≤ n → x < frame_variables → spot w v n x f ≡ ok k →
      (locate F [] n x f ≡ ok (at (value_of F x) f)) × (cell_of w v.objects (value_of F x) f ≡ some k)
  unfolding ◌>>=◌
  locate-at n x f k l lx e = (
    locate-is n x f l lx ∙ rw e,
    rw (S.values x lx) (spot-is w v n x f k e).0,
  )

  pub locate-no :
      (n x f : ℕ) (s : Stop) → 1 ≤ n → x < frame_variables → spot w v n x f ≡ no s → locate F [] n x f ≡ no s
  unfolding ◌>>=◌
  locate-no n x f s l lx e = locate-is n x f l lx ∙ rw e

  -- EXPRESSIONS
  pub value_is : (e : Expr ℕ) → SideFits e → value h F e ≡ read_in w v e
  unfolding value read_in SideFits ◌>>=◌
  value_is (num n) l = refl
  value_is null l = refl
  value_is (var x) l = ap ok (S.values x l)
  value_is (path x f) l = go (spot w v 1 x f) refl
    where
      go : (t : Try Stop ℕ) → spot w v 1 x f ≡ t → locate F [] 1 x f >>= (λ p. ok (value_at h p.object f)) ≡ t >>= λ k. ok (cell_value w k)
      go (ok k) e =
          let (a, c) = locate-at 1 x f k (omega arith) l.0 e in
          rw a (ap ok (S.cells (value_of F x) f k c))
      go (no s) e = rw (locate-no 1 x f s (omega arith) l.0 e)

  -- FORMULAS

  -- n halves of a location more
  more :
      (A : List Location) (ss : List ℕ) (n : ℕ) (q : Location) (j : ℕ) → 1 ≤ n → n < 4 →
      cell_of w v.objects q.object q.field ≡ some j → Matches w v.objects A ss →
      Matches w v.objects (replicate n q ++ A) (ss ++ (share_of j n ∷ []))
  more A ss n q j l h e M =
      record {
        member = member;
        fit = λ s t. fit s (or_cases (eqb s (share_of j n)) (any (eqb s) ss) (rw any-end at t));
      }
    where
      member :
          (p : Location) (k : ℕ) → cell_of w v.objects p.object p.field ≡ some k →
          halves (replicate n q ++ A) p ≡ taken k (ss ++ (share_of j n ∷ []))
      member p k c = ⊎_elim here there (decide_eq k j)
        where
          here : k ≡ j → halves (replicate n q ++ A) p ≡ taken k (ss ++ (share_of j n ∷ []))
          here z =
              let y : p ≡ q = S.apart p q k c (e ∙ ap some (sym z)) in
              omega (
                arith,
                halves-append (replicate n q) A p,
                ap (halves (replicate n q)) y ∙ halves-replicate n q,
                M.member p k c,
                taken-end k (share_of j n) ss,
                part_same k (share_of j n) (share_cell j n h ∙ sym z) ∙ share_halves j n h,
              )

          there : (k ≡ j → ⊥) → halves (replicate n q ++ A) p ≡ taken k (ss ++ (share_of j n ∷ []))
          there z =
              let y : p ≡ q → ⊥ =
              λ y. z (some_inj (sym c ∙ (ap (λ (r : Location). cell_of w v.objects r.object r.field) y ∙ e))) in
              omega (
                arith,
                halves-append (replicate n q) A p,
                replicate-other n q p y,
                M.member p k c,
                taken-end k (share_of j n) ss,
                part-other k (share_of j n) (λ x. z (sym x ∙ share_cell j n h)),
              )

      fit : (s : ℕ) → T (eqb s (share_of j n)) ⊎ T (any (eqb s) ss) → ShareFits s
      fit s (inl t) =
          subst ShareFits (sym (eqb→eq s (share_of j n) t))
          (rw (share_cell j n h) (S.small q.object q.field j e), rw (share_halves j n h) l)
      fit s (inr t) = M.fit s t

  -- WHAT IS TAKEN so far: A, and as shares ss
  abbrev pub N : ℕ
  N = v.objects

  pub record Taken (A : List Location) (ss : List ℕ) : Type 0 where
    matches : Matches w N A (spread w N ss)
    held : (p : Location) → halves A p ≤ halves F.held p
    chains : (s : ℕ) → Member s ss → is_chain s ≡ true → (os : List ℕ) × Way S (field_in s) (start_in s) os

  pub nothing : Taken [] []
  unfolding spread any
  nothing =
      record {
        matches = record { member = λ p k c. halves-nil p ∙ sym (taken_none k); fit = λ s t. absurd t };
        held = λ p. omega (arith, halves-nil p);
        chains = λ s i c. elim i [ ];
      }

  -- no more than two halves of a cell
  taken-most :
      {A : List Location} {ss : List ℕ} → Taken A ss → (o f k : ℕ) → cell_of w N o f ≡ some k → taken k (spread w N ss) ≤ 2
  taken-most K o f k e =
      omega (arith, K.matches.member (at o f) k e, K.held (at o f), held_at S o f k e, halves-most w v.holder k)

  -- the object of a chain's cell
  record Owner (s k : ℕ) (os : List ℕ) : Type 0 where
    object : ℕ
    passed : Member object os
    cell : cell_of w N object (field_in s) ≡ some k

  owner : {s : ℕ} {os : List ℕ} → Way S (field_in s) (start_in s) os → (k : ℕ) → any (eqb k) (cells_in w N s) ≡ true → Owner s k os
  owner {s} W k e =
      let (x, i, c) = cell-way S (field_in s) (λ _. true) N W k e in record { object = x; passed = i; cell = c }

  -- as the code counts
  counted :
      {A : List Location} {ss : List ℕ} → Taken A ss → (o f k : ℕ) → cell_of w N o f ≡ some k →
      halves A (at o f) ≡ taken_by w N f k ss
  counted {A} {ss} K o f k e =
      K.matches.member (at o f) k e
      ∙ sym
      (by-spread w N k f ss
      (λ s i c t.
      let (os, W) = K.chains s i c in
      let O = owner W k t in (
        omega (arith, part-least w N k s ss i, taken-most K o f k e),
        ap (λ (p : Location). p.field) (S.apart (at O.object (field_in s)) (at o f) k O.cell e),
      )))

  own-step :
      (n x f : ℕ) → 1 ≤ n → n ≤ 2 → x < frame_variables → (A : List Location) (ss : List ℕ) → Taken A ss →
      (g : List Location → Try Stop (List Location)) (j : List ℕ → Try Stop (List ℕ)) →
      ((B : List Location) (rs : List ℕ) → Taken B rs → Agree Taken (g B) (j rs)) →
      Agree Taken (take_halves F n x f A >>= g) (share_in w v n x f ss >>= j)
  unfolding take_halves locate share_in found found_of present new_share allowed check ◌>>◌ ◌>>=◌
  own-step n x f l h lx A ss K g j rest =
      rw (← S.values x lx, allowed-is A (λ k. taken_by w N f k ss) n (value_of F x) f l (λ k c. counted K (value_of F x) f k c) _ refl)
      (go (not (eqb (value_of F x) 0)) (cell_of w N (value_of F x) f) refl)
    where
      p : Location
      p = at (value_of F x) f

      taken-too :
          (k : ℕ) → cell_of w N (value_of F x) f ≡ some k → leb (n + taken_by w N f k ss) (halves_at w v.holder k) ≡ true →
          Taken (replicate n p ++ A) (ss ++ (share_of k n ∷ []))
      taken-too k e t =
          let plain : is_chain (share_of k n) ≡ false = share-plain (share_of k n) (omega arith) in
          record {
            matches =
                subst (Matches w N (replicate n p ++ A))
                (sym (spread_end w N (share_of k n) ss ∙ ap (λ (l : List ℕ). spread w N ss ++ l) (spread-plain w N (share_of k n) plain)))
                (more A (spread w N ss) n p k l (omega arith) e K.matches);
            held = λ q.
                more-held F A n p q
                (omega (arith, leb-true (n + taken_by w N f k ss) (halves_at w v.holder k) t, counted K (value_of F x) f k e, held_at S (value_of F x) f k e))
                (K.held q);
            chains = λ s i c.
                ⊎_elim (λ m. K.chains s m c) (λ q. no-yes c (ap is_chain q ∙ plain)) (end-member ss (share_of k n) s i);
          }

      go :
          (b : Bool) (c : Option ℕ) → cell_of w N (value_of F x) f ≡ c →
          Agree Taken
          (((check b null_followed >> (check (allowed (λ k. taken_by w N f k ss) n c) permission_missing >> ok p)) >>= λ p. ok (replicate n p ++ A)) >>= g)
          (((check b null_followed >> present c) >>= new_share w v f n ss) >>= j)
      go false c e = stops_so
      go true none e = stops_so
      go true (some k) e = fork (leb (n + taken_by w N f k ss) (halves_at w v.holder k)) refl
        where
          fork :
              (b : Bool) → leb (n + taken_by w N f k ss) (halves_at w v.holder k) ≡ b →
              Agree Taken (((check b permission_missing >> ok p) >>= λ p. ok (replicate n p ++ A)) >>= g)
              ((check b permission_missing >> ok (ss ++ (share_of k n ∷ []))) >>= j)
          fork true t = rest (replicate n p ++ A) (ss ++ (share_of k n ∷ [])) (taken-too k e t)
          fork false t = stops_so

  -- CHAINS
  module _ {A : List Location} {ss : List ℕ} (K : Taken A ss) (f : ℕ) where
    -- on a chain by f among the shares
    pub record On (x : ℕ) : Type 0 where
      share : ℕ
      pub among : Member share ss
      chain : is_chain share ≡ true
      by : field_in share ≡ f
      objects : List ℕ
      way : Way S f (start_in share) objects
      passed : Member x objects

    unfoldable pub may : ℕ → Bool
    may = may_pass h F A f

    unfoldable pub free : ℕ → Bool
    free = may_in S f (free_of ss)

    -- its cell, and that it is one of the chain's
    on-cell : (x : ℕ) → On x → (k : ℕ) × Passes S f (λ _. true) x k × Chained w N k ss
    on-cell x O =
        let (m, _) = goes-may (next S f) (may_in S f (λ _. true)) O.way x O.passed in
        let (k, P) = may-cell S f (λ _. true) x m in
        let t : any (eqb k) (cells_in w N O.share) ≡ true =
        subst (λ (g : ℕ). any (eqb k) (cells_by w N g N (start_in O.share)) ≡ true) (sym O.by)
        (way-cell S f (λ _. true) N O.way x k O.passed P.cell) in
        (k, P, record { share = O.share; among = O.among; chain = O.chain; has = t })

    may-tests : (x : ℕ) → may x ≡ true → (2 ≤ halves F.held (at x f)) × (halves A (at x f) ≡ 0)
    unfolding may
    may-tests x m =
        let (c, d) = and_both (leb 2 (halves F.held (at x f))) _ (subst T (sym m) tt) in
        (leb→le _ _ c, eqb→eq _ _ d)

    pub less : (x : ℕ) → may x ≡ true → free x ≡ true
    unfolding free free_of
    less x m = go (cell_of w N x f) refl (may-tests x m)
      where
        go : (c : Option ℕ) → cell_of w N x f ≡ c → (2 ≤ halves F.held (at x f)) × (halves A (at x f) ≡ 0) → free x ≡ true
        go none e (l, z) = absurd (omega (arith, l, held_none S x f e))
        go (some k) e (l, z) =
            cell-may S f (free_of ss) x k
            (record {
              cell = e;
              whole = omega (arith, l, held_at S x f k e);
              is_free =
                  rw (nothing-taken w N k ss K.matches.fit (sym (K.matches.member (at x f) k e) ∙ z));
            })

    on-taken : (x : ℕ) → On x → may x ≡ false
    unfolding may
    on-taken x O =
        let (k, P, C) = on-cell x O in
        ⊎_elim
        (λ m. absurd (omega (arith, (may-tests x m).1, chain-takes w N k ss C, K.matches.member (at x f) k P.cell)))
        (λ m. m)
        (decide-bool (may x))

    pub others : (x : ℕ) → free x ≡ true → may x ≡ false → On x
    unfolding free free_of may
    others x t m =
        let (k, P) = may-cell S f (free_of ss) x t in
        let e : any (share_at k) ss ≡ false = not-true (any (share_at k) ss) P.is_free in
        let some-taken : 1 ≤ taken k (spread w N ss) =
        ⊎_elim
        (λ z. no-yes (may-pass k P (K.matches.member (at x f) k P.cell ∙ z)) m)
        (λ z. omega (arith, z))
        (decide_eq (taken k (spread w N ss)) 0) in
        let C = chain-took w N k ss e some-taken in
        let (os, W) = K.chains C.share C.among C.chain in
        let O = owner W k C.has in
        let q : at O.object (field_in C.share) ≡ at x f =
        S.apart (at O.object (field_in C.share)) (at x f) k O.cell P.cell in
        let g : field_in C.share ≡ f = ap (λ (p : Location). p.field) q in
        record {
          share = C.share;
          among = C.among;
          chain = C.chain;
          by = g;
          objects = os;
          way = subst (λ (i : ℕ). Way S i (start_in C.share) os) g W;
          passed = subst (λ (i : ℕ). Member i os) (ap (λ (p : Location). p.object) q) O.passed;
        }
      where
        not-true : (b : Bool) → not b ≡ true → b ≡ false
        not-true true e = no-yes refl (sym e)
        not-true false e = refl

        may-pass : (k : ℕ) → Passes S f (free_of ss) x k → halves A (at x f) ≡ 0 → may x ≡ true
        may-pass k P z = rw (z, le-leb 2 (halves F.held (at x f)) (omega (arith, P.whole, held_at S x f k P.cell)))

    onward : (x : ℕ) → On x → (next S f x ≡ 0 → ⊥) → On (next S f x)
    onward x O z =
        record {
          share = O.share;
          among = O.among;
          chain = O.chain;
          by = O.by;
          objects = O.objects;
          way = O.way;
          passed = goes-next (next S f) (may_in S f (λ _. true)) O.way x O.passed z;
        }

    way_on : (x : ℕ) → On x → (os : List ℕ) × Goes (next S f) free (suc N) x os
    unfolding free free_of
    way_on x O =
        let (us, G, sub) = goes-from (next S f) (may_in S f (λ _. true)) O.way x O.passed in
        (us, goes_by (next S f) (may_in S f (λ _. true)) free G (λ y i. free-too y (sub y i)))
      where
        free-too : (y : ℕ) → Member y O.objects → free y ≡ true
        free-too y i =
            let (k, P, C) =
            on-cell y
            (record { share = O.share; among = O.among; chain = O.chain; by = O.by; objects = O.objects; way = O.way; passed = i }) in
            cell-may S f (free_of ss) y k
            (record {
              cell = P.cell;
              whole = P.whole;
              is_free = rw (chain-alone w N k ss C K.matches.fit (taken-most K y f k P.cell));
            })

    -- the last object of a walk is on a chain where the chain ends there
    ends_on : (last : ℕ) → (last ≡ 0 → ⊥) → any (ends_by w v f last) ss ≡ true → On last
    unfolding ends_by end_matches last_of ◌>>=◌
    ends_on last z e = in-any (ends_by w v f last) ss (subst T (sym e) tt) found_at
      where
        found_at : (s : ℕ) → Member s ss → T (ends_by w v f last s) → On last
        found_at s i t =
            let (c, d) = and_both (is_chain s && eqb (field_in s) f) _ t in
            let (a, b) = and_both (is_chain s) _ c in
            let g : field_in s ≡ f = eqb→eq (field_in s) f b in
            let (os, W) = K.chains s i (T_true _ a) in
            let Y : Way S f (start_in s) os = subst (λ (j : ℕ). Way S j (start_in s) os) g W in
            let q : last_of 0 os ≡ last =
            eqb→eq (last_of 0 os) last
            (subst (λ (r : Try Stop ℕ). T (end_matches last r))
            (walk-counted S f (λ _. true) (suc N) (start_in s) 0
            ∙ ap (λ (r : Try Stop (List ℕ)). r >>= λ os. ok (last_of 0 os)) (goes-count (next S f) (may_in S f (λ _. true)) Y))
            d) in
            record {
              share = s;
              among = i;
              chain = T_true _ a;
              by = g;
              objects = os;
              way = Y;
              passed = subst (λ (j : ℕ). Member j os) q (from_start Y q);
            }
          where
            from_start : {o : ℕ} {os : List ℕ} → Way S f o os → last_of 0 os ≡ last → Member (last_of 0 os) os
            from_start (ended y) q = absurd (z (sym q))
            from_start (went y m G) q = (goes_last (next S f) (may_in S f (λ _. true)) 0 (went y m G) y).0

    on-ends : (last : ℕ) → next S f last ≡ 0 → On last → any (ends_by w v f last) ss ≡ true
    unfolding ends_by end_matches ◌>>=◌
    on-ends last z O =
        T_true _
        (any-in (ends_by w v f last) ss O.share O.among
        (and_intro (is_chain O.share && eqb (field_in O.share) f) _
        (and_intro (is_chain O.share) _ (subst T (sym O.chain) tt) (subst (λ (j : ℕ). T (eqb j f)) (sym O.by) (eqb_refl f)))
        (subst (λ (r : Try Stop ℕ). T (end_matches last r)) (sym walked) (subst (λ (j : ℕ). T (eqb j last)) (sym at-end) (eqb_refl last)))))
      where
        at-end : last_of 0 O.objects ≡ last
        at-end = goes_end (next S f) (may_in S f (λ _. true)) 0 O.way last O.passed z

        walked : walk_in w v (λ _. true) f (suc N) (start_in O.share) 0 ≡ ok (last_of 0 O.objects)
        walked =
            walk-counted S f (λ _. true) (suc N) (start_in O.share) 0
            ∙ ap (λ (r : Try Stop (List ℕ)). r >>= λ os. ok (last_of 0 os)) (goes-count (next S f) (may_in S f (λ _. true)) O.way)

    free-exists : (x : ℕ) → free x ≡ true → x ≤ N
    unfolding free
    free-exists x m =
        let (k, P) = may-cell S f (free_of ss) x m in held-exists S (at x f) (omega (arith, P.whole, held_at S x f k P.cell))

    -- the walk of the definitions, from what the counting walk comes to
    walks : (m o : ℕ) → N ≤ m → Same f [] (walk h F A f (length F.held) o []) (count (next S f) may (suc m) o)
    unfolding may
    walks m o b = walk-counts h F A f m (λ p l. omega (arith, held-exists S p (omega (arith, l)))) o

    pub walk_no : (m o : ℕ) (s : Stop) → N ≤ m → count (next S f) may (suc m) o ≡ no s → take_walk h F f o A ≡ no s
    unfolding take_walk ◌>>=◌
    walk_no m o s b e = go (walk h F A f (length F.held) o []) (count (next S f) may (suc m) o) refl (walks m o b) e
      where
        go :
            (a : Try Stop (List Location)) (b : Try Stop (List ℕ)) → walk h F A f (length F.held) o [] ≡ a → Same f [] a b → b ≡ no s →
            take_walk h F f o A ≡ no s
        go (ok B) (ok os) q (both k) e = no_ok (sym e)
        go (no r) (no t) q neither e = rw q (cc)
        go (ok B) (no t) q x6 e = elim x6 [ ]
        go (no r) (ok os) q x5 e = elim x5 [ ]

    -- its locations, both halves of each
    pub walk-ok :
        (m o : ℕ) (os : List ℕ) → N ≤ m → count (next S f) may (suc m) o ≡ ok os →
        (B : List Location) × (take_walk h F f o A ≡ ok B) × ((p : Location) → halves B p ≡ (halves (places f os) p + halves (places f os) p) + halves A p)
    unfolding take_walk ◌>>=◌
    walk-ok m o os b e = go (walk h F A f (length F.held) o []) (count (next S f) may (suc m) o) refl (walks m o b) e
      where
        go :
            (a : Try Stop (List Location)) (b : Try Stop (List ℕ)) → walk h F A f (length F.held) o [] ≡ a → Same f [] a b → b ≡ ok os →
            (B : List Location) × (take_walk h F f o A ≡ ok B)
            × ((p : Location) → halves B p ≡ (halves (places f os) p + halves (places f os) p) + halves A p)
        go (ok C) (ok us) q (both k) e = (
          C ++ (C ++ A),
          rw q,
          λ p.
              omega (
                arith,
                k p,
                halves-nil p,
                halves-append C (C ++ A) p,
                halves-append C A p,
                ap (λ (l : List ℕ). halves (places f l) p) (ok-inj e),
              ),
        )
        go (no r) (no t) q neither e = no_ok e
        go (ok C) (no t) q x6 e = elim x6 [ ]
        go (no r) (ok us) q x5 e = elim x5 [ ]

    -- the chain is one more of the shares
    chain_more :
        (o : ℕ) (os : List ℕ) (B : List Location) → o < 4294967296 → f < most_names → Goes (next S f) free (suc N) o os →
        take_walk h F f o A ≡ ok B →
        ((p : Location) → halves B p ≡ (halves (places f os) p + halves (places f os) p) + halves A p) → Taken B (ss ++ (chain_of o f ∷ []))
    unfolding free
    chain_more o os B lo lf G e sum =
        record {
          matches =
              subst (Matches w N B) (sym (spread_end w N (chain_of o f) ss ∙ ap (λ (l : List ℕ). spread w N ss ++ l) spread-chain))
              (record {
                member = λ p k c.
                    omega (
                      arith,
                      sum p,
                      K.matches.member p k c,
                      taken-append w N k (spread w N ss) (map (λ i. share_of i 2) (cells_by w N f N o)),
                      cells-places S f (free_of ss) N G p k c,
                    );
                fit = λ s t.
                    ⊎_elim (K.matches.fit s) (cells_fit S f N o s)
                    (any-either (eqb s) (spread w N ss) (map (λ i. share_of i 2) (cells_by w N f N o)) t);
              });
          held = λ p. walk-held h F f o A B e p (K.held p);
          chains = λ s i c.
              ⊎_elim
              (λ m. K.chains s m c)
              (λ q. (
                os,
                subst (λ (r : ℕ). Way S (field_in r) (start_in r) os) (sym q)
                    (rw (chain-field o f lf, chain-start o f lo lf)
                    (goes_by (next S f) free (may_in S f (λ _. true)) G (λ x m. whole-too x (goes-may (next S f) free G x m).0))),
              ))
              (end-member ss (chain_of o f) s i);
        }
      where
        spread-chain : spread_one w N (chain_of o f) ≡ map (λ i. share_of i 2) (cells_by w N f N o)
        spread-chain = spread-is w N o f lo lf

        whole-too : (x : ℕ) → free x ≡ true → may_in S f (λ _. true) x ≡ true
        whole-too x m =
            let (k, P) = may-cell S f (free_of ss) x m in
            cell-may S f (λ _. true) x k (record { cell = P.cell; whole = P.whole; is_free = refl })

  agree-as :
      {P : List Location → List ℕ → Type 0} {a a' : Try Stop (List Location)} {b b' : Try Stop (List ℕ)} → a ≡ a' → b ≡ b' →
      Agree P a' b' → Agree P a b
  agree-as {P} {a} {a'} {b} {b'} e q G = subst (λ x. Agree P x b) (sym e) (subst (Agree P a') (sym q) G)

  chain-step :
      (x f : ℕ) → x < frame_variables → f < most_names → (A : List Location) (ss : List ℕ) → Taken A ss →
      (g : List Location → Try Stop (List Location)) (j : List ℕ → Try Stop (List ℕ)) →
      ((B : List Location) (rs : List ℕ) → Taken B rs → Agree Taken (g B) (j rs)) →
      Agree Taken (take_walk h F f (value_of F x) A >>= g) (chain_in w v f (variable_at w v.base x) ss >>= j)
  unfolding free ◌>>=◌
  chain-step x f lx lf A ss K g j rest =
      rw (← S.values x lx) (⊎_elim null there (decide_eq (value_of F x) 0))
    where
      o : ℕ
      o = value_of F x

      null : o ≡ 0 → Agree Taken (take_walk h F f o A >>= g) (chain_in w v f o ss >>= j)
      null z = agree-as (ap (λ (t : Try Stop (List Location)). t >>= g) (walk-null h F f o A z)) (ap (λ (t : Try Stop (List ℕ)). t >>= j) (chain-null w v f o ss z)) (rest A ss K)

      stopped :
          (s : Stop) → (o ≡ 0 → ⊥) → count (next S f) (may K f) (suc N) o ≡ no s → chain_in w v f o ss ≡ no s →
          Agree Taken (take_walk h F f o A >>= g) (chain_in w v f o ss >>= j)
      stopped s z e q =
          agree-as (ap (λ (t : Try Stop (List Location)). t >>= g) (walk_no K f N o s (omega arith) e)) (ap (λ (t : Try Stop (List ℕ)). t >>= j) q) stops_so

      walked :
          (t : Try Stop (List ℕ)) → count (next S f) (free K f) (suc N) o ≡ t →
          walk_in w v (free_of ss) f (suc N) o 0 ≡ (t >>= λ os. ok (last_of 0 os))
      walked t e = walk-counted S f (free_of ss) (suc N) o 0 ∙ ap (λ (r : Try Stop (List ℕ)). r >>= λ os. ok (last_of 0 os)) e

      there : (o ≡ 0 → ⊥) → Agree Taken (take_walk h F f o A >>= g) (chain_in w v f o ss >>= j)
      there z = by-outcome (outcome (next S f) (free K f) (suc N) o)
        where
          by-outcome : Outcome (next S f) (free K f) (suc N) o → Agree Taken (take_walk h F f o A >>= g) (chain_in w v f o ss >>= j)
          by-outcome (stuck q) =
              stopped permission_missing z
              (both-stuck (next S f) (may K f) (free K f) (On K f) (less K f) (on-taken K f) (others K f) (onward K f) (suc N) o q)
              (chain-stops w v f o ss permission_missing z (walked (no permission_missing) q))
          by-outcome (too_long q) =
              stopped formula_false z
              (both_long (next S f) (may K f) (free K f) (On K f) (less K f) (on-taken K f) (others K f) (onward K f) (suc N) (way_on K f) (suc N) o
              (long-ever f (next S f) (free K f) N (free-exists K f) o q))
              (chain-stops w v f o ss formula_false z (walked (no formula_false) q))
          by-outcome (through os G) =
              let last : ℕ = last_of 0 os in
              let (i, e) = goes_last (next S f) (free K f) 0 G z in
              let c : chain_in w v f o ss ≡ new_chain w v ss (chain_of o f) last =
              chain-walked w v f o ss last z (walked (ok os) (goes-count (next S f) (free K f) G)) in
              let ends : any (ends_by w v (field_in (chain_of o f)) last) ss ≡ any (ends_by w v f last) ss =
              ap (λ (r : ℕ). any (ends_by w v r last) ss) (chain-field o f lf) in
              ⊎_elim
              (λ t.
              stopped permission_missing z
              (meets (next S f) (may K f) (free K f) (On K f) (less K f) (on-taken K f) (others K f) (onward K f) 0 G z
              (ends_on K f last (goes-may (next S f) (free K f) G last i).1 t))
              (c ∙ chain-met w v ss (chain_of o f) last (ends ∙ t)))
              (λ t.
              let H = apart (next S f) (may K f) (free K f) (On K f) (less K f) (on-taken K f) (others K f) (onward K f) 0 G
              (λ _ O. no-yes (on-ends K f last e O) t) in
              let (B, b, sum) = walk-ok K f N o os (omega arith) (goes-count (next S f) (may K f) H) in
              agree-as (ap (λ (t : Try Stop (List Location)). t >>= g) b)
              (ap (λ (t : Try Stop (List ℕ)). t >>= j) (c ∙ chain-free w v ss (chain_of o f) last (ends ∙ t)))
              (rest B (ss ++ (chain_of o f ∷ [])) (chain_more K f o os B (small G z) lf G b sum)))
              (decide-bool (any (ends_by w v f last) ss))
            where
              small : {n : ℕ} {os : List ℕ} → Goes (next S f) (free K f) n o os → (o ≡ 0 → ⊥) → o < 4294967296
              small (ended y) z = absurd (z y)
              small (went y m G) z = omega (arith, free-exists K f o m, S.most)

  cmp_step :
      (n : Rel) (a b : Try Stop ℕ) (g : Try Stop (List Location)) (j : Try Stop (List ℕ)) → Agree Taken g j →
      Agree Taken (a >>= λ l. b >>= λ r. check (compared n l r) formula_false >> g)
      (a >>= λ l. b >>= λ r. check (compared n l r) formula_false >> j)
  unfolding check ◌>>◌ ◌>>=◌
  cmp_step n (ok l) (ok r) g j rest = go (compared n l r)
    where
      go : (b : Bool) → Agree Taken (check b formula_false >> g) (check b formula_false >> j)
      go true = rest
      go false = stops_so
  cmp_step n (ok l) (no s) g j rest = stops_so
  cmp_step n (no s) b g j rest = stops_so

  takes : (φ : Formula ℕ) → FormulaOk φ → (A : List Location) (ss : List ℕ) → Taken A ss → Agree Taken (take_from h F φ A) (take_in w v φ ss)
  unfolding take_from take_share take_in own_in FormulaOk
  takes [] l A ss K = took-so K
  takes (own acc x f ∷ φ) l A ss K =
      own-step 2 x f (omega arith) (omega arith) l.0.0 A ss K _ _ (λ B rs M. takes φ l.1 B rs M)
  takes (own read x f ∷ φ) l A ss K =
      own-step 1 x f (omega arith) (omega arith) l.0.0 A ss K _ _ (λ B rs M. takes φ l.1 B rs M)
  takes (own chain x f ∷ φ) l A ss K = chain-step x f l.0.0 l.0.1 A ss K _ _ (λ B rs M. takes φ l.1 B rs M)
  takes (cmp n a b ∷ φ) l A ss K =
      rw (value_is a l.0.0, value_is b l.0.1) (cmp_step n (read_in w v a) (read_in w v b) _ _ (takes φ l.1 A ss K))

  footprint-agrees : (φ : Formula ℕ) → FormulaOk φ → Agree Taken (footprint h F φ) (take_in w v φ [])
  unfolding footprint
  footprint-agrees φ l = takes φ l [] [] nothing

  -- what a formula takes, from what the code takes
  pub no-footprint : (φ : Formula ℕ) (s : Stop) → FormulaOk φ → take_in w v φ [] ≡ no s → footprint h F φ ≡ no s
  no-footprint φ s l e = go (footprint h F φ) (take_in w v φ []) (footprint-agrees φ l) e
    where
      go : (a : Try Stop (List Location)) (b : Try Stop (List ℕ)) → Agree Taken a b → b ≡ no s → a ≡ no s
      go (ok A) (ok ss) (took-so M) e = absurd (let z : ◌≡◌ {A = ℕ} 0 1 = cc in omega arith)
      go (no r) (no q) stops_so e = cc
      go (ok A) (no q) x4 e = elim x4 [ ]
      go (no r) (ok ss) x4 e = elim x4 [ ]

  pub ok-footprint :
      (φ : Formula ℕ) (ss : List ℕ) → FormulaOk φ → take_in w v φ [] ≡ ok ss →
      (A : List Location) × (footprint h F φ ≡ ok A) × Matches w v.objects A (spread w v.objects ss)
  ok-footprint φ ss l e = go (footprint h F φ) (take_in w v φ []) refl (footprint-agrees φ l) e
    where
      go :
          (a : Try Stop (List Location)) (b : Try Stop (List ℕ)) → footprint h F φ ≡ a → Agree Taken a b → b ≡ ok ss →
          (A : List Location) × (footprint h F φ ≡ ok A) × Matches w v.objects A (spread w v.objects ss)
      go (ok A) (ok rs) q (took-so M) e = (A, q, subst (λ (i : List ℕ). Matches w v.objects A (spread w v.objects i)) (ok-inj e) M.matches)
      go (no r) (no s) q stops_so e = absurd (let z : ◌≡◌ {A = ℕ} 0 1 = cc in omega arith)
      go (ok A) (no s) q x6 e = elim x6 [ ]
      go (no r) (ok rs) q x5 e = elim x5 [ ]

-- THE ATOMS OF THE TABLES
atom-ok : (w : List ℕ) (a : ℕ) → AtomFitsAt w a → AtomOk (atom_at w a)
unfolding atom_at is_permission
atom-ok w a F = go (ltb (atom_kind_at w a) eq_atom) refl
  where
    go :
        (b : Bool) → ltb (atom_kind_at w a) eq_atom ≡ b →
        AtomOk (cond b (own (permit_of (atom_kind_at w a)) (acc_variable_at w a) (acc_field_at w a)) (cmp (rel_of (atom_kind_at w a)) (left_at w a) (right_at w a)))
    go true e = access-fits w a F (ltb-true (atom_kind_at w a) eq_atom e)
    go false e = (F.left, F.right)

pub atoms-ok : (w : List ℕ) → Tables w → (a n : ℕ) → a + n ≤ atom_count w → FormulaOk (atoms_from w a n)
unfolding run FormulaOk
atoms-ok w t a zero l = tt
atoms-ok w t a (suc n) l = (atom-ok w a (t.atom_fits a (omega arith)), atoms-ok w t (suc a) n (omega arith))
