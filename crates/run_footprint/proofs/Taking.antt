-- Laws of what a formula takes: comparisons, and shares taken one after the other.
use mathlib.Core.Path.{◌≡◌, refl, sym, ap, ◌∙◌}
use mathlib.Core.Bool.{Bool, true, false}
use mathlib.Core.List.{List, [], ◌∷◌, ◌++◌}
use mathlib.Core.Logic.{◌⊎◌, ⊎_elim}
use Prim.Native.Nat.{ℕ, suc, ◌+◌, ◌-◌, ◌≤◌, ◌<◌}
use native.Mathlib.Omega.{arith}
use lib.Dec.{leb}
use lib.ListN.{take}
use borrow.Author.Tests.{eq-eqb, ne_eqb, lt-ltb, le-ltb, lt-leb, leb-false}
use Rattle.rules.specs.Base.{Try, ok, no, ◌>>=◌, ◌>>◌, check, any}
use Rattle.rules.specs.Answers.{Stop, permission_missing, formula_false}
use Rattle.rules.specs.Syntax.{Atom, Formula, own, cmp}
use Rattle.rules.specs.Machine.{compared}
use Rattle.rules.proofs.Lists.{decide_eq}
use Rattle.tables.specs.Numbers.{chain_atom, eq_atom}
use Rattle.tables.specs.Layout.{most_names, frame_variables}
use Rattle.tables.specs.declared.kinds.AtomKind.{AtomKind}
use Rattle.tables.specs.Kinds.{kind_of, kind_number}
use Rattle.tables.proofs.AtomKinds.{kind-same}
use Rattle.tables.specs.Decode.{run, byte_at, expr_at, left_at, right_at, atom_at, atoms_from, atom_place, atom_kind_at, acc_variable_at, acc_field_at, is_permission, permit_of, rel_of}
use Rattle.tables.specs.Tables.{SideFits, AtomFitsAt}
use Rattle.run_heap.specs.declared.View.{View}
use Rattle.run_heap.specs.declared.Fault.{Fault}
use Rattle.std.specs.Prelude.{Result, Ok, Err}
use Rattle.run_heap.specs.Views.{variable_at, halves_at, found, held_cell, spot, read_in, stop_of}
use Rattle.run_heap.specs.Chains.{walk_in}
use Rattle.run_heap.proofs.Reading.{spot-found}
use Rattle.run_footprint.specs.Footprints.{right_test, test_in, share_of, cell_in, halves_in, chain_of, field_in, taken_by, new_share, share_in, free_of, ends_by, new_chain, chain_in, own_in, take_in, took_is, count_of}
use Rattle.run_footprint.proofs.Shares.{share_cell, share_halves}

-- SHARES
module _ (w : List ℕ) (v : View) (f n : ℕ) (ss : List ℕ) (k : ℕ) where
  pub new-taken :
      leb (n + taken_by w v.objects f k ss) (halves_at w v.holder k) ≡ false → new_share w v f n ss k ≡ no permission_missing
  unfolding new_share check ◌>>◌
  new-taken e = rw e

  pub new-lacking : halves_at w v.holder k < n + taken_by w v.objects f k ss → new_share w v f n ss k ≡ no permission_missing
  new-lacking l = new-taken (lt-leb (n + taken_by w v.objects f k ss) (halves_at w v.holder k) l)

  pub new-free :
      leb (n + taken_by w v.objects f k ss) (halves_at w v.holder k) ≡ true → new_share w v f n ss k ≡ ok (ss ++ (share_of k n ∷ []))
  unfolding new_share check ◌>>◌
  new-free e = rw e

module _ (w : List ℕ) (v : View) (n x f : ℕ) (ss : List ℕ) where
  pub share-at : (k : ℕ) → spot w v n x f ≡ ok k → share_in w v n x f ss ≡ new_share w v f n ss k
  unfolding share_in ◌>>=◌
  share-at k e = rw (spot-found w v n x f k e).0

  -- where so many halves are not held, they are not beside those taken
  pub share-lacking : (s : Stop) → spot w v n x f ≡ no s → share_in w v n x f ss ≡ no s
  unfolding spot held_cell share_in ◌>>=◌ check ◌>>◌
  share-lacking s e = go (found w v x f) e
    where
      go : (t : Try Stop ℕ) → t >>= held_cell w v.holder n ≡ no s → t >>= new_share w v f n ss ≡ no s
      go (no z) e = let q : z ≡ s = cc in ap no q
      go (ok k) e = held (leb n (halves_at w v.holder k)) refl e
        where
          held :
              (b : Bool) → leb n (halves_at w v.holder k) ≡ b → check b permission_missing >> ok k ≡ no s →
              new_share w v f n ss k ≡ no s
          held true q e = absurd (let z : ◌≡◌ {A = ℕ} 0 1 = cc in omega arith)
          held false q e =
              let z : permission_missing ≡ s = cc in
              new-lacking w v f n ss k (omega (arith, leb-false n (halves_at w v.holder k) q)) ∙ ap no z

-- CHAINS
module _ (w : List ℕ) (v : View) (ss : List ℕ) (s last : ℕ) where
  pub chain-free : any (ends_by w v (field_in s) last) ss ≡ false → new_chain w v ss s last ≡ ok (ss ++ (s ∷ []))
  unfolding new_chain check ◌>>◌
  chain-free e = rw e

  pub chain-met : any (ends_by w v (field_in s) last) ss ≡ true → new_chain w v ss s last ≡ no permission_missing
  unfolding new_chain check ◌>>◌
  chain-met e = rw e

module _ (w : List ℕ) (v : View) (f o : ℕ) (ss : List ℕ) where
  pub chain-null : o ≡ 0 → chain_in w v f o ss ≡ ok ss
  unfolding chain_in
  chain-null z = rw (eq-eqb o 0 z)

  pub chain-walked :
      (last : ℕ) → (o ≡ 0 → ⊥) → walk_in w v (free_of ss) f (suc v.objects) o 0 ≡ ok last → chain_in w v f o ss ≡ new_chain w v ss (chain_of o f) last
  unfolding chain_in ◌>>=◌
  chain-walked last z e = rw (ne_eqb o 0 z, e)

  pub chain-stops :
      (s : Stop) → (o ≡ 0 → ⊥) → walk_in w v (free_of ss) f (suc v.objects) o 0 ≡ no s → chain_in w v f o ss ≡ no s
  unfolding chain_in ◌>>=◌
  chain-stops s z e = rw (ne_eqb o 0 z, e)

-- FORMULAS
bind-last : (w : List ℕ) (v : View) (t : Try Stop (List ℕ)) → t ≡ t >>= take_in w v []
unfolding ◌>>=◌ take_in
bind-last w v (ok ss) = refl
bind-last w v (no s) = refl

-- an atom, and then the others
pub take-one :
    (w : List ℕ) (v : View) (a : Atom ℕ) (φ : Formula ℕ) (ss : List ℕ) →
    take_in w v (a ∷ φ) ss ≡ take_in w v (a ∷ []) ss >>= take_in w v φ
unfolding take_in check ◌>>◌ ◌>>=◌
take-one w v (own k x f) φ ss =
    ap (λ (t : Try Stop (List ℕ)). t >>= take_in w v φ) (bind-last w v (own_in w v k x f ss))
take-one w v (cmp n a b) φ ss = go (read_in w v a) (read_in w v b)
  where
    last : (c : Bool) → check c formula_false >> take_in w v φ ss ≡ (check c formula_false >> take_in w v [] ss) >>= take_in w v φ
    last true = refl
    last false = refl

    go :
        (s t : Try Stop ℕ) →
        s >>= (λ l. t >>= λ r. check (compared n l r) formula_false >> take_in w v φ ss)
        ≡ (s >>= (λ l. t >>= λ r. check (compared n l r) formula_false >> take_in w v [] ss)) >>= take_in w v φ
    go (ok l) (ok r) = last (compared n l r)
    go (ok l) (no z) = refl
    go (no z) t = refl

-- the kind of an `acc` or a `read` is the number of its halves
permit-halves :
    (w : List ℕ) (v : View) (k x f : ℕ) (ss : List ℕ) → 1 ≤ k → k < chain_atom → own_in w v (permit_of k) x f ss ≡ share_in w v k x f ss
unfolding permit_of own_in
permit-halves w v k x f ss l h =
    ⊎_elim
    (λ (e : k ≡ 2). rw e)
    (λ (n : k ≡ 2 → ⊥). let e : k ≡ 1 = omega arith in rw e)
    (decide_eq k 2)

-- the atom a
take_own :
    (w : List ℕ) (v : View) (a : ℕ) (ss : List ℕ) → atom_kind_at w a < eq_atom →
    take_in w v (atom_at w a ∷ []) ss ≡ own_in w v (permit_of (atom_kind_at w a)) (acc_variable_at w a) (acc_field_at w a) ss
unfolding atom_at take_in is_permission
take_own w v a ss h = rw (lt-ltb (atom_kind_at w a) eq_atom h) (sym (bind-last w v _))

pub take-cmp :
    (w : List ℕ) (v : View) (a : ℕ) (ss : List ℕ) → eq_atom ≤ atom_kind_at w a →
    take_in w v (atom_at w a ∷ []) ss ≡ test_in w v a >>= λ b. check b formula_false >> ok ss
unfolding atom_at take_in test_in right_test is_permission ◌>>=◌
take-cmp w v a ss e = rw (le-ltb (atom_kind_at w a) eq_atom e) (go (read_in w v (left_at w a)) (read_in w v (right_at w a)))
  where
    go :
        (s t : Try Stop ℕ) →
        s >>= (λ l. t >>= λ r. check (compared (rel_of (byte_at w (atom_place a))) l r) formula_false >> ok ss)
        ≡ (s >>= (λ l. t >>= λ r. ok (compared (rel_of (byte_at w (atom_place a))) l r))) >>= λ b. check b formula_false >> ok ss
    go (ok l) (ok r) = refl
    go (ok l) (no z) = refl
    go (no z) t = refl

pub test-true : (ss : List ℕ) (t : Try Stop Bool) → t ≡ ok true → t >>= (λ b. check b formula_false >> ok ss) ≡ ok ss
unfolding ◌>>=◌ ◌>>◌ check
test-true ss t e = rw e

pub test-false : (ss : List ℕ) (t : Try Stop Bool) → t ≡ ok false → t >>= (λ b. check b formula_false >> ok ss) ≡ no formula_false
unfolding ◌>>=◌ ◌>>◌ check
test-false ss t e = rw e

pub test-lacking : (ss : List ℕ) (s : Stop) (t : Try Stop Bool) → t ≡ no s → t >>= (λ b. check b formula_false >> ok ss) ≡ no s
unfolding ◌>>=◌
test-lacking ss s t e = rw e

-- a permission names a variable and a field
pub access-fits :
    (w : List ℕ) (a : ℕ) → AtomFitsAt w a → atom_kind_at w a < eq_atom →
    (acc_variable_at w a < frame_variables) × (acc_field_at w a < most_names)
unfolding left_at expr_at SideFits
access-fits w a F e = let s : atom_place a + 4 + 1 ≡ atom_place a + 5 = omega arith in rw (F.access e, s) at F.left

-- the kind that is read from an atom of the tables is its byte's
module _ (w : List ℕ) (a : ℕ) (k : AtomKind) (e : k ≡ kind_of (atom_kind_at w a)) (F : AtomFitsAt w a) where
  pub number-is : kind_number k ≡ atom_kind_at w a
  number-is = ap kind_number e ∙ kind-same (atom_kind_at w a) F.least F.kind

  pub is-chain : k ≡ AtomKind.Chain → atom_kind_at w a ≡ chain_atom
  is-chain i = sym number-is ∙ ap kind_number i

  pub is-share : (k ≡ AtomKind.Read) ⊎ (k ≡ AtomKind.Acc) → atom_kind_at w a < chain_atom
  is-share i =
      let n = number-is in
      ⊎_elim (λ i. let m : kind_number k ≡ 1 = ap kind_number i in omega arith) (λ i. let m : kind_number k ≡ 2 = ap kind_number i in omega arith) i

  pub is-compared : (k ≡ AtomKind.Eq) ⊎ (k ≡ AtomKind.Ne) → eq_atom ≤ atom_kind_at w a
  is-compared i =
      let n = number-is in
      ⊎_elim (λ i. let m : kind_number k ≡ 4 = ap kind_number i in omega arith) (λ i. let m : kind_number k ≡ 5 = ap kind_number i in omega arith) i

-- an `acc` or a `read`, the atom a, as the code reads it
module _
    (w : List ℕ) (v : View) (a n x f : ℕ) (ss : List ℕ) (F : AtomFitsAt w a) (l : atom_kind_at w a < chain_atom)
    (en : n ≡ atom_kind_at w a) (ex : x ≡ acc_variable_at w a) (ef : f ≡ acc_field_at w a) where
  own_is : take_in w v (atom_at w a ∷ []) ss ≡ share_in w v n x f ss
  own_is =
      take_own w v a ss (omega (arith, l))
      ∙ (permit-halves w v (atom_kind_at w a) (acc_variable_at w a) (acc_field_at w a) ss F.least l ∙ rw (en, ex, ef))

  pub own-fits : ((1 ≤ n) × (n ≤ 2)) × ((x < frame_variables) × (f < most_names))
  own-fits =
      let g = access-fits w a F (omega (arith, l)) in
      ((omega (arith, F.least), omega arith), (omega (arith, g.0), omega (arith, g.1)))

  pub own_at :
      (k : ℕ) → spot w v n x f ≡ ok k →
      new_share w v f (halves_in (share_of k n)) ss (cell_in (share_of k n)) ≡ take_in w v (atom_at w a ∷ []) ss
  own_at k e =
      rw (share_cell k n (omega arith), share_halves k n (omega arith)) (sym (own_is ∙ share-at w v n x f ss k e))

  pub own_held :
      (k : ℕ) → spot w v n x f ≡ ok k → halves_in (share_of k n) ≤ halves_at w v.holder (cell_in (share_of k n))
  own_held k e = rw (share_cell k n (omega arith), share_halves k n (omega arith)) (spot-found w v n x f k e).1

  pub own-lacking : (s : Stop) → spot w v n x f ≡ no s → take_in w v (atom_at w a ∷ []) ss ≡ no s
  own-lacking s e = own_is ∙ share-lacking w v n x f ss s e

-- a `chain`
module _
    (w : List ℕ) (v : View) (a x f o : ℕ) (ss : List ℕ) (F : AtomFitsAt w a) (l : atom_kind_at w a ≡ chain_atom)
    (ex : x ≡ acc_variable_at w a) (ef : f ≡ acc_field_at w a) (eo : o ≡ variable_at w v.base x) where
  pub chain-takes : take_in w v (atom_at w a ∷ []) ss ≡ chain_in w v f o ss
  unfolding permit_of own_in
  chain-takes =
      take_own w v a ss (omega (arith, l))
      ∙ (ap (λ (k : ℕ). own_in w v (permit_of k) (acc_variable_at w a) (acc_field_at w a) ss) l ∙ rw (eo, ex, ef))

-- n atoms from the first on, i of them done
module _ (w : List ℕ) (v : View) (first n i : ℕ) (ss : List ℕ) where
  atoms-next : i < n → atoms_from w (first + i) (n - i) ≡ atom_at w (first + i) ∷ atoms_from w (first + (i + 1)) (n - (i + 1))
  unfolding run
  atoms-next h =
      let e : n - i ≡ suc (n - (i + 1)) = omega arith in
      let f : first + (i + 1) ≡ suc (first + i) = omega arith in
      rw (e, f)

  pub foot-next :
      (ss' : List ℕ) → i < n → take_in w v (atom_at w (first + i) ∷ []) ss ≡ ok ss' →
      take_in w v (atoms_from w (first + (i + 1)) (n - (i + 1))) ss' ≡ take_in w v (atoms_from w (first + i) (n - i)) ss
  unfolding ◌>>=◌
  foot-next ss' h e = rw (atoms-next h) (sym (take-one w v _ _ ss ∙ rw e))

  pub foot-stop :
      (s : Stop) → i < n → take_in w v (atom_at w (first + i) ∷ []) ss ≡ no s → take_in w v (atoms_from w (first + i) (n - i)) ss ≡ no s
  unfolding ◌>>=◌
  foot-stop s h e = rw (atoms-next h) (take-one w v _ _ ss ∙ rw e)

  pub foot-end : n ≤ i → take_in w v (atoms_from w (first + i) (n - i)) ss ≡ ok ss
  unfolding run take_in
  foot-end h = let e : n - i ≡ 0 = omega arith in rw e

pub took-shares : (r : Result ℕ Fault) (n : ℕ) (ss : List ℕ) {t : Try Stop (List ℕ)} → r ≡ Ok n → took_is r ss ≡ t → t ≡ ok (take n ss)
unfolding took_is
took-shares r n ss e s = sym s ∙ rw e

pub took-lacking : (r : Result ℕ Fault) (s : Fault) (ss : List ℕ) {t : Try Stop (List ℕ)} → r ≡ Err s → took_is r ss ≡ t → t ≡ no (stop_of s)
unfolding took_is
took-lacking r n ss e s = sym s ∙ rw e

pub count-shares : (r : Result ℕ Fault) (n m : ℕ) → r ≡ Ok n → count_of r ≤ m → n ≤ m
unfolding count_of
count-shares r n m e l = rw e at l
