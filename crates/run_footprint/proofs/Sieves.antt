-- Which cells are none of those taken, by their remainders.
use mathlib.Core.Path.{◌≡◌, refl, sym, ap, ◌∙◌, subst}
use mathlib.Core.Bool.{Bool, true, false, ◌||◌}
use mathlib.Core.List.{List, [], ◌∷◌, ◌++◌}
use mathlib.Core.Logic.{⊎_elim}
use Prim.Native.Nat.{ℕ, ◌+◌, ◌%◌, ◌≤◌, ◌<◌}
use native.Mathlib.Omega.{arith}
use native.Mathlib.Numerals.{add-one}
use lib.Dec.{eqb, leb}
use lib.ListN.{length, take, get_or, set, length-set}
use lib.Seq.{take-suc-set, get_or-set_same, get_or-set_other}
use borrow.Author.Tests.{ne_eqb, le-leb}
use Rattle.rules.proofs.Lists.{decide_eq}
use Rattle.rules.specs.Base.{Try, ok, no, any}
use Rattle.rules.specs.Answers.{Stop}
use Rattle.rules.proofs.Tries.{no_ok, ok-inj}
use Rattle.run_heap.specs.declared.View.{View}
use Rattle.run_heap.specs.Views.{halves_at, stop_of}
use Rattle.std.specs.Prelude.{Result, Ok, Err}
use Rattle.run_heap.specs.declared.Fault.{Fault}
use Rattle.run_footprint.specs.Footprints.{cell_in, halves_in, is_chain, field_in, part_of, part_by, taken_by, new_share, share_at, ends_by, new_chain, took_is, count_of, TookUpTo, TookOne, RoomAfter, touches, Sieve, sieve_bytes, AllSeen}
use Rattle.run_footprint.proofs.Shares.{share-is, by-none, by-cons}
use Rattle.run_footprint.proofs.Taking.{new-taken, new-free, chain-free}

-- A CELL THAT NO SHARE TOUCHES
module _ (k s : ℕ) where
  touch_plain : is_chain s ≡ false → (cell_in s ≡ k → ⊥) → touches k s ≡ false
  unfolding touches
  touch_plain e n = rw (e, ne_eqb (cell_in s) k n)

  untouched : touches k s ≡ false → (is_chain s ≡ false) × (eqb (cell_in s) k ≡ false)
  unfolding touches
  untouched e = go (is_chain s) (eqb (cell_in s) k) e
    where
      go : (a b : Bool) → (a || b) ≡ false → (a ≡ false) × (b ≡ false)
      go true b q = absurd (let z : ◌≡◌ {A = ℕ} 0 1 = cc in omega arith)
      go false b q = (refl, q)

  untouched-part : (w : List ℕ) (n f : ℕ) → touches k s ≡ false → part_by w n f k s ≡ 0
  unfolding part_by part_of
  untouched-part w n f e = let (a, b) = untouched e in rw (a, b)

  untouched-share : touches k s ≡ false → share_at k s ≡ false
  unfolding share_at
  untouched-share e = let (a, b) = untouched e in rw (a, b)

touch-split : (k s : ℕ) (ss : List ℕ) → any (touches k) (s ∷ ss) ≡ false → (touches k s ≡ false) × (any (touches k) ss ≡ false)
unfolding any
touch-split k s ss e = go (touches k s) e
  where
    go : (b : Bool) → (b || any (touches k) ss) ≡ false → (b ≡ false) × (any (touches k) ss ≡ false)
    go true q = absurd (let z : ◌≡◌ {A = ℕ} 0 1 = cc in omega arith)
    go false q = (refl, q)

touch-end : (k s : ℕ) (ss : List ℕ) → any (touches k) ss ≡ false → touches k s ≡ false → any (touches k) (ss ++ (s ∷ [])) ≡ false
unfolding any
touch-end k s [] e q = rw q
touch-end k s (r ∷ ss) e q = let (a, b) = touch-split k r ss e in rw (a, touch-end k s ss b q)

pub untouched-taken : (w : List ℕ) (n f k : ℕ) (ss : List ℕ) → any (touches k) ss ≡ false → taken_by w n f k ss ≡ 0
untouched-taken w n f k [] e = by-none w n f k
untouched-taken w n f k (s ∷ ss) e =
    let (a, b) = touch-split k s ss e in
    omega (arith, by-cons w n f k s ss, untouched-part k s w n f a, untouched-taken w n f k ss b)

pub untouched-shares : (k : ℕ) (ss : List ℕ) → any (touches k) ss ≡ false → any (share_at k) ss ≡ false
unfolding any
untouched-shares k [] e = refl
untouched-shares k (s ∷ ss) e =
    let (a, b) = touch-split k s ss e in rw (untouched-share k s a, untouched-shares k ss b)

-- nothing is taken
pub sieve-none : (l seen : List ℕ) → length seen ≡ sieve_bytes → Sieve (take 0 l) seen
unfolding any
sieve-none l seen s = record { size = s; clear = λ k e. refl }

-- where every remainder is seen
pub sieve-all : (ss seen : List ℕ) → AllSeen seen → Sieve ss seen
sieve-all ss seen (s, a) =
    record { size = s; clear = λ k e. absurd (omega (arith, e, a (k % sieve_bytes) (omega arith))) }

-- a share more, of a cell whose remainder is seen
pub sieve-more :
    (ss seen seen' : List ℕ) (s : ℕ) → is_chain s ≡ false → Sieve ss seen → length seen' ≡ sieve_bytes →
    (get_or seen' (cell_in s % sieve_bytes) 0 ≡ 0 → ⊥) → ((i : ℕ) → get_or seen' i 0 ≡ 0 → get_or seen i 0 ≡ 0) → Sieve (ss ++ (s ∷ [])) seen'
sieve-more ss seen seen' s c S n h g =
    record {
      size = n;
      clear =
          λ j e.
          touch-end j s ss (S.clear j (g (j % sieve_bytes) e))
          (touch_plain j s c (λ q. h (subst (λ (z : ℕ). get_or seen' (z % sieve_bytes) 0 ≡ 0) (sym q) e)));
    }

-- what is taken with it
pub sieve-took :
    (r : Result ℕ Fault) (l ss seen w : List ℕ) (v : View) (f s : ℕ) → took_is r l ≡ new_share w v f (halves_in s) ss (cell_in s) →
    Sieve (ss ++ (s ∷ [])) seen → Sieve (take (count_of r) l) seen
unfolding took_is count_of
sieve-took (Ok n) l ss seen w v f s e S =
    go (leb (halves_in s + taken_by w v.objects f (cell_in s) ss) (halves_at w v.holder (cell_in s))) refl
  where
    go :
        (b : Bool) → leb (halves_in s + taken_by w v.objects f (cell_in s) ss) (halves_at w v.holder (cell_in s)) ≡ b →
        Sieve (take n l) seen
    go true t =
        subst (λ (z : List ℕ). Sieve z seen)
        (sym (ok-inj (e ∙ new-free w v f (halves_in s) ss (cell_in s) t) ∙ ap (λ (r : ℕ). ss ++ (r ∷ [])) (share-is s))) S
    go false t = no_ok (sym (e ∙ new-taken w v f (halves_in s) ss (cell_in s) t))
sieve-took (Err t) l ss seen w v f s e S = sieve-none l seen S.size

-- an answer that nothing was taken
pub nothing-taken :
    (r : Result ℕ Fault) (s : Fault) (l : List ℕ) (n : ℕ) {t : Try Stop (List ℕ)} → r ≡ Err s → t ≡ no (stop_of s) → length l ≡ 8 → TookUpTo r l n t
unfolding took_is count_of
nothing-taken r s l n e q z = rw e (record { took = sym q; count = omega arith; size = z })

pub nothing-more :
    (r : Result ℕ Fault) (s : Fault) (l seen : List ℕ) (n : ℕ) {t : Try Stop (List ℕ)} → r ≡ Err s → t ≡ no (stop_of s) → RoomAfter l seen n →
    TookOne r l seen n t
unfolding count_of
nothing-more r s l seen n e q (b, S) = (nothing-taken r s l (n + 1) e q b.1, rw e (sieve-none l seen S.size))

-- the same of an answer that is known
pub sieve-shares : (r : Result ℕ Fault) (n : ℕ) (l seen : List ℕ) → r ≡ Ok n → Sieve (take (count_of r) l) seen → Sieve (take n l) seen
unfolding count_of
sieve-shares r n l seen e S = rw e at S

-- a remainder that is marked as seen stays so, and others stay
pub sieve-set :
    (ss seen : List ℕ) (s : ℕ) → is_chain s ≡ false → Sieve ss seen → Sieve (ss ++ (s ∷ [])) (set seen (cell_in s % sieve_bytes) 1)
sieve-set ss seen s c S =
    sieve-more ss seen (set seen (cell_in s % sieve_bytes) 1) s c S (length-set seen (cell_in s % sieve_bytes) 1 ∙ S.size) marked kept
  where
    here : get_or (set seen (cell_in s % sieve_bytes) 1) (cell_in s % sieve_bytes) 0 ≡ 1
    here = get_or-set_same seen (cell_in s % sieve_bytes) 1 0 (omega (arith, S.size))

    marked : get_or (set seen (cell_in s % sieve_bytes) 1) (cell_in s % sieve_bytes) 0 ≡ 0 → ⊥
    marked e = absurd (omega (arith, here, e))

    kept : (i : ℕ) → get_or (set seen (cell_in s % sieve_bytes) 1) i 0 ≡ 0 → get_or seen i 0 ≡ 0
    kept i e =
        ⊎_elim
        (λ q. absurd (marked (subst (λ (z : ℕ). get_or (set seen (cell_in s % sieve_bytes) 1) z 0 ≡ 0) q e)))
        (λ q. sym (get_or-set_other seen (cell_in s % sieve_bytes) i 1 0 q) ∙ e)
        (decide_eq i (cell_in s % sieve_bytes))

-- one share more
module _ (l : List ℕ) (n s : ℕ) (b : n < 8) (z : length l ≡ 8) where
  took-put : {t : Try Stop (List ℕ)} → t ≡ ok (take n l ++ (s ∷ [])) → TookUpTo (Ok (n + 1)) (set l n s) (n + 1) t
  unfolding took_is count_of
  took-put e =
      record {
        took = rw (add-one, take-suc-set l n s (omega (arith, z))) (sym e);
        count = omega arith;
        size = length-set l n s ∙ z;
      }

  -- where it is held beside the others
  pub took_more :
      (w : List ℕ) (v : View) (f : ℕ) →
      halves_in s + taken_by w v.objects f (cell_in s) (take n l) ≤ halves_at w v.holder (cell_in s) →
      TookUpTo (Ok (n + 1)) (set l n s) (n + 1) (new_share w v f (halves_in s) (take n l) (cell_in s))
  took_more w v f e =
      took-put
      (new-free w v f (halves_in s) (take n l) (cell_in s) (le-leb _ _ e) ∙ ap (λ (r : ℕ). ok (take n l ++ (r ∷ []))) (share-is s))

  -- a chain that meets none of the others
  pub took-chain :
      (w : List ℕ) (v : View) (last : ℕ) → any (ends_by w v (field_in s) last) (take n l) ≡ false →
      TookUpTo (Ok (n + 1)) (set l n s) (n + 1) (new_chain w v (take n l) s last)
  took-chain w v last e = took-put (chain-free w v (take n l) s last e)
