-- `open` and `shut` walk as the definitions do.
use mathlib.Core.Path.{◌≡◌, refl, sym, ap, ◌∙◌, subst}
use mathlib.Core.Bool.{Bool, true, false}
use mathlib.Core.List.{List, [], ◌∷◌}
use mathlib.Core.Logic.{⊎_elim}
use mathlib.Core.Option.{some}
use Prim.Native.Nat.{ℕ, suc, ◌+◌, ◌≤◌, ◌<◌}
use native.Mathlib.Omega.{arith}
use lib.Dec.{leb}
use borrow.Author.Tests.{eq-eqb, ne_eqb, le-leb, lt-leb}
use Rattle.rules.specs.Base.{Member, further, Try, ok, no, ◌>>=◌, ◌>>◌, check, any}
use Rattle.rules.specs.Answers.{Stop, permission_missing, null_followed}
use Rattle.rules.specs.Syntax.{path}
use Rattle.rules.specs.Machine.{Heap, Frame, Location, Config, halves, value_of, locate, value, advance, bind, with_frame, open_step, shut_step}
use Rattle.rules.proofs.Lists.{none-some, decide_eq, is-head}
use Rattle.rules.proofs.Sets.{at-cases, halves-nil, halves-cons}
use Rattle.rules.proofs.Tries.{bind_ok, no_ok}
use Rattle.rules.proofs.CountedWalks.{count, last_of, count_stuck, count-on, count-goes, goes-away, places, decide-bool}
use Rattle.tables.specs.Layout.{frame_variables, most_names}
use Rattle.tables.specs.Tables.{SideFits}
use Rattle.run_heap.specs.declared.View.{View}
use Rattle.run_heap.specs.Views.{cell_value, cell_of, halves_at, spot, read_in}
use Rattle.run_heap.specs.Chains.{walk_in}
use Rattle.run_heap.proofs.Reading.{cell-null, spot-is}
use Rattle.run_footprint.specs.Footprints.{free_of}
use Rattle.run_steps.proofs.Sights.{Sees, at, held_at}
use Rattle.run_steps.proofs.Ways.{may_in, next, cell-may, walk-counted}
use Rattle.run_steps.proofs.Seeing.{nothing, may, free, less, others, walk_no, walk-ok, locate-at, locate-no, value_is}

-- an object that is not among these has none of their locations
places-none : (f o : ℕ) (os : List ℕ) → (Member o os → ⊥) → halves (places f os) (at o f) ≡ 0
unfolding places
places-none f o [] d = halves-nil (at o f)
places-none f o (x ∷ os) d =
    ⊎_elim
    (λ (e, _). absurd (d (is-head (ap (λ (p : Location). p.object) e))))
    (λ (_, a). omega (arith, a, halves-cons (at x f) (places f os) (at o f), places-none f o os (λ i. d (further i))))
    (at-cases (at x f) (at o f))

before-no : (t : Try Stop (List ℕ)) (g : List ℕ → ℕ) (s : Stop) → (t >>= λ os. ok (g os)) ≡ no s → t ≡ no s
unfolding ◌>>=◌
before-no (ok os) g s e = no_ok (sym e)
before-no (no r) g s e = cc

module _ {w : List ℕ} {v : View} {h : Heap} {F : Frame} (S : Sees w v h F) where
  -- WHERE NOTHING IS TAKEN
  may_none : (f x : ℕ) → may S (nothing S) f x ≡ may_in S f (λ _. true) x
  unfolding free free_of any
  may_none f x =
      ⊎_elim
      (λ m. m ∙ sym (less S (nothing S) f x m))
      (λ m. m ∙ sym (⊎_elim (λ t. elim (others S (nothing S) f x t m).among [ ]) (λ t. t) (decide-bool (free S (nothing S) f x))))
      (decide-bool (may S (nothing S) f x))

  count_none :
      (f n o : ℕ) → count (next S f) (may S (nothing S) f) n o ≡ count (next S f) (may_in S f (λ _. true)) n o
  count_none f n o = ap (λ (t : ℕ → Bool). count (next S f) t n o) (λ i x. may_none f x i)

  -- what the code's walk comes to
  walked-ok :
      (f n last : ℕ) → walk_in w v (λ _. true) f (suc v.objects) n 0 ≡ ok last →
      (os : List ℕ) × (count (next S f) (may S (nothing S) f) (suc v.objects) n ≡ ok os)
  walked-ok f n last e =
      let (os, q, _) =
      bind_ok (count (next S f) (may_in S f (λ _. true)) (suc v.objects) n)
      (sym (walk-counted S f (λ _. true) (suc v.objects) n 0) ∙ e) in
      (os, count_none f (suc v.objects) n ∙ q)

  walked-no :
      (f n : ℕ) (s : Stop) → walk_in w v (λ _. true) f (suc v.objects) n 0 ≡ no s →
      count (next S f) (may S (nothing S) f) (suc v.objects) n ≡ no s
  walked-no f n s e =
      count_none f (suc v.objects) n
      ∙ before-no (count (next S f) (may_in S f (λ _. true)) (suc v.objects) n) (last_of 0) s
      (sym (walk-counted S f (λ _. true) (suc v.objects) n 0) ∙ e)

  -- the location of `x.f`, of which so many halves are held
  record Located (n x f k : ℕ) : Type 0 where
    object : value_of F x ≡ 0 → ⊥
    cell : cell_of w v.objects (value_of F x) f ≡ some k
    held : n ≤ halves_at w v.holder k

  located : (n x f k : ℕ) → 1 ≤ n → x < frame_variables → spot w v n x f ≡ ok k → Located n x f k
  located n x f k l lx e =
      let (a, c) = locate-at S n x f k l lx e in
      record {
        object = λ z. none-some (sym (cell-null w v.objects f) ∙ (ap (λ (i : ℕ). cell_of w v.objects i f) (sym z) ∙ c));
        cell = c;
        held = (spot-is w v n x f k e).1;
      }

  -- from `x.f`, held whole, the walk goes on from its value
  walk_from :
      (x f k : ℕ) → Located 2 x f k →
      count (next S f) (may S (nothing S) f) (suc (suc v.objects)) (value_of F x)
      ≡ (count (next S f) (may S (nothing S) f) (suc v.objects) (cell_value w k) >>= λ os. ok (value_of F x ∷ os))
  walk_from x f k L =
      count-on (next S f) (may S (nothing S) f) (suc v.objects) (value_of F x) L.object
      (may_none f (value_of F x)
      ∙ cell-may S f (λ _. true) (value_of F x) k (record { cell = L.cell; whole = L.held; is_free = refl }))
      ∙ ap
      (λ (n : ℕ). count (next S f) (may S (nothing S) f) (suc v.objects) n >>= λ os. ok (value_of F x ∷ os))
      (S.cells (value_of F x) f k L.cell)

-- THE STEPS
module _ {w : List ℕ} {v : View} (m : Config) (S : Sees w v m.heap m.frame) (x f : ℕ) (lx : x < frame_variables) where
  abbrev o : ℕ
  o = value_of m.frame x

  module _ (y : ℕ) where
    pub open_done :
        (k last : ℕ) → spot w v 2 x f ≡ ok k → walk_in w v (λ _. true) f (suc v.objects) (cell_value w k) 0 ≡ ok last →
        open_step y x f m ≡ ok (with_frame m (advance (bind y (cell_value w k) m.frame)))
    unfolding open_step check ◌>>◌ ◌>>=◌
    open_done k last e q =
        let L = located S 2 x f k (omega arith) lx e in
        let (os, c) = walked-ok S f (cell_value w k) last q in
        let (B, t, _) = walk-ok S (nothing S) f (suc v.objects) o (o ∷ os) (omega arith) (walk_from S x f k L ∙ rw c) in
        rw (ne_eqb o 0 L.object, t, S.cells o f k L.cell)

    pub open-walk :
        (k : ℕ) (s : Stop) → spot w v 2 x f ≡ ok k → walk_in w v (λ _. true) f (suc v.objects) (cell_value w k) 0 ≡ no s →
        open_step y x f m ≡ no s
    unfolding open_step check ◌>>◌ ◌>>=◌
    open-walk k s e q =
        let L = located S 2 x f k (omega arith) lx e in
        let t = walk_no S (nothing S) f (suc v.objects) o s (omega arith) (walk_from S x f k L ∙ rw (walked-no S f (cell_value w k) s q)) in
        rw (ne_eqb o 0 L.object, t)

    pub open_no : (s : Stop) → spot w v 2 x f ≡ no s → open_step y x f m ≡ no s
    unfolding open_step locate may check ◌>>◌ ◌>>=◌
    open_no s e = ⊎_elim null there (decide_eq o 0)
      where
        lacks : locate m.frame [] 2 x f ≡ no s
        lacks = locate-no S 2 x f s (omega arith) lx e

        null : o ≡ 0 → open_step y x f m ≡ no s
        null z = rw (eq-eqb o 0 z) (let q = rw (eq-eqb o 0 z) at lacks in let i : null_followed ≡ s = cc in ap no i)

        there : (o ≡ 0 → ⊥) → open_step y x f m ≡ no s
        there z =
            by-test (leb (2 + halves [] (at o f)) (halves m.frame.held (at o f))) refl (rw (ne_eqb o 0 z) at lacks)
          where
            by-test :
                (b : Bool) → leb (2 + halves [] (at o f)) (halves m.frame.held (at o f)) ≡ b →
                (check b permission_missing >> ok (at o f)) ≡ no s → open_step y x f m ≡ no s
            by-test true t q = no_ok (sym q)
            by-test false t q =
                let i : permission_missing ≡ s = cc in
                let n : may S (nothing S) f o ≡ false =
                (let two : leb 2 (halves m.frame.held (at o f)) ≡ false =
                subst (λ (j : ℕ). leb j (halves m.frame.held (at o f)) ≡ false) (omega (arith, halves-nil (at o f))) t in
                rw two) in
                rw (
                  ne_eqb o 0 z,
                  walk_no S (nothing S) f v.objects o permission_missing (omega arith)
                      (count_stuck (next S f) (may S (nothing S) f) v.objects o z n),
                )
                (ap no i)

  -- `shut`
  module _ (lf : f < most_names) where
    read_no : (s : Stop) → spot w v 1 x f ≡ no s → value m.heap m.frame (path x f) ≡ no s
    unfolding read_in SideFits ◌>>=◌
    read_no s e = value_is S (path x f) (lx, lf) ∙ rw e

    read_ok : (k : ℕ) → spot w v 1 x f ≡ ok k → value m.heap m.frame (path x f) ≡ ok (cell_value w k)
    unfolding read_in SideFits ◌>>=◌
    read_ok k e = value_is S (path x f) (lx, lf) ∙ rw e

    pub shut-no : (s : Stop) → spot w v 1 x f ≡ no s → shut_step x f m ≡ no s
    unfolding shut_step ◌>>=◌
    shut-no s e = rw (read_no s e)

    pub shut-walk :
        (k : ℕ) (s : Stop) → spot w v 1 x f ≡ ok k → walk_in w v (λ _. true) f (suc v.objects) (cell_value w k) 0 ≡ no s →
        shut_step x f m ≡ no s
    unfolding shut_step ◌>>=◌
    shut-walk k s e q =
        rw (read_ok k e, walk_no S (nothing S) f v.objects (cell_value w k) s (omega arith) (walked-no S f (cell_value w k) s q))

    module _
        (k last : ℕ) (e : spot w v 1 x f ≡ ok k) (q : walk_in w v (λ _. true) f (suc v.objects) (cell_value w k) 0 ≡ ok last) where
      -- the chain does not pass `x.f`
      shut-is :
          shut_step x f m
          ≡ (check (leb 2 (halves_at w v.holder k)) permission_missing >> ok (with_frame m (advance m.frame)))
      unfolding shut_step locate check ◌>>◌ ◌>>=◌
      shut-is =
          let L = located S 1 x f k (omega arith) lx e in
          let (os, c) = walked-ok S f (cell_value w k) last q in
          let (B, t, sum) = walk-ok S (nothing S) f v.objects (cell_value w k) os (omega arith) c in
          let G = count-goes (next S f) (may S (nothing S) f) (suc v.objects) (next S f o) os
          (ap (λ (n : ℕ). count (next S f) (may S (nothing S) f) (suc v.objects) n) (S.cells o f k L.cell) ∙ c) in
          let none_here : 2 + halves B (at o f) ≡ 2 =
          omega (
            arith,
            sum (at o f),
            halves-nil (at o f),
            places-none f o os (goes-away (next S f) (may S (nothing S) f) G),
          ) in
          rw (read_ok k e, t, ne_eqb o 0 L.object, none_here, held_at S o f k L.cell) (go (leb 2 (halves_at w v.holder k)))
        where
          go :
              (b : Bool) →
              ((check b permission_missing >> ok (at o f)) >>= λ p. ok (with_frame m (advance m.frame)))
              ≡ (check b permission_missing >> ok (with_frame m (advance m.frame)))
          go true = refl
          go false = refl

      pub shut-on : 2 ≤ halves_at w v.holder k → shut_step x f m ≡ ok (with_frame m (advance m.frame))
      unfolding check ◌>>◌
      shut-on l = shut-is ∙ rw (le-leb 2 (halves_at w v.holder k) l)

      pub shut-half : halves_at w v.holder k < 2 → shut_step x f m ≡ no permission_missing
      unfolding check ◌>>◌
      shut-half l = shut-is ∙ rw (lt-leb 2 (halves_at w v.holder k) l)
