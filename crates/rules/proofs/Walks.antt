-- Laws of walks along a chain: what a walk passes, when it is done, and that its bound changes nothing.
use mathlib.Core.Path.{◌≡◌, refl, sym, ap, ◌∙◌, subst}
use mathlib.Core.Bool.{Bool, true, false, cond, ◌&&◌}
use mathlib.Core.List.{List, [], ◌∷◌, ◌++◌}
use mathlib.Core.Logic.{◌⊎◌, inl, inr, ⊎_elim}
use Prim.Native.Nat.{ℕ, zero, suc, ◌+◌, ◌≤◌, zero-le}
use native.Mathlib.Omega.{arith}
use lib.Dec.{T, eqb, eqb→eq, leb, leb→le, le→leb}
use lib.ListN.{length, length-append}
use Rattle.rules.specs.Base.{Try, ok, no, check, ◌>>◌}
use Rattle.rules.specs.Answers.{Stop, permission_missing, formula_false}
use Rattle.rules.specs.Runs.{Walk, at_null, goes}
use Rattle.rules.specs.Machine.{Frame, Heap, Location, halves, less_one, value_at, walk, take_walk}
use Rattle.rules.proofs.Lists.{T_true, F-false, and_intro, and_both, decide_eq}
use Rattle.rules.proofs.Tries.{bind_ok, check-ok, ok-inj, no_ok, pass, bind-of-ok}
use Rattle.rules.proofs.Sets.{at_same, at-cases, halves-nil, halves-cons, halves-append, halves-less_one, less_one-length}

-- A WALK
-- what was passed is passed once, held whole, and not taken
abbrev Passed : Frame → List Location → List Location → Type 0
Passed F A ws =
    (p : Location) → 1 ≤ halves ws p → (halves ws p ≡ 1) × (2 ≤ halves F.held p) × (halves A p ≡ 0)

-- one step of it
record Steps (h : Heap) (F : Frame) (A : List Location) (f n o : ℕ) (passed B : List Location) : Type 0 where
  object : o ≡ 0 → ⊥
  new : halves passed (record { object = o; field = f }) ≡ 0
  whole : 2 ≤ halves F.held (record { object = o; field = f })
  free : halves A (record { object = o; field = f }) ≡ 0
  onward : walk h F A f n (value_at h o f) (record { object = o; field = f } ∷ passed) ≡ ok B

walk_step :
    (h : Heap) (F : Frame) (A : List Location) (f n o : ℕ) (passed B : List Location) →
    walk h F A f (suc n) o passed ≡ ok B → ((o ≡ 0) × (passed ≡ B)) ⊎ Steps h F A f n o passed B
unfolding walk
walk_step h F A f n o passed B e = go (eqb o 0) refl e
  where
    p : Location
    p = record { object = o; field = f }

    go :
        (b : Bool) → b ≡ eqb o 0 →
        cond b (ok passed)
        (check (eqb (halves passed p) 0) formula_false
        >> (check (leb 2 (halves F.held p) && eqb (halves A p) 0) permission_missing
        >> walk h F A f n (value_at h o f) (p ∷ passed))) ≡ ok B →
        ((o ≡ 0) × (passed ≡ B)) ⊎ Steps h F A f n o passed B
    go true r q = inl (eqb→eq o 0 (subst T r tt), ok-inj q)
    go false r q =
        let (a, q₁) = check-ok (eqb (halves passed p) 0) formula_false q in
        let (b, q₂) = check-ok (leb 2 (halves F.held p) && eqb (halves A p) 0) permission_missing q₁ in
        let (c, d) = and_both (leb 2 (halves F.held p)) _ b in
        inr
        (record {
          object = λ z. subst T (sym r) (subst (λ v. T (eqb v 0)) (sym z) tt);
          new = eqb→eq _ _ a;
          whole = leb→le _ _ c;
          free = eqb→eq _ _ d;
          onward = q₂;
        })

-- a walk that ends is a walk, and passed what it says
pub walk-walks :
    (h : Heap) (F : Frame) (A : List Location) (f n o : ℕ) (passed B : List Location) → walk h F A f n o passed ≡ ok B →
    (ws : List Location) × Walk h f o ws × ((p : Location) → halves B p ≡ halves ws p + halves passed p)
unfolding walk
walk-walks h F A f zero o passed B e = go (eqb o 0) refl e
  where
    go :
        (b : Bool) → b ≡ eqb o 0 → cond b (ok passed) (no permission_missing) ≡ ok B →
        (ws : List Location) × Walk h f o ws × ((p : Location) → halves B p ≡ halves ws p + halves passed p)
    go true r q = (
      [],
      at_null (eqb→eq o 0 (subst T r tt)),
      λ p. omega (arith, ap (λ (C : List Location). halves C p) (ok-inj q), halves-nil p),
    )
    go false r q = no_ok q
walk-walks h F A f (suc n) o passed B e =
    ⊎_elim
    (λ (z, q). ([], at_null z, λ p. omega (arith, ap (λ (C : List Location). halves C p) q, halves-nil p)))
    (λ S.
    let q : Location = record { object = o; field = f } in
    let (ws, W, k) = walk-walks h F A f n (value_at h o f) (q ∷ passed) B S.onward in
    (q ∷ ws, goes S.object W, λ p. omega (arith, k p, halves-cons q ws p, halves-cons q passed p)))
    (walk_step h F A f n o passed B e)

walk-passed :
    (h : Heap) (F : Frame) (A : List Location) (f n o : ℕ) (passed B : List Location) → walk h F A f n o passed ≡ ok B →
    Passed F A passed → Passed F A B
unfolding walk
walk-passed h F A f zero o passed B e K = go (eqb o 0) e
  where
    go : (b : Bool) → cond b (ok passed) (no permission_missing) ≡ ok B → Passed F A B
    go true q = subst (Passed F A) (ok-inj q) K
    go false q = no_ok q
walk-passed h F A f (suc n) o passed B e K =
    ⊎_elim
    (λ (z, q). subst (Passed F A) q K)
    (λ S.
    let q : Location = record { object = o; field = f } in
    walk-passed h F A f n (value_at h o f) (q ∷ passed) B S.onward
    (λ p i.
    ⊎_elim
    (λ (e, a).
    subst (λ (r : Location). (halves (q ∷ passed) r ≡ 1) × (2 ≤ halves F.held r) × (halves A r ≡ 0)) (sym e)
    (omega (arith, halves-cons q passed q, at_same q, S.new), S.whole, S.free))
    (λ (m, a).
    let c = halves-cons q passed p in
    let (x, y, z) = K p (omega (arith, i, c, a)) in
    (omega (arith, x, c, a), y, z))
    (at-cases q p)))
    (walk_step h F A f n o passed B e)

-- what a walk takes is held, and what was taken stays taken
pub walk-taken :
    (h : Heap) (F : Frame) (f o : ℕ) (A B : List Location) → take_walk h F f o A ≡ ok B →
    (ws : List Location) × Walk h f o ws × ((p : Location) → halves B p ≡ (halves ws p + halves ws p) + halves A p)
unfolding take_walk
walk-taken h F f o A B e =
    let (C, i, q) = bind_ok (walk h F A f (length F.held) o []) e in
    let (ws, W, k) = walk-walks h F A f (length F.held) o [] C i in (
      ws,
      W,
      λ p.
          omega (
            arith,
            ap (λ (D : List Location). halves D p) (ok-inj q),
            halves-append C (C ++ A) p,
            halves-append C A p,
            k p,
            halves-nil p,
          ),
    )

pub walk-held :
    (h : Heap) (F : Frame) (f o : ℕ) (A B : List Location) → take_walk h F f o A ≡ ok B → (p : Location) →
    halves A p ≤ halves F.held p → halves B p ≤ halves F.held p
unfolding take_walk
walk-held h F f o A B e p l =
    let (C, i, q) = bind_ok (walk h F A f (length F.held) o []) e in
    let K : Passed F A C =
    walk-passed h F A f (length F.held) o [] C i (λ p j. absurd (omega (arith, j, halves-nil p))) in
    let sum : halves B p ≡ halves C p + (halves C p + halves A p) =
    ap (λ (D : List Location). halves D p) (sym (ok-inj q))
    ∙ (halves-append C (C ++ A) p ∙ ap (λ (n : ℕ). halves C p + n) (halves-append C A p)) in
    ⊎_elim
    (λ z. omega (arith, z, sum, l))
    (λ z. let (x, y, w) = K p (omega (arith, z)) in omega (arith, x, y, w, sum))
    (decide_eq (halves C p) 0)

-- a walk does, over locations that are held whole and not taken, each once: there are no more than the frame holds
pub fewer : (A B : List Location) → ((p : Location) → halves A p ≤ halves B p) → length A ≤ length B
fewer [] B k = zero-le
fewer (q ∷ A) B k =
    let some-q : 1 ≤ halves B q = omega (arith, k q, halves-cons q A q, at_same q) in
    omega (
      arith,
      less_one-length q B some-q,
      fewer A (less_one q B) (λ p. omega (arith, k p, halves-cons q A p, halves-less_one q B p)),
    )

pub walk-goes :
    (h : Heap) (F : Frame) (A : List Location) (f n o : ℕ) (passed : List Location) → (o ≡ 0 → ⊥) →
    halves passed (record { object = o; field = f }) ≡ 0 → 2 ≤ halves F.held (record { object = o; field = f }) →
    halves A (record { object = o; field = f }) ≡ 0 →
    walk h F A f (suc n) o passed ≡ walk h F A f n (value_at h o f) (record { object = o; field = f } ∷ passed)
unfolding walk
walk-goes h F A f n o passed z a b c =
    let p : Location = record { object = o; field = f } in
    rw (F-false (eqb o 0) (λ t. z (eqb→eq o 0 t)))
    (pass (eqb (halves passed p) 0) formula_false _ (subst (λ (v : ℕ). T (eqb v 0)) (sym a) tt)
    ∙ pass (leb 2 (halves F.held p) && eqb (halves A p) 0) permission_missing _
    (and_intro (leb 2 (halves F.held p)) _ (le→leb _ _ b) (subst (λ (v : ℕ). T (eqb v 0)) (sym c) tt)))

pub walk_ends :
    (h : Heap) (F : Frame) (A : List Location) (f n o : ℕ) (passed : List Location) → o ≡ 0 → walk h F A f n o passed ≡ ok passed
unfolding walk
walk_ends h F A f zero o passed z = rw (T_true (eqb o 0) (subst (λ (v : ℕ). T (eqb v 0)) (sym z) tt))
walk_ends h F A f (suc n) o passed z = rw (T_true (eqb o 0) (subst (λ (v : ℕ). T (eqb v 0)) (sym z) tt))

pub walk-ring :
    (h : Heap) (F : Frame) (A : List Location) (f n o : ℕ) (passed : List Location) → (o ≡ 0 → ⊥) →
    (halves passed (record { object = o; field = f }) ≡ 0 → ⊥) → walk h F A f (suc n) o passed ≡ no formula_false
unfolding walk ◌>>◌ check
walk-ring h F A f n o passed z a =
    rw (F-false (eqb o 0) (λ t. z (eqb→eq o 0 t)), F-false (eqb (halves passed (record { object = o; field = f })) 0) (λ t. a (eqb→eq _ 0 t)))

pub walk-stuck :
    (h : Heap) (F : Frame) (A : List Location) (f n o : ℕ) (passed : List Location) → (o ≡ 0 → ⊥) →
    halves passed (record { object = o; field = f }) ≡ 0 →
    (leb 2 (halves F.held (record { object = o; field = f })) && eqb (halves A (record { object = o; field = f })) 0) ≡ false →
    walk h F A f (suc n) o passed ≡ no permission_missing
unfolding walk ◌>>◌ check
walk-stuck h F A f n o passed z a b = rw (F-false (eqb o 0) (λ t. z (eqb→eq o 0 t)), a, b)

pub walk-does :
    (h : Heap) (F : Frame) (A : List Location) (f n o : ℕ) (ws passed : List Location) → Walk h f o ws → length ws ≤ n →
    ((p : Location) → halves F.held p ≤ 2) →
    ((p : Location) → (halves ws p + halves ws p) + ((halves passed p + halves passed p) + halves A p) ≤ halves F.held p) →
    (B : List Location) × (walk h F A f n o passed ≡ ok B) × ((p : Location) → halves B p ≡ halves ws p + halves passed p)
walk-does h F A f n o ws passed (at_null z) l most k = (passed, walk_ends h F A f n o passed z, λ p. omega (arith, halves-nil p))
walk-does h F A f zero o ws passed (goes z W) l most k = absurd (omega arith)
walk-does h F A f (suc n) o ws passed (goes {ws = us} z W) l most k =
    let p : Location = record { object = o; field = f } in
    let c = halves-cons p us p in
    let i = at_same p in
    let (B, e, s) =
    walk-does h F A f n (value_at h o f) us (p ∷ passed) W (omega arith) most
    (λ q. omega (arith, k q, halves-cons p us q, halves-cons p passed q)) in (
      B,
      walk-goes h F A f n o passed z (omega (arith, k p, c, i, most p)) (omega (arith, k p, c, i)) (omega (arith, k p, c, i, most p))
          ∙ e,
      λ q. omega (arith, s q, halves-cons p us q, halves-cons p passed q),
    )

pub take_walk-does :
    (h : Heap) (F : Frame) (A : List Location) (f o : ℕ) (ws : List Location) → Walk h f o ws →
    ((p : Location) → halves F.held p ≤ 2) →
    ((p : Location) → (halves ws p + halves ws p) + halves A p ≤ halves F.held p) →
    (B : List Location) × (take_walk h F f o A ≡ ok B) × ((p : Location) → halves B p ≡ (halves ws p + halves ws p) + halves A p)
unfolding take_walk
take_walk-does h F A f o ws W most k =
    let (C, e, s) =
    walk-does h F A f (length F.held) o ws [] W (fewer ws F.held (λ p. omega (arith, k p))) most
    (λ p. omega (arith, k p, halves-nil p)) in (
      C ++ (C ++ A),
      bind-of-ok (walk h F A f (length F.held) o []) C _ e,
      λ p. omega (arith, s p, halves-nil p, halves-append C (C ++ A) p, halves-append C A p),
    )

-- from null it takes nothing more
pub walk-null : (h : Heap) (F : Frame) (f o : ℕ) (A : List Location) → o ≡ 0 → take_walk h F f o A ≡ ok A
unfolding take_walk
walk-null h F f o A z = bind-of-ok (walk h F A f (length F.held) o []) [] _ (walk_ends h F A f (length F.held) o [] z)

-- THE BOUND OF A WALK CHANGES NOTHING: with n at least the count of halves that the frame holds, any greater n gives the same
module _ (h : Heap) (F : Frame) (A : List Location) (f : ℕ) where
  -- two halves of each location that was passed are held
  passed_length : (passed : List Location) → Passed F A passed → length passed + length passed ≤ length F.held
  passed_length passed K =
      subst (λ (n : ℕ). n ≤ length F.held) (length-append passed passed)
      (fewer (passed ++ passed) F.held
      (λ p.
      ⊎_elim
      (λ z. omega (arith, z, halves-append passed passed p))
      (λ z. let (x, y, _) = K p (omega (arith, z)) in omega (arith, x, y, halves-append passed passed p))
      (decide_eq (halves passed p) 0)))

  passed-more :
      (o : ℕ) (passed : List Location) → Passed F A passed → T (eqb (halves passed (record { object = o; field = f })) 0) →
      T (leb 2 (halves F.held (record { object = o; field = f })) && eqb (halves A (record { object = o; field = f })) 0) →
      Passed F A (record { object = o; field = f } ∷ passed)
  passed-more o passed K a b p i =
      let q : Location = record { object = o; field = f } in
      let (c, d) = and_both (leb 2 (halves F.held q)) _ b in
      ⊎_elim
      (λ (e, _).
      subst (λ (r : Location). (halves (q ∷ passed) r ≡ 1) × (2 ≤ halves F.held r) × (halves A r ≡ 0)) (sym e)
      (omega (arith, halves-cons q passed q, at_same q, eqb→eq (halves passed q) 0 a), leb→le _ _ c, eqb→eq _ _ d))
      (λ (m, z).
      let k = halves-cons q passed p in
      let (x, y, w) = K p (omega (arith, i, k, z)) in
      (omega (arith, x, k, z), y, w))
      (at-cases q p)

  -- where nothing is held, no location is
  none-held : (o : ℕ) → length F.held ≡ 0 → T (leb 2 (halves F.held (record { object = o; field = f }))) → ⊥
  none-held o e t = go F.held e (leb→le _ _ t)
    where
      go : (B : List Location) → length B ≡ 0 → 2 ≤ halves B (record { object = o; field = f }) → ⊥
      go [] e l = omega (arith, l, halves-nil (record { object = o; field = f }))
      go (q ∷ B) e l = omega (arith, e)

  walk-enough :
      (n o : ℕ) (passed : List Location) → Passed F A passed → length F.held ≤ n + length passed →
      walk h F A f (suc n) o passed ≡ walk h F A f n o passed
  unfolding walk ◌>>◌ check
  walk-enough zero o passed K l =
      let p : Location = record { object = o; field = f } in
      let none : length passed ≡ 0 = omega (arith, passed_length passed K, l) in
      go (eqb o 0) (eqb (halves passed p) 0) (leb 2 (halves F.held p) && eqb (halves A p) 0)
      (nothing-passed passed none)
      (λ t. none-held o (omega (arith, l, none)) (and_both (leb 2 (halves F.held p)) _ t).0)
    where
      p₀ : Location
      p₀ = record { object = o; field = f }

      nothing-passed : (B : List Location) → length B ≡ 0 → T (eqb (halves B p₀) 0)
      nothing-passed [] e = subst (λ (v : ℕ). T (eqb v 0)) (sym (halves-nil p₀)) tt
      nothing-passed (q ∷ B) e = absurd (omega (arith, e))

      go :
          (a b c : Bool) → T b → (T c → ⊥) →
          cond a (ok passed)
          (check b formula_false
          >> (check c permission_missing >> cond (eqb (value_at h o f) 0) (ok (p₀ ∷ passed)) (no permission_missing)))
          ≡ cond a (ok passed) (no permission_missing)
      go true b c i j = refl
      go false true true i j = absurd (j tt)
      go false true false i j = refl
      go false false c i j = absurd i
  walk-enough (suc n) o passed K l =
      let p : Location = record { object = o; field = f } in
      go (eqb o 0) (eqb (halves passed p) 0) (leb 2 (halves F.held p) && eqb (halves A p) 0)
      (λ a b. walk-enough n (value_at h o f) (p ∷ passed) (passed-more o passed K a b) (omega (arith, l)))
    where
      go :
          {x y : Try Stop (List Location)} (a b c : Bool) → (T b → T c → x ≡ y) →
          cond a (ok passed) (check b formula_false >> (check c permission_missing >> x))
          ≡ cond a (ok passed) (check b formula_false >> (check c permission_missing >> y))
      go true b c k = refl
      go false true true k = k tt tt
      go false true false k = refl
      go false false c k = refl

  pub walk-bound : (n o : ℕ) → walk h F A f (n + length F.held) o [] ≡ walk h F A f (length F.held) o []
  walk-bound zero o = ap (λ (n : ℕ). walk h F A f n o []) (omega arith)
  walk-bound (suc n) o =
      ap (λ (n : ℕ). walk h F A f n o []) (omega arith)
      ∙ (walk-enough (n + length F.held) o [] (λ p j. absurd (omega (arith, j, halves-nil p))) (omega arith) ∙ walk-bound n o)
