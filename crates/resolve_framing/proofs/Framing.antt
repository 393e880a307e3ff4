-- Laws of the search for an access, and of a formula atom by atom.
use mathlib.Core.Path.{◌≡◌, refl, sym, ap, ◌∙◌}
use mathlib.Core.Bool.{Bool, true, false, cond, ◌&&◌, ◌||◌}
use mathlib.Core.List.{[], ◌∷◌, ◌++◌, List}
use Prim.Native.Nat.{ℕ, zero, suc, ◌+◌, ◌-◌, ◌≤◌, ◌<◌}
use native.Mathlib.Omega.{arith}
use native.Mathlib.Nat.{add-zero, zero-add}
use native.Mathlib.Numerals.{add-one}
use borrow.Author.Tests.{ne_eqb}
use Rattle.rules.specs.Base.{any}
use Rattle.rules.specs.Syntax.{Atom, Formula, is_path, own, cmp, path}
use Rattle.rules.specs.Reading.{Access, framed_expr, framed}
use Rattle.tables.specs.Decode.{run, byte_at, atom_place, atom_kind_at, is_permission, permit_of, rel_of, left_at, right_at, atom_at, atoms_from, framed_from}
use Rattle.resolve_framing.specs.Framing.{access_at, is_access, is_of, accesses}

-- an atom by its sides
module _ (w : List ℕ) (before : List Access) (i : ℕ) where
  pub permission-framed : is_permission (atom_kind_at w i) ≡ true → framed before (atom_at w i ∷ []) ≡ true
  unfolding framed atom_at
  permission-framed e = rw e

  pub sides-framed : is_permission (atom_kind_at w i) ≡ false → framed before (atom_at w i ∷ []) ≡ framed_expr before (left_at w i) && framed_expr before (right_at w i)
  unfolding framed atom_at
  sides-framed e = rw e (and-true (framed_expr before (left_at w i)) (framed_expr before (right_at w i)))
    where
      and-true : (p q : Bool) → p && (q && true) ≡ p && q
      and-true true true = refl
      and-true true false = refl
      and-true false q = refl

module _ (w : List ℕ) (a : ℕ) where
  -- THE SEARCH, from the last atom back
  module _ (x f : ℕ) where
    abbrev pub framed_before : ℕ → Bool
    framed_before i = framed_expr (accesses w a i) (path x f)

    abbrev test : ℕ → Bool
    test i = is_access w (a + i) && is_of x f (access_at w (a + i))

    found-step : (i : ℕ) → framed_before (suc i) ≡ test i || framed_before i
    unfolding framed_expr accesses any
    found-step i = go (is_access w (a + i))
      where
        go :
            (b : Bool) →
            any (is_of x f) (cond b (access_at w (a + i) ∷ accesses w a i) (accesses w a i))
            ≡ b && is_of x f (access_at w (a + i)) || any (is_of x f) (accesses w a i)
        go true = refl
        go false = refl

    pub found_none : (i : ℕ) → i ≤ 0 → framed_before i ≡ false
    unfolding framed_expr accesses any
    found_none i l = let e : i ≡ 0 = omega arith in rw e

    -- the atom i is passed, and j of them are left
    pub found_here : (i j : ℕ) → i ≡ suc j → test j ≡ true → framed_before i ≡ true
    found_here i j l e = rw l (found-step j ∙ rw e)

    pub found-on : (i j : ℕ) → i ≡ suc j → test j ≡ false → framed_before i ≡ framed_before j
    found-on i j l e = rw l (found-step j ∙ rw e)

  -- ONE ATOM
  framed-step :
      (i : ℕ) (φ : Formula ℕ) →
      framed (accesses w a i) (atom_at w (a + i) ∷ φ)
      ≡ framed (accesses w a i) (atom_at w (a + i) ∷ []) && framed (accesses w a (suc i)) φ
  unfolding framed accesses atom_at
  framed-step i φ = go (is_permission (atom_kind_at w (a + i)))
    where
      and-on : (p q r : Bool) → p && (q && r) ≡ (p && (q && true)) && r
      and-on true true r = refl
      and-on true false r = refl
      and-on false q r = refl

      go :
          (b : Bool) → let n = rel_of (byte_at w (atom_place (a + i))) in
          let t = cond b (own (permit_of (byte_at w (atom_place (a + i)))) (byte_at w (atom_place (a + i) + 4)) (byte_at w (atom_place (a + i) + 5))) (cmp n (left_at w (a + i)) (right_at w (a + i))) in
          framed (accesses w a i) (t ∷ φ)
          ≡ framed (accesses w a i) (t ∷ [])
          && framed (cond (b && is_path (permit_of (atom_kind_at w (a + i)))) (access_at w (a + i) ∷ accesses w a i) (accesses w a i)) φ
      go true = refl
      go false = and-on (framed_expr (accesses w a i) (left_at w (a + i))) (framed_expr (accesses w a i) (right_at w (a + i))) _

  -- ALL ATOMS, of which i are passed
  module _ (n : ℕ) where
    abbrev pub Passed : ℕ → Type 0
    Passed i = framed [] (atoms_from w a n) ≡ framed (accesses w a i) (atoms_from w (a + i) (n - i))

    pub passed_none : Passed 0
    unfolding accesses
    passed_none = let e : a + 0 ≡ a = add-zero a in let f : n - 0 ≡ n = omega arith in rw (e, f)

    pub passed-all : (i : ℕ) → n ≤ i → Passed i → framed [] (atoms_from w a n) ≡ true
    unfolding framed run
    passed-all i l x = let e : n - i ≡ 0 = omega arith in x ∙ rw e

    abbrev atom-framed : ℕ → Bool
    atom-framed i = framed (accesses w a i) (atom_at w (a + i) ∷ [])

    passed-step : (i : ℕ) → i < n → Passed i → framed [] (atoms_from w a n) ≡ atom-framed i && framed (accesses w a (suc i)) (atoms_from w (suc (a + i)) (n - suc i))
    unfolding run
    passed-step i l x = let e : n - i ≡ suc (n - suc i) = omega arith in x ∙ rw e (framed-step i (atoms_from w (suc (a + i)) (n - suc i)))

    pub passed-not : (i : ℕ) → i < n → Passed i → atom-framed i ≡ false → framed [] (atoms_from w a n) ≡ false
    passed-not i l x e = passed-step i l x ∙ rw e

    pub passed_on : (i : ℕ) → i < n → Passed i → atom-framed i ≡ true → Passed (i + 1)
    passed_on i l x e = let s : a + suc i ≡ suc (a + i) = omega arith in rw (add-one, s) (passed-step i l x ∙ rw e)

  -- ONE MORE, after n atoms
  framed-more :
      (b : Atom ℕ) (n i : ℕ) →
      framed (accesses w a i) (atoms_from w (a + i) n ++ (b ∷ []))
      ≡ framed (accesses w a i) (atoms_from w (a + i) n) && framed (accesses w a (i + n)) (b ∷ [])
  unfolding run framed
  framed-more b zero i = ap (λ (k : ℕ). framed (accesses w a k) (b ∷ [])) (sym (add-zero i))
  framed-more b (suc n) i =
      let s : a + suc i ≡ suc (a + i) = omega arith in
      let e : suc i + n ≡ i + suc n = omega arith in
      let h = rw (s, e) at (framed-more b n (suc i)) in
      let x : Bool = framed (accesses w a i) (atom_at w (a + i) ∷ []) in
      let y : Bool = framed (accesses w a (suc i)) (atoms_from w (suc (a + i)) n) in
      let z : Bool = framed (accesses w a (i + suc n)) (b ∷ []) in
      framed-step i (atoms_from w (suc (a + i)) n ++ (b ∷ []))
      ∙ (ap (λ (q : Bool). x && q) h ∙ (and_assoc x y z ∙ ap (λ (q : Bool). q && z) (sym (framed-step i (atoms_from w (suc (a + i)) n)))))
    where
      and_assoc : (p q r : Bool) → p && (q && r) ≡ (p && q) && r
      and_assoc true q r = refl
      and_assoc false q r = refl

  module _ (b : Atom ℕ) (n : ℕ) where
    framed-last : framed [] (atoms_from w a n ++ (b ∷ [])) ≡ framed [] (atoms_from w a n) && framed (accesses w a n) (b ∷ [])
    unfolding accesses
    framed-last = rw (add-zero, zero-add) at (framed-more b n 0)

    pub last-not : framed [] (atoms_from w a n) ≡ false → framed [] (atoms_from w a n ++ (b ∷ [])) ≡ false
    last-not e = framed-last ∙ rw e

    pub last_on : framed [] (atoms_from w a n) ≡ true → framed [] (atoms_from w a n ++ (b ∷ [])) ≡ framed (accesses w a n) (b ∷ [])
    last_on e = framed-last ∙ rw e

-- BY THE KIND OF LINE
module _ (w : List ℕ) (k i n : ℕ) where
  pub as-loop : k ≡ 21 → framed_from w k i n ≡ atoms_from w (i + 1) (n - 1) ++ (atom_at w i ∷ [])
  unfolding framed_from
  as-loop e = rw e

  pub as-formula : (k ≡ 21 → ⊥) → framed_from w k i n ≡ atoms_from w i n
  unfolding framed_from
  as-formula m = rw (ne_eqb k 21 m)
