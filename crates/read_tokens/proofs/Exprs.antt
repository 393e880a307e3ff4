-- Laws of names and expressions: what one search for the first byte that is no letter or digit says of a field.
use mathlib.Core.Path.{◌≡◌, refl, sym, ap, ◌∙◌}
use mathlib.Core.Bool.{Bool, true, false, not, cond, ◌&&◌, ◌||◌}
use mathlib.Core.List.{[], ◌∷◌}
use Prim.Native.Nat.{ℕ, zero, suc, ◌+◌, ◌-◌, ◌≤◌, ◌<◌}
use native.Mathlib.Nat.{add-zero}
use native.Mathlib.Omega.{arith}
use native.Mathlib.Decide.{dec_lt}
use lib.Dec.{eqb, leb, ltb}
use lib.ListN.{length, get_or, take, drop, length-take, length-drop}
use lib.Seq.{get_or-take, get_or-drop, length-take-le, take-add, drop_at, drop-drop}
use borrow.Author.Tests.{eqb-true, eqb-false, leb-false, le-leb, lt-leb, lt-ltb, le-ltb, ltb-true, eq-eqb, ne_eqb, not-true, not-false}
use Rattle.rules.specs.Base as Base
use Rattle.rules.specs.Base.{Name, all, is, between}
use Rattle.rules.specs.Text as Text
use Rattle.rules.specs.Text.{letter, digit, letter_or_digit, up_to, is_name, stop_in, has_stop, before_stop, after_stop, numeral, is_negative, is_number, number, is_expr, expr_of}
use Rattle.rules.specs.Syntax.{num, null, var, path}
use Rattle.read_bytes.specs.declared.Set.TheVariants.{FieldEnd}
use Rattle.read_bytes.specs.Sets.{in_set}
use Rattle.std.proofs.Common.{Some}
use Rattle.read_bytes.specs.Fields.{field_length, first_field, ends_field, field_end}
use Rattle.read_tokens.specs.Names.{begins_name}
use Rattle.read_bytes.proofs.Fields.{field_cut, field-first, field-long, field-passes}
use Rattle.read_bytes.proofs.Search.{true-false, and_both, and-true, and-false, or-false, up_to-within, up_to-found, up_to-passed, up_to-take, up_to-jump, smaller-within, smaller-end, smaller-here, smaller-later, all-up_to, all_of, not-all, rest_part}

-- NAMES
pub name-begins : (w : Name) → is_name w ≡ (begins_name (length w) w && all letter_or_digit w)
unfolding is_name begins_name
name-begins w = and_both (leb (length w) 12) (letter (get_or w 0 0)) (all letter_or_digit w)

name-fails : (w : Name) (k : ℕ) → k < length w → letter_or_digit (get_or w k 0) ≡ false → is_name w ≡ false
name-fails w k h e = name-begins w ∙ rw (not-all letter_or_digit w k h e) (and-false (begins_name (length w) w))

-- EXPRESSIONS

abbrev other : ℕ → Bool
other b = not (letter_or_digit b)

other-first : (w : Name) → up_to other w ≡ 0 → letter (get_or w 0 0) ≡ false
unfolding Text.opened Base.opened
other-first [] e = refl
other-first (b ∷ w) e =
    let t : other (get_or (b ∷ w) (up_to other (b ∷ w)) 0) ≡ true = up_to-found other (b ∷ w) (omega (arith, e)) in
    let f : other b ≡ true = ap (λ k. other (get_or (b ∷ w) k 0)) (sym e) ∙ t in
    (or-false (letter b) (digit b) (not-true (letter_or_digit b) f)).0

no-letter : letter 0 ≡ false
unfolding Text.opened Base.opened
no-letter = refl

begins-same : (w : Name) (d n : ℕ) → d ≡ up_to other w → d ≤ n → begins_name d (take n w) ≡ begins_name d w
unfolding begins_name
begins-same w zero zero e h = rw (other-first w (sym e)) no-letter
begins-same w d (suc n) e h = rw (get_or-take (suc n) w 0 0 (omega arith))
begins-same w (suc d) zero e h = absurd (omega arith)

-- the letters and digits that a field begins with are a name where they begin as one
pub name-up_to : (w : Name) (d : ℕ) → d ≡ up_to other w → is_name (take d w) ≡ begins_name d w
name-up_to w d e =
    let l : length (take d w) ≡ d = length-take-le d w (omega (arith, e, up_to-within other w)) in
    let a : all letter_or_digit (take d w) ≡ true = all_of letter_or_digit (take d w) (λ k m. let q : k < d = omega arith in rw (get_or-take d w k 0 q) (not-false (letter_or_digit (get_or w k 0)) (up_to-passed other w k (omega (arith, e))))) in
    name-begins (take d w) ∙ rw (a, l) (and-true (begins_name d (take d w)) ∙ begins-same w d d e (omega arith))

-- a full stop is no letter or digit
stop-other : (b : ℕ) → other b ≡ false → eqb b 46 ≡ false
unfolding Text.opened Base.opened
stop-other b e = ne_eqb b 46 (λ z. true-false (sym (ap other z) ∙ e))

-- a field of letters and digits has no full stop
module _ (w : Name) (a : all letter_or_digit w ≡ true) where
  no_stop : stop_in w ≡ length w
  unfolding stop_in
  no_stop = smaller-end other (λ b. eqb b 46) stop-other w (eqb-true _ _ (sym (all-up_to letter_or_digit w) ∙ a))

  whole-form : numeral w ≡ false → is_expr w ≡ begins_name (length w) w
  unfolding is_expr has_stop
  whole-form n = rw (n, no_stop, le-ltb (length w) (length w) (omega arith)) (name-begins w ∙ rw a (and-true (begins_name (length w) w)))

-- d: the place of the first byte that is no letter or digit
module _ (w : Name) (d : ℕ) (h : d < length w) (e : d ≡ 0 + up_to other w) where
  at-d : d ≡ up_to other w
  at-d = omega (arith, e)

  here : letter_or_digit (get_or w d 0) ≡ false
  here = let t : other (get_or w d 0) ≡ true = rw at-d (up_to-found other w (omega (arith, e))) in not-true (letter_or_digit (get_or w d 0)) t

  -- no full stop there: it is passed by, if there is one
  later : (get_or w d 0 ≡ 46 → ⊥) → d < stop_in w
  unfolding stop_in
  later s =
      let z : eqb (get_or w (up_to other w) 0) 46 ≡ false = rw (← at-d) (ne_eqb (get_or w d 0) 46 s) in
      omega (arith, at-d, smaller-later other (λ b. eqb b 46) stop-other w (omega (arith, at-d)) z)

  sign-form : numeral w ≡ false → (get_or w d 0 ≡ 46 → ⊥) → is_expr w ≡ false
  unfolding is_expr has_stop before_stop
  sign-form n s = rw n (go (ltb (stop_in w) (length w)) refl)
    where
      before : stop_in w ≤ length w → is_name (take (stop_in w) w) ≡ false
      before l =
          name-fails (take (stop_in w) w) d (rw (length-take-le (stop_in w) w l) (later s)) (rw (get_or-take (stop_in w) w d 0 (later s)) here)

      go : (q : Bool) → ltb (stop_in w) (length w) ≡ q → cond q (is_name (take (stop_in w) w) && is_name (after_stop w)) (is_name w) ≡ false
      go true z = rw (before (omega (arith, ltb-true (stop_in w) (length w) z)))
      go false z = rw (name-fails w d h here)

  -- a full stop there
  module _ (s : get_or w d 0 ≡ 46) where
    stop-here : stop_in w ≡ d
    unfolding stop_in
    stop-here =
        let z : eqb (get_or w (up_to other w) 0) 46 ≡ true = rw (← at-d) (eq-eqb (get_or w d 0) 46 s) in
        smaller-here other (λ b. eqb b 46) stop-other w (omega (arith, at-d)) z ∙ sym at-d

    path-form : numeral w ≡ false → is_expr w ≡ (begins_name d w && is_name (drop (suc d) w))
    unfolding is_expr has_stop before_stop after_stop
    path-form n = rw (n, stop-here, lt-ltb d (length w) h, name-up_to w d at-d)

-- a field that is known to be an expression: its first byte, its full stop and `null` tell which
module _ (w : Name) where
  pub numeral-number : is_expr w ≡ true → numeral w ≡ true → is_number w ≡ true
  unfolding is_expr
  numeral-number x h = rw h at x

  pub known-number : (n : ℕ) → numeral w ≡ true → n ≡ number w → num n ≡ expr_of w
  unfolding expr_of
  known-number n h e = rw (h, e)

  module _ (n : numeral w ≡ false) (d : ℕ) (e : d ≡ 0 + up_to (λ b. eqb b 46) w) where
    pub known-stop : d ≡ stop_in w
    unfolding stop_in
    known-stop = omega (arith, e)

    pub known-path : d < length w → path (take d w) (drop (suc d) w) ≡ expr_of w
    unfolding expr_of has_stop before_stop after_stop
    known-path h = rw (n, ← known-stop, lt-ltb d (length w) h)

    pub known-null : length w ≤ d → is "null" w ≡ true → null ≡ expr_of w
    unfolding expr_of has_stop
    known-null h z = rw (n, ← known-stop, le-ltb d (length w) h, z)

    pub known-var : length w ≤ d → is "null" w ≡ false → var w ≡ expr_of w
    unfolding expr_of has_stop
    known-var h z = rw (n, ← known-stop, le-ltb d (length w) h, z)

-- A NAME AS A FIELD OF A LINE

-- tab and LF are no letters or digits
end-other : (b : ℕ) → other b ≡ false → in_set FieldEnd b ≡ false
unfolding Text.opened Base.opened
end-other b e = rw (ne_eqb b 9 (λ z. true-false (sym (ap other z) ∙ e))) (ne_eqb b 10 (λ z. true-false (sym (ap other z) ∙ e)))

module _ (l : Name) where
  -- the first byte that is no letter or digit ends the field: it is the field's end
  pub ended-length : up_to other l < length l → in_set FieldEnd (get_or l (up_to other l) 0) ≡ true → field_length l ≡ up_to other l
  unfolding field_length
  ended-length h e = smaller-here other (in_set FieldEnd) end-other l h e

  pub rest-length : up_to other l ≡ length l → field_length l ≡ up_to other l
  unfolding field_length
  rest-length e = smaller-end other (in_set FieldEnd) end-other l e ∙ sym e

  pub ended-name : field_length l ≡ up_to other l → is_name (first_field l) ≡ begins_name (up_to other l) l
  unfolding first_field
  ended-name e = rw e (name-up_to l (up_to other l) refl)

  -- it does not: the field is no name
  pub not-ended : up_to other l < length l → in_set FieldEnd (get_or l (up_to other l) 0) ≡ false → is_name (first_field l) ≡ false
  unfolding first_field field_length
  not-ended h e =
      let m = smaller-later other (in_set FieldEnd) end-other l h e in
      let n = up_to-within (in_set FieldEnd) l in
      name-fails (take (up_to (in_set FieldEnd) l) l) (up_to other l) (rw (length-take-le (up_to (in_set FieldEnd) l) l n) m) (rw (get_or-take (up_to (in_set FieldEnd) l) l (up_to other l) 0 m) (not-true (letter_or_digit (get_or l (up_to other l) 0)) (up_to-found other l h)))

-- the same of the field that starts at a place: e is where its first byte that is no letter or digit stands
module _ (l : Name) (at e : ℕ) (h : at ≤ length l) (is : e ≡ at + up_to other (drop at l)) where
  byte-there : get_or l e 0 ≡ get_or (drop at l) (up_to other (drop at l)) 0
  byte-there = rw is (sym (get_or-drop at l (up_to other (drop at l)) 0))

  pub ended_at : ends_field l e ≡ true → field_length (drop at l) ≡ up_to other (drop at l)
  ended_at t =
      let n = length-drop at l in
      elim (dec_lt e (length l)) [
        | yes q ↦ (let f : in_set FieldEnd (get_or l e 0) ≡ true = rw (lt-leb (length l) e q) at t in ended-length (drop at l) (omega (arith, n, is)) (rw (← byte-there) f))
        | no q ↦ rest-length (drop at l) (omega (arith, n, is, up_to-within other (drop at l)))
      ]

  -- it is a name where it is short enough and begins with a letter
  short-at : begins_name (up_to other (drop at l)) (drop at l) ≡ (leb (e - at) 12 && letter (get_or l at 0))
  unfolding begins_name
  short-at =
      let z : e - at ≡ up_to other (drop at l) = omega (arith, is) in
      let f : get_or (drop at l) 0 0 ≡ get_or l at 0 = get_or-drop at l 0 0 ∙ ap (λ n. get_or l n 0) (add-zero at) in rw (z, f)

  name-at : ends_field l e ≡ true → is_name (first_field (drop at l)) ≡ (leb (e - at) 12 && letter (get_or l at 0))
  name-at t = ended-name (drop at l) (ended_at t) ∙ short-at

  pub no-name-at : ends_field l e ≡ false → is_name (first_field (drop at l)) ≡ false
  no-name-at t =
      let r = or-false (leb (length l) e) (in_set FieldEnd (get_or l e 0)) t in
      not-ended (drop at l) (omega (arith, length-drop at l, is, leb-false (length l) e r.0)) (rw (← byte-there) r.1)

  pub not-begun : (leb (e - at) 12 && letter (get_or l at 0)) ≡ false → is_name (first_field (drop at l)) ≡ false
  not-begun b = go (ends_field l e) refl
    where
      go : (q : Bool) → ends_field l e ≡ q → is_name (first_field (drop at l)) ≡ false
      go true t = name-at t ∙ b
      go false t = no-name-at t

  pub ends-name : ends_field l e ≡ true → e - at ≤ 12 → letter (get_or l at 0) ≡ true → Some e ≡ field_end is_name l at
  ends-name t n f = field-passes is_name l at e (name-at t ∙ rw (le-leb (e - at) 12 n, f)) (is ∙ ap (λ m. at + m) (sym (ended_at t)))

pub no-letter-at : (l : Name) (at : ℕ) → at ≤ length l → letter (get_or l at 0) ≡ false → is_name (first_field (drop at l)) ≡ false
no-letter-at l at h e = let s = at + up_to other (drop at l) in not-begun l at s h refl (rw e (and-false (leb (s - at) 12)))

-- AN EXPRESSION AS A FIELD OF A LINE

-- tab and LF do not begin a number
end-numeral : (b : ℕ) → in_set FieldEnd b ≡ true → (digit b || eqb b 45) ≡ false
unfolding Text.opened Base.opened
end-numeral b e = go (eqb b 9) (eqb b 10) refl refl e
  where
    go : (p q : Bool) → eqb b 9 ≡ p → eqb b 10 ≡ q → (p || q) ≡ true → (digit b || eqb b 45) ≡ false
    go true q d f z = ap (λ n. digit n || eqb n 45) (eqb-true b 9 d)
    go false true d f z = ap (λ n. digit n || eqb n 45) (eqb-true b 10 f)
    go false false d f z = true-false (sym z)

field-numeral : (t : Name) → numeral (first_field t) ≡ numeral t
unfolding numeral is_negative digit between
field-numeral t = field-first (λ b. digit b || eqb b 45) refl end-numeral t

pub number-field : (t : Name) → numeral t ≡ true → is_expr (first_field t) ≡ is_number (first_field t)
unfolding is_expr
number-field t n = rw (field-numeral t, n)

-- u: the place of the first byte that is no letter or digit
module _ (t : Name) (n : numeral t ≡ false) where
  abbrev u : ℕ
  u = up_to other t

  field_reaches : u ≤ field_length t
  unfolding field_length
  field_reaches = smaller-within other (in_set FieldEnd) end-other t

  field-other : u ≡ 0 + up_to other (first_field t)
  unfolding first_field
  field-other = omega (arith, up_to-take other t (field_length t) field_reaches)

  field-begins : begins_name u (first_field t) ≡ begins_name u t
  unfolding first_field
  field-begins = begins-same t u (field_length t) refl field_reaches

  field-there : u < field_length t → get_or (first_field t) u 0 ≡ get_or t u 0
  unfolding first_field
  field-there h = get_or-take (field_length t) t u 0 h

  field-no : numeral (first_field t) ≡ false
  field-no = field-numeral t ∙ n

  -- the field ends there
  whole-field : field_length t ≡ u → is_expr (first_field t) ≡ begins_name u t
  whole-field e =
      let k : length (first_field t) ≡ u = field-long t ∙ e in
      let a : all letter_or_digit (first_field t) ≡ true = all-up_to letter_or_digit (first_field t) ∙ eq-eqb (up_to other (first_field t)) (length (first_field t)) (omega (arith, field-other)) in
      whole-form (first_field t) a field-no ∙ rw k field-begins

  -- it does not, and has no full stop there, or one
  sign-field : u < field_length t → (get_or t u 0 ≡ 46 → ⊥) → is_expr (first_field t) ≡ false
  sign-field h s = sign-form (first_field t) u (omega (arith, field-long t)) field-other field-no (λ z. s (sym (field-there h) ∙ z))

  path-field : u < field_length t → get_or t u 0 ≡ 46 → is_expr (first_field t) ≡ (begins_name u t && is_name (drop (suc u) (first_field t)))
  path-field h s = path-form (first_field t) u (omega (arith, field-long t)) field-other (field-there h ∙ s) field-no ∙ rw field-begins

  begins-bad : begins_name u t ≡ false → is_expr (first_field t) ≡ false
  begins-bad b =
      elim (dec_lt u (field_length t)) [
        | yes h ↦ go h (eqb (get_or t u 0) 46) refl
        | no h ↦ whole-field (omega (arith, field_reaches)) ∙ b
      ]
    where
      go : u < field_length t → (q : Bool) → eqb (get_or t u 0) 46 ≡ q → is_expr (first_field t) ≡ false
      go h true e = path-field h (eqb-true _ _ e) ∙ rw b
      go h false e = sign-field h (eqb-false _ _ e)

  -- what follows a full stop is a field
  after-length : u < field_length t → field_length t ≡ suc u + field_length (drop (suc u) t)
  unfolding field_length
  after-length h = up_to-jump (in_set FieldEnd) t (suc u) h

  after-field : u < field_length t → drop (suc u) (first_field t) ≡ first_field (drop (suc u) t)
  unfolding first_field
  after-field h =
      let k : length (take (suc u) t) ≡ suc u = length-take-le (suc u) t (omega (arith, field-long t, length-take (field_length t) t)) in
      rw (after-length h, take-add (suc u) (field_length (drop (suc u) t)) t) (drop_at (take (suc u) t) _ (suc u) k)

-- the same of the field that starts at a place, where d is the place of the first byte that is no letter or digit
pub numeral-at : (l : Name) (at : ℕ) → numeral (drop at l) ≡ (digit (get_or l at 0) || eqb (get_or l at 0) 45)
unfolding numeral is_negative
numeral-at l at = let z : get_or (drop at l) 0 0 ≡ get_or l at 0 = get_or-drop at l 0 0 ∙ ap (λ k. get_or l k 0) (add-zero at) in rw z

module _ (l : Name) (at d : ℕ) (h : at ≤ length l) (is : d ≡ at + up_to other (drop at l)) (n : numeral (drop at l) ≡ false) where
  begins-at : begins_name (d - at) (take (length l - at) (drop at l)) ≡ begins_name (up_to other (drop at l)) (drop at l)
  begins-at = let z : d - at ≡ up_to other (drop at l) = omega (arith, is) in rw (z, rest_part l at)

  pub no-begin-at : begins_name (d - at) (take (length l - at) (drop at l)) ≡ false → is_expr (first_field (drop at l)) ≡ false
  no-begin-at b = begins-bad (drop at l) n (sym begins-at ∙ b)

  module _ (b : begins_name (d - at) (take (length l - at) (drop at l)) ≡ true) where
    pub whole-at : ends_field l d ≡ true → is_expr (first_field (drop at l)) ≡ true
    whole-at t = whole-field (drop at l) n (ended_at l at d h is t) ∙ (sym begins-at ∙ b)

    module _ (f : ends_field l d ≡ false) where
      goes_on : up_to other (drop at l) < field_length (drop at l)
      unfolding field_length
      goes_on =
          let r = or-false (leb (length l) d) (in_set FieldEnd (get_or l d 0)) f in
          smaller-later other (in_set FieldEnd) end-other (drop at l) (omega (arith, length-drop at l, is, leb-false (length l) d r.0)) (rw (← byte-there l at d h is) r.1)

      pub sign_at : (get_or l d 0 ≡ 46 → ⊥) → is_expr (first_field (drop at l)) ≡ false
      sign_at s = sign-field (drop at l) n goes_on (λ z. s (byte-there l at d h is ∙ z))

      -- e: the end of the field after the full stop
      module _ (s : get_or l d 0 ≡ 46) (e : ℕ) (ends : e ≡ d + 1 + up_to (in_set FieldEnd) (drop (d + 1) l)) where
        after-at : drop (suc (up_to other (drop at l))) (drop at l) ≡ drop (d + 1) l
        after-at = drop-drop (suc (up_to other (drop at l))) at l ∙ ap (λ k. drop k l) (let z : at + suc (up_to other (drop at l)) ≡ d + 1 = omega (arith, is) in z)

        pub path-at : is_expr (first_field (drop at l)) ≡ is_name (take (e - (d + 1)) (drop (d + 1) l))
        path-at =
            path-field (drop at l) n goes_on (sym (byte-there l at d h is) ∙ s)
            ∙ rw (sym begins-at ∙ b, after-field (drop at l) n goes_on, after-at) (field_cut is_name l (d + 1) e ends)

        pub path-ends : e ≡ at + field_length (drop at l)
        unfolding field_length
        path-ends = omega (arith, is, ends, after-length (drop at l) n goes_on, ap field_length after-at)
