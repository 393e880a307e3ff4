-- Laws of a number as a field of a line: its sign, at most ten digits, and the field's end after them.
use mathlib.Core.Path.{◌≡◌, refl, sym, ap, ◌∙◌}
use mathlib.Core.Bool.{Bool, true, false, cond, ◌&&◌}
use mathlib.Core.List.{[], ◌∷◌}
use Prim.Native.Nat.{ℕ, ◌+◌, ◌-◌, ◌≤◌, ◌<◌}
use native.Mathlib.Omega.{arith}
use native.Mathlib.Decide.{dec_lt}
use native.Mathlib.Nat.{add-zero}
use lib.Dec.{eqb, leb}
use lib.ListN.{length, get_or, take, drop, length-drop, length-take, take-append-drop}
use lib.Seq.{get_or-take, get_or-drop, drop-drop}
use borrow.Author.Tests.{eqb-true, lt-leb, ne_eqb, not-true}
use Rattle.rules.specs.Base as Base
use Rattle.rules.specs.Base.{Name}
use Rattle.rules.specs.Text as Text
use Rattle.rules.specs.Text.{digit, up_to, is_digits, minuses, unsigned, is_number, decimal}
use Rattle.read_bytes.specs.declared.Set.TheVariants.{FieldEnd}
use Rattle.read_bytes.specs.Sets.{in_set, no_digit}
use Rattle.read_bytes.specs.Fields.{field_length, first_field, ends_field}
use Rattle.read_numbers.specs.Numbers.{digits_in, TenDigits, led, in_range}
use Rattle.read_bytes.proofs.Search.{true-false, and-true, and-false, both_true, or-false, up_to-within, up_to-found, up_to-more, up_to-next, up_to-ends, smaller-within, not-all}
use Rattle.read_numbers.proofs.Numbers.{minuses-few, digits-form, more-digits, begin-led}
use Rattle.read_bytes.proofs.Fields.{field-first, field-long, goes-beyond}

-- ITS SIGN

-- a field with a sign has one byte more than that of its digits
signed-field :
    (t : Name) →
    (field_length t ≡ minuses (get_or t 0 0) + field_length (drop (minuses (get_or t 0 0)) t))
    × (drop (minuses (get_or t 0 0)) (first_field t) ≡ first_field (drop (minuses (get_or t 0 0)) t))
unfolding first_field field_length up_to minuses
signed-field t = go (eqb (get_or t 0 0) 45) t refl
  where
    go :
        (q : Bool) (t : Name) → eqb (get_or t 0 0) 45 ≡ q →
        (field_length t ≡ cond q 1 0 + field_length (drop (cond q 1 0) t)) × (drop (cond q 1 0) (first_field t) ≡ first_field (drop (cond q 1 0) t))
    go false t e = (omega arith, refl)
    go true [] e = true-false (sym e)
    go true (b ∷ t) e =
        let z : in_set FieldEnd b ≡ false = ap (in_set FieldEnd) (eqb-true b 45 e) in
        (rw z (omega arith), rw z)

end-no-sign : (b : ℕ) → in_set FieldEnd b ≡ true → eqb b 45 ≡ false
end-no-sign b e = ne_eqb b 45 (λ z. true-false (sym e ∙ ap (in_set FieldEnd) z))

field-sign : (t : Name) → minuses (get_or (first_field t) 0 0) ≡ minuses (get_or t 0 0)
unfolding minuses
field-sign t = ap (λ q. cond q 1 0) (field-first (λ b. eqb b 45) refl end-no-sign t)

-- m signs, and from: where its digits start
module _ (l : Name) (at m from : ℕ) (e : m ≡ minuses (get_or l at 0)) (s : from ≡ at + m) where
  sign-there : minuses (get_or (drop at l) 0 0) ≡ m
  sign-there = ap minuses (get_or-drop at l 0 0 ∙ ap (λ k. get_or l k 0) (add-zero at)) ∙ sym e

  after-sign : drop m (drop at l) ≡ drop from l
  after-sign = drop-drop m at l ∙ ap (λ k. drop k l) (sym s)

  field-after : (field_length (drop at l) ≡ m + field_length (drop from l)) × (drop m (first_field (drop at l)) ≡ first_field (drop from l))
  field-after = rw (sign-there, after-sign) at (signed-field (drop at l))

  number_digits : is_number (first_field (drop at l)) ≡ (is_digits (first_field (drop from l)) && in_range m (decimal 0 (first_field (drop from l))))
  unfolding is_number unsigned in_range
  number_digits = rw (field-sign (drop at l), sign-there, field-after.1)

  same_end : at + field_length (drop at l) ≡ from + field_length (drop from l)
  same_end = omega (arith, s, field-after.0)

-- ITS DIGITS

end-no-digit : (b : ℕ) → no_digit b ≡ false → in_set FieldEnd b ≡ false
unfolding Text.opened Base.opened
end-no-digit b e = rw (ne_eqb b 9 (λ z. true-false (sym (ap no_digit z) ∙ e))) (ne_eqb b 10 (λ z. true-false (sym (ap no_digit z) ∙ e)))

module _ (t : Name) where
  digits-reach : digits_in t ≤ field_length t
  unfolding digits_in field_length
  digits-reach =
      let m = up_to-more no_digit (take 10 t) (drop 10 t) in
      omega (arith, m, ap (up_to no_digit) (take-append-drop 10 t), smaller-within no_digit (in_set FieldEnd) end-no-digit t)

  -- the field ends after them
  digits-end : (r : ℕ) → field_length t ≡ digits_in t → (is_digits (first_field t) && in_range r (decimal 0 (first_field t))) ≡ (led (digits_in t) (get_or t 0 0) && in_range r (decimal 0 (take (digits_in t) t)))
  unfolding first_field
  digits-end r e = rw (e, begin-led t (digits_in t) (omega arith))

  no-digit : digits_in t < 10 → digits_in t < field_length t → digit (get_or (first_field t) (digits_in t) 0) ≡ false
  unfolding digits_in first_field
  no-digit m h =
      let f : no_digit (get_or (take 10 t) (digits_in t) 0) ≡ true = up_to-found no_digit (take 10 t) (omega (arith, length-take 10 t, field-long t, length-take (field_length t) t)) in
      rw (get_or-take (field_length t) t (digits_in t) 0 h) (not-true _ (rw (get_or-take 10 t (digits_in t) 0 m) at f))

  -- it does not: a byte that is no digit follows, or an eleventh
  digits-go-on : (r : ℕ) → r ≤ 1 → digits_in t < field_length t → (is_digits (first_field t) && in_range r (decimal 0 (first_field t))) ≡ false
  digits-go-on r f h =
      elim (dec_lt (digits_in t) 10) [
        | yes m ↦ rw (digits-form (first_field t), not-all digit (first_field t) (digits_in t) (rw (field-long t) h) (no-digit m h), and-false (led (length (first_field t)) (get_or (first_field t) 0 0)))
        | no m ↦ more-digits (first_field t) r f (omega (arith, field-long t))
      ]

-- THE FIELD AT A PLACE

-- m: how many signs it has; from, end: where its digits start and end; value: what they write
module _ (l : Name) (at m from value end : ℕ) (h : from ≤ length l) (e : m ≡ minuses (get_or l at 0)) (s : from ≡ at + m) (d : TenDigits l from value end) where
  abbrev t : Name
  t = drop from l

  abbrev k : ℕ
  k = digits_in t

  pub digits-within : end ≤ length l
  unfolding digits_in
  digits-within = omega (arith, d.end_is, up_to-within no_digit (take 10 t), length-take 10 t, length-drop from l)

  end-byte : get_or t k 0 ≡ get_or l end 0
  end-byte = get_or-drop from l k 0 ∙ ap (λ n. get_or l n 0) (sym d.end_is)

  ends_there : ends_field l end ≡ true → field_length t ≡ k
  unfolding field_length
  ends_there z =
      up_to-ends (in_set FieldEnd) t k (digits-reach t) (λ g. rw end-byte (rw (lt-leb (length l) end (omega (arith, d.end_is, length-drop from l))) at z))

  goes-on-there : ends_field l end ≡ false → k < field_length t
  unfolding field_length
  goes-on-there z =
      up_to-next (in_set FieldEnd) t k (digits-reach t) (omega (arith, d.end_is, length-drop from l, goes-beyond l end z)) (rw end-byte (or-false (leb (length l) end) (in_set FieldEnd (get_or l end 0)) z).1)

  number-ends : ends_field l end ≡ true → is_number (first_field (drop at l)) ≡ (led (end - from) (get_or l from 0) && in_range m value)
  number-ends z =
      let n : end - from ≡ k = omega (arith, d.end_is) in
      let b : get_or t 0 0 ≡ get_or l from 0 = get_or-drop from l 0 0 ∙ ap (λ i. get_or l i 0) (add-zero from) in
      number_digits l at m from e s ∙ (digits-end t m (ends_there z) ∙ rw (n, b, d.value_is))

  number-goes-on : ends_field l end ≡ false → is_number (first_field (drop at l)) ≡ false
  number-goes-on z = number_digits l at m from e s ∙ digits-go-on t m (omega (arith, e, minuses-few (get_or l at 0))) (goes-on-there z)

  ends_at : ends_field l end ≡ true → end ≡ at + field_length (drop at l)
  ends_at z = omega (arith, d.end_is, same_end l at m from e s, ends_there z)

  -- the three tests that `is_written` makes
  pub written : (led (end - from) (get_or l from 0) && (in_range m value && ends_field l end)) ≡ is_number (first_field (drop at l))
  written = go (ends_field l end) refl
    where
      go : (q : Bool) → ends_field l end ≡ q → (led (end - from) (get_or l from 0) && (in_range m value && q)) ≡ is_number (first_field (drop at l))
      go true z = rw (and-true (in_range m value)) (sym (number-ends z))
      go false z = rw (and-false (in_range m value), and-false (led (end - from) (get_or l from 0))) (sym (number-goes-on z))

  pub written-end : (led (end - from) (get_or l from 0) && (in_range m value && ends_field l end)) ≡ true → end ≡ at + field_length (drop at l)
  written-end z =
      let r = both_true (led (end - from) (get_or l from 0)) (in_range m value && ends_field l end) z in
      ends_at (both_true (in_range m value) (ends_field l end) r.1).1
