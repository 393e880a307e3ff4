-- Laws of a field: where it ends, its first byte, and what a test of it says of its end.
use mathlib.Core.Path.{◌≡◌, refl, sym, ◌∙◌}
use mathlib.Core.Bool.{Bool, true, false, cond}
use mathlib.Core.List.{[], ◌∷◌}
use Prim.Native.Nat.{ℕ, suc, ◌+◌, ◌-◌, ◌<◌}
use native.Mathlib.Omega.{arith}
use lib.Dec.{leb}
use lib.ListN.{length, get_or, take, drop}
use lib.Seq.{length-take-le}
use borrow.Author.Tests.{leb-false}
use Rattle.rules.specs.Base.{Name}
use Rattle.rules.specs.Text.{up_to}
use Rattle.read_bytes.specs.declared.Set.TheVariants.{FieldEnd}
use Rattle.read_bytes.specs.Sets.{in_set}
use Rattle.std.proofs.Common.{Some, None}
use Rattle.read_bytes.specs.Fields.{field_length, first_field, ends_field, field_end}
use Rattle.read_bytes.proofs.Search.{or-false, up_to-within}

pub goes-beyond : (l : Name) (e : ℕ) → ends_field l e ≡ false → e < length l
goes-beyond l e f = leb-false (length l) e (or-false (leb (length l) e) (in_set FieldEnd (get_or l e 0)) f).0

-- the end of a field that passes a test, and the place of one that does not
module _ (p : Name → Bool) (l : Name) (at : ℕ) where
  pub field-passes : (r : ℕ) → p (first_field (drop at l)) ≡ true → r ≡ at + field_length (drop at l) → Some r ≡ field_end p l at
  field-passes r e z = rw (e, z)

  pub field-fails : p (first_field (drop at l)) ≡ false → None ≡ field_end p l at
  field-fails e = rw e

-- what is cut out up to a field's end is that field
pub field_cut : (p : Name → Bool) (l : Name) (at e : ℕ) → e ≡ at + up_to (in_set FieldEnd) (drop at l) → p (first_field (drop at l)) ≡ p (take (e - at) (drop at l))
unfolding first_field field_length
field_cut p l at e h = let z : e - at ≡ up_to (in_set FieldEnd) (drop at l) = omega (arith, h) in rw z

-- a test of a field's first byte is one of the text's, if neither an end nor nothing passes it
pub field-first :
    (p : ℕ → Bool) → p 0 ≡ false → ((b : ℕ) → in_set FieldEnd b ≡ true → p b ≡ false) → (t : Name) → p (get_or (first_field t) 0 0) ≡ p (get_or t 0 0)
unfolding first_field field_length up_to
field-first p z f [] = refl
field-first p z f (b ∷ t) = go (in_set FieldEnd b) refl
  where
    go : (q : Bool) → in_set FieldEnd b ≡ q → p (get_or (take (cond q 0 (suc (up_to (in_set FieldEnd) t))) (b ∷ t)) 0 0) ≡ p b
    go true e = z ∙ sym (f b e)
    go false e = refl

pub field-long : (t : Name) → length (first_field t) ≡ field_length t
unfolding first_field field_length
field-long t = length-take-le (field_length t) t (up_to-within (in_set FieldEnd) t)

-- what an end, or none, says of the field
module _ (p : Name → Bool) (l : Name) (at : ℕ) where
  pub unfit : None ≡ field_end p l at → p (first_field (drop at l)) ≡ false
  unfit = go (p (first_field (drop at l)))
    where
      go : (q : Bool) → None ≡ cond q (Some (at + field_length (drop at l))) None → q ≡ false
      go true e = absurd (let z : ◌≡◌ {A = ℕ} 0 1 = cc in omega arith)
      go false e = refl

  pub fit : (r : ℕ) → Some r ≡ field_end p l at → (p (first_field (drop at l)) ≡ true) × (r ≡ at + field_length (drop at l))
  fit r = go (p (first_field (drop at l)))
    where
      go : (q : Bool) → Some r ≡ cond q (Some (at + field_length (drop at l))) None → (q ≡ true) × (r ≡ at + field_length (drop at l))
      go true e = (refl, cc)
      go false e = absurd (let z : ◌≡◌ {A = ℕ} 0 1 = cc in omega arith)
