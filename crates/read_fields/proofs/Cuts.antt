-- Laws of lines and fields at places of a text: what a search for a line's or a field's end has found.
use mathlib.Core.Path.{◌≡◌, refl, sym, ap, ◌∙◌}
use mathlib.Core.Bool.{Bool, true, false, not, cond, ◌&&◌}
use mathlib.Core.List.{List, [], ◌∷◌}
use Prim.Native.Nat.{ℕ, zero, suc, ◌+◌, ◌-◌, ◌≤◌, ◌<◌}
use native.Mathlib.Omega.{arith}
use native.Mathlib.Numerals.{add-one}
use native.Mathlib.Decide.{dec_lt}
use lib.Dec.{eqb}
use lib.ListN.{length, get_or, drop, take, drop_of_length-le, length-drop, get_or-eq_default}
use lib.Seq.{drop-cons, drop-drop, get_or-drop}
use borrow.Author.Tests.{eqb-true, eqb-false, ne_eqb, not-true, not-false}
use Rattle.rules.specs.Base.{Name, all}
use Rattle.rules.specs.Text.{lines, onto, fields, clean, allowed, up_to}
use Rattle.read_bytes.specs.Sets.{in_set, FirstInSet}
use Rattle.read_bytes.specs.declared.Set.TheVariants.{LineEnd, FieldEnd}
use Rattle.read_bytes.proofs.Search.{and-false, or-false}
use Rattle.read_fields.specs.Cuts.{part, first_line, more, CleanLine, BadLine}

-- A SEARCH
module _ (p : ℕ → Bool) (b : ℕ) (t : List ℕ) where
  up_to-zero : up_to p (b ∷ t) ≡ 0 → p b ≡ true
  unfolding up_to
  up_to-zero e = go (p b) e
    where
      go : (q : Bool) → cond q 0 (suc (up_to p t)) ≡ 0 → q ≡ true
      go true e = refl
      go false e = absurd (omega arith)

  up_to-suc : (n : ℕ) → up_to p (b ∷ t) ≡ suc n → (p b ≡ false) × (up_to p t ≡ n)
  unfolding up_to
  up_to-suc n e = go (p b) e
    where
      go : (q : Bool) → cond q 0 (suc (up_to p t)) ≡ suc n → (q ≡ false) × (up_to p t ≡ n)
      go true e = absurd (omega arith)
      go false e = (refl, omega arith)

pub byte-in : (t : List ℕ) (i b : ℕ) → 0 < b → get_or t i 0 ≡ b → i < length t
byte-in t i b h e = elim (dec_lt i (length t)) [ yes q ↦ q | no q ↦ absurd (omega (arith, get_or-eq_default t 0 {n = i} (omega arith))) ]

-- LINES
clean-one : (b : ℕ) → eqb b 10 ≡ false → clean (b ∷ []) ≡ false
unfolding clean
clean-one b e = rw (e, and-false _)

clean-cons : (b c : ℕ) (l : Name) → clean (b ∷ c ∷ l) ≡ (allowed b && clean (c ∷ l))
unfolding clean all
clean-cons b c l =
    let m : suc (suc (length l)) - 1 ≡ suc (length l) = omega arith in
    let n : suc (length l) - 1 ≡ length l = omega arith in
    rw (m, n) (go (allowed b) _ _)
  where
    go : (x y z : Bool) → ((x && y) && z) ≡ (x && (y && z))
    go true y z = refl
    go false y z = refl

-- the first line, where its LF is at n
record First (t : List ℕ) (n : ℕ) : Type 0 where
  cut : lines t ≡ take (suc n) t ∷ lines (drop (suc n) t)
  whole : clean (take (suc n) t) ≡ true
  parts : fields (take (suc n) t) ≡ fields t

goes_on : (b : ℕ) → in_set LineEnd b ≡ false → (eqb b 10 ≡ false) × (allowed b ≡ true)
goes_on b e = let q = or-false (eqb b 10) (not (allowed b)) e in (q.0, not-false _ q.1)

clean-first : (t : List ℕ) (n : ℕ) → up_to (in_set LineEnd) t ≡ n → n < length t → get_or t n 0 ≡ 10 → First t n
unfolding lines clean fields all allowed onto
clean-first [] n e h g = absurd (omega arith)
clean-first (b ∷ t) zero e h g = rw g (record { cut = refl; whole = refl; parts = refl })
clean-first (b ∷ []) (suc n) e h g = absurd (omega arith)
clean-first (b ∷ c ∷ t) (suc n) e h g =
    let q = up_to-suc (in_set LineEnd) b (c ∷ t) n e in
    let o = goes_on b q.0 in
    let i = clean-first (c ∷ t) n q.1 (omega arith) g in
    record {
      cut = rw (o.0, i.cut);
      whole = clean-cons b c (take n t) ∙ rw o.1 i.whole;
      parts = rw (o.0, i.parts);
    }

record Bad (ws : List Name) : Type 0 where
  line : Name
  rest : List Name
  cut : ws ≡ line ∷ rest
  bad : clean line ≡ false

-- a byte that is not allowed stays in the line whatever stands after it
bad-onto : (b : ℕ) (ws : List Name) → allowed b ≡ false → Bad (onto b ws)
unfolding onto clean all
bad-onto b [] e = record { line = b ∷ []; rest = []; cut = refl; bad = rw e }
bad-onto b (w ∷ ws) e = record { line = b ∷ w; rest = ws; cut = refl; bad = rw e }

longer-bad : (b : ℕ) (l : Name) → eqb b 10 ≡ false → clean l ≡ false → clean (b ∷ l) ≡ false
longer-bad b [] e c = clean-one b e
longer-bad b (a ∷ l) e c = clean-cons b a l ∙ rw (c, and-false _)

bad-first : (t : List ℕ) (n : ℕ) → up_to (in_set LineEnd) t ≡ n → 0 < length t → (get_or t n 0 ≡ 10 → ⊥) → BadLine t
unfolding lines onto
bad-first [] n e h g = absurd (omega arith)
bad-first (b ∷ t) zero e h g =
    let o = ne_eqb b 10 g in
    let x = bad-onto b (lines t) (not-true _ (rw o at (up_to-zero (in_set LineEnd) b t e))) in
    record { line = x.line; rest = x.rest; cut = rw o x.cut; bad = x.bad }
bad-first (b ∷ []) (suc n) e h g =
    let o = goes_on b (up_to-suc (in_set LineEnd) b [] n e).0 in
    record { line = b ∷ []; rest = []; cut = rw o.0; bad = clean-one b o.0 }
bad-first (b ∷ c ∷ t) (suc n) e h g =
    let q = up_to-suc (in_set LineEnd) b (c ∷ t) n e in
    let o = goes_on b q.0 in
    let x = bad-first (c ∷ t) n q.1 (omega arith) g in
    record { line = b ∷ x.line; rest = x.rest; cut = rw (o.0, x.cut); bad = longer-bad b x.line o.0 x.bad }

-- LINES AT PLACES
module _ (t : List ℕ) (a e : ℕ) (f : FirstInSet t a LineEnd e) where
  -- how far the line's end is from its beginning, and the byte there
  far : up_to (in_set LineEnd) (drop a t) ≡ e - a
  far = omega (arith, f.is)

  there : get_or (drop a t) (e - a) 0 ≡ get_or t e 0
  there = let z : a + (e - a) ≡ e = omega (arith, f.low) in get_or-drop a t (e - a) 0 ∙ rw z

  pub clean_line : get_or t e 0 ≡ 10 → CleanLine t a e
  clean_line g =
      let h = byte-in t e 10 (omega arith) g in
      let x = clean-first (drop a t) (e - a) far (omega (arith, length-drop a t, f.low)) (there ∙ g) in
      let m : suc (e - a) ≡ e + 1 - a = omega (arith, f.low) in
      let n : a + (e + 1 - a) ≡ e + 1 = omega (arith, f.low) in
      record {
        low = f.low;
        high = h;
        feed = g;
        cut = rw (m, drop-drop (e + 1 - a) a t, n) at x.cut;
        clean = rw m at x.whole;
        fields = rw m at x.parts;
      }

  pub bad-line : a < length t → (get_or t e 0 ≡ 10 → ⊥) → BadLine (drop a t)
  bad-line h g = bad-first (drop a t) (e - a) far (omega (arith, length-drop a t)) (λ z. g (sym there ∙ z))

pub first-clean : (t : List ℕ) (a e : ℕ) → CleanLine t a e → first_line (drop a t) ≡ part a (e + 1) t
unfolding first_line
first-clean t a e x = rw x.cut

pub first-bad : (t : List ℕ) → (x : BadLine t) → first_line t ≡ x.line
unfolding first_line
first-bad t x = rw x.cut

pub no_lines : (t : List ℕ) (a : ℕ) → length t ≤ a → lines (drop a t) ≡ []
unfolding lines
no_lines t a h = rw (drop_of_length-le t {i = a} h)

-- FIELDS
field-case :
    (b : ℕ) (t : List ℕ) (n : ℕ) (p q : Bool) → eqb b 9 ≡ p → eqb b 10 ≡ q → up_to (in_set FieldEnd) t ≡ n →
    fields t ≡ take n t ∷ more (drop n t) →
    fields (b ∷ t) ≡ take (up_to (in_set FieldEnd) (b ∷ t)) (b ∷ t) ∷ more (drop (up_to (in_set FieldEnd) (b ∷ t)) (b ∷ t))
unfolding fields more up_to onto
field-case b t n true q e f u i = rw (eqb-true b 9 e)
field-case b t n false true e f u i = rw (eqb-true b 10 f)
field-case b t n false false e f u i = rw (e, f, u, i)

-- the first field, and those after it
pub fields_first : (t : List ℕ) → fields t ≡ take (up_to (in_set FieldEnd) t) t ∷ more (drop (up_to (in_set FieldEnd) t) t)
unfolding fields more up_to
fields_first [] = refl
fields_first (b ∷ t) = field-case b t (up_to (in_set FieldEnd) t) (eqb b 9) (eqb b 10) refl refl refl (fields_first t)

some-field : (t : List ℕ) → eqb (length (fields t)) 0 ≡ false
some-field t = ne_eqb (length (fields t)) 0 (λ e. omega (arith, ap length (fields_first t)))

pub fields-from : (t : List ℕ) (a e : ℕ) → FirstInSet t a FieldEnd e → fields (drop a t) ≡ part a e t ∷ more (drop e t)
fields-from t a e f =
    let n : up_to (in_set FieldEnd) (drop a t) ≡ e - a = omega (arith, f.is) in
    let m : a + (e - a) ≡ e = omega (arith, f.low) in
    rw (n, drop-drop (e - a) a t, m) at (fields_first (drop a t))

-- FIELDS AFTER A FIELD
pub no_more : (t : List ℕ) (r : ℕ) → (get_or t r 0 ≡ 9 → ⊥) → more (drop r t) ≡ []
unfolding more
no_more t r n = elim (dec_lt r (length t)) [
  | yes h ↦ rw (drop-cons t r 0 h, ne_eqb (get_or t r 0) 9 n)
  | no h ↦ rw (drop_of_length-le t {i = r} (omega arith))
]

pub some_more : (t : List ℕ) (r : ℕ) → get_or t r 0 ≡ 9 → more (drop r t) ≡ fields (drop (r + 1) t)
unfolding more
some_more t r g = let h = byte-in t r 9 (omega arith) g in rw (drop-cons t r 0 h, g, ← add-one)

-- a tab shows that there is one
pub more-tab : (t : List ℕ) (r : ℕ) → eqb (length (more (drop r t))) 0 ≡ not (eqb (get_or t r 0) 9)
more-tab t r = go (eqb (get_or t r 0) 9) refl
  where
    go : (q : Bool) → eqb (get_or t r 0) 9 ≡ q → eqb (length (more (drop r t))) 0 ≡ not q
    go true e = rw (some_more t r (eqb-true _ _ e)) (some-field (drop (r + 1) t))
    go false e = rw (no_more t r (eqb-false _ _ e))
