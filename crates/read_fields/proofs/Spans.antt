-- Laws of fields read one after the other.
use mathlib.Core.Path.{◌≡◌, refl, sym, ap, ◌∙◌}
use mathlib.Core.Bool.{Bool, true, false, cond, ◌&&◌}
use mathlib.Core.List.{List, [], ◌∷◌}
use Prim.Native.Nat.{ℕ, ◌+◌, ◌-◌, ◌/◌, ◌%◌, ◌≤◌}
use native.Mathlib.Omega.{arith}
use native.Mathlib.Decide.{dec_lt}
use lib.Dec.{eqb}
use lib.ListN.{length, get_or, drop, length-drop}
use lib.Seq.{get_or-drop, get_or-take, length-take-le}
use borrow.Author.Tests.{eq-eqb, ne_eqb, not-true}
use Rattle.rules.specs.Base.{Name, all}
use Rattle.rules.specs.Text.{up_to, allowed, is_name, is_expr}
use Rattle.rules.specs.Grammar.{Operand, Tail, form, is_operand, is_tail, is_formed}
use Rattle.read_bytes.specs.Sets.{in_set, FirstInSet}
use Rattle.read_bytes.specs.Fields.{first_field, field_length, field_end}
use Rattle.read_bytes.specs.declared.Set.TheVariants.{LineEnd, FieldEnd}
use Rattle.read_bytes.proofs.Search.{all-at, up_to-found, up_to-is, up_to-within}
use Rattle.read_bytes.proofs.Fields.{unfit, fit, field_cut}
use Rattle.read_fields.specs.Cuts.{part, more}
use Rattle.read_grammar.specs.Rows.{kind_numbered, operand_number, operands_number, tail_number, fits_operand, fits_tail}
use Rattle.read_fields.specs.Spans.{EndsField, Span, first_fits, FieldFits, NextFit, operands_then, OperandsRead, FieldsRead, formed_as}
use Rattle.std.proofs.Common.{Option, Some, None}
use Rattle.read_fields.proofs.Cuts.{byte-in, fields_first, fields-from, no_more, some_more, more-tab}
use Rattle.read_grammar.proofs.Rows.{operand-bounds, operand-is, tail-is}
use Rattle.read_fields.proofs.Clean.{in_line, name-clean, expr-clean}

-- SPANS
pub span_none : {t : List ℕ} {r : ℕ} → r ≤ length t → Span t r r
span_none h = record { low = omega arith; high = h; inside = λ i a b. absurd (omega arith); ends = λ x. x }

pub span-on : {t : List ℕ} {r m e : ℕ} → Span t r m → Span t m e → Span t r e
span-on {t} {r} {m} {e} x y =
    record {
      low = omega (arith, x.low, y.low);
      high = y.high;
      inside = λ i a b. elim (dec_lt i m) [ yes h ↦ x.inside i a h | no h ↦ y.inside i (omega arith) b ];
      ends = λ z. y.ends (x.ends z);
    }

-- what ends a field is found there
pub field-ends : {t : List ℕ} {a e : ℕ} → FirstInSet t a FieldEnd e → EndsField t e
field-ends {t} {a} {e} f h =
    let n : up_to (in_set FieldEnd) (drop a t) ≡ e - a = omega (arith, f.is) in
    let z : a + (e - a) ≡ e = omega (arith, f.low) in
    let k = up_to-found (in_set FieldEnd) (drop a t) (omega (arith, n, length-drop a t, f.low)) in
    rw (n, get_or-drop a t (e - a) 0, z) at k

pub field-span : {t : List ℕ} {a e : ℕ} → FirstInSet t a FieldEnd e → all in_line (part a e t) ≡ true → Span t a e
field-span {t} {a} {e} f c =
    record {
      low = f.low;
      high = f.high;
      inside = λ i l h.
          let n : length (part a e t) ≡ e - a = length-take-le (e - a) (drop a t) (omega (arith, length-drop a t, f.high)) in
          let z : a + (i - a) ≡ i = omega arith in
          let k = all-at in_line (part a e t) (i - a) c (omega (arith, n)) in
          let b : get_or (part a e t) (i - a) 0 ≡ get_or t i 0 = get_or-take (e - a) (drop a t) (i - a) 0 (omega arith) ∙ (get_or-drop a t (i - a) 0 ∙ rw z) in
          not-true _ (ap in_line (sym b) ∙ k);
      ends = λ x. field-ends f;
    }

-- a line ends there, if no tab follows
pub line-found : {t : List ℕ} {a e : ℕ} → Span t a e → EndsField t e → (get_or t e 0 ≡ 9 → ⊥) → FirstInSet t a LineEnd e
line-found {t} {a} {e} x f n =
    let m = length-drop a t in
    let z : a + (e - a) ≡ e = omega (arith, x.low) in
    let d = up_to-is (in_set LineEnd) (drop a t) (e - a) (omega (arith, x.high))
    (λ k h. ap (in_set LineEnd) (get_or-drop a t k 0) ∙ x.inside (a + k) (omega arith) (omega arith))
    (λ h. ap (in_set LineEnd) (get_or-drop a t (e - a) 0) ∙ rw z (feed (f (omega (arith, x.low))))) in
    record { low = x.low; high = x.high; is = omega (arith, d, x.low) }
  where
    feed : in_set FieldEnd (get_or t e 0) ≡ true → in_set LineEnd (get_or t e 0) ≡ true
    feed h = let g : eqb (get_or t e 0) 10 ≡ true = rw (ne_eqb _ 9 n) at h in rw g

-- ONE FIELD
module _ {p : Name → Bool} {t : List ℕ} {r e : ℕ} (x : FieldFits p t r e) where
  pub more-fits : more (drop r t) ≡ part (r + 1) e t ∷ more (drop e t)
  more-fits = some_more t r x.tab ∙ fields-from t (r + 1) e x.end

  pub fits-span : ((w : Name) → p w ≡ true → all in_line w ≡ true) → Span t r e
  unfolding allowed
  fits-span c =
      let s = field-span x.end (c _ x.fits) in
      record {
        low = omega (arith, s.low);
        high = s.high;
        inside = λ i a b. elim (dec_lt r i) [
          | yes h ↦ s.inside i (omega arith) b
          | no h ↦ (let z : r ≡ i = omega arith in ap (λ j. in_set LineEnd (get_or t j 0)) (sym z) ∙ rw x.tab)
        ];
        ends = λ y. field-ends x.end;
      }

module _ (p : Name → Bool) (t : List ℕ) (r : ℕ) where
  pub no-tab : (get_or t r 0 ≡ 9 → ⊥) → NextFit p t r None
  no-tab n = rw (no_more t r n)

  module _ (g : get_or t r 0 ≡ 9) where
    found : (n : ℕ) → n ≡ r + 1 + field_length (drop (r + 1) t) → FirstInSet t (r + 1) FieldEnd n
    unfolding field_length
    found n i =
        let h = byte-in t r 9 (omega arith) g in
        record { low = omega (arith, i); high = omega (arith, i, up_to-within (in_set FieldEnd) (drop (r + 1) t), length-drop (r + 1) t); is = i }

    -- the field after the tab, by its end
    pub next-by : (f : Option ℕ) → f ≡ field_end p t (r + 1) → NextFit p t r f
    unfolding first_field field_length
    next-by (Some e) z =
        let (q, i) = fit p t (r + 1) e z in
        let d = found e i in
        record { tab = g; end = d; fits = sym (field_cut p t (r + 1) e d.is) ∙ q }
    next-by None z = rw (some_more t r g, fields_first (drop (r + 1) t)) (unfit p t (r + 1) z)

-- a test that says the same
next-as : (p q : Name → Bool) (t : List ℕ) (r : ℕ) → ((w : Name) → q w ≡ p w) → (f : Option ℕ) → NextFit p t r f → NextFit q t r f
next-as p q t r k (Some e) x = record { tab = x.tab; end = x.end; fits = k _ ∙ x.fits }
next-as p q t r k None x = same (more (drop r t)) ∙ x
  where
    same : (ws : List Name) → first_fits q ws ≡ first_fits p ws
    same [] = refl
    same (w ∷ ws) = k w

-- OPERANDS
module _ (t : List ℕ) (r n : ℕ) (g : get_or t r 0 ≡ 9) (f : Option ℕ) where
  pub operand-expr : n ≡ 11 → f ≡ field_end is_expr t (r + 1) → NextFit (fits_operand n) t r f
  unfolding fits_operand
  operand-expr h z = next-as is_expr (fits_operand n) t r (λ w. rw (eq-eqb n 11 h)) f (next-by is_expr t r g f z)

  pub operand-name : (n ≡ 11 → ⊥) → f ≡ field_end is_name t (r + 1) → NextFit (fits_operand n) t r f
  unfolding fits_operand
  operand-name h z = next-as is_name (fits_operand n) t r (λ w. rw (ne_eqb n 11 h)) f (next-by is_name t r g f z)

operand-clean : (n : ℕ) (w : Name) → fits_operand n w ≡ true → all in_line w ≡ true
unfolding fits_operand
operand-clean n w e = go (eqb n 11) e
  where
    go : (q : Bool) → cond q (is_expr w) (is_name w) ≡ true → all in_line w ≡ true
    go true i = expr-clean w i
    go false i = name-clean w i

-- at the cursor r, operands with the number n are left of the operands os
pub record Walk (os : List Operand) (t : List ℕ) (from n r : ℕ) : Type 0 where
  pub left : List Operand
  pub number : n ≡ operands_number left
  pub span : Span t from r
  pub is : (k : List Name → Bool) → operands_then os k (more (drop from t)) ≡ operands_then left k (more (drop r t))

module _ {os : List Operand} {t : List ℕ} {from n r : ℕ} (x : Walk os t from n r) where
  pub walk-done : n ≡ 0 → OperandsRead os t from (Some r)
  unfolding operands_then operands_number
  walk-done e = (x.span, λ k. x.is k ∙ go x.left x.number k)
    where
      go : (ls : List Operand) → n ≡ operands_number ls → (k : List Name → Bool) → operands_then ls k (more (drop r t)) ≡ k (more (drop r t))
      go [] h k = refl
      go (o ∷ ls) h k = absurd (omega (arith, operand-bounds o))

  module _ (l : n ≡ 0 → ⊥) where
    pub walk-bad : first_fits (fits_operand (n % 16)) (more (drop r t)) ≡ false → OperandsRead os t from None
    unfolding operands_then operands_number
    walk-bad f k = x.is k ∙ go x.left x.number (more (drop r t)) f
      where
        go : (ls : List Operand) → n ≡ operands_number ls → (ws : List Name) → first_fits (fits_operand (n % 16)) ws ≡ false → operands_then ls k ws ≡ false
        go [] h ws i = absurd (l h)
        go (o ∷ ls) h [] i = refl
        go (o ∷ ls) h (w ∷ ws) i =
            let j : operand_number o ≡ n % 16 = omega (arith, operand-bounds o) in
            rw (operand-is o w, j, i)

    pub walk-on : {e : ℕ} → FieldFits (fits_operand (n % 16)) t r e → Walk os t from (n / 16) e
    unfolding operands_then operands_number
    walk-on {e} f = go x.left x.number x.is
      where
        go :
            (ls : List Operand) → n ≡ operands_number ls →
            ((k : List Name → Bool) → operands_then os k (more (drop from t)) ≡ operands_then ls k (more (drop r t))) → Walk os t from (n / 16) e
        go [] h i = absurd (l h)
        go (o ∷ ls) h i =
            let j : operand_number o ≡ n % 16 = omega (arith, operand-bounds o) in
            record {
              left = ls;
              number = omega (arith, operand-bounds o);
              span = span-on x.span (fits-span f (operand-clean (n % 16)));
              is = λ k. i k ∙ rw (more-fits f, operand-is o (part (r + 1) e t), j, f.fits);
            }

-- ALL FIELDS

-- tests that say the same of the fields after r
pub read_as :
    (p q : List Name → Bool) (t : List ℕ) (r : ℕ) (f : Option ℕ) → q (more (drop r t)) ≡ p (more (drop r t)) → FieldsRead p t r f → FieldsRead q t r f
read_as p q t r (Some e) h x = (x.0, h ∙ x.1, x.2)
read_as p q t r None h x = h ∙ x

-- fields after r, at which those after `from` arrive
pub read-on :
    (p q : List Name → Bool) (t : List ℕ) (from r : ℕ) (f : Option ℕ) → Span t from r → q (more (drop from t)) ≡ p (more (drop r t)) → FieldsRead p t r f →
    FieldsRead q t from f
read-on p q t from r (Some e) s h x = (span-on s x.0, h ∙ x.1, x.2)
read-on p q t from r None s h x = h ∙ x

module _ (t : List ℕ) (r : ℕ) where
  pub none_read : r ≤ length t → (get_or t r 0 ≡ 9 → ⊥) → FieldsRead (λ ws. eqb (length ws) 0) t r (Some r)
  none_read h n = (span_none h, rw (no_more t r n), n)

  pub some_read : get_or t r 0 ≡ 9 → FieldsRead (λ ws. eqb (length ws) 0) t r None
  some_read g = more-tab t r ∙ rw (eq-eqb _ 9 g)

formed-then : (os : List Operand) (l : Tail) (ws : List Name) → is_formed os l ws ≡ operands_then os (is_tail l) ws
unfolding is_formed operands_then
formed-then [] l ws = refl
formed-then (o ∷ os) l [] = refl
formed-then (o ∷ os) l (w ∷ ws) = ap (is_operand o w &&◌) (formed-then os l ws)

pub formed-as : (k : ℕ) (ws : List Name) → (k ≡ 0 → ⊥) → formed_as k ws ≡ is_formed (form (kind_numbered k)).operands (form (kind_numbered k)).tail ws
unfolding formed_as
formed-as k ws n = rw (ne_eqb k 0 n)

pub formed-none : (k : ℕ) (ws : List Name) → k ≡ 0 → formed_as k ws ≡ false
unfolding formed_as
formed-none k ws e = rw e

-- the operands of a line's kind, and then its tail
module _ (k : ℕ) (n : k ≡ 0 → ⊥) (t : List ℕ) (r : ℕ) where
  formed-by : formed_as k (more (drop r t)) ≡ operands_then (form (kind_numbered k)).operands (is_tail (form (kind_numbered k)).tail) (more (drop r t))
  formed-by = formed-as k _ n ∙ formed-then (form (kind_numbered k)).operands (form (kind_numbered k)).tail (more (drop r t))

  pub fields-none : OperandsRead (form (kind_numbered k)).operands t r None → FieldsRead (formed_as k) t r None
  fields-none x = formed-by ∙ x (is_tail (form (kind_numbered k)).tail)

  module _ (m : ℕ) (x : OperandsRead (form (kind_numbered k)).operands t r (Some m)) (l : ℕ) (e : l ≡ tail_number (form (kind_numbered k)).tail) where
    then : formed_as k (more (drop r t)) ≡ fits_tail l (more (drop m t))
    then = formed-by ∙ (x.1 (is_tail (form (kind_numbered k)).tail) ∙ (tail-is (form (kind_numbered k)).tail _ ∙ rw e))

    pub fields-upto : (f : Option ℕ) → FieldsRead (fits_tail l) t m f → FieldsRead (formed_as k) t r f
    fields-upto f = read-on (fits_tail l) (formed_as k) t r m f x.0 then
