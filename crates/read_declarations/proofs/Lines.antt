-- Laws of a line's fields: the names that its form asks for, and their places.
use mathlib.Core.Path.{◌≡◌, sym, ap, ◌∙◌}
use mathlib.Core.Bool.{Bool, true, false, ◌&&◌}
use mathlib.Core.List.{List, [], ◌∷◌}
use Prim.Native.Nat.{ℕ, ◌+◌, ◌≤◌}
use native.Mathlib.Omega.{arith}
use lib.Dec.{eqb}
use lib.ListN.{length, get_or, drop, take, length-drop}
use lib.Seq.{get_or-drop, length-take-le}
use borrow.Author.Tests.{leb-true}
use Rattle.rules.specs.Base.{Name}
use Rattle.rules.specs.Limits.{most_bytes}
use Rattle.rules.specs.Text.{is_name}
use Rattle.rules.specs.Grammar as Grammar
use Rattle.rules.specs.Grammar.{Class, Field, Method, form, is_formed}
use Rattle.read_bytes.proofs.Search.{both_true, true-false}
use Rattle.read_fields.specs.Cuts.{more}
use Rattle.read_names.specs.declared.Span.{Span}
use Rattle.read_names.specs.Rows.{name_in, SpanFits}
use Rattle.read_declarations.specs.Texts.{SpanAfter}

-- a name's place fits its row
pub span_fits :
    (t : List ℕ) (s : Span) → length t ≤ most_bytes → s.start + s.len ≤ length t → is_name (name_in t s) ≡ true → SpanFits s
unfolding is_name
span_fits t s l h n =
    let b : length (name_in t s) ≤ 12 = leb-true _ _ (both_true _ _ n).0 in
    let m : length (take s.len (drop s.start t)) ≡ s.len =
    length-take-le s.len (drop s.start t) (omega (arith, length-drop s.start t)) in
    record { start = omega arith; len = omega (arith, b, m) }

-- FIELDS ONE AFTER THE OTHER
module _ {t : List ℕ} {r : ℕ} {a b : Span} (x : SpanAfter t r a) (y : SpanAfter t (a.start + a.len) b) where
  pub second : name_in t b ≡ get_or (more (drop r t)) 1 []
  second = y.name ∙ (ap (λ ws. get_or ws 0 []) x.rest ∙ get_or-drop 1 (more (drop r t)) 0 [])

  pub third : {c : Span} → SpanAfter t (b.start + b.len) c → name_in t c ≡ get_or (more (drop r t)) 2 []
  third z =
      z.name
      ∙ (ap (λ ws. get_or ws 0 []) (y.rest ∙ ap (drop 1) x.rest)
      ∙ (get_or-drop 1 (drop 1 (more (drop r t))) 0 [] ∙ get_or-drop 1 (more (drop r t)) 1 []))

  -- the field after the third
  pub fourth : {c : Span} → SpanAfter t (b.start + b.len) c → get_or (more (drop (c.start + c.len) t)) 0 [] ≡ get_or (more (drop r t)) 3 []
  fourth z =
      ap (λ ws. get_or ws 0 []) (z.rest ∙ ap (drop 1) (y.rest ∙ ap (drop 1) x.rest))
      ∙ (get_or-drop 1 (drop 1 (drop 1 (more (drop r t)))) 0 []
      ∙ (get_or-drop 1 (drop 1 (more (drop r t))) 1 [] ∙ get_or-drop 1 (more (drop r t)) 2 []))

-- FORM
abbrev Formed : Grammar.Kind → List Name → Type 0
Formed k ws = is_formed (form k).operands (form k).tail ws ≡ true

abbrev Named : List Name → ℕ → Type 0
Named ws i = is_name (get_or ws i []) ≡ true

pub class-names : (ws : List Name) → Formed Class ws → Named ws 0
unfolding Grammar.opened
class-names [] e = true-false (sym e)
class-names (u ∷ ws) e = (both_true _ _ e).0

pub field-names : (ws : List Name) → Formed Field ws → Named ws 0 × Named ws 1
unfolding Grammar.opened
field-names [] e = true-false (sym e)
field-names (u ∷ []) e = true-false (sym (both_true (is_name u) false e).1)
field-names (u ∷ v ∷ ws) e =
    let f = both_true (is_name u) (is_name v && eqb (length ws) 0) e in
    (f.0, (both_true (is_name v) (eqb (length ws) 0) f.1).0)

pub method-names : (ws : List Name) → Formed Method ws → Named ws 0 × Named ws 1 × Named ws 2
unfolding Grammar.opened
method-names [] e = true-false (sym e)
method-names (u ∷ []) e = true-false (sym (both_true (is_name u) false e).1)
method-names (u ∷ v ∷ []) e =
    let f = both_true (is_name u) (is_name v && false) e in
    true-false (sym (both_true (is_name v) false f.1).1)
method-names (u ∷ v ∷ x ∷ ws) e =
    let r : Bool = is_formed (Grammar.new Grammar.variables ∷ []) Grammar.nothing ws in
    let f = both_true (is_name u) (is_name v && (is_name x && r)) e in
    let g = both_true (is_name v) (is_name x && r) f.1 in
    (f.0, g.0, (both_true (is_name x) r g.1).0)
