-- Fields read one after the other: what is read, and where it ends.
use Rattle.std.specs.Prelude.{◌≡◌, Option, Some, None, Bool, true, false, not, ◌&&◌, List, [], ◌∷◌, ℕ, suc, ◌+◌, ◌≤◌, ◌<◌, eqb, leb, length, get_or, drop}
use Rattle.rules.specs.Base.{Name, all, eq_name, between}
use Rattle.rules.specs.Text.{tab, is_rel, is_formula}
use Rattle.rules.specs.Grammar.{Operand, form, is_operand, is_formed}
use Rattle.read_bytes.specs.Sets.{in_set, FirstInSet}
use Rattle.read_bytes.specs.declared.Set.TheVariants.{LineEnd, FieldEnd}
use Rattle.read_words.specs.Words.{packed}
use Rattle.read_fields.specs.Cuts.{part, more}
use Rattle.read_grammar.specs.Rows.{kind_numbered, operands_number}
use Rattle.read_fields.specs.declared.Head.{Head}

-- A field ends at e: a tab, LF or the text's end is there.
abbrev pub EndsField : List ℕ → ℕ → Type 0
EndsField t e = e < length t → in_set FieldEnd (get_or t e 0) ≡ true

-- The bytes from r up to e are allowed and no LF; a field ends at e if one ends at r.
pub record Span (t : List ℕ) (r e : ℕ) : Type 0 where
  pub low : r ≤ e
  pub high : e ≤ length t
  pub inside : (i : ℕ) → r ≤ i → i < e → in_set LineEnd (get_or t i 0) ≡ false
  pub ends : EndsField t r → EndsField t e

-- ONE FIELD

-- is there a first field, and does it pass a test?
abbrev pub first_fits : (Name → Bool) → List Name → Bool
first_fits p [] = false
first_fits p (w ∷ ws) = p w

-- A tab stands at r, and the field after it ends at e and passes the test p.
pub record FieldFits (p : Name → Bool) (t : List ℕ) (r e : ℕ) : Type 0 where
  pub tab : get_or t r 0 ≡ tab
  pub end : FirstInSet t (r + 1) FieldEnd e
  pub fits : p (part (r + 1) e t) ≡ true

-- After a field that ends at r, the next passes the test p and ends at e; or there is none that does.
abbrev pub NextFit : (Name → Bool) → List ℕ → ℕ → Option ℕ → Type 0
NextFit p t r (Some e) = FieldFits p t r e
NextFit p t r None = first_fits p (more (drop r t)) ≡ false

-- OPERANDS

-- the fields are these operands, and those after them pass a test
unfoldable pub operands_then : List Operand → (List Name → Bool) → List Name → Bool
operands_then [] k ws = k ws
operands_then (o ∷ os) k [] = false
operands_then (o ∷ os) k (w ∷ ws) = let r : Bool = operands_then os k ws in is_operand o w && r

-- The operands after r end at a place, and the fields after it decide; or they are not there.
abbrev pub OperandsRead : List Operand → List ℕ → ℕ → Option ℕ → Type 0
OperandsRead os t r (Some e) = Span t r e × ((k : List Name → Bool) → operands_then os k (more (drop r t)) ≡ k (more (drop e t)))
OperandsRead os t r None = (k : List Name → Bool) → operands_then os k (more (drop r t)) ≡ false

-- The same of the operands with a number.
abbrev pub OperandsEnd : ℕ → List ℕ → ℕ → Option ℕ → Type 0
OperandsEnd n t r f = (os : List Operand) → n ≡ operands_number os → OperandsRead os t r f

-- ATOMS

-- Whether a word, told by its number and its length, is spelled from a on.
abbrev pub Spells : List ℕ → ℕ → ℕ → ℕ → Bool → Type 0
Spells t a n m r =
    (s : Name) → all (between 1 255) s ≡ true → n ≡ packed 0 s → m ≡ length s → r ≡ (leb (a + m) (length t) && eq_name s (part a (a + m) t))

-- An atom's word follows the tab at r; the operands after it, and what follows them, decide.
pub record HeadIs (t : List ℕ) (r : ℕ) (h : Head) (os : List Operand) : Type 0 where
  pub number : h.operands ≡ operands_number os
  pub high : h.end ≤ length t
  pub later : r < h.end
  pub span : get_or t h.end 0 ≡ tab → Span t r h.end
  pub is : (n : ℕ) → is_formula (suc n) (more (drop r t)) ≡ operands_then os (is_formula n) (more (drop h.end t))

-- how the atom begins whose word follows the tab at r, if there is one; it has operands
abbrev pub AtomHead : List ℕ → ℕ → Option Head → Type 0
AtomHead t r (Some h) = (h.operands ≡ 0 → ⊥) × ((os : List Operand) × HeadIs t r h os)
AtomHead t r None = (n : ℕ) → is_formula (suc n) (more (drop r t)) ≡ false

-- After the tab at r, an atom ends at e; or there is none.
abbrev pub AtomEnd : List ℕ → ℕ → Option ℕ → Type 0
AtomEnd t r (Some e) = Span t r e × ((n : ℕ) → is_formula (suc n) (more (drop r t)) ≡ is_formula n (more (drop e t)))
AtomEnd t r None = (n : ℕ) → is_formula (suc n) (more (drop r t)) ≡ false

-- a condition and then atoms, at most n in all
unfoldable pub condition_first : ℕ → List Name → Bool
condition_first n ws = is_rel (get_or ws 0 []) && is_formula n ws

-- ALL FIELDS OF A LINE

-- The fields after r pass a test, and the last ends at a place that has no tab; or they do not pass.
abbrev pub FieldsRead : (List Name → Bool) → List ℕ → ℕ → Option ℕ → Type 0
FieldsRead q t r (Some e) = Span t r e × (q (more (drop r t)) ≡ true) × (get_or t e 0 ≡ tab → ⊥)
FieldsRead q t r None = q (more (drop r t)) ≡ false

-- these fields are those of a line of the kind with this number; 0 is no kind's
unfoldable pub formed_as : ℕ → List Name → Bool
formed_as k ws = not (eqb k 0) && is_formed (form (kind_numbered k)).operands (form (kind_numbered k)).tail ws
