-- Laws of the grammar's rows: numbers stand for what the rules say of kinds, operands and tails.
use mathlib.Core.Path.{◌≡◌, refl, sym, ap, ◌∙◌}
use mathlib.Core.Bool.{Bool, true, false, ◌&&◌}
use mathlib.Core.List.{List, [], ◌∷◌}
use mathlib.Core.Option.{Option, none, some}
use Prim.Native.Nat.{ℕ, ◌/◌, ◌%◌, ◌≤◌}
use native.Mathlib.Omega.{arith}
use lib.Dec.{T, eqb, leb, eqb→eq}
use Rattle.rules.specs.Base.{Name, bind_option, with_default, all}
use Rattle.rules.specs.Grammar as Grammar
use Rattle.rules.specs.Grammar.{Kind, Operand, Tail, statement, End, form, first_statement, last_kind, IsKindNumber, kind_of, kind_number, is_statement, is_kind}
use Rattle.rules.specs.Grammar.{is_operand, is_tail, is_formed}
use Rattle.rules.specs.Grammar.{new, type_name, class_name, variable, member, expression, nothing, condition, formula, both}
use Rattle.rules.specs.Grammar.{classes, fields, methods, variables, read, assigned, field, method}
use Rattle.rules.specs.Places.{stage_number}
use Rattle.rules.proofs.Lists.{and_both}
use Rattle.rules.proofs.LineKinds.{every-kind, kind-bounds, same_kind, statement-is, kind-is as is-by-number}
use Rattle.read_words.specs.Words.{kind_at, kind_or0}
use Rattle.read_words.proofs.Words.{kind-number}
use Rattle.read_grammar.specs.declared.Row.{Row}
use Rattle.read_grammar.specs.Rows as Rows
use Rattle.read_grammar.specs.Rows.{when_true, kind_numbered, last_operand, operand_number, tail_number, row_of, row_number}
use Rattle.read_grammar.specs.Rows.{fits_operand, fits_tail, formed_kind}

-- KINDS
pub number-of-kind : (n : ℕ) → IsKindNumber n → kind_number (kind_numbered n) ≡ n
unfolding kind_numbered with_default
number-of-kind n h = go (kind_at n) (kind-number n h.1)
  where
    go : (o : Option Kind) → kind_or0 o ≡ n → kind_number (with_default (statement End) o) ≡ n
    go none e = absurd (omega arith)
    go (some k) e = e

pub kind-of-number : (k : Kind) → kind_numbered (kind_number k) ≡ k
kind-of-number k = same_kind _ k (number-of-kind (kind_number k) (kind-bounds k))

module _ (n : ℕ) (h : IsKindNumber n) where
  -- tests of a kind, by its number
  pub kind-numbered : (a : Kind) → is_kind a (kind_numbered n) ≡ eqb (kind_number a) n
  kind-numbered a = is-by-number a (kind_numbered n) ∙ ap (eqb (kind_number a)) (number-of-kind n h)

  pub statement-numbered : is_statement (kind_numbered n) ≡ leb first_statement n
  statement-numbered = statement-is (kind_numbered n) ∙ ap (leb first_statement) (number-of-kind n h)

-- ROWS
abbrev pub unpacked : ℕ → Row
unpacked n =
    record {
      operands = n % 65536;
      tail = n / 65536 % 16;
      first = n / 1048576 % 16;
      last = n / 16777216 % 16;
      next = n / 268435456;
    }

same_row : Row → Row → Bool
same_row a b =
    eqb a.operands b.operands
    && (eqb a.tail b.tail && (eqb a.first b.first && (eqb a.last b.last && eqb a.next b.next)))

row_same : (a b : Row) → T (same_row a b) → a ≡ b
unfolding same_row
row_same a b h =
    let (o, h₁) = and_both (eqb a.operands b.operands) _ h in
    let (t, h₂) = and_both (eqb a.tail b.tail) _ h₁ in
    let (f, h₃) = and_both (eqb a.first b.first) _ h₂ in
    let (l, n) = and_both (eqb a.last b.last) (eqb a.next b.next) h₃ in
    λ i.
    record {
      operands = eqb→eq a.operands b.operands o i;
      tail = eqb→eq a.tail b.tail t i;
      first = eqb→eq a.first b.first f i;
      last = eqb→eq a.last b.last l i;
      next = eqb→eq a.next b.next n i;
    }

pub row_back : (k : Kind) → unpacked (row_number (row_of (form k))) ≡ row_of (form k)
unfolding Rows.opened Grammar.opened all stage_number same_row
row_back k = row_same _ _ (every-kind (λ k. same_row (unpacked (row_number (row_of (form k)))) (row_of (form k))) tt k)

-- OPERANDS
pub operand-bounds : (o : Operand) → (1 ≤ operand_number o) × (operand_number o ≤ last_operand)
unfolding operand_number
operand-bounds (new classes) = omega arith
operand-bounds (new fields) = omega arith
operand-bounds (new methods) = omega arith
operand-bounds (new variables) = omega arith
operand-bounds type_name = omega arith
operand-bounds class_name = omega arith
operand-bounds (variable read) = omega arith
operand-bounds (variable assigned) = omega arith
operand-bounds (member field) = omega arith
operand-bounds (member method) = omega arith
operand-bounds expression = omega arith

pub operand-is : (o : Operand) (w : Name) → is_operand o w ≡ fits_operand (operand_number o) w
unfolding is_operand fits_operand operand_number
operand-is (new classes) w = refl
operand-is (new fields) w = refl
operand-is (new methods) w = refl
operand-is (new variables) w = refl
operand-is type_name w = refl
operand-is class_name w = refl
operand-is (variable read) w = refl
operand-is (variable assigned) w = refl
operand-is (member field) w = refl
operand-is (member method) w = refl
operand-is expression w = refl

pub tail-is : (t : Tail) (ws : List Name) → is_tail t ws ≡ fits_tail (tail_number t) ws
unfolding is_tail fits_tail tail_number
tail-is nothing ws = refl
tail-is condition ws = refl
tail-is formula ws = refl
tail-is both ws = refl

-- THE KIND OF A LINE
pub kind-known : (o : Option Kind) (n : ℕ) → n ≡ kind_or0 o → (n ≡ 0 → ⊥) → (k : Kind) × (o ≡ some k) × (n ≡ kind_number k)
kind-known none n e z = absurd (z e)
kind-known (some k) n e z = (k, refl, e)

known-bounds : (o : Option Kind) (n : ℕ) → n ≡ kind_or0 o → (n ≡ 0 → ⊥) → IsKindNumber n
known-bounds o n e z = let (k, f, h) = kind-known o n e z in let b = kind-bounds k in omega (arith, h, b)

pub most-kind : (o : Option Kind) (n : ℕ) → n ≡ kind_or0 o → n ≤ last_kind
most-kind none n e = omega (arith, e)
most-kind (some k) n e = omega (arith, e, kind-bounds k)

pub kind-none : (o : Option Kind) → kind_or0 o ≡ 0 → o ≡ none
kind-none none e = refl
kind-none (some k) e = absurd (let b = kind-bounds k in omega (arith, e, b))

-- a line by its fields: the word w, whose number is n, and the others
module _ (w : Name) (vs ws : List Name) (c : ws ≡ w ∷ vs) (n : ℕ) (e : n ≡ kind_or0 (kind_of w)) where
  pub no_kind : n ≡ 0 → kind_or0 (formed_kind ws) ≡ 0
  unfolding formed_kind bind_option
  no_kind z = rw (c, kind-none (kind_of w) (sym e ∙ z))

  module _ (z : n ≡ 0 → ⊥) where
    pub word-bounds : IsKindNumber n
    word-bounds = known-bounds (kind_of w) n e z

    kind-is :
        (b : Bool) → is_formed (form (kind_numbered n)).operands (form (kind_numbered n)).tail vs ≡ b →
        formed_kind ws ≡ when_true b (kind_numbered n)
    unfolding formed_kind bind_option
    kind-is b f =
        let (k, g, h) = kind-known (kind_of w) n e z in
        let m : kind_numbered n ≡ k = ap kind_numbered h ∙ kind-of-number k in
        rw (c, g, ← m, f)

    pub formed : is_formed (form (kind_numbered n)).operands (form (kind_numbered n)).tail vs ≡ true → kind_or0 (formed_kind ws) ≡ n
    formed f = rw (kind-is true f) (number-of-kind n word-bounds)

    pub unformed : is_formed (form (kind_numbered n)).operands (form (kind_numbered n)).tail vs ≡ false → kind_or0 (formed_kind ws) ≡ 0
    unformed f = rw (kind-is false f)
