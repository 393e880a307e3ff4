-- The rows of the grammar as numbers: kinds, operands, tails and stages.
use Rattle.std.specs.Prelude.{Bool, true, false, cond, ◌&&◌, List, [], ◌∷◌, ℕ, ◌+◌, ◌*◌, eqb, get_or, take, drop, length}
use Rattle.std.proofs.Math.Option.{Option, none, some}
use Rattle.rules.specs.Base.{Name, bind_option, with_default}
use Rattle.rules.specs.Limits.{most_atoms}
use Rattle.rules.specs.Text.{is_name, is_expr, is_formula, is_condition}
use Rattle.rules.specs.Grammar.{Kind, Operand, Tail, Form, statement, End, form, kind_of, is_formed}
use Rattle.rules.specs.Grammar.{new, type_name, class_name, variable, member, expression}
use Rattle.rules.specs.Grammar.{classes, fields, methods, variables, read, assigned, field, method, nothing, condition, formula, both}
use Rattle.rules.specs.Places.{stage_number}
use Rattle.read_words.specs.Words.{kind_at}
use Rattle.read_grammar.specs.declared.Row.{Row}

-- the kind with a number; `end` where there is none
unfoldable pub kind_numbered : ℕ → Kind
kind_numbered n = with_default (statement End) (kind_at n)

-- Operands are numbered from 1 on, an expression last.
abbrev pub last_operand : ℕ
last_operand = 11

unfoldable pub operand_number : Operand → ℕ
operand_number (new classes) = 1
operand_number (new fields) = 2
operand_number (new methods) = 3
operand_number (new variables) = 4
operand_number type_name = 5
operand_number class_name = 6
operand_number (variable read) = 7
operand_number (variable assigned) = 8
operand_number (member field) = 9
operand_number (member method) = 10
operand_number expression = last_operand

abbrev pub operand_base : ℕ
operand_base = 16

-- to this base, the first operand lowest
unfoldable pub operands_number : List Operand → ℕ
operands_number [] = 0
operands_number (o ∷ os) = operand_number o + operand_base * operands_number os

unfoldable pub tail_number : Tail → ℕ
tail_number nothing = 0
tail_number condition = 1
tail_number formula = 2
tail_number both = 3

unfoldable pub row_of : Form → Row
row_of f =
    record {
      operands = operands_number f.operands;
      tail = tail_number f.tail;
      first = stage_number f.first;
      last = stage_number f.last;
      next = stage_number f.next;
    }

-- a row as one number: its operands are 16 bits, the rest are 4 bits each
unfoldable pub row_number : Row → ℕ
row_number r = r.operands + 65536 * (r.tail + 16 * (r.first + 16 * (r.last + 16 * r.next)))

-- a field that stands for the operand with this number, and a line's end for the tail with this number
unfoldable pub fits_operand : ℕ → Name → Bool
fits_operand n w = cond (eqb n last_operand) (is_expr w) (is_name w)

unfoldable pub fits_tail : ℕ → List Name → Bool
fits_tail n ws =
    cond (eqb n 0) (eqb (length ws) 0)
    (cond (eqb n 1) (is_condition ws)
    (cond (eqb n 2) (is_formula most_atoms ws)
    (is_condition (take 3 ws) && is_formula most_atoms (drop 3 ws))))

-- a, if the test passes
abbrev pub when_true : {A : Type 0} → Bool → A → Option A
when_true true a = some a
when_true false a = none

-- the kind of a line with these fields, if they have its form
unfoldable pub formed_kind : List Name → Option Kind
formed_kind ws = bind_option (kind_of (get_or ws 0 [])) (λ k. when_true (is_formed (form k).operands (form k).tail (drop 1 ws)) k)

-- Everything above computes where this unfolds.
unfoldable pub opened : Unit {0}
unfolding kind_numbered operand_number operands_number tail_number row_of row_number fits_operand fits_tail formed_kind
opened = tt
