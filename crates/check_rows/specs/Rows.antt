-- What a statement's row gives, by its operands.
use Rattle.std.specs.Prelude.{◌≡◌, List, ℕ, ◌-◌}
use Rattle.std.proofs.Math.Option.{some}
use Rattle.rules.specs.Grammar.{Statement, statement_number}
use Rattle.rules.specs.Answers.{Refusal}
use Rattle.rules.specs.Base.{Try}
use Rattle.rules.specs.Syntax.{Rel, Simple, simple, set, assign, compute, new, call, open_chain, shut_chain}
use Rattle.rules.specs.State as Rules
use Rattle.rules.specs.Rules.{End, opposite, rule, if_rule}
use Rattle.tables.specs.Decode.{kind_at, x_at, y_at, z_at, member_at, first_atom_at, atom_count_at, stmt_at, program_in, atom_place, byte_at, rel_of, operation_of, left_at, right_at}
use Rattle.check_state.specs.States.{state_of}
use Rattle.check_entailment.specs.Answers.{Answer, Adds}
use Rattle.check_statements.specs.Statements.{loop_known}

-- the row is of this kind
abbrev pub RowIs : List ℕ → ℕ → Statement → Type 0
RowIs w i s = kind_at w i ≡ statement_number s

-- the statement of a row, by its operands
abbrev pub set_at : List ℕ → ℕ → Simple
set_at w i = set (x_at w i) (member_at w i) (y_at w i)

abbrev pub let_at : List ℕ → ℕ → Simple
let_at w i = assign (x_at w i) (right_at w (first_atom_at w i))

abbrev pub new_at : List ℕ → ℕ → Simple
new_at w i = new (x_at w i) (member_at w i)

abbrev pub call_at : List ℕ → ℕ → Simple
call_at w i = call (x_at w i) (y_at w i) (member_at w i) (z_at w i)

abbrev pub compute_at : List ℕ → ℕ → Simple
compute_at w i = compute (operation_of (kind_at w i)) (x_at w i) (y_at w i) (z_at w i)

-- of `open y x f` x has y, and y has x
abbrev pub open_at : List ℕ → ℕ → Simple
open_at w i = open_chain (x_at w i) (y_at w i) (member_at w i)

abbrev pub shut_at : List ℕ → ℕ → Simple
shut_at w i = shut_chain (x_at w i) (member_at w i)

-- its rule, from the state that key and b hold
abbrev pub RuleGives : List ℕ → Simple → List ℕ → List ℕ → Answer → List ℕ → List ℕ → Type 0
RuleGives w s key b answer key' b' = Adds (rule (program_in w) s (state_of key b)) answer key' b'

-- the two states after an `if`, whose condition is its first atom
abbrev pub branches : List ℕ → ℕ → Rules.State → Try Refusal (Rules.State × Rules.State)
branches w i s =
    if_rule (rel_of (byte_at w (atom_place (first_atom_at w i)))) (left_at w (first_atom_at w i)) (right_at w (first_atom_at w i)) s

-- the condition of a `loop` is the atom before its invariant
abbrev pub condition_at : List ℕ → ℕ → ℕ
condition_at w i = first_atom_at w i - 1

abbrev pub relation_at : List ℕ → ℕ → Rel
relation_at w i = rel_of (byte_at w (atom_place (condition_at w i)))

-- the state in which the body of the loop at row i starts
abbrev pub body_starts : List ℕ → ℕ → Rules.State → Try Refusal Rules.State
body_starts w i s = loop_known w (first_atom_at w i) (atom_count_at w i) (relation_at w i) (some s)

-- the state after this loop
abbrev pub loop_leaves : List ℕ → ℕ → End → Try Refusal Rules.State
loop_leaves w i e = loop_known w (first_atom_at w i) (atom_count_at w i) (opposite (relation_at w i)) e

-- a statement that goes on to the next line
pub record Stepped (w : List ℕ) (i : ℕ) (s : Rules.State) (answer : Answer) (key b : List ℕ) : Type 0 where
  pub statement : Simple
  pub is : stmt_at w i ≡ simple statement
  pub adds : Adds (rule (program_in w) statement s) answer key b
