-- The twenty-four kinds of line: word, operands, and where each may stand. A kind of line is a row of this table.
use Rattle.std.specs.Prelude.{◌≡◌, Bool, true, false, cond, ◌&&◌, ◌||◌, List, [], ◌∷◌, map, ℕ, ◌≤◌, eqb, leb, length, take, drop, get_or}
use Rattle.std.specs.Bool.{beq}
use Rattle.std.proofs.Math.Option.{Option}
use Prim.Native.String.{String}
use Rattle.rules.specs.Base.{Name, Try, ok, ◌>>=◌, ◌>>◌, check, or_else, first, is}
use Rattle.rules.specs.Limits.{most_atoms}
use Rattle.rules.specs.Answers.{Refusal, bad_byte, malformed}
use Rattle.rules.specs.Text as Text
use Rattle.rules.specs.Text.{clean, is_name, is_expr, is_formula, is_condition}

-- the lines of a block after its `var` lines
pub data Statement : Type 0 where
  Set Let New Call Return Assert Release If Else Join End Add Sub Loop Again Open Shut : Statement

pub data Kind : Type 0 where
  Class Field Method Requires Ensures Main Var : Kind
  statement : Statement → Kind

-- what a new name is declared among
pub data Space : Type 0 where
  classes fields methods variables : Space

pub data Use : Type 0 where
  read assigned : Use

pub data Member : Type 0 where
  field method : Member

-- What a field of a line is. A member is one of the class of the variable in the field before it.
pub data Operand : Type 0 where
  new : Space → Operand
  type_name : Operand
  class_name : Operand
  variable : Use → Operand
  member : Member → Operand
  expression : Operand

-- what follows the operands: no more fields, one `eq` or `ne`, the atoms of a formula, or the one and then the other
pub data Tail : Type 0 where
  nothing condition formula both : Tail

-- where in a text a line may stand
pub data Stage : Type 0 where
  beginning in_class after_method after_header after_requires in_locals in_body after_return after_main : Stage

-- from the stage `first` to the stage `last`; after the line the text is at stage `next`
pub record Form : Type 0 where
  pub word : String
  pub operands : List Operand
  pub tail : Tail
  pub first : Stage
  pub last : Stage
  pub next : Stage

unfoldable pub stands : Stage → Stage → Stage → String → List Operand → Tail → Form
stands a z n w os t = record { word = w; operands = os; tail = t; first = a; last = z; next = n }

-- a statement by its word and the fields after it
pub record Shape : Type 0 where
  pub word : String
  pub operands : List Operand
  pub tail : Tail

unfoldable pub shaped : String → List Operand → Tail → Shape
shaped w os t = record { word = w; operands = os; tail = t }

-- "Statements: `set x f y`, `let x e`, `new x C`, `call x y m z`, `return x` .., `assert` formula, `release` formula, and `if eq e e`
-- or `if ne e e` .. `else` .. `join` formula." After `end`, see `Places`. Document 02's are numbered last: "New lines `add x y z` and
-- `sub x y z`"; "`loop` takes a condition atom (`eq` or `ne`) and then the atoms of an invariant, at most 8; `again` closes it.";
-- W9: "`open y x f`", "`shut x f`".
unfoldable pub shape : Statement → Shape
shape Set = shaped "set" (variable read ∷ member field ∷ variable read ∷ []) nothing
shape Let = shaped "let" (variable assigned ∷ expression ∷ []) nothing
shape New = shaped "new" (variable assigned ∷ class_name ∷ []) nothing
shape Call = shaped "call" (variable assigned ∷ variable read ∷ member method ∷ variable read ∷ []) nothing
shape Return = shaped "return" (variable read ∷ []) nothing
shape Assert = shaped "assert" [] formula
shape Release = shaped "release" [] formula
shape If = shaped "if" [] condition
shape Else = shaped "else" [] nothing
shape Join = shaped "join" [] formula
shape End = shaped "end" [] nothing
shape Add = shaped "add" (variable assigned ∷ variable read ∷ variable read ∷ []) nothing
shape Sub = shaped "sub" (variable assigned ∷ variable read ∷ variable read ∷ []) nothing
shape Loop = shaped "loop" [] both
shape Again = shaped "again" [] nothing
shape Open = shaped "open" (variable assigned ∷ variable read ∷ member field ∷ []) nothing
shape Shut = shaped "shut" (variable read ∷ member field ∷ []) nothing

abbrev pub statements : List Statement
statements =
    Set ∷ Let ∷ New ∷ Call ∷ Return ∷ Assert ∷ Release ∷ If ∷ Else ∷ Join ∷ End ∷ Add ∷ Sub ∷ Loop ∷ Again ∷ Open ∷ Shut ∷ []

abbrev pub kinds : List Kind
kinds = Class ∷ Field ∷ Method ∷ Requires ∷ Ensures ∷ Main ∷ Var ∷ map statement statements

-- Kinds are numbered in this order, from 1 on.
abbrev pub class_kind : ℕ
class_kind = 1

abbrev pub field_kind : ℕ
field_kind = 2

abbrev pub method_kind : ℕ
method_kind = 3

abbrev pub requires_kind : ℕ
requires_kind = 4

abbrev pub ensures_kind : ℕ
ensures_kind = 5

abbrev pub main_kind : ℕ
main_kind = 6

abbrev pub var_kind : ℕ
var_kind = 7

abbrev pub set_kind : ℕ
set_kind = 8

abbrev pub let_kind : ℕ
let_kind = 9

abbrev pub new_kind : ℕ
new_kind = 10

abbrev pub call_kind : ℕ
call_kind = 11

abbrev pub return_kind : ℕ
return_kind = 12

abbrev pub assert_kind : ℕ
assert_kind = 13

abbrev pub release_kind : ℕ
release_kind = 14

abbrev pub if_kind : ℕ
if_kind = 15

abbrev pub else_kind : ℕ
else_kind = 16

abbrev pub join_kind : ℕ
join_kind = 17

abbrev pub end_kind : ℕ
end_kind = 18

abbrev pub add_kind : ℕ
add_kind = 19

abbrev pub sub_kind : ℕ
sub_kind = 20

abbrev pub loop_kind : ℕ
loop_kind = 21

abbrev pub again_kind : ℕ
again_kind = 22

abbrev pub open_kind : ℕ
open_kind = 23

abbrev pub shut_kind : ℕ
shut_kind = 24

abbrev pub first_statement : ℕ
first_statement = set_kind

abbrev pub last_kind : ℕ
last_kind = shut_kind

abbrev pub IsKindNumber : ℕ → Type 0
IsKindNumber n = (1 ≤ n) × (n ≤ last_kind)

abbrev pub IsStatementNumber : ℕ → Type 0
IsStatementNumber n = (first_statement ≤ n) × (n ≤ last_kind)

unfoldable pub statement_number : Statement → ℕ
statement_number Set = set_kind
statement_number Let = let_kind
statement_number New = new_kind
statement_number Call = call_kind
statement_number Return = return_kind
statement_number Assert = assert_kind
statement_number Release = release_kind
statement_number If = if_kind
statement_number Else = else_kind
statement_number Join = join_kind
statement_number End = end_kind
statement_number Add = add_kind
statement_number Sub = sub_kind
statement_number Loop = loop_kind
statement_number Again = again_kind
statement_number Open = open_kind
statement_number Shut = shut_kind

unfoldable pub kind_number : Kind → ℕ
kind_number Class = class_kind
kind_number Field = field_kind
kind_number Method = method_kind
kind_number Requires = requires_kind
kind_number Ensures = ensures_kind
kind_number Main = main_kind
kind_number Var = var_kind
kind_number (statement s) = statement_number s

-- "statement lines .., with `else`, `join` and `end` counted"; of loops, "both lines toward the 256"
unfoldable pub is_statement : Kind → Bool
is_statement Class = false
is_statement Field = false
is_statement Method = false
is_statement Requires = false
is_statement Ensures = false
is_statement Main = false
is_statement Var = false
is_statement (statement s) = true

-- Statements are numbered last.
abbrev pub is_statement_number : ℕ → Bool
is_statement_number n = leb first_statement n

-- The statements before such a line end there: "`if` .. `else` .. `join` formula"; "statements, `end`"; "`again` closes it".
unfoldable pub is_closing_number : ℕ → Bool
is_closing_number n =
    eqb n (statement_number Else)
    || (eqb n (statement_number Join) || (eqb n (statement_number End) || eqb n (statement_number Again)))

-- `add` or `sub`
unfoldable pub is_computing : ℕ → Bool
is_computing n = eqb n (statement_number Add) || eqb n (statement_number Sub)

-- after a statement that neither opens nor closes a branch or a loop, nor ends the method, the next line follows
abbrev pub GoesOn : ℕ → Type 0
GoesOn n =
    (is_closing_number n ≡ false) × (n ≡ statement_number If → ⊥) × (n ≡ statement_number Loop → ⊥) × (n ≡ statement_number Return → ⊥)

-- Have both one number? That a kind is no statement tells it from all of them at once.
unfoldable pub is_kind : Kind → Kind → Bool
is_kind a k = beq (is_statement a) (is_statement k) && eqb (kind_number a) (kind_number k)

-- PLACE OF A LINE

-- With W2, "A statement between [`return`] and the next `else`, `join` or `end` is number 4"; with W5, "A `return` may also stand last before
-- `again`": these alone may stand straight after it.
unfoldable pub last_stage : Statement → Stage
last_stage s = cond (is_closing_number (statement_number s)) after_return in_body

unfoldable pub next_stage : Statement → Stage
next_stage s = cond (eqb (statement_number s) (statement_number Return)) after_return in_body

-- "`class C`, then `field T f` lines, then methods."
-- "`method T m T w`, `requires` formula, `ensures` formula, `var T x` lines, statements, `end`."
-- "Last `main`, `var` lines, statements, `end`. Nothing follows."
unfoldable pub form : Kind → Form
form Class = stands beginning after_method in_class "class" (new classes ∷ []) nothing
form Field = stands in_class in_class in_class "field" (type_name ∷ new fields ∷ []) nothing
form Method = stands in_class after_method after_header "method" (type_name ∷ new methods ∷ type_name ∷ new variables ∷ []) nothing
form Requires = stands after_header after_header after_requires "requires" [] formula
form Ensures = stands after_requires after_requires in_locals "ensures" [] formula
form Main = stands beginning after_method in_locals "main" [] nothing
form Var = stands in_locals in_locals in_locals "var" (type_name ∷ new variables ∷ []) nothing
form (statement s) = stands in_locals (last_stage s) (next_stage s) (shape s).word (shape s).operands (shape s).tail

unfoldable pub kind_of : Name → Option Kind
kind_of w = first (λ k. is (form k).word w) kinds

-- FORM OF A LINE

unfoldable pub is_operand : Operand → Name → Bool
is_operand (new s) w = is_name w
is_operand type_name w = is_name w
is_operand class_name w = is_name w
is_operand (variable u) w = is_name w
is_operand (member m) w = is_name w
is_operand expression w = is_expr w

unfoldable pub is_tail : Tail → List Name → Bool
is_tail nothing ws = eqb (length ws) 0
is_tail condition ws = is_condition ws
is_tail formula ws = is_formula most_atoms ws
is_tail both ws = is_condition (take 3 ws) && is_formula most_atoms (drop 3 ws)

-- the fields after the word: operand by operand, then the tail
unfoldable pub is_formed : List Operand → Tail → List Name → Bool
is_formed [] t ws = is_tail t ws
is_formed (o ∷ os) t [] = false
is_formed (o ∷ os) t (w ∷ ws) = let r : Bool = is_formed os t ws in is_operand o w && r

-- a line: its kind, and its fields after the word
pub record Line : Type 0 where
  pub kind : Kind
  pub fields : List Name

-- 3: "byte other than tab, LF, 33 to 126; or last line without LF"; 4: "unknown word, wrong count or form of fields"
unfoldable pub read_line : Name → Try Refusal Line
read_line l = do
  check (clean l) bad_byte
  k ← or_else (kind_of (get_or (Text.fields l) 0 [])) malformed
  check (is_formed (form k).operands (form k).tail (drop 1 (Text.fields l))) malformed
  ok (record { kind = k; fields = drop 1 (Text.fields l) })

-- Everything above computes where this unfolds.
unfoldable pub opened : Unit {0}
unfolding stands shaped shape statement_number kind_number is_statement is_closing_number is_computing is_kind last_stage next_stage form kind_of is_operand is_tail is_formed read_line
opened = tt
