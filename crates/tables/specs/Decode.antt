-- What the tables mean: the program that a work area holds.
use Rattle.std.specs.Prelude.{Bool, cond, not, List, [], ◌∷◌, ◌++◌, ℕ, zero, suc, ◌+◌, ◌-◌, ◌*◌, eqb, ltb, get_or}
use Rattle.rules.specs.Syntax.{Rel, Permit, Expr, Atom, Formula, Operation, Stmt, Row, Field, Method, Program}
use Rattle.rules.specs.Syntax.{eq, ne, num, null, var, path, acc, read, chain, own, cmp, sum, difference, set, assign, compute, new, call, return, assert, release, open_chain, shut_chain, simple, if, else, join, loop, again, end}
use Rattle.rules.specs.Grammar.{is_computing, set_kind, let_kind, new_kind, call_kind, return_kind, assert_kind, release_kind, if_kind, else_kind, join_kind, add_kind, loop_kind, again_kind, open_kind, shut_kind}
use Rattle.tables.specs.declared.Operands.{Operands}
use Rattle.tables.specs.Numbers.{acc_atom, chain_atom, eq_atom, num_tag, null_tag, var_tag}
use Rattle.tables.specs.Layout.{rows_at, methods_at, classes_at, places_at, atoms_at, most_names, row_bytes, atom_bytes, method_bytes, class_bytes}

-- LISTS: n of f i, f (i + 1), ..
unfoldable pub run : {A : Type 0} → (ℕ → A) → ℕ → ℕ → List A
run f i zero = []
run f i (suc n) = f i ∷ run f (suc i) n

-- NUMBERS, low byte first

abbrev pub byte_at : List ℕ → ℕ → ℕ
byte_at w i = get_or w i 0

abbrev pub half_at : List ℕ → ℕ → ℕ
half_at w i = byte_at w i + byte_at w (i + 1) * 256

abbrev pub word_at : List ℕ → ℕ → ℕ
word_at w i = byte_at w i + byte_at w (i + 1) * 256 + byte_at w (i + 2) * 65536 + byte_at w (i + 3) * 16777216

-- ATOMS: kind, tag of the left and of the right side, a spare byte, 4 bytes for each side. `acc x f`,
-- `read x f` and `chain x f` have x and f in the first two bytes of the left side.

-- a side by its tag: a number (4 bytes), null, a variable (a byte), or a path (two bytes)
unfoldable pub expr_at : List ℕ → ℕ → ℕ → Expr ℕ
expr_at w tag i =
    cond (eqb tag num_tag) (num (word_at w i))
    (cond (eqb tag null_tag) null
    (cond (eqb tag var_tag) (var (byte_at w i))
    (path (byte_at w i) (byte_at w (i + 1)))))

abbrev pub atom_place : ℕ → ℕ
atom_place i = atoms_at + i * atom_bytes

abbrev pub atom_kind_at : List ℕ → ℕ → ℕ
atom_kind_at w i = byte_at w (atom_place i)

abbrev pub left_tag_at : List ℕ → ℕ → ℕ
left_tag_at w i = byte_at w (atom_place i + 1)

abbrev pub right_tag_at : List ℕ → ℕ → ℕ
right_tag_at w i = byte_at w (atom_place i + 2)

-- the variable and the field of an `acc`, a `read` or a `chain`
abbrev pub acc_variable_at : List ℕ → ℕ → ℕ
acc_variable_at w i = byte_at w (atom_place i + 4)

abbrev pub acc_field_at : List ℕ → ℕ → ℕ
acc_field_at w i = byte_at w (atom_place i + 5)

-- by the number of its kind: is an atom a permission, and which; or a comparison, and which
unfoldable pub is_permission : ℕ → Bool
is_permission k = ltb k eq_atom

unfoldable pub permit_of : ℕ → Permit
permit_of k = cond (eqb k acc_atom) acc (cond (eqb k chain_atom) chain read)

unfoldable pub rel_of : ℕ → Rel
rel_of k = cond (eqb k eq_atom) eq ne

unfoldable pub left_at : List ℕ → ℕ → Expr ℕ
left_at w i = expr_at w (left_tag_at w i) (atom_place i + 4)

unfoldable pub right_at : List ℕ → ℕ → Expr ℕ
right_at w i = expr_at w (right_tag_at w i) (atom_place i + 8)

unfoldable pub atom_at : List ℕ → ℕ → Atom ℕ
atom_at w i =
    let k : ℕ = atom_kind_at w i in
    cond (is_permission k) (own (permit_of k) (acc_variable_at w i) (acc_field_at w i)) (cmp (rel_of k) (left_at w i) (right_at w i))

-- n atoms from atom i on
abbrev pub atoms_from : List ℕ → ℕ → ℕ → Formula ℕ
atoms_from w i n = run (atom_at w) i n

-- the n atoms of a line of the kind k, from atom i on, in the order of number 10: the condition of a `loop` is the first of them, and
-- comes last
unfoldable pub framed_from : List ℕ → ℕ → ℕ → ℕ → Formula ℕ
framed_from w k i n = cond (eqb k loop_kind) (atoms_from w (i + 1) (n - 1) ++ (atom_at w i ∷ [])) (atoms_from w i n)

-- STATEMENT ROWS: kind, x, y, z, member (field, class or method), count of atoms (a byte each); first atom, line, target (2 bytes each).
-- `let x e` has e as the right side of its atom, `if` its condition as its atom. `open y x f` has y for x, and x for y. The atoms of `loop` are those of its invariant; the atom
-- before them is its condition. The target of `if` is the row after its `else`, that of `else` its `join`, that of `loop` the row after
-- its `again`, that of `again` its `loop`.

abbrev pub row_place : ℕ → ℕ
row_place i = rows_at + i * row_bytes

abbrev pub kind_at : List ℕ → ℕ → ℕ
kind_at w i = byte_at w (row_place i)

abbrev pub x_at : List ℕ → ℕ → ℕ
x_at w i = byte_at w (row_place i + 1)

abbrev pub y_at : List ℕ → ℕ → ℕ
y_at w i = byte_at w (row_place i + 2)

abbrev pub z_at : List ℕ → ℕ → ℕ
z_at w i = byte_at w (row_place i + 3)

abbrev pub member_at : List ℕ → ℕ → ℕ
member_at w i = byte_at w (row_place i + 4)

abbrev pub atom_count_at : List ℕ → ℕ → ℕ
atom_count_at w i = byte_at w (row_place i + 5)

abbrev pub first_atom_at : List ℕ → ℕ → ℕ
first_atom_at w i = half_at w (row_place i + 6)

abbrev pub line_at : List ℕ → ℕ → ℕ
line_at w i = half_at w (row_place i + 8)

abbrev pub target_place : ℕ → ℕ
target_place i = row_place i + 10

abbrev pub target_at : List ℕ → ℕ → ℕ
target_at w i = half_at w (target_place i)

-- all of them but the target
abbrev pub operands_at : List ℕ → ℕ → Operands
operands_at w i =
    record {
      kind = kind_at w i;
      x = x_at w i;
      y = y_at w i;
      z = z_at w i;
      member = member_at w i;
      atoms = atom_count_at w i;
      first = first_atom_at w i;
      line = line_at w i;
    }

-- what a row with these operands means

abbrev pub formula_of : List ℕ → Operands → Formula ℕ
formula_of w r = atoms_from w r.first r.atoms

abbrev pub if_at : List ℕ → ℕ → Stmt
if_at w a = if (rel_of (atom_kind_at w a)) (left_at w a) (right_at w a)

-- a: its condition
abbrev pub loop_at : List ℕ → ℕ → Formula ℕ → Stmt
loop_at w a φ = loop (rel_of (atom_kind_at w a)) (left_at w a) (right_at w a) φ

unfoldable pub operation_of : ℕ → Operation
operation_of k = cond (eqb k add_kind) sum difference

-- by the number of its kind
unfoldable pub stmt_of : List ℕ → Operands → Stmt
stmt_of w r =
    cond (eqb r.kind set_kind) (simple (set r.x r.member r.y))
    (cond (eqb r.kind let_kind) (simple (assign r.x (right_at w r.first)))
    (cond (eqb r.kind new_kind) (simple (new r.x r.member))
    (cond (eqb r.kind call_kind) (simple (call r.x r.y r.member r.z))
    (cond (eqb r.kind return_kind) (return r.x)
    (cond (eqb r.kind assert_kind) (simple (assert (formula_of w r)))
    (cond (eqb r.kind release_kind) (simple (release (formula_of w r)))
    (cond (eqb r.kind if_kind) (if_at w r.first)
    (cond (eqb r.kind else_kind) else
    (cond (eqb r.kind join_kind) (join (formula_of w r))
    (cond (is_computing r.kind) (simple (compute (operation_of r.kind) r.x r.y r.z))
    (cond (eqb r.kind loop_kind) (loop_at w (r.first - 1) (formula_of w r))
    (cond (eqb r.kind again_kind) again
    (cond (eqb r.kind open_kind) (simple (open_chain r.x r.y r.member))
    (cond (eqb r.kind shut_kind) (simple (shut_chain r.x r.member))
    end))))))))))))))

abbrev pub formula_at : List ℕ → ℕ → Formula ℕ
formula_at w i = formula_of w (operands_at w i)

abbrev pub stmt_at : List ℕ → ℕ → Stmt
stmt_at w i = stmt_of w (operands_at w i)

unfoldable pub row_at : List ℕ → ℕ → Row
row_at w i = record { line = line_at w i; stmt = stmt_at w i }

-- n rows from row i on
abbrev pub rows_from : List ℕ → ℕ → ℕ → List Row
rows_from w i n = run (row_at w) i n

-- THE HEADER

abbrev pub row_count : List ℕ → ℕ
row_count w = half_at w 0

abbrev pub atom_count : List ℕ → ℕ
atom_count w = half_at w 2

abbrev pub class_count : List ℕ → ℕ
class_count w = byte_at w 4

abbrev pub method_count : List ℕ → ℕ
method_count w = byte_at w 5

abbrev pub main_first : List ℕ → ℕ
main_first w = half_at w 6

unfoldable pub all_rows : List ℕ → List Row
all_rows w = rows_from w 0 (row_count w)

-- METHODS: requires' first atom (2 bytes), its count, ensures' count (a byte each), ensures' first atom, first row (2 bytes each)

abbrev pub method_place : ℕ → ℕ
method_place m = methods_at + m * method_bytes

abbrev pub requires_first_at : List ℕ → ℕ → ℕ
requires_first_at w m = half_at w (method_place m)

abbrev pub requires_count_at : List ℕ → ℕ → ℕ
requires_count_at w m = byte_at w (method_place m + 2)

abbrev pub ensures_count_at : List ℕ → ℕ → ℕ
ensures_count_at w m = byte_at w (method_place m + 3)

abbrev pub ensures_first_at : List ℕ → ℕ → ℕ
ensures_first_at w m = half_at w (method_place m + 4)

unfoldable pub requires_at : List ℕ → ℕ → Formula ℕ
requires_at w m = atoms_from w (requires_first_at w m) (requires_count_at w m)

unfoldable pub ensures_at : List ℕ → ℕ → Formula ℕ
ensures_at w m = atoms_from w (ensures_first_at w m) (ensures_count_at w m)

abbrev pub first_row_at : List ℕ → ℕ → ℕ
first_row_at w m = half_at w (method_place m + 6)

unfoldable pub method_at : List ℕ → ℕ → Method
method_at w m = record { requires = requires_at w m; ensures = ensures_at w m; first = first_row_at w m }

abbrev pub methods_from : List ℕ → ℕ → ℕ → List Method
methods_from w m n = run (method_at w) m n

-- CLASSES: count of fields, then for each its name's number and 1 for an int, 0 for a reference (a byte each)

abbrev pub class_place : ℕ → ℕ
class_place c = classes_at + c * class_bytes

-- where the places of its fields stand, one for each name
abbrev pub places_place : ℕ → ℕ
places_place c = places_at + c * most_names

abbrev pub field_count_at : List ℕ → ℕ → ℕ
field_count_at w c = byte_at w (class_place c)

-- the name of the j-th field, and whether it is an int
abbrev pub field_name_at : List ℕ → ℕ → ℕ → ℕ
field_name_at w c j = byte_at w (class_place c + 1 + j * 2)

abbrev pub field_kind_at : List ℕ → ℕ → ℕ → ℕ
field_kind_at w c j = byte_at w (class_place c + 2 + j * 2)

unfoldable pub field_at : List ℕ → ℕ → ℕ → Field
field_at w c j = record { name = field_name_at w c j; int = not (eqb (field_kind_at w c j) 0) }

abbrev pub fields_from : List ℕ → ℕ → ℕ → ℕ → List Field
fields_from w c j n = run (field_at w c) j n

unfoldable pub class_at : List ℕ → ℕ → List Field
class_at w c = fields_from w c 0 (field_count_at w c)

abbrev pub classes_from : List ℕ → ℕ → ℕ → List (List Field)
classes_from w c n = run (class_at w) c n

-- THE PROGRAM

unfoldable pub program_in : List ℕ → Program
program_in w =
    record {
      classes = classes_from w 0 (class_count w);
      methods = methods_from w 0 (method_count w);
      rows = all_rows w;
      main = main_first w;
    }
