-- Where each table stands in the work area, and how large it can get.
use Rattle.std.specs.Prelude.{cond, ℕ, eqb}
use Rattle.rules.specs.Grammar.{loop_kind}
use Rattle.rules.specs.Limits.{most_atoms}

-- THE LARGEST TABLES

-- Each of the blocks, 64 methods and main, has an `end`, so at most 256 - 65 statement lines have a formula beside those of 64
-- methods; with fewer methods more lines have one, and fewer atoms stand in requires and ensures. A `let` or an `if` takes one atom. That
-- is 8 * (191 + 128). A `loop` takes one more than a formula, for its condition, and its `again` none: so one more for each loop that is
-- open, at most 4.
abbrev pub most_atom_rows : ℕ
most_atom_rows = 2556

-- of one line: "a condition atom (`eq` or `ne`) and then the atoms of an invariant, at most 8"
abbrev pub most_line_atoms : ℕ
most_line_atoms = 9

-- by the number of its kind
unfoldable pub atom_limit : ℕ → ℕ
atom_limit k = cond (eqb k loop_kind) most_line_atoms most_atoms

-- the names of all fields
abbrev pub most_names : ℕ
most_names = 128

-- variables of a frame: `this`, w, 12 locals, `result`
abbrev pub frame_variables : ℕ
frame_variables = 15

-- ROWS: their lengths in bytes

abbrev pub row_bytes : ℕ
row_bytes = 12

abbrev pub atom_bytes : ℕ
atom_bytes = 12

abbrev pub method_bytes : ℕ
method_bytes = 8

abbrev pub class_bytes : ℕ
class_bytes = 32

abbrev pub object_bytes : ℕ
object_bytes = 4

abbrev pub frame_bytes : ℕ
frame_bytes = 72

-- REGIONS: where each begins; the end of one is the begin of the next. From 0 on stand the counts: statement rows, atoms (2 bytes each),
-- classes, methods (a byte each), main's first row (2 bytes).

abbrev pub rows_at : ℕ
rows_at = 64

abbrev pub methods_at : ℕ
methods_at = 3136

abbrev pub classes_at : ℕ
classes_at = 3648

-- for each class and each name of a field its place in the class
abbrev pub places_at : ℕ
places_at = 4160

abbrev pub atoms_at : ℕ
atoms_at = 6208

-- names of classes, fields, methods and variables, while the text is read
abbrev pub names_at : ℕ
names_at = 36880

-- the table of lines, while the text is read, stands where the machine's stores do later
abbrev pub lines_at : ℕ
lines_at = 40960

-- the machine's stores: values of all fields, two holders of each field, objects, frames
abbrev pub values_at : ℕ
values_at = 40960

abbrev pub holders_at : ℕ
holders_at = 45056

abbrev pub objects_at : ℕ
objects_at = 53248

abbrev pub frames_at : ℕ
frames_at = 54272
