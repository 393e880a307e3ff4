-- The numbers by which rows say what they are: the kinds of atoms, the tags of sides; and how many values bytes have.
use Rattle.std.specs.Prelude.{ℕ}

-- BYTES

-- so many values have one byte, two and four
abbrev pub byte_values : ℕ
byte_values = 256

abbrev pub half_values : ℕ
half_values = 65536

abbrev pub word_values : ℕ
word_values = 4294967296

-- the bytes of a word
abbrev pub word_size : ℕ
word_size = 4

-- ATOMS: the kind of an `acc` or a `read` is the number of its halves

abbrev pub read_atom : ℕ
read_atom = 1

abbrev pub acc_atom : ℕ
acc_atom = 2

abbrev pub chain_atom : ℕ
chain_atom = 3

abbrev pub eq_atom : ℕ
eq_atom = 4

abbrev pub ne_atom : ℕ
ne_atom = 5

-- a side is a number, null, a variable or a path
abbrev pub num_tag : ℕ
num_tag = 0

abbrev pub null_tag : ℕ
null_tag = 1

abbrev pub var_tag : ℕ
var_tag = 2

abbrev pub path_tag : ℕ
path_tag = 3

-- the place of a name that no field of a class has
abbrev pub no_place : ℕ
no_place = 255
