-- Eight bytes as one word, and the marks of bytes that may be in a set.
use Rattle.std.specs.Prelude.{List, [], ◌∷◌, ℕ, ◌+◌, ◌*◌, get_or}
use Rattle.std.specs.Int.Bits.{bit_and, bit_or, bit_xor}
use Rattle.read_bytes.specs.declared.Set.{Set}
use Rattle.read_bytes.specs.declared.Set.TheVariants.{LineEnd, FieldEnd, FullStop, NotLetterOrDigit}

-- WORDS

abbrev pub wide_bytes : ℕ
wide_bytes = 8

-- the eight bytes of a list from i on
abbrev pub eight : List ℕ → ℕ → List ℕ
eight l i =
    get_or l i 0 ∷ get_or l (i + 1) 0 ∷ get_or l (i + 2) 0 ∷ get_or l (i + 3) 0 ∷
    get_or l (i + 4) 0 ∷ get_or l (i + 5) 0 ∷ get_or l (i + 6) 0 ∷ get_or l (i + 7) 0 ∷ []

-- how many numbers one byte holds, and two
abbrev pub byte_values : ℕ
byte_values = 256

abbrev pub half_values : ℕ
half_values = 65536

-- bytes as one number, the first lowest
unfoldable pub little_endian : List ℕ → ℕ
little_endian [] = 0
little_endian (b ∷ t) = little_endian t * byte_values + b

-- MARKS

-- a formula that works on each byte of a word apart
pub data Form : Type 0 where
  it : Form
  each : ℕ → Form
  and or xor plus : Form → Form → Form

-- eight bytes, each 1
abbrev pub ones : ℕ
ones = 0x0101010101010101

-- its value for the word x; k is the word of x's length whose bytes are 1
abbrev pub value : ℕ → ℕ → Form → ℕ
value k x it = x
value k x (each b) = k * b
value k x (and f g) = bit_and (value k x f) (value k x g)
value k x (or f g) = bit_or (value k x f) (value k x g)
value k x (xor f g) = bit_xor (value k x f) (value k x g)
value k x (plus f g) = value k x f + value k x g

-- 0x80 for 0 to 31 and 128 to 159, tab and LF among them, else 0
abbrev pub field_form : Form
field_form = xor (and (plus (and it (each 0x60)) (each 0x60)) (each 0x80)) (each 0x80)

-- 0 for 9 and 33 to 126, else 0x80
abbrev pub line_form : Form
line_form =
    let y : Form = and it (each 0x7f) in
    and
    (or (or (and (xor (plus y (each 0x5f)) (each 0x80)) (plus (xor y (each 0x09)) (each 0x7f))) (plus y (each 0x01))) it)
    (each 0x80)

-- 0 for letters and digits, else 0x80
abbrev pub name_form : Form
name_form =
    let y : Form = and it (each 0x7f) in
    let u : Form = or y (each 0x20) in
    and
    (or
    (xor
    (or
    (and (plus u (each 0x1f)) (xor (plus u (each 0x05)) (each 0x80)))
    (and (plus y (each 0x50)) (xor (plus y (each 0x46)) (each 0x80))))
    (each 0x80))
    it)
    (each 0x80)

-- 0 for digits, else 0x80
abbrev pub digit_form : Form
digit_form =
    let y : Form = and it (each 0x7f) in
    and (or (or (xor (plus y (each 0x50)) (each 0x80)) (plus y (each 0x46))) it) (each 0x80)

-- the formula of a set: 0x80 for each byte of it; of the full stop, which is searched byte by byte, for every byte
abbrev pub form_of : Set → Form
form_of LineEnd = line_form
form_of FieldEnd = field_form
form_of FullStop = each 0x80
form_of NotLetterOrDigit = name_form
