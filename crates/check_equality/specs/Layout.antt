-- Where things stand in the two arrays of the checker's state: the keys of the slots; and bytes, which are the slots' labels, a flag for
-- each fact, the variables and then the fields of the entries, two counts, and the kinds of the entries.
use Rattle.std.specs.Prelude.{ℕ}
use Rattle.check_equality.specs.declared.State as Declared

-- SLOTS: one for each variable, one for null, two for each fact
abbrev pub slots : ℕ
slots = 144

abbrev pub null_slot : ℕ
null_slot = 15

-- the sides of fact i have the slots left_sides + 2 i and right_sides + 2 i
abbrev pub left_sides : ℕ
left_sides = 16

abbrev pub right_sides : ℕ
right_sides = 17

-- two slots before the facts', which two more terms may take
abbrev pub terms_at : ℕ
terms_at = 14

-- BYTES, after the labels
abbrev pub relations_at : ℕ
relations_at = 144

abbrev pub variables_at : ℕ
variables_at = 208

abbrev pub fields_at : ℕ
fields_at = 272

abbrev pub fact_count : ℕ
fact_count = 336

abbrev pub entry_count : ℕ
entry_count = 337

abbrev pub kinds_at : ℕ
kinds_at = 338

abbrev pub bytes : ℕ
bytes = 402

-- KINDS of entries: that of a listed path is the number of its halves; chains, which are no paths, come after these
abbrev pub read_kind : ℕ
read_kind = 1

abbrev pub acc_kind : ℕ
acc_kind = 2

abbrev pub chain_kind : ℕ
chain_kind = 3

-- MARKS: the places of keys
abbrev pub mark_count : ℕ
mark_count = 512

-- a key's place is the key and so many-th of it, so that the paths of two variables have different places
abbrev pub mark_fold : ℕ
mark_fold = 8

-- the constants of the code are these
abbrev pub offsets : Declared.State
offsets =
    record {
      slots = slots;
      null = null_slot;
      left = left_sides;
      right = right_sides;
      relations = relations_at;
      variables = variables_at;
      fields = fields_at;
      facts = fact_count;
      entries = entry_count;
      kinds = kinds_at;
      bytes = bytes;
      read = read_kind;
      acc = acc_kind;
      chain = chain_kind;
      marks = mark_count;
    }
