-- The word that a line begins with, and the table of lines that pass 1 keeps in the work area.
use Rattle.std.specs.Prelude.{◌≡◌, Result, Ok, Err, List, [], ℕ, zero, suc, ◌+◌, ◌*◌, ◌≤◌, ◌<◌, length, get_or, drop}
use Rattle.rules.specs.Text.{fields, up_to}
use Rattle.rules.specs.Grammar.{kind_of}
use Rattle.read_bytes.specs.Sets.{in_set, FirstInSet}
use Rattle.read_words.specs.Words.{kind_or0}
use Rattle.read_bytes.specs.declared.Set.TheVariants.{LineEnd, FieldEnd}
use Rattle.tables.specs.Layout.{lines_at}
use Rattle.tables.specs.Decode.{byte_at, half_at}
use Rattle.tables.specs.Stores.{put_byte, put_half, Kept}
use Rattle.read_fields.specs.Cuts.{part, more}
use Rattle.read_scan.specs.Scans.{WhenTaken}
use Rattle.read_scan.specs.declared.Word.{Word}
use Rattle.read_scan.specs.declared.Refusal.{Refusal}
use Rattle.read_scan.specs.declared.NextLine.{NextLine}
use Rattle.read_scan.specs.declared.RefusedLine.{RefusedLine}

-- A LINE'S WORD

-- the number of the kind of the line that begins at a, or 0, and where its word ends
pub record WordAt (t : List ℕ) (a : ℕ) (r : Word) : Type 0 where
  pub kind : r.kind ≡ kind_or0 (kind_of (get_or (fields (drop a t)) 0 []))
  pub high : r.end ≤ length t
  pub fields : more (drop r.end t) ≡ drop 1 (fields (drop a t))

-- The same, with the word's end as it is found.
pub record FirstWord (t : List ℕ) (a : ℕ) (r : Word) : Type 0 where
  pub kind : r.kind ≡ kind_or0 (kind_of (part a r.end t))
  pub end : FirstInSet t a FieldEnd r.end

-- WHERE LINES BEGIN

-- the end of the line that begins at a: its LF, or a byte that is not allowed
unfoldable pub line_end : List ℕ → ℕ → ℕ
line_end t a = a + up_to (in_set LineEnd) (drop a t)

-- where line i begins
unfoldable pub start_of : List ℕ → ℕ → ℕ
start_of t zero = 0
start_of t (suc i) = line_end t (start_of t i) + 1

-- THE TABLE: 3 bytes a line, the end of its word (2 bytes) and the number of its kind

-- The bytes of the shortest line that is taken, with its LF; so a text has at most so many lines.
abbrev pub least_line : ℕ
least_line = 4

abbrev pub most_lines : ℕ
most_lines = 8192

abbrev pub line_bytes : ℕ
line_bytes = 3

abbrev pub line_place : ℕ → ℕ
line_place i = lines_at + line_bytes * i

-- the word of line i
abbrev pub word_in : List ℕ → ℕ → Word
word_in w i = record { kind = byte_at w (line_place i + 2); end = half_at w (line_place i) }

unfoldable pub put_line : List ℕ → ℕ → Word → List ℕ
put_line w i x = put_byte (put_half w (line_place i) x.end) (line_place i + 2) x.kind

-- The area w has the words of the n lines of t.
pub record LineTable (t w : List ℕ) (n : ℕ) : Type 0 where
  pub words : (i : ℕ) → i < n → WordAt t (start_of t i) (word_in w i)
  pub within : (i : ℕ) → i < n → start_of t i < length t
  pub room : n ≤ most_lines
  pub all : length t ≤ start_of t n

-- the table of a text that is taken
abbrev pub TableOf : List ℕ → List ℕ → Result ℕ RefusedLine → Type 0
TableOf t w (Ok n) = LineTable t w n
TableOf t w (Err e) = Unit {0}

-- ONE LINE

-- The line from a to e is line n of the table; the lines before it stay.
pub record Noted (t w : List ℕ) (a e n : ℕ) (w' : List ℕ) : Type 0 where
  pub word : WordAt t a (word_in w' n)
  pub long : a + 3 ≤ e
  pub others : Kept lines_at (line_place n) w w'

-- A line that is taken is noted.
pub record NotesLine (t w : List ℕ) (a n : ℕ) (r : Result NextLine Refusal) (w' : List ℕ) : Type 0 where
  pub size : length w' ≡ length w
  pub noted : WhenTaken (λ e. Noted t w a e n w') r
