-- The machine's stores in the work area, and what the code reads from them: variables, cells, holders, expressions and formulas.
use Rattle.std.specs.Prelude.{◌≡◌, ℕ, zero, suc, ◌+◌, ◌-◌, ◌*◌, ◌<◌, ◌≤◌, Bool, cond, not, ◌&&◌, List, ◌==◌, nat_le, nat_lt, slice_set, Result, Ok, Err}
use Rattle.std.proofs.Math.Option.{Option, none, some}
use Rattle.rules.specs.Limits.{heap_objects, heap_fields, work_bytes}
use Rattle.rules.specs.Base.{Try, ok, no, ◌>>=◌, ◌>>◌, check}
use Rattle.rules.specs.Answers.{Stop, heap_full, frames_full, permission_missing, null_followed, formula_false, overflow}
use Rattle.rules.specs.Syntax.{Expr, num, null, var, path}
use Rattle.rules.specs.Machine.{Location}
use Rattle.rules.specs.declared.Machine.{Machine}
use Rattle.tables.specs.Layout.{most_names, frame_variables, values_at, holders_at, objects_at, frames_at, object_bytes, frame_bytes}
use Rattle.tables.specs.declared.Expr as Tables
use Rattle.tables.specs.Decode.{byte_at, half_at, word_at, class_count, field_count_at}
use Rattle.tables.specs.Tables.{Tables, place_at}
use Rattle.tables.specs.Stores.{put_half, put_word}
use Rattle.run_heap.specs.declared.View.{View}
use Rattle.run_heap.specs.declared.Fault.{Fault}

-- STORES

-- the bytes of a word, and of the two holders of a cell
abbrev pub word_size : ℕ
word_size = 4

abbrev pub holder_bytes : ℕ
holder_bytes = 8

-- the halves of a location that is held whole
abbrev pub whole : ℕ
whole = 2

-- a frame has `this`, w and its other variables
abbrev pub frame_parameter : ℕ
frame_parameter = 4

-- after its variables a frame keeps the number by which it holds, its row and its method
abbrev pub frame_holder : ℕ
frame_holder = 60

abbrev pub frame_row : ℕ
frame_row = 64

abbrev pub frame_method : ℕ
frame_method = 66

-- the frame i
abbrev pub frame_at : ℕ → ℕ
frame_at i = frames_at + i * frame_bytes

-- the variable x of the frame at b
unfoldable pub variable_at : List ℕ → ℕ → ℕ → ℕ
variable_at w b x = word_at w (b + x * word_size)

unfoldable pub saved_holder : List ℕ → ℕ → ℕ
saved_holder w i = word_at w (frame_at i + frame_holder)

unfoldable pub saved_row : List ℕ → ℕ → ℕ
saved_row w i = half_at w (frame_at i + frame_row)

unfoldable pub method_of : List ℕ → ℕ → ℕ
method_of w i = byte_at w (frame_at i + frame_method)

unfoldable pub cell_value : List ℕ → ℕ → ℕ
cell_value w k = word_at w (values_at + k * word_size)

-- each half of a cell is with a frame, whose number it has, or 0 for nobody
abbrev pub cell_holders_at : ℕ → ℕ
cell_holders_at k = holders_at + k * holder_bytes

unfoldable pub first_holder : List ℕ → ℕ → ℕ
first_holder w k = word_at w (cell_holders_at k)

unfoldable pub second_holder : List ℕ → ℕ → ℕ
second_holder w k = word_at w (cell_holders_at k + word_size)

unfoldable pub one : Bool → ℕ
one b = cond b 1 0

-- W8: "a location now has 0, 1 or 2 halves with each frame": so many of the cell k are with the number h
unfoldable pub halves_at : List ℕ → ℕ → ℕ → ℕ
halves_at w h k = one (first_holder w k == h) + one (second_holder w k == h)

-- object i + 1: its class and, this far from it, its first cell
abbrev pub object_first : ℕ
object_first = 2

unfoldable pub class_in : List ℕ → ℕ → ℕ
class_in w i = byte_at w (objects_at + i * object_bytes)

unfoldable pub first_in : List ℕ → ℕ → ℕ
first_in w i = half_at w (objects_at + i * object_bytes + object_first)

-- in place of the place of a field that a class does not have
abbrev pub no_place : ℕ
no_place = 255

unfoldable pub placed : ℕ → ℕ → Option ℕ
placed first p = cond (p == no_place) none (some (first + p))

-- of n objects: the cell of the field named f of the object o
unfoldable pub cell_of : List ℕ → ℕ → ℕ → ℕ → Option ℕ
cell_of w n zero f = none
cell_of w n (suc i) f = cond (nat_lt i n && nat_lt f most_names) (placed (first_in w i) (place_at w (class_in w i) f)) none

unfoldable pub halves_in : List ℕ → ℕ → Option ℕ → ℕ
halves_in w h none = 0
halves_in w h (some k) = halves_at w h k

-- of n objects: how many halves of a location are with the number h
unfoldable pub halves_of : List ℕ → ℕ → ℕ → Location → ℕ
halves_of w n h p = halves_in w h (cell_of w n p.object p.field)

-- FINDING a cell, whoever holds it

-- a location that is not there is in no A: "a location not in A .. 24"
unfoldable pub present : Option ℕ → Try Stop ℕ
present none = no permission_missing
present (some k) = ok k

-- of n objects: the cell of a field of the object o, "of a null is 25"
unfoldable pub found_of : List ℕ → ℕ → ℕ → ℕ → Try Stop ℕ
found_of w n o f = check (not (o == 0)) null_followed >> present (cell_of w n o f)

-- the cell of `x.f`
unfoldable pub found : List ℕ → View → ℕ → ℕ → Try Stop ℕ
found w v x f = found_of w v.objects (variable_at w v.base x) f

-- READING, through the variables of one frame and what one number holds

-- so many halves can be asked for
abbrev pub Halves : ℕ → Type 0
Halves n = (1 ≤ n) × (n ≤ whole)

-- the cell, if h holds n halves of it
unfoldable pub held_cell : List ℕ → ℕ → ℕ → ℕ → Try Stop ℕ
held_cell w h n k = check (nat_le n (halves_at w h k)) permission_missing >> ok k

-- the cell of `x.f`, if the view's number holds n halves of it
unfoldable pub spot : List ℕ → View → ℕ → ℕ → ℕ → Try Stop ℕ
spot w v n x f = found w v x f >>= held_cell w v.holder n

-- W8: "Reading needs one half"
unfoldable pub read_in : List ℕ → View → Expr ℕ → Try Stop ℕ
read_in w v (num n) = ok n
read_in w v null = ok 0
read_in w v (var x) = ok (variable_at w v.base x)
read_in w v (path x f) = spot w v 1 x f >>= λ k. ok (cell_value w k)

-- WRITING

-- n words v from i on
unfoldable pub fill : List ℕ → ℕ → ℕ → ℕ → List ℕ
fill w i zero v = w
fill w i (suc n) v = fill (put_word w i v) (i + word_size) n v

-- The frame at a calls: it keeps its number and row. The next, at b, has its values, `this`, w and zeros, and its method.
unfoldable pub frame_put : List ℕ → ℕ → ℕ → ℕ → ℕ → ℕ → ℕ → ℕ → List ℕ
frame_put w a b holder row method o p =
    slice_set
    (put_half (put_word (put_word (put_word (fill w b frame_variables 0) b o) (b + frame_parameter) p) (a + frame_holder) holder) (a + frame_row) row)
    (b + frame_method)
    method

abbrev pub prepared : List ℕ → Machine → ℕ → ℕ → ℕ → List ℕ
prepared w c method o p = frame_put w (frame_at (c.frames - 1)) (frame_at c.frames) c.holder c.row method o p

-- object i + 1 of a class, its n fields from the cell k on, each 0 and held whole by a number
unfoldable pub made : List ℕ → ℕ → ℕ → ℕ → ℕ → ℕ → List ℕ
made w i k n class holder =
    fill
    (fill (put_half (slice_set w (objects_at + i * object_bytes) class) (objects_at + i * object_bytes + object_first) k) (values_at + k * word_size) n 0)
    (cell_holders_at k)
    (n * whole)
    holder

-- both halves of the cell k are with h from now on
unfoldable pub whole_put : List ℕ → ℕ → ℕ → List ℕ
whole_put w k h = put_word (put_word w (cell_holders_at k) h) (cell_holders_at k + word_size) h

-- one half of it goes from a number that holds it to another
unfoldable pub half_put : List ℕ → ℕ → ℕ → ℕ → List ℕ
half_put w k from to = put_word w (cond (first_holder w k == from) (cell_holders_at k) (cell_holders_at k + word_size)) to

-- n halves of it do
unfoldable pub handed : List ℕ → ℕ → ℕ → ℕ → ℕ → List ℕ
handed w k n from to = cond (nat_lt n whole) (half_put w k from to) (whole_put w k to)

-- the view of the next frame, which sees what the running one holds
abbrev pub next_view : Machine → View
next_view c = record { base = frame_at c.frames; objects = c.objects; holder = c.holder }

-- ANSWERS

-- "permission missing; null followed; formula false", the two limits, and "A result beyond 32 bits signed"
unfoldable pub stop_of : Fault → Stop
stop_of Fault.HeapFull = heap_full
stop_of Fault.FramesFull = frames_full
stop_of Fault.Permission = permission_missing
stop_of Fault.Null = null_followed
stop_of Fault.False = formula_false
stop_of Fault.Overflow = overflow

-- what is found, or why it is not
unfoldable pub answered : {A : Type 0} → Result A Fault → Try Stop A
answered (Ok x) = ok x
answered (Err s) = no (stop_of s)

-- WHAT READING NEEDS

pub record ObjectFits (w : List ℕ) (most i : ℕ) : Type 0 where
  pub class : class_in w i < class_count w
  pub cells : first_in w i + field_count_at w (class_in w i) ≤ most

-- r is the value of e, where that is no path
abbrev pub PlainIs : List ℕ → View → Tables.Expr → ℕ → Type 0
PlainIs w v (Tables.Expr.Num n) r = r ≡ n
PlainIs w v Tables.Expr.Null r = r ≡ 0
PlainIs w v (Tables.Expr.Var x) r = r ≡ variable_at w v.base x
PlainIs w v (Tables.Expr.Path x f) r = Unit {0}

pub record Readable (w : List ℕ) (v : View) : Type 0 where
  pub tables : Tables w
  pub base : v.base + frame_holder ≤ work_bytes
  pub objects : v.objects ≤ heap_objects
  pub object : (i : ℕ) → i < v.objects → ObjectFits w heap_fields i

-- the view of the running frame
abbrev pub view_of : Machine → View
view_of c = record { base = frame_at (c.frames - 1); objects = c.objects; holder = c.holder }
