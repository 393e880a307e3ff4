-- The claim is not about equal states alone: two states of one text that agree and differ, a method that reads what it is handed, and
-- one that would read what it is not handed; pairs of texts whose catalogues differ in such a field.
use mathlib.Core.Path.{◌≡◌, refl, sym, ap}
use mathlib.Core.List.{List, [], ◌∷◌, ◌++◌}
use Prim.Native.Nat.{ℕ, zero, suc}
use Prim.Native.String.{String}
use native.Mathlib.Omega.{arith}
use lib.Dec.{T}
use lib.ListN.{replicate, take, drop}
use Rattle.rules.specs.Base.{all}
use Rattle.rules.specs.Answers.{Verdict, accepted, refused, ending_number}
use Rattle.rules.specs.Syntax.{Program}
use Rattle.rules.specs.Items.{Item}
use Rattle.rules.specs.Reading.{read_text, program}
use Rattle.rules.specs.Machine.{Config, Heap, Location, Step, on, stop, done, step, start, store, halves, value_at}
use Rattle.rules.specs.Calls.{computing, whole_heap}
use Rattle.rules.specs.Runs as Runs
use Rattle.rules.proofs.ExampleRows as ExampleRows
use Rattle.rules.proofs.ExampleRows.{Row, Call, right, check, run, trial, lean, text, row}
use Rattle.rules.proofs.Heaps.{store_other}
use Rattle.rules.proofs.Sets.{location-eq}
use Rattle.unseen.specs.Unseen as Unseen
use Rattle.unseen.specs.Unseen.{classes_of, Agree, Leaving, left, halted, Part, method_part}
use Rattle.unseen.proofs.SameSteps.{other}

-- main makes two cards, gives the second this value, and calls `look` of the first with it; `look` begins with these lines, from line 8 on
unfoldable pub catalogue : List String → String → List String
catalogue ls value =
    "class S" ∷
    "field S prev" ∷
    "field int n" ∷
    "method int look S w" ∷
    "requires read this n" ∷
    "ensures read this n" ∷
    "var int a" ∷
    (ls ++
    ("return a" ∷
    "end" ∷
    "main" ∷
    "var S s" ∷
    "var S t" ∷
    "var int x" ∷
    "var int y" ∷
    "new s S" ∷
    "new t S" ∷
    value ∷
    "set t n x" ∷
    "let x 0" ∷
    "call y s look t" ∷
    "end" ∷
    []))

-- ONE TEXT, TWO STATES

-- a value that the running frame does not hold any half of, stored where the object has that field: the states agree
pub stored-agree :
    (m : Config) (o f v : ℕ) → classes_of (store m.heap o f v) ≡ classes_of m.heap →
    halves m.frame.held (record { object = o; field = f }) ≡ 0 → Agree m (other (store m.heap o f v) m.callers m)
unfolding Runs.depth
stored-agree m o f v c z =
    record {
      frame = refl;
      calls = refl;
      alike = c;
      permitted =
          λ p i.
          store_other m.heap o f v p.object p.field
          (λ e.
          omega (arith, i, ap (λ (q : Location). halves m.frame.held q) (location-eq (sym e.0) e.1), z));
    }

unfoldable pub items_in : Verdict (List Item) → List Item
items_in (accepted items) = items
items_in (refused r l) = []

-- the program of a text in which `look` begins with this line
unfoldable pub looks : String → Program
looks l = program (items_in (read_text (text (catalogue (l ∷ []) "let x 5"))))

unfoldable pub after_step : Step → Config → Config
after_step (on a) m = a
after_step (stop s) m = m
after_step done m = m

-- the state after n steps
unfoldable pub reached : Program → ℕ → Config → Config
reached P zero m = m
reached P (suc n) m = let a : Config = after_step (step whole_heap P m) m in reached P n a

-- right after the `call` step, the sixth: the first card's n is 0, the second's 5
unfoldable pub called : String → Config
called l = reached (looks l) 6 (start (looks l))

-- the same with v for the n of card o; n is field 1
unfoldable pub called_with : ℕ → ℕ → String → Config
called_with o v l = other (store (called l).heap o 1 v) (called l).callers (called l)

-- reads what it is handed, and would read what it is not handed
abbrev pub reads : String
reads = "let a this.n"

abbrev pub peeks : String
peeks = "let a w.n"

-- all that these compute with
unfoldable opened : Unit {0}
unfolding Unseen.opened Runs.opened catalogue items_in looks after_step reached called called_with
opened = tt

-- THEY AGREE, AND DIFFER

-- two cards with these n
abbrev cards : ℕ → ℕ → Heap
cards v w =
    (record { name = 0; value = 0 } ∷ record { name = 1; value = v } ∷ []) ∷
    (record { name = 0; value = 0 } ∷ record { name = 1; value = w } ∷ []) ∷
    []

cards-alike : (h : Heap) → h ≡ cards 0 5 → classes_of (store h 2 1 9) ≡ classes_of h
unfolding computing opened
cards-alike h e = rw e refl

reads-heap : (called reads).heap ≡ cards 0 5
unfolding computing ExampleRows.opened opened
reads-heap = refl

peeks-heap : (called peeks).heap ≡ cards 0 5
unfolding computing ExampleRows.opened opened
peeks-heap = refl

reads_held : halves (called reads).frame.held (record { object = 2; field = 1 }) ≡ 0
unfolding computing ExampleRows.opened opened
reads_held = refl

peeks-held : halves (called peeks).frame.held (record { object = 2; field = 1 }) ≡ 0
unfolding computing ExampleRows.opened opened
peeks-held = refl

pub agree-reads : Agree (called reads) (called_with 2 9 reads)
unfolding called_with
agree-reads = stored-agree (called reads) 2 1 9 (cards-alike _ reads-heap) reads_held

pub agree-peeks : Agree (called peeks) (called_with 2 9 peeks)
unfolding called_with
agree-peeks = stored-agree (called peeks) 2 1 9 (cards-alike _ peeks-heap) peeks-held

pub differ : (value_at (called peeks).heap 2 1 ≡ 5) × (value_at (called_with 2 9 peeks).heap 2 1 ≡ 9)
unfolding computing ExampleRows.opened opened
differ = (refl, refl)

-- WHAT IS SEEN OF THEM
-- the lines, the count of steps, the number (0 where the method's `end` or `return` is done), and then the values of the caller's variables
unfoldable pub leaving_seen : Leaving → List ℕ
leaving_seen (left e) = 0 ∷ drop 2 e.frame.values
leaving_seen (halted s e) = ending_number s ∷ []

unfoldable pub seen : String → Config → List ℕ × ℕ × List ℕ
seen l m = let p : Part = method_part whole_heap (looks l) 99 m in (p.lines, p.count, take 5 (leaving_seen p.leaving))

-- the method reads what it is handed: in both states the lines 8 and 9, and y is 0
pub seen-handed :
    (seen reads (called reads) ≡ (8 ∷ 9 ∷ [], 2, 0 ∷ 1 ∷ 2 ∷ 0 ∷ 0 ∷ [])) × (seen reads (called_with 2 9 reads) ≡ (8 ∷ 9 ∷ [], 2, 0 ∷ 1 ∷ 2 ∷ 0 ∷ 0 ∷ []))
unfolding computing ExampleRows.opened opened leaving_seen seen
seen-handed = (refl, refl)

-- it would read what it is not handed: in both states it stops with 24 before its first step
pub stopped-alike :
    (seen peeks (called peeks) ≡ ([], 0, 24 ∷ [])) × (seen peeks (called_with 2 9 peeks) ≡ ([], 0, 24 ∷ []))
unfolding computing ExampleRows.opened opened leaving_seen seen
stopped-alike = (refl, refl)

-- what is handed over is seen: with another value in the first card's n, y is 9
pub seen-where-held : seen reads (called_with 1 9 reads) ≡ (8 ∷ 9 ∷ [], 2, 0 ∷ 1 ∷ 2 ∷ 0 ∷ 9 ∷ [])
unfolding computing ExampleRows.opened opened leaving_seen seen
seen-where-held = refl

-- PAIRS OF TEXTS

-- the second card's n is 0 in one text, 5 in the other: one answer
unfoldable pub pair : List String → Call → List ℕ → List Row
pair ls c a = row (catalogue ls "let x 0") c a ∷ row (catalogue ls "let x 5") c a ∷ []

-- a text that is run: s is 1, t is 2, x is 0, then y
unfoldable pub answered : ℕ → ℕ → ℕ → ℕ → List ℕ
answered number line steps y = number ∷ line ∷ steps ∷ 1 ∷ 2 ∷ 0 ∷ y ∷ replicate 8 0

abbrev pub pair_rows : List Row
pair_rows =
    -- what is handed over for reading is read; "This covers trial as well as run"
    pair (reads ∷ []) (run 99) (answered 0 22 9 0)
    ++ (pair (reads ∷ []) (trial 99) (answered 0 22 9 0)
    ++ (pair (reads ∷ []) (lean 99) (answered 0 22 9 0)
    -- "or 21"
    ++ (pair (reads ∷ []) (trial 7) (answered 21 9 7 0)
    -- each way to read what is not handed over stops with 24, in both: a `let`, a condition, a formula, a loop's, a walk, a `set`
    ++ (pair (peeks ∷ []) check (11 ∷ 8 ∷ [])
    ++ (pair (peeks ∷ []) (trial 99) (answered 24 8 6 0)
    ++ (pair ("if eq w.n 0" ∷ "let a 1" ∷ "else" ∷ "join" ∷ []) (trial 99) (answered 24 8 6 0)
    ++ (pair ("assert eq w.n 0" ∷ []) (trial 99) (answered 24 8 6 0)
    ++ (pair ("assert ne w.n 5" ∷ []) (trial 99) (answered 24 8 6 0)
    ++ (pair ("loop ne w.n 0" ∷ "again" ∷ []) (trial 99) (answered 24 8 6 0)
    ++ (pair ("loop ne a 0 eq w.n 0" ∷ "again" ∷ []) (trial 99) (answered 24 8 6 0)
    ++ (pair ("assert chain w prev" ∷ []) (trial 99) (answered 24 8 6 0)
    ++ (pair ("set w n a" ∷ []) (trial 99) (answered 24 8 6 0)
    -- half is handed over, and released: then it is not the method's any more
    ++ pair ("release read this n" ∷ reads ∷ []) (trial 99) (answered 24 9 7 0)))))))))))))

pub pairs-right : T (all right pair_rows)
unfolding computing ExampleRows.opened catalogue pair answered
pairs-right = tt
