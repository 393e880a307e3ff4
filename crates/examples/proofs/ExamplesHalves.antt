-- Examples of read shares (W8): half a permission shown, taken, added, handed over and written by.
use mathlib.Core.List.{List, [], ◌∷◌}
use Prim.Native.String.{String}
use lib.Dec.{T}
use Rattle.rules.specs.Base.{all}
use Rattle.rules.specs.Calls.{computing}
use Rattle.rules.proofs.ExampleRows as ExampleRows
use Rattle.rules.proofs.ExampleTexts as ExampleTexts
use Rattle.rules.proofs.ExampleTexts.{of_two, with_card}
use Rattle.rules.proofs.ExampleRows.{Row, right, check, run, trial, row, three, with_line}

-- half goes with the call and comes back; what is known of the path stays
pub shared : List String
shared =
    "class S" ∷
    "field int n" ∷
    "method int look int k" ∷
    "requires read this n" ∷
    "ensures read this n" ∷
    "assert eq this.n this.n" ∷
    "end" ∷
    "main" ∷
    "var S s" ∷
    "var int a" ∷
    "var int b" ∷
    "new s S" ∷
    "call b s look a" ∷
    "assert eq s.n 0 acc s n" ∷
    "set s n a" ∷
    "end" ∷
    []

-- both halves go with the call, as two `read`, and the method writes
pub written_by_two_reads : List String
written_by_two_reads =
    with_line 4 "requires read this n read this n" (with_line 6 "set this n k" (with_line 14 "assert" (with_line 15 "assert" shared)))

abbrev pub half_rows : List Row
half_rows =
    -- W8: "Two people want to read one card while neither writes it"; both halves that came back are `acc` again
    row shared check (0 ∷ 0 ∷ []) ∷
    row shared (run 1000) (0 ∷ 16 ∷ 7 ∷ three 1 0 0) ∷
    row (with_line 5 "ensures" shared) check (12 ∷ 14 ∷ []) ∷
    row (with_line 5 "ensures" shared) (trial 1000) (24 ∷ 14 ∷ 4 ∷ three 1 0 0) ∷
    -- "Reading needs one half, `set` both."
    row (with_line 6 "set this n k" shared) check (12 ∷ 6 ∷ []) ∷
    row (with_line 6 "set this n k" shared) (trial 1000) (24 ∷ 6 ∷ 2 ∷ three 1 0 0) ∷
    -- "`read` is shown by the first listed, unconsumed `acc` or `read`; taken from an `acc` it leaves a `read` of that path with its facts"
    row (with_card ("release read s n" ∷ "assert read s n eq s.n 0" ∷ [])) check (0 ∷ 0 ∷ []) ∷
    row (with_card ("release read s n" ∷ "set s n a" ∷ [])) check (12 ∷ 12 ∷ []) ∷
    row (with_card ("release read s n" ∷ "set s n a" ∷ [])) (trial 1000) (24 ∷ 12 ∷ 2 ∷ three 1 0 0) ∷
    row (with_card ("release read s n read s n" ∷ "assert eq s.n 0" ∷ [])) check (11 ∷ 12 ∷ []) ∷
    row (with_card ("assert read s n read s n" ∷ [])) (run 1000) (0 ∷ 12 ∷ 3 ∷ three 1 0 0) ∷
    row (with_card ("assert read s n read s n read s n" ∷ [])) check (12 ∷ 11 ∷ []) ∷
    row (with_card ("assert read s n read s n read s n" ∷ [])) (trial 1000) (24 ∷ 11 ∷ 1 ∷ three 1 0 0) ∷
    row (with_card ("assert read s n acc s n" ∷ [])) check (12 ∷ 11 ∷ []) ∷
    row (with_card ("assert read s n acc s n" ∷ [])) (trial 1000) (24 ∷ 11 ∷ 1 ∷ three 1 0 0) ∷
    row (with_card ("assert acc s n read s n" ∷ [])) check (12 ∷ 11 ∷ []) ∷
    -- "A `read` added, atom by atom, where a `read` of an equal path is listed turns the first such into `acc`."
    row (of_two "requires read this n read this n" ("assert acc this n" ∷ [])) check (0 ∷ 0 ∷ []) ∷
    row (of_two "requires eq this w read this n read w n" ("assert acc w n" ∷ [])) check (0 ∷ 0 ∷ []) ∷
    row (of_two "requires read this n read this n read this n" ("assert acc this n read this n" ∷ [])) check (0 ∷ 0 ∷ []) ∷
    -- "`acc` is shown by an unconsumed `acc` alone, never by a `read`, nor by two of equal paths."
    row (of_two "requires read this n" ("assert acc this n" ∷ [])) check (12 ∷ 6 ∷ []) ∷
    row (of_two "requires read this n read w n eq this w" ("assert acc this n" ∷ [])) check (12 ∷ 6 ∷ []) ∷
    row (of_two "requires read this n read w n eq this w" ("assert read this n read this n" ∷ [])) check (0 ∷ 0 ∷ []) ∷
    -- "Way (d) of showing `ne` needs an `acc` among the two."
    row (of_two "requires acc this n read w n" ("assert ne this w" ∷ [])) check (0 ∷ 0 ∷ []) ∷
    row (of_two "requires read this n acc w n" ("assert ne this w" ∷ [])) check (0 ∷ 0 ∷ []) ∷
    -- "For number 10, `read x f` serves as `acc x f` does."
    row (of_two "requires read this n eq this.n 1" []) check (0 ∷ 0 ∷ []) ∷
    row (of_two "requires eq this.n 1 read this n" []) check (10 ∷ 4 ∷ []) ∷
    -- "only fields handed over whole may change: .. be it by two `read`"
    row (with_line 4 "requires read this n read this n" (with_line 6 "set this n k" shared)) check (13 ∷ 14 ∷ []) ∷
    row written_by_two_reads (run 1000) (0 ∷ 16 ∷ 7 ∷ three 1 0 0) ∷
    -- the condition of an `if` or a `loop` is "`eq` or `ne`"
    row (with_card ("if read s n" ∷ "else" ∷ "join" ∷ [])) check (4 ∷ 11 ∷ []) ∷
    row (with_card ("loop read s n" ∷ "again" ∷ [])) check (4 ∷ 11 ∷ []) ∷
    []

pub halves-right : T (all right half_rows)
unfolding computing ExampleRows.opened ExampleTexts.opened shared written_by_two_reads
halves-right = tt
