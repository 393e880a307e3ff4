-- Laws of the lists that the tables decode to: what stands at an index, and what follows it.
use mathlib.Core.Path.{◌≡◌, ap, ◌∙◌}
use mathlib.Core.List.{List, [], ◌∷◌}
use Prim.Native.Nat.{ℕ, suc, ◌<◌}
use native.Mathlib.Nat.{zero-add}
use lib.ListN.{length, get_or, drop}
use lib.Seq.{drop-cons}
use Rattle.rules.specs.Syntax.{Row, no_row, row_numbered, method_numbered}
use Rattle.tables.specs.Decode.{row_at, rows_from, all_rows, row_count, method_at, class_at, field_at, program_in, method_count, class_count, field_count_at}
use Rattle.tables.proofs.Runs.{run_length, run-get}

-- ROWS
pub row_get : (w : List ℕ) (i : ℕ) → i < row_count w → get_or (all_rows w) i no_row ≡ row_at w i
unfolding all_rows
row_get w i l = run-get (row_at w) 0 (row_count w) i no_row l ∙ ap (row_at w) (zero-add i)

pub rows-cons : (w : List ℕ) (n i : ℕ) → i < n → drop i (rows_from w 0 n) ≡ row_at w i ∷ drop (suc i) (rows_from w 0 n)
rows-cons w n i l =
    drop-cons (rows_from w 0 n) i no_row (rw run_length l)
    ∙ ap (λ (r : Row). r ∷ drop (suc i) (rows_from w 0 n)) (run-get (row_at w) 0 n i no_row l ∙ ap (row_at w) (zero-add i))

pub row_cons : (w : List ℕ) (i : ℕ) → i < row_count w → drop i (all_rows w) ≡ row_at w i ∷ drop (suc i) (all_rows w)
unfolding all_rows
row_cons w i l = rows-cons w (row_count w) i l

pub row_in : (w : List ℕ) (i : ℕ) → i < row_count w → row_numbered (program_in w) i ≡ row_at w i
unfolding program_in row_numbered
row_in w i l = row_get w i l

-- METHODS
pub method-get : (w : List ℕ) (m : ℕ) → m < method_count w → method_numbered (program_in w) m ≡ method_at w m
unfolding program_in method_numbered
method-get w m l = run-get (method_at w) 0 (method_count w) m _ l ∙ ap (method_at w) (zero-add m)

-- CLASSES
pub class-get : (w : List ℕ) (c : ℕ) → c < class_count w → get_or (program_in w).classes c [] ≡ class_at w c
unfolding program_in
class-get w c l = run-get (class_at w) 0 (class_count w) c [] l ∙ ap (class_at w) (zero-add c)

-- FIELDS
pub class-length : (w : List ℕ) (c : ℕ) → length (class_at w c) ≡ field_count_at w c
unfolding class_at
class-length w c = run_length (field_at w c) 0 (field_count_at w c)
