-- What is printed, by what check and trial return and the bytes of the results area.
use Rattle.std.specs.Prelude.{◌≡◌, Bool, false, cond, List, [], ◌∷◌, ◌++◌, ℕ, zero, suc, ◌+◌, ◌%◌}
use Rattle.rules.specs.Base.{Name, bytes, between}
use Rattle.rules.specs.Limits.{values_shown, program_steps}
use Rattle.rules.specs.Text.{digit_zero}
use Rattle.rules.specs.Answers.{accepted}
use Rattle.rules.specs.Items.{Item}
use Rattle.rules.specs.Reading.{read_text}
use Rattle.rules.specs.Calls.{Result, check_text, trial_text}
use Rattle.rules.specs.Areas.{packed, number_in, line_in, result_bytes}
use Rattle.rules.specs.Printed.{digits, signed, printed_line, main_variables, printed_run}
use Rattle.tables.specs.Numbers.{word_size}
use Rattle.tables.specs.Decode.{word_at}

-- all that is printed fits
abbrev pub out_bytes : ℕ
out_bytes = 512

-- how many bytes at most a number of 32 bits has, and one with its sign
abbrev pub number_bytes : ℕ
number_bytes = 10

abbrev pub signed_bytes : ℕ
signed_bytes = 11

-- the line of `check`, with two numbers, and that of `run`, with three
abbrev pub check_bytes : ℕ
check_bytes = 28

abbrev pub run_bytes : ℕ
run_bytes = 37

-- the line of a variable beside its name: `var`, a value, two tabs and LF
abbrev pub variable_bytes : ℕ
variable_bytes = 17

-- the lowest digit of n
abbrev pub low_digit : ℕ → ℕ
low_digit n = digit_zero + n % 10

-- n words of an area, from place i on
unfoldable pub words_from : ℕ → ℕ → List ℕ → List ℕ
words_from zero i b = []
words_from (suc n) i b = word_at b i ∷ words_from n (i + word_size) b

-- 1 to 9: the text is not read
abbrev pub is_unread : ℕ → Bool
is_unread n = between 1 9 n

-- the twelve values of a results area, which stand after the steps
abbrev pub values_in : List ℕ → List ℕ
values_in b = words_from values_shown word_size b

-- what `trial` returned and left in the results area
unfoldable pub result_in : ℕ → List ℕ → Result
result_in ran b =
    record { number = number_in ran; line = line_in ran; steps = word_at b 0; values = values_in b }

-- `check` number line
abbrev pub check_line : ℕ → Name
check_line checked = printed_line (bytes "check") (digits (number_in checked) ∷ digits (line_in checked) ∷ [])

-- `run` number line steps
abbrev pub run_line : ℕ → ℕ → Name
run_line ran steps = printed_line (bytes "run") (digits (number_in ran) ∷ digits (line_in ran) ∷ digits steps ∷ [])

-- `var` name value
abbrev pub variable_line : Name → ℕ → Name
variable_line x v = printed_line (bytes "var") (x ∷ signed v ∷ [])

-- the line of `check`; then, unless its number is 1 to 9, those of `run` and of main's variables
unfoldable pub printed_answers : List ℕ → ℕ → ℕ → List ℕ → List ℕ
printed_answers t checked ran b =
    let more : Name = printed_run (result_in ran b) (main_variables (read_text t)) in
    check_line checked ++ cond (is_unread (number_in checked)) [] more

-- Unless the number is 1 to 9, the text is read.
abbrev pub ReadUnless : List ℕ → ℕ → Type 0
ReadUnless t checked = is_unread (number_in checked) ≡ false → (items : List Item) × (read_text t ≡ accepted items)

-- WHAT THE CALLS GIVE

-- Both calls returned, and `trial` left its results.
pub record Called (t : List ℕ) (checked ran : ℕ) (b : List ℕ) : Type 0 where
  pub check : checked ≡ packed (check_text t).0 (check_text t).1
  pub trial : ran ≡ packed (trial_text t program_steps).number (trial_text t program_steps).line
  pub results : b ≡ result_bytes (trial_text t program_steps)
