-- What is written is what is printed.
use mathlib.Core.Path.{◌≡◌, sym, ap, ◌∙◌}
use mathlib.Core.Bool.{true, false}
use mathlib.Core.List.{List, [], ◌∷◌, ◌++◌, append-nil}
use Prim.Native.Nat.{ℕ, ◌+◌, ◌≤◌}
use native.Mathlib.Omega.{arith}
use lib.ListN.{length, length-append}
use Rattle.rules.specs.Areas.{number_in, line_in}
use Rattle.rules.specs.Base.{Name, bytes, between}
use Rattle.rules.specs.Printed.{digits, printed_line, printed_variables, printed_run}
use Rattle.rules.specs.Items.{Item}
use Rattle.rules.specs.Answers.{accepted}
use Rattle.rules.specs.Reading.{read_text}
use Rattle.tables.specs.Decode.{word_at}
use Rattle.read_declarations.specs.Texts.{lines_of}
use Rattle.printer.specs.Writes.{Writes, Prints}
use Rattle.printer.specs.Answers.{values_in, result_in, check_line, run_line, printed_answers}
use Rattle.printer.specs.Variables.{locals}
use Rattle.printer.proofs.Writes.{digits-short}
use Rattle.printer.proofs.Reading.{main-locals}

-- LENGTHS
field-few : (n : ℕ) (rest : Name) → length (digits n ++ rest) ≤ 10 + length rest
field-few n rest = omega (arith, length-append (digits n) rest, digits-short n)

pub check-few : (c : ℕ) → length (check_line c) ≤ 28
unfolding printed_line bytes
check-few c =
    let b : Name = digits (line_in c) ++ (10 ∷ []) in
    omega (arith, field-few (number_in c) (9 ∷ b), field-few (line_in c) (10 ∷ []))

pub run-few : (c n : ℕ) → length (run_line c n) ≤ 37
unfolding printed_line bytes
run-few c n =
    let d : Name = digits n ++ (10 ∷ []) in
    let b : Name = digits (line_in c) ++ (9 ∷ d) in
    omega (arith, field-few (number_in c) (9 ∷ b), field-few (line_in c) (9 ∷ d), field-few n (10 ∷ []))

-- THE WHOLE
pub written : {o bs cs p : List ℕ} {r : ℕ} → Writes o 0 bs p r → bs ≡ cs → Prints cs p r
written x e = record { high = x.high; are = x.are ∙ e }

module _ (t : List ℕ) (checked ran : ℕ) (b : List ℕ) where
  pub unread-printed : between 1 9 (number_in checked) ≡ true → check_line checked ≡ printed_answers t checked ran b
  unfolding printed_answers
  unread-printed e = rw e (sym (append-nil (check_line checked)))

  pub read-printed :
      between 1 9 (number_in checked) ≡ false → (items : List Item) → read_text t ≡ accepted items →
      check_line checked ++ (run_line ran (word_at b 0) ++ printed_variables (locals [] (lines_of t)) (values_in b))
      ≡ printed_answers t checked ran b
  unfolding printed_answers printed_run result_in
  read-printed e items f =
      rw e (ap (λ xs. check_line checked ++ (run_line ran (word_at b 0) ++ printed_variables xs (values_in b))) (sym (main-locals t items f)))
