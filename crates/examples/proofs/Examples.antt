-- The common theorem on examples: those of documents 01 and 02, a text against each reading that is tempting and wrong, and the rows of
-- the files `Examples*`, which pin the definitions sentence by sentence.
use mathlib.Core.Path.{◌≡◌}
use mathlib.Core.List.{List, [], ◌∷◌, ◌++◌}
use Prim.Native.Nat.{ℕ, zero, suc, ◌<◌}
use native.Mathlib.Nat.{not-suc-le-zero, le_of_suc-le-suc}
use lib.Dec.{T}
use lib.ListN.{length, get_or}
use Rattle.rules.specs.Base.{all}
use Rattle.rules.proofs.Lists.{and_intro, and_both, same_name}
use Rattle.rules.proofs.ExampleRows.{Row, check, answer, bare, right}
use Rattle.rules.proofs.Examples.{rows, rows_right}
use Rattle.examples.proofs.ExamplesText.{text_rows, text-right}
use Rattle.examples.proofs.ExamplesNames.{name_rows, names-right}
use Rattle.examples.proofs.ExamplesChecker.{state_rows, rule_rows, state-right, rules-right}
use Rattle.examples.proofs.ExamplesMachine.{machine_rows, machine-right}
use Rattle.examples.proofs.ExamplesHalves.{half_rows, halves-right}
use Rattle.examples.proofs.ExamplesChains.{chain_rows, chains-right}
use Rattle.examples.proofs.ExamplesCalls.{call_rows, calls-right}
use Rattle.examples.proofs.ExamplesLean.{lean_rows, lean-right}
use Rattle.examples.proofs.ExamplesFill.{fill_rows, fill-right}
use Rattle.examples.proofs.ExamplesJoint.{joint_rows, joint-right}

-- all rows
abbrev pub every_row : List Row
every_row =
    rows
    ++ (text_rows
    ++ (name_rows
    ++ (state_rows
    ++ (rule_rows ++ (machine_rows ++ (half_rows ++ (chain_rows ++ (call_rows ++ (lean_rows ++ (fill_rows ++ joint_rows))))))))))

both_right : (l m : List Row) → T (all right l) → T (all right m) → T (all right (l ++ m))
unfolding all
both_right [] m h k = k
both_right (r ∷ l) m h k =
    let (x, y) = and_both (right r) (all right l) h in and_intro (right r) (all right (l ++ m)) x (both_right l m y k)

all_right : T (all right every_row)
all_right =
    both_right rows _ rows_right
    (both_right text_rows _ text-right
    (both_right name_rows _ names-right
    (both_right state_rows _ state-right
    (both_right rule_rows _ rules-right
    (both_right machine_rows _ machine-right
    (both_right half_rows _ halves-right
    (both_right chain_rows _ chains-right
    (both_right call_rows _ calls-right
    (both_right lean_rows _ lean-right
    (both_right fill_rows joint_rows fill-right joint-right))))))))))

right-at : (rs : List Row) (d : Row) (i : ℕ) → i < length rs → T (all right rs) → T (right (get_or rs i d))
unfolding all
right-at [] d i l t = absurd (not-suc-le-zero l)
right-at (r ∷ rs) d zero l t = (and_both (right r) (all right rs) t).0
right-at (r ∷ rs) d (suc i) l t = right-at rs d i (le_of_suc-le-suc l) (and_both (right r) (all right rs) t).1

abbrev pub row_numbered : ℕ → Row
row_numbered i = get_or every_row i (bare [] check [])

-- The common theorem: what each row says is so.
pub examples : (i : ℕ) → i < length every_row → answer (row_numbered i).text (row_numbered i).call ≡ (row_numbered i).answer
unfolding right
examples i l = same_name _ _ (right-at every_row (bare [] check []) i l all_right)
