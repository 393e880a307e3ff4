-- A step by the kind of its row is the definition's step.
use mathlib.Core.Path.{◌≡◌, sym, ap, ◌∙◌, subst}
use mathlib.Core.List.{List}
use mathlib.Core.Logic.{◌⊎◌, inl, inr}
use Prim.Native.Nat.{ℕ}
use lib.Dec.{T}
use Rattle.rules.specs.Grammar.{Set, Let, New, Call, Return, Assert, Release, If, Join, Loop, End, Open, Shut, statement_number, is_computing}
use Rattle.rules.specs.Syntax.{Row, Stmt}
use Rattle.rules.specs.Machine.{Config, Step, Room, statement_of, step, step_at, simple_step}
use Rattle.rules.specs.declared.Machine.{Machine}
use Rattle.tables.specs.Decode.{row_at, operands_at, stmt_at, kind_at, member_at, program_in}
use Rattle.tables.proofs.Rows.{method-get, class-get}
use Rattle.tables.proofs.Statements.{set-means, let-means, new-means, call-means, return-means, assert-means, release-means, if-means, else-means, join-means, loop-means, again-means, open-means, shut-means, end-means, compute-means}
use Rattle.run_steps.specs.States.{Turn}
use Rattle.run_steps.specs.States.{Represents, Follows, Does, CanStep, AtKind, Jumps, set_here, let_here, compute_here, assert_here, release_here, open_here, shut_here, if_here, loop_here, jump_here}
use Rattle.run_returns.proofs.Returning.{row-of}
use Rattle.run_steps.proofs.Doing.{fits}
use Rattle.run_calls.specs.Calls.{new_here, call_here}
use Rattle.run_returns.specs.Returns.{source_of, back_here}
use Rattle.run_returns.proofs.Resulting.{end_returns}

-- the statement that is done
statement : {w : List ℕ} {c : Machine} (m : Config) → Represents w c m → statement_of (program_in w) m.frame ≡ stmt_at w c.row
unfolding row_at statement_of
statement m R = ap (λ (r : Row). r.stmt) (row-of R.frame)

-- WHAT A STEP IS, by the kind of its row
module _ {w : List ℕ} {c : Machine} (room : Room) where
  step-as :
      (f : Config → Step) → ((m : Config) → step_at room (program_in w) (stmt_at w c.row) m ≡ f m) → (m : Config) → Represents w c m →
      step room (program_in w) m ≡ f m
  unfolding step
  step-as f e m R = ap (λ (s : Stmt). step_at room (program_in w) s m) (statement m R) ∙ e m

  pub set_is : AtKind w c Set → (m : Config) → Represents w c m → step room (program_in w) m ≡ set_here w c m
  unfolding step_at simple_step statement_number
  set_is k = step-as _ (λ m. rw (set-means w (operands_at w c.row) k))

  pub let-is : AtKind w c Let → (m : Config) → Represents w c m → step room (program_in w) m ≡ let_here w c m
  unfolding step_at simple_step statement_number
  let-is k = step-as _ (λ m. rw (let-means w (operands_at w c.row) k))

  pub new_is : CanStep w c → AtKind w c New → (m : Config) → Represents w c m → step room (program_in w) m ≡ new_here w c room m
  unfolding step_at simple_step statement_number
  new_is ready k =
      step-as _ (λ m. rw (new-means w (operands_at w c.row) k, class-get w (member_at w c.row) ((fits ready).class k)))

  pub call-is : CanStep w c → AtKind w c Call → (m : Config) → Represents w c m → step room (program_in w) m ≡ call_here w c m
  unfolding step_at simple_step statement_number
  call-is ready k =
      step-as _ (λ m. rw (call-means w (operands_at w c.row) k, method-get w (member_at w c.row) ((fits ready).method k)))

  pub back_is :
      AtKind w c Return ⊎ AtKind w c End → (m : Config) → Represents w c m → step room (program_in w) m ≡ back_here w c m
  unfolding step step_at statement_number source_of
  back_is (inl k) = step-as _ (λ m. rw (return-means w (operands_at w c.row) k, k))
  back_is (inr k) = λ m R.
      ap (λ (s : Stmt). step_at room (program_in w) s m) (statement m R) ∙ rw (end-means w (operands_at w c.row) k, k) (sym (end_returns R))

  pub assert-is : AtKind w c Assert ⊎ AtKind w c Join → (m : Config) → Represents w c m → step room (program_in w) m ≡ assert_here w c m
  unfolding step_at simple_step statement_number
  assert-is (inl k) = step-as _ (λ m. rw (assert-means w (operands_at w c.row) k))
  assert-is (inr k) = step-as _ (λ m. rw (join-means w (operands_at w c.row) k))

  pub release-is : AtKind w c Release → (m : Config) → Represents w c m → step room (program_in w) m ≡ release_here w c m
  unfolding step_at simple_step statement_number
  release-is k = step-as _ (λ m. rw (release-means w (operands_at w c.row) k))

  pub if-is : AtKind w c If → (m : Config) → Represents w c m → step room (program_in w) m ≡ if_here w c m
  unfolding step_at program_in statement_number
  if-is k = step-as _ (λ m. rw (if-means w (operands_at w c.row) k))

  pub loop-is : AtKind w c Loop → (m : Config) → Represents w c m → step room (program_in w) m ≡ loop_here w c m
  unfolding step_at program_in statement_number
  loop-is k = step-as _ (λ m. rw (loop-means w (operands_at w c.row) k))

  pub jump-is : Jumps w c → (m : Config) → Represents w c m → step room (program_in w) m ≡ jump_here w c m
  unfolding step_at program_in statement_number
  jump-is (inl k) = step-as _ (λ m. rw (else-means w (operands_at w c.row) k, k))
  jump-is (inr k) = step-as _ (λ m. rw (again-means w (operands_at w c.row) k, k))

  pub open_is : AtKind w c Open → (m : Config) → Represents w c m → step room (program_in w) m ≡ open_here w c m
  unfolding step_at simple_step statement_number
  open_is k = step-as _ (λ m. rw (open-means w (operands_at w c.row) k))

  pub shut-is : AtKind w c Shut → (m : Config) → Represents w c m → step room (program_in w) m ≡ shut_here w c m
  unfolding step_at simple_step statement_number
  shut-is k = step-as _ (λ m. rw (shut-means w (operands_at w c.row) k))

  pub compute-is :
      T (is_computing (kind_at w c.row)) → (m : Config) → Represents w c m → step room (program_in w) m ≡ compute_here w c m
  unfolding step_at simple_step statement_number
  compute-is t = step-as _ (λ m. rw (compute-means w (operands_at w c.row) t))

-- what the code does at a row is the step there
pub does-as :
    {w w' : List ℕ} {c : Machine} {r : Turn} {f g : Config → Step} → ((m : Config) → Represents w c m → g m ≡ f m) → Does w c w' r f →
    Does w c w' r g
does-as {w} {w'} {c} {r} e D = record { tables = D.tables; follows = λ m R. subst (Follows w' c r m) (sym (e m R)) (D.follows m R) }
