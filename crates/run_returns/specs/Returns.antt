-- What `end` and `return` do with the counters and the stores.
use Rattle.std.specs.Prelude.{◌≡◌, cond, List, [], ℕ, ◌+◌, ◌-◌, ◌≤◌, eqb, length, take}
use Rattle.rules.specs.Base.{ok}
use Rattle.rules.specs.Grammar.{End, statement_number}
use Rattle.rules.specs.Syntax.{result_variable}
use Rattle.rules.specs.declared.Machine.{Machine}
use Rattle.rules.specs.Machine.{Config, Step, return_step, end_step}
use Rattle.tables.specs.Decode.{kind_at, x_at, program_in, ensures_at}
use Rattle.run_heap.specs.Views.{method_of, view_of}
use Rattle.run_footprint.specs.Footprints.{footprint_shares, take_in}
use Rattle.run_steps.specs.States.{CanStep}

-- WHAT THE DEFINITIONS DO at the row, by its operands

-- the variable that is the result: of a `return` its x, of an `end` the result as it is
unfoldable pub source_of : List ℕ → ℕ → ℕ
source_of w i = cond (eqb (kind_at w i) (statement_number End)) result_variable (x_at w i)

-- `return`, and `end` as the return of the result
abbrev pub back_here : List ℕ → Machine → Config → Step
back_here w c = return_step (program_in w) (source_of w c.row)

abbrev pub end_here : List ℕ → Config → Step
end_here w m = end_step (program_in w) m m.callers

-- back in the caller, which holds by this number
abbrev pub back : Machine → ℕ → ℕ → Machine
back c holder row =
    record {
      objects = c.objects;
      fields = c.fields;
      frames = c.frames - 1;
      row = row;
      holder = holder;
      holders = c.holders;
      steps = c.steps + 1;
    }

-- `end` of a call: ensures took these shares
pub record Leaving (w : List ℕ) (c : Machine) (shares : List ℕ) (n : ℕ) : Type 0 where
  pub ready : CanStep w c
  pub inner : c.frames ≡ 1 → ⊥
  pub size : length shares ≡ footprint_shares
  pub count : n ≤ footprint_shares
  pub took : take_in w (view_of c) (ensures_at w (method_of w (c.frames - 1))) [] ≡ ok (take n shares)
