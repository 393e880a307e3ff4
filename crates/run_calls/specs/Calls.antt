-- What `call` and `new` do with the counters and the stores.
use Rattle.std.specs.Prelude.{◌≡◌, List, [], ◌⊎◌, ℕ, ◌+◌, ◌≤◌, ◌<◌, length, take}
use Rattle.rules.specs.Limits.{most_frames, most_methods}
use Rattle.rules.specs.Base.{ok, no}
use Rattle.rules.specs.declared.Machine.{Machine}
use Rattle.rules.specs.Machine.{Config, Step, Room, took, new_step, call_step}
use Rattle.tables.specs.Decode.{x_at, y_at, z_at, member_at, class_at, method_at, method_count, requires_at, first_row_at}
use Rattle.run_heap.specs.declared.Fault.{Fault}
use Rattle.run_heap.specs.declared.View.{View}
use Rattle.std.specs.Prelude.{Some, None, Ok, Err}
use Rattle.run_steps.specs.States.{Turn}
use Rattle.run_heap.specs.Views.{next_view, Readable, stop_of}
use Rattle.run_footprint.specs.Footprints.{footprint_shares, spread, marked, take_in, SharesFit}
use Rattle.run_steps.specs.States.{most_count}

-- WHAT THE DEFINITIONS DO at the row, by its operands

abbrev pub new_here : List ℕ → Machine → Room → Config → Step
new_here w c room m = took (new_step room (x_at w c.row) (class_at w (member_at w c.row)) m)

abbrev pub call_here : List ℕ → Machine → Config → Step
call_here w c m = took (call_step (y_at w c.row) (method_at w (member_at w c.row)) (z_at w c.row) m)

-- COUNTERS

-- a call more, which holds by a new number
abbrev pub called : Machine → ℕ → Machine
called c row =
    record {
      objects = c.objects;
      fields = c.fields;
      frames = c.frames + 1;
      row = row;
      holder = c.holders + 1;
      holders = c.holders + 1;
      steps = c.steps + 1;
    }

-- a call is entered with these shares, unless frames are full
abbrev pub Enters : List ℕ → Machine → ℕ → List ℕ → List ℕ → Turn → Type 0
Enters w c method ss w' (Ok (Some d)) =
    (c.frames < most_frames) × (w' ≡ marked w (spread w c.objects ss) c.holder (c.holders + 1)) × (d ≡ called c (first_row_at w method))
Enters w c method ss w' (Err f) = (most_frames ≤ c.frames) × (w' ≡ w) × (f ≡ Fault.FramesFull)
Enters w c method ss w' (Ok None) = ⊥

-- an object more, with n fields
abbrev pub larger : Machine → ℕ → ℕ → Machine
larger c n steps =
    record {
      objects = c.objects + 1;
      fields = c.fields + n;
      frames = c.frames;
      row = c.row;
      holder = c.holder;
      holders = c.holders;
      steps = steps;
    }

-- `call`: requires, read by this view, took these shares
pub record Entering (w : List ℕ) (c : Machine) (v : View) (method : ℕ) (shares : List ℕ) (n : ℕ) : Type 0 where
  pub view : v ≡ next_view c
  pub readable : Readable w v
  pub method_fits : method < most_methods
  pub more : c.steps < most_count
  pub numbers : c.holders < most_count
  pub size : length shares ≡ footprint_shares
  pub count : n ≤ footprint_shares
  pub fit : SharesFit (spread w v.objects (take n shares))

-- requires takes shares, and the call is entered; or it does not, and nothing is changed
abbrev pub Admits : List ℕ → Machine → ℕ → List ℕ → Turn → Type 0
Admits w c method w' r =
    ((ss : List ℕ) × (take_in w (next_view c) (requires_at w method) [] ≡ ok ss) × Enters w c method ss w' r)
    ⊎ ((s : Fault) × (take_in w (next_view c) (requires_at w method) [] ≡ no (stop_of s)) × (r ≡ Err s) × (w' ≡ w))

-- `call` with the next frame in its place
pub record Calling (w : List ℕ) (c : Machine) (method : ℕ) : Type 0 where
  pub readable : Readable w (next_view c)
  pub exists : method < method_count w
  pub more : c.steps < most_count
  pub numbers : c.holders < most_count
  pub fit : (ss : List ℕ) → take_in w (next_view c) (requires_at w method) [] ≡ ok ss → SharesFit (spread w c.objects ss)
