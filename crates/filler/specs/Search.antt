-- The search for the first set: what is known while it goes on, and what it answers.
use Rattle.std.specs.Prelude.{◌≡◌, Bool, true, false, cond, List, [], ◌++◌, ℕ, suc, pred, ◌+◌, ◌-◌, ◌≤◌, ◌<◌, length, get_or, take, replicate}
use Rattle.std.proofs.Math.Option.{Option, none, some}
use Rattle.rules.specs.Base.{first}
use Rattle.rules.specs.Limits.{most_fields, most_filled, places_bytes, work_bytes}
use Rattle.rules.specs.Reading as Reading
use Rattle.rules.specs.Rules.{check_program}
use Rattle.rules.specs.Fill.{places_from, choose}
use Rattle.rules.specs.Calls.{is_accepted}
use Rattle.filling.specs.Sets.{accesses_in, no_access, formula_of, program_with, is_accepted_with, set_in}
use Rattle.tables.specs.Layout.{most_names, frame_variables, most_atom_rows, atoms_at}
use Rattle.tables.specs.Decode.{run, byte_at, atom_place, atoms_from, atom_count, method_count, program_in}
use Rattle.tables.specs.Tables.{Tables}
use Rattle.tables.specs.Stores.{Kept}
use Rattle.fill_rows.specs.Rewrites.{Spared, AtomsThere, SameBut, SetPut}
use Rattle.fill_blocks.specs.Blocks.{others_pass}
use Rattle.filler.specs.declared.Sought.{Sought}
use Rattle.filler.specs.declared.Access.{Access}

-- the atoms to choose from
abbrev pub accesses_of : List ℕ → Sought → List Reading.Access
accesses_of w s = accesses_in (program_in w).classes s.class s.parameter

-- blocks that do not call the method are accepted, whatever its requires
pub record Ready (w : List ℕ) (s : Sought) : Type 0 where
  pub spared : Spared w s.method s.first
  pub own : s.own ≡ length (get_or (program_in w).classes s.class [])
  pub count : s.count ≡ s.own + length (get_or (program_in w).classes s.parameter [])
  pub own_few : s.own ≤ most_fields
  pub few : s.count ≤ s.own + most_fields
  pub apart : others_pass (program_in w) s.method false ≡ true

-- `acc x f` is at place p
pub record AccessIs (w : List ℕ) (s : Sought) (p : ℕ) (a : Access) : Type 0 where
  pub variable : a.variable ≡ (get_or (accesses_of w s) (pred p) no_access).variable
  pub field : a.field ≡ (get_or (accesses_of w s) (pred p) no_access).field
  pub few : a.variable < frame_variables
  pub names : a.field < most_names

-- n places from place i of an area on
abbrev pub places_in : List ℕ → ℕ → ℕ → List ℕ
places_in b i n = run (byte_at b) i n

-- the first k atoms written are those at the first k places
pub record HasSet (w : List ℕ) (s : Sought) (b : List ℕ) (k : ℕ) : Type 0 where
  pub there : AtomsThere w s.first k
  pub atoms : atoms_from w s.first k ≡ formula_of (accesses_of w s) (places_in b 0 k)

-- place p is the one more, as the atom i
pub record Chosen (w : List ℕ) (s : Sought) (b : List ℕ) (i p : ℕ) (w' b' : List ℕ) : Type 0 where
  pub ready : Ready w' s
  pub same : SameBut s.method w w'
  pub more : HasSet w s b i → HasSet w' s b' (suc i)
  pub before : Kept atoms_at (atom_place (s.first + i)) w w'
  pub place : byte_at b' i ≡ p
  pub others : (j : ℕ) → (j ≡ i → ⊥) → byte_at b' j ≡ byte_at b j
  pub four : length b' ≡ places_bytes
  pub size : length w' ≡ length w

-- the answer for the first k atoms
pub record Tried (w : List ℕ) (s : Sought) (k : ℕ) (r : Bool) (w' : List ℕ) : Type 0 where
  pub answer : r ≡ is_accepted (check_program (program_with s.method (atoms_from w s.first k) (program_in w)))
  pub put : SetPut w s.method s.first k w'

-- the set with those chosen and these places more
unfoldable pub passes_with : List ℕ → Sought → List ℕ → List ℕ → Bool
passes_with w s ps qs = is_accepted_with (program_in w) s.method (accesses_of w s) (ps ++ qs)

pub record Seeking (w : List ℕ) (s : Sought) (b : List ℕ) (left chosen p : ℕ) : Type 0 where
  pub ready : Ready w s
  pub set : HasSet w s b chosen
  pub room : chosen + left ≤ most_filled
  pub low : 1 ≤ p
  pub four : length b ≡ places_bytes

-- the first of the sets that pass is left in the area, or none does
pub record Finds (w : List ℕ) (s : Sought) (b : List ℕ) (left chosen p : ℕ) (r : Bool) (w' b' : List ℕ) : Type 0 where
  pub answer :
      first (passes_with w s (places_in b 0 chosen)) (choose left (places_from p (suc s.count - p)))
      ≡ cond r (some (places_in b' chosen left)) none
  pub ready : Ready w' s
  pub same : SameBut s.method w w'
  pub before : Kept atoms_at (atom_place (s.first + chosen)) w w'
  pub chosen_kept : (j : ℕ) → j < chosen → byte_at b' j ≡ byte_at b j
  pub later_kept : (j : ℕ) → chosen + left ≤ j → byte_at b' j ≡ byte_at b j
  pub four : length b' ≡ places_bytes
  pub size : length w' ≡ length w

-- THE WHOLE SEARCH

pub record Fits (w : List ℕ) (m : ℕ) : Type 0 where
  pub tables : Tables w
  pub method : m < method_count w
  pub spare : atom_count w + most_filled ≤ most_atom_rows
  pub apart : others_pass (program_in w) m false ≡ true

-- the set that the area holds: its places, then zeros
pub record Held (b : List ℕ) (ps : List ℕ) : Type 0 where
  pub is : take places_bytes (ps ++ replicate places_bytes 0) ≡ b

unfoldable pub SetIs : Option (List ℕ) → Bool → List ℕ → Type 0
SetIs o true b = (ps : List ℕ) × (o ≡ some ps) × Held b ps
SetIs o false b = o ≡ none

pub record Fills (w : List ℕ) (m c d : ℕ) (r : Bool) (w' b' : List ℕ) : Type 0 where
  pub answer : SetIs (set_in (program_in w) m (accesses_in (program_in w).classes c d)) r b'
  pub four : length b' ≡ places_bytes
  pub size : length w' ≡ work_bytes
