-- What the walk knows and keeps: methods that are reckoned, blocks that are counted in part, and the route.
use Rattle.std.specs.Prelude as Std
use Rattle.std.specs.Prelude.{◌≡◌, cond, Result, Ok, Err, List, [], ◌∷◌, map, ℕ, suc, ◌+◌, ◌*◌, ◌≤◌, ◌<◌, max, T, leb, length, get_or, set, replicate}
use Rattle.std.proofs.Math.Option.{Option, none, some}
use Rattle.rules.specs.Base.{Member}
use Rattle.rules.specs.Limits.{most_bound, most_methods}
use Rattle.rules.specs.Syntax.{Row, Program}
use Rattle.rules.specs.Bounds.{Block, is_loop, block, callees, greatest, block_bound, method_bound, block_frames, method_frames, main_bound, main_frames, first_repeating}
use Rattle.tables.specs.Decode.{row_count, method_count, program_in}
use Rattle.bound_laws.specs.Routes.{block_at, calls, Loopless}
use Rattle.bound_rows.specs.Lines.{blocks_in}
use Rattle.bound_walk.specs.declared.Visit.{Visit}
use Rattle.bound_walk.specs.declared.Visit.TheVariants.{NotVisited, OnRoute, Done}
use Rattle.bound_walk.specs.declared.Reckoned.{Reckoned}
use Rattle.bound_walk.specs.declared.Open.{Open}
use Rattle.bound_walk.specs.declared.Halt.{Halt}
use Rattle.bound_walk.specs.declared.Halt.TheVariants as Halts
use Rattle.bound_walk.specs.declared.Scanned.{Scanned}
use Rattle.bound_walk.specs.declared.Route.{Route}
use Rattle.bound_walk.specs.declared.Bound.{Bound}
use Rattle.bound_walk.specs.declared.Refusal.{Refusal}
use Rattle.bound_walk.specs.declared.Refusal.TheVariants.{Unbounded, Passed}
use Rattle.bound_walk.specs.Counting.{cap, fresh}

-- METHODS

-- neither it nor what it calls has a loop, and no route from it comes back
pub data Settled (bs : List Block) : ℕ → Type 0 where
  settled : {n : ℕ} → Loopless (block_at bs n) → ((c : ℕ) → Member c (calls bs n) → Settled bs c) → Settled bs n

-- what is known of the method n is right
abbrev pub Right : List Block → ℕ → Visit → ℕ → Type 0
Right bs n NotVisited f = Unit {0}
Right bs n OnRoute f = Unit {0}
Right bs n (Done b) f = Settled bs n × (b ≡ cap (method_bound bs n)) × (f ≡ method_frames bs n)

abbrev pub Sound : List Block → List Reckoned → Type 0
Sound bs marks = (n : ℕ) → Right bs n (get_or marks n fresh).visit (get_or marks n fresh).frames

-- in the tables
abbrev pub SoundIn : List ℕ → List Reckoned → Type 0
SoundIn w marks = Sound (blocks_in w) marks

-- BLOCKS

-- a block that is counted up to its rest
pub record Part (bs : List Block) (whole rest : Block) (sum frames : ℕ) : Type 0 where
  pub inside : (r : Row) → Member r rest → Member r whole
  pub loopless : Loopless rest → Loopless whole
  pub settles : ((c : ℕ) → Member c (callees rest) → Settled bs c) → (c : ℕ) → Member c (callees whole) → Settled bs c
  pub sum_is : cap (sum + block_bound (method_bound bs) rest) ≡ cap (block_bound (method_bound bs) whole)
  pub frames_is :
      max frames (greatest (map (method_frames bs) (callees rest))) ≡ greatest (map (method_frames bs) (callees whole))
  pub fits : sum ≤ suc most_bound

abbrev pub PartAt : List ℕ → Block → Open → Type 0
PartAt w whole o = Part (blocks_in w) whole (block (program_in w) o.row) o.sum o.frames × (o.row < row_count w)

-- it is counted to its end
pub record Ended (bs : List Block) (whole : Block) (o : Open) : Type 0 where
  pub loopless : Loopless whole
  pub settles : (c : ℕ) → Member c (callees whole) → Settled bs c
  pub sum : o.sum ≡ cap (block_bound (method_bound bs) whole)
  pub frames : o.frames + 1 ≡ block_frames (method_frames bs) whole

abbrev pub NotDone : Visit → Type 0
NotDone NotVisited = Unit {0}
NotDone OnRoute = Unit {0}
NotDone (Done b) = ⊥

-- it waits for the method c
pub record Waits (w : List ℕ) (marks : List Reckoned) (whole : Block) (o : Open) (c : ℕ) : Type 0 where
  pub part : PartAt w whole o
  pub called : Member c (callees whole)
  pub not_done : NotDone (get_or marks c fresh).visit

abbrev pub HasLoop : Block → Type 0
HasLoop b = (r : Row) × Member r b × T (is_loop r.stmt)

abbrev pub Stops : List ℕ → List Reckoned → Block → Open → Halt → Type 0
Stops w marks whole o Halts.End = Ended (blocks_in w) whole o
Stops w marks whole o Halts.Loop = HasLoop whole
Stops w marks whole o (Halts.Wait c) = Waits w marks whole o c

-- counted on from o, whatever block it is that o has counted in part
pub record Scans (w : List ℕ) (marks : List Reckoned) (o : Open) (s : Scanned) : Type 0 where
  pub method : s.block.method ≡ o.method
  pub stops : (whole : Block) → PartAt w whole o → Stops w marks whole s.block s.found

-- THE ROUTE

abbrev pub no_open : Open
no_open = record { method = 0; row = 0; sum = 0; frames = 0 }

abbrev pub is_new : Visit → ℕ
is_new NotVisited = 1
is_new OnRoute = 0
is_new (Done b) = 0

-- how many are not visited
unfoldable pub new_ones : List Reckoned → ℕ
new_ones [] = 0
new_ones (r ∷ rs) = is_new r.visit + new_ones rs

-- each block of the route, but the outermost, is of a method that the one before it calls, and the methods on the route are theirs
pub record Walking (w : List ℕ) (r : Route) : Type 0 where
  pub sound : SoundIn w r.marks
  pub parts : (k : ℕ) → k < r.depth → PartAt w (block_at (blocks_in w) (get_or r.blocks k no_open).method) (get_or r.blocks k no_open)
  pub exist : (k : ℕ) → k < r.depth → (get_or r.blocks k no_open).method < method_count w
  pub chain :
      (k : ℕ) → suc k < r.depth →
      Member (get_or r.blocks (suc k) no_open).method (calls (blocks_in w) (get_or r.blocks k no_open).method)
  pub covered : (n : ℕ) → (get_or r.marks n fresh).visit ≡ OnRoute → (k : ℕ) × (k < r.depth) × ((get_or r.blocks k no_open).method ≡ n)
  pub room : r.depth + new_ones r.marks ≤ most_methods
  pub marks_length : length r.marks ≡ most_methods
  pub blocks_length : length r.blocks ≡ suc most_methods

-- what is left to do
abbrev pub turns_left : Route → ℕ
turns_left r = 2 * new_ones r.marks + r.depth

-- a line is refused
abbrev pub NoBound : List ℕ → Type 0
NoBound w = first_repeating (program_in w) ≡ none → ⊥

unfoldable pub left : Route → ℕ → Open → Route
left r top b =
    record {
      marks = set r.marks b.method (record { visit = Done b.sum; frames = b.frames + 1 });
      blocks = r.blocks;
      depth = top;
    }

unfoldable pub into : Route → ℕ → Open → ℕ → ℕ → Route
into r top b c first =
    record {
      marks = set r.marks c (record { visit = OnRoute; frames = 0 });
      blocks = set (set r.blocks top b) (top + 1) (record { method = c; row = first; sum = 0; frames = 0 });
      depth = top + 2;
    }

-- no bound, where the method is on the route
unfoldable pub waiting : Route → ℕ → Open → ℕ → ℕ → Visit → Std.Option Route
waiting r top b c first NotVisited = Std.Some (into r top b c first)
waiting r top b c first OnRoute = Std.None
waiting r top b c first (Done n) = Std.Some (into r top b c first)

-- a method that was come to stays so
abbrev pub Keeps : List Reckoned → List Reckoned → Type 0
Keeps marks marks' = (n : ℕ) → is_new (get_or marks n fresh).visit ≡ 0 → is_new (get_or marks' n fresh).visit ≡ 0

-- one turn: there is no bound, or the route goes on with less to do
abbrev pub Turned : List ℕ → Route → Std.Option Route → Type 0
Turned w r Std.None = NoBound w
Turned w r (Std.Some r') = Walking w r' × (turns_left r' < turns_left r) × Keeps r.marks r'.marks

-- A WALK FROM ONE METHOD

unfoldable pub begun : List Reckoned → ℕ → ℕ → Route
begun marks start first =
    record {
      marks = set marks start (record { visit = OnRoute; frames = 0 });
      blocks = set (replicate (suc most_methods) no_open) 0 (record { method = start; row = first; sum = 0; frames = 0 });
      depth = 1;
    }

abbrev pub FreshAt : List Reckoned → ℕ → Type 0
FreshAt marks n = (get_or marks n fresh).visit ≡ NotVisited

-- no method is on a route
pub record Rested (w : List ℕ) (marks : List Reckoned) : Type 0 where
  pub sound : SoundIn w marks
  pub idle : (n : ℕ) → (get_or marks n fresh).visit ≡ OnRoute → ⊥
  pub size : length marks ≡ most_methods

abbrev pub Settles : List ℕ → List Reckoned → ℕ → Std.Option (List Reckoned) → Type 0
Settles w marks start Std.None = NoBound w
Settles w marks start (Std.Some marks') = Rested w marks' × Keeps marks marks' × (is_new (get_or marks' start fresh).visit ≡ 0)

-- every method is reckoned
abbrev pub Reckons : List ℕ → Std.Option (List Reckoned) → Type 0
Reckons w Std.None = NoBound w
Reckons w (Std.Some marks) = Rested w marks × ((n : ℕ) → n < method_count w → is_new (get_or marks n fresh).visit ≡ 0)

abbrev pub AllReckoned : List ℕ → List Reckoned → Type 0
AllReckoned w marks = Reckons w (Std.Some marks)

-- THE ANSWER

unfoldable pub reckoned_by : Program → Option Row → Result Bound Refusal
reckoned_by P (some r) = Err Unbounded
reckoned_by P none =
    cond (leb (main_bound P) most_bound) (Ok (record { steps = main_bound P; frames = main_frames P })) (Err Passed)

unfoldable pub reckoned : Program → Result Bound Refusal
reckoned P = reckoned_by P (first_repeating P)
