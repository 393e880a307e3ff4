-- Labels kept: where terms are dropped, those left are ~ after exactly if they were before.
use Rattle.std.specs.Prelude.{◌≡◌, Bool, true, false, cond, not, ◌&&◌, ◌||◌, List, ◌⊎◌, ℕ, ◌+◌, ◌*◌, ◌≤◌, ◌<◌, eqb, ltb, length, get_or, set}
use Rattle.std.proofs.Math.Option.{some}
use Rattle.rules.specs.State.{Renaming, Term}
use Rattle.rules.specs.Syntax.{null, var}
use Rattle.check_equality.specs.Layout.{slots, left_sides, right_sides, relations_at, bytes, null_slot}
use Rattle.check_equality.specs.Links.{Header, Alike, no_label}
use Rattle.check_state.specs.States.{Wf, facts, facts_of}
use Rattle.check_state.specs.Questions.{no_variable}
use Rattle.check_labels.specs.Facts.{Stands}

-- A VARIABLE ALONE
-- x is a variable, or none
abbrev pub Lone : ℕ → Type 0
Lone x = (x < null_slot) ⊎ (x ≡ no_variable)

unfoldable pub lone_of : ℕ → ℕ
lone_of x = cond (ltb x null_slot) x no_variable

-- bytes whose labels up to m are slots'
pub record LabelsBelow (b : List ℕ) (m : ℕ) : Type 0 where
  pub size : length b ≡ bytes
  pub low : (i : ℕ) → i < m → get_or b i 0 < slots

-- the new label of slot j, which had the label a: `name` has the new labels by the old ones
pub data Named (j a x : ℕ) (name name' : List ℕ) (r : ℕ) : Type 0 where
  own : j ≡ x → name' ≡ name → r ≡ j → Named j a x name name' r
  known : (j ≡ x → ⊥) → (get_or name a 0 ≡ no_label → ⊥) → name' ≡ name → r ≡ get_or name a 0 → Named j a x name name' r
  new : (j ≡ x → ⊥) → get_or name a 0 ≡ no_label → name' ≡ set name a j → r ≡ j → Named j a x name name' r

-- the slots up to m have the labels that they had, with other numbers; x is alone
pub record Relabelled (b : List ℕ) (m x : ℕ) (b' : List ℕ) : Type 0 where
  pub size : length b' ≡ length b
  pub low : (i : ℕ) → i < m → get_or b' i 0 < m
  pub same : (i j : ℕ) → i < m → j < m → (i ≡ x → ⊥) → (j ≡ x → ⊥) → get_or b i 0 ≡ get_or b j 0 → get_or b' i 0 ≡ get_or b' j 0
  pub apart : (i j : ℕ) → i < m → j < m → (i ≡ x → ⊥) → (j ≡ x → ⊥) → get_or b' i 0 ≡ get_or b' j 0 → get_or b i 0 ≡ get_or b j 0
  pub alone : (i : ℕ) → i < m → x < m → (i ≡ x → ⊥) → get_or b' i 0 ≡ get_or b' x 0 → ⊥
  pub rest : (i : ℕ) → m ≤ i → get_or b' i 0 ≡ get_or b i 0

unfoldable pub fitting : ℕ → ℕ → ℕ → Bool
fitting m x l = ltb l m && not (eqb l x)

-- the labels of the first i slots are below m, and not x's
abbrev pub LabelsFit : List ℕ → ℕ → ℕ → ℕ → Type 0
LabelsFit b m i x = (j : ℕ) → j < i → fitting m x (get_or b j 0) ≡ true

unfoldable pub with_label : ℕ → ℕ → List ℕ → List ℕ
with_label x l b = cond (ltb x null_slot) (set b x l) b

-- FACTS MOVED
-- the sides of fact i in the slots of fact n
abbrev pub moved_sides : List ℕ → ℕ → ℕ → List ℕ
moved_sides l n i = set (set l (left_sides + 2 * n) (get_or l (left_sides + 2 * i) 0)) (right_sides + 2 * n) (get_or l (right_sides + 2 * i) 0)

abbrev pub moved_bytes : List ℕ → ℕ → ℕ → List ℕ
moved_bytes b n i = set (moved_sides b n i) (relations_at + n) (get_or b (relations_at + i) 0)

-- the fact i goes to place n, unless it is out
pub record MovesFact (key b : List ℕ) (n : ℕ) (out : Bool) (i : ℕ) (key' b' : List ℕ) (n' : ℕ) : Type 0 where
  pub gone : out ≡ true → (key' ≡ key) × (b' ≡ b) × (n' ≡ n)
  pub moved : out ≡ false → (key' ≡ moved_sides key n i) × (b' ≡ moved_bytes b n i) × (n' ≡ n + 1)

-- WHEN LABELS ARE KEPT
-- a fact whose sides are both gone, or none, or an inequality
unfoldable pub even : ℕ → Bool → Bool → Bool
even c g h = eqb c 1 || cond g h (not h)

-- the facts from `from` to n are all so
abbrev pub Whole : List ℕ → List Bool → ℕ → ℕ → Type 0
Whole b gone from n =
    (i : ℕ) → from ≤ i → i < n →
    even (get_or b (relations_at + i) 0) (get_or gone (left_sides + 2 * i) false) (get_or gone (right_sides + 2 * i) false) ≡ true

-- the sides are what `way` made of the terms of a state with these labels: each term became one that is left and was ~, and where one side
-- of an equality became nothing, so did the other; x is not left, all other variables and null are
pub record Keeps (key b : List ℕ) (gone : List Bool) (x : ℕ) : Type 0 where
  pub old : List ℕ
  pub wf : Wf old b
  pub header : Header key
  pub way : Renaming
  pub stands : Stands way old key gone (facts b)
  pub was : (t u : Term) → way t ≡ some u → Alike (facts_of old b) t u
  pub stays : (t u : Term) → way t ≡ some u → way u ≡ some u
  pub whole : Whole b gone 0 (facts b)
  pub left : (v : ℕ) → v < null_slot → (v ≡ x → ⊥) → way (var v) ≡ some (var v)
  pub null : way null ≡ some null
  pub alone : (t : Term) → x < null_slot → way t ≡ some (var x) → ⊥
