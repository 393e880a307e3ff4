-- What is promised of a requires line that is filled in.
use Rattle.std.specs.Prelude.{◌≡◌, List, [], ◌∷◌, ◌++◌, ℕ, ◌≤◌, ◌<◌, length}
use Rattle.rules.specs.Base.{Name, Member}
use Rattle.rules.specs.Limits.{most_bytes}
use Rattle.rules.specs.Answers.{accepted}
use Rattle.rules.specs.Text.{lines}
use Rattle.rules.specs.Grammar.{Line}
use Rattle.rules.specs.Places.{first_place, scan_lines}
use Rattle.rules.specs.Scope.{declarations, first_scope}
use Rattle.rules.specs.Items.{Item, resolve_lines}
use Rattle.rules.specs.Reading.{program}
use Rattle.rules.specs.Fill.{stars_from, accesses_at, sets_of, at_places, with_atoms}
use Rattle.rules.specs.Calls.{check_text, set_found, first_set, fill_set}
use Rattle.filling.specs.Sets.{method_of_line, accesses_of_line, set_for}

-- the bytes of lines
unfoldable pub joined : List Name → List ℕ
joined [] = []
joined (l ∷ ls) = l ++ joined ls

-- a text with one star, at line l, that is read as these items with no atom for it
pub record OneStar (ls : List Name) (ks : List Line) (items : List Item) (l : ℕ) : Type 0 where
  pub scanned : scan_lines (with_atoms [] ls) 0 first_place ≡ accepted ks
  pub read : resolve_lines (declarations ks) ks 0 first_scope ≡ accepted items
  pub star : stars_from 0 ls ≡ l ∷ []

-- the search over texts is that over programs
abbrev pub SearchIsOverPrograms : Type 0
SearchIsOverPrograms =
    (ls : List Name) (ks : List Line) (items : List Item) (l : ℕ) → OneStar ls ks items l →
    first_set ls ks l ≡ set_found l (set_for items (method_of_line ks l) (accesses_of_line (declarations ks) items (method_of_line ks l)))

-- the star's method is one of the program's
abbrev pub StarHasMethod : Type 0
StarHasMethod =
    (ls : List Name) (ks : List Line) (items : List Item) (l : ℕ) → OneStar ls ks items l →
    method_of_line ks l < length (program items).methods

-- "with which the whole text, its length apart, is accepted": where the text with the set given fits the length, check accepts it; with an
-- earlier one it does not
pub record AcceptedFirst (t : List ℕ) (ps : List ℕ) (ks : List Line) (l : ℕ) : Type 0 where
  pub passes :
      length (joined (with_atoms (at_places (accesses_at ks l) ps) (lines t))) ≤ most_bytes →
      check_text (joined (with_atoms (at_places (accesses_at ks l) ps) (lines t))) ≡ (0, 0)
  pub before : List (List ℕ)
  pub after : List (List ℕ)
  pub sets : sets_of (length (accesses_at ks l)) ≡ before ++ (ps ∷ after)
  pub earlier :
      (qs : List ℕ) → Member qs before →
      check_text (joined (with_atoms (at_places (accesses_at ks l) qs) (lines t))) ≡ (0, 0) → ⊥

abbrev pub FilledIsAccepted : Type 0
FilledIsAccepted =
    (t : List ℕ) (ks : List Line) (items : List Item) (l : ℕ) (ps : List ℕ) → OneStar (lines t) ks items l →
    fill_set t ≡ accepted ps → AcceptedFirst t ps ks l
