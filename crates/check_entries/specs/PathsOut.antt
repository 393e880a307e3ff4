-- The listed paths that are out, and which of them are dropped: those that no other entry has.
use Rattle.std.specs.Prelude.{◌≡◌, Bool, true, false, cond, not, ◌&&◌, List, ℕ, ◌≤◌, ◌<◌, length, get_or}
use Rattle.rules.specs.Base.{any}
use Rattle.rules.specs.Limits.{most_permissions}
use Rattle.rules.specs.Syntax as Syntax
use Rattle.rules.specs.State as Rules
use Rattle.check_equality.specs.Layout.{mark_count}
use Rattle.check_equality.specs.Keys.{term_of, key_of}
use Rattle.check_equality.specs.Links.{place_of}
use Rattle.check_state.specs.States.{entries, variable_at, field_at, is_path_at, left_at, path_at_entry}
use Rattle.check_state.specs.Questions.{places}

-- the path `x.f` is out, and is the term of k
unfoldable pub path_out : Bool → ℕ → ℕ → ℕ → Bool
path_out out x f k = out && Syntax.same (Syntax.path x f) (term_of k)

abbrev pub path_out_at : List ℕ → List Bool → ℕ → ℕ → Bool
path_out_at b out k i = path_out (get_or out i false && is_path_at b i) (variable_at b i) (field_at b i) k

-- the entry i is a path that is out (where `kept`: that is not out), and is the term of k
abbrev pub path_with : List ℕ → List Bool → Bool → ℕ → ℕ → Bool
path_with b out kept k i = path_out (cond kept (not (get_or out i false)) (get_or out i false) && is_path_at b i) (variable_at b i) (field_at b i) k

abbrev pub key_out : List ℕ → List Bool → ℕ → Bool
key_out b out k = any (path_out_at b out k) (places (entries b))

-- the entry i is a path that is not out, and is t
unfoldable pub kept_names : List ℕ → List Bool → Rules.Term → ℕ → Bool
kept_names b out t i = left_at b out i && Syntax.same (path_at_entry b i) t

-- the path of the key is dropped: an entry that is out has it, and no other
abbrev pub key_dropped : List ℕ → List Bool → ℕ → Bool
key_dropped b out k = key_out b out k && not (any (kept_names b out (term_of k)) (places (entries b)))

-- the path of the entry i is, among n
abbrev pub dropped_at : List ℕ → List Bool → ℕ → ℕ → Bool
dropped_at b out n i = (get_or out i false && is_path_at b i) && not (any (kept_names b out (path_at_entry b i)) (places n))

-- the place of a path's key
abbrev pub place_of_path : ℕ → ℕ → ℕ
place_of_path x f = place_of (key_of (Syntax.path x f))

-- the places of the paths of the first n entries that are out are marked
pub record MarksOut (b : List ℕ) (out : List Bool) (n : ℕ) (marks : List Bool) : Type 0 where
  pub size : length marks ≡ mark_count
  pub at : (i : ℕ) → i < n → get_or out i false ≡ true → get_or marks (place_of_path (variable_at b i) (field_at b i)) false ≡ true

-- the places of the paths of all entries that are out are marked
abbrev pub OutMarked : List ℕ → List Bool → List Bool → Type 0
OutMarked b out marks = (entries b ≤ most_permissions) × MarksOut b out (entries b) marks
