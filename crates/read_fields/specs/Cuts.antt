-- Lines and fields at places of a text. A cursor is the place of the byte after a field.
use Rattle.std.specs.Prelude.{◌≡◌, Bool, cond, List, [], ◌∷◌, ℕ, ◌+◌, ◌-◌, ◌≤◌, ◌<◌, eqb, length, drop, take, get_or}
use Rattle.rules.specs.Base.{Name}
use Rattle.rules.specs.Text.{tab, line_feed, lines, fields, clean}

-- the bytes from a up to e
abbrev pub part : ℕ → ℕ → List ℕ → List ℕ
part a e t = take (e - a) (drop a t)

-- the first line
unfoldable pub first_line : List ℕ → Name
first_line t = get_or (lines t) 0 []

-- the fields after one that ends here
unfoldable pub more : List ℕ → List Name
more [] = []
more (b ∷ t) = cond (eqb b tab) (fields t) []

-- A clean line begins at a and has its LF at e.
pub record CleanLine (t : List ℕ) (a e : ℕ) : Type 0 where
  pub low : a ≤ e
  pub high : e < length t
  pub feed : get_or t e 0 ≡ line_feed
  pub cut : lines (drop a t) ≡ part a (e + 1) t ∷ lines (drop (e + 1) t)
  pub clean : clean (part a (e + 1) t) ≡ Bool.true
  pub fields : fields (part a (e + 1) t) ≡ fields (drop a t)

-- A line begins here that has a byte that is not allowed, or no LF.
pub record BadLine (t : List ℕ) : Type 0 where
  pub line : Name
  pub rest : List Name
  pub cut : lines t ≡ line ∷ rest
  pub bad : clean line ≡ Bool.false

-- After a field that ends at r, the next ends at e; e is r where there is none.
pub record NextField (t : List ℕ) (r e : ℕ) : Type 0 where
  pub low : r ≤ e
  pub high : e ≤ length t
  pub none : e ≡ r → more (drop r t) ≡ []
  pub some : r < e → more (drop r t) ≡ part (r + 1) e t ∷ more (drop e t)
