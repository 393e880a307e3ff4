-- A text whose requires line is to be filled in, read with its star as a formula without atoms: what the answers mean.
use Rattle.std.specs.Prelude.{Option, Result, Ok, Err, slice_get, ◌≡◌, false, cond, List, [], ℕ, zero, suc, ◌+◌, ◌≤◌, ◌<◌, eqb, length}
use Rattle.rules.specs.Limits.{work_bytes, most_bytes, most_classes, most_methods, most_filled}
use Rattle.rules.specs.Answers.{refused, not_one_star}
use Rattle.rules.specs.Text.{lines}
use Rattle.rules.specs.Grammar.{Line, method_kind}
use Rattle.rules.specs.Scope.{declarations}
use Rattle.rules.specs.Names.{class_number}
use Rattle.rules.specs.Items.{Item}
use Rattle.rules.specs.Reading.{check_framed, program}
use Rattle.rules.specs.Fill.{stars_from, with_atoms}
use Rattle.rules.specs.Calls.{fill_set}
use Rattle.filling.specs.Sets.{method_of_line, header_of}
use Rattle.filling.specs.Claims.{joined, OneStar}
use Rattle.tables.specs.Layout.{most_atom_rows}
use Rattle.tables.specs.Decode.{program_in, atom_count, class_count, method_count}
use Rattle.tables.specs.Tables.{Tables}
use Rattle.read_scan.specs.Table.{word_in}
use Rattle.read_scopes.specs.declared.Names.{Names}
use Rattle.read_declarations.specs.Texts.{lines_of}
use Rattle.reader.specs.Readings.{refusal_of, framed_verdict, Noted}
use Rattle.star_reader.specs.declared.Star.{Star}
use Rattle.star_reader.specs.declared.NoStar.{NoStar}

-- THE STAR'S METHOD: c is the text without its star, w the work area with its tables

-- how many of the first l lines are headers of methods, by the table of lines
unfoldable pub headers_in : List ℕ → ℕ → ℕ
headers_in w zero = 0
headers_in w (suc l) = cond (eqb method_kind (word_in w l).kind) (suc (headers_in w l)) (headers_in w l)

-- the count of classes
abbrev pub class_names : List ℕ → Names
class_names w = record { classes = class_count w; fields = 0; methods = 0; method = false; locals = 0; result = false }

-- there is a method m
pub record MethodHere (c w : List ℕ) (m : ℕ) : Type 0 where
  pub size : length w ≡ work_bytes
  pub noted : Noted c w
  pub classes : class_count w ≤ most_classes
  pub methods : method_count w ≤ most_methods
  pub within : m < method_count w

-- line l is in a method
pub record LineHere (c w : List ℕ) (l : ℕ) : Type 0 where
  pub method : MethodHere c w (method_of_line (lines_of c) l)
  pub high : l ≤ method.noted.lines

-- s tells its method, with the classes of `this` and of w
pub record StarAt (c : List ℕ) (l : ℕ) (u : Option ℕ) (s : Star) : Type 0 where
  pub line : s.line ≡ l
  pub unframed : s.unframed ≡ u
  pub method : s.method ≡ method_of_line (lines_of c) l
  pub class : s.class ≡ (header_of (declarations (lines_of c)) s.method).owner
  pub parameter : s.parameter ≡ class_number (declarations (lines_of c)) (header_of (declarations (lines_of c)) s.method).parameter_type

-- THE COPY: c is the text t without its stars, and f and g are the lines of the first two of them, if it has them

pub record CopyOf (t c : List ℕ) (f g : Option ℕ) : Type 0 where
  pub fits : length t ≤ most_bytes
  pub copied : c ≡ joined (with_atoms [] (lines t))
  pub short : length c ≤ length t
  pub first : f ≡ slice_get (stars_from 0 (lines t)) 0
  pub second : g ≡ slice_get (stars_from 0 (lines t)) 1

pub record HasText (c : List ℕ) (f g : Option ℕ) : Type 0 where
  pub text : List ℕ
  pub copy : CopyOf text c f g

-- THE TEXT

-- a text with one star, read as these lines and items; there is room for its atoms
pub record StarRead (t w : List ℕ) (s : Star) : Type 0 where
  pub fits : length t ≤ most_bytes
  pub ks : List Line
  pub items : List Item
  pub one : OneStar (lines t) ks items s.line
  pub tables : Tables w
  pub program : program_in w ≡ program items
  pub framed : check_framed items 0 ≡ framed_verdict s.unframed
  pub spare : atom_count w + most_filled ≤ most_atom_rows
  pub method : s.method ≡ method_of_line ks s.line
  pub class : s.class ≡ (header_of (declarations ks) s.method).owner
  pub parameter : s.parameter ≡ class_number (declarations ks) (header_of (declarations ks) s.method).parameter_type
  pub within : s.method < method_count w

unfoldable pub StarredIs : (t w : List ℕ) → Result Star NoStar → Type 0
StarredIs t w (Ok s) = StarRead t w s
StarredIs t w (Err (NoStar.Refused e)) = fill_set t ≡ refused (refusal_of e.why) e.line
StarredIs t w (Err NoStar.Missing) = fill_set t ≡ refused not_one_star 0
StarredIs t w (Err (NoStar.Second l)) = fill_set t ≡ refused not_one_star l

-- of each text that c is the copy of
abbrev pub CopyIs : (c w : List ℕ) (f g : Option ℕ) → Result Star NoStar → Type 0
CopyIs c w f g r = (t : List ℕ) → CopyOf t c f g → StarredIs t w r
