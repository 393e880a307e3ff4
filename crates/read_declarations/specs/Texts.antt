-- A text that pass 1 takes, line by line, and a line by the place where it begins.
use Rattle.std.specs.Prelude.{◌≡◌, true, List, [], map, ℕ, ◌+◌, ◌≤◌, length, get_or, drop}
use Rattle.std.proofs.Math.Option.{some}
use Rattle.rules.specs.Base.{with_default}
use Rattle.rules.specs.Answers.{accepted}
use Rattle.rules.specs.Text.{lines, fields}
use Rattle.rules.specs.Grammar.{Line, Class, form, kind_of, is_formed}
use Rattle.rules.specs.Places.{first_place, scan_lines}
use Rattle.read_fields.specs.Cuts.{more}
use Rattle.read_scan.specs.Scans.{line_of}
use Rattle.read_names.specs.declared.Span.{Span}
use Rattle.read_names.specs.Rows.{name_in}

-- the lines of a text that pass 1 takes
unfoldable pub lines_of : List ℕ → List Line
lines_of t = map line_of (lines t)

abbrev pub TextTaken : List ℕ → Type 0
TextTaken t = scan_lines (lines t) 0 first_place ≡ accepted (lines_of t)

-- the line that begins at a
unfoldable pub line_at : List ℕ → ℕ → Line
line_at t a =
    record { kind = with_default Class (kind_of (get_or (fields (drop a t)) 0 [])); fields = drop 1 (fields (drop a t)) }

-- it has a kind, and the form of its kind
pub record FormedAt (t : List ℕ) (a : ℕ) : Type 0 where
  pub known : kind_of (get_or (fields (drop a t)) 0 []) ≡ some (line_at t a).kind
  pub formed : is_formed (form (line_at t a).kind).operands (form (line_at t a).kind).tail (line_at t a).fields ≡ true

-- The field after one that ends at r has its place at s; an empty place where there is none.
pub record SpanAfter (t : List ℕ) (r : ℕ) (s : Span) : Type 0 where
  pub high : s.start + s.len ≤ length t
  pub name : name_in t s ≡ get_or (more (drop r t)) 0 []
  pub rest : more (drop (s.start + s.len) t) ≡ drop 1 (more (drop r t))
