-- What the answers of the pass mean: the refusal of each case, and the verdict on the text.
use Rattle.std.specs.Prelude.{◌≡◌, Result, Ok, Err, Bool, List, [], ℕ, length, drop, get_or}
use Rattle.rules.specs.Base.{Name, Try, ok, no, check, ◌>>=◌, ◌>>◌, with_default}
use Rattle.rules.specs.Answers.{Verdict, accepted, refused, then, bad_byte, malformed, limit_passed, text_ends}
use Rattle.rules.specs.Answers as Answers
use Rattle.rules.specs.Text as Text
use Rattle.rules.specs.Text.{line_feed, lines}
use Rattle.rules.specs.Grammar.{Line, Class, kind_of}
use Rattle.rules.specs.Places as Places
use Rattle.rules.specs.Places.{place_line, scan_line, scan_lines, first_place}
use Rattle.read_bytes.specs.Sets.{FirstInSet}
use Rattle.read_words.specs.Words.{kind_or0}
use Rattle.read_bytes.specs.declared.Set.TheVariants.{LineEnd}
use Rattle.read_fields.specs.Cuts.{first_line}
use Rattle.read_grammar.specs.Rows.{kind_numbered, formed_kind}
use Rattle.read_grammar.specs.Coded.{coded}
use Rattle.read_scan.specs.declared.Refusal.{Refusal}
use Rattle.read_scan.specs.declared.Refusal.TheVariants.{BadByte, Malformed, LimitPassed, TextEnds}
use Rattle.read_grammar.specs.declared.Place.{Place}
use Rattle.read_scan.specs.declared.NextLine.{NextLine}
use Rattle.read_scan.specs.declared.RefusedLine.{RefusedLine}

abbrev pub refusal_of : Refusal → Answers.Refusal
refusal_of BadByte = bad_byte
refusal_of Malformed = malformed
refusal_of LimitPassed = limit_passed
refusal_of TextEnds = text_ends

abbrev pub answer_of : Result Place Refusal → Try Answers.Refusal Place
answer_of (Ok s) = ok s
answer_of (Err r) = no (refusal_of r)

-- the answer on a line: is it in place, and are the limits kept after it?
unfoldable pub next_place : Bool → Bool → Place → Try Answers.Refusal Place
next_place b w q = check b malformed >> (check w limit_passed >> ok q)

-- The answer r is that on a line of kind k at each place that s stands for.
abbrev pub PlacesLine : Place → ℕ → Result Place Refusal → Type 0
PlacesLine s k r = (p : Places.Place) → s ≡ coded p → answer_of r ≡ (place_line p (kind_numbered k) >>= λ q. ok (coded q))

abbrev pub line_answer : Result NextLine Refusal → Try Answers.Refusal Place
line_answer (Ok n) = ok n.place
line_answer (Err r) = no (refusal_of r)

-- What holds of the place of a line's LF, where the line is taken.
abbrev pub WhenTaken : (ℕ → Type 0) → Result NextLine Refusal → Type 0
WhenTaken P (Ok n) = P n.feed
WhenTaken P (Err r) = Unit {0}

-- The same as `PlacesLine`, of a line with its LF at e.
abbrev pub PlacesLineTo : Place → ℕ → ℕ → Result NextLine Refusal → Type 0
PlacesLineTo s k e r =
    ((p : Places.Place) → s ≡ coded p → line_answer r ≡ (place_line p (kind_numbered k) >>= λ q. ok (coded q))) × WhenTaken (λ i. i ≡ e) r

-- The fields of the line that begins at a have no kind's form.
abbrev pub Unformed : List ℕ → ℕ → Type 0
Unformed t a = kind_or0 (formed_kind (Text.fields (drop a t))) ≡ 0

-- The line that begins at a is refused so, wherever it stands.
abbrev pub RefusesLine : List ℕ → ℕ → Refusal → Type 0
RefusesLine t a r = (p : Places.Place) → no (refusal_of r) ≡ (scan_line p (first_line (drop a t)) >>= λ x. ok (coded x.next))

-- The answer r is that on the line of t that begins at a.
pub record ScansLine (t : List ℕ) (a : ℕ) (s : Place) (r : Result NextLine Refusal) : Type 0 where
  pub is : (p : Places.Place) → s ≡ coded p → line_answer r ≡ (scan_line p (first_line (drop a t)) >>= λ x. ok (coded x.next))
  pub ends : WhenTaken (λ e. FirstInSet t a LineEnd e × (get_or t e 0 ≡ line_feed)) r

-- a text that is taken by the count of its lines
abbrev pub verdict_of : Result ℕ RefusedLine → Verdict ℕ
verdict_of (Ok n) = accepted n
verdict_of (Err e) = refused (refusal_of e.why) e.line

unfoldable pub scan_text : List ℕ → Verdict ℕ
scan_text t = then (scan_lines (lines t) 0 first_place) λ ls. accepted (length ls)

-- a line of a text that is taken
unfoldable pub line_of : Name → Line
line_of l = record { kind = with_default Class (kind_of (get_or (Text.fields l) 0 [])); fields = drop 1 (Text.fields l) }
