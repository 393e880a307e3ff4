-- A walk over the lines of a text that pass 1 takes.
use mathlib.Core.Path.{◌≡◌, refl, sym, ap, subst, ◌∙◌}
use mathlib.Core.List.{List, [], ◌∷◌}
use mathlib.Core.Option.{some}
use mathlib.Core.Bool.{true}
use mathlib.Core.Logic.{⊎_elim}
use Prim.Native.Nat.{ℕ, suc, ◌+◌, ◌≤◌, ◌<◌}
use lib.Dec.{T}
use lib.ListN.{length, get_or, drop}
use Rattle.rules.specs.Base.{ok, or_else}
use Rattle.rules.specs.Answers.{accepted, bad_byte, malformed, limit_passed}
use Rattle.rules.specs.Text as Text
use Rattle.rules.specs.Text.{lines, clean}
use Rattle.rules.specs.Grammar.{Kind, Line, form, kind_of, is_formed, read_line}
use Rattle.rules.specs.Places.{Place, first_place, in_place, place_after, place_line, within_limits, scan_lines}
use Rattle.rules.proofs.Lists.{T_true, decide_eq}
use Rattle.rules.proofs.Tries.{ok-inj, bind_ok, check-ok, or_else-ok}
use Rattle.read_bytes.specs.Sets.{FirstInSet}
use Rattle.read_bytes.specs.declared.Set.TheVariants.{LineEnd}
use Rattle.read_fields.specs.Cuts.{part, CleanLine}
use Rattle.read_scan.specs.Scans.{line_of}
use Rattle.read_fields.proofs.Cuts.{clean_line, bad-line, no_lines}
use Rattle.read_scan.proofs.Scans.{first_taken, FirstTaken}
use Rattle.read_declarations.specs.Texts.{lines_of, TextTaken, line_at, FormedAt}

-- A LINE THAT IS READ
line-at : {t : List ℕ} {a e : ℕ} → CleanLine t a e → line_of (part a (e + 1) t) ≡ line_at t a
unfolding line_of line_at
line-at c = rw c.fields

formed-at : {t : List ℕ} {a e : ℕ} → CleanLine t a e → read_line (part a (e + 1) t) ≡ ok (line_of (part a (e + 1) t)) → FormedAt t a
unfolding read_line line_at line_of Rattle.rules.specs.Base.with_default
formed-at {t} {a} {e} c r =
    let (u, f) = check-ok (clean (part a (e + 1) t)) bad_byte r in
    let (k, g, h) = bind_ok (or_else (kind_of (get_or (Text.fields (part a (e + 1) t)) 0 [])) malformed) f in
    let (w, i) = check-ok (is_formed (form k).operands (form k).tail (drop 1 (Text.fields (part a (e + 1) t)))) malformed h in
    let n : kind_of (get_or (Text.fields (drop a t)) 0 []) ≡ some k = ap (λ ws. kind_of (get_or ws 0 [])) (sym c.fields) ∙ or_else-ok _ malformed k g in
    let v : is_formed (form k).operands (form k).tail (drop 1 (Text.fields (drop a t))) ≡ true =
    ap (λ ws. is_formed (form k).operands (form k).tail (drop 1 ws)) (sym c.fields) ∙ T_true _ w in
    formed-with n v
  where
    formed-with : {k : Kind} → kind_of (get_or (Text.fields (drop a t)) 0 []) ≡ some k → is_formed (form k).operands (form k).tail (drop 1 (Text.fields (drop a t))) ≡ true → FormedAt t a
    formed-with n v = record { known = rw n; formed = rw n v }

-- THE WALK

-- at a, with n lines above, where the next line stands at p
pub record Walking (t : List ℕ) (a : ℕ) (p : Place) (n : ℕ) : Type 0 where
  pub rest : scan_lines (lines (drop a t)) n p ≡ accepted (lines_of (drop a t))
  pub within : within_limits p ≡ true

pub walking-first : {t : List ℕ} → TextTaken t → Walking t 0 first_place 0
unfolding Rattle.rules.specs.Places.opened
walking-first k = record { rest = k; within = refl }

pub walking-done : (t : List ℕ) (a : ℕ) → length t ≤ a → lines_of (drop a t) ≡ []
unfolding lines_of
walking-done t a h = rw (no_lines t a h)

module _ {t : List ℕ} {a : ℕ} {p : Place} {n : ℕ} (x : Walking t a p n) {e : ℕ} (l : a < length t) (f : FirstInSet t a LineEnd e) where
  pub walking-clean : CleanLine t a e
  unfolding read_line
  walking-clean =
      ⊎_elim (clean_line t a e f)
      (λ m.
      let b = bad-line t a e f l m in
      let y = first_taken b.line b.rest n p _ (rw b.cut at x.rest) in
      let (u, _) = check-ok (clean b.line) bad_byte y.taken.read in
      absurd (subst T b.bad u))
      (decide_eq (get_or t e 0) 10)

  abbrev line_first : FirstTaken (part a (e + 1) t) (lines (drop (e + 1) t)) n p (lines_of (drop a t))
  line_first = first_taken _ _ _ _ _ (subst (λ ls. scan_lines ls n p ≡ accepted (lines_of (drop a t))) walking-clean.cut x.rest)

  pub walking-formed : FormedAt t a
  walking-formed = formed-at walking-clean line_first.taken.read

  -- the line's place
  pub record Placed : Type 0 where
    pub is_in_place : in_place (line_at t a).kind p ≡ true
    pub room : within_limits (place_after (line_at t a).kind p) ≡ true
    pub next : line_first.placed.next ≡ place_after (line_at t a).kind p

  pub walking-placed : Placed
  unfolding place_line
  walking-placed =
      let q = subst (λ k. place_line p k.kind ≡ ok line_first.placed.next) (line-at walking-clean) line_first.taken.place in
      let (i, m) = check-ok (in_place (line_at t a).kind p) malformed q in
      let (u, o) = check-ok (within_limits (place_after (line_at t a).kind p)) limit_passed m in
      record { is_in_place = T_true _ i; room = T_true _ u; next = sym (ok-inj o) }

  -- the lines from here on begin with this one
  pub walking-lines : lines_of (drop a t) ≡ line_at t a ∷ lines_of (drop (e + 1) t)
  unfolding lines_of
  walking-lines = rw walking-clean.cut (ap (λ h. h ∷ lines_of (drop (e + 1) t)) (line-at walking-clean))

  pub walking_on : Walking t (e + 1) (place_after (line_at t a).kind p) (suc n)
  walking_on =
      record {
        rest = subst (λ q. scan_lines (lines (drop (e + 1) t)) (suc n) q ≡ accepted (lines_of (drop (e + 1) t))) walking-placed.next (line_first.others ∙ ap accepted (sym (same_rest line_first.are walking-lines)));
        within = walking-placed.room;
      }
    where
      same_rest : {f : List Line} {p q : Line} {r s : List Line} → f ≡ p ∷ r → f ≡ q ∷ s → s ≡ r
      same_rest e g = cc
