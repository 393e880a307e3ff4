-- The search over texts is that over programs, the star's method is one of the program's, and the text with the set found is accepted.
use mathlib.Core.Path.{◌≡◌, refl, sym, ap, subst, ◌∙◌}
use mathlib.Core.Bool.{Bool, true, false, cond}
use mathlib.Core.List.{List, ◌∷◌, map}
use mathlib.Core.Option.{Option, none, some}
use Prim.Native.Nat.{ℕ, ◌≤◌}
use native.Mathlib.Omega.{arith}
use lib.Dec.{T, ltb, ltb→lt}
use lib.ListN.{length, length-map}
use Rattle.rules.specs.Base.{Name, Member, at_head, first}
use Rattle.rules.specs.Limits.{most_bytes, most_filled}
use Rattle.rules.specs.Answers.{Verdict, accepted, refused, then, refusal_number, text_too_long}
use Rattle.rules.specs.Syntax.{Formula, Program}
use Rattle.rules.specs.Text.{lines}
use Rattle.rules.specs.Grammar.{Line}
use Rattle.rules.specs.Scope.{declarations}
use Rattle.rules.specs.Items.{Item}
use Rattle.rules.specs.Reading.{read_lines, read_text, check_framed, program}
use Rattle.rules.specs.Reading as Reading
use Rattle.rules.specs.Rules.{check_program}
use Rattle.rules.specs.Fill.{Access, accesses_at, sets_of, at_places, with_atoms}
use Rattle.rules.specs.Calls.{check_items, verdict_numbers, check_text, is_accepted, accepted_with, set_found, first_set, fill_stars, fill_lines, fill_set}
use Rattle.rules.proofs.Lists.{F-false, member-left, member_right}
use Rattle.rules.proofs.Tries.{refused-accepted, accepted-inj, refusal-not-zero}
use Rattle.filling.specs.Sets.{method_of_line, accesses_of_line, formula_of, program_with, is_accepted_with, set_in, set_for}
use Rattle.filling.specs.Claims.{joined, OneStar, SearchIsOverPrograms, StarHasMethod, AcceptedFirst, FilledIsAccepted}
use Rattle.filling.proofs.Listed.{All, Found, first-agree, first-none, first_found}
use Rattle.filling.proofs.Joined.{atoms-joined}
use Rattle.filling.proofs.Resolved.{Good, atom_of, named-all, atoms-framed}
use Rattle.filling.proofs.Accesses.{numbered, formula-numbered, at-places, places-length}
use Rattle.filling.proofs.Chosen.{set-within}
use Rattle.filling.proofs.AtStar.{items_with}
use Rattle.filling.proofs.StarRead.{StarRead, star-read}

-- 10 IS TESTED ONCE
framed-once :
    (v : Verdict (Unit {0})) (f : List ℕ → Verdict (Unit {0})) (sets : List (List ℕ)) →
    first (λ ps. is_accepted (then v λ u. f ps)) sets ≡ cond (is_accepted v) (first (λ ps. is_accepted (f ps)) sets) none
unfolding is_accepted then
framed-once (accepted u) f sets = refl
framed-once (refused r l) f sets = first-none _ sets (λ a i. refl)

module _ (ls : List Name) (ks : List Line) (items : List Item) (l : ℕ) (R : StarRead ls ks items l) where
  abbrev αs : List Access
  αs = accesses_at ks l

  abbrev m : ℕ
  m = method_of_line ks l

  -- the program with this set
  checked_with : List ℕ → Verdict (Unit {0})
  checked_with ps = check_program (program_with m (formula_of (map (numbered (declarations ks) R.seen) αs) ps) (program items))

  set-good : (ps : List ℕ) → Member ps (sets_of (length αs)) → All (Good (declarations ks) R.seen) (at_places αs ps)
  set-good ps i = at-places (Good (declarations ks) R.seen) αs ps R.good (set-within (length αs) ps i).0

  -- a text with a set is accepted where its program is
  set-accepted :
      (ps : List ℕ) → Member ps (sets_of (length αs)) →
      accepted_with ls (at_places αs ps) ≡ is_accepted (then (check_framed items 0) λ u. checked_with ps)
  unfolding accepted_with then check_items checked_with
  set-accepted ps i =
      let (w, n) = set-within (length αs) ps i in
      let φ : Formula ℕ = map (atom_of (declarations ks) R.seen) (at_places αs ps) in
      let few : length (at_places αs ps) ≤ most_filled = subst (λ k. k ≤ most_filled) (sym (places-length αs ps)) n in
      ap (λ v. is_accepted (then v check_items)) (R.reads (at_places αs ps) few (set-good ps i))
      ∙ ap (λ v. is_accepted (then v λ u. check_program (program (items_with φ R.before R.after))))
      (R.framed φ (atoms-framed (declarations ks) R.seen (at_places αs ps)))
      ∙ ap (λ (P : Program). is_accepted (then (check_framed items 0) λ u. check_program P)) (R.programs φ)
      ∙ ap (λ φ. is_accepted (then (check_framed items 0) λ u. check_program (program_with m φ (program items))))
      (sym (formula-numbered (declarations ks) R.seen αs ps w))

  -- the first set of each
  search-over : first_set ls ks l ≡ set_found l (set_for items m (accesses_of_line (declarations ks) items m))
  unfolding first_set set_for set_in is_accepted_with checked_with
  search-over =
      ap (set_found l)
      (first-agree _ _ (sets_of (length αs)) set-accepted
      ∙ framed-once (check_framed items 0) checked_with (sets_of (length αs))
      ∙ ap (λ n. cond (is_accepted (check_framed items 0)) (first (λ ps. is_accepted (checked_with ps)) (sets_of n)) none)
      (sym (length-map αs (numbered (declarations ks) R.seen)))
      ∙ ap (λ (βs : List Reading.Access). set_for items m βs) (sym R.numbers))

-- "with which the whole text, its length apart, is accepted": tested on the program alone
pub search-over-programs : SearchIsOverPrograms
search-over-programs ls ks items l O = search-over ls ks items l (star-read ls ks items l O)

pub star-has-method : StarHasMethod
star-has-method ls ks items l O = (star-read ls ks items l O).method

-- THE TEXT WITH THE SET

set-found : (l : ℕ) (o : Option (List ℕ)) (ps : List ℕ) → set_found l o ≡ accepted ps → o ≡ some ps
unfolding set_found
set-found l none ps e = refused-accepted e
set-found l (some qs) ps e = ap some (accepted-inj e)

-- where there is one star
search-reached :
    (t : List ℕ) (ks : List Line) (items : List Item) (l : ℕ) (ps : List ℕ) → OneStar (lines t) ks items l → fill_set t ≡ accepted ps →
    first_set (lines t) ks l ≡ accepted ps
unfolding fill_set fill_lines fill_stars then
search-reached t ks items l ps O e = go (ltb most_bytes (length t)) e
  where
    searched : fill_lines (lines t) ≡ first_set (lines t) ks l
    searched = let i = O.scanned in let j = O.read in let k = O.star in rw (i, j, k)

    go : (b : Bool) → cond b (refused text_too_long 0) (fill_lines (lines t)) ≡ accepted ps → first_set (lines t) ks l ≡ accepted ps
    go true e = refused-accepted e
    go false e = sym searched ∙ e

-- a text that fits, by its lines
fits-checked :
    (t : List ℕ) (ws : List Name) → lines t ≡ ws → ltb most_bytes (length t) ≡ false →
    check_text t ≡ verdict_numbers (then (read_lines ws) check_items)
unfolding check_text read_text
fits-checked t ws e h = rw (h, e)

-- and one that does not
too_long : (t : List ℕ) → ltb most_bytes (length t) ≡ true → check_text t ≡ (2, 0)
unfolding check_text read_text then verdict_numbers refusal_number
too_long t h = rw h

accepted-numbers : {A : Type 0} (v : Verdict A) → T (is_accepted v) → verdict_numbers v ≡ (0, 0)
unfolding is_accepted verdict_numbers
accepted-numbers (accepted a) h = refl
accepted-numbers (refused r l) h = absurd h

numbers-accepted : {A : Type 0} (v : Verdict A) → verdict_numbers v ≡ (0, 0) → T (is_accepted v)
unfolding is_accepted verdict_numbers
numbers-accepted (accepted a) e = tt
numbers-accepted (refused r l) e = refusal-not-zero r (ap (λ (p : ℕ × ℕ). p.0) e)

module _ (t : List ℕ) (ks : List Line) (items : List Item) (l : ℕ) (R : StarRead (lines t) ks items l) where
  abbrev atoms : List Access
  atoms = accesses_at ks l

  abbrev text_with : List ℕ → List ℕ
  text_with ps = joined (with_atoms (at_places atoms ps) (lines t))

  with-lines : (ps : List ℕ) → Member ps (sets_of (length atoms)) → lines (text_with ps) ≡ with_atoms (at_places atoms ps) (lines t)
  with-lines ps i =
      atoms-joined (at_places atoms ps)
      (named-all (declarations ks) R.seen (at_places atoms ps) (set-good (lines t) ks items l R ps i)) t

  checks :
      (ps : List ℕ) → Member ps (sets_of (length atoms)) → T (accepted_with (lines t) (at_places atoms ps)) →
      length (text_with ps) ≤ most_bytes → check_text (text_with ps) ≡ (0, 0)
  unfolding accepted_with
  checks ps i h n =
      let short : ltb most_bytes (length (text_with ps)) ≡ false = F-false _ (λ g. omega (arith, ltb→lt most_bytes (length (text_with ps)) g)) in
      fits-checked (text_with ps) _ (with-lines ps i) short ∙ accepted-numbers _ h

  checks-only :
      (ps : List ℕ) → Member ps (sets_of (length atoms)) → check_text (text_with ps) ≡ (0, 0) →
      T (accepted_with (lines t) (at_places atoms ps))
  unfolding accepted_with
  checks-only ps i e = go (ltb most_bytes (length (text_with ps))) refl
    where
      go : (b : Bool) → ltb most_bytes (length (text_with ps)) ≡ b → T (accepted_with (lines t) (at_places atoms ps))
      go true h = absurd (omega (arith, ap (λ (p : ℕ × ℕ). p.0) (sym (too_long (text_with ps) h) ∙ e)))
      go false h = numbers-accepted _ (sym (fits-checked (text_with ps) _ (with-lines ps i) h) ∙ e)

  found-accepted :
      (ps : List ℕ) → Found (λ ps. accepted_with (lines t) (at_places atoms ps)) (sets_of (length atoms)) ps → AcceptedFirst t ps ks l
  found-accepted ps F =
      record {
        passes = checks ps (subst (Member ps) (sym F.parts) (member_right F.before _ ps at_head)) F.passes;
        before = F.before;
        after = F.after;
        sets = F.parts;
        earlier =
            λ qs i e.
            F.earlier qs i (checks-only qs (subst (Member qs) (sym F.parts) (member-left F.before (ps ∷ F.after) qs i)) e);
      }

-- with a set the lines are found again
pub set-joined :
    (t : List ℕ) (ks : List Line) (items : List Item) (l : ℕ) → OneStar (lines t) ks items l → (ps : List ℕ) →
    Member ps (sets_of (length (accesses_at ks l))) →
    lines (joined (with_atoms (at_places (accesses_at ks l) ps) (lines t))) ≡ with_atoms (at_places (accesses_at ks l) ps) (lines t)
set-joined t ks items l O ps i = with-lines t ks items l (star-read (lines t) ks items l O) ps i

-- and the text with the set found is accepted by check
pub filled-is-accepted : FilledIsAccepted
unfolding first_set
filled-is-accepted t ks items l ps O e =
    found-accepted t ks items l (star-read (lines t) ks items l O) ps
    (first_found _ (sets_of (length (accesses_at ks l))) ps (set-found l _ ps (search-reached t ks items l ps O e)))
