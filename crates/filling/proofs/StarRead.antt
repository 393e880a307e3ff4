-- A text with one star is read with a set in its place as the items with that formula there.
use mathlib.Core.Path.{◌≡◌, refl, sym, ap, subst, ◌∙◌}
use mathlib.Core.Bool.{true}
use mathlib.Core.List.{List, [], ◌∷◌, ◌++◌, map}
use Prim.Native.Nat.{ℕ, suc, pred, ◌+◌, ◌≤◌, ◌<◌}
use native.Mathlib.Omega.{arith}
use lib.ListN.{length, take}
use lib.Seq.{take-append_seam}
use Rattle.rules.specs.Base.{Name, Member, ok, ◌>>=◌, keep}
use Rattle.rules.specs.Limits.{most_filled}
use Rattle.rules.specs.Answers.{accepted, then}
use Rattle.rules.specs.Syntax.{Formula}
use Rattle.rules.specs.Grammar.{Line, Requires, read_line}
use Rattle.rules.specs.Places.{Place, Placed, first_place, place_line, scan_line, scan_lines}
use Rattle.rules.specs.Scope.{Declarations, Variable, Scope, declarations, first_scope, scope_after}
use Rattle.rules.specs.Items.{Item, a_requires, resolve_line, resolve_lines}
use Rattle.rules.specs.Reading.{read_lines, framed_item, check_framed, program}
use Rattle.rules.specs.Reading as Reading
use Rattle.rules.specs.Fill.{Access, accesses_for, accesses_at, scope_from, requires_line, atom_words, with_atoms}
use Rattle.rules.proofs.LinesTaken.{TakenText, line-placed, lines-taken}
use Rattle.rules.proofs.Tries.{ok-inj}
use Rattle.filling.specs.Sets.{is_header, method_of_line, accesses_of_line, program_with}
use Rattle.filling.specs.Claims.{OneStar}
use Rattle.filling.proofs.Listed.{All, take_part}
use Rattle.filling.proofs.Words.{Named, requires_of, line_read}
use Rattle.filling.proofs.Star.{Parts, one-star, Scanned, scan-parts, Resolved, resolve-parts, same-declarations, same-scope}
use Rattle.filling.proofs.Programs.{framed-with}
use Rattle.filling.proofs.Resolved.{Good, atom_of, named-all, line-resolved}
use Rattle.filling.proofs.Accesses.{numbered}
use Rattle.filling.proofs.AtStar.{lines_with, items_with, star_method, star-variables, star-method, star-good, star-numbers, star-program, star-there}

pub record StarRead (ls : List Name) (ks : List Line) (items : List Item) (l : ℕ) : Type 0 where
  pub seen : List Variable
  pub before : List Item
  pub after : List Item
  pub good : (α : Access) → Member α (accesses_at ks l) → Good (declarations ks) seen α
  pub numbers :
      accesses_of_line (declarations ks) items (method_of_line ks l) ≡ map (numbered (declarations ks) seen) (accesses_at ks l)
  pub reads :
      (αs : List Access) → length αs ≤ most_filled → All (Good (declarations ks) seen) αs →
      read_lines (with_atoms αs ls) ≡ accepted (items_with (map (atom_of (declarations ks) seen) αs) before after)
  pub framed : (φ : Formula ℕ) → framed_item (a_requires φ) ≡ true → check_framed (items_with φ before after) 0 ≡ check_framed items 0
  pub programs : (φ : Formula ℕ) → program (items_with φ before after) ≡ program_with (method_of_line ks l) φ (program items)
  pub method : method_of_line ks l < length (program items).methods

-- the line with no atom
star-line : (p : Place) (a : Placed) → scan_line p (requires_line (atom_words [])) ≡ ok a → a.line ≡ requires_of []
star-line p a e =
    ok-inj (sym (line-placed p (requires_line (atom_words [])) a e).read ∙ line_read [] (omega arith) tt)

-- a line in the place of the star leads to the same place
line-scanned :
    (p : Place) (a : Placed) (αs : List Access) → read_line (requires_line (atom_words αs)) ≡ ok (requires_of αs) →
    scan_line p (requires_line (atom_words [])) ≡ ok a →
    scan_line p (requires_line (atom_words αs)) ≡ ok (record { line = requires_of αs; next = a.next })
unfolding scan_line ◌>>=◌
line-scanned p a αs r e =
    let q : place_line p Requires ≡ ok a.next =
    subst (λ (l : Line). place_line p l.kind ≡ ok a.next) (star-line p a e) (line-placed p (requires_line (atom_words [])) a e).placed in
    rw (r, q)

no-framed : framed_item (a_requires []) ≡ true
unfolding framed_item Reading.framed
no-framed = refl

-- THE NAMES BECOME LINES, AND THE LINES ITEMS: each line that stands for the star is read, and so are the others

module _ (ls : List Name) (above below : List Line) (l : ℕ) where
  abbrev ks : List Line
  ks = lines_with above below

  abbrev Γ : Declarations
  Γ = declarations ks

  abbrev at : Scope
  at = scope_from first_scope above

  abbrev vs : List Variable
  vs = at.block.variables

  -- with each set
  abbrev Scans : Type 0
  Scans =
      (αs : List Access) → length αs ≤ most_filled → All Named αs →
      scan_lines (with_atoms αs ls) 0 first_place ≡ accepted (above ++ (requires_of αs ∷ below))

  abbrev Resolves : List Item → List Item → Type 0
  Resolves before after =
      (c : Line) (a : Item) → scope_after at c ≡ scope_after at (requires_of []) → resolve_line Γ at c ≡ ok a →
      resolve_lines Γ (above ++ (c ∷ below)) 0 first_scope ≡ accepted (before ++ (a ∷ after))

  read-with :
      (before after : List Item) → Scans → Resolves before after → (αs : List Access) → length αs ≤ most_filled → All (Good Γ vs) αs →
      read_lines (with_atoms αs ls) ≡ accepted (items_with (map (atom_of Γ vs) αs) before after)
  unfolding then
  read-with before after scans resolves αs h g =
      ap (λ v. then v λ (ks : List Line). resolve_lines (declarations ks) ks 0 first_scope) (scans αs h (named-all Γ vs αs g))
      ∙ ap (λ (Δ : Declarations). resolve_lines Δ (above ++ (requires_of αs ∷ below)) 0 first_scope)
      (same-declarations (atom_words αs) (atom_words []) below above)
      ∙ resolves (requires_of αs) (a_requires (map (atom_of Γ vs) αs)) (same-scope at (atom_words αs) (atom_words [])) (line-resolved Γ at αs g)

  module _ (place : l ≡ suc (length above)) where
    accesses-here : accesses_at ks l ≡ accesses_for Γ vs
    unfolding accesses_at
    accesses-here =
        ap (λ l. accesses_for Γ (scope_from first_scope (take (pred l) ks)).block.variables) place
        ∙ ap (λ (ls : List Line). accesses_for Γ (scope_from first_scope ls).block.variables) (take-append_seam above (requires_of [] ∷ below))

    method-here : method_of_line ks l ≡ pred (length (keep is_header (above ++ (requires_of [] ∷ []))))
    method-here =
        ap (method_of_line ks) place
        ∙ ap (λ (ls : List Line). pred (length (keep is_header ls))) (take_part above (requires_of []) below)

    items-read :
        (before after : List Item) → Scans → Resolves before after → TakenText ks (items_with [] before after) →
        length before ≡ length above → StarRead ls ks (items_with [] before after) l
    items-read before after scans resolves ts many =
        record {
          seen = vs;
          before = before;
          after = after;
          good = subst (λ (αs : List Access). (α : Access) → Member α αs → Good Γ vs α) (sym accesses-here) good;
          numbers =
              subst (λ m. accesses_of_line Γ items m ≡ map (numbered Γ vs) (accesses_at ks l)) (sym m)
              (numbers ∙ ap (map (numbered Γ vs)) (sym accesses-here));
          reads = read-with before after scans resolves;
          framed = λ φ h. framed-with before after (a_requires φ) (a_requires []) 0 h no-framed;
          programs =
              λ φ.
              star-program above below before after ts many φ
              ∙ ap (λ m. program_with m φ (program items)) (sym m);
          method = subst (λ m. m < length (program items).methods) (sym m) (star-there above below before after ts many);
        }
      where
        items : List Item
        items = items_with [] before after

        m : method_of_line ks l ≡ star_method above below before after ts many
        m = method-here ∙ star-method above below before after ts many

        good : (α : Access) → Member α (accesses_for Γ vs) → Good Γ vs α
        good =
            subst (λ (vs : List Variable). (α : Access) → Member α (accesses_for Γ vs) → Good Γ vs α)
            (sym (star-variables above below before after ts many)) (star-good above below before after ts many)

        numbers :
            accesses_of_line Γ items (star_method above below before after ts many) ≡ map (numbered Γ vs) (accesses_for Γ vs)
        numbers =
            subst
            (λ (vs : List Variable).
            accesses_of_line Γ items (star_method above below before after ts many) ≡ map (numbered Γ vs) (accesses_for Γ vs))
            (sym (star-variables above below before after ts many)) (star-numbers above below before after ts many)

    lines-read :
        (items : List Item) → Scans → scan_lines (with_atoms [] ls) 0 first_place ≡ accepted ks →
        resolve_lines Γ ks 0 first_scope ≡ accepted items → StarRead ls ks items l
    lines-read items scans e r =
        subst (λ (items : List Item). resolve_lines Γ ks 0 first_scope ≡ accepted items → StarRead ls ks items l) (sym parts)
        (λ r.
        items-read R.before R.after scans R.replaced
        (lines-taken (with_atoms [] ls) ks (items_with [] R.before R.after) e r) R.as_many)
        r
      where
        R : Resolved Γ above (requires_of []) below 0 first_scope items
        R = resolve-parts Γ above (requires_of []) below 0 first_scope items r

        parts : items ≡ items_with [] R.before R.after
        parts =
            R.parts
            ∙ ap (λ a. R.before ++ (a ∷ R.after)) (ok-inj (sym R.resolved ∙ line-resolved Γ at [] tt))

-- THE TEXT
pub star-read : (ls : List Name) (ks : List Line) (items : List Item) (l : ℕ) → OneStar ls ks items l → StarRead ls ks items l
star-read ls ks items l O =
    subst
    (λ (ks : List Line).
    scan_lines (with_atoms [] ls) 0 first_place ≡ accepted ks → resolve_lines (declarations ks) ks 0 first_scope ≡ accepted items →
    StarRead ls ks items l)
    (sym parts) (λ e r. lines-read ls S.above S.below l place items scans e r) O.scanned O.read
  where
    P : Parts ls 0 l
    P = one-star ls 0 l O.star

    S : Scanned P.above (requires_line (atom_words [])) P.below 0 first_place ks
    S =
        scan-parts P.above (requires_line (atom_words [])) P.below 0 first_place ks
        (subst (λ (ws : List Name). scan_lines ws 0 first_place ≡ accepted ks) (P.filled []) O.scanned)

    parts : ks ≡ lines_with S.above S.below
    parts = S.parts ∙ ap (λ (k : Line). S.above ++ (k ∷ S.below)) (star-line S.place S.star S.scanned)

    place : l ≡ suc (length S.above)
    place = P.place ∙ ap suc (let e : 0 + length P.above ≡ length P.above = omega arith in e ∙ sym S.as_many)

    scans :
        (αs : List Access) → length αs ≤ most_filled → All Named αs →
        scan_lines (with_atoms αs ls) 0 first_place ≡ accepted (S.above ++ (requires_of αs ∷ S.below))
    scans αs h n =
        ap (λ (ws : List Name). scan_lines ws 0 first_place) (P.filled αs)
        ∙ S.replaced (requires_line (atom_words αs)) (requires_of αs) (line-scanned S.place S.star αs (line_read αs h n) S.scanned)
