-- A text by its copy without stars: what reading the copy says of it.
use mathlib.Core.Path.{◌≡◌, refl, sym, ap, subst, ◌∙◌}
use mathlib.Core.Bool.{Bool, true, false, cond}
use mathlib.Core.List.{List, [], ◌∷◌}
use Prim.Native.Nat.{ℕ, zero, suc, ◌+◌, ◌≤◌, ◌<◌}
use native.Mathlib.Omega.{arith}
use lib.ListN.{length, get_or, take, drop, length-map}
use lib.Seq.{length-take-le}
use Rattle.std.proofs.Common.{Option, Some, None, Result, Ok, Err, slice_get}
use borrow.Author.Tests.{le-ltb, lt-ltb}
use Rattle.rules.specs.Base.{Name}
use Rattle.rules.specs.Limits.{most_bytes}
use Rattle.rules.specs.Answers.{Refusal, Verdict, accepted, refused, then, text_too_long, not_one_star}
use Rattle.rules.specs.Text.{lines}
use Rattle.rules.specs.Grammar.{Line}
use Rattle.rules.specs.Places.{first_place, scan_lines}
use Rattle.rules.specs.Scope.{declarations, first_scope}
use Rattle.rules.specs.Items.{Item, resolve_lines}
use Rattle.rules.specs.Syntax.{Program}
use Rattle.rules.specs.Reading.{read_text, program}
use Rattle.rules.specs.Fill.{is_starred, stars_from, with_atoms}
use Rattle.rules.specs.Calls.{fill_stars, fill_lines, fill_set}
use Rattle.filling.specs.Sets.{method_of_line}
use Rattle.filling.specs.Claims.{OneStar}
use Rattle.filling.proofs.Joined.{lines-joined}
use Rattle.filling.proofs.Search.{star-has-method}
use Rattle.tables.specs.Decode.{program_in, method_at, method_count}
use Rattle.tables.proofs.Runs.{run_length}
use Rattle.read_declarations.specs.Texts.{lines_of}
use Rattle.reader.specs.declared.RefusedLine.{RefusedLine}
use Rattle.reader.specs.Readings.{refusal_of, Tabled, ReadingIs}
use Rattle.unstarring.specs.declared.Stars.{Stars}
use Rattle.unstarring.specs.Copies.{Unstarred}
use Rattle.star_reader.specs.declared.Star.{Star}
use Rattle.star_reader.specs.StarRead.{LineHere, StarAt, CopyOf, StarRead}
use Rattle.star_reader.proofs.Headers.{all_lines}

-- THE STARS OF A TEXT: their lines are from 1 on, and lines of the text

stars-within : (n : ℕ) (ls : List Name) (i : ℕ) → i < length (stars_from n ls) → (0 < get_or (stars_from n ls) i 0) × (get_or (stars_from n ls) i 0 ≤ n + length ls)
unfolding stars_from
stars-within n [] i h = absurd (omega arith)
stars-within n (l ∷ ls) i h = go (is_starred l) i (stars-within (suc n) ls) h
  where
    go :
        (b : Bool) (i : ℕ) → let r : List ℕ = stars_from (suc n) ls in
        ((j : ℕ) → j < length r → (0 < get_or r j 0) × (get_or r j 0 ≤ suc n + length ls)) →
        i < length (cond b (suc n ∷ r) r) →
        (0 < get_or (cond b (suc n ∷ r) r) i 0) × (get_or (cond b (suc n ∷ r) r) i 0 ≤ n + suc (length ls))
    go true zero f h = (omega arith, omega arith)
    go true (suc i) f h = let (x, y) = f i (omega arith) in (omega arith, omega arith)
    go false i f h = let (x, y) = f i h in (omega arith, omega arith)

none_of : (s : List ℕ) → slice_get s 0 ≡ None → s ≡ []
none_of [] e = refl
none_of (a ∷ s) e = let z : ◌≡◌ {A = Option ℕ} (Some a) None = e in cc

one_of : (s : List ℕ) (a : ℕ) → slice_get s 0 ≡ Some a → slice_get s 1 ≡ None → s ≡ a ∷ []
one_of [] a e g = let z : ◌≡◌ {A = Option ℕ} None (Some a) = e in cc
one_of (b ∷ []) a e g = let z : ◌≡◌ {A = Option ℕ} (Some b) (Some a) = e in cc
one_of (b ∷ d ∷ s) a e g = let z : ◌≡◌ {A = Option ℕ} (Some d) None = g in cc

two-of : (s : List ℕ) (a : ℕ) → slice_get s 1 ≡ Some a → s ≡ get_or s 0 0 ∷ a ∷ drop 2 s
two-of [] a e = let z : ◌≡◌ {A = Option ℕ} None (Some a) = e in cc
two-of (b ∷ []) a e = let z : ◌≡◌ {A = Option ℕ} None (Some a) = e in cc
two-of (b ∷ d ∷ s) a e = let z : ◌≡◌ {A = Option ℕ} (Some d) (Some a) = e in let y : d ≡ a = cc in ap (λ c. b ∷ c ∷ s) y

-- THE TEXT

pub too_long : (t : List ℕ) → most_bytes < length t → fill_set t ≡ refused text_too_long 0
unfolding fill_set
too_long t h = rw (lt-ltb most_bytes (length t) h)

module _ {t c : List ℕ} {f g : Option ℕ} (x : CopyOf t c f g) where
  lines_are : lines c ≡ with_atoms [] (lines t)
  lines_are = ap lines x.copied ∙ lines-joined t

  same_count : length (lines_of c) ≡ length (lines t)
  unfolding lines_of with_atoms
  same_count = length-map (lines c) _ ∙ (ap length lines_are ∙ length-map (lines t) _)

  by_lines : fill_set t ≡ fill_lines (lines t)
  unfolding fill_set
  by_lines = rw (le-ltb most_bytes (length t) x.fits)

  read-lines :
      read_text c
      ≡ then (scan_lines (with_atoms [] (lines t)) 0 first_place) (λ ls. resolve_lines (declarations ls) ls 0 first_scope)
  unfolding read_text
  read-lines = rw (le-ltb most_bytes (length c) (omega (arith, x.short, x.fits)), lines_are)

  pub copy-refused : {r : Refusal} {l : ℕ} → read_text c ≡ refused r l → fill_set t ≡ refused r l
  unfolding fill_lines then
  copy-refused {r} {l} e = by_lines ∙ go (scan_lines (with_atoms [] (lines t)) 0 first_place) (sym read-lines ∙ e)
    where
      inner :
          (ls : List Line) (v : Verdict (List Item)) → v ≡ refused r l →
          then v (λ items. fill_stars (lines t) ls (stars_from 0 (lines t))) ≡ refused r l
      inner ls (accepted a) e = absurd (let z : ◌≡◌ {A = ℕ} 0 1 = cc in omega arith)
      inner ls (refused q m) e = cc

      go :
          (v : Verdict (List Line)) → then v (λ ls. resolve_lines (declarations ls) ls 0 first_scope) ≡ refused r l →
          then v (λ ls. then (resolve_lines (declarations ls) ls 0 first_scope) λ items. fill_stars (lines t) ls (stars_from 0 (lines t))) ≡ refused r l
      go (accepted ls) e = inner ls (resolve_lines (declarations ls) ls 0 first_scope) e
      go (refused q m) e = cc

  module _ {w : List ℕ} {u : Option ℕ} (y : Tabled c w u) where
    scanned : scan_lines (with_atoms [] (lines t)) 0 first_place ≡ accepted (lines_of c)
    scanned = subst (λ ls. scan_lines ls 0 first_place ≡ accepted (lines_of c)) lines_are y.noted.taken

    by-stars : (s : List ℕ) → stars_from 0 (lines t) ≡ s → fill_set t ≡ fill_stars (lines t) (lines_of c) s
    unfolding fill_lines then
    by-stars s e = by_lines ∙ rw (scanned, y.resolved, e)

    pub none-there : f ≡ None → fill_set t ≡ refused not_one_star 0
    unfolding fill_stars
    none-there e = by-stars [] (none_of _ (sym x.first ∙ e))

    pub second-there : {l : ℕ} → g ≡ Some l → fill_set t ≡ refused not_one_star l
    unfolding fill_stars
    second-there {l} e = by-stars _ (two-of _ l (sym x.second ∙ e))

    module _ {m : ℕ} (p : f ≡ Some m) (q : g ≡ None) where
      one : OneStar (lines t) (lines_of c) y.items m
      one =
          record {
            scanned = scanned;
            read = y.resolved;
            star = one_of _ m (sym x.first ∙ p) (sym x.second ∙ q);
          }

      method-there : method_of_line (lines_of c) m < method_count w
      unfolding program_in
      method-there =
          let e : method_count w ≡ length (program y.items).methods =
          sym (run_length (method_at w) 0 (method_count w)) ∙ ap (λ (P : Program). length P.methods) y.program in
          omega (arith, e, star-has-method _ _ _ _ one)

      line-there : m ≤ length (lines_of c)
      line-there =
          let e = OneStar.star one in
          let (_, h) = stars-within 0 (lines t) 0 (rw e (omega arith)) in
          omega (arith, h, ap (λ (s : List ℕ). get_or s 0 0) e, same_count)

      pub line-here : LineHere c w m
      line-here =
          let T = y.tables in
          record {
            method = record { size = T.size; noted = y.noted; classes = T.classes; methods = T.methods; within = method-there };
            high = omega (arith, line-there, all_lines y.noted.taken y.noted.table);
          }

      pub star-read : {s : Star} → StarAt c m u s → StarRead t w s
      star-read {s} z =
          record {
            fits = x.fits;
            ks = lines_of c;
            items = y.items;
            one = rw z.line one;
            tables = y.tables;
            program = y.program;
            framed = rw z.unframed y.framed;
            spare = y.spare;
            method = rw z.line z.method;
            class = z.class;
            parameter = z.parameter;
            within = rw z.method method-there;
          }

-- READING BY ITS CASES
module _ (c w : List ℕ) {r : Result (Option ℕ) RefusedLine} (x : ReadingIs c w r) where
  pub copy-tabled : {u : Option ℕ} → r ≡ Ok u → Tabled c w u
  unfolding ReadingIs
  copy-tabled e = subst (ReadingIs c w) e x

  pub copy-why : {e : RefusedLine} → r ≡ Err e → read_text c ≡ refused (refusal_of e.why) e.line
  unfolding ReadingIs
  copy-why e = subst (ReadingIs c w) e x

-- THE COPY that `unstar` makes
module _ {t d : List ℕ} {s : Stars} (h : length t ≤ most_bytes) (x : Unstarred t d s) (size : length d ≡ most_bytes) where
  pub copy-long : s.len ≡ length (take s.len d)
  copy-long = sym (length-take-le s.len d (omega (arith, x.short)))

  pub copy_of : CopyOf t (take s.len d) s.first s.second
  copy_of =
      record { fits = h; copied = x.copied; short = omega (arith, copy-long, x.short); first = x.first; second = x.second }
