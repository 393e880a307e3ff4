-- `fill`: its answer by what the star's reader and the filler answer, which numbers and lines it refuses with, and the star of a text with a set.
use mathlib.Core.Path.{◌≡◌, refl, sym, ap, ap₂, subst, ◌∙◌}
use mathlib.Core.Bool.{Bool, true, false, cond}
use mathlib.Core.List.{List, [], ◌∷◌, ◌++◌}
use mathlib.Core.Logic.{inl, inr}
use mathlib.Core.Option.{Option, none, some}
use Prim.Native.Nat.{ℕ, suc, ◌+◌, ◌≤◌, ◌<◌}
use native.Mathlib.Omega.{arith}
use lib.Dec.{eqb, ltb}
use lib.ListN.{length, replicate, length-append}
use borrow.Author.Tests.{eqb-true, le-ltb, ltb-false}
use Rattle.std.specs.Prelude as Std
use Rattle.std.specs.Prelude.{Ok, Err, is_some}
use Rattle.rules.specs.Base.{Name}
use Rattle.rules.specs.Limits.{most_bytes, places_bytes}
use Rattle.rules.specs.Answers.{Refusal, Verdict, accepted, refused, then, refusal_number, text_too_long, unframed, no_set_accepted}
use Rattle.rules.specs.Syntax.{Program}
use Rattle.rules.specs.Text.{line_feed, lines, onto}
use Rattle.rules.specs.Grammar.{Line}
use Rattle.rules.specs.Places.{first_place, scan_lines}
use Rattle.rules.specs.Scope.{declarations, first_scope}
use Rattle.rules.specs.Names.{class_number}
use Rattle.rules.specs.Items.{Item, resolve_lines}
use Rattle.rules.specs.Reading.{read_text, program}
use Rattle.rules.specs.Fill.{is_starred, stars_from, atom_words, requires_line, with_atoms}
use Rattle.rules.specs.Calls.{Filled, is_accepted, set_found, first_set, fill_stars, fill_lines, fill_set, fill_numbers, fill_text}
use Rattle.rules.specs.Areas.{cleared}
use Rattle.rules.proofs.Tries.{refused-accepted, refusal-not-zero, then-accepted}
use Rattle.soundness.proofs.ReadRefuses.{read-refused}
use Rattle.filling.specs.Sets.{accesses_in, accesses_of_line, method_of_line, header_of, set_in, set_for}
use Rattle.filling.specs.Claims.{joined, OneStar}
use Rattle.filling.proofs.Joined.{lines-joined}
use Rattle.filling.proofs.Search.{search-over-programs}
use Rattle.tables.specs.Decode.{program_in}
use Rattle.reader.specs.Readings.{framed_verdict}
use Rattle.unstarring.proofs.Lines.{starred-long, keyword-long}
use Rattle.star_reader.specs.declared.Star.{Star}
use Rattle.star_reader.specs.declared.NoStar.{NoStar}
use Rattle.star_reader.specs.StarRead.{StarRead, StarredIs}
use Rattle.filler.specs.Search.{Held, SetIs}
use Rattle.widths.proofs.ReadBounds.{All, Within, read-within, lines-few}
use Rattle.station.specs.declared.Reply.{Reply}
use Rattle.station.specs.Station.{starless, Finding, numbers_in, FillAs, set_at_star}
use Rattle.station.specs.Promises.{FillNumber}
use Rattle.station.proofs.Texts.{refusal-small}

-- THE ANSWER
abbrev pub numbers_of : Filled → ℕ × ℕ
numbers_of a = (a.number, a.line)

abbrev Answers : Verdict (List ℕ) → ℕ × ℕ → List ℕ → Type 0
Answers v p d = (p ≡ numbers_of (fill_numbers v)) × (d ≡ (fill_numbers v).places)

refused-answer :
    {v : Verdict (List ℕ)} {r : Refusal} {l : ℕ} → v ≡ refused r l → {n : ℕ} → n ≡ refusal_number r → {d : List ℕ} → d ≡ replicate places_bytes 0 →
    Answers v (n, l) d
unfolding fill_numbers
refused-answer {l = l} e i z = rw e (ap (λ (n : ℕ). (n, l)) i, z)

given-answer : {v : Verdict (List ℕ)} {ps : List ℕ} → v ≡ accepted ps → {d : List ℕ} → Held d ps → Answers v (0, 0) d
unfolding fill_numbers
given-answer e h = rw e (refl, sym h.is)

-- the places area, all zero
pub no-places : (b : List ℕ) {d : List ℕ} → length b ≡ places_bytes → d ≡ cleared b → d ≡ replicate places_bytes 0
unfolding cleared
no-places b n e = e ∙ ap (λ (m : ℕ). replicate m 0) n

-- of a text that is refused before the sets are tried
module _ (t : List ℕ) {l : ℕ} {d : List ℕ} (z : d ≡ replicate places_bytes 0) where
  text-refused :
      {r : Refusal} → fill_set t ≡ refused r l → ((refusal_number r, l) ≡ numbers_of (fill_text t)) × (d ≡ (fill_text t).places)
  unfolding fill_text
  text-refused e = refused-answer e refl z

-- and by the reader's answer
pub unstarred :
    (t w : List ℕ) (e : NoStar) {d : List ℕ} → StarredIs t w (Err e) → d ≡ replicate places_bytes 0 → FillAs (fill_text t) (Err (starless e)) d
unfolding StarredIs
unstarred t w (NoStar.Refused e) x z = text-refused t z x
unstarred t w NoStar.Missing x z = text-refused t z x
unstarred t w (NoStar.Second l) x z = text-refused t z x

pub starred : {t w : List ℕ} (s : Star) → StarredIs t w (Ok s) → StarRead t w s
unfolding StarredIs
starred s x = x

-- THE SETS
module _ (P : Program) (s : Star) where
  abbrev found : Option (List ℕ)
  found = set_in P s.method (accesses_in P.classes s.class s.parameter)

  star-found : is_some s.unframed ≡ false → {o : Option (List ℕ)} → found ≡ o → set_at_star P s ≡ set_found s.line o
  unfolding set_at_star
  star-found e i = rw (e, i)

  pub set-unframed : is_some s.unframed ≡ true → {d : List ℕ} → d ≡ replicate places_bytes 0 → Answers (set_at_star P s) (refusal_number no_set_accepted, s.line) d
  unfolding set_at_star set_found
  set-unframed n z = refused-answer {r = no_set_accepted} (rw n) refl z

  module _ (e : is_some s.unframed ≡ false) (r : Bool) (b : List ℕ) (x : SetIs found r b) where
    pub set_given : r ≡ true → Answers (set_at_star P s) (0, 0) b
    unfolding SetIs set_found
    set_given i = let (ps, q, h) = subst (λ (r : Bool). SetIs found r b) i x in given-answer (star-found e q) h

    pub set-none : r ≡ false → {d : List ℕ} → d ≡ replicate places_bytes 0 → Answers (set_at_star P s) (refusal_number no_set_accepted, s.line) d
    unfolding SetIs set_found
    set-none i z = refused-answer (star-found e (subst (λ (r : Bool). SetIs found r b) i x)) refl z

framed-accepts : {A : Type 0} (u : Std.Option ℕ) (x : Option A) → cond (is_accepted (framed_verdict u)) x none ≡ cond (is_some u) none x
unfolding is_accepted framed_verdict
framed-accepts Std.None x = refl
framed-accepts (Std.Some l) x = refl

-- a text with one star
module _ {t w : List ℕ} {s : Star} (x : StarRead t w s) where
  by_lines : fill_set t ≡ fill_lines (lines t)
  unfolding fill_set
  by_lines = rw (le-ltb most_bytes (length t) x.fits)

  searched : fill_lines (lines t) ≡ first_set (lines t) x.ks s.line
  unfolding fill_lines fill_stars then
  searched = let i = x.one.scanned in let j = x.one.read in let k = x.one.star in rw (i, j, k)

  abbrev set_with : Program → ℕ → ℕ → Option (List ℕ)
  set_with P c d = set_in P s.method (accesses_in P.classes c d)

  -- the classes of `this` and of w
  abbrev owner : ℕ
  owner = (header_of (declarations x.ks) s.method).owner

  abbrev given : ℕ
  given = class_number (declarations x.ks) (header_of (declarations x.ks) s.method).parameter_type

  same_set :
      set_for x.items (method_of_line x.ks s.line) (accesses_of_line (declarations x.ks) x.items (method_of_line x.ks s.line))
      ≡ cond (is_some s.unframed) none (set_with (program_in w) s.class s.parameter)
  unfolding set_for
  same_set =
      ap (λ (m : ℕ). set_for x.items m (accesses_of_line (declarations x.ks) x.items m)) (sym x.method)
      ∙ ap (λ (b : Bool). cond b (set_with (program x.items) owner given) none) (ap is_accepted x.framed)
      ∙ framed-accepts s.unframed (set_with (program x.items) owner given)
      ∙ ap₂ (λ (c d : ℕ). cond (is_some s.unframed) none (set_with (program x.items) c d)) (sym x.class) (sym x.parameter)
      ∙ ap (λ (P : Program). cond (is_some s.unframed) none (set_with P s.class s.parameter)) (sym x.program)

  star-set : fill_set t ≡ set_at_star (program_in w) s
  unfolding set_at_star
  star-set = by_lines ∙ searched ∙ search-over-programs (lines t) x.ks x.items s.line x.one ∙ ap (set_found s.line) same_set

  pub text-star : (f : Finding) {d : List ℕ} → FillAs (fill_numbers (set_at_star (program_in w) s)) f d → FillAs (fill_text t) f d
  unfolding fill_text
  text-star f y = rw star-set y

-- THE COPY OF A TEXT without its stars is no longer
joined-lines : (t : List ℕ) → joined (lines t) ≡ t
unfolding joined lines onto
joined-lines [] = refl
joined-lines (b ∷ t) = go (eqb b line_feed) refl (lines t) (joined-lines t)
  where
    go : (c : Bool) → eqb b line_feed ≡ c → (ls : List Name) → joined ls ≡ t → joined (cond c ((line_feed ∷ []) ∷ ls) (onto b ls)) ≡ b ∷ t
    go true h ls e = ap₂ (λ (a : ℕ) (r : List ℕ). a ∷ r) (sym (eqb-true b line_feed h)) e
    go false h [] e = ap (λ (r : List ℕ). b ∷ r) e
    go false h (w ∷ ls) e = ap (λ (r : List ℕ). b ∷ r) e

copy-short : (ls : List Name) → length (joined (with_atoms [] ls)) ≤ length (joined ls)
unfolding joined with_atoms atom_words
copy-short [] = omega arith
copy-short (l ∷ ls) = go (is_starred l) refl (copy-short ls)
  where
    go :
        (b : Bool) → is_starred l ≡ b → length (joined (with_atoms [] ls)) ≤ length (joined ls) →
        length (cond b (requires_line []) l ++ joined (with_atoms [] ls)) ≤ length (l ++ joined ls)
    go true e h =
        omega (arith, h, starred-long l e, keyword-long, length-append (requires_line []) (joined (with_atoms [] ls)), length-append l (joined ls))
    go false e h = omega (arith, h, length-append l (joined (with_atoms [] ls)), length-append l (joined ls))

abbrev copy_of : List ℕ → List ℕ
copy_of t = joined (with_atoms [] (lines t))

copy_read :
    (t : List ℕ) → length t ≤ most_bytes →
    read_text (copy_of t) ≡ then (scan_lines (with_atoms [] (lines t)) 0 first_place) (λ ks. resolve_lines (declarations ks) ks 0 first_scope)
unfolding read_text
copy_read t h =
    let n : length (copy_of t) ≤ most_bytes = omega (arith, h, copy-short (lines t), ap length (joined-lines t)) in
    rw (le-ltb most_bytes (length (copy_of t)) n, lines-joined t)

-- WHY A TEXT IS REFUSED: it is too long, its copy is not read, or by its stars
data Answered (t : List ℕ) : Verdict (List ℕ) → Type 0 where
  too_long : Answered t (refused text_too_long 0)
  unread : {r : Refusal} {l : ℕ} → read_text (copy_of t) ≡ refused r l → Answered t (refused r l)
  by-stars : (ks : List Line) → length t ≤ most_bytes → Answered t (fill_stars (lines t) ks (stars_from 0 (lines t)))

answered : (t : List ℕ) → Answered t (fill_set t)
unfolding fill_set fill_lines then
answered t = go (ltb most_bytes (length t)) refl
  where
    resolved :
        (ks : List Line) (v : Verdict (List Item)) → read_text (copy_of t) ≡ v → length t ≤ most_bytes →
        Answered t (then v λ items. fill_stars (lines t) ks (stars_from 0 (lines t)))
    resolved ks (accepted items) e h = by-stars ks h
    resolved ks (refused r l) e h = unread e

    scanned :
        (v : Verdict (List Line)) → read_text (copy_of t) ≡ then v (λ ks. resolve_lines (declarations ks) ks 0 first_scope) → length t ≤ most_bytes →
        Answered t (then v λ ks. then (resolve_lines (declarations ks) ks 0 first_scope) λ items. fill_stars (lines t) ks (stars_from 0 (lines t)))
    scanned (accepted ks) e h = resolved ks (resolve_lines (declarations ks) ks 0 first_scope) e h
    scanned (refused r l) e h = unread e

    go : (b : Bool) → ltb most_bytes (length t) ≡ b → Answered t (cond b (refused text_too_long 0) (fill_lines (lines t)))
    go true e = too_long
    go false e =
        let h = ltb-false most_bytes (length t) e in
        scanned (scan_lines (with_atoms [] (lines t)) 0 first_place) (copy_read t (omega (arith, h))) (omega (arith, h))

-- its numbers
found_number : (l : ℕ) (o : Option (List ℕ)) → FillNumber (fill_numbers (set_found l o)).number
unfolding set_found fill_numbers refusal_number
found_number l none = inr (inr (inl refl))
found_number l (some ps) = inl refl

stars-number : (ls : List Name) (ks : List Line) (ss : List ℕ) → FillNumber (fill_numbers (fill_stars ls ks ss)).number
unfolding fill_stars first_set fill_numbers refusal_number
stars-number ls ks [] = inr (inr (inr refl))
stars-number ls ks (l ∷ []) = found_number l _
stars-number ls ks (l ∷ m ∷ ms) = inr (inr (inr refl))

verdict-number : (t : List ℕ) (v : Verdict (List ℕ)) → Answered t v → FillNumber (fill_numbers v).number
unfolding fill_numbers refusal_number
verdict-number t v too_long = inr (inl (omega arith, omega arith))
verdict-number t v (unread {r = r} {l = l} e) = inr (inl (read-refused (copy_of t) r l e))
verdict-number t v (by-stars ks h) = stars-number (lines t) ks (stars_from 0 (lines t))

pub fill-number : (t : List ℕ) → FillNumber (fill_text t).number
unfolding fill_text
fill-number t = verdict-number t (fill_set t) (answered t)

-- and lines
stars-within : (n k : ℕ) (ls : List Name) → n + length ls ≤ k → All (λ (l : ℕ). l ≤ k) (stars_from n ls)
unfolding stars_from
stars-within n k [] h = tt
stars-within n k (l ∷ ls) h = go (is_starred l) (stars-within (suc n) k ls (omega arith))
  where
    go :
        (b : Bool) → All (λ (l : ℕ). l ≤ k) (stars_from (suc n) ls) →
        All (λ (l : ℕ). l ≤ k) (cond b (suc n ∷ stars_from (suc n) ls) (stars_from (suc n) ls))
    go true x = (omega arith, x)
    go false x = x

found_within : (k l : ℕ) (o : Option (List ℕ)) → l ≤ k → Within k (set_found l o)
unfolding set_found
found_within k l none h = h
found_within k l (some ps) h = tt

stars-line : (k : ℕ) (ls : List Name) (ks : List Line) (ss : List ℕ) → All (λ (l : ℕ). l ≤ k) ss → Within k (fill_stars ls ks ss)
unfolding fill_stars first_set
stars-line k ls ks [] x = omega arith
stars-line k ls ks (l ∷ []) x = found_within k l _ x.0
stars-line k ls ks (l ∷ m ∷ ms) x = x.1.0

verdict-within : (t : List ℕ) (v : Verdict (List ℕ)) → Answered t v → Within most_bytes v
verdict-within t v too_long = omega arith
verdict-within t v (unread e) = subst (Within most_bytes) e (read-within (copy_of t))
verdict-within t v (by-stars ks h) =
    stars-line most_bytes (lines t) ks (stars_from 0 (lines t)) (stars-within 0 most_bytes (lines t) (omega (arith, h, lines-few t)))

-- WHAT IS RETURNED FITS
number_small : (v : Verdict (List ℕ)) → (fill_numbers v).number < 65536
unfolding fill_numbers
number_small (accepted ps) = omega arith
number_small (refused r l) = refusal-small r

line_small : (n : ℕ) (v : Verdict (List ℕ)) → Within n v → (fill_numbers v).line ≤ n
unfolding fill_numbers
line_small n (accepted ps) h = omega arith
line_small n (refused r l) h = h

pub fill-small : (t : List ℕ) → ((fill_text t).number < 65536) × ((fill_text t).line < 65536)
unfolding fill_text
fill-small t = (number_small (fill_set t), omega (arith, line_small most_bytes (fill_set t) (verdict-within t (fill_set t) (answered t))))

pub fill-fits : (t : List ℕ) (f : Reply) → numbers_in f ≡ numbers_of (fill_text t) → (f.number < 65536) × (f.line < 65536)
fill-fits t f e = subst (λ (p : ℕ × ℕ). (p.0 < 65536) × (p.1 < 65536)) (sym e) (fill-small t)

-- A TEXT WITH A SET has one star
pub record Given (t ps : List ℕ) : Type 0 where
  pub ks : List Line
  pub items : List Item
  pub line : ℕ
  pub one : OneStar (lines t) ks items line

one_of : (ls : List Name) (ks : List Line) (ss ps : List ℕ) → fill_stars ls ks ss ≡ accepted ps → (l : ℕ) × (ss ≡ l ∷ [])
unfolding fill_stars
one_of ls ks [] ps e = refused-accepted e
one_of ls ks (l ∷ []) ps e = (l, refl)
one_of ls ks (l ∷ m ∷ ms) ps e = refused-accepted e

pub set-given-by : (t ps : List ℕ) → fill_set t ≡ accepted ps → Given t ps
unfolding fill_set fill_lines
set-given-by t ps e = go (ltb most_bytes (length t)) e
  where
    go : (b : Bool) → cond b (refused text_too_long 0) (fill_lines (lines t)) ≡ accepted ps → Given t ps
    go true e = refused-accepted e
    go false e =
        let (ks, i, e₁) = then-accepted (scan_lines (with_atoms [] (lines t)) 0 first_place) _ ps e in
        let (items, j, e₂) = then-accepted (resolve_lines (declarations ks) ks 0 first_scope) _ ps e₁ in
        let (l, k) = one_of (lines t) ks (stars_from 0 (lines t)) ps e₂ in
        record { ks = ks; items = items; line = l; one = record { scanned = i; read = j; star = k } }

-- number 0 is a set
pub zero-given : (t : List ℕ) → (fill_text t).number ≡ 0 → (ps : List ℕ) × (fill_set t ≡ accepted ps) × (fill_text t ≡ fill_numbers (accepted ps))
unfolding fill_text fill_numbers
zero-given t z = go (fill_set t) refl z
  where
    go :
        (v : Verdict (List ℕ)) → fill_set t ≡ v → (fill_numbers v).number ≡ 0 →
        (ps : List ℕ) × (fill_set t ≡ accepted ps) × (fill_numbers (fill_set t) ≡ fill_numbers (accepted ps))
    go (accepted ps) e z = (ps, e, ap fill_numbers e)
    go (refused r l) e z = refusal-not-zero r z
