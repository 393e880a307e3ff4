-- A requires line with acc atoms: its bytes are clean, its fields are its words, and it is read as a requires line.
use mathlib.Core.Path.{◌≡◌, refl, sym, ap, subst, ◌∙◌}
use mathlib.Core.Bool.{Bool, false, cond, ◌&&◌}
use mathlib.Core.List.{List, [], ◌∷◌, ◌++◌}
use mathlib.Core.Logic.{⊎_elim}
use Prim.Native.Nat.{ℕ, zero, suc, ◌≤◌, ◌-◌}
use native.Mathlib.Omega.{arith}
use lib.Dec.{T, eqb, leb, leb→le, le→leb, eqb→eq, lit≤}
use lib.ListN.{length, get_or, drop}
use Rattle.rules.specs.Base.{Name, Try, ok, ◌>>=◌, ◌>>◌, check, or_else, bytes, all, between}
use Rattle.rules.specs.Base as Base
use Rattle.rules.specs.Limits.{most_atoms, most_filled}
use Rattle.rules.specs.Answers.{Refusal, bad_byte, malformed}
use Rattle.rules.specs.Text.{tab, line_feed, onto, fields, allowed, clean, digit, letter, letter_or_digit, is_name, is_atom, is_formula}
use Rattle.rules.specs.Text as Text
use Rattle.rules.specs.Grammar.{Line, Requires, form, is_formed, kind_of, read_line}
use Rattle.rules.specs.Grammar as Grammar
use Rattle.rules.specs.Fill.{Access, tabbed, requires_line, atom_words}
use Rattle.rules.proofs.Lists.{and_intro, and_both, or_cases, or_right, F-false}
use Rattle.rules.proofs.Tries.{pass}
use Rattle.filling.proofs.Listed.{All}

-- BYTES of a word: neither tab nor LF

abbrev pub plain : ℕ → Bool
plain b = between 33 126 b

abbrev pub Plain : Name → Type 0
Plain w = T (all plain w)

wider : (a z b y n : ℕ) → b ≤ a → z ≤ y → T (between a z n) → T (between b y n)
unfolding between
wider a z b y n l u t =
    let (i, j) = and_both (leb a n) (leb n z) t in
    and_intro (leb b n) (leb n y) (omega (arith, leb→le, le→leb)) (omega (arith, leb→le, le→leb))

byte-plain : (b : ℕ) → T (letter_or_digit b) → T (plain b)
unfolding letter_or_digit letter digit
byte-plain b t =
    ⊎_elim
    (λ t.
    ⊎_elim (λ t. wider 65 90 33 126 b (lit≤ tt) (lit≤ tt) t) (λ t. wider 97 122 33 126 b (lit≤ tt) (lit≤ tt) t)
    (or_cases (between 65 90 b) _ t))
    (λ t. wider 48 57 33 126 b (lit≤ tt) (lit≤ tt) t)
    (or_cases (letter b) _ t)

bytes-plain : (w : Name) → T (all letter_or_digit w) → Plain w
unfolding all
bytes-plain [] t = tt
bytes-plain (b ∷ w) t =
    let (x, y) = and_both (letter_or_digit b) _ t in and_intro (plain b) (all plain w) (byte-plain b x) (bytes-plain w y)

pub name-plain : (w : Name) → T (is_name w) → Plain w
unfolding is_name
name-plain w t =
    let (_, t₁) = and_both (leb (length w) _) _ t in bytes-plain w (and_both (letter (get_or w 0 0)) _ t₁).1

-- a plain byte is not one that is below 33
plain-not : (b n : ℕ) → n ≤ 32 → T (plain b) → eqb b n ≡ false
unfolding between
plain-not b n l t =
    let (x, _) = and_both (leb 33 b) _ t in F-false (eqb b n) (λ e. omega (arith, leb→le 33 b x, eqb→eq b n e))

pub not-feed : (b : ℕ) → T (plain b) → eqb b line_feed ≡ false
not-feed b t = plain-not b line_feed (lit≤ tt) t

plain-allowed : (b : ℕ) → T (plain b) → T (allowed b)
unfolding allowed
plain-allowed b t = or_right (eqb b tab) _ (or_right (eqb b line_feed) _ t)

-- FIELDS

fields-onto : (w t : Name) (ws : List Name) → Plain w → fields t ≡ [] ∷ ws → fields (w ++ t) ≡ w ∷ ws
unfolding all fields onto
fields-onto [] t ws p e = e
fields-onto (b ∷ w) t ws p e =
    let (x, y) = and_both (plain b) _ p in
    go (eqb b line_feed) (eqb b tab) (not-feed b x) (plain-not b tab (lit≤ tt) x) (fields-onto w t ws y e)
  where
    go :
        (c d : Bool) → c ≡ false → d ≡ false → fields (w ++ t) ≡ w ∷ ws →
        cond c ([] ∷ []) (cond d ([] ∷ fields (w ++ t)) (onto b (fields (w ++ t)))) ≡ (b ∷ w) ∷ ws
    go c d i j e = rw (i, j, e)

fields-tabbed : (ws : List Name) → All Plain ws → fields (tabbed ws) ≡ [] ∷ ws
unfolding fields tabbed
fields-tabbed [] p = refl
fields-tabbed (w ∷ ws) (p, ps) = ap (λ r. [] ∷ r) (fields-onto w (tabbed ws) ws p (fields-tabbed ws ps))

-- CLEAN

last : Name → ℕ
last l = get_or l (length l - 1) 0

last-further : (b : ℕ) (l : Name) → 1 ≤ length l → last (b ∷ l) ≡ last l
unfolding last
last-further b [] h = absurd (omega arith)
last-further b (c ∷ l) h =
    let e : suc (length (c ∷ l)) - 1 ≡ suc (length (c ∷ l) - 1) = omega arith in ap (λ i. get_or (b ∷ c ∷ l) i 0) e

-- of allowed bytes, and not without one
record Ends (t : Name) : Type 0 where
  allowed_all : T (all allowed t)
  some_byte : 1 ≤ length t
  feed : last t ≡ line_feed

ends-onto : (w t : Name) → Plain w → Ends t → Ends (w ++ t)
unfolding all
ends-onto [] t p E = E
ends-onto (b ∷ w) t p E =
    let (x, y) = and_both (plain b) _ p in
    let F : Ends (w ++ t) = ends-onto w t y E in
    record {
      allowed_all = and_intro (allowed b) _ (plain-allowed b x) F.allowed_all;
      some_byte = omega arith;
      feed = last-further b (w ++ t) F.some_byte ∙ F.feed;
    }

ends-tabbed : (ws : List Name) → All Plain ws → Ends (tabbed ws)
unfolding all tabbed allowed between last
ends-tabbed [] p = record { allowed_all = tt; some_byte = lit≤ tt; feed = refl }
ends-tabbed (w ∷ ws) (p, ps) =
    let F : Ends (w ++ tabbed ws) = ends-onto w (tabbed ws) p (ends-tabbed ws ps) in
    record {
      allowed_all = F.allowed_all;
      some_byte = omega arith;
      feed = last-further tab (w ++ tabbed ws) F.some_byte ∙ F.feed;
    }

-- ATOMS

-- both words are names
pub record Named (α : Access) : Type 0 where
  pub variable : T (is_name α.variable)
  pub field : T (is_name α.field)

pub words-plain : (αs : List Access) → All Named αs → All Plain (atom_words αs)
unfolding atom_words Base.opened
words-plain [] h = tt
words-plain (α ∷ αs) (n, h) = (tt, (name-plain α.variable n.variable, (name-plain α.field n.field, words-plain αs h)))

words-form : (n : ℕ) (αs : List Access) → length αs ≤ n → All Named αs → T (is_formula n (atom_words αs))
unfolding atom_words is_formula is_atom Text.opened Base.opened
words-form zero [] l h = tt
words-form (suc n) [] l h = tt
words-form zero (α ∷ αs) l h = absurd (omega arith)
words-form (suc n) (α ∷ αs) l (m, h) =
    and_intro (is_name α.variable && is_name α.field) _
    (and_intro (is_name α.variable) _ m.variable m.field) (words-form n αs (omega arith) h)

-- THE LINE

requires-plain : Plain (bytes "requires")
unfolding Base.opened
requires-plain = tt

line_clean : (ws : List Name) → All Plain ws → T (clean (requires_line ws))
unfolding clean requires_line last
line_clean ws p =
    let E : Ends (bytes "requires" ++ tabbed ws) = ends-onto (bytes "requires") (tabbed ws) requires-plain (ends-tabbed ws p) in
    and_intro (all allowed _) _ E.allowed_all (subst (λ b. T (eqb b line_feed)) (sym E.feed) tt)

line-fields : (ws : List Name) → All Plain ws → fields (requires_line ws) ≡ bytes "requires" ∷ ws
unfolding requires_line
line-fields ws p = fields-onto (bytes "requires") (tabbed ws) ws requires-plain (fields-tabbed ws p)

abbrev pub requires_of : List Access → Line
requires_of αs = record { kind = Requires; fields = atom_words αs }

-- what follows on a line that is clean
rest_of : List Name → Try Refusal Line
rest_of fs = do
  k ← or_else (kind_of (get_or fs 0 [])) malformed
  check (is_formed (form k).operands (form k).tail (drop 1 fs)) malformed
  ok (record { kind = k; fields = drop 1 fs })

rest-passes : (ws : List Name) → T (is_formula most_atoms ws) → rest_of (bytes "requires" ∷ ws) ≡ ok (record { kind = Requires; fields = ws })
unfolding rest_of Grammar.opened Base.opened
rest-passes ws f = pass (is_formula most_atoms ws) malformed _ f

-- it is read as written
pub line_read :
    (αs : List Access) → length αs ≤ most_filled → All Named αs → read_line (requires_line (atom_words αs)) ≡ ok (requires_of αs)
unfolding read_line rest_of
line_read αs l h =
    let p = words-plain αs h in
    pass (clean (requires_line (atom_words αs))) bad_byte _ (line_clean (atom_words αs) p)
    ∙ ap rest_of (line-fields (atom_words αs) p) ∙ rest-passes (atom_words αs) (words-form most_atoms αs (omega arith) h)
