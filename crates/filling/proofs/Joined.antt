-- The lines of a text with atoms in the place of its stars are parted again as they were joined.
use mathlib.Core.Path.{◌≡◌, refl, ap, ◌∙◌}
use mathlib.Core.Bool.{Bool, true, false, cond}
use mathlib.Core.List.{List, [], ◌∷◌, ◌++◌, append-nil}
use Prim.Native.Nat.{ℕ}
use lib.Dec.{eqb}
use Rattle.rules.specs.Base.{Name, bytes, all}
use Rattle.rules.specs.Base as Base
use Rattle.rules.specs.Text.{line_feed, onto, lines}
use Rattle.rules.specs.Fill.{Access, is_starred, tabbed, requires_line, atom_words, with_atoms}
use Rattle.rules.proofs.Lists.{and_both}
use Rattle.filling.specs.Claims.{joined}
use Rattle.filling.proofs.Listed.{All}
use Rattle.filling.proofs.Words.{plain, Plain, not-feed, Named, words-plain}

-- a line with its LF, and no other
data Whole : Name → Type 0 where
  ends : Whole (line_feed ∷ [])
  goes_on : {b : ℕ} {w : Name} → eqb b line_feed ≡ false → Whole w → Whole (b ∷ w)

-- a last line without
data Open : Name → Type 0 where
  one : {b : ℕ} → eqb b line_feed ≡ false → Open (b ∷ [])
  more : {b : ℕ} {w : Name} → eqb b line_feed ≡ false → Open w → Open (b ∷ w)

data Parted : List Name → Type 0 where
  none : Parted []
  last : {w : Name} → Open w → Parted (w ∷ [])
  line : {w : Name} {ls : List Name} → Whole w → Parted ls → Parted (w ∷ ls)

-- THE LINES OF A TEXT are so parted

onto-parted : (b : ℕ) (ls : List Name) → eqb b line_feed ≡ false → Parted ls → Parted (onto b ls)
unfolding onto
onto-parted b ls h none = last (one h)
onto-parted b ls h (last o) = last (more h o)
onto-parted b ls h (line w p) = line (goes_on h w) p

lines-parted : (t : List ℕ) → Parted (lines t)
unfolding lines
lines-parted [] = none
lines-parted (b ∷ t) = go (eqb b line_feed) refl (lines-parted t)
  where
    go :
        (c : Bool) → eqb b line_feed ≡ c → Parted (lines t) →
        Parted (cond c ((line_feed ∷ []) ∷ lines t) (onto b (lines t)))
    go true h p = line ends p
    go false h p = onto-parted b (lines t) h p

-- AND ARE FOUND AGAIN

first_byte :
    (b : ℕ) (t : List ℕ) → eqb b line_feed ≡ false → lines (b ∷ t) ≡ onto b (lines t)
unfolding lines
first_byte b t h = rw h

whole-first : (w t : Name) → Whole w → lines (w ++ t) ≡ w ∷ lines t
unfolding lines onto
whole-first w t ends = refl
whole-first w t (goes_on {b = b} {w = v} h o) = first_byte b (v ++ t) h ∙ ap (onto b) (whole-first v t o)

open-alone : (w : Name) → Open w → lines w ≡ w ∷ []
unfolding lines onto
open-alone w (one {b = b} h) = first_byte b [] h
open-alone w (more {b = b} {w = v} h o) = first_byte b v h ∙ ap (onto b) (open-alone v o)

found-again : (ls : List Name) → Parted ls → lines (joined ls) ≡ ls
unfolding joined lines
found-again ls none = refl
found-again ls (last {w = w} o) = ap lines (append-nil w) ∙ open-alone w o
found-again ls (line {w = w} {ls = m} o p) = whole-first w (joined m) o ∙ ap (λ r. w ∷ r) (found-again m p)

-- WITH ATOMS

plain-whole : (w t : Name) → Plain w → Whole t → Whole (w ++ t)
unfolding all
plain-whole [] t p o = o
plain-whole (b ∷ w) t p o = let (x, y) = and_both (plain b) _ p in goes_on (not-feed b x) (plain-whole w t y o)

tabbed-whole : (ws : List Name) → All Plain ws → Whole (tabbed ws)
unfolding tabbed
tabbed-whole [] p = ends
tabbed-whole (w ∷ ws) (p, ps) = goes_on refl (plain-whole w (tabbed ws) p (tabbed-whole ws ps))

line-whole : (αs : List Access) → All Named αs → Whole (requires_line (atom_words αs))
unfolding requires_line Base.opened
line-whole αs h = plain-whole (bytes "requires") (tabbed (atom_words αs)) tt (tabbed-whole (atom_words αs) (words-plain αs h))

module _ (αs : List Access) (h : All Named αs) where
  with-parted : (ls : List Name) → Parted ls → Parted (with_atoms αs ls)
  unfolding with_atoms
  with-parted ls none = none
  with-parted ls (last {w = w} o) = go (is_starred w)
    where
      go : (b : Bool) → Parted (cond b (requires_line (atom_words αs)) w ∷ [])
      go true = line (line-whole αs h) none
      go false = last o
  with-parted ls (line {w = w} {ls = m} o p) = go (is_starred w) (with-parted m p)
    where
      go : (b : Bool) → Parted (with_atoms αs m) → Parted (cond b (requires_line (atom_words αs)) w ∷ with_atoms αs m)
      go true p = line (line-whole αs h) p
      go false p = line o p

  pub atoms-joined : (t : List ℕ) → lines (joined (with_atoms αs (lines t))) ≡ with_atoms αs (lines t)
  atoms-joined t = found-again (with_atoms αs (lines t)) (with-parted (lines t) (lines-parted t))

-- with no atom
pub lines-joined : (t : List ℕ) → lines (joined (with_atoms [] (lines t))) ≡ with_atoms [] (lines t)
lines-joined t = atoms-joined [] tt t
