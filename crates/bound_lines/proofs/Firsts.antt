-- Laws of the first line that is refused: row by row in a block, block by block in a program.
use mathlib.Core.Path.{◌≡◌, refl, sym, ap, ◌∙◌, subst}
use mathlib.Core.Bool.{Bool, true, false, cond, ◌||◌}
use mathlib.Core.List.{List, [], ◌∷◌}
use mathlib.Core.Option.{Option, none, some}
use Prim.Native.Nat.{ℕ, zero, suc, ◌+◌, ◌≤◌, ◌<◌}
use native.Mathlib.Omega.{arith}
use native.Mathlib.Numerals.{add-one}
use lib.Dec.{eqb}
use lib.ListN.{length, drop}
use lib.Seq.{drop-cons}
use Rattle.rules.specs.Base.{first}
use Rattle.rules.specs.Syntax.{Row, Program, row_numbered}
use Rattle.rules.specs.Bounds.{Block, no_block, block, reaches, recursive, repeats, or_later, first_in, first_from, first_repeating}
use Rattle.tables.specs.Decode.{line_at, row_at, row_count, method_count, main_first, first_row_at, program_in}
use Rattle.tables.specs.Tables.{Tables}
use Rattle.tables.proofs.Rows.{row_in}
use Rattle.bound_laws.proofs.Blocks.{block_goes, block-ends}
use Rattle.bound_laws.proofs.Repeating.{call-repeats, other-repeats}
use Rattle.bound_rows.specs.declared.Line.{Line}
use Rattle.bound_rows.specs.declared.Line.TheVariants as Lines
use Rattle.bound_rows.specs.Lines.{line_in, Says, blocks_in}
use Rattle.bound_rows.proofs.Lines.{says, row-after, call-there, blocks-count, block-there}
use Rattle.bound_lines.specs.declared.Seen.{Seen}
use Rattle.bound_lines.specs.declared.Seen.TheVariants.{Repeats, Ends, Goes}
use Rattle.std.specs.Prelude as Code
use Rattle.std.specs.Prelude.{Some, None}
use Rattle.bound_lines.specs.Lines.{CallThere, looked_at, place_of, first_of}

-- A LINE
module _ (w : List ℕ) where
  pub main-call : (c : ℕ) → Goes ≡ looked_at (blocks_in w) none (Lines.Call c)
  unfolding looked_at recursive
  main-call c = refl

  -- b: whether c is or reaches a
  module _ (a c : ℕ) (b : Bool) (e : b ≡ eqb c a || reaches (blocks_in w) a c) where
    pub call_back : b ≡ true → Repeats ≡ looked_at (blocks_in w) (some a) (Lines.Call c)
    unfolding looked_at recursive
    call_back h = rw (sym e ∙ h) refl

    pub call-away : b ≡ false → Goes ≡ looked_at (blocks_in w) (some a) (Lines.Call c)
    unfolding looked_at recursive
    call-away h = rw (sym e ∙ h) refl

-- A ROW OF A BLOCK
pub call-is-there : (w : List ℕ) → Tables w → (i : ℕ) → i < row_count w → (v : Line) → v ≡ line_in w i → CallThere w v
call-is-there w tables i l Lines.Plain e = tt
call-is-there w tables i l (Lines.Call c) e = call-there w tables i l c (sym e)
call-is-there w tables i l Lines.Loop e = tt
call-is-there w tables i l Lines.End e = tt

module _ (w : List ℕ) (tables : Tables w) (o : Option ℕ) (i : ℕ) (l : i < row_count w) where
  abbrev P : Program
  P = program_in w

  abbrev bs : List Block
  bs = blocks_in w

  tested : (b : Block) → first_in bs o (row_numbered P i ∷ b) ≡ cond (repeats bs o (row_numbered P i).stmt) (some (row_numbered P i)) (first_in bs o b)
  unfolding first_in first
  tested b = refl

  -- what it is to a bound tells whether it is refused, and whether its block goes on
  abbrev Told : Seen → Type 0
  Told Repeats = place_of (first_in bs o (block P i)) ≡ Some (line_at w i)
  Told Ends = place_of (first_in bs o (block P i)) ≡ None
  Told Goes = (place_of (first_in bs o (block P (suc i))) ≡ place_of (first_in bs o (block P i))) × (suc i < row_count w)

  is-line : (row_numbered P i).line ≡ line_at w i
  unfolding row_at
  is-line = ap (λ (r : Row). r.line) (row_in w i l)

  refused : (b : Block) → block P i ≡ row_numbered P i ∷ b → repeats bs o (row_numbered P i).stmt ≡ true → Told Repeats
  unfolding place_of
  refused b e h = ap (λ b. place_of (first_in bs o b)) e ∙ ap place_of (tested b) ∙ rw h (ap Some is-line)

  passed :
      (b : Block) → block P i ≡ row_numbered P i ∷ b → repeats bs o (row_numbered P i).stmt ≡ false →
      place_of (first_in bs o b) ≡ place_of (first_in bs o (block P i))
  passed b e h = sym (ap (λ b. place_of (first_in bs o b)) e ∙ ap place_of (tested b) ∙ rw h refl)

  told : (v : Line) → v ≡ line_in w i → Says v (row_numbered P i).stmt → Told (looked_at bs o v)
  unfolding looked_at first_in first place_of
  told Lines.Plain e (a, b, c) = (
    passed (block P (suc i)) (block_goes P i a) (other-repeats bs o (row_numbered P i).stmt b ∙ c),
    row-after w tables i l (λ x. let z : ◌≡◌ {A = ℕ} 0 1 = (let y : Lines.Plain ≡ Lines.End = e ∙ x in cc) in omega arith),
  )
  told (Lines.Call n) e (a, b, c) = go (recursive bs o n) refl
    where
      go : (t : Bool) → recursive bs o n ≡ t → Told (cond t Repeats Goes)
      go true h = refused (block P (suc i)) (block_goes P i a) (call-repeats bs o (row_numbered P i).stmt n b ∙ h)
      go false h = (
        passed (block P (suc i)) (block_goes P i a) (call-repeats bs o (row_numbered P i).stmt n b ∙ h),
        row-after w tables i l (λ x. let z : ◌≡◌ {A = ℕ} 0 1 = (let y : Lines.Call n ≡ Lines.End = e ∙ x in cc) in omega arith),
      )
  told Lines.Loop e (a, b, c) = refused (block P (suc i)) (block_goes P i a) (other-repeats bs o (row_numbered P i).stmt b ∙ c)
  told Lines.End e (a, b, c) =
      sym (passed [] (block-ends P i a) (other-repeats bs o (row_numbered P i).stmt b ∙ c)) ∙ nothing
    where
      nothing : place_of (first_in bs o []) ≡ None
      nothing = refl

  module _ (v : Line) (e : v ≡ line_in w i) (s : Seen) (h : s ≡ looked_at bs o v) where
    says_so : Told s
    says_so =
        subst Told (sym h) (told v e (subst (λ v. Says v (row_numbered P i).stmt) (sym e) (says (row_numbered P i).stmt)))

    pub is-refused : s ≡ Repeats → first_of w o i ≡ Some (line_at w i)
    is-refused q = subst Told q says_so

    pub is_last : s ≡ Ends → first_of w o i ≡ None
    is_last q = subst Told q says_so

    pub is-passed : (n : ℕ) → n ≡ i + 1 → s ≡ Goes → (n < row_count w) × (first_of w o n ≡ first_of w o i)
    is-passed n r q = let (e, k) : Told Goes = subst Told q says_so in rw (r, add-one i) (k, e)

-- BLOCK BY BLOCK
-- the place of the first in the blocks from number a on
abbrev pub place_from : List ℕ → ℕ → Code.Option ℕ
place_from w a = place_of (first_from (blocks_in w) a (drop a (blocks_in w)) (block (program_in w) (main_first w)))

pub place-whole : (w : List ℕ) → place_from w 0 ≡ place_of (first_repeating (program_in w))
unfolding first_repeating program_in
place-whole w = refl

drop_past : {A : Type 0} (l : List A) (i : ℕ) → length l ≤ i → drop i l ≡ []
drop_past [] zero h = refl
drop_past [] (suc i) h = refl
drop_past (a ∷ l) zero h = absurd (omega arith)
drop_past (a ∷ l) (suc i) h = drop_past l i (omega arith)

pub place-main : (w : List ℕ) (a i : ℕ) → method_count w ≤ a → i ≡ main_first w → first_of w none i ≡ place_from w a
unfolding first_from
place-main w a i l e = rw (e, drop_past (blocks_in w) a (omega (arith, l, blocks-count w))) refl

module _ (w : List ℕ) (a : ℕ) (l : a < method_count w) where
  abbrev found : Option Row
  found = first_in (blocks_in w) (some a) (block (program_in w) (first_row_at w a))

  abbrev after : Option Row
  after = first_from (blocks_in w) (suc a) (drop (suc a) (blocks_in w)) (block (program_in w) (main_first w))

  split : place_from w a ≡ place_of (or_later found after)
  unfolding first_from
  split =
      ap (λ bs. place_of (first_from (blocks_in w) a bs (block (program_in w) (main_first w)))) (drop-cons (blocks_in w) a no_block (omega (arith, l, blocks-count w)))
      ∙ ap (λ b. place_of (or_later (first_in (blocks_in w) (some a) b) after)) (block-there w a l)

  -- what the block gave
  module _ (f : ℕ) (e : f ≡ first_row_at w a) (r : Code.Option ℕ) (h : r ≡ first_of w (some a) f) where
    is : r ≡ place_of found
    is = h ∙ ap (first_of w (some a)) e

    pub place_here : (n : ℕ) → r ≡ Some n → Some n ≡ place_from w a
    unfolding or_later place_of
    place_here n q = go found refl
      where
        go : (o : Option Row) → found ≡ o → Some n ≡ place_from w a
        go none v = absurd (let y : Some n ≡ None = sym q ∙ is ∙ ap place_of v in cc)
        go (some k) v = sym q ∙ is ∙ ap place_of v ∙ sym (split ∙ ap (λ o. place_of (or_later o after)) v)

    pub place-later : r ≡ None → place_from w (a + 1) ≡ place_from w a
    unfolding or_later place_of
    place-later q = go found refl
      where
        go : (o : Option Row) → found ≡ o → place_from w (a + 1) ≡ place_from w a
        go none v = rw (add-one a) (sym (split ∙ ap (λ o. place_of (or_later o after)) v))
        go (some k) v = absurd (let y : None ≡ Some k.line = sym q ∙ is ∙ ap place_of v in cc)
