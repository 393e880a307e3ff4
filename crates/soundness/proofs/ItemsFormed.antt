-- The item of each line that is taken is formed: `requires` names `this` and w, `ensures` also `result`, a statement assigns a
-- local, and a call's x is neither its y nor its z.
use mathlib.Core.Path.{◌≡◌, refl, ap}
use mathlib.Core.Bool.{Bool, true, false, cond}
use mathlib.Core.List.{List, [], ◌∷◌, ◌++◌}
use mathlib.Core.Logic.{inl, inr, ⊎_elim}
use Prim.Native.Nat.{ℕ, ◌≤◌}
use native.Mathlib.Omega.{arith}
use lib.Dec.{T, leb, leb→le, le→leb, lit<, lit≤}
use Rattle.rules.specs.Base.{Name, between, Member}
use Rattle.rules.specs.Base as Base
use Rattle.rules.specs.Syntax.{result_variable}
use Rattle.rules.specs.Grammar.{Kind, Stage, Line, form, after_header, after_requires, after_method, after_main}
use Rattle.rules.specs.Grammar.{Class, Field, Method, Requires, Ensures, Main, Var, Statement, statement, Set, Let, New, Call, Return, Assert, Release, If, Else, Join, End, Add, Sub, Loop, Again, Open, Shut}
use Rattle.rules.specs.Grammar as Grammar
use Rattle.rules.specs.Places.{Place, first_place, stage_number, in_place, place_after, stage_after}
use Rattle.rules.specs.Places as Places
use Rattle.rules.specs.Scope.{Variable, BlockScope, Scope, declarations, method_block, block_after, scope_after, visible, first_scope}
use Rattle.rules.specs.Scope as Scope
use Rattle.rules.specs.Items.{Item, item_of, resolve_statement, a_class, a_field, a_method, a_requires, an_ensures, a_main, a_local, a_statement}
use Rattle.rules.specs.Items as Items
use Rattle.rules.proofs.Lists.{head-or, append-member, and_both, and_intro}
use Rattle.soundness.specs.WellFormed.{Over, AtCall, AtEnd, StmtFormed}
use Rattle.rules.proofs.LinesTaken.{line_of, Taken, TakenLines, TakenText, none, line}
use Rattle.soundness.proofs.NamesInScope.{assigned-local, target-apart, opened-apart, formula-over}

-- what WellFormed asks of an item by itself
abbrev pub ItemFormed : Item → Type 0
ItemFormed a_class = Unit {0}
ItemFormed (a_field f) = Unit {0}
ItemFormed a_method = Unit {0}
ItemFormed (a_requires φ) = Over AtCall φ
ItemFormed (an_ensures φ) = Over AtEnd φ
ItemFormed a_main = Unit {0}
ItemFormed (a_local x) = Unit {0}
ItemFormed (a_statement s) = StmtFormed s

abbrev pub AllFormed : List Item → Type 0
AllFormed [] = Unit {0}
AllFormed (a ∷ items) = ItemFormed a × AllFormed items

-- HEADERS: from a `method` line to its `ensures` the block has `this` and w, no locals yet, and `result` apart
record Header (b : BlockScope) : Type 0 where
  variables : (v : Variable) → Member v b.variables → AtCall v.number
  result : (v : Variable) → Member v b.result → v.number ≡ result_variable

method-header : (C T U w : Name) → Header (method_block C T U w)
unfolding method_block
method-header C T U w =
    record {
      variables =
          λ v i.
          ⊎_elim
          (λ j. ⊎_elim (λ k. elim k [ ]) (λ e. inr (ap (λ (v : Variable). v.number) e)) (head-or j))
          (λ e. inl (ap (λ (v : Variable). v.number) e))
          (head-or i);
      result = λ v i. ⊎_elim (λ j. elim j [ ]) (λ e. ap (λ (v : Variable). v.number) e) (head-or i);
    }

-- with `result`
header-ends : (b : BlockScope) → Header b → (v : Variable) → Member v (b.variables ++ b.result) → AtEnd v.number
header-ends b H v i =
    ⊎_elim (λ j. inl (H.variables v j)) (λ j. inr (H.result v j)) (append-member b.variables b.result v i)

abbrev in_header : Stage → Bool
in_header st = between (stage_number after_header) (stage_number after_requires) (stage_number st)

abbrev HeaderAt : Stage → BlockScope → Type 0
HeaderAt st b = T (in_header st) → Header b

wider : (a z b y n : ℕ) → b ≤ a → z ≤ y → T (between a z n) → T (between b y n)
unfolding between
wider a z b y n l u t =
    let (i, j) = and_both (leb a n) (leb n z) t in
    and_intro (leb b n) (leb n y) (omega (arith, leb→le, le→leb)) (omega (arith, leb→le, le→leb))

-- a kind of line that stands in headers only
stands-in-header :
    (k : Kind) (p : Place) → stage_number after_header ≤ stage_number (form k).first →
    stage_number (form k).last ≤ stage_number after_requires → T (in_place k p) → T (in_header p.stage)
unfolding in_place
stands-in-header k p a z t = wider _ _ _ _ (stage_number p.stage) a z (and_both (between _ _ (stage_number p.stage)) _ t).0

after-end : (main : Bool) → T (in_header (cond main after_main after_method)) → ⊥
unfolding stage_number between
after-end true h = h
after-end false h = h

-- LINES: kind by kind, the item is formed; and if the next line stands in a header, the block is one
module _ (text : List Line) (p : Place) (s : Scope) where
  statement-formed :
      (a : Statement) (ws : List Name) → Taken text p s (line_of (statement a) ws) →
      StmtFormed (resolve_statement (declarations text) (visible s.block (statement a)) a (line_of (statement a) ws))
      × HeaderAt (stage_after (statement a) p) (block_after s.members.class s.block (line_of (statement a) ws))
  unfolding Base.opened Grammar.opened Places.opened Scope.opened Items.opened
  statement-formed Set ws t = (tt, absurd)
  statement-formed Let ws t = (assigned-local _ _ 0 (lit< tt) refl t.formed t.assignable, absurd)
  statement-formed New ws t = (assigned-local _ _ 0 (lit< tt) refl t.formed t.assignable, absurd)
  statement-formed Call ws t =
      let (y, z) = target-apart _ _ tt t.assignable in
      ((assigned-local _ _ 0 (lit< tt) refl t.formed t.assignable, y, z), absurd)
  statement-formed Return ws t = (tt, absurd)
  statement-formed Assert ws t = (tt, absurd)
  statement-formed Release ws t = (tt, absurd)
  statement-formed If ws t = (tt, absurd)
  statement-formed Else ws t = (tt, absurd)
  statement-formed Join ws t = (tt, absurd)
  statement-formed End ws t = (tt, λ i. absurd (after-end p.main i))
  statement-formed Add ws t = (assigned-local _ _ 0 (lit< tt) refl t.formed t.assignable, absurd)
  statement-formed Sub ws t = (assigned-local _ _ 0 (lit< tt) refl t.formed t.assignable, absurd)
  statement-formed Loop ws t = (tt, absurd)
  statement-formed Again ws t = (tt, absurd)
  statement-formed Open ws t =
      ((assigned-local _ _ 0 (lit< tt) refl t.formed t.assignable, opened-apart _ _ tt t.assignable), absurd)
  statement-formed Shut ws t = (tt, absurd)

  line-formed :
      (k : Kind) (ws : List Name) → Taken text p s (line_of k ws) → HeaderAt p.stage s.block →
      ItemFormed (item_of (declarations text) (visible s.block k) k (line_of k ws))
      × HeaderAt (stage_after k p) (block_after s.members.class s.block (line_of k ws))
  unfolding Base.opened Grammar.opened Places.opened Scope.opened Items.opened
  line-formed Class ws t h = (tt, absurd)
  line-formed Field ws t h = (tt, absurd)
  line-formed Method ws t h = (tt, λ _. method-header _ _ _ _)
  line-formed Requires ws t h =
      let H : Header s.block = h (stands-in-header Requires p (lit≤ tt) (lit≤ tt) t.is_in_place) in
      (formula-over (declarations text) s.block.variables AtCall H.variables s _ t.known, λ _. H)
  line-formed Ensures ws t h =
      let H : Header s.block = h (stands-in-header Ensures p (lit≤ tt) (lit≤ tt) t.is_in_place) in
      let vs : List Variable = s.block.variables ++ s.block.result in
      (formula-over (declarations text) vs AtEnd (header-ends s.block H) s _ t.known, absurd)
  line-formed Main ws t h = (tt, absurd)
  line-formed Var ws t h = (tt, absurd)
  line-formed (statement s) ws t h = statement-formed s ws t

module _ (text : List Line) where
  lines-formed :
      (p : Place) (s : Scope) (ls : List Line) (items : List Item) → TakenLines text p s ls items →
      HeaderAt p.stage s.block → AllFormed items
  unfolding place_after scope_after
  lines-formed p s ls items (none e) h = tt
  lines-formed p s ls items (line {l = l} {ls = ls'} {items = items'} t ts) h =
      let (a, b) = line-formed text p s l.kind l.fields t h in (a, lines-formed _ _ ls' items' ts b)

-- the first line of a text stands in no header
pub items-formed : (text : List Line) (items : List Item) → TakenText text items → AllFormed items
unfolding stage_number between
items-formed text items ts = lines-formed text first_place first_scope text items ts absurd
