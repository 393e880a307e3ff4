-- In a read text `else`, `join`, `again` or `end` comes straight after each `return`.
use mathlib.Core.Path.{◌≡◌, sym, subst}
use mathlib.Core.Bool.{Bool, true, false, not, ◌||◌}
use mathlib.Core.List.{List, [], ◌∷◌}
use mathlib.Core.Logic.{◌⊎◌, inl, inr}
use Prim.Native.Nat.{ℕ, zero, suc}
use native.Mathlib.Omega.{arith}
use lib.Dec.{T, not_T, leb, eqb, eqb→eq, leb→le}
use lib.ListN.{drop}
use Rattle.rules.specs.Base.{all}
use Rattle.rules.specs.Answers.{accepted}
use Rattle.rules.specs.Syntax.{Stmt, Row}
use Rattle.rules.specs.Grammar as Grammar
use Rattle.rules.specs.Grammar.{Kind, Stage, Line, Class, Field, Method, Requires, Ensures, Main, Var, statement}
use Rattle.rules.specs.Grammar.{after_return, form}
use Rattle.rules.specs.Places.{Place, first_place, stage_number, in_place, stage_after, place_after}
use Rattle.rules.specs.Scope.{Scope, Variable, Declarations, first_scope}
use Rattle.rules.specs.Items as Items
use Rattle.rules.specs.Items.{Item, a_class, a_field, a_method, a_requires, an_ensures, a_main, a_local, a_statement, resolve_statement, item_of}
use Rattle.rules.specs.Reading.{read_text, no_program, program}
use Rattle.rules.proofs.Lists.{and_both, and_intro, or_cases, or_left, or_right}
use Rattle.rules.proofs.LineKinds.{every-kind}
use Rattle.rules.proofs.LinesTaken.{TakenLines, none, line, read_taken}
use Rattle.nesting.specs.Nests.{is_return, may_follow, returns_last}
use Rattle.nesting.proofs.ReadOrder.{rows_of, with_rows, bounds}

-- ROWS

weaker-row : (b c m : Bool) → (T c → T b) → T (not b || m) → T (not c || m)
weaker-row b false m h t = tt
weaker-row true true m h t = t
weaker-row false true m h t = absurd (h tt)

weaker : (b c : Bool) (rs : List Row) → (T c → T b) → T (returns_last b rs) → T (returns_last c rs)
unfolding returns_last
weaker b c [] h t = tt
weaker b c (r ∷ rs) h t =
    let (u, v) = and_both (not b || may_follow r.stmt) (returns_last (is_return r.stmt) rs) t in
    and_intro (not c || may_follow r.stmt) _ (weaker-row b c (may_follow r.stmt) h u) v

-- the rows from number i on
later : (i : ℕ) (rs : List Row) → T (returns_last false rs) → T (returns_last false (drop i rs))
unfolding returns_last
later zero [] t = tt
later (suc i) [] t = tt
later zero (r ∷ rs) t = t
later (suc i) (r ∷ rs) t = later i rs (weaker (is_return r.stmt) false rs absurd t)

-- LINES

-- is the line above a `return`?
returned : Stage → Bool
returned g = eqb (stage_number g) (stage_number after_return)

-- is what a line adds such a statement?
of_statement : (Stmt → Bool) → Item → Bool
of_statement t a_class = false
of_statement t (a_field f) = false
of_statement t a_method = false
of_statement t (a_requires φ) = false
of_statement t (an_ensures φ) = false
of_statement t a_main = false
of_statement t (a_local x) = false
of_statement t (a_statement s) = t s

module _ (Γ : Declarations) (vs : List Variable) (l : Line) (p : Place) (n : ℕ) (rest : List Item) where
  rows : List Row
  rows = rows_of (suc n) rest

  -- a line that may stand after a `return` has a row that may follow it
  follows : (k : Kind) → T (leb (stage_number (form k).last) 6 || of_statement may_follow (item_of Γ vs k l))
  unfolding Grammar.opened Items.opened all of_statement may_follow stage_number
  follows = every-kind (λ k. leb (stage_number (form k).last) 6 || of_statement may_follow (item_of Γ vs k l)) tt

  -- and after a `return` the text is at that stage
  returns : (k : Kind) → T (not (of_statement is_return (item_of Γ vs k l)) || returned (stage_after k p))
  unfolding Grammar.opened Items.opened all of_statement is_return stage_number stage_after returned
  returns = every-kind (λ k. not (of_statement is_return (item_of Γ vs k l)) || returned (stage_after k p)) tt

  -- one line more
  Lasts : Kind → Type 0
  Lasts k =
      T (in_place k p) → T (returns_last (returned (stage_after k p)) rows) →
      T (returns_last (returned p.stage) (rows_of n (item_of Γ vs k l ∷ rest)))

  -- a line that stands before bodies only is not after a `return`
  early : (k : Kind) → T (leb (stage_number (form k).last) 6) → T (in_place k p) → T (returned p.stage) → ⊥
  unfolding returned stage_number
  early k u i r =
      let h = leb→le (stage_number p.stage) (stage_number (form k).last) (bounds k p i).1 in
      omega (arith, h, leb→le (stage_number (form k).last) 6 u, eqb→eq (stage_number p.stage) 7 r)

  may-follow : (k : Kind) → T (in_place k p) → T (not (returned p.stage) || of_statement may_follow (item_of Γ vs k l))
  may-follow k i = go (or_cases (leb (stage_number (form k).last) 6) (of_statement may_follow (item_of Γ vs k l)) (follows k))
    where
      go :
          T (leb (stage_number (form k).last) 6) ⊎ T (of_statement may_follow (item_of Γ vs k l)) →
          T (not (returned p.stage) || of_statement may_follow (item_of Γ vs k l))
      go (inl u) = or_left (not (returned p.stage)) _ (not_T (returned p.stage) (early k u i))
      go (inr u) = or_right (not (returned p.stage)) _ u

  -- a line without a row
  no-row :
      (k : Kind) → T (leb (stage_number (form k).last) 6) → T (in_place k p) → T (returns_last (returned (stage_after k p)) rows) →
      T (returns_last (returned p.stage) rows)
  no-row k u i t = weaker (returned (stage_after k p)) (returned p.stage) rows (λ r. absurd (early k u i r)) t

  lasts : (k : Kind) → Lasts k
  unfolding Lasts rows rows_of item_of returns_last of_statement stage_number form Grammar.stands
  lasts Class i t = no-row Class tt i t
  lasts Field i t = no-row Field tt i t
  lasts Method i t = no-row Method tt i t
  lasts Requires i t = no-row Requires tt i t
  lasts Ensures i t = no-row Ensures tt i t
  lasts Main i t = no-row Main tt i t
  lasts Var i t = no-row Var tt i t
  lasts (statement a) i t =
      let x : Stmt = resolve_statement Γ vs a l in
      and_intro (not (returned p.stage) || may_follow x) (returns_last (is_return x) rows) (may-follow (statement a) i)
      (weaker (returned (stage_after (statement a) p)) (is_return x) rows
      (implies (is_return x) (returned (stage_after (statement a) p)) (returns (statement a))) t)
    where
      implies : (b c : Bool) → T (not b || c) → T b → T c
      implies true c h t = h
      implies false c h t = absurd t

lines-last :
    (text : List Line) (p : Place) (s : Scope) (ls : List Line) (items : List Item) (n : ℕ) → TakenLines text p s ls items →
    T (returns_last (returned p.stage) (rows_of n items))
unfolding Lasts rows rows_of returns_last place_after
lines-last text p s ls items n (none e) = tt
lines-last text p s ls items n (line {l = l} {items = rest} L R) =
    lasts _ _ l p n rest l.kind L.is_in_place (lines-last text _ _ _ rest (suc n) R)

pub read-returns :
    (t : List ℕ) (items : List Item) → read_text t ≡ accepted items → (i : ℕ) → T (returns_last false (drop i (program items).rows))
unfolding program stage_number returned
read-returns t items e i =
    let (text, K) = read_taken t items e in
    later i (program items).rows
    (subst (λ (rs : List Row). T (returns_last false rs)) (sym (with_rows no_program 0 items)) (lines-last text first_place first_scope text items 0 K))
