-- Of a text that is read, check refuses with 10 to 14 only, and at a line of the text: what the rules refuse as out of place, and
-- what they refuse at line 0, does not come from a text.
use mathlib.Core.Path.{◌≡◌, refl, sym, ap, ◌∙◌}
use mathlib.Core.Bool.{Bool, true, false, not, cond, ◌||◌}
use mathlib.Core.List.{List, [], ◌∷◌}
use mathlib.Core.Logic.{◌⊎◌, inl, inr}
use mathlib.Core.Option as Option
use mathlib.Core.Option.{some}
use Prim.Native.Nat.{ℕ, suc, ◌+◌, ◌≤◌}
use native.Mathlib.Omega.{arith}
use lib.Dec.{T, ltb}
use lib.ListN.{length, drop, length-map}
use Rattle.rules.specs.Base as Base
use Rattle.rules.specs.Base.{Name, Try}
use Rattle.rules.specs.Limits.{most_branches, most_atoms}
use Rattle.rules.specs.Answers.{Refusal, Verdict, accepted, refused, at_line, then, text_ends, unframed}
use Rattle.rules.specs.Syntax as Syntax
use Rattle.rules.specs.Syntax.{Formula, Stmt, Row, Program, simple, return, if, else, join, loop, again, end}
use Rattle.rules.specs.Text.{lines}
use Rattle.rules.specs.Grammar as Grammar
use Rattle.rules.specs.Grammar.{Kind, Line, Class, Field, Method, Requires, Ensures, Main, Var, statement}
use Rattle.rules.specs.Places.{Place, first_place, scan_line, ended, scan_lines}
use Rattle.rules.specs.Scope as Scope
use Rattle.rules.specs.Scope.{Scope, Declarations, Variable, declarations, first_scope, scope_after}
use Rattle.rules.specs.Items.{Item, a_class, a_field, a_method, a_requires, an_ensures, a_main, a_local, a_statement, item_of, resolve_atoms, resolve_formula, resolve_line, resolve_lines}
use Rattle.rules.specs.Reading.{read_text, framed, framed_item, check_framed, with_requires, with_ensures, program}
use Rattle.rules.specs.State.{State, empty}
use Rattle.rules.specs.Rules.{End, Open, in_first, in_second, in_loop, Following, reached, else_row, join_row, again_row, end_row, check_row, check_rows, check_from, check_method, check_blocks, check_program}
use Rattle.rules.specs.Calls.{check_items, verdict_numbers, check_text}
use Rattle.rules.proofs.Lists.{and_both}
use Rattle.rules.proofs.Tries.{refused-accepted, accepted-inj, at_line-accepted, then-accepted}
use Rattle.rules.proofs.LinesTaken.{HasForm, TakenLines, none, line, line_of, read-passes, read_taken}
use Rattle.nesting.specs.Nests.{Wait, for_else, for_join, for_again, row_nests, rows_nest, is_return, may_follow, returns_last}
use Rattle.nesting.proofs.ReadOrder.{BodiesNest, read-blocks}
use Rattle.nesting.proofs.Returns.{read-returns}
use Rattle.rules.specs.Refusals.{FromRules, LineOf, RefusedAtALine}
use Rattle.soundness.proofs.Refusing.{OfPart, rules, yes, for, ten, rules-number}
use Rattle.soundness.proofs.RulesRefuse.{Ruled, rule-ruled, return-ruled, if-ruled, loop-ruled, join-ruled, end-ruled}
use Rattle.soundness.proofs.RequiresAdded.{Addable, requires-added, few-atoms}
use Rattle.soundness.proofs.ProgramParts.{All, all_drop, ItemsHold, Kept, Parts, parts}

-- AS MANY ITEMS AS LINES
scan-count : (ws : List Name) (n : ℕ) (p : Place) (ls : List Line) → scan_lines ws n p ≡ accepted ls → length ls ≡ length ws
unfolding scan_lines
scan-count [] n p ls e = go (ended p) e
  where
    go : (b : Bool) → cond b (accepted []) (refused text_ends n) ≡ accepted ls → length ls ≡ 0
    go true e = ap (λ l. length l) (sym (accepted-inj e))
    go false e = refused-accepted e
scan-count (w ∷ ws) n p ls e =
    let (a, _, e₁) = at_line-accepted (suc n) (scan_line p w) _ ls e in
    let (rest, j, e₂) = then-accepted (scan_lines ws (suc n) a.next) _ ls e₁ in
    ap (λ l. length l) (sym (accepted-inj e₂)) ∙ ap suc (scan-count ws (suc n) a.next rest j)

resolve-count :
    (Γ : Declarations) (ls : List Line) (n : ℕ) (s : Scope) (items : List Item) → resolve_lines Γ ls n s ≡ accepted items →
    length items ≡ length ls
unfolding resolve_lines
resolve-count Γ [] n s items e = ap (λ l. length l) (sym (accepted-inj e))
resolve-count Γ (l ∷ ls) n s items e =
    let (a, _, e₁) = at_line-accepted (suc n) (resolve_line Γ s l) _ items e in
    let (rest, j, e₂) = then-accepted (resolve_lines Γ ls (suc n) (scope_after s l)) _ items e₁ in
    ap (λ l. length l) (sym (accepted-inj e₂)) ∙ ap suc (resolve-count Γ ls (suc n) (scope_after s l) rest j)

read_count : (t : List ℕ) (items : List Item) → read_text t ≡ accepted items → length items ≡ length (lines t)
read_count t items e =
    let (ls, i, j) = read-passes t items e in
    resolve-count (declarations ls) ls 0 first_scope items j ∙ scan-count (lines t) 0 first_place ls i

-- REQUIRES HAS FEW ATOMS
abbrev Few : Item → Type 0
Few a_class = Unit {0}
Few (a_field f) = Unit {0}
Few a_method = Unit {0}
Few (a_requires φ) = length φ ≤ most_atoms
Few (an_ensures φ) = Unit {0}
Few a_main = Unit {0}
Few (a_local x) = Unit {0}
Few (a_statement s) = Unit {0}

module _ (Γ : Declarations) (vs : List Variable) (ws : List Name) where
  requires-few : HasForm (line_of Requires ws) → length (resolve_formula Γ vs (line_of Requires ws)) ≤ most_atoms
  unfolding Base.opened Grammar.opened Scope.opened resolve_atoms resolve_formula
  requires-few h = rw length-map (few-atoms most_atoms ws h)

  line-few : (k : Kind) → HasForm (line_of k ws) → Few (item_of Γ vs k (line_of k ws))
  unfolding item_of
  line-few Class h = tt
  line-few Field h = tt
  line-few Method h = tt
  line-few Requires h = requires-few h
  line-few Ensures h = tt
  line-few Main h = tt
  line-few Var h = tt
  line-few (statement s) h = tt

-- what it takes for a line to pass number 10
framed-both :
    (a : Item) (items : List Item) (n : ℕ) (u : Unit {0}) → check_framed (a ∷ items) n ≡ accepted u →
    T (framed_item a) × (check_framed items (suc n) ≡ accepted u)
unfolding check_framed
framed-both a items n u e = go (framed_item a) e
  where
    go :
        (b : Bool) → cond b (check_framed items (suc n)) (refused unframed (suc n)) ≡ accepted u →
        T b × (check_framed items (suc n) ≡ accepted u)
    go true e = (tt, e)
    go false e = refused-accepted e

-- THE PROGRAM OF A TEXT, with lines of which L holds: what is known of its items once number 10 has refused none
module _ (L : ℕ → Type 0) where
  abbrev Good : ℕ → Item → Type 0
  Good l a = L l × T (framed_item a) × Few a

  abbrev Startable : Syntax.Method → Type 0
  Startable M = Addable M.requires

  abbrev AtLine : Row → Type 0
  AtLine r = L r.line

  good-kept : Kept Good Startable AtLine
  unfolding with_requires with_ensures framed_item framed
  good-kept =
      record {
        method = λ n. (tt, omega arith);
        requires = λ l φ N i G. (i.1, i.2);
        ensures = λ l φ N i G. G;
        row = λ l s i. i.0;
      }

  items-good :
      (text : List Line) (p : Place) (s : Scope) (ls : List Line) (items : List Item) (n : ℕ) (u : Unit {0}) →
      TakenLines text p s ls items → ((l : ℕ) → n + 1 ≤ l → l ≤ n + length items → L l) → check_framed items n ≡ accepted u →
      ItemsHold Good n items
  items-good text p s ls items n u (none e) h c = tt
  items-good text p s ls items n u (line {l = l} {ls = ls'} {items = rest} t ts) h c =
      let (f, c') = framed-both _ rest n u c in (
        (h (suc n) (omega arith) (omega arith), f, line-few _ _ l.fields l.kind t.formed),
        items-good text _ _ ls' rest (suc n) u ts (λ k a b. h k (omega (arith, a)) (omega (arith, b))) c',
      )

  -- VERDICTS: refused, if at all, by the rules and at such a line
  data Fair {A : Type 0} : Verdict A → Type 0 where
    passes : {a : A} → Fair (accepted a)
    at : {r : Refusal} {l : ℕ} → OfPart rules r → L l → Fair (refused r l)

  at-line : {A B : Type 0} {x : Try Refusal A} {k : A → Verdict B} {l : ℕ} → L l → Ruled x → ((a : A) → Fair (k a)) → Fair (at_line l x k)
  unfolding at_line
  at-line i yes h = h _
  at-line i (for r) h = at r i

  fair-then : {A B : Type 0} {v : Verdict A} {k : A → Verdict B} → Fair v → ((a : A) → v ≡ accepted a → Fair (k a)) → Fair (then v k)
  unfolding then
  fair-then passes h = h _ refl
  fair-then (at r i) h = at r i

  -- what the open branches and loops of the check wait for
  waits : List Open → List Wait
  waits [] = []
  waits (in_first s ∷ os) = for_else ∷ waits os
  waits (in_second s ∷ os) = for_join ∷ waits os
  waits (in_loop ψ s ∷ os) = for_again ∷ waits os

  -- has the line above returned?
  returned : End → Bool
  returned Option.none = true
  returned (some s) = false

  module _ (P : Program) (φ : Formula ℕ) where
    -- n and f: what is known of the rows that follow
    row-fair :
        (x : Stmt) (l : ℕ) (k : Following) (e : End) (os : List Open) (n : Bool → List Wait → Bool) (f : Bool → Bool) → L l →
        T (row_nests x (waits os) n) → T (not (returned e) || may_follow x) → T (f (is_return x)) →
        ((e : End) (os : List Open) → T (n false (waits os)) → T (f (returned e)) → Fair (k e os)) →
        Fair (check_row P x l φ k e os)
    unfolding check_row reached row_nests else_row join_row again_row end_row waits returned may_follow is_return
    row-fair (simple p) l k Option.none os n f i t u v h = absurd u
    row-fair (simple p) l k (some s) os n f i t u v h = at-line i (rule-ruled P p s) (λ s'. h (some s') os t v)
    row-fair (return x) l k Option.none os n f i t u v h = absurd u
    row-fair (return x) l k (some s) os n f i t u v h = at-line i (return-ruled x φ s) (λ r. h Option.none os t v)
    row-fair (if r a b) l k Option.none os n f i t u v h = absurd u
    row-fair (if r a b) l k (some s) os n f i t u v h =
        at-line i (if-ruled r a b s)
        (λ c.
        h (some c.0) (in_first c.1 ∷ os) (and_both (ltb (length (waits os)) most_branches) (n false (for_else ∷ waits os)) t).1 v)
    row-fair else l k e [] n f i t u v h = absurd t
    row-fair else l k e (in_first s₂ ∷ os) n f i t u v h = h (some s₂) (in_second e ∷ os) t v
    row-fair else l k e (in_second e₁ ∷ os) n f i t u v h = absurd t
    row-fair else l k e (in_loop ψ s ∷ os) n f i t u v h = absurd t
    row-fair (join ψ) l k e [] n f i t u v h = absurd t
    row-fair (join ψ) l k e (in_first s₂ ∷ os) n f i t u v h = absurd t
    row-fair (join ψ) l k e (in_second e₁ ∷ os) n f i t u v h = at-line i (join-ruled ψ e₁ e) (λ s'. h (some s') os t v)
    row-fair (join ψ) l k e (in_loop χ s ∷ os) n f i t u v h = absurd t
    row-fair (loop r a b ψ) l k Option.none os n f i t u v h = absurd u
    row-fair (loop r a b ψ) l k (some s) os n f i t u v h =
        at-line i (loop-ruled r a b ψ s)
        (λ c.
        h (some c.0) (in_loop ψ c.1 ∷ os) (and_both (ltb (length (waits os)) most_branches) (n false (for_again ∷ waits os)) t).1 v)
    row-fair again l k e [] n f i t u v h = absurd t
    row-fair again l k e (in_first s₂ ∷ os) n f i t u v h = absurd t
    row-fair again l k e (in_second e₁ ∷ os) n f i t u v h = absurd t
    row-fair again l k e (in_loop ψ s ∷ os) n f i t u v h = at-line i (end-ruled ψ e) (λ r. h (some s) os t v)
    row-fair end l k e [] n f i t u v h = at-line i (end-ruled φ e) (λ r. passes)
    row-fair end l k e (in_first s₂ ∷ os) n f i t u v h = absurd t
    row-fair end l k e (in_second e₁ ∷ os) n f i t u v h = absurd t
    row-fair end l k e (in_loop ψ s ∷ os) n f i t u v h = absurd t

    rows-fair :
        (rs : List Row) (e : End) (os : List Open) → All AtLine rs → T (rows_nest false (waits os) rs) →
        T (returns_last (returned e) rs) → Fair (check_rows P φ rs e os)
    unfolding check_rows rows_nest returns_last waits
    rows-fair [] e [] a t r = absurd t
    rows-fair [] e (in_first s₂ ∷ os) a t r = absurd t
    rows-fair [] e (in_second e₁ ∷ os) a t r = absurd t
    rows-fair [] e (in_loop ψ s ∷ os) a t r = absurd t
    rows-fair (x ∷ rs) e os a t r =
        let (u, v) = and_both (not (returned e) || may_follow x.stmt) (returns_last (is_return x.stmt) rs) r in
        row-fair x.stmt x.line _ e os (λ b ws. rows_nest b ws rs) (λ b. returns_last b rs) a.0 t u v
        (λ e os t r. rows-fair rs e os a.1 t r)

  -- each row is at such a line, and what stands after a `return` may stand there
  module _ (P : Program) (rows : All AtLine P.rows) (returns : (i : ℕ) → T (returns_last false (drop i P.rows))) where
    from-fair :
        (φ : Formula ℕ) (i : ℕ) (s : State) → T (rows_nest false [] (drop i P.rows)) → Fair (check_from P φ i (some s) [])
    unfolding check_from waits returned
    from-fair φ i s t = rows-fair P φ (drop i P.rows) (some s) [] (all_drop AtLine i P.rows rows) t (returns i)

    method-fair : (M : Syntax.Method) → Startable M → T (rows_nest false [] (drop M.first P.rows)) → Fair (check_method P M)
    unfolding check_method at_line
    method-fair M g t = let (s, e) = requires-added M.requires g in rw e (from-fair M.ensures M.first s t)

    blocks-fair :
        (Ms : List Syntax.Method) → All Startable Ms → BodiesNest P.rows Ms →
        T (rows_nest false [] (drop P.main P.rows)) → Fair (check_blocks P Ms)
    unfolding check_blocks
    blocks-fair [] g b t = from-fair [] P.main empty t
    blocks-fair (M ∷ Ms) g b t = fair-then (method-fair M g.0 b.0) (λ u e. blocks-fair Ms g.1 b.1 t)

  framed-fair : (items : List Item) (n : ℕ) → ((l : ℕ) → n + 1 ≤ l → l ≤ n + length items → L l) → Fair (check_framed items n)
  unfolding check_framed
  framed-fair [] n h = passes
  framed-fair (a ∷ items) n h =
      go (framed_item a) (framed-fair items (suc n) (λ k a b. h k (omega (arith, a)) (omega (arith, b))))
    where
      go : (b : Bool) → Fair (check_framed items (suc n)) → Fair (cond b (check_framed items (suc n)) (refused unframed (suc n)))
      go true f = f
      go false f = at ten (h (suc n) (omega arith) (omega arith))

  items-fair :
      (t : List ℕ) (items : List Item) → read_text t ≡ accepted items → ((l : ℕ) → 1 ≤ l → l ≤ length items → L l) →
      Fair (check_items items)
  unfolding check_items check_program
  items-fair t items e h =
      let within : (l : ℕ) → 0 + 1 ≤ l → l ≤ 0 + length items → L l = λ l a b. h l (omega (arith, a)) (omega (arith, b)) in
      let (text, K) = read_taken t items e in
      let (b, m) = read-blocks t items e in
      fair-then (framed-fair items 0 within)
      (λ u c.
      let G : Parts Good Startable AtLine (program items) =
      parts Good Startable AtLine good-kept items (items-good text _ _ text items 0 u K within c) in
      blocks-fair (program items) G.rows (read-returns t items e) (program items).methods G.methods b m)

-- in numbers
verdict-at :
    (t : List ℕ) (v : Verdict (Unit {0})) → Fair (LineOf t) v →
    (verdict_numbers v ≡ (0, 0)) ⊎ (FromRules (verdict_numbers v).0 × LineOf t (verdict_numbers v).1)
unfolding verdict_numbers
verdict-at t v passes = inl refl
verdict-at t v (at r i) = inr (rules-number r, i)

-- THE CLAIM
pub refused-at-a-line : RefusedAtALine
unfolding check_text then
refused-at-a-line t items e =
    rw e (verdict-at t (check_items items) (items-fair (LineOf t) t items e (λ l a b. (a, rw (← read_count t items e) b))))
