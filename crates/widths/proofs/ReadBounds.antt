-- Bounds of what is read and checked: the line of a refusal is one of the text, and each number of the program fits 32 bits.
use mathlib.Core.Path.{◌≡◌, refl, sym, ap, ◌∙◌}
use mathlib.Core.Bool.{Bool, true, false, cond}
use mathlib.Core.List.{List, [], ◌∷◌, ◌++◌}
use mathlib.Core.Option as Option
use mathlib.Core.Option.{some}
use Prim.Native.Nat.{ℕ, zero, suc, ◌+◌, ◌≤◌, ◌<◌}
use native.Mathlib.Omega.{arith}
use lib.Dec.{eqb, ltb}
use lib.ListN.{length, get_or, drop}
use borrow.Author.Tests.{ltb-false}
use Rattle.rules.specs.Base as Base
use Rattle.rules.specs.Base.{Name, Try, ok, no, update}
use Rattle.rules.specs.Limits.{most_bytes}
use Rattle.rules.specs.Answers.{Refusal, Verdict, accepted, refused, at_line, then, text_too_long, text_ends, unframed}
use Rattle.rules.specs.Syntax.{Expr, Formula, Stmt, Simple, Row, Method, Program, num, null, var, path}
use Rattle.rules.specs.Syntax.{set, assign, compute, new, call, return, assert, release, open_chain, shut_chain, simple, if, else, join, loop, again, end}
use Rattle.rules.specs.Text.{lines, onto, expr_of, numeral, has_stop, before_stop, after_stop, number}
use Rattle.rules.specs.Grammar as Grammar
use Rattle.rules.specs.Grammar.{Kind, Statement, Line}
use Rattle.rules.specs.Grammar.{Class, Field, Requires, Ensures, Main, Var, statement}
use Rattle.rules.specs.Grammar.{Set, Let, New, Call, Return, Assert, Release, If, Else, Join, End, Add, Sub, Loop, Again, Open, Shut}
use Rattle.rules.specs.Places.{Place, first_place, scan_line, scan_lines, ended}
use Rattle.rules.specs.Scope.{Declarations, Variable, Scope, operand, declarations, first_scope, scope_after}
use Rattle.rules.specs.Items.{Item, a_class, a_field, a_method, a_requires, an_ensures, a_main, a_local, a_statement}
use Rattle.rules.specs.Items.{resolve_expr, resolve_statement, item_of, resolve_line, resolve_lines}
use Rattle.rules.specs.Reading.{read_text, framed_item, check_framed, no_program, with_item, with_items, program}
use Rattle.rules.specs.State.{State}
use Rattle.rules.specs.Rules as Rules
use Rattle.rules.specs.Rules.{Following, in_first, in_second, in_loop, reached, check_row, check_rows, check_from, else_row, join_row, again_row, end_row, check_method, check_blocks, check_program}
use Rattle.rules.specs.Calls.{check_items}
use Rattle.rules.proofs.Tries.{refused-accepted, accepted-inj, at_line-accepted, then-accepted}
use Rattle.rules.proofs.Signs.{number_small}
use Rattle.rules.proofs.LinesTaken.{line_of, TakenLines, none, line, as_many}

-- EACH OF A LIST
abbrev pub All : {A : Type 0} → (A → Type 0) → List A → Type 0
All p [] = Unit {0}
All p (a ∷ l) = p a × All p l

module _ {A : Type 0} (p : A → Type 0) where
  pub all-get : (l : List A) (d : A) (i : ℕ) → p d → All p l → p (get_or l i d)
  all-get [] d i z x = z
  all-get (a ∷ l) d zero z x = x.0
  all-get (a ∷ l) d (suc i) z x = all-get l d i z x.1

  pub all-update : (l : List A) (d : A) (i : ℕ) (a : A) → p d → p a → All p l → All p (update d l i a)
  unfolding update
  all-update [] d zero a z y x = (y, tt)
  all-update (b ∷ l) d zero a z y x = (y, x.1)
  all-update [] d (suc i) a z y x = (z, all-update [] d i a z y tt)
  all-update (b ∷ l) d (suc i) a z y x = (x.0, all-update l d i a z y x.1)

-- THE LINE OF A REFUSAL is at most n
abbrev pub Within : {A : Type 0} → ℕ → Verdict A → Type 0
Within n (accepted a) = Unit {0}
Within n (refused r l) = l ≤ n

then-within :
    {A B : Type 0} (n : ℕ) (v : Verdict A) (k : A → Verdict B) → Within n v → ((a : A) → v ≡ accepted a → Within n (k a)) →
    Within n (then v k)
unfolding then
then-within n (accepted a) k x y = y a refl
then-within n (refused r l) k x y = x

at-within :
    {A B : Type 0} (n l : ℕ) (m : Try Refusal A) (k : A → Verdict B) → l ≤ n → ((a : A) → Within n (k a)) → Within n (at_line l m k)
unfolding at_line
at-within n l (ok a) k h y = y a
at-within n l (no r) k h y = h

module _ (n : ℕ) where
  scan-within : (ls : List Name) (m : ℕ) (p : Place) → m + length ls ≤ n → Within n (scan_lines ls m p)
  unfolding scan_lines
  scan-within [] m p h = go (ended p)
    where
      go : (b : Bool) → Within {A = List Line} n (cond b (accepted []) (refused text_ends m))
      go true = tt
      go false = omega arith
  scan-within (l ∷ ls) m p h =
      at-within n (suc m) (scan_line p l) _ (omega arith)
      (λ a. then-within n (scan_lines ls (suc m) a.next) _ (scan-within ls (suc m) a.next (omega arith)) (λ rest e. tt))

  resolve-within : (Γ : Declarations) (ls : List Line) (m : ℕ) (s : Scope) → m + length ls ≤ n → Within n (resolve_lines Γ ls m s)
  unfolding resolve_lines
  resolve-within Γ [] m s h = tt
  resolve-within Γ (l ∷ ls) m s h =
      at-within n (suc m) (resolve_line Γ s l) _ (omega arith)
      (λ a. then-within n (resolve_lines Γ ls (suc m) (scope_after s l)) _ (resolve-within Γ ls (suc m) (scope_after s l) (omega arith)) (λ rest e. tt))

  framed-within : (items : List Item) (m : ℕ) → m + length items ≤ n → Within n (check_framed items m)
  unfolding check_framed
  framed-within [] m h = tt
  framed-within (a ∷ items) m h = go (framed_item a) (check_framed items (suc m)) (framed-within items (suc m) (omega arith))
    where
      go : (b : Bool) (v : Verdict (Unit {0})) → Within n v → Within n (cond b v (refused unframed (suc m)))
      go true v x = x
      go false v x = omega arith

pub lines-few : (t : List ℕ) → length (lines t) ≤ length t
unfolding lines onto
lines-few [] = omega arith
lines-few (b ∷ t) = go (eqb b 10) (lines t) (lines-few t)
  where
    go : (c : Bool) (ls : List Name) → length ls ≤ length t → length (cond c ((10 ∷ []) ∷ ls) (onto b ls)) ≤ suc (length t)
    go true ls h = omega arith
    go false [] h = omega arith
    go false (w ∷ ls) h = omega arith

pub read-within : (t : List ℕ) → Within most_bytes (read_text t)
unfolding read_text
read-within t = go (ltb most_bytes (length t)) refl
  where
    go :
        (b : Bool) → b ≡ ltb most_bytes (length t) →
        Within most_bytes
        (cond b (refused text_too_long 0)
        (then (scan_lines (lines t) 0 first_place) λ ls. resolve_lines (declarations ls) ls 0 first_scope))
    go true e = omega arith
    go false e =
        let few : length (lines t) ≤ 32768 = omega (arith, lines-few t, ltb-false most_bytes (length t) (sym e)) in
        then-within most_bytes (scan_lines (lines t) 0 first_place) _ (scan-within most_bytes (lines t) 0 first_place (omega arith))
        (λ ls i. resolve-within most_bytes (declarations ls) ls 0 first_scope (omega (arith, few, as_many (lines t) 0 first_place ls i)))

resolved-few :
    (Γ : Declarations) (ls : List Line) (n : ℕ) (s : Scope) (items : List Item) → resolve_lines Γ ls n s ≡ accepted items → length items ≡ length ls
unfolding resolve_lines
resolved-few Γ [] n s items e = ap length (sym (accepted-inj e))
resolved-few Γ (l ∷ ls) n s items e =
    let (a, i, e₁) = at_line-accepted (suc n) (resolve_line Γ s l) _ items e in
    let (rest, j, e₂) = then-accepted (resolve_lines Γ ls (suc n) (scope_after s l)) _ items e₁ in
    ap length (sym (accepted-inj e₂)) ∙ ap suc (resolved-few Γ ls (suc n) (scope_after s l) rest j)

-- an item for each line of the text
pub items-few : (t : List ℕ) (items : List Item) → read_text t ≡ accepted items → length items ≤ most_bytes
unfolding read_text
items-few t items e = go (ltb most_bytes (length t)) refl e
  where
    go :
        (b : Bool) → b ≡ ltb most_bytes (length t) →
        cond b (refused text_too_long 0)
        (then (scan_lines (lines t) 0 first_place) λ ls. resolve_lines (declarations ls) ls 0 first_scope)
        ≡ accepted items →
        length items ≤ most_bytes
    go true i e = refused-accepted e
    go false i e =
        let (ls, j, k) = then-accepted (scan_lines (lines t) 0 first_place) _ items e in
        omega (arith, resolved-few (declarations ls) ls 0 first_scope items k, lines-few t, ltb-false most_bytes (length t) (sym i), as_many (lines t) 0 first_place ls j)

-- NUMBERS OF THE PROGRAM
abbrev pub Small : ℕ → Type 0
Small v = v < 4294967296

abbrev pub SmallExpr : Expr ℕ → Type 0
SmallExpr (num n) = Small n
SmallExpr null = Unit {0}
SmallExpr (var x) = Unit {0}
SmallExpr (path x f) = Unit {0}

abbrev pub SmallSimple : Simple → Type 0
SmallSimple (set x f y) = Unit {0}
SmallSimple (assign x e) = SmallExpr e
SmallSimple (compute o x y z) = Unit {0}
SmallSimple (new x c) = Unit {0}
SmallSimple (call x y m z) = Unit {0}
SmallSimple (assert φ) = Unit {0}
SmallSimple (release φ) = Unit {0}
SmallSimple (open_chain y x f) = Unit {0}
SmallSimple (shut_chain x f) = Unit {0}

abbrev pub SmallStmt : Stmt → Type 0
SmallStmt (simple p) = SmallSimple p
SmallStmt (return x) = Unit {0}
SmallStmt (if n a b) = Unit {0}
SmallStmt else = Unit {0}
SmallStmt (join φ) = Unit {0}
SmallStmt (loop n a b φ) = Unit {0}
SmallStmt again = Unit {0}
SmallStmt end = Unit {0}

abbrev pub SmallItem : Item → Type 0
SmallItem a_class = Unit {0}
SmallItem (a_field f) = Unit {0}
SmallItem a_method = Unit {0}
SmallItem (a_requires φ) = Unit {0}
SmallItem (an_ensures φ) = Unit {0}
SmallItem a_main = Unit {0}
SmallItem (a_local x) = Unit {0}
SmallItem (a_statement s) = SmallStmt s

-- a row of one of n lines
pub record RowFits (n : ℕ) (r : Row) : Type 0 where
  pub line : r.line ≤ n
  pub stmt : SmallStmt r.stmt

abbrev pub ProgramFits : ℕ → Program → Type 0
ProgramFits n P = All (RowFits n) P.rows

module _ (Γ : Declarations) (vs : List Variable) where
  expr-small : (w : Name) → SmallExpr (resolve_expr Γ vs (expr_of w))
  unfolding expr_of resolve_expr
  expr-small w = go (numeral w) (has_stop w) (Base.is "null" w)
    where
      go :
          (a b c : Bool) →
          SmallExpr (resolve_expr Γ vs (cond a (num (number w)) (cond b (path (before_stop w) (after_stop w)) (cond c null (var w)))))
      go true b c = number_small w
      go false true c = tt
      go false false true = tt
      go false false false = tt

  statement-small :
      (a : Statement) (ws : List Name) →
      SmallItem (a_statement (resolve_statement Γ vs a (line_of (statement a) ws)))
  unfolding resolve_statement Rattle.rules.specs.Items.resolve_set Rattle.rules.specs.Items.resolve_compute Rattle.rules.specs.Items.resolve_call Rattle.rules.specs.Items.resolve_if Rattle.rules.specs.Items.resolve_loop Rattle.rules.specs.Items.resolve_open
  statement-small Set ws = tt
  statement-small Let ws = expr-small (operand (line_of (statement Let) ws) 1)
  statement-small New ws = tt
  statement-small Call ws = tt
  statement-small Return ws = tt
  statement-small Assert ws = tt
  statement-small Release ws = tt
  statement-small If ws = tt
  statement-small Else ws = tt
  statement-small Join ws = tt
  statement-small End ws = tt
  statement-small Add ws = tt
  statement-small Sub ws = tt
  statement-small Loop ws = tt
  statement-small Again ws = tt
  statement-small Open ws = tt
  statement-small Shut ws = tt

  item-small : (k : Kind) (ws : List Name) → SmallItem (item_of Γ vs k (line_of k ws))
  unfolding item_of
  item-small Class ws = tt
  item-small Field ws = tt
  item-small Grammar.Method ws = tt
  item-small Requires ws = tt
  item-small Ensures ws = tt
  item-small Main ws = tt
  item-small Var ws = tt
  item-small (statement a) ws = statement-small a ws

pub items-small : (text : List Line) {p : Place} {s : Scope} {ls : List Line} {items : List Item} → TakenLines text p s ls items → All SmallItem items
items-small text (none h) = tt
items-small text (line {l = l} x xs) = (item-small (declarations text) _ l.kind l.fields, items-small text xs)

-- ROWS
module _ (n : ℕ) where
  more-fits : (rs : List Row) (r : Row) → All (RowFits n) rs → RowFits n r → All (RowFits n) (rs ++ (r ∷ []))
  more-fits [] r x y = (y, tt)
  more-fits (q ∷ rs) r x y = (x.0, more-fits rs r x.1 y)

  item-fits : (P : Program) (l : ℕ) (a : Item) → l ≤ n → SmallItem a → ProgramFits n P → ProgramFits n (with_item P l a)
  unfolding with_item
  item-fits P l a_class h s x = x
  item-fits P l (a_field f) h s x = x
  item-fits P l a_method h s x = x
  item-fits P l (a_requires φ) h s x = x
  item-fits P l (an_ensures φ) h s x = x
  item-fits P l a_main h s x = x
  item-fits P l (a_local y) h s x = x
  item-fits P l (a_statement y) h s x = more-fits P.rows _ x (record { line = h; stmt = s })

  items-fit :
      (P : Program) (m : ℕ) (items : List Item) → m + length items ≤ n → All SmallItem items → ProgramFits n P →
      ProgramFits n (with_items P m items)
  unfolding with_items
  items-fit P m [] h s x = x
  items-fit P m (a ∷ items) h s x =
      items-fit (with_item P (suc m) a) (suc m) items (omega arith) s.1 (item-fits P (suc m) a (omega arith) s.0 x)

  pub program-fits : (items : List Item) → length items ≤ n → All SmallItem items → ProgramFits n (program items)
  unfolding program
  program-fits items h s = items-fit no_program 0 items (omega arith) s tt

  drop-fits : (i : ℕ) (rs : List Row) → All (RowFits n) rs → All (RowFits n) (drop i rs)
  drop-fits zero rs x = x
  drop-fits (suc i) [] x = tt
  drop-fits (suc i) (r ∷ rs) x = drop-fits i rs x.1

  reached-within : (l : ℕ) (e : Rules.End) (k : State → Verdict (Unit {0})) → l ≤ n → ((s : State) → Within n (k s)) → Within n (reached l e k)
  unfolding reached
  reached-within l Option.none k h x = h
  reached-within l (some s) k h x = x s

  module _ (P : Program) (φ : Formula ℕ) where
    row_within :
        (st : Stmt) (l : ℕ) (k : Following) (e : Rules.End) (os : List Rules.Open) → l ≤ n → ((e : Rules.End) (os : List Rules.Open) → Within n (k e os)) →
        Within n (check_row P st l φ k e os)
    unfolding check_row else_row join_row again_row end_row
    row_within (simple p) l k e os h x = reached-within l e _ h (λ s. at-within n l _ _ h (λ a. x _ os))
    row_within (return y) l k e os h x = reached-within l e _ h (λ s. at-within n l _ _ h (λ u. x _ os))
    row_within (if r a b) l k e os h x = reached-within l e _ h (λ s. at-within n l _ _ h (λ c. x _ (in_first c.1 ∷ os)))
    row_within else l k e [] h x = h
    row_within else l k e (in_first s₂ ∷ os) h x = x _ (in_second e ∷ os)
    row_within else l k e (in_second e₁ ∷ os) h x = h
    row_within else l k e (in_loop ψ s ∷ os) h x = h
    row_within (join ψ) l k e [] h x = h
    row_within (join ψ) l k e (in_first s₂ ∷ os) h x = h
    row_within (join ψ) l k e (in_second e₁ ∷ os) h x = at-within n l _ _ h (λ a. x _ os)
    row_within (join ψ) l k e (in_loop χ s ∷ os) h x = h
    row_within (loop r a b ψ) l k e os h x = reached-within l e _ h (λ s. at-within n l _ _ h (λ c. x _ (in_loop ψ c.1 ∷ os)))
    row_within again l k e [] h x = h
    row_within again l k e (in_first s₂ ∷ os) h x = h
    row_within again l k e (in_second e₁ ∷ os) h x = h
    row_within again l k e (in_loop ψ s ∷ os) h x = at-within n l _ _ h (λ u. x _ os)
    row_within end l k e [] h x = at-within n l _ _ h (λ a. tt)
    row_within end l k e (o ∷ os) h x = h

    rows-within : (rs : List Row) (e : Rules.End) (os : List Rules.Open) → All (RowFits n) rs → Within n (check_rows P φ rs e os)
    unfolding check_rows
    rows-within [] e os x = omega arith
    rows-within (r ∷ rs) e os x =
        row_within r.stmt r.line _ e os x.0.line (λ e' os'. rows-within rs e' os' x.1)

  blocks-within : (P : Program) (Ms : List Method) → ProgramFits n P → Within n (check_blocks P Ms)
  unfolding check_blocks check_method check_from
  blocks-within P [] x = rows-within P [] _ _ [] (drop-fits P.main P.rows x)
  blocks-within P (M ∷ Ms) x =
      then-within n (check_method P M) _
      (at-within n 0 _ _ (omega arith) (λ s. rows-within P M.ensures _ _ [] (drop-fits M.first P.rows x)))
      (λ u e. blocks-within P Ms x)

  pub check-within : (items : List Item) → length items ≤ n → All SmallItem items → Within n (check_items items)
  unfolding check_items check_program
  check-within items h s =
      let x = program-fits items h s in
      then-within n (check_framed items 0) _ (framed-within n items 0 (omega arith))
      (λ u e. blocks-within (program items) (program items).methods x)
