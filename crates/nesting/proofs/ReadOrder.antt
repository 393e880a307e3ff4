-- The statement rows of a read text nest, and each block is some of them.
use mathlib.Core.Path.{◌≡◌, refl, sym, ap, ◌∙◌, subst}
use mathlib.Core.Bool.{Bool, true, false, not, cond, ◌&&◌, ◌||◌}
use mathlib.Core.List.{List, [], ◌∷◌, ◌++◌, append_assoc, append-nil}
use Prim.Native.Nat.{ℕ, suc, ◌<◌}
use native.Mathlib.Omega.{arith}
use lib.Dec.{T, not_T, leb, ltb, eqb, eqb→eq, leb→le}
use lib.ListN.{length, drop}
use Rattle.rules.specs.Base.{all, any, between}
use Rattle.rules.specs.Answers.{accepted}
use Rattle.rules.specs.Syntax as Syntax
use Rattle.rules.specs.Syntax.{Formula, Stmt, Row, Program, simple, return, if, else, join, loop, again, end}
use Rattle.rules.specs.Grammar as Grammar
use Rattle.rules.specs.Grammar.{Kind, Statement, Stage, Line, Class, Field, Method, Requires, Ensures, Main, Var, statement}
use Rattle.rules.specs.Grammar.{Return, If, Else, Join, End, Loop, Again}
use Rattle.rules.specs.Grammar.{in_locals, in_body, after_return, after_main, next_stage, form, stands, is_statement, is_kind, kind_number, statement_number}
use Rattle.rules.specs.Places as Places
use Rattle.rules.specs.Places.{Place, Branch, before_else, in_loop, first_place, stage_number, may_else, may_join, may_again, may_end, outer, fits, in_place, stage_after, branches_after, place_after, within_limits, ended}
use Rattle.rules.specs.Scope.{Scope, Variable, Declarations, declarations, first_scope}
use Rattle.rules.specs.Items as Items
use Rattle.rules.specs.Items.{Item, a_class, a_field, a_method, a_requires, an_ensures, a_main, a_local, a_statement, item_of, resolve_statement, resolve_formula, resolve_if, resolve_loop}
use Rattle.rules.specs.Reading.{read_text, no_program, on_last, with_requires, with_ensures, with_item, with_items, program}
use Rattle.rules.proofs.Lists.{and_both, and_intro}
use Rattle.rules.proofs.LineKinds.{every-kind, is_same}
use Rattle.rules.proofs.LinesTaken.{TakenLines, none, line, seen, read_taken}
use Rattle.nesting.specs.Nests.{Wait, for_else, for_join, for_again, row_nests, rows_nest}

-- THE ROWS OF ITEMS

-- the statements among the items after n lines
unfoldable pub rows_of : ℕ → List Item → List Row
rows_of n [] = []
rows_of n (a_class ∷ items) = rows_of (suc n) items
rows_of n (a_field f ∷ items) = rows_of (suc n) items
rows_of n (a_method ∷ items) = rows_of (suc n) items
rows_of n (a_requires φ ∷ items) = rows_of (suc n) items
rows_of n (an_ensures φ ∷ items) = rows_of (suc n) items
rows_of n (a_main ∷ items) = rows_of (suc n) items
rows_of n (a_local x ∷ items) = rows_of (suc n) items
rows_of n (a_statement s ∷ items) = record { line = suc n; stmt = s } ∷ rows_of (suc n) items

with_row :
    (P : Program) (n : ℕ) (a : Item) (items : List Item) →
    (with_item P (suc n) a).rows ++ rows_of (suc n) items ≡ P.rows ++ rows_of n (a ∷ items)
unfolding with_item rows_of
with_row P n a_class items = refl
with_row P n (a_field f) items = refl
with_row P n a_method items = refl
with_row P n (a_requires φ) items = refl
with_row P n (an_ensures φ) items = refl
with_row P n a_main items = refl
with_row P n (a_local x) items = refl
with_row P n (a_statement s) items = append_assoc P.rows _ (rows_of (suc n) items)

pub with_rows : (P : Program) (n : ℕ) (items : List Item) → (with_items P n items).rows ≡ P.rows ++ rows_of n items
unfolding with_items rows_of
with_rows P n [] = sym (append-nil _)
with_rows P n (a ∷ items) = with_rows (with_item P (suc n) a) (suc n) items ∙ with_row P n a items

drop-length : (l k : List Row) → drop (length l) (l ++ k) ≡ k
drop-length [] k = refl
drop-length (a ∷ l) k = drop-length l k

-- a line stands between its first and its last stage
pub bounds :
    (k : Kind) (p : Place) → T (in_place k p) →
    T (leb (stage_number (form k).first) (stage_number p.stage)) × T (leb (stage_number p.stage) (stage_number (form k).last))
unfolding in_place between
bounds k p i =
    let a : Bool = leb (stage_number (form k).first) (stage_number p.stage) in
    let z : Bool = leb (stage_number p.stage) (stage_number (form k).last) in
    and_both a z (and_both (a && z) (fits k p) i).0

-- THE NESTING OF ROWS

-- what the open branches and loops of a place wait for
waits : List Branch → List Wait
waits [] = []
waits (before_else ∷ bs) = for_else ∷ waits bs
waits (Places.behind_else ∷ bs) = for_join ∷ waits bs
waits (in_loop ∷ bs) = for_again ∷ waits bs

waits-length : (bs : List Branch) → length (waits bs) ≡ length bs
unfolding waits
waits-length [] = refl
waits-length (before_else ∷ bs) = ap suc (waits-length bs)
waits-length (Places.behind_else ∷ bs) = ap suc (waits-length bs)
waits-length (in_loop ∷ bs) = ap suc (waits-length bs)

-- rows that nest do so also where a block begins
begin-nests : (b : Bool) (ws : List Wait) (rs : List Row) → T (rows_nest b ws rs) → T (rows_nest true ws rs)
unfolding rows_nest
begin-nests b [] [] t = tt
begin-nests b (v ∷ ws) [] t = t
begin-nests b ws (r ∷ rs) t = t

-- is it the place of a further statement?
inside : Stage → Bool
inside g = between (stage_number in_body) (stage_number after_return) (stage_number g)

inside-above : (g : Stage) → T (inside g) → stage_number in_locals < stage_number g
unfolding inside between stage_number
inside-above g t = leb→le 6 (stage_number g) (and_both (leb 6 (stage_number g)) (leb (stage_number g) 7) t).0

-- outside of bodies no branch or loop is open
abbrev Closed : Place → Type 0
Closed p = T (not (inside p.stage)) → p.branches ≡ []

-- after a statement another may stand, but for `end`, see `stage_after`
next-inside : (a : Statement) → (inside (next_stage a) ≡ true) × (eqb (stage_number (next_stage a)) (stage_number after_main) ≡ false)
unfolding next_stage inside between stage_number
next-inside a = go (eqb (statement_number a) (statement_number Return))
  where
    go : (b : Bool) → (inside (cond b after_return in_body) ≡ true) × (eqb (stage_number (cond b after_return in_body)) (stage_number after_main) ≡ false)
    go true = (refl, refl)
    go false = (refl, refl)

-- rows that nest inside a block are some
some-nests : (b : Bool) (ws : List Wait) (rs : List Row) → T (rows_nest false ws rs) → T (rows_nest b ws rs)
unfolding rows_nest
some-nests b [] [] t = absurd t
some-nests b (v ∷ ws) [] t = t
some-nests b ws (r ∷ rs) t = t

-- `if`, `else`, `join`, `loop`, `again` and `end`, by the branches and loops that are open
opens_row : (bs : List Branch) (c : Bool) → T (leb (suc (length bs)) 4) → T c → T (ltb (length (waits bs)) 4 && c)
opens_row bs c l t = and_intro (ltb (length (waits bs)) 4) c (subst (λ (n : ℕ). T (leb (suc n) 4)) (sym (waits-length bs)) l) t

else-row : (bs : List Branch) (k : Bool → List Wait → Bool) → T (may_else bs) → T (k false (waits (Places.behind_else ∷ outer bs))) → T (row_nests else (waits bs) k)
unfolding may_else outer waits row_nests
else-row [] k m t = absurd m
else-row (before_else ∷ bs) k m t = t
else-row (Places.behind_else ∷ bs) k m t = absurd m
else-row (in_loop ∷ bs) k m t = absurd m

join-row : (bs : List Branch) (φ : Formula ℕ) (k : Bool → List Wait → Bool) → T (may_join bs) → T (k false (waits (outer bs))) → T (row_nests (join φ) (waits bs) k)
unfolding may_join outer waits row_nests
join-row [] φ k m t = absurd m
join-row (before_else ∷ bs) φ k m t = absurd m
join-row (Places.behind_else ∷ bs) φ k m t = t
join-row (in_loop ∷ bs) φ k m t = absurd m

again-row : (bs : List Branch) (k : Bool → List Wait → Bool) → T (may_again bs) → T (k false (waits (outer bs))) → T (row_nests again (waits bs) k)
unfolding may_again outer waits row_nests
again-row [] k m t = absurd m
again-row (before_else ∷ bs) k m t = absurd m
again-row (Places.behind_else ∷ bs) k m t = absurd m
again-row (in_loop ∷ bs) k m t = t

end-row : (bs : List Branch) (k : Bool → List Wait → Bool) → T (may_end bs) → T (k true (waits bs)) → T (row_nests end (waits bs) k)
unfolding may_end waits row_nests
end-row [] k m t = t
end-row (b ∷ bs) k m t = absurd m

ends-closed : (bs : List Branch) → T (may_end bs) → bs ≡ []
unfolding may_end
ends-closed [] m = refl
ends-closed (b ∷ bs) m = absurd m

-- these open and close; the other statements do not
turns : Kind → Bool
turns k = any (λ a. is_kind (statement a) k) (If ∷ Else ∷ Join ∷ Loop ∷ Again ∷ End ∷ [])

is_simple : Stmt → Bool
is_simple (simple s) = true
is_simple (return x) = true
is_simple (if n a b) = false
is_simple else = false
is_simple (join φ) = false
is_simple (loop n a b φ) = false
is_simple again = false
is_simple end = false

simple-row : (s : Stmt) (ws : List Wait) (k : Bool → List Wait → Bool) → T (is_simple s) → T (k false ws) → T (row_nests s ws k)
unfolding is_simple row_nests
simple-row (simple s) ws k h t = t
simple-row (return x) ws k h t = t
simple-row (if n a b) ws k h t = absurd h
simple-row else ws k h t = absurd h
simple-row (join φ) ws k h t = absurd h
simple-row (loop n a b φ) ws k h t = absurd h
simple-row again ws k h t = absurd h
simple-row end ws k h t = absurd h

-- an item adds no row, or such a one
is_quiet : Item → Bool
is_quiet a_class = true
is_quiet (a_field f) = true
is_quiet a_method = true
is_quiet (a_requires φ) = true
is_quiet (an_ensures φ) = true
is_quiet a_main = true
is_quiet (a_local x) = true
is_quiet (a_statement s) = is_simple s

few-branches : (q : Place) → T (within_limits q) → T (leb (length q.branches) 4)
unfolding within_limits
few-branches q t =
    let a = (and_both (leb q.classes 16) _ t).1 in
    let b = (and_both (leb q.fields 8) _ a).1 in
    let c = (and_both (leb q.methods 64) _ b).1 in
    let d = (and_both (leb q.locals 12) _ c).1 in
    (and_both (leb q.statements 256) (leb (length q.branches) 4) d).1

module _ (Γ : Declarations) (vs : List Variable) (l : Line) (p : Place) (closed : Closed p) (n : ℕ) (rest : List Item) where
  rows : List Row
  rows = rows_of (suc n) rest

  Nests : Kind → Type 0
  Nests k =
      T (in_place k p) → T (within_limits (place_after k p)) →
      (T (rows_nest (ended (place_after k p)) (waits (place_after k p).branches) rows) →
      T (rows_nest (ended p) (waits p.branches) (rows_of n (item_of Γ vs k l ∷ rest))))
      × Closed (place_after k p)

  -- a line that stands before bodies only
  not_body : (k : Kind) → T (leb (stage_number (form k).last) 5) → T (in_place k p) → T (not (inside p.stage))
  unfolding stage_number inside between
  not_body k l i =
      let h = leb→le (stage_number p.stage) (stage_number (form k).last) (bounds k p i).1 in
      let g = leb→le (stage_number (form k).last) 5 l in
      not_T (inside p.stage) (λ t. omega (arith, h, g, inside-above p.stage t))

  fit : (k : Kind) → T (in_place k p) → T (fits k p)
  unfolding in_place
  fit k i = (and_both (between (stage_number (form k).first) (stage_number (form k).last) (stage_number p.stage)) (fits k p) i).1

  quiet_line : (k : Kind) → T (turns k || is_quiet (item_of Γ vs k l))
  unfolding Grammar.opened Items.opened all any turns is_simple is_quiet
  quiet_line = every-kind (λ k. turns k || is_quiet (item_of Γ vs k l)) tt

  simple-nests :
      (a : Statement) → is_kind (statement If) (statement a) ≡ false → is_kind (statement Else) (statement a) ≡ false → is_kind (statement Join) (statement a) ≡ false →
      is_kind (statement Loop) (statement a) ≡ false → is_kind (statement Again) (statement a) ≡ false → is_kind (statement End) (statement a) ≡ false →
      Nests (statement a)
  unfolding Nests rows rows_of item_of place_after stage_after branches_after ended stage_number form stands rows_nest any turns is_quiet
  simple-nests a f e j o g d i w =
      let s : T (is_simple (resolve_statement Γ vs a l)) = rw (f, e, j, o, g, d) at (quiet_line (statement a)) in
      let (m, n) = next-inside a in
      rw (f, e, j, o, g, d, m, n) (λ t. simple-row (resolve_statement Γ vs a l) (waits p.branches) (λ b ws. rows_nest b ws rows) s t, absurd)

  if-nests : Nests (statement If)
  unfolding Nests rows rows_of item_of resolve_statement place_after stage_after branches_after ended stage_number form stands is_statement is_kind kind_number statement_number rows_nest row_nests waits resolve_if next_stage inside between
  if-nests i w = (λ t. opens_row p.branches _ (few-branches (place_after (statement If) p) w) t, absurd)

  else-nests : Nests (statement Else)
  unfolding Nests rows rows_of item_of resolve_statement place_after stage_after branches_after ended stage_number form stands is_statement is_kind kind_number statement_number rows_nest fits next_stage inside between
  else-nests i w = (λ t. else-row p.branches (λ b ws. rows_nest b ws rows) (fit (statement Else) i) t, absurd)

  join-nests : Nests (statement Join)
  unfolding Nests rows rows_of item_of resolve_statement place_after stage_after branches_after ended stage_number form stands is_statement is_kind kind_number statement_number rows_nest fits next_stage inside between
  join-nests i w = (λ t. join-row p.branches (resolve_formula Γ vs l) (λ b ws. rows_nest b ws rows) (fit (statement Join) i) t, absurd)

  loop-nests : Nests (statement Loop)
  unfolding Nests rows rows_of item_of resolve_statement place_after stage_after branches_after ended stage_number form stands is_statement is_kind kind_number statement_number rows_nest row_nests waits resolve_loop next_stage inside between
  loop-nests i w = (λ t. opens_row p.branches _ (few-branches (place_after (statement Loop) p) w) t, absurd)

  again-nests : Nests (statement Again)
  unfolding Nests rows rows_of item_of resolve_statement place_after stage_after branches_after ended stage_number form stands is_statement is_kind kind_number statement_number rows_nest fits next_stage inside between
  again-nests i w = (λ t. again-row p.branches (λ b ws. rows_nest b ws rows) (fit (statement Again) i) t, absurd)

  end-nests : Nests (statement End)
  unfolding Nests rows rows_of item_of resolve_statement place_after stage_after branches_after ended stage_number form stands is_statement is_kind kind_number statement_number rows_nest fits
  end-nests i w = (
    λ t.
        end-row p.branches (λ b ws. rows_nest b ws rows) (fit (statement End) i)
        (begin-nests (ended (place_after (statement End) p)) (waits p.branches) rows t),
    λ e. ends-closed p.branches (fit (statement End) i),
  )

  -- kind b, or another
  or-else : (b k : Kind) → Nests b → (is_kind b k ≡ false → Nests k) → Nests k
  or-else b k x f = go (is_kind b k) refl
    where
      go : (q : Bool) → is_kind b k ≡ q → Nests k
      go true e = subst Nests (is_same b k (subst T (sym e) tt)) x
      go false e = f e

  statement-nests : (a : Statement) → Nests (statement a)
  statement-nests a =
      or-else (statement If) (statement a) if-nests λ f.
      or-else (statement Else) (statement a) else-nests λ e.
      or-else (statement Join) (statement a) join-nests λ j.
      or-else (statement Loop) (statement a) loop-nests λ o.
      or-else (statement Again) (statement a) again-nests λ g.
      or-else (statement End) (statement a) end-nests λ d.
      simple-nests a f e j o g d

  -- a line that adds no row, and stands before bodies only
  no-row : (k : Kind) → T (leb (stage_number (form k).last) 5) → T (in_place k p) → (T (rows_nest false (waits p.branches) rows) → T (rows_nest (ended p) (waits p.branches) rows)) × (T true → p.branches ≡ [])
  no-row k u i = (some-nests (ended p) (waits p.branches) rows, λ e. closed (not_body k u i))

  line-nests : (k : Kind) → Nests k
  unfolding Nests rows rows_of item_of place_after stage_after branches_after ended stage_number form stands is_statement is_kind kind_number inside between
  line-nests Class i w = no-row Class tt i
  line-nests Field i w = no-row Field tt i
  line-nests Method i w = no-row Method tt i
  line-nests Requires i w = no-row Requires tt i
  line-nests Ensures i w = no-row Ensures tt i
  line-nests Main i w = no-row Main tt i
  line-nests Var i w = no-row Var tt i
  line-nests (statement a) i w = statement-nests a i w

-- after main's `end`
outside : (g : Stage) → T (eqb (stage_number g) (stage_number after_main)) → T (not (inside g))
unfolding stage_number inside between
outside g t = rw (eqb→eq (stage_number g) (stage_number after_main) t) tt

lines-nest :
    (text : List Line) (p : Place) (s : Scope) (ls : List Line) (items : List Item) (n : ℕ) → TakenLines text p s ls items →
    Closed p → T (rows_nest (ended p) (waits p.branches) (rows_of n items))
unfolding Nests rows rows_of waits rows_nest ended stage_number
lines-nest text p s ls items n (none e) h =
    subst (λ (bs : List Branch). T (rows_nest (ended p) (waits bs) [])) (sym (h (outside p.stage e))) e
lines-nest text p s ls items n (line {l = l} {items = rest} L R) h =
    let (o, c) = line-nests _ _ l p h n rest l.kind L.is_in_place L.within in
    o (lines-nest text _ _ _ rest (suc n) R c)

pub read-nests : (t : List ℕ) (items : List Item) → read_text t ≡ accepted items → T (rows_nest true [] (program items).rows)
unfolding ended stage_number waits program
read-nests t items e =
    let (text, K) = read_taken t items e in
    subst (λ (rs : List Row). T (rows_nest true [] rs)) (sym (with_rows no_program 0 items))
    (begin-nests (ended first_place) [] (rows_of 0 items) (lines-nest text first_place first_scope text items 0 K (λ e. refl)))

-- BLOCKS

-- of the rows rs, each of these methods has a block whose branches and loops nest
abbrev pub BodiesNest : List Row → List Syntax.Method → Type 0
BodiesNest rs [] = Unit {0}
BodiesNest rs (M ∷ Ms) = T (rows_nest false [] (drop M.first rs)) × BodiesNest rs Ms

module _ (rs : List Row) where
  bodies-more :
      (Ms : List Syntax.Method) (M : Syntax.Method) → BodiesNest rs Ms → T (rows_nest false [] (drop M.first rs)) →
      BodiesNest rs (Ms ++ (M ∷ []))
  bodies-more [] M B t = (t, tt)
  bodies-more (N ∷ Ms) M B t = (B.0, bodies-more Ms M B.1 t)

  bodies-last :
      (f : Syntax.Method → Syntax.Method) → ((M : Syntax.Method) → (f M).first ≡ M.first) → (Ms : List Syntax.Method) →
      BodiesNest rs Ms → BodiesNest rs (on_last f Ms)
  unfolding on_last
  bodies-last f e [] B = tt
  bodies-last f e (M ∷ []) B = (rw e B.0, tt)
  bodies-last f e (M ∷ N ∷ Ms) B = (B.0, bodies-last f e (N ∷ Ms) B.1)

  -- what is put together of the lines above a place
  record Blocks (p : Place) (P : Program) : Type 0 where
    methods : BodiesNest rs P.methods
    main : T p.main → T (rows_nest false [] (drop P.main rs))
    last : T (ended p) → T p.main

  module _ (Γ : Declarations) (vs : List Variable) (l : Line) (p : Place) (closed : Closed p) (n : ℕ) (rest : List Item) (P : Program)
      (is : rs ≡ P.rows ++ rows_of (suc n) rest) where
    -- a block that begins after this line
    begins :
        (k : Kind) → T (leb (stage_number (form k).last) 5) → T (in_place k p) →
        T (rows_nest false (waits p.branches) (rows_of (suc n) rest)) → T (rows_nest false [] (drop (length P.rows) rs))
    unfolding waits
    begins k u i t =
        rw (is, drop-length P.rows (rows_of (suc n) rest))
        (subst (λ (bs : List Branch). T (rows_nest false (waits bs) (rows_of (suc n) rest))) (closed (not_body Γ vs l p closed n rest k u i)) t)

  -- of the statements, main's `end` comes last
  last_end :
      (e m : Bool) (a : Statement) → T (eqb (stage_number (cond e (cond m after_main Grammar.after_method) (next_stage a))) (stage_number after_main)) →
      T m
  unfolding stage_number
  last_end true true a t = tt
  last_end true false a t = t
  last_end false m a t = absurd (subst T (next-inside a).1 t)

  line-blocks :
      (Γ : Declarations) (vs : List Variable) (l : Line) (p : Place) (closed : Closed p) (n : ℕ) (rest : List Item) (P : Program)
      (k : Kind) → rs ≡ P.rows ++ rows_of n (item_of Γ vs k l ∷ rest) → T (in_place k p) →
      T (rows_nest (ended (place_after k p)) (waits (place_after k p).branches) (rows_of (suc n) rest)) → Blocks p P →
      Blocks (place_after k p) (with_item P (suc n) (item_of Γ vs k l))
  unfolding with_item with_requires with_ensures rows_of item_of place_after stage_after branches_after ended stage_number form stands is_statement is_kind kind_number
  line-blocks Γ vs l p c n rest P Class is i t B = record { methods = B.methods; main = B.main; last = absurd }
  line-blocks Γ vs l p c n rest P Field is i t B = record { methods = B.methods; main = B.main; last = absurd }
  line-blocks Γ vs l p c n rest P Method is i t B =
      record {
        methods = bodies-more P.methods _ B.methods (begins Γ vs l p c n rest P is Method tt i t);
        main = B.main;
        last = absurd;
      }
  line-blocks Γ vs l p c n rest P Requires is i t B =
      record { methods = bodies-last (with_requires _) (λ M. refl) P.methods B.methods; main = B.main; last = absurd }
  line-blocks Γ vs l p c n rest P Ensures is i t B =
      record { methods = bodies-last (with_ensures _) (λ M. refl) P.methods B.methods; main = B.main; last = absurd }
  line-blocks Γ vs l p c n rest P Main is i t B =
      record { methods = B.methods; main = λ u. begins Γ vs l p c n rest P is Main tt i t; last = absurd }
  line-blocks Γ vs l p c n rest P Var is i t B = record { methods = B.methods; main = B.main; last = absurd }
  line-blocks Γ vs l p c n rest P (statement a) is i t B =
      record { methods = B.methods; main = B.main; last = last_end (is_kind (statement End) (statement a)) p.main a }

  lines-blocks :
      (text : List Line) (p : Place) (s : Scope) (ls : List Line) (items : List Item) (n : ℕ) → TakenLines text p s ls items →
      Closed p → (P : Program) → rs ≡ P.rows ++ rows_of n items → Blocks p P →
      BodiesNest rs (with_items P n items).methods × T (rows_nest false [] (drop (with_items P n items).main rs))
  unfolding Nests rows with_items ended stage_number
  lines-blocks text p s ls items n (none e) h P is B = (B.methods, B.main (B.last e))
  lines-blocks text p s ls items n (line {p = q} {s = r} {l = l} {items = rest} L R) h P is B =
      let Γ : Declarations = declarations text in
      let vs : List Variable = seen r l in
      let (_, c) = line-nests Γ vs l q h n rest l.kind L.is_in_place L.within in
      lines-blocks text _ _ _ rest (suc n) R c _ (is ∙ sym (with_row P n _ rest))
      (line-blocks Γ vs l q h n rest P l.kind is L.is_in_place (lines-nest text _ _ _ rest (suc n) R c) B)

pub read-blocks :
    (t : List ℕ) (items : List Item) → read_text t ≡ accepted items →
    BodiesNest (program items).rows (program items).methods
    × T (rows_nest false [] (drop (program items).main (program items).rows))
unfolding program ended stage_number
read-blocks t items e =
    let (text, K) = read_taken t items e in
    lines-blocks (with_items no_program 0 items).rows text first_place first_scope text items 0 K (λ e. refl) no_program
    (with_rows no_program 0 items) (record { methods = tt; main = λ u. absurd u; last = λ v. absurd v })
