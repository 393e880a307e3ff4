-- The class that a line stands in, its name and its place among the classes; what is known of the classes and the fields that a text declares.
use mathlib.Core.Path.{◌≡◌, refl, ap}
use mathlib.Core.Bool.{Bool, true, false, cond, not, ◌&&◌}
use mathlib.Core.List.{List, [], ◌∷◌, ◌++◌}
use mathlib.Core.Logic.{⊎_elim}
use Prim.Native.Nat.{ℕ, suc, pred, ◌+◌, ◌≤◌, ◌<◌}
use native.Mathlib.Omega.{arith}
use lib.Dec.{T, T_not, eqb, leb, leb→le, lit≤}
use lib.ListN.{length, get_or, length-append}
use Rattle.rules.specs.Base.{Name, bytes, is, eq_name, any, all, between}
use Rattle.rules.specs.Text.{is_name, reserved}
use Rattle.rules.specs.Grammar.{Kind, Line, Class, Field, Method, Requires, Ensures, Main, Var, statement, End, Return}
use Rattle.rules.specs.Grammar.{new, fields, methods, variables, after_main, after_method, after_return, in_body, form, is_kind, statement_number}
use Rattle.rules.specs.Grammar as Grammar
use Rattle.rules.specs.Places.{Place, stage_number, in_place, place_after}
use Rattle.rules.specs.Places as Places
use Rattle.rules.specs.Scope.{Declarations, FieldDeclaration, Variable, Scope, classes_of, classes_above, classes_after, fields_of, scope_after}
use Rattle.rules.specs.Scope as Scope
use Rattle.rules.specs.Names.{is_type, known, all_known}
use Rattle.rules.specs.Items.{Item}
use Rattle.rules.proofs.Lists.{and_both, or_cases, or_left}
use Rattle.rules.proofs.LinesTaken.{line_of, HasForm, Taken, TakenLines, none, line}
use Rattle.filling.proofs.Listed.{All}

-- NEW NAMES of a line that is taken

module _ (Γ : Declarations) (vs : List Variable) (s : Scope) where
  class-new :
      (ws : List Name) → HasForm (line_of Class ws) → T (all_known Γ vs s (line_of Class ws)) →
      T (not (reserved (get_or ws 0 []))) × T (not (any (eq_name (get_or ws 0 [])) s.classes))
  unfolding Grammar.opened Scope.opened known all_known all
  class-new [] f k = absurd f
  class-new (w ∷ ws) f k = and_both (not (reserved w)) _ (and_both (not (reserved w) && not (any (eq_name w) s.classes)) _ k).0

  field-new :
      (ws : List Name) → HasForm (line_of Field ws) → T (all_known Γ vs s (line_of Field ws)) →
      T (is_name (get_or ws 1 [])) × T (not (reserved (get_or ws 1 [])))
  unfolding Grammar.opened Scope.opened known all_known all
  field-new [] f k = absurd f
  field-new (v ∷ []) f k = absurd (and_both (is_name v) _ f).1
  field-new (v ∷ w ∷ ws) f k =
      let (_, f₁) = and_both (is_name v) _ f in
      let (_, k₁) = and_both (is_type Γ v) _ k in
      ((and_both (is_name w) _ f₁).0, (and_both (not (reserved w)) _ (and_both (known Γ vs s (new fields) v w) _ k₁).0).0)

  pub parameter-new :
      (ws : List Name) → HasForm (line_of Method ws) → T (all_known Γ vs s (line_of Method ws)) →
      T (is_name (get_or ws 3 [])) × T (not (reserved (get_or ws 3 [])))
  unfolding Grammar.opened Scope.opened known all_known all
  parameter-new [] f k = absurd f
  parameter-new (a ∷ []) f k = absurd (and_both (is_name a) _ f).1
  parameter-new (a ∷ b ∷ []) f k = absurd (and_both (is_name b) _ (and_both (is_name a) _ f).1).1
  parameter-new (a ∷ b ∷ c ∷ []) f k =
      absurd (and_both (is_name c) _ (and_both (is_name b) _ (and_both (is_name a) _ f).1).1).1
  parameter-new (a ∷ b ∷ c ∷ d ∷ ws) f k =
      let (_, f₁) = and_both (is_name a) _ f in
      let (_, f₂) = and_both (is_name b) _ f₁ in
      let (_, f₃) = and_both (is_name c) _ f₂ in
      let (_, k₁) = and_both (is_type Γ a) _ k in
      let (_, k₂) = and_both (known Γ vs s (new methods) a b) _ k₁ in
      let (_, k₃) = and_both (is_type Γ c) _ k₂ in
      ((and_both (is_name d) _ f₃).0, (and_both (not (reserved d)) _ (and_both (known Γ vs s (new variables) c d) _ k₃).0).0)

  class_not_int :
      (ws : List Name) (r : List Name) → HasForm (line_of Class ws) → T (all_known Γ vs s (line_of Class ws)) →
      (T (any (eq_name (bytes "int")) r) → ⊥) → T (any (eq_name (bytes "int")) (get_or ws 0 [] ∷ r)) → ⊥
  unfolding any reserved is
  class_not_int ws r f k h i =
      let w : Name = get_or ws 0 [] in
      let (n, _) = class-new ws f k in
      ⊎_elim (λ j. T_not (reserved w) n (or_left (is "int" w) _ j)) (λ j. h j) (or_cases (eq_name (bytes "int") w) _ i)

-- THE CLASS that the lines above are in: the last, and none before has its name
pub record InClass (s : Scope) : Type 0 where
  pub earlier : List Name
  pub classes : s.classes ≡ earlier ++ (s.members.class ∷ [])
  pub fresh : T (any (eq_name s.members.class) earlier) → ⊥

-- there is none only before the first, and in main
pub data Classed (p : Place) (s : Scope) : Type 0 where
  at-beginning : stage_number p.stage ≡ 0 → Classed p s
  in-main : T p.main → 5 ≤ stage_number p.stage → Classed p s
  in-class : InClass s → Classed p s

-- a line that stands in a class only
pub stands-in-class :
    (k : Kind) (p : Place) (s : Scope) → 1 ≤ stage_number (form k).first → stage_number (form k).last ≤ 4 → T (in_place k p) →
    Classed p s → InClass s
unfolding in_place between
stands-in-class k p s a z t c =
    let n : ℕ = stage_number p.stage in
    let (b, _) = and_both (between (stage_number (form k).first) (stage_number (form k).last) n) _ t in
    let (i, j) = and_both (leb (stage_number (form k).first) n) _ b in
    go (leb→le _ n i) (leb→le n _ j) c
  where
    go :
        stage_number (form k).first ≤ stage_number p.stage → stage_number p.stage ≤ stage_number (form k).last → Classed p s →
        InClass s
    go i j (at-beginning e) = absurd (omega arith)
    go i j (in-main m h) = absurd (omega arith)
    go i j (in-class C) = C

-- a line that stands in a block
not_first : (k : Kind) (p : Place) → 1 ≤ stage_number (form k).first → T (in_place k p) → stage_number p.stage ≡ 0 → ⊥
unfolding in_place between
not_first k p a t e =
    let n : ℕ = stage_number p.stage in
    let (b, _) = and_both (between (stage_number (form k).first) (stage_number (form k).last) n) _ t in
    let (i, _) = and_both (leb (stage_number (form k).first) n) _ b in
    omega (arith, leb→le _ n i)

main-goes-on : (b c m : Bool) → T m → 5 ≤ stage_number (cond b (cond m after_main after_method) (cond c after_return in_body))
unfolding stage_number
main-goes-on true c true t = lit≤ tt
main-goes-on true c false t = absurd t
main-goes-on false true m t = lit≤ tt
main-goes-on false false m t = lit≤ tt

module _ (text : List Line) (p : Place) (s : Scope) where
  line-classed :
      (k : Kind) (ws : List Name) → Taken text p s (line_of k ws) → Classed p s → Classed (place_after k p) (scope_after s (line_of k ws))
  unfolding Grammar.opened Places.opened Scope.opened
  line-classed Class ws t c =
      let (_, n) = class-new _ _ s ws t.formed t.known in
      in-class (record { earlier = s.classes; classes = refl; fresh = λ h. T_not (any (eq_name (get_or ws 0 [])) s.classes) n h })
  line-classed Field ws t c =
      let C : InClass s = stands-in-class Field p s (lit≤ tt) (lit≤ tt) t.is_in_place c in
      in-class (record { earlier = C.earlier; classes = C.classes; fresh = C.fresh })
  line-classed Method ws t c =
      let C : InClass s = stands-in-class Method p s (lit≤ tt) (lit≤ tt) t.is_in_place c in
      in-class (record { earlier = C.earlier; classes = C.classes; fresh = C.fresh })
  line-classed Requires ws t c =
      let C : InClass s = stands-in-class Requires p s (lit≤ tt) (lit≤ tt) t.is_in_place c in
      in-class (record { earlier = C.earlier; classes = C.classes; fresh = C.fresh })
  line-classed Ensures ws t c =
      let C : InClass s = stands-in-class Ensures p s (lit≤ tt) (lit≤ tt) t.is_in_place c in
      in-class (record { earlier = C.earlier; classes = C.classes; fresh = C.fresh })
  line-classed Main ws t c = in-main tt (lit≤ tt)
  line-classed Var ws t (at-beginning e) = absurd (not_first Var p (lit≤ tt) t.is_in_place e)
  line-classed Var ws t (in-main m h) = in-main m (lit≤ tt)
  line-classed Var ws t (in-class C) = in-class (record { earlier = C.earlier; classes = C.classes; fresh = C.fresh })
  line-classed (statement a) ws t (at-beginning e) = absurd (not_first (statement a) p (lit≤ tt) t.is_in_place e)
  line-classed (statement a) ws t (in-main m h) =
      in-main m
      (main-goes-on (is_kind (statement End) (statement a)) (eqb (statement_number a) (statement_number Return)) p.main m)
  line-classed (statement a) ws t (in-class C) = in-class (record { earlier = C.earlier; classes = C.classes; fresh = C.fresh })

pub next-classed :
    (text : List Line) (p : Place) (s : Scope) (l : Line) → Taken text p s l → Classed p s →
    Classed (place_after l.kind p) (scope_after s l)
next-classed text p s l t c = line-classed text p s l.kind l.fields t c

-- COUNTED

pub in-class-count : (s : Scope) → InClass s → 1 ≤ length s.classes
in-class-count s C = omega (arith, ap length C.classes, length-append C.earlier (s.members.class ∷ []))

pub count-above : (s : Scope) (l : Line) (c : ℕ) → length s.classes ≡ c → length (scope_after s l).classes ≡ classes_above c l
unfolding scope_after classes_after classes_above
count-above s l c e = go (is_kind Class l.kind)
  where
    go : (b : Bool) → length (cond b (s.classes ++ (Scope.operand l 0 ∷ [])) s.classes) ≡ cond b (suc c) c
    go true = omega (arith, length-append s.classes (Scope.operand l 0 ∷ []))
    go false = e

count-below : (c : ℕ) (l : Line) (ls : List Line) → classes_above c l + length (classes_of ls) ≡ c + length (classes_of (l ∷ ls))
unfolding classes_above classes_of
count-below c l ls = go (is_kind Class l.kind)
  where
    go :
        (b : Bool) →
        cond b (suc c) c + length (classes_of ls) ≡ c + length (cond b (Scope.operand l 0 ∷ classes_of ls) (classes_of ls))
    go true = omega arith
    go false = refl

-- WHAT A TEXT DECLARES

-- a field, where there are n classes
pub record FieldKnown (n : ℕ) (d : FieldDeclaration) : Type 0 where
  pub named : T (is_name d.name)
  pub free : T (not (reserved d.name))
  pub owned : d.owner < n

module _ (text : List Line) where
  line-fields :
      (p : Place) (s : Scope) (k : Kind) (ws : List Name) (c n : ℕ) (r : List FieldDeclaration) → Taken text p s (line_of k ws) →
      Classed p s → length s.classes ≡ c → c ≤ n → All (FieldKnown n) r →
      All (FieldKnown n) (cond (is_kind Field k) (record { owner = pred c; name = get_or ws 1 []; type = get_or ws 0 [] } ∷ r) r)
  unfolding Grammar.opened stage_number
  line-fields p s Class ws c n r t C e l h = h
  line-fields p s Field ws c n r t C e l h =
      let D : InClass s = stands-in-class Field p s (lit≤ tt) (lit≤ tt) t.is_in_place C in
      let (a, b) = field-new _ _ s ws t.formed t.known in
      (record { named = a; free = b; owned = omega (arith, in-class-count s D) }, h)
  line-fields p s Method ws c n r t C e l h = h
  line-fields p s Requires ws c n r t C e l h = h
  line-fields p s Ensures ws c n r t C e l h = h
  line-fields p s Main ws c n r t C e l h = h
  line-fields p s Var ws c n r t C e l h = h
  line-fields p s (statement a) ws c n r t C e l h = h

  -- of every field, where the classes are these and those above
  pub fields-known :
      (p : Place) (s : Scope) (ls : List Line) (items : List Item) → TakenLines text p s ls items → Classed p s →
      (c n : ℕ) → length s.classes ≡ c → c + length (classes_of ls) ≤ n → All (FieldKnown n) (fields_of c ls)
  unfolding fields_of Scope.operand
  fields-known p s ls items (none e) C c n q h = tt
  fields-known p s ls items (line {l = l} {ls = m} {items = is} t ts) C c n q h =
      let r = fields-known (place_after l.kind p) (scope_after s l) m is ts (next-classed text p s l t C) (classes_above c l) n
      (count-above s l c q) (omega (arith, count-below c l m)) in
      line-fields p s l.kind l.fields c n (fields_of (classes_above c l) m) t C q (omega arith) r

  line-int :
      (p : Place) (s : Scope) (k : Kind) (ws : List Name) (r : List Name) → Taken text p s (line_of k ws) →
      (T (any (eq_name (bytes "int")) r) → ⊥) → T (any (eq_name (bytes "int")) (cond (is_kind Class k) (get_or ws 0 [] ∷ r) r)) → ⊥
  unfolding Grammar.opened
  line-int p s Class ws r t h i = class_not_int _ _ s ws r t.formed t.known h i
  line-int p s Field ws r t h i = h i
  line-int p s Method ws r t h i = h i
  line-int p s Requires ws r t h i = h i
  line-int p s Ensures ws r t h i = h i
  line-int p s Main ws r t h i = h i
  line-int p s Var ws r t h i = h i
  line-int p s (statement a) ws r t h i = h i

  -- no class is called int
  pub none-int :
      (p : Place) (s : Scope) (ls : List Line) (items : List Item) → TakenLines text p s ls items →
      T (any (eq_name (bytes "int")) (classes_of ls)) → ⊥
  unfolding classes_of any Scope.operand
  none-int p s ls items (none e) h = h
  none-int p s ls items (line {l = l} {ls = m} {items = is} t ts) h =
      line-int p s l.kind l.fields (classes_of m) t (λ h. none-int (place_after l.kind p) (scope_after s l) m is ts h) h
