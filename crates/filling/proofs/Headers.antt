-- The line with the star stands straight below its method's header: which method of the text and of the program that is, and its class.
use mathlib.Core.Path.{◌≡◌, refl, sym, ap, subst, ◌∙◌}
use mathlib.Core.Bool.{Bool, true, false, cond}
use mathlib.Core.List.{List, [], ◌∷◌, ◌++◌, append_assoc}
use Prim.Native.Nat.{ℕ, suc, pred, ◌+◌}
use native.Mathlib.Omega.{arith}
use lib.Dec.{T, eqb}
use lib.ListN.{length, get_or, length-append}
use Rattle.rules.specs.Base.{Name, eq_name, keep, index}
use Rattle.rules.specs.Syntax.{Program}
use Rattle.rules.specs.Grammar.{Kind, Line, Class, Field, Method, Requires, Ensures, Main, Var, statement, End, Return, is_kind, statement_number}
use Rattle.rules.specs.Grammar as Grammar
use Rattle.rules.specs.Places.{Place, stage_number, place_after}
use Rattle.rules.specs.Places as Places
use Rattle.rules.specs.Scope.{Declarations, MethodDeclaration, Variable, Scope, declarations, classes_of, classes_above, classes_after, methods_of, scope_after, first_scope}
use Rattle.rules.specs.Scope as Scope
use Rattle.rules.specs.Names.{class_number}
use Rattle.rules.specs.Items.{Item, item_of, a_method}
use Rattle.rules.specs.Reading.{with_item, with_items}
use Rattle.rules.specs.Fill.{scope_from}
use Rattle.rules.proofs.Lists.{name-same}
use Rattle.rules.proofs.LinesTaken.{line_of, seen, Taken, TakenLines, none, line}
use Rattle.filling.specs.Sets.{is_header}
use Rattle.filling.proofs.Listed.{index-after, last-length}
use Rattle.filling.proofs.Classes.{Classed, InClass, next-classed, count-above}
use Rattle.filling.proofs.Programs.{after-statement, stands-after-header}

-- LINES that are taken, one by one
module _ (text : List Line) where
  abbrev Γ : Declarations
  Γ = declarations text

  abbrev FirstTaken : Place → Scope → List Line → List Item → Type 0
  FirstTaken p s [] [] = Unit {0}
  FirstTaken p s [] (a ∷ items) = ⊥
  FirstTaken p s (l ∷ ls) [] = ⊥
  FirstTaken p s (l ∷ ls) (a ∷ items) =
      Taken text p s l × (item_of Γ (seen s l) l.kind l ≡ a) × TakenLines text (place_after l.kind p) (scope_after s l) ls items

  first_taken : (p : Place) (s : Scope) (ls : List Line) (items : List Item) → TakenLines text p s ls items → FirstTaken p s ls items
  first_taken p s ls items (none e) = tt
  first_taken p s ls items (line t ts) = (t, refl, ts)

  -- METHODS are counted as their headers
  line-methods :
      (vs : List Variable) (P : Program) (n : ℕ) (k : Kind) (ws : List Name) (r : List Line) →
      length (with_item P n (item_of Γ vs k (line_of k ws))).methods + length r
      ≡ length P.methods + length (cond (is_kind Method k) (line_of k ws ∷ r) r)
  unfolding with_item item_of Grammar.opened
  line-methods vs P n Class ws r = refl
  line-methods vs P n Field ws r = refl
  line-methods vs P n Method ws r =
      omega (arith, length-append P.methods (record { requires = []; ensures = []; first = length P.rows } ∷ []))
  line-methods vs P n Requires ws r = ap (λ k. k + length r) (last-length _ P.methods)
  line-methods vs P n Ensures ws r = ap (λ k. k + length r) (last-length _ P.methods)
  line-methods vs P n Main ws r = refl
  line-methods vs P n Var ws r = refl
  line-methods vs P n (statement a) ws r = refl

-- only after a header stands what a requires line asks for
header-kind : (k : Kind) (p : Place) → T (eqb (stage_number (place_after k p).stage) 3) → k ≡ Method
unfolding Grammar.opened Places.opened
header-kind Class p t = absurd t
header-kind Field p t = absurd t
header-kind Method p t = refl
header-kind Requires p t = absurd t
header-kind Ensures p t = absurd t
header-kind Main p t = absurd t
header-kind Var p t = absurd t
header-kind (statement a) p t =
    absurd (after-statement (is_kind (statement End) (statement a)) (eqb (statement_number a) (statement_number Return)) p.main t)

-- THE STAR'S HEADER

-- lines above the star, with the items of these, and lines below it
pub record AtHeader (text : List Line) (s : Scope) (ws : List Name) (above below : List Line) (before after : List Item) : Type 0 where
  pub outer : List Line
  pub header : List Name
  pub lines : above ≡ outer ++ (line_of Method header ∷ [])
  pub outer-items : List Item
  pub items : before ≡ outer-items ++ (a_method ∷ [])
  pub place : Place
  pub classed : Classed place (scope_from s outer)
  pub taken : Taken text place (scope_from s outer) (line_of Method header)
  pub methods :
      (P : Program) (n : ℕ) → length (with_items P n outer-items).methods ≡ length P.methods + length (keep is_header outer)
  pub below-taken :
      TakenLines text (place_after Requires (place_after Method place))
      (scope_after (scope_after (scope_from s outer) (line_of Method header)) (line_of Requires ws)) below after

module _ (text : List Line) (ws : List Name) (below : List Line) (after : List Item) where
  header-here :
      (p : Place) (s : Scope) (k : Kind) (hs : List Name) → k ≡ Method → Classed p s → Taken text p s (line_of k hs) →
      TakenLines text (place_after Requires (place_after k p)) (scope_after (scope_after s (line_of k hs)) (line_of Requires ws)) below after →
      AtHeader text s ws (line_of k hs ∷ []) below (item_of (declarations text) (seen s (line_of k hs)) k (line_of k hs) ∷ []) after
  unfolding with_items scope_from item_of keep
  header-here p s k hs e C =
      subst
      (λ k.
      Taken text p s (line_of k hs) →
      TakenLines text (place_after Requires (place_after k p)) (scope_after (scope_after s (line_of k hs)) (line_of Requires ws)) below after →
      AtHeader text s ws (line_of k hs ∷ []) below (item_of (declarations text) (seen s (line_of k hs)) k (line_of k hs) ∷ []) after)
      (sym e)
      (λ t ts.
      record {
        outer = [];
        header = hs;
        lines = refl;
        outer-items = [];
        items = refl;
        place = p;
        classed = C;
        taken = t;
        methods = λ P n. omega arith;
        below-taken = ts;
      })

  header-further :
      (s : Scope) (l : Line) (a : Item) (above : List Line) (before : List Item) →
      item_of (declarations text) (seen s l) l.kind l ≡ a → AtHeader text (scope_after s l) ws above below before after →
      AtHeader text s ws (l ∷ above) below (a ∷ before) after
  unfolding with_items scope_from keep is_header
  header-further s l a above before e H =
      record {
        outer = l ∷ H.outer;
        header = H.header;
        lines = ap (λ r. l ∷ r) H.lines;
        outer-items = a ∷ H.outer-items;
        items = ap (λ r. a ∷ r) H.items;
        place = H.place;
        classed = H.classed;
        taken = H.taken;
        methods =
            λ P n.
            H.methods (with_item P (suc n) a) (suc n)
            ∙ subst (λ a. length (with_item P (suc n) a).methods + length (keep is_header H.outer) ≡ length P.methods + length (keep is_header (l ∷ H.outer))) e
            (line-methods text (seen s l) P (suc n) l.kind l.fields (keep is_header H.outer));
        below-taken = H.below-taken;
      }

  at-header :
      (p : Place) (s : Scope) (l : Line) (above : List Line) (before : List Item) (star : Item) → Classed p s →
      length before ≡ suc (length above) →
      TakenLines text p s (l ∷ (above ++ (line_of Requires ws ∷ below))) (before ++ (star ∷ after)) →
      AtHeader text s ws (l ∷ above) below before after
  at-header p s l above [] star C q ts = absurd (omega arith)
  at-header p s l [] (a ∷ []) star C q ts =
      let (t, e, ts₁) = first_taken text p s _ _ ts in
      let (u, _, ts₂) = first_taken text (place_after l.kind p) (scope_after s l) _ _ ts₁ in
      let k : l.kind ≡ Method = header-kind l.kind p (stands-after-header (place_after l.kind p) u.is_in_place) in
      subst (λ a. AtHeader text s ws (l ∷ []) below (a ∷ []) after) e (header-here p s l.kind l.fields k C t ts₂)
  at-header p s l [] (a ∷ b ∷ before) star C q ts = absurd (omega arith)
  at-header p s l (m ∷ above) (a ∷ before) star C q ts =
      let (t, e, ts₁) = first_taken text p s _ _ ts in
      header-further s l a (m ∷ above) before e
      (at-header (place_after l.kind p) (scope_after s l) m above before star (next-classed text p s l t C) (omega arith) ts₁)

  -- the first line of a text has no star
  pub star-header :
      (p : Place) (s : Scope) (above : List Line) (before : List Item) (star : Item) → Classed p s →
      (T (eqb (stage_number p.stage) 3) → ⊥) → length before ≡ length above →
      TakenLines text p s (above ++ (line_of Requires ws ∷ below)) (before ++ (star ∷ after)) →
      AtHeader text s ws above below before after
  star-header p s [] [] star C h q ts =
      let (t, _, _) = first_taken text p s _ _ ts in absurd (h (stands-after-header p t.is_in_place))
  star-header p s [] (a ∷ before) star C h q ts = absurd (omega arith)
  star-header p s (l ∷ above) before star C h q ts = at-header p s l above before star C q ts

-- ITS DECLARATION

pub header-declared :
    (s : Scope) (outer : List Line) (hs : List Name) (rest : List Line) (c : ℕ) (d : MethodDeclaration) → length s.classes ≡ c →
    get_or (methods_of c (outer ++ (line_of Method hs ∷ rest))) (length (keep is_header outer)) d
    ≡ record { owner = pred (length (scope_from s outer).classes); name = get_or hs 1 []; result = get_or hs 0 []; parameter_type = get_or hs 2 [] }
unfolding methods_of keep is_header scope_from Grammar.opened Scope.operand
header-declared s [] hs rest c d e =
    ap (λ c. record { owner = pred c; name = get_or hs 1 []; result = get_or hs 0 []; parameter_type = get_or hs 2 [] }) (sym e)
header-declared s (l ∷ outer) hs rest c d e =
    go (is_kind Method l.kind) (header-declared (scope_after s l) outer hs rest (classes_above c l) d (count-above s l c e))
  where
    go :
        (b : Bool) {x : MethodDeclaration} → get_or (methods_of (classes_above c l) (outer ++ (line_of Method hs ∷ rest))) (length (keep is_header outer)) d ≡ x →
        get_or
        (cond b
        (record { owner = pred c; name = Scope.operand l 1; result = Scope.operand l 0; parameter_type = Scope.operand l 2 }
        ∷ methods_of (classes_above c l) (outer ++ (line_of Method hs ∷ rest)))
        (methods_of (classes_above c l) (outer ++ (line_of Method hs ∷ rest))))
        (length (cond b (l ∷ keep is_header outer) (keep is_header outer))) d
        ≡ x
    go true e = e
    go false e = e

-- ITS CLASS

classes-further :
    (s : Scope) (outer rest : List Line) → s.classes ++ classes_of (outer ++ rest) ≡ (scope_from s outer).classes ++ classes_of rest
unfolding classes_of scope_from scope_after classes_after
classes-further s [] rest = refl
classes-further s (l ∷ outer) rest = step (is_kind Class l.kind) ∙ classes-further (scope_after s l) outer rest
  where
    step :
        (b : Bool) →
        s.classes ++ cond b (Scope.operand l 0 ∷ classes_of (outer ++ rest)) (classes_of (outer ++ rest))
        ≡ cond b (s.classes ++ (Scope.operand l 0 ∷ [])) s.classes ++ classes_of (outer ++ rest)
    step true = sym (append_assoc s.classes (Scope.operand l 0 ∷ []) (classes_of (outer ++ rest)))
    step false = refl

-- by its name it is found at its place
pub class-place :
    (outer rest : List Line) → InClass (scope_from first_scope outer) →
    class_number (declarations (outer ++ rest)) (scope_from first_scope outer).members.class
    ≡ pred (length (scope_from first_scope outer).classes)
unfolding class_number declarations
class-place outer rest C =
    let s : Scope = scope_from first_scope outer in
    let N : Name = s.members.class in
    ap (index (eq_name N))
    (classes-further first_scope outer rest ∙ ap (λ cs. cs ++ classes_of rest) C.classes
    ∙ append_assoc C.earlier (N ∷ []) (classes_of rest))
    ∙ index-after (eq_name N) C.earlier N (classes_of rest) C.fresh (name-same N)
    ∙ omega (arith, ap length C.classes, length-append C.earlier (N ∷ []))
