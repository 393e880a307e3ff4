-- The classes of a text's program have the fields that the text declares, each by the number of its name.
use mathlib.Core.Path.{◌≡◌, refl, sym, ap, ◌∙◌}
use mathlib.Core.Bool.{Bool, true, false, cond}
use mathlib.Core.List.{List, [], ◌∷◌, ◌++◌, map, append_assoc, append-nil}
use Prim.Native.Nat.{ℕ, zero, suc, pred, ◌≤◌}
use native.Mathlib.Omega.{arith}
use lib.Dec.{eqb, eqb-zero-suc, eqb-suc-zero, eqb-suc-suc, lit≤}
use lib.ListN.{length, get_or, length-append}
use Rattle.rules.specs.Base.{Name, is, keep}
use Rattle.rules.specs.Syntax.{Program}
use Rattle.rules.specs.Syntax as Syntax
use Rattle.rules.specs.Grammar.{Kind, Line, Class, Field, Method, Requires, Ensures, Main, Var, statement, is_kind}
use Rattle.rules.specs.Grammar as Grammar
use Rattle.rules.specs.Places.{Place, first_place, stage_number, place_after}
use Rattle.rules.specs.Scope.{Declarations, FieldDeclaration, Variable, Scope, declarations, classes_above, fields_of, first_scope, scope_after}
use Rattle.rules.specs.Scope as Scope
use Rattle.rules.specs.Names.{field_number}
use Rattle.rules.specs.Items.{Item, item_of}
use Rattle.rules.specs.Items as Items
use Rattle.rules.specs.Reading.{no_program, on_last, with_item, with_items, program}
use Rattle.rules.proofs.LinesTaken.{line_of, seen, Taken, TakenLines, TakenText, none, line}
use Rattle.filling.proofs.Listed.{last-length}
use Rattle.filling.proofs.Classes.{Classed, InClass, at-beginning, stands-in-class, next-classed, in-class-count, count-above}

-- CHANGES of the last, and one more

last-changed :
    {A : Type 0} (f : A → A) (l : List A) (i : ℕ) (d : A) → 1 ≤ length l →
    get_or (on_last f l) i d ≡ cond (eqb (pred (length l)) i) (f (get_or l i d)) (get_or l i d)
unfolding on_last
last-changed f [] i d h = absurd (omega arith)
last-changed f (a ∷ []) zero d h = refl
last-changed f (a ∷ []) (suc i) d h = sym (ap (λ b. cond b (f d) d) (eqb-zero-suc i))
last-changed f (a ∷ b ∷ l) zero d h = sym (ap (λ c. cond c (f a) a) (eqb-suc-zero (length l)))
last-changed f (a ∷ b ∷ l) (suc i) d h =
    last-changed f (b ∷ l) i d (omega arith)
    ∙ ap (λ c. cond c (f (get_or (b ∷ l) i d)) (get_or (b ∷ l) i d)) (sym (eqb-suc-suc (length l) i))

empty-more : {A : Type 0} (l : List A) (i : ℕ) (d : A) → get_or (l ++ (d ∷ [])) i d ≡ get_or l i d
empty-more [] zero d = refl
empty-more [] (suc i) d = refl
empty-more (a ∷ l) zero d = refl
empty-more (a ∷ l) (suc i) d = empty-more l i d

-- THE FIELDS of class i

abbrev owned_by : ℕ → FieldDeclaration → Bool
owned_by i d = eqb d.owner i

-- with the number of its name
abbrev pub numbered_field : Declarations → FieldDeclaration → Syntax.Field
numbered_field Γ d = record { name = field_number Γ d.name; int = is "int" d.type }

abbrev pub fields_in : Declarations → ℕ → List FieldDeclaration → List Syntax.Field
fields_in Γ i ds = map (numbered_field Γ) (keep (owned_by i) ds)

abbrev field_of : ℕ → List Name → FieldDeclaration
field_of c ws = record { owner = pred c; name = get_or ws 1 []; type = get_or ws 0 [] }

module _ (text : List Line) where
  abbrev Γ : Declarations
  Γ = declarations text

  -- one line
  module _ (p : Place) (s : Scope) (P : Program) (n c i : ℕ) (above : length s.classes ≡ c) (built : length P.classes ≡ c) where
    field-line :
        (vs : List Variable) (ws : List Name) (r : List FieldDeclaration) → InClass s →
        get_or (with_item P n (item_of Γ vs Field (line_of Field ws))).classes i [] ++ fields_in Γ i r
        ≡ get_or P.classes i [] ++ fields_in Γ i (field_of c ws ∷ r)
    unfolding with_item Items.opened Scope.opened keep
    field-line vs ws r C =
        ap (λ fs. fs ++ fields_in Γ i r) (last-changed _ P.classes i [] (omega (arith, in-class-count s C)))
        ∙ ap (λ k. cond (eqb (pred k) i) (had ++ (f ∷ [])) had ++ fields_in Γ i r) built ∙ go (eqb (pred c) i)
      where
        had : List Syntax.Field
        had = get_or P.classes i []

        f : Syntax.Field
        f = numbered_field Γ (field_of c ws)

        go :
            (b : Bool) →
            cond b (had ++ (f ∷ [])) had ++ fields_in Γ i r
            ≡ had ++ map (numbered_field Γ) (cond b (field_of c ws ∷ keep (owned_by i) r) (keep (owned_by i) r))
        go true = append_assoc had (f ∷ []) (fields_in Γ i r)
        go false = refl

    line-built :
        (vs : List Variable) (k : Kind) (ws : List Name) (r : List FieldDeclaration) → Taken text p s (line_of k ws) → Classed p s →
        get_or (with_item P n (item_of Γ vs k (line_of k ws))).classes i [] ++ fields_in Γ i r
        ≡ get_or P.classes i [] ++ fields_in Γ i (cond (is_kind Field k) (field_of c ws ∷ r) r)
    unfolding with_item item_of Grammar.opened stage_number
    line-built vs Class ws r t C = ap (λ fs. fs ++ fields_in Γ i r) (empty-more P.classes i [])
    line-built vs Field ws r t C = field-line vs ws r (stands-in-class Field p s (lit≤ tt) (lit≤ tt) t.is_in_place C)
    line-built vs Method ws r t C = refl
    line-built vs Requires ws r t C = refl
    line-built vs Ensures ws r t C = refl
    line-built vs Main ws r t C = refl
    line-built vs Var ws r t C = refl
    line-built vs (statement a) ws r t C = refl

    line-count :
        (vs : List Variable) (k : Kind) (ws : List Name) →
        length (with_item P n (item_of Γ vs k (line_of k ws))).classes ≡ classes_above c (line_of k ws)
    unfolding with_item item_of classes_above Grammar.opened
    line-count vs Class ws = omega (arith, length-append P.classes ([] ∷ []))
    line-count vs Field ws = last-length _ P.classes ∙ built
    line-count vs Method ws = built
    line-count vs Requires ws = built
    line-count vs Ensures ws = built
    line-count vs Main ws = built
    line-count vs Var ws = built
    line-count vs (statement a) ws = built

  lines-built :
      (p : Place) (s : Scope) (ls : List Line) (items : List Item) → TakenLines text p s ls items → Classed p s →
      (P : Program) (n c i : ℕ) → length s.classes ≡ c → length P.classes ≡ c →
      get_or (with_items P n items).classes i [] ≡ get_or P.classes i [] ++ fields_in Γ i (fields_of c ls)
  unfolding with_items fields_of keep Scope.operand
  lines-built p s ls items (none e) C P n c i q r = sym (append-nil (get_or P.classes i []))
  lines-built p s ls items (line {l = l} {ls = m} {items = is} t ts) C P n c i q r =
      lines-built (place_after l.kind p) (scope_after s l) m is ts (next-classed text p s l t C)
      (with_item P (suc n) (item_of Γ (seen s l) l.kind l)) (suc n) (classes_above c l) i (count-above s l c q)
      (line-count p s P (suc n) c i q r (seen s l) l.kind l.fields)
      ∙ line-built p s P (suc n) c i q r (seen s l) l.kind l.fields (fields_of (classes_above c l) m) t C

-- class i of the program
pub class-fields :
    (text : List Line) (items : List Item) → TakenText text items → (i : ℕ) →
    get_or (program items).classes i [] ≡ fields_in (declarations text) i (declarations text).fields
unfolding program declarations stage_number
class-fields text items ts i = lines-built text first_place first_scope text items ts (at-beginning refl) no_program 0 0 i refl refl
