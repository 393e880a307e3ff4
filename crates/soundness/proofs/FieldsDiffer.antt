-- The fields of a class have different numbers: the name of each is new where it is declared, and two declared names have two
-- numbers.
use mathlib.Core.Path.{◌≡◌, refl, sym, ◌∙◌, subst}
use mathlib.Core.Bool.{Bool, true, false, cond}
use mathlib.Core.List.{List, [], ◌∷◌, ◌++◌}
use mathlib.Core.Logic.{⊎_elim}
use Prim.Native.Nat.{ℕ, zero, suc, pred}
use lib.Dec.{T, lit<}
use lib.ListN.{get_or}
use Rattle.rules.specs.Base.{Name, eq_name, any, Member, at_head}
use Rattle.rules.specs.Syntax as Syntax
use Rattle.rules.specs.Syntax.{Program}
use Rattle.rules.specs.Grammar.{Kind, Line, is_kind, fields}
use Rattle.rules.specs.Grammar.{Class, Field, Method, Requires, Ensures, Main, Var, statement}
use Rattle.rules.specs.Grammar as Grammar
use Rattle.rules.specs.Places.{Place, first_place}
use Rattle.rules.specs.Scope.{FieldDeclaration, Scope, declarations, operand, classes_above, fields_of, scope_after, visible, first_scope}
use Rattle.rules.specs.Scope as Scope
use Rattle.rules.specs.Names.{field_number}
use Rattle.rules.specs.Items.{Item, item_of}
use Rattle.rules.specs.Items as Items
use Rattle.rules.specs.Reading.{no_program, on_last, with_item, with_items, program}
use Rattle.rules.proofs.Lists.{head-or, member-left, member_right, or_left, or_right, same_name, name-same, index_same}
use Rattle.soundness.specs.WellFormed.{NoneNamed, NamesDiffer}
use Rattle.rules.proofs.LinesTaken.{line_of, Taken, TakenLines, TakenText, none, line}
use Rattle.soundness.proofs.NamesInScope.{new_apart}

-- NUMBERS OF NAMES

abbrev named : Name → FieldDeclaration → Bool
named f d = eq_name d.name f

-- where an element is put before a list on a condition
module _ {A : Type 0} (t : A → Bool) (a : A) (l : List A) where
  any_here : (b : Bool) → T b → T (t a) → T (any t (cond b (a ∷ l) l))
  unfolding any
  any_here true c h = or_left (t a) (any t l) h
  any_here false c h = absurd c

  any-further : (b : Bool) → T (any t l) → T (any t (cond b (a ∷ l) l))
  unfolding any
  any-further true h = or_right (t a) (any t l) h
  any-further false h = h

-- lines declare the fields of the `field` lines among them; c classes stand above
field-declared :
    (c : ℕ) (ls : List Line) (l : Line) → T (is_kind Field l.kind) → Member l ls → T (any (named (operand l 1)) (fields_of c ls))
unfolding fields_of
field-declared c [] l t i = elim i [ ]
field-declared c (m ∷ ls) l t i =
    let d : FieldDeclaration = record { owner = pred c; name = operand m 1; type = operand m 0 } in
    let r : List FieldDeclaration = fields_of (classes_above c m) ls in
    ⊎_elim
    (λ j. any-further (named (operand l 1)) d r (is_kind Field m.kind) (field-declared (classes_above c m) ls l t j))
    (λ e.
    any_here (named (operand l 1)) d r (is_kind Field m.kind) (subst (λ (k : Line). T (is_kind Field k.kind)) e t)
    (subst (λ (k : Line). T (eq_name (operand k 1) (operand l 1))) e (name-same (operand l 1))))
    (head-or i)

-- CLASSES
module _ (text : List Line) where
  -- a declared name shares its number with no other
  same_number :
      (f g : Name) → T (any (named f) (declarations text).fields) →
      field_number (declarations text) f ≡ field_number (declarations text) g → f ≡ g
  unfolding field_number
  same_number f g t e =
      let (d, x, y) = index_same (named f) (named g) (declarations text).fields t e in
      sym (same_name d.name f x) ∙ same_name d.name g y

  -- each of these fields has one of these names
  abbrev Among : List Name → List Syntax.Field → Type 0
  Among names [] = Unit {0}
  Among names (f ∷ fs) = ((g : Name) × Member g names × (f.name ≡ field_number (declarations text) g)) × Among names fs

  -- the fields of each class differ; those of the last have these names
  abbrev Differ : List Name → List (List Syntax.Field) → Type 0
  Differ names [] = Unit {0}
  Differ names (fs ∷ []) = NamesDiffer fs × Among names fs
  Differ names (fs ∷ gs ∷ cs) = NamesDiffer fs × Differ names (gs ∷ cs)

  class-differs : (names : List Name) (cs : List (List Syntax.Field)) → Differ names cs → (c : ℕ) → NamesDiffer (get_or cs c [])
  class-differs names [] D c = tt
  class-differs names (fs ∷ []) D zero = D.0
  class-differs names (fs ∷ []) D (suc c) = tt
  class-differs names (fs ∷ gs ∷ cs) D zero = D.0
  class-differs names (fs ∷ gs ∷ cs) D (suc c) = class-differs names (gs ∷ cs) D.1 c

  with-class : (names : List Name) (cs : List (List Syntax.Field)) → Differ names cs → Differ [] (cs ++ ([] ∷ []))
  with-class names [] D = (tt, tt)
  with-class names (fs ∷ []) D = (D.0, (tt, tt))
  with-class names (fs ∷ gs ∷ cs) D = (D.0, with-class names (gs ∷ cs) D.1)

  none_more : (n : ℕ) (fs : List Syntax.Field) (f : Syntax.Field) → NoneNamed n fs → (n ≡ f.name → ⊥) → NoneNamed n (fs ++ (f ∷ []))
  none_more n [] f N k = (k, tt)
  none_more n (g ∷ fs) f N k = (N.0, none_more n fs f N.1 k)

  -- a field whose name w is new
  module _ (names : List Name) (w : Name) (int : Bool) (d : T (any (named w) (declarations text).fields))
      (new : (g : Name) → Member g names → w ≡ g → ⊥) where
    abbrev field : Syntax.Field
    field = record { name = field_number (declarations text) w; int = int }

    more-differ : (fs : List Syntax.Field) → NamesDiffer fs → Among names fs → NamesDiffer (fs ++ (field ∷ []))
    more-differ [] D A = (tt, tt)
    more-differ (f ∷ fs) D ((g, i, e), A) =
        (none_more f.name fs field D.0 (λ z. new g i (same_number w g d (sym z ∙ e))), more-differ fs D.1 A)

    more-among : (fs : List Syntax.Field) → Among names fs → Among (names ++ (w ∷ [])) (fs ++ (field ∷ []))
    more-among [] A = ((w, member_right names (w ∷ []) w at_head, refl), tt)
    more-among (f ∷ fs) ((g, i, e), A) = ((g, member-left names (w ∷ []) g i, e), more-among fs A)

    with-field : (cs : List (List Syntax.Field)) → Differ names cs → Differ (names ++ (w ∷ [])) (on_last (λ fs. fs ++ (field ∷ [])) cs)
    unfolding on_last
    with-field [] D = tt
    with-field (fs ∷ []) D = (more-differ fs D.0 D.1, more-among fs D.1)
    with-field (fs ∷ gs ∷ cs) D = with-next gs cs D.0 (with-field (gs ∷ cs) D.1)
      where
        with-next :
            (gs : List Syntax.Field) (cs : List (List Syntax.Field)) → NamesDiffer fs →
            Differ (names ++ (w ∷ [])) (on_last (λ fs. fs ++ (field ∷ [])) (gs ∷ cs)) →
            Differ (names ++ (w ∷ [])) (fs ∷ on_last (λ fs. fs ++ (field ∷ [])) (gs ∷ cs))
        with-next gs [] D E = (D, E)
        with-next gs (hs ∷ cs) D E = (D, E)

  module _ (p : Place) (s : Scope) where
    -- only `class` and `field` matter
    line-differs :
        (k : Kind) (ws : List Name) → Taken text p s (line_of k ws) → (n : ℕ) (P : Program) →
        Differ s.members.fields P.classes →
        Differ (scope_after s (line_of k ws)).members.fields
        (with_item P n (item_of (declarations text) (visible s.block k) k (line_of k ws))).classes
    unfolding Grammar.opened Scope.opened Items.opened with_item
    line-differs Class ws t n P D = with-class s.members.fields P.classes D
    line-differs Field ws t n P D =
        with-field s.members.fields (get_or ws 1 []) _ (field-declared 0 text _ tt t.of-text)
        (new_apart _ _ s _ 1 fields (lit< tt) refl t.formed t.known) P.classes D
    line-differs Method ws t n P D = D
    line-differs Requires ws t n P D = D
    line-differs Ensures ws t n P D = D
    line-differs Main ws t n P D = D
    line-differs Var ws t n P D = D
    line-differs (statement a) ws t n P D = D

  lines-differ :
      (p : Place) (s : Scope) (ls : List Line) (items : List Item) → TakenLines text p s ls items → (n : ℕ) (P : Program) →
      Differ s.members.fields P.classes → (c : ℕ) → NamesDiffer (get_or (with_items P n items).classes c [])
  unfolding with_items
  lines-differ p s ls items (none e) n P D = class-differs s.members.fields P.classes D
  lines-differ p s ls items (line {l = l} {ls = ls'} {items = items'} t ts) n P D =
      lines-differ _ _ ls' items' ts (suc n) _ (line-differs p s l.kind l.fields t (suc n) P D)

-- THE CLAIM
pub fields-differ :
    (text : List Line) (items : List Item) → TakenText text items → (c : ℕ) → NamesDiffer (get_or (program items).classes c [])
unfolding program
fields-differ text items ts = lines-differ text first_place first_scope text items ts 0 no_program tt
