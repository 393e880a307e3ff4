-- What is known at the star of a text that is read with no atom there: its method, the atoms that may stand there, and the program with them.
use mathlib.Core.Path.{◌≡◌, refl, sym, ap, ap₂, subst, ◌∙◌}
use mathlib.Core.Bool.{not}
use mathlib.Core.List.{List, [], ◌∷◌, ◌++◌, map, append_assoc}
use Prim.Native.Nat.{ℕ, pred, ◌<◌}
use native.Mathlib.Omega.{arith}
use lib.Dec.{T, eqb, lit≤}
use lib.ListN.{length, get_or, length-append}
use Rattle.rules.specs.Base.{Name, Member, keep}
use Rattle.rules.specs.Syntax.{Formula, this_variable, parameter}
use Rattle.rules.specs.Grammar.{Line, Method, Requires}
use Rattle.rules.specs.Grammar as Grammar
use Rattle.rules.specs.Places.{first_place, stage_number, place_after}
use Rattle.rules.specs.Places as Places
use Rattle.rules.specs.Scope.{Declarations, MethodDeclaration, Variable, Scope, declarations, first_scope, scope_after, classes_of}
use Rattle.rules.specs.Scope as Scope
use Rattle.rules.specs.Text.{is_name, reserved}
use Rattle.rules.specs.Names.{no_declaration, class_number}
use Rattle.rules.specs.Items.{Item, a_method, a_requires}
use Rattle.rules.specs.Reading.{no_program, with_items, program}
use Rattle.rules.specs.Reading as Reading
use Rattle.rules.specs.Fill.{Access, accesses_for, scope_from, atom_words}
use Rattle.rules.proofs.LinesTaken.{line_of, seen, TakenText}
use Rattle.filling.specs.Sets.{is_header, header_of, fields_of, accesses_in, accesses_of_line, program_with}
use Rattle.filling.proofs.Listed.{keep_append}
use Rattle.filling.proofs.Words.{requires_of}
use Rattle.filling.proofs.Classes.{InClass, at-beginning, stands-in-class, parameter-new, fields-known, none-int}
use Rattle.filling.proofs.Fields.{class-fields}
use Rattle.filling.proofs.Headers.{AtHeader, star-header, header-declared, class-place}
use Rattle.filling.proofs.Programs.{from_header, program-with, method-there}
use Rattle.filling.proofs.Resolved.{Good}
use Rattle.filling.proofs.Accesses.{both_of, numbered, all-good, accesses-numbered}

-- the lines and the items with no atom
abbrev pub lines_with : List Line → List Line → List Line
lines_with above below = above ++ (requires_of [] ∷ below)

abbrev pub items_with : Formula ℕ → List Item → List Item → List Item
items_with φ before after = before ++ (a_requires φ ∷ after)

scope-further : (s : Scope) (l m : List Line) → scope_from s (l ++ m) ≡ scope_from (scope_from s l) m
unfolding scope_from
scope-further s [] m = refl
scope-further s (k ∷ l) m = scope-further (scope_after s k) l m

-- a header's variables
header-variables :
    (s : Scope) (hs : List Name) → (scope_after s (line_of Method hs)).block.variables ≡ both_of s.members.class (get_or hs 2 []) (get_or hs 3 [])
unfolding Scope.opened Grammar.opened
header-variables s hs = refl

header_is :
    (K outer : List Line) (hs : List Name) (rest : List Line) → K ≡ outer ++ (line_of Method hs ∷ rest) →
    header_of (declarations K) (length (keep is_header outer))
    ≡ record {
      owner = pred (length (scope_from first_scope outer).classes);
      name = get_or hs 1 [];
      result = get_or hs 0 [];
      parameter_type = get_or hs 2 [];
    }
unfolding declarations
header_is K outer hs rest e =
    ap (λ (K : List Line). get_or (declarations K).methods (length (keep is_header outer)) no_declaration) e
    ∙ header-declared first_scope outer hs rest 0 no_declaration refl

module _
    (above below : List Line) (before after : List Item)
    (ts : TakenText (lines_with above below) (items_with [] before after)) (many : length before ≡ length above)
  where
    abbrev ks : List Line
    ks = lines_with above below

    abbrev items : List Item
    items = items_with [] before after

    abbrev Γ : Declarations
    Γ = declarations ks

    H : AtHeader ks first_scope (atom_words []) above below before after
    unfolding stage_number
    H =
        star-header ks (atom_words []) below after first_place first_scope above before (a_requires []) (at-beginning refl) (λ t. t) many ts

    s : Scope
    s = scope_from first_scope H.outer

    -- its method
    pub star_method : ℕ
    star_method = length (keep is_header H.outer)

    pub variables : List Variable
    variables = both_of s.members.class (get_or H.header 2 []) (get_or H.header 3 [])

    pub star-variables : (scope_from first_scope above).block.variables ≡ variables
    unfolding variables s scope_from
    star-variables =
        ap (λ (ls : List Line). (scope_from first_scope ls).block.variables) H.lines
        ∙ ap (λ (s : Scope). s.block.variables) (scope-further first_scope H.outer (line_of Method H.header ∷ []))
        ∙ header-variables s H.header

    pub star-method : pred (length (keep is_header (above ++ (requires_of [] ∷ [])))) ≡ star_method
    unfolding star_method keep is_header Grammar.opened
    star-method =
        ap (λ (ls : List Line). pred (length (keep is_header (ls ++ (requires_of [] ∷ []))))) H.lines
        ∙ ap (λ (ls : List Line). pred (length (keep is_header ls)))
        (append_assoc H.outer (line_of Method H.header ∷ []) (requires_of [] ∷ []))
        ∙ ap (λ (ls : List Line). pred (length ls)) (keep_append is_header H.outer (line_of Method H.header ∷ requires_of [] ∷ []))
        ∙ omega (arith, length-append (keep is_header H.outer) (line_of Method H.header ∷ []))

    whole : ks ≡ H.outer ++ (line_of Method H.header ∷ requires_of [] ∷ below)
    whole =
        ap (λ (ls : List Line). ls ++ (requires_of [] ∷ below)) H.lines
        ∙ append_assoc H.outer (line_of Method H.header ∷ []) (requires_of [] ∷ below)

    star-class : InClass s
    unfolding s stage_number Grammar.opened
    star-class = stands-in-class Method H.place s (lit≤ tt) (lit≤ tt) H.taken.is_in_place H.classed

    class-number : class_number Γ s.members.class ≡ pred (length s.classes)
    unfolding s
    class-number =
        ap (λ (K : List Line). class_number (declarations K) s.members.class) whole
        ∙ class-place H.outer (line_of Method H.header ∷ requires_of [] ∷ below) star-class

    parameter-is : T (is_name (get_or H.header 3 [])) × T (not (reserved (get_or H.header 3 [])))
    unfolding s
    parameter-is =
        parameter-new Γ (seen s (line_of Method H.header)) s H.header H.taken.formed H.taken.known

    -- THE ATOMS

    pub star-good : (α : Access) → Member α (accesses_for Γ variables) → Good Γ variables α
    unfolding variables declarations stage_number
    star-good α i =
        all-good Γ s.members.class (get_or H.header 2 []) (get_or H.header 3 [])
        (fields-known ks first_place first_scope ks items ts (at-beginning refl) 0 (length (classes_of ks)) refl (omega arith))
        (none-int ks first_place first_scope ks items ts) parameter-is.0 parameter-is.1 α i

    pub star-numbers : accesses_of_line Γ items star_method ≡ map (numbered Γ variables) (accesses_for Γ variables)
    unfolding variables star_method s accesses_in
    star-numbers =
        ap (λ (D : MethodDeclaration). accesses_of D.owner D.parameter_type)
        (header_is ks H.outer H.header (requires_of [] ∷ below) whole)
        ∙ ap (λ c. accesses_of c U) (sym class-number)
        ∙ ap₂ (λ f g. fields_of this_variable f ++ fields_of parameter g) (class-fields ks items ts (class_number Γ s.members.class))
        (class-fields ks items ts (class_number Γ U))
        ∙ accesses-numbered Γ s.members.class U (get_or H.header 3 []) parameter-is.0 parameter-is.1
      where
        U : Name
        U = get_or H.header 2 []

        accesses_of : ℕ → Name → List Reading.Access
        accesses_of c T = accesses_in (program items).classes c (class_number Γ T)

    -- THE PROGRAM

    from-header : (φ : Formula ℕ) → items_with φ before after ≡ H.outer-items ++ from_header φ after
    from-header φ =
        ap (λ (is : List Item). is ++ (a_requires φ ∷ after)) H.items
        ∙ append_assoc H.outer-items (a_method ∷ []) (a_requires φ ∷ after)

    method-number : length (with_items no_program 0 H.outer-items).methods ≡ star_method
    unfolding star_method
    method-number = H.methods no_program 0 ∙ omega arith

    after-star : T (eqb (stage_number (place_after Requires (place_after Method H.place)).stage) 3) → ⊥
    unfolding Places.opened Grammar.opened
    after-star t = t

    pub star-program : (φ : Formula ℕ) → program (items_with φ before after) ≡ program_with star_method φ (program items)
    star-program φ =
        ap program (from-header φ)
        ∙ program-with ks _ _ below H.outer-items after H.below-taken after-star φ
        ∙ ap₂ (λ m (is : List Item). program_with m φ (program is)) method-number (sym (from-header []))

    pub star-there : star_method < length (program items).methods
    star-there =
        subst (λ m. m < length (program items).methods) method-number
        (subst (λ (is : List Item). length (with_items no_program 0 H.outer-items).methods < length (program is).methods) (sym (from-header []))
        (method-there ks _ _ below H.outer-items after H.below-taken after-star))
