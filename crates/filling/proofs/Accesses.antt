-- The atoms that may stand for the star, by their names and by their numbers: the same, in one order, and each passes 6, 7 and 9.
use mathlib.Core.Path.{◌≡◌, refl, sym, ap, ap₂, subst, ◌∙◌}
use mathlib.Core.Bool.{Bool, true, false, cond, not}
use mathlib.Core.List.{List, [], ◌∷◌, ◌++◌, map, map-append, append-nil}
use mathlib.Core.Logic.{⊎_elim}
use mathlib.Core.Option.{none, some}
use Prim.Native.Nat.{ℕ, zero, suc, pred, ◌≤◌, ◌<◌}
use native.Mathlib.Omega.{arith}
use lib.Dec.{T, T_not, not_T, eqb, eqb→eq}
use lib.ListN.{length, get_or}
use Rattle.rules.specs.Base.{Name, Member, bytes, is, eq_name, any, keep, index, with_default}
use Rattle.rules.specs.Base as Base
use Rattle.rules.specs.Syntax.{this_variable, parameter, own, acc}
use Rattle.rules.specs.Text.{is_name, reserved}
use Rattle.rules.specs.Text as Text
use Rattle.rules.specs.Scope.{Declarations, FieldDeclaration, Variable}
use Rattle.rules.specs.Names.{missing_variable, class_number, is_field_of, field_number, in_scope, look_up, variable_number, variable_type, is_int, known_field}
use Rattle.rules.specs.Reading as Reading
use Rattle.rules.specs.Fill.{Access, accesses_of, accesses_for, no_access, at_places}
use Rattle.rules.proofs.Lists.{F-false, T_true, and_intro, or_left, or_right, append-member, keep-member, map-member, any-in, name-same, same_name}
use Rattle.filling.specs.Sets.{fields_of, formula_of}
use Rattle.filling.specs.Sets as Sets
use Rattle.filling.proofs.Listed.{All, of-every, member-at, index-none}
use Rattle.filling.proofs.Classes.{FieldKnown}
use Rattle.filling.proofs.Fields.{numbered_field, fields_in}
use Rattle.filling.proofs.Resolved.{Good, atom_of}

-- THE VARIABLES: `this` of class C, and w

abbrev pub this_of : Name → Variable
this_of C = record { name = bytes "this"; number = this_variable; type = C }

abbrev pub parameter_of : Name → Name → Variable
parameter_of U w = record { name = w; number = parameter; type = U }

abbrev pub both_of : Name → Name → Name → List Variable
both_of C U w = this_of C ∷ parameter_of U w ∷ []

-- a variable that is found by its name
record Found (vs : List Variable) (v : Variable) : Type 0 where
  named : T (is_name v.name)
  there : T (in_scope vs v.name)
  found : look_up vs v.name ≡ v

this-found : (C U w : Name) → Found (both_of C U w) (this_of C)
unfolding in_scope look_up Base.opened Text.opened
this-found C U w = record { named = tt; there = tt; found = refl }

parameter-found : (C U w : Name) → T (is_name w) → T (not (reserved w)) → Found (both_of C U w) (parameter_of U w)
unfolding in_scope look_up any Base.first with_default reserved is
parameter-found C U w n r =
    record {
      named = n;
      there = or_right (eq_name (bytes "this") w) _ (or_left (eq_name w w) _ (name-same w));
      found = go (eq_name (bytes "this") w) (eq_name w w) other (T_true (eq_name w w) (name-same w));
    }
  where
    other : eq_name (bytes "this") w ≡ false
    other =
        F-false (eq_name (bytes "this") w)
        (λ t. T_not (reserved w) r (or_right (is "int" w) _ (or_right (is "null" w) _ (or_left (is "this" w) _ t))))

    go :
        (b c : Bool) → b ≡ false → c ≡ true →
        with_default missing_variable (cond b (some (this_of C)) (cond c (some (parameter_of U w)) none)) ≡ parameter_of U w
    go b c i j = rw (i, j)

-- EACH PASSES, where the classes and the fields are those of a text
module _
    (Γ : Declarations) (vs : List Variable) (fields : All (FieldKnown (length Γ.classes)) Γ.fields)
    (no-int : T (any (eq_name (bytes "int")) Γ.classes) → ⊥)
  where
    -- int has no field
    owner-no-int : (C : Name) (d : FieldDeclaration) → FieldKnown (length Γ.classes) d → d.owner ≡ class_number Γ C → T (is "int" C) → ⊥
    unfolding class_number is
    owner-no-int C d F e t =
        let c : class_number Γ C ≡ length Γ.classes =
        ap (λ (C : Name). index (eq_name C) Γ.classes) (sym (same_name (bytes "int") C t))
        ∙ index-none (eq_name (bytes "int")) Γ.classes no-int in
        omega (arith, F.owned, e, c)

    access-good :
        (v : Variable) (d : FieldDeclaration) → Found vs v → Member d Γ.fields → T (eqb d.owner (class_number Γ v.type)) →
        Good Γ vs (record { variable = v.name; field = d.name })
    unfolding known_field is_int variable_type is_field_of
    access-good v d G i o =
        let F : FieldKnown (length Γ.classes) d = of-every (FieldKnown (length Γ.classes)) Γ.fields fields d i in
        let t : (look_up vs v.name).type ≡ v.type = ap (λ (u : Variable). u.type) G.found in
        let own : T (any (is_field_of Γ v.type d.name) Γ.fields) =
        any-in (is_field_of Γ v.type d.name) Γ.fields d i (and_intro (eqb d.owner (class_number Γ v.type)) _ o (name-same d.name)) in
        record {
          named = record { variable = G.named; field = F.named };
          in-scope = G.there;
          known =
              and_intro (not (reserved d.name)) _ F.free
              (or_right (is_int vs v.name) _ (subst (λ (C : Name). T (any (is_field_of Γ C d.name) Γ.fields)) (sym t) own));
          of-class =
              not_T (is_int vs v.name)
              (λ h. owner-no-int v.type d F (eqb→eq d.owner _ o) (subst (λ (C : Name). T (is "int" C)) t h));
        }

    accesses-good : (v : Variable) → Found vs v → (α : Access) → Member α (accesses_of Γ v) → Good Γ vs α
    unfolding accesses_of
    accesses-good v G α i =
        let (d, j, e) = map-member _ (keep (λ d. eqb d.owner (class_number Γ v.type)) Γ.fields) α i in
        let (k, o) = keep-member _ Γ.fields d j in
        subst (Good Γ vs) (sym e) (access-good v d G k o)

pub all-good :
    (Γ : Declarations) (C U w : Name) → All (FieldKnown (length Γ.classes)) Γ.fields →
    (T (any (eq_name (bytes "int")) Γ.classes) → ⊥) → T (is_name w) → T (not (reserved w)) → (α : Access) →
    Member α (accesses_for Γ (both_of C U w)) → Good Γ (both_of C U w) α
unfolding accesses_for
all-good Γ C U w fields no-int n r α i =
    let vs : List Variable = both_of C U w in
    ⊎_elim (λ j. accesses-good Γ vs fields no-int (this_of C) (this-found C U w) α j)
    (λ j.
    accesses-good Γ vs fields no-int (parameter_of U w) (parameter-found C U w n r) α
    (subst (Member α) (append-nil (accesses_of Γ (parameter_of U w))) j))
    (append-member (accesses_of Γ (this_of C)) _ α i)

-- THE SAME BY NUMBERS

abbrev pub numbered : Declarations → List Variable → Access → Reading.Access
numbered Γ vs α = record { variable = variable_number vs α.variable; field = field_number Γ α.field }

fields-numbered :
    (Γ : Declarations) (vs : List Variable) (v : Variable) → Found vs v → (ds : List FieldDeclaration) →
    fields_of v.number (map (numbered_field Γ) ds)
    ≡ map (numbered Γ vs) (map (λ (d : FieldDeclaration). record { variable = v.name; field = d.name }) ds)
unfolding fields_of variable_number
fields-numbered Γ vs v G [] = refl
fields-numbered Γ vs v G (d ∷ ds) =
    ap₂ ◌∷◌ (ap (λ (u : Variable). record { variable = u.number; field = field_number Γ d.name }) (sym G.found))
    (fields-numbered Γ vs v G ds)

variable-numbered :
    (Γ : Declarations) (vs : List Variable) (v : Variable) → Found vs v →
    fields_of v.number (fields_in Γ (class_number Γ v.type) Γ.fields) ≡ map (numbered Γ vs) (accesses_of Γ v)
unfolding accesses_of
variable-numbered Γ vs v G = fields-numbered Γ vs v G (keep (λ d. eqb d.owner (class_number Γ v.type)) Γ.fields)

pub accesses-numbered :
    (Γ : Declarations) (C U w : Name) → T (is_name w) → T (not (reserved w)) →
    fields_of this_variable (fields_in Γ (class_number Γ C) Γ.fields) ++ fields_of parameter (fields_in Γ (class_number Γ U) Γ.fields)
    ≡ map (numbered Γ (both_of C U w)) (accesses_for Γ (both_of C U w))
unfolding accesses_for
accesses-numbered Γ C U w n r =
    let vs : List Variable = both_of C U w in
    let f : Access → Reading.Access = numbered Γ vs in
    ap₂ ◌++◌ (variable-numbered Γ vs (this_of C) (this-found C U w)) (variable-numbered Γ vs (parameter_of U w) (parameter-found C U w n r))
    ∙ ap (λ r. map f (accesses_of Γ (this_of C)) ++ map f r) (sym (append-nil (accesses_of Γ (parameter_of U w))))
    ∙ sym (map-append f (accesses_of Γ (this_of C)) (accesses_of Γ (parameter_of U w) ++ []))

-- A SET: places within them

abbrev pub Within : ℕ → ℕ → Type 0
Within n p = (1 ≤ p) × (p ≤ n)

mapped_at : {A B : Type 0} (f : A → B) (l : List A) (i : ℕ) (a : A) (b : B) → i < length l → get_or (map f l) i b ≡ f (get_or l i a)
mapped_at f [] i a b h = absurd (omega arith)
mapped_at f (x ∷ l) zero a b h = refl
mapped_at f (x ∷ l) (suc i) a b h = mapped_at f l i a b (omega arith)

pub formula-numbered :
    (Γ : Declarations) (vs : List Variable) (αs : List Access) (ps : List ℕ) → All (Within (length αs)) ps →
    formula_of (map (numbered Γ vs) αs) ps ≡ map (atom_of Γ vs) (at_places αs ps)
unfolding formula_of at_places
formula-numbered Γ vs αs [] h = refl
formula-numbered Γ vs αs (p ∷ ps) ((a, b), h) =
    ap₂ ◌∷◌
    (ap (λ (α : Reading.Access). own acc α.variable α.field)
    (mapped_at (numbered Γ vs) αs (pred p) no_access Sets.no_access (omega arith)))
    (formula-numbered Γ vs αs ps h)

-- a property of each of them
pub at-places : (Q : Access → Type 0) (αs : List Access) (ps : List ℕ) → ((α : Access) → Member α αs → Q α) → All (Within (length αs)) ps → All Q (at_places αs ps)
unfolding at_places
at-places Q αs [] g h = tt
at-places Q αs (p ∷ ps) g ((a, b), h) = (g _ (member-at αs (pred p) no_access (omega arith)), at-places Q αs ps g h)

pub places-length : (αs : List Access) (ps : List ℕ) → length (at_places αs ps) ≡ length ps
unfolding at_places
places-length αs [] = refl
places-length αs (p ∷ ps) = ap suc (places-length αs ps)
