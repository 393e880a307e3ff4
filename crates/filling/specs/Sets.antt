-- A requires line to be filled in, by the program that the text is read as: atoms by their numbers, and the first set that is accepted.
use Rattle.std.specs.Prelude.{Bool, cond, List, [], ◌∷◌, ◌++◌, map, ℕ, zero, suc, pred, length, get_or, take}
use Rattle.std.proofs.Math.Option.{Option, none}
use Rattle.rules.specs.Base.{first, keep}
use Rattle.rules.specs.Syntax.{Formula, Field, Method, Program, own, acc, this_variable, parameter}
use Rattle.rules.specs.Grammar.{Line, is_kind}
use Rattle.rules.specs.Grammar as Grammar
use Rattle.rules.specs.Scope.{Declarations, MethodDeclaration}
use Rattle.rules.specs.Names.{no_declaration, class_number}
use Rattle.rules.specs.Items.{Item}
use Rattle.rules.specs.Reading.{Access, with_requires, check_framed, program}
use Rattle.rules.specs.Rules.{check_program}
use Rattle.rules.specs.Fill.{sets_of}
use Rattle.rules.specs.Calls.{is_accepted}

-- THE STAR'S METHOD

unfoldable pub is_header : Line → Bool
is_header k = is_kind Grammar.Method k.kind

-- the method that line l is in: the last whose header stands above it
abbrev pub method_of_line : List Line → ℕ → ℕ
method_of_line ks l = pred (length (keep is_header (take l ks)))

abbrev pub header_of : Declarations → ℕ → MethodDeclaration
header_of Γ m = get_or Γ.methods m no_declaration

-- THE ATOMS by numbers: the fields of `this`, of class c, and then those of w, of class d; no class has the number of an int

unfoldable pub fields_of : ℕ → List Field → List Access
fields_of x fs = map (λ f. record { variable = x; field = f.name }) fs

unfoldable pub accesses_in : List (List Field) → ℕ → ℕ → List Access
accesses_in cs c d = fields_of this_variable (get_or cs c []) ++ fields_of parameter (get_or cs d [])

abbrev pub no_access : Access
no_access = record { variable = 0; field = 0 }

unfoldable pub formula_of : List Access → List ℕ → Formula ℕ
formula_of αs ps = map (λ p. own acc (get_or αs (pred p) no_access).variable (get_or αs (pred p) no_access).field) ps

-- THE PROGRAM with a set

unfoldable pub methods_with : ℕ → Formula ℕ → List Method → List Method
methods_with m φ [] = []
methods_with zero φ (M ∷ Ms) = with_requires φ M ∷ Ms
methods_with (suc m) φ (M ∷ Ms) = M ∷ methods_with m φ Ms

-- with this requires of the method m
unfoldable pub program_with : ℕ → Formula ℕ → Program → Program
program_with m φ P = record { classes = P.classes; methods = methods_with m φ P.methods; rows = P.rows; main = P.main }

-- THE SEARCH

unfoldable pub is_accepted_with : Program → ℕ → List Access → List ℕ → Bool
is_accepted_with P m αs ps = is_accepted (check_program (program_with m (formula_of αs ps) P))

unfoldable pub set_in : Program → ℕ → List Access → Option (List ℕ)
set_in P m αs = first (is_accepted_with P m αs) (sets_of (length αs))

-- of the items of a text: number 10 does not depend on the set
unfoldable pub set_for : List Item → ℕ → List Access → Option (List ℕ)
set_for items m αs = cond (is_accepted (check_framed items 0)) (set_in (program items) m αs) none

-- of the text with these lines, whose star is at line l
abbrev pub accesses_of_line : Declarations → List Item → ℕ → List Access
accesses_of_line Γ items m =
    accesses_in (program items).classes (header_of Γ m).owner (class_number Γ (header_of Γ m).parameter_type)
