-- What a text is read as: numbers 2 to 9 in the order told; number 10; the program.
use Rattle.std.specs.Prelude.{Bool, true, cond, ◌&&◌, List, [], ◌∷◌, ◌++◌, ℕ, suc, eqb, ltb, length}
use Rattle.rules.specs.Base.{Name, any}
use Rattle.rules.specs.Limits.{most_bytes}
use Rattle.rules.specs.Answers.{Verdict, accepted, refused, then, text_too_long, unframed}
use Rattle.rules.specs.Syntax.{Expr, Formula, Stmt, Method, Program}
use Rattle.rules.specs.Syntax.{num, null, var, path, is_path, own, cmp, simple, return, if, else, join, loop, again, end}
use Rattle.rules.specs.Text.{lines}
use Rattle.rules.specs.Places.{first_place, scan_lines}
use Rattle.rules.specs.Scope.{declarations, first_scope}
use Rattle.rules.specs.Items.{Item, resolve_lines}
use Rattle.rules.specs.Items.{a_class, a_field, a_method, a_requires, an_ensures, a_main, a_local, a_statement}

-- "then line by line 3, 4, 5; then 8; then line by line 6, 7, 9": an item for each line
abbrev pub read_lines : List Name → Verdict (List Item)
read_lines ls = then (scan_lines ls 0 first_place) λ ks. resolve_lines (declarations ks) ks 0 first_scope

-- "2" comes first
unfoldable pub read_text : List ℕ → Verdict (List Item)
read_text t =
    let read : Verdict (List Item) = read_lines (lines t) in cond (ltb most_bytes (length t)) (refused text_too_long 0) read

-- NUMBER 10

-- the `x.f` of an `acc x f`
pub record Access : Type 0 where
  pub variable : ℕ
  pub field : ℕ

unfoldable pub framed_expr : List Access → Expr ℕ → Bool
framed_expr before (num n) = true
framed_expr before null = true
framed_expr before (var x) = true
framed_expr before (path x f) = any (λ a. eqb a.variable x && eqb a.field f) before

-- "requires, ensures or join reads `x.f` with no `acc x f` before it in the line"; W8: "`read x f` serves as `acc x f` does"; `chain x f`
-- does not, since a chain is no listed path
unfoldable pub framed : List Access → Formula ℕ → Bool
framed before [] = true
framed before (own k x f ∷ φ) = framed (cond (is_path k) (record { variable = x; field = f } ∷ before) before) φ
framed before (cmp n a b ∷ φ) = let r : Bool = framed before φ in framed_expr before a && (framed_expr before b && r)

-- of a loop, "The invariant, and the condition after it, read only paths that the invariant holds; number 10 covers this line."
unfoldable pub framed_stmt : Stmt → Bool
framed_stmt (simple p) = true
framed_stmt (return x) = true
framed_stmt (if n a b) = true
framed_stmt else = true
framed_stmt (join φ) = framed [] φ
framed_stmt (loop n a b φ) = framed [] (φ ++ (cmp n a b ∷ []))
framed_stmt again = true
framed_stmt end = true

unfoldable pub framed_item : Item → Bool
framed_item a_class = true
framed_item (a_field f) = true
framed_item a_method = true
framed_item (a_requires φ) = framed [] φ
framed_item (an_ensures φ) = framed [] φ
framed_item a_main = true
framed_item (a_local x) = true
framed_item (a_statement s) = framed_stmt s

unfoldable pub check_framed : List Item → ℕ → Verdict (Unit {0})
check_framed [] n = accepted tt
check_framed (a ∷ items) n =
    let r : Verdict (Unit {0}) = check_framed items (suc n) in cond (framed_item a) r (refused unframed (suc n))

-- THE PROGRAM, put together line by line

abbrev pub no_program : Program
no_program = record { classes = []; methods = []; rows = []; main = 0 }

-- the list with its last element changed
unfoldable pub on_last : {A : Type 0} → (A → A) → List A → List A
on_last f [] = []
on_last f (a ∷ []) = f a ∷ []
on_last f (a ∷ b ∷ l) = a ∷ on_last f (b ∷ l)

unfoldable pub with_requires : Formula ℕ → Method → Method
with_requires φ M = record { requires = φ; ensures = M.ensures; first = M.first }

unfoldable pub with_ensures : Formula ℕ → Method → Method
with_ensures φ M = record { requires = M.requires; ensures = φ; first = M.first }

-- with the item of line l
unfoldable pub with_item : Program → ℕ → Item → Program
with_item P l a_class = record { classes = P.classes ++ ([] ∷ []); methods = P.methods; rows = P.rows; main = P.main }
with_item P l (a_field f) =
    record { classes = on_last (λ fs. fs ++ (f ∷ [])) P.classes; methods = P.methods; rows = P.rows; main = P.main }
with_item P l a_method =
    record {
      classes = P.classes;
      methods = P.methods ++ (record { requires = []; ensures = []; first = length P.rows } ∷ []);
      rows = P.rows;
      main = P.main;
    }
with_item P l (a_requires φ) =
    record { classes = P.classes; methods = on_last (with_requires φ) P.methods; rows = P.rows; main = P.main }
with_item P l (an_ensures φ) =
    record { classes = P.classes; methods = on_last (with_ensures φ) P.methods; rows = P.rows; main = P.main }
with_item P l a_main = record { classes = P.classes; methods = P.methods; rows = P.rows; main = length P.rows }
with_item P l (a_local x) = P
with_item P l (a_statement s) =
    record { classes = P.classes; methods = P.methods; rows = P.rows ++ (record { line = l; stmt = s } ∷ []); main = P.main }

-- with the items after n lines
unfoldable pub with_items : Program → ℕ → List Item → Program
with_items P n [] = P
with_items P n (a ∷ items) = with_items (with_item P (suc n) a) (suc n) items

unfoldable pub program : List Item → Program
program items = with_items no_program 0 items

-- Everything above computes where this unfolds.
unfoldable pub opened : Unit {0}
unfolding read_text framed_expr framed framed_stmt framed_item check_framed on_last with_requires with_ensures with_item with_items program
opened = tt
