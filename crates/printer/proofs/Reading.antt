-- A text that is read: pass 1 takes it, and main's variables are the locals of its last block by its lines.
use mathlib.Core.Path.{◌≡◌, refl, sym, ap, subst, ◌∙◌}
use mathlib.Core.Bool.{Bool, true, false, cond}
use mathlib.Core.List.{List, [], ◌∷◌}
use Prim.Native.Nat.{ℕ, suc}
use lib.Dec.{ltb}
use lib.ListN.{length}
use Rattle.rules.specs.Base.{Name}
use Rattle.rules.specs.Limits.{most_bytes}
use Rattle.rules.specs.Answers.{accepted, refused, then, text_too_long, undeclared, wrong_type, wrong_target}
use Rattle.rules.specs.Text.{lines}
use Rattle.rules.specs.Grammar.{Kind, Line, kind_number, is_statement, is_kind}
use Rattle.rules.specs.Grammar.{Class, Field, Method, Requires, Ensures, Main, Var, statement}
use Rattle.rules.specs.Places.{first_place, scan_lines}
use Rattle.rules.specs.Scope.{Declarations, Variable, Scope, declarations, first_scope, scope_after, visible}
use Rattle.rules.specs.Names.{all_known, all_typed, all_assignable}
use Rattle.rules.specs.Items.{Item, item_of, resolve_line, resolve_lines}
use Rattle.rules.specs.Reading.{read_text}
use Rattle.rules.specs.Printed.{locals_after, last_locals, main_variables}
use Rattle.rules.proofs.Tries.{ok-inj, check-ok, refused-accepted, accepted-inj, at_line-accepted, then-accepted}
use Rattle.read_scan.proofs.Scans.{lines-taken}
use Rattle.read_declarations.specs.Texts.{lines_of, TextTaken}
use Rattle.read_declarations.specs.Declares.{line_with}
use Rattle.printer.specs.Variables.{locals_by, locals}

-- what it takes for a text to be read
pub record Read (t : List ℕ) (items : List Item) : Type 0 where
  pub taken : TextTaken t
  pub resolved : resolve_lines (declarations (lines_of t)) (lines_of t) 0 first_scope ≡ accepted items

pub read-parts : (t : List ℕ) (items : List Item) → read_text t ≡ accepted items → Read t items
unfolding read_text lines_of
read-parts t items e = go (ltb most_bytes (length t)) e
  where
    go :
        (b : Bool) →
        cond b (refused text_too_long 0)
        (then (scan_lines (lines t) 0 first_place) λ ls. resolve_lines (declarations ls) ls 0 first_scope)
        ≡ accepted items →
        Read t items
    go true e = refused-accepted e
    go false e =
        let (ls, i, j) = then-accepted (scan_lines (lines t) 0 first_place) _ items e in
        let m : ls ≡ lines_of t = lines-taken (lines t) 0 first_place ls i in
        record {
          taken = i ∙ ap accepted m;
          resolved = subst (λ ks. resolve_lines (declarations ks) ks 0 first_scope ≡ accepted items) m j;
        }

-- the locals after an item are those after its line
item-locals :
    (Γ : Declarations) (vs : List Variable) (xs : List Name) (k : Kind) (ws : List Name) →
    locals_after xs (item_of Γ vs k (line_with k ws)) ≡ locals_by xs (line_with k ws)
unfolding locals_after item_of locals_by is_kind is_statement kind_number
item-locals Γ vs xs Class ws = refl
item-locals Γ vs xs Field ws = refl
item-locals Γ vs xs Method ws = refl
item-locals Γ vs xs Requires ws = refl
item-locals Γ vs xs Ensures ws = refl
item-locals Γ vs xs Main ws = refl
item-locals Γ vs xs Var ws = refl
item-locals Γ vs xs (statement a) ws = refl

resolved-locals :
    (Γ : Declarations) (ls : List Line) (n : ℕ) (s : Scope) (items : List Item) (xs : List Name) →
    resolve_lines Γ ls n s ≡ accepted items → last_locals xs items ≡ locals xs ls
unfolding resolve_lines resolve_line last_locals locals
resolved-locals Γ [] n s items xs e = ap (last_locals xs) (sym (accepted-inj e))
resolved-locals Γ (l ∷ ls) n s items xs e =
    let (a, i, e₁) = at_line-accepted (suc n) (resolve_line Γ s l) _ items e in
    let (rest, j, e₂) = then-accepted (resolve_lines Γ ls (suc n) (scope_after s l)) _ items e₁ in
    let (_, i₁) = check-ok (all_known Γ (visible s.block l.kind) s l) undeclared i in
    let (_, i₂) = check-ok (all_typed Γ (visible s.block l.kind) l) wrong_type i₁ in
    let (_, i₃) = check-ok (all_assignable (visible s.block l.kind) l) wrong_target i₂ in
    ap (last_locals xs) (sym (accepted-inj e₂))
    ∙ (ap (λ b. last_locals (locals_after xs b) rest) (sym (ok-inj i₃))
    ∙ (ap (λ ys. last_locals ys rest) (item-locals Γ _ xs l.kind l.fields)
    ∙ resolved-locals Γ ls (suc n) (scope_after s l) rest (locals_by xs l) j))

pub main-locals : (t : List ℕ) (items : List Item) → read_text t ≡ accepted items → main_variables (read_text t) ≡ locals [] (lines_of t)
unfolding main_variables
main-locals t items e =
    ap main_variables e ∙ resolved-locals (declarations (lines_of t)) (lines_of t) 0 first_scope items [] (read-parts t items e).resolved
