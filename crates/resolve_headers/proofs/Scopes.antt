-- What the lines above declare, with one line more.
use mathlib.Core.Path.{◌≡◌, ap, ◌∙◌}
use mathlib.Core.Bool.{false, cond}
use mathlib.Core.List.{List, [], ◌∷◌, ◌++◌}
use Prim.Native.Nat.{ℕ, ◌+◌, ◌-◌}
use native.Mathlib.Omega.{arith}
use lib.Dec.{eqb}
use lib.ListN.{get_or}
use borrow.Author.Tests.{ne_eqb}
use Rattle.rules.specs.Base.{Name}
use Rattle.rules.specs.Grammar as Grammar
use Rattle.rules.specs.Grammar.{Class, Field, Method}
use Rattle.rules.specs.Scope as Scope
use Rattle.rules.specs.Scope.{BlockScope, scope_after}
use Rattle.tables.specs.Stores.{Kept}
use Rattle.read_scopes.specs.declared.Names.{Names}
use Rattle.read_scopes.specs.declared.Above.{Above}
use Rattle.tables.specs.Decode.{run}
use Rattle.read_names.specs.Rows.{Entry, row_place, entry_at, classes_first, fields_first, methods_first, variables_first}
use Rattle.read_scopes.specs.Meanings.{AboveFits, names_from, block_in, class_above, scope_in}
use Rattle.read_names.proofs.Puts.{entry_kept, range-kept}
use Rattle.read_scopes.proofs.Scopes.{names_more}
use Rattle.read_declarations.specs.Declares.{line_with}
use Rattle.resolve_pass.specs.Passes.{one_more, next_range, above_after}

name_of : Entry → Name
name_of e = e.name

-- a store in rows of variables leaves all but the block
pub block-alone :
    (t w w' : List ℕ) (c d : Names) (a : Above) → AboveFits a → Kept (row_place classes_first) (row_place variables_first) w w' →
    scope_in t w' d a
    ≡ record { classes = (scope_in t w c a).classes; members = (scope_in t w c a).members; block = block_in t w' d }
unfolding scope_in names_from class_above name_of
block-alone t w w' c d a g k =
    let classes = range-kept name_of t w w' classes_first a.classes (λ j p q. k j (omega arith) (omega (arith, g.classes))) in
    let last = entry_kept t w w' (classes_first + (a.classes - 1)) (λ j p q. k j (omega arith) (omega (arith, g.classes))) in
    let fields =
    range-kept name_of t w w' (fields_first + a.fields.first) a.fields.count
    (λ j p q. k j (omega arith) (omega (arith, g.fields))) in
    let methods =
    range-kept name_of t w w' (methods_first + a.methods.first) a.methods.count
    (λ j p q. k j (omega arith) (omega (arith, g.methods))) in
    λ j. record {
      classes = classes j;
      members =
          record { class = cond (eqb a.classes 0) [] (last j).name; fields = fields j; methods = methods j };
      block = block_in t w' d;
    }

module _ (t w : List ℕ) (c : Names) (a : Above) (ws : List Name) where
  pub class-scope :
      (entry_at t w (classes_first + a.classes)).name ≡ get_or ws 0 [] →
      scope_in t w c (above_after Class a) ≡ scope_after (scope_in t w c a) (line_with Class ws)
  unfolding scope_in above_after next_range class_above names_from run Scope.opened Grammar.opened
  class-scope e =
      let n : a.classes + 1 - 1 ≡ a.classes = omega arith in
      let z : eqb (a.classes + 1) 0 ≡ false = ne_eqb (a.classes + 1) 0 (λ z. omega arith) in
      let last : class_above t w (above_after Class a) ≡ get_or ws 0 [] = rw (z, n) e in
      let classes = names_more t w classes_first a.classes ∙ ap (λ x. names_from t w classes_first a.classes ++ (x ∷ [])) e in
      λ j. record { classes = classes j; members = record { class = last j; fields = []; methods = [] }; block = block_in t w c }

  pub field-scope :
      (entry_at t w (fields_first + (a.fields.first + a.fields.count))).name ≡ get_or ws 1 [] →
      scope_in t w c (above_after Field a) ≡ scope_after (scope_in t w c a) (line_with Field ws)
  unfolding scope_in above_after one_more class_above Scope.opened Grammar.opened
  field-scope e =
      let i : fields_first + a.fields.first + a.fields.count ≡ fields_first + (a.fields.first + a.fields.count) = omega arith in
      let fields =
      names_more t w (fields_first + a.fields.first) a.fields.count
      ∙ ap (λ x. names_from t w (fields_first + a.fields.first) a.fields.count ++ (x ∷ [])) (ap (λ k. (entry_at t w k).name) i ∙ e) in
      λ j. record {
        classes = (scope_in t w c a).classes;
        members = record { class = class_above t w a; fields = fields j; methods = (scope_in t w c a).members.methods };
        block = block_in t w c;
      }

  -- the block is that of the method
  pub method-scope :
      (entry_at t w (methods_first + (a.methods.first + a.methods.count))).name ≡ get_or ws 1 [] → (b : BlockScope) →
      b ≡ Scope.method_block (class_above t w a) (get_or ws 0 []) (get_or ws 2 []) (get_or ws 3 []) →
      record { classes = (scope_in t w c (above_after Method a)).classes; members = (scope_in t w c (above_after Method a)).members; block = b }
      ≡ scope_after (scope_in t w c a) (line_with Method ws)
  unfolding scope_in above_after one_more class_above Scope.opened Grammar.opened
  method-scope e b f =
      let i : methods_first + a.methods.first + a.methods.count ≡ methods_first + (a.methods.first + a.methods.count) = omega arith in
      let methods =
      names_more t w (methods_first + a.methods.first) a.methods.count
      ∙ ap (λ x. names_from t w (methods_first + a.methods.first) a.methods.count ++ (x ∷ [])) (ap (λ k. (entry_at t w k).name) i ∙ e) in
      λ j. record {
        classes = (scope_in t w c a).classes;
        members = record { class = class_above t w a; fields = (scope_in t w c a).members.fields; methods = methods j };
        block = f j;
      }
