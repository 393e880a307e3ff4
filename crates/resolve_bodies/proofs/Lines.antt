-- A line that declares nothing, once its item is in the tables: what stands after it.
use mathlib.Core.Path.{◌≡◌, refl, sym, ap, subst, ◌∙◌}
use mathlib.Core.Bool.{Bool, true, false, cond}
use mathlib.Core.List.{List, [], map}
use Prim.Native.Nat.{ℕ, suc, pred, ◌≤◌}
use native.Mathlib.Omega.{arith}
use lib.ListN.{length, get_or}
use borrow.Author.Tests.{ne_eqb}
use Rattle.rules.specs.Limits.{work_bytes}
use Rattle.rules.specs.Syntax.{Field, Stmt}
use Rattle.rules.specs.Grammar as Grammar
use Rattle.rules.specs.Grammar.{Kind, Line, statement, first_statement, is_kind, kind_number}
use Rattle.rules.specs.Scope.{Declarations, Variable, Scope, no_block_scope, classes_after, members_after, block_after, scope_after}
use Rattle.rules.specs.Names.{field_number}
use Rattle.rules.specs.Items.{item_of, a_statement}
use Rattle.tables.specs.Layout.{names_at}
use Rattle.tables.specs.Stores.{Kept}
use Rattle.read_scopes.specs.declared.Names.{Names}
use Rattle.read_scopes.specs.declared.Above.{Above}
use Rattle.tables.specs.Decode.{run}
use Rattle.read_scopes.specs.Meanings.{declarations_in, own_variables, block_in, scope_in}
use Rattle.read_scopes.proofs.Scopes.{names-kept, scope_kept}
use Rattle.rules.specs.Syntax.{Program}
use Rattle.rules.specs.Reading.{with_item}
use Rattle.write_rows.specs.Holds.{Holds}
use Rattle.tables.proofs.Runs.{end-length, last-length}
use Rattle.resolve_pass.specs.declared.Pass.{Pass}
use Rattle.resolve_pass.specs.Passes.{counts, after, above_after, with_block, names_after, item, PassFits, last_class, Stands, Counts, LinePut}
use Rattle.resolve_bodies.specs.Bodies.{ItemPut}
use Rattle.rules.proofs.LineKinds.{kind-is as is-by-number}

-- THE KIND

-- it declares nothing, and is not `main`
pub record Quiet (k : Kind) : Type 0 where
  pub class : is_kind Grammar.Class k ≡ false
  pub field : is_kind Grammar.Field k ≡ false
  pub method : is_kind Grammar.Method k ≡ false
  pub main : is_kind Grammar.Main k ≡ false
  pub var : is_kind Grammar.Var k ≡ false

quiet : (k : Kind) → 4 ≤ kind_number k → (kind_number k ≡ 6 → ⊥) → (kind_number k ≡ 7 → ⊥) → Quiet k
unfolding kind_number
quiet k l m v =
    record {
      class = is-by-number Grammar.Class k ∙ ne_eqb 1 (kind_number k) (λ e. omega (arith, l));
      field = is-by-number Grammar.Field k ∙ ne_eqb 2 (kind_number k) (λ e. omega (arith, l));
      method = is-by-number Grammar.Method k ∙ ne_eqb 3 (kind_number k) (λ e. omega (arith, l));
      main = is-by-number Grammar.Main k ∙ ne_eqb 6 (kind_number k) (λ e. m (sym e));
      var = is-by-number Grammar.Var k ∙ ne_eqb 7 (kind_number k) (λ e. v (sym e));
    }

pub statement-quiet : (k : Kind) → first_statement ≤ kind_number k → Quiet k
statement-quiet k l = quiet k (omega arith) (λ e. omega arith) (λ e. omega arith)

pub header-quiet : (k : Kind) → 4 ≤ kind_number k → kind_number k ≤ 5 → Quiet k
header-quiet k l m = quiet k l (λ e. omega arith) (λ e. omega arith)

module _ (k : Kind) (o : Quiet k) where
  pub above-is : (a : Above) → above_after k a ≡ a
  unfolding above_after
  above-is a = rw (o.class, o.field, o.method)

  pub names-is : (c : Names) → names_after k c ≡ cond (is_kind (statement Grammar.End) k) (with_block false c) c
  unfolding names_after
  names-is c = rw (o.method, o.var)

-- WHAT GROWS: the rows, or the last method
pub record Grown (F G : Program) (n : ℕ) : Type 0 where
  pub classes : G.classes ≡ F.classes
  pub methods : length G.methods ≡ length F.methods
  pub rows : length G.rows ≡ n
  pub main : G.main ≡ F.main

row-grown : (F : Program) (l : ℕ) (s : Stmt) → Grown F (with_item F l (a_statement s)) (suc (length F.rows))
unfolding with_item
row-grown F l s = record { classes = refl; methods = refl; rows = end-length F.rows _; main = refl }

pub statement-grown :
    (Γ : Declarations) (vs : List Variable) (k : Kind) → first_statement ≤ kind_number k → (F : Program) (n : ℕ) (l : Line) →
    Grown F (with_item F n (item_of Γ vs k l)) (suc (length F.rows))
unfolding kind_number item_of
statement-grown Γ vs Grammar.Class e F n l = absurd (omega (arith, e))
statement-grown Γ vs Grammar.Field e F n l = absurd (omega (arith, e))
statement-grown Γ vs Grammar.Method e F n l = absurd (omega (arith, e))
statement-grown Γ vs Grammar.Requires e F n l = absurd (omega (arith, e))
statement-grown Γ vs Grammar.Ensures e F n l = absurd (omega (arith, e))
statement-grown Γ vs Grammar.Main e F n l = absurd (omega (arith, e))
statement-grown Γ vs Grammar.Var e F n l = absurd (omega (arith, e))
statement-grown Γ vs (statement s) e F n l = row-grown F n _

pub requires-grown : (Γ : Declarations) (vs : List Variable) (F : Program) (n : ℕ) (l : Line) → Grown F (with_item F n (item_of Γ vs Grammar.Requires l)) (length F.rows)
unfolding with_item item_of
requires-grown Γ vs F n l = record { classes = refl; methods = last-length _ F.methods; rows = refl; main = refl }

pub ensures-grown : (Γ : Declarations) (vs : List Variable) (F : Program) (n : ℕ) (l : Line) → Grown F (with_item F n (item_of Γ vs Grammar.Ensures l)) (length F.rows)
unfolding with_item item_of
ensures-grown Γ vs F n l = record { classes = refl; methods = last-length _ F.methods; rows = refl; main = refl }

-- WHAT STANDS

-- the block closed, or left
closed : Bool → Scope → Scope
closed e s = record { classes = s.classes; members = s.members; block = cond e no_block_scope s.block }

module _ (t w w' : List ℕ) (p : Pass) (l : Line) (o : Quiet l.kind) (ready : PassFits t w p) (kept : Kept names_at work_bytes w w') where
  abbrev next : Names
  next = names_after l.kind p.names

  same-counts : counts next ≡ counts p.names
  unfolding with_block
  same-counts = ap counts (names-is l.kind o p.names) ∙ go (is_kind (statement Grammar.End) l.kind)
    where
      go : (e : Bool) → counts (cond e (with_block false p.names) p.names) ≡ counts p.names
      go true = refl
      go false = refl

  same-declared : declarations_in t w' next ≡ declarations_in t w p.names
  unfolding with_block declarations_in
  same-declared =
      ap (declarations_in t w') (names-is l.kind o p.names)
      ∙ (go (is_kind (statement Grammar.End) l.kind) ∙ names-kept t w w' p.names ready.names kept)
    where
      go : (e : Bool) → declarations_in t w' (cond e (with_block false p.names) p.names) ≡ declarations_in t w' p.names
      go true = refl
      go false = refl

  scope-is : (s : Scope) → scope_after s l ≡ closed (is_kind (statement Grammar.End) l.kind) s
  unfolding scope_after classes_after members_after block_after closed
  scope-is s = rw (o.class, o.field, o.method, o.var)

  closed_in : (e : Bool) → scope_in t w' (cond e (with_block false p.names) p.names) p.above ≡ closed e (scope_in t w' p.names p.above)
  unfolding scope_in block_in own_variables run with_block closed
  closed_in true = refl
  closed_in false = refl

  same-scope : scope_in t w' next (above_after l.kind p.above) ≡ scope_after (scope_in t w p.names p.above) l
  same-scope =
      (λ j. scope_in t w' (names-is l.kind o p.names j) (above-is l.kind o p.above j))
      ∙ (closed_in (is_kind (statement Grammar.End) l.kind)
      ∙ (ap (closed (is_kind (statement Grammar.End) l.kind)) (scope_kept t w w' p.names ready.names kept p.above ready.above)
      ∙ sym (scope-is (scope_in t w p.names p.above))))

  same-members : (scope_in t w' next (above_after l.kind p.above)).members ≡ (scope_in t w p.names p.above).members
  unfolding closed
  same-members = ap (λ s. s.members) (same-scope ∙ scope-is (scope_in t w p.names p.above))

  module _ (q : Pass) (y : ItemPut t w p l w' q.atoms) (counted : Counts p l.kind q) where
    same_above : q.above ≡ p.above
    same_above = counted.above ∙ above-is l.kind o p.above

    same-main : q.main ≡ p.main
    same-main = counted.main ∙ ap (λ b. cond b p.rows p.main) o.main

    declared-after : declarations_in t w' q.names ≡ declarations_in t w p.names
    declared-after = ap (declarations_in t w') counted.names ∙ same-declared

    scope-after : scope_in t w' q.names q.above ≡ scope_after (scope_in t w p.names p.above) l
    scope-after = (λ j. scope_in t w' (counted.names j) (counted.above j)) ∙ same-scope

    fields-after : (scope_in t w' q.names q.above).members.fields ≡ (scope_in t w p.names p.above).members.fields
    fields-after = ap (λ m. m.fields) ((λ j. (scope_in t w' (counted.names j) (counted.above j)).members) ∙ same-members)

    stands_after :
        (F : Program) → Stands t w p F → Grown F (with_item F (suc p.line) (item t w p l)) q.rows →
        Stands t w' q (with_item F (suc p.line) (item t w p l))
    unfolding last_class
    stands_after F s g =
        let G : Program = with_item F (suc p.line) (item t w p l) in
        record {
          holds = subst (λ d. Holds d w' G q.atoms) (sym (ap counts counted.names ∙ same-counts)) (y.built F s);
          rows = g.rows;
          classes = ap length g.classes ∙ (s.classes ∙ ap (λ a. a.classes) (sym same_above));
          methods = g.methods ∙ (s.methods ∙ ap (λ a. after a.methods) (sym same_above));
          main = g.main ∙ (s.main ∙ sym same-main);
          fields =
              ap (λ cs. map (λ (f : Field). f.name) (get_or cs (pred (length cs)) [])) g.classes
              ∙ (s.fields ∙ sym (λ j. map (field_number (declared-after j)) (fields-after j)));
        }

    pub line-put :
        ((F : Program) → Stands t w p F → Grown F (with_item F (suc p.line) (item t w p l)) q.rows) → LinePut t w p l w' q
    line-put grown =
        record {
          counted = counted;
          built = λ F s. stands_after F s (grown F s);
          formula = y.formula;
          declared = declared-after;
          scope = scope-after;
          lines = λ i a b. kept i (omega (arith, a)) b;
          size = y.size;
        }
