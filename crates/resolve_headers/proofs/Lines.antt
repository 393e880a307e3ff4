-- Each line in the tables.
use mathlib.Core.Path.{◌≡◌, refl, sym, ap, subst, ◌∙◌}
use mathlib.Core.Bool.{Bool, true, false, not, cond, ◌&&◌}
use mathlib.Core.List.{List, [], ◌∷◌, ◌++◌, map}
use mathlib.Core.Logic.{inl, inr}
use Prim.Native.Nat.{ℕ, suc, pred, ◌+◌, ◌-◌, ◌<◌}
use native.Mathlib.Omega.{arith}
use native.Mathlib.Nat.{zero-add}
use lib.Dec.{eqb}
use lib.ListN.{length, get_or}
use borrow.Author.Tests.{not-true, ne_eqb, eqb-true}
use Rattle.rules.specs.Base.{Name, is, any, eq_name}
use Rattle.rules.specs.Limits.{most_classes, most_fields, most_methods, work_bytes}
use Rattle.rules.specs.Syntax as Syntax
use Rattle.rules.specs.Text.{is_name, reserved}
use Rattle.rules.specs.Grammar as Grammar
use Rattle.rules.specs.Grammar.{Kind, Line, Class, Field, Method, Main, Var, kind_number, is_kind, is_statement}
use Rattle.rules.specs.Scope as Scope
use Rattle.rules.specs.Scope.{scope_after}
use Rattle.rules.specs.Names.{field_number}
use Rattle.rules.specs.Items.{item_of, resolve_field}
use Rattle.rules.specs.Places.{one_more_if}
use Rattle.read_bytes.proofs.Search.{both_true, true-false}
use Rattle.read_grammar.specs.Rows.{kind_numbered}
use Rattle.read_grammar.proofs.Rows.{kind-of-number}
use Rattle.tables.specs.Layout.{most_names, lines_at}
use Rattle.tables.specs.Decode.{field_count_at}
use Rattle.tables.specs.Stores.{Kept}
use Rattle.read_names.specs.declared.Span.{Span}
use Rattle.read_names.specs.declared.Row.{Row}
use Rattle.read_scopes.specs.declared.Names.{Names}
use Rattle.read_names.specs.Rows.{name_in, entry_at, entry_of, SpanFits, name_at, classes_first, fields_first, row_place, variables_first, put_row}
use Rattle.read_scopes.specs.Meanings.{NamesFit, AboveFits, names_from, declarations_in, class_above, scope_in, block_in, more_locals, variable_row, put_block}
use Rattle.read_lookups.specs.LookUps.{is_new}
use Rattle.tables.proofs.Runs.{run_length}
use Rattle.read_names.proofs.Puts.{row-length, row_other, row-tables}
use Rattle.read_scopes.proofs.Scopes.{names-kept, scope_kept, block-put, block-declarations, block-tables, local-put, variable-row}
use Rattle.read_declarations.specs.Declares.{line_with, MethodRow, method_entry}
use Rattle.rules.specs.Syntax.{Program}
use Rattle.rules.specs.Reading.{with_item, on_last}
use Rattle.write_rows.specs.Puts.{put_class, put_field, put_method}
use Rattle.write_rows.specs.Holds.{Holds}
use Rattle.write_rows.proofs.Kept.{holds_same}
use Rattle.tables.proofs.Runs.{end-length, last-length}
use Rattle.write_rows.proofs.Classes.{class-written, class-names, class-length, class-count, field-written, field-names, field-length}
use Rattle.write_rows.proofs.Methods.{method-written, method-names, method-length}
use Rattle.write_rows.proofs.Header.{main-written, local-written}
use Rattle.resolve_pass.specs.declared.Pass.{Pass}
use Rattle.resolve_pass.specs.Passes.{counts, after, one_more, next_range, above_after, with_block, names_after, is_framed, PassFits, last_class, Stands, LineRoom, item}
use Rattle.resolve_headers.specs.Headers.{is_declaration, moved, Held, DeclarationPut}
use Rattle.resolve_headers.proofs.Scopes.{block-alone, class-scope, field-scope, method-scope}
use Rattle.resolve_headers.proofs.Fields.{last_of, last-changed, name-declared, number-new}

-- ANY OF THEM

-- the pass after a line of this kind
abbrev pub next : Kind → Pass → Pass
next k p = moved p (names_after k p.names) (above_after k p.above) (cond (is_kind Main k) p.rows p.main)

module _ (t w : List ℕ) (p : Pass) (l : Line) (w' : List ℕ) where
  -- what the tables mean with the line, its class's fields by the scope after it
  pub record Grown (F : Program) : Type 0 where
    pub holds : Holds (counts p.names) w' F p.atoms
    pub rows : length F.rows ≡ p.rows
    pub classes : length F.classes ≡ (above_after l.kind p.above).classes
    pub methods : length F.methods ≡ after (above_after l.kind p.above).methods
    pub main : F.main ≡ cond (is_kind Main l.kind) p.rows p.main
    pub fields :
        map (λ f. f.name) (last_class F)
        ≡ map (field_number (declarations_in t w p.names)) (scope_after (scope_in t w p.names p.above) l).members.fields

  pub declaration-put :
      is_statement l.kind ≡ false → is_framed l.kind ≡ false → counts (names_after l.kind p.names) ≡ counts p.names →
      ((F : Program) → Stands t w p F → Grown (with_item F (suc p.line) (item t w p l))) →
      declarations_in t w' (names_after l.kind p.names) ≡ declarations_in t w p.names →
      scope_in t w' (names_after l.kind p.names) (above_after l.kind p.above) ≡ scope_after (scope_in t w p.names p.above) l →
      Kept lines_at work_bytes w w' → length w' ≡ length w → DeclarationPut t w p l w' (next l.kind p)
  unfolding one_more_if is_statement
  declaration-put a b n g d s k z =
      record {
        put =
            record {
              counted =
                  record {
                    names = refl;
                    above = refl;
                    rows = rw a;
                    grown = omega arith;
                    atoms = omega arith;
                    condition = λ e. true-false (sym (ap is_statement e) ∙ a);
                    main = refl;
                    line = refl;
                  };
              built = λ F h.
                  let x = g F h in
                  record {
                    holds = subst (λ D. Holds D w' (with_item F (suc p.line) (item t w p l)) p.atoms) (sym n) x.holds;
                    rows = x.rows;
                    classes = x.classes;
                    methods = x.methods;
                    main = x.main;
                    fields = x.fields ∙ (λ j. map (field_number (sym d j)) (sym s j).members.fields);
                  };
              formula = λ e. true-false (sym e ∙ b);
              declared = d;
              scope = s;
              lines = k;
              size = z;
            };
        unframed = refl;
      }

-- `class`
pub class-line :
    (t w : List ℕ) (p : Pass) (ws : List Name) → PassFits t w p → LineRoom t w p (line_with Class ws) →
    DeclarationPut t w p (line_with Class ws) (put_class w p.above.classes) (next Class p)
unfolding names_after above_after next_range is_framed item_of with_item last_class Scope.opened Grammar.opened
class-line t w p ws r m =
    let x = m.class refl in
    let c : ℕ = p.above.classes in
    let few : c < most_classes = omega (arith, x.0, r.names.classes) in
    let keep = class-names w c r.whole few in
    let fits : AboveFits (above_after Class p.above) =
    record {
      classes = omega (arith, few);
      fields = omega (arith, r.above.fields);
      methods = omega (arith, r.above.methods);
    } in
    declaration-put t w p (line_with Class ws) (put_class w c) refl refl refl
    (λ F s.
    let n = end-length F.classes [] in
    record {
      holds =
          subst (λ k. Holds (counts p.names) (put_class w k) (with_item F (suc p.line) (item t w p (line_with Class ws))) p.atoms) s.classes
          (class-written (counts p.names) w F p.atoms (suc p.line) (omega (arith, few, s.classes)) s.holds);
      rows = s.rows;
      classes = omega (arith, n, s.classes);
      methods = omega (arith, s.methods);
      main = s.main;
      fields = ap (map (λ f. f.name)) (ap (λ k. get_or (F.classes ++ ([] ∷ [])) (pred k) []) n ∙ last_of [] F.classes []);
    })
    (names-kept t w (put_class w c) p.names r.names keep)
    (scope_kept t w (put_class w c) p.names r.names keep (above_after Class p.above) fits
    ∙ class-scope t w p.names p.above ws x.1)
    (λ j a b. keep j (omega (arith, a)) b)
    (class-length w c r.whole few)

-- `main`
pub main-line :
    (t w : List ℕ) (p : Pass) (ws : List Name) → DeclarationPut t w p (line_with Main ws) w (next Main p)
unfolding names_after above_after is_framed item_of with_item last_class Scope.opened Grammar.opened
main-line t w p ws =
    declaration-put t w p (line_with Main ws) w refl refl refl
    (λ F s.
    record {
      holds = main-written (counts p.names) w F p.atoms (suc p.line) s.holds;
      rows = s.rows;
      classes = s.classes;
      methods = s.methods;
      main = s.rows;
      fields = s.fields;
    })
    refl refl (λ j a b. refl) refl

-- WHERE THE TABLES STAND
map-length : {A B : Type 0} (f : A → B) (l : List A) → length (map f l) ≡ length l
map-length f [] = refl
map-length f (a ∷ l) = ap suc (map-length f l)

map-end : {A B : Type 0} (f : A → B) (l : List A) (a : A) → map f (l ++ (a ∷ [])) ≡ map f l ++ (f a ∷ [])
map-end f [] a = refl
map-end f (b ∷ l) a = ap (◌∷◌ (f b)) (map-end f l a)

module _ (t w : List ℕ) (p : Pass) (F : Program) (s : Stands t w p F) where
  last-count : length (last_class F) ≡ p.above.fields.count
  unfolding scope_in names_from
  last-count =
      sym (map-length (λ f. f.name) (last_class F))
      ∙ (ap length s.fields
      ∙ (map-length (field_number (declarations_in t w p.names)) (scope_in t w p.names p.above).members.fields
      ∙ run_length (λ j. (entry_at t w j).name) (fields_first + p.above.fields.first) p.above.fields.count))

  pub stands-held : Held w p
  unfolding last_class
  stands-held =
      record {
        rows = omega (arith, s.holds.rows.few, s.rows);
        fields = λ one.
            let k : ℕ = pred p.above.classes in
            let e : pred (length F.classes) ≡ k = ap pred s.classes in
            class-count (counts p.names) w F p.atoms k (omega (arith, s.classes)) s.holds
            ∙ (ap (λ i. length (get_or F.classes i [])) (sym e) ∙ last-count);
      }

-- `field`
new-name : (x : Name) (l : List Name) → is_new x l ≡ true → any (eq_name x) l ≡ false
unfolding is_new
new-name x l e = not-true _ (both_true (not (reserved x)) (not (any (eq_name x) l)) e).1

module _ (t w : List ℕ) (p : Pass) (ws : List Name) (k : ℕ) (r : PassFits t w p) (m : LineRoom t w p (line_with Field ws)) (h : Held w p) (last : p.above.classes ≡ suc k) where
  abbrev name : ℕ
  name = field_number (declarations_in t w p.names) (get_or ws 1 [])

  abbrev put : List ℕ
  put = put_field w k name (is "int" (get_or ws 0 []))

  name-small : name < p.names.fields
  unfolding Scope.opened
  name-small = name-declared t w p.names (after p.above.fields) (get_or ws 1 []) (m.field refl).1.0 (m.field refl).1.1

  pub field_fits : (k < most_classes) × ((name < most_names) × (field_count_at w k < most_fields))
  field_fits =
      let e : pred p.above.classes ≡ k = ap pred last in
      let c : field_count_at w k ≡ p.above.fields.count = ap (field_count_at w) (sym e) ∙ h.fields (omega (arith, last)) in
      (omega (arith, r.above.classes, last), (omega (arith, name-small, r.names.fields), omega (arith, c, (m.field refl).0.1)))

  pub field-line :
      is_new (get_or ws 1 []) (scope_in t w p.names p.above).members.fields ≡ true → DeclarationPut t w p (line_with Field ws) put (next Field p)
  unfolding names_after above_after one_more is_framed item_of resolve_field with_item last_class Scope.opened Grammar.opened
  field-line new =
      let j : ℕ = field_count_at w k in
      let few = field_fits in
      let int : Bool = is "int" (get_or ws 0 []) in
      let keep = field-names w k j name int r.whole few.0 few.1.1 few.1.0 in
      let room = m.field refl in
      let fits : AboveFits (above_after Field p.above) =
      record {
        classes = r.above.classes;
        fields = omega (arith, room.1.0, r.names.fields);
        methods = r.above.methods;
      } in
      declaration-put t w p (line_with Field ws) put refl refl refl
      (λ F s.
      let e : length F.classes ≡ suc k = s.classes ∙ last in
      let i : pred (length F.classes) ≡ k = ap pred e in
      let f : Syntax.Field = record { name = name; int = int } in
      let n : length (on_last (λ fs. fs ++ (f ∷ [])) F.classes) ≡ length F.classes = last-length (λ fs. fs ++ (f ∷ [])) F.classes in
      let here : last_class F ≡ get_or F.classes k [] = ap (λ i. get_or F.classes i []) i in
      let same : map (λ f. f.name) (get_or F.classes k []) ≡ map (field_number (declarations_in t w p.names)) (scope_in t w p.names p.above).members.fields =
      ap (map (λ f. f.name)) (sym here) ∙ s.fields in
      record {
        holds =
            field-written (counts p.names) w F p.atoms k name (suc p.line) int f e
            (omega (arith, ap length here, last-count t w p F s, room.0.1)) few.1.0
            (λ q. number-new t w p.names (get_or F.classes k []) _ (get_or ws 1 []) same (new-name _ _ new) name-small q f)
            s.holds;
        rows = s.rows;
        classes = n ∙ s.classes;
        methods = s.methods;
        main = s.main;
        fields =
            ap (map (λ f. f.name))
            (ap (λ i. get_or (on_last (λ fs. fs ++ (f ∷ [])) F.classes) (pred i) []) (n ∙ e) ∙ last-changed [] (λ fs. fs ++ (f ∷ [])) F.classes k e)
            ∙ (map-end (λ f. f.name) (get_or F.classes k []) f
            ∙ (ap (λ ns. ns ++ (name ∷ [])) same ∙ sym (map-end (field_number (declarations_in t w p.names)) (scope_in t w p.names p.above).members.fields (get_or ws 1 []))));
      })
      (names-kept t w put p.names r.names keep)
      (scope_kept t w put p.names r.names keep (above_after Field p.above) fits ∙ field-scope t w p.names p.above ws room.1.1)
      (λ j a b. keep j (omega (arith, a)) b)
      (field-length w k j name int r.whole few.0 few.1.1 few.1.0)

-- NAMES OF VARIABLES
abbrev pub Formed : Kind → List Name → Type 0
Formed k ws = Grammar.is_formed (Grammar.form k).operands (Grammar.form k).tail ws ≡ true

pub var-names : (ws : List Name) → Formed Var ws → (is_name (get_or ws 0 []) ≡ true) × (is_name (get_or ws 1 []) ≡ true)
unfolding Grammar.opened
var-names [] e = true-false (sym e)
var-names (u ∷ []) e = true-false (sym (both_true (is_name u) false e).1)
var-names (u ∷ v ∷ ws) e =
    let f = both_true (is_name u) (is_name v && eqb (length ws) 0) e in
    (f.0, (both_true (is_name v) (eqb (length ws) 0) f.1).0)

pub parameter-name : (ws : List Name) → Formed Method ws → is_name (get_or ws 3 []) ≡ true
unfolding Grammar.opened
parameter-name [] e = true-false (sym e)
parameter-name (u ∷ []) e = true-false (sym (both_true (is_name u) false e).1)
parameter-name (u ∷ v ∷ []) e = true-false (sym (both_true (is_name v) false (both_true (is_name u) (is_name v && false) e).1).1)
parameter-name (u ∷ v ∷ x ∷ []) e =
    let f = both_true (is_name u) (is_name v && (is_name x && false)) e in
    let g = both_true (is_name v) (is_name x && false) f.1 in
    true-false (sym (both_true (is_name x) false g.1).1)
parameter-name (u ∷ v ∷ x ∷ y ∷ ws) e =
    let f = both_true (is_name u) (is_name v && (is_name x && (is_name y && eqb (length ws) 0))) e in
    let g = both_true (is_name v) (is_name x && (is_name y && eqb (length ws) 0)) f.1 in
    let h = both_true (is_name x) (is_name y && eqb (length ws) 0) g.1 in
    (both_true (is_name y) (eqb (length ws) 0) h.1).0

-- `method`
block-rows :
    (t w : List ℕ) (k s : Span) (m : Row) → Kept (row_place classes_first) (row_place variables_first) w (put_block t w k m s)
unfolding put_block
block-rows t w k s m j p q =
    row_other t _ _ _ j (inl (omega arith)) ∙ (row_other t _ _ _ j (inl (omega arith)) ∙ row_other t w _ _ j (inl (omega arith)))

block-lines : (t w : List ℕ) (k s : Span) (m : Row) → Kept lines_at work_bytes w (put_block t w k m s)
unfolding put_block
block-lines t w k s m j p q =
    row_other t _ _ _ j (inr (omega (arith, p))) ∙ (row_other t _ _ _ j (inr (omega (arith, p))) ∙ row_other t w _ _ j (inr (omega (arith, p))))

module _
    (t w : List ℕ) (p : Pass) (ws : List Name) (i : ℕ) (k s : Span) (n : Row) (r : PassFits t w p) (m : LineRoom t w p (line_with Method ws))
    (h : Held w p) (last : p.above.classes ≡ suc i) (class : k ≡ name_at t w i) (fk : SpanFits k) (row : MethodRow t i ws n)
    (parameter : name_in t s ≡ get_or ws 3 []) (fs : SpanFits s) where
  abbrev with_row : List ℕ
  with_row = put_method w (after p.above.methods) p.rows

  few-methods : after p.above.methods < most_methods
  few-methods = omega (arith, (m.method refl).1.0, r.names.methods)

  whole : length with_row ≡ work_bytes
  whole = method-length w (after p.above.methods) p.rows r.whole few-methods ∙ r.whole

  class-is : name_in t k ≡ class_above t w p.above
  unfolding class_above entry_at
  class-is =
      let e : p.above.classes - 1 ≡ i = omega (arith, last) in
      let z : eqb p.above.classes 0 ≡ false = ne_eqb p.above.classes 0 (λ z. omega (arith, last)) in
      rw (z, e, zero-add i) (ap (name_in t) class)

  the_block :
      block_in t (put_block t with_row k n s) (with_block true p.names)
      ≡ Scope.method_block (class_above t w p.above) (get_or ws 0 []) (get_or ws 2 []) (get_or ws 3 [])
  unfolding with_block method_entry entry_of
  the_block =
      block-put t with_row (with_block true p.names) k s n whole fk fs row.fits refl refl
      ∙ (λ j. Scope.method_block (class-is j) (row.is j).gives (row.is j).takes (parameter j))

  kept : Kept (row_place classes_first) (row_place variables_first) w (put_block t with_row k n s)
  kept j a b =
      block-rows t with_row k s n j a b
      ∙ method-names w (after p.above.methods) p.rows r.whole few-methods j (omega arith) (omega arith)

  pub method-line : DeclarationPut t w p (line_with Method ws) (put_block t with_row k n s) (next Method p)
  unfolding names_after above_after one_more with_block declarations_in is_framed item_of with_item last_class Scope.opened Grammar.opened
  method-line =
      let c : Names = with_block true p.names in
      let room = m.method refl in
      let fits : NamesFit c =
      record {
        classes = r.names.classes;
        fields = r.names.fields;
        methods = r.names.methods;
        locals = omega arith;
      } in
      let above : AboveFits (above_after Method p.above) =
      record {
        classes = r.above.classes;
        fields = r.above.fields;
        methods = omega (arith, few-methods);
      } in
      declaration-put t w p (line_with Method ws) (put_block t with_row k n s) refl refl refl
      (λ F x.
      let G : Program = with_item F (suc p.line) (item t w p (line_with Method ws)) in
      let e = method-written (counts p.names) w F p.atoms (suc p.line) (omega (arith, few-methods, x.methods)) x.holds in
      let f : Holds (counts p.names) with_row G p.atoms =
      subst (λ u. Holds (counts p.names) u G p.atoms) (λ j. put_method w (x.methods j) (x.rows j)) e in
      record {
        holds = holds_same (counts p.names) with_row (put_block t with_row k n s) G p.atoms (block-tables t with_row c k s n whole fk fs row.fits) f;
        rows = x.rows;
        classes = x.classes;
        methods = omega (arith, end-length F.methods (record { requires = []; ensures = []; first = length F.rows }), x.methods);
        main = x.main;
        fields = x.fields;
      })
      (block-declarations t with_row c k s n whole fk fs row.fits fits
      ∙ names-kept t w with_row c fits (method-names w (after p.above.methods) p.rows r.whole few-methods))
      (block-alone t w (put_block t with_row k n s) p.names c (above_after Method p.above) above kept
      ∙ method-scope t w p.names p.above ws room.1.1 _ the_block)
      (λ j a b. block-lines t with_row k s n j a b ∙ method-names w (after p.above.methods) p.rows r.whole few-methods j (omega (arith, a)) b)
      ((block-tables t with_row c k s n whole fk fs row.fits).size
      ∙ method-length w (after p.above.methods) p.rows r.whole few-methods)

-- `var`
pub var-line :
    (t w : List ℕ) (p : Pass) (ws : List Name) (s g : Span) → PassFits t w p → LineRoom t w p (line_with Var ws) →
    name_in t g ≡ get_or ws 0 [] → name_in t s ≡ get_or ws 1 [] → SpanFits s → SpanFits g →
    DeclarationPut t w p (line_with Var ws) (put_row t w (variables_first + (2 + p.names.locals)) (variable_row s g)) (next Var p)
unfolding names_after above_after more_locals declarations_in scope_in is_framed item_of with_item last_class Scope.opened Grammar.opened
var-line t w p ws s g r m type name fs fg =
    let i : ℕ = variables_first + (2 + p.names.locals) in
    let u : List ℕ = put_row t w i (variable_row s g) in
    let few = m.local refl in
    let c : Names = more_locals p.names in
    let fits : NamesFit c =
    record {
      classes = r.names.classes;
      fields = r.names.fields;
      methods = r.names.methods;
      locals = omega (arith, few);
    } in
    let block =
    local-put t w p.names s g r.whole few fs fg
    ∙ (λ j. Scope.with_local (block_in t w p.names) (type j) (name j)) in
    declaration-put t w p (line_with Var ws) u refl refl refl
    (λ F x.
    record {
      holds =
          local-written (counts p.names) u F p.atoms (suc p.line) (get_or ws 1 [])
          (holds_same (counts p.names) w u F p.atoms (row-tables t w i (variable_row s g)) x.holds);
      rows = x.rows;
      classes = x.classes;
      methods = x.methods;
      main = x.main;
      fields = x.fields;
    })
    (variable-row t w c fits i (variable_row s g) (omega arith))
    (block-alone t w u p.names c p.above r.above (λ j a b. row_other t w i (variable_row s g) j (inl (omega arith)))
    ∙ (λ j. record { classes = (scope_in t w p.names p.above).classes; members = (scope_in t w p.names p.above).members; block = block j }))
    (λ j a b. row_other t w i (variable_row s g) j (inr (omega (arith, a, few))))
    (row-length t w i (variable_row s g))

-- BY THE NUMBER OF THE KIND

-- what is written and counted, by equations
pub at-end :
    {t w : List ℕ} {p : Pass} {l : Line} {w' u : List ℕ} {q v : Pass} → u ≡ w' → v ≡ q → DeclarationPut t w p l w' q → DeclarationPut t w p l u v
at-end {t} {w} {p} {l} {w'} {u} {q} {v} e f x = subst (λ z. DeclarationPut t w p l z v) (sym e) (subst (DeclarationPut t w p l w') (sym f) x)

pub line-is : {ws : List Name} {n : ℕ} (k : Kind) → n ≡ kind_number k → line_with (kind_numbered n) ws ≡ line_with k ws
line-is {ws} k e = ap (λ k. line_with k ws) (ap kind_numbered e ∙ kind-of-number k)

module _ {t w : List ℕ} {p : Pass} {ws : List Name} {n : ℕ} (k : Kind) (e : n ≡ kind_number k) where
  pub room_as : LineRoom t w p (line_with (kind_numbered n) ws) → LineRoom t w p (line_with k ws)
  room_as x = subst (LineRoom t w p) (line-is k e) x

pub last_kind : (n : ℕ) → is_declaration n ≡ true → (n ≡ 1 → ⊥) → n ≡ 6
unfolding is_declaration
last_kind n e a = eqb-true n 6 (rw (ne_eqb n 1 a) at e)
