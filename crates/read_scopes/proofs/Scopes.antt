-- What a store makes of the declarations, the block and the scope that the rows mean.
use mathlib.Core.Path.{◌≡◌, refl, ap, ap₂, ◌∙◌}
use mathlib.Core.Bool.{Bool, true, false, cond}
use mathlib.Core.List.{List, [], ◌∷◌, ◌++◌}
use mathlib.Core.Logic.{◌⊎◌, inl, inr, ⊎_elim}
use Prim.Native.Nat.{ℕ, suc, ◌+◌, ◌-◌, ◌≤◌, ◌<◌}
use native.Mathlib.Omega.{arith}
use native.Mathlib.Numerals.{add-one}
use lib.Dec.{eqb}
use lib.ListN.{length}
use Rattle.rules.specs.Base.{Name, bytes}
use Rattle.rules.specs.Limits.{most_classes, most_methods, most_locals, work_bytes}
use Rattle.rules.specs.Syntax.{this_variable, parameter, first_local, result_variable}
use Rattle.rules.specs.Scope.{Variable, method_block, with_local}
use Rattle.tables.specs.Layout.{most_names, names_at}
use Rattle.tables.specs.Stores.{Kept, SameTables}
use Rattle.tables.proofs.BytesRead.{same-trans}
use Rattle.read_names.specs.declared.Span.{Span}
use Rattle.read_names.specs.declared.Row.{Row}
use Rattle.read_scopes.specs.declared.Names.{Names}
use Rattle.read_scopes.specs.declared.Above.{Above}
use Rattle.tables.specs.Decode.{run}
use Rattle.read_names.specs.Rows.{row_place, most_rows, name_in, no_span, Entry, entry_at, entry_of, SpanFits, RowFits, put_row, classes_first, fields_first, methods_first, variables_first}
use Rattle.read_scopes.specs.Meanings.{type_at, NamesFit, AboveFits, as_field, as_method, names_from, declarations_in, this_in, result_in, variable_at, own_variables, block_in, variables_in, class_above, scope_in, more_classes, more_fields, more_methods, more_locals, variable_row, put_block}
use Rattle.tables.proofs.Runs.{run_moved, run_more}
use Rattle.read_names.proofs.Puts.{none-fits, entry_kept, row-length, row_other, row-tables, row_put, other_row, range-kept, range_other, range-more}

name_of : Entry → Name
name_of e = e.name

-- DECLARATIONS
module _ (t w w' : List ℕ) where
  -- they depend on the bytes of their rows alone
  pub declarations-kept :
      (c : Names) → NamesFit c → Kept (row_place classes_first) (row_place variables_first) w w' → declarations_in t w' c ≡ declarations_in t w c
  unfolding declarations_in names_from name_of
  declarations-kept c f k =
      let a = range-kept name_of t w w' classes_first c.classes (λ j p q. k j (omega arith) (omega (arith, f.classes))) in
      let b = range-kept as_field t w w' fields_first c.fields (λ j p q. k j (omega arith) (omega (arith, f.fields))) in
      let d = range-kept as_method t w w' methods_first c.methods (λ j p q. k j (omega arith) (omega (arith, f.methods))) in
      λ j. record { classes = a j; fields = b j; methods = d j }

  variable-kept :
      (v : ℕ) → v < 15 → Kept (row_place variables_first) (row_place most_rows) w w' → variable_at t w' v ≡ variable_at t w v
  unfolding variable_at
  variable-kept v l k =
      let e = entry_kept t w w' (variables_first + v) (λ j p q. k j (omega arith) (omega arith)) in
      λ j. record { name = (e j).name; number = v; type = (e j).gives }

  -- the block depends on the bytes of the variables' rows
  pub block-kept :
      (c : Names) → NamesFit c → Kept (row_place variables_first) (row_place most_rows) w w' → block_in t w' c ≡ block_in t w c
  unfolding block_in own_variables entry_at
  block-kept c f k =
      let type : (v : ℕ) → v < 15 → (entry_at t w' (variables_first + v)).gives ≡ (entry_at t w (variables_first + v)).gives =
      λ v l. ap (λ e. e.gives) (entry_kept t w w' (variables_first + v) (λ j p q. k j (omega arith) (omega arith))) in
      let this : this_in t w' ≡ this_in t w =
      λ j. record { name = bytes "this"; number = this_variable; type = type this_variable (omega arith) j } in
      let result : result_in t w' ≡ result_in t w =
      λ j. record { name = bytes "result"; number = result_variable; type = type result_variable (omega arith) j } in
      let own : (v n : ℕ) → v + n ≤ 14 → run (variable_at t w') v n ≡ run (variable_at t w) v n =
      λ v n l. run_moved (variable_at t w') (variable_at t w) v v n (λ i m. variable-kept (v + i) (omega arith) k) in
      let a = own parameter (suc c.locals) (omega (arith, f.locals)) in
      let b = own first_local c.locals (omega (arith, f.locals)) in
      λ j. record {
        variables = cond c.method (this j ∷ cond c.method (a j) (b j)) (cond c.method (a j) (b j));
        result = cond c.method (result j ∷ []) [];
        locals = c.locals;
      }

  -- A store outside the region of names leaves them all.
  module _ (c : Names) (f : NamesFit c) (k : Kept names_at work_bytes w w') where
    pub names-kept : declarations_in t w' c ≡ declarations_in t w c
    names-kept = declarations-kept c f (λ j p q. k j (omega arith) (omega arith))

    pub variables-kept : variables_in t w' c ≡ variables_in t w c
    unfolding variables_in entry_at
    variables-kept =
        let b = block-kept c f (λ j p q. k j (omega arith) (omega arith)) in
        let e = entry_kept t w w' (variables_first + result_variable) (λ j p q. k j (omega arith) (omega arith)) in
        λ j. (b j).variables ++ cond c.result (record { name = bytes "result"; number = result_variable; type = (e j).gives } ∷ []) []

    pub scope_kept : (a : Above) → AboveFits a → scope_in t w' c a ≡ scope_in t w c a
    unfolding scope_in names_from class_above name_of
    scope_kept a g =
        let classes = range-kept name_of t w w' classes_first a.classes (λ j p q. k j (omega arith) (omega (arith, g.classes))) in
        let last = entry_kept t w w' (classes_first + (a.classes - 1)) (λ j p q. k j (omega arith) (omega (arith, g.classes))) in
        let fields =
        range-kept name_of t w w' (fields_first + a.fields.first) a.fields.count
        (λ j p q. k j (omega arith) (omega (arith, g.fields))) in
        let methods =
        range-kept name_of t w w' (methods_first + a.methods.first) a.methods.count
        (λ j p q. k j (omega arith) (omega (arith, g.methods))) in
        let block = block-kept c f (λ j p q. k j (omega arith) (omega arith)) in
        λ j. record {
          classes = classes j;
          members = record { class = cond (eqb a.classes 0) [] (last j).name; fields = fields j; methods = methods j };
          block = block j;
        }

-- ONE ROW MORE
module _ (t w : List ℕ) (c : Names) (f : NamesFit c) (r : Row) (size : length w ≡ work_bytes) (fits : RowFits r) where
  pub class-put :
      c.classes < most_classes →
      declarations_in t (put_row t w (classes_first + c.classes) r) (more_classes c)
      ≡ record {
        classes = (declarations_in t w c).classes ++ (name_in t r.name ∷ []);
        fields = (declarations_in t w c).fields;
        methods = (declarations_in t w c).methods;
      }
  unfolding declarations_in names_from more_classes name_of entry_of
  class-put l =
      let i : ℕ = classes_first + c.classes in
      let a = range-more name_of t w i r classes_first c.classes refl size (omega arith) fits in
      let b = range_other as_field t w i r fields_first c.fields (inl (omega arith)) in
      let d = range_other as_method t w i r methods_first c.methods (inl (omega arith)) in
      λ j. record { classes = a j; fields = b j; methods = d j }

  pub field_put :
      c.fields < most_names →
      declarations_in t (put_row t w (fields_first + c.fields) r) (more_fields c)
      ≡ record {
        classes = (declarations_in t w c).classes;
        fields = (declarations_in t w c).fields ++ (as_field (entry_of t r) ∷ []);
        methods = (declarations_in t w c).methods;
      }
  unfolding declarations_in names_from more_fields name_of
  field_put l =
      let i : ℕ = fields_first + c.fields in
      let a = range_other name_of t w i r classes_first c.classes (inr (omega (arith, f.classes))) in
      let b = range-more as_field t w i r fields_first c.fields refl size (omega arith) fits in
      let d = range_other as_method t w i r methods_first c.methods (inl (omega arith)) in
      λ j. record { classes = a j; fields = b j; methods = d j }

  pub method-put :
      c.methods < most_methods →
      declarations_in t (put_row t w (methods_first + c.methods) r) (more_methods c)
      ≡ record {
        classes = (declarations_in t w c).classes;
        fields = (declarations_in t w c).fields;
        methods = (declarations_in t w c).methods ++ (as_method (entry_of t r) ∷ []);
      }
  unfolding declarations_in names_from more_methods name_of
  method-put l =
      let i : ℕ = methods_first + c.methods in
      let a = range_other name_of t w i r classes_first c.classes (inr (omega (arith, f.classes))) in
      let b = range_other as_field t w i r fields_first c.fields (inr (omega (arith, f.fields))) in
      let d = range-more as_method t w i r methods_first c.methods refl size (omega arith) fits in
      λ j. record { classes = a j; fields = b j; methods = d j }

-- rows of variables leave the declarations
module _ (t w : List ℕ) (c : Names) (f : NamesFit c) (i : ℕ) (r : Row) where
  pub variable-row : variables_first ≤ i → declarations_in t (put_row t w i r) c ≡ declarations_in t w c
  variable-row l = declarations-kept t w (put_row t w i r) c f (λ j p q. row_other t w i r j (inl (omega arith)))

-- VARIABLES
module _ (t w : List ℕ) (i : ℕ) (r : Row) where
  other-variable :
      (v : ℕ) → (variables_first + v < i) ⊎ (i < variables_first + v) → variable_at t (put_row t w i r) v ≡ variable_at t w v
  unfolding variable_at
  other-variable v o = let e = other_row t w i r (variables_first + v) o in λ j. record { name = (e j).name; number = v; type = (e j).gives }

  own-other : (v n : ℕ) → variables_first + (v + n) ≤ i → run (variable_at t (put_row t w i r)) v n ≡ run (variable_at t w) v n
  own-other v n l =
      run_moved (variable_at t (put_row t w i r)) (variable_at t w) v v n (λ k m. other-variable (v + k) (inl (omega arith)))

  gives_other : (v : ℕ) → (variables_first + v < i) ⊎ (i < variables_first + v) → type_at t (put_row t w i r) v ≡ type_at t w v
  unfolding entry_at
  gives_other v o = ap (λ e. e.gives) (other_row t w i r (variables_first + v) o)

module _ (t w : List ℕ) (v : ℕ) (s g : Span) (size : length w ≡ work_bytes) (small : v < 15) (fs : SpanFits s) (fg : SpanFits g) where
  abbrev put : List ℕ
  put = put_row t w (variables_first + v) (variable_row s g)

  row_is : entry_at t put (variables_first + v) ≡ entry_of t (variable_row s g)
  row_is =
      row_put t w (variables_first + v) (variable_row s g) size (omega arith)
      (record { owner = omega arith; name = fs; gives = fg; takes = none-fits })

  variable-put : variable_at t put v ≡ record { name = name_in t s; number = v; type = name_in t g }
  unfolding variable_at entry_of
  variable-put = let e = row_is in λ j. record { name = (e j).name; number = v; type = (e j).gives }

  type_put : type_at t put v ≡ name_in t g
  unfolding entry_at entry_of
  type_put = ap (λ e. e.gives) row_is

-- one variable more at the end
one_more :
    (m : Bool) (x : Variable) (a b : List Variable) {h h' : Variable} {a' b' : List Variable} → h' ≡ h → a' ≡ a ++ (x ∷ []) → b' ≡ b ++ (x ∷ []) →
    cond m (h' ∷ cond m a' b') (cond m a' b') ≡ cond m (h ∷ cond m a b) (cond m a b) ++ (x ∷ [])
one_more true x a b p q r = ap₂ ◌∷◌ p q
one_more false x a b p q r = r

-- one local more
module _ (t w : List ℕ) (c : Names) (s g : Span) (size : length w ≡ work_bytes) (l : c.locals < most_locals) (fs : SpanFits s) (fg : SpanFits g) where
  abbrev grown : List ℕ
  grown = put_row t w (variables_first + (2 + c.locals)) (variable_row s g)

  more-own :
      (v n : ℕ) → v + n ≡ 2 + c.locals →
      run (variable_at t grown) v (suc n)
      ≡ run (variable_at t w) v n ++ (record { name = name_in t s; number = 2 + c.locals; type = name_in t g } ∷ [])
  more-own v n e =
      run_more (variable_at t grown) v n
      ∙ ap₂ (λ a b. a ++ (b ∷ [])) (own-other t w (variables_first + (2 + c.locals)) (variable_row s g) v n (omega arith))
      (ap (variable_at t grown) e ∙ variable-put t w (2 + c.locals) s g size (omega arith) fs fg)

  pub local-put : block_in t grown (more_locals c) ≡ with_local (block_in t w c) (name_in t g) (name_in t s)
  unfolding block_in own_variables more_locals with_local
  local-put =
      let n : c.locals + 1 ≡ suc c.locals = add-one c.locals in
      let type : (v : ℕ) → (v < 2 + c.locals) ⊎ (2 + c.locals < v) → type_at t grown v ≡ type_at t w v =
      λ v o. gives_other t w (variables_first + (2 + c.locals)) (variable_row s g) v (⊎_elim (λ p. inl (omega arith)) (λ p. inr (omega arith)) o) in
      let this = type this_variable (inl (omega arith)) in
      let result = type result_variable (inr (omega arith)) in
      let a = ap (λ k. run (variable_at t grown) parameter (suc k)) n ∙ more-own parameter (suc c.locals) (omega arith) in
      let b = ap (λ k. run (variable_at t grown) first_local k) n ∙ more-own first_local c.locals refl in
      let own = one_more c.method _ _ _ (λ j. record { name = bytes "this"; number = this_variable; type = this j }) a b in
      λ j. record {
        variables = own j;
        result = cond c.method (record { name = bytes "result"; number = result_variable; type = result j } ∷ []) [];
        locals = n j;
      }

-- the block that a method begins with
module _ (t w : List ℕ) (c : Names) (k s : Span) (m : Row) (size : length w ≡ work_bytes) (fk : SpanFits k) (fs : SpanFits s) (fm : RowFits m) where
  pub block-put :
      c.method ≡ true → c.locals ≡ 0 →
      block_in t (put_block t w k m s) c ≡ method_block (name_in t k) (name_in t m.gives) (name_in t m.takes) (name_in t s)
  unfolding block_in own_variables put_block method_block run
  block-put e z =
      let one : List ℕ = put_row t w (variables_first + this_variable) (variable_row no_span k) in
      let two : List ℕ = put_row t one (variables_first + parameter) (variable_row s m.takes) in
      let n1 : length one ≡ work_bytes = row-length t w (variables_first + this_variable) (variable_row no_span k) ∙ size in
      let n2 : length two ≡ work_bytes = row-length t one (variables_first + parameter) (variable_row s m.takes) ∙ n1 in
      let third : Row = variable_row no_span m.gives in
      let this =
      gives_other t two (variables_first + result_variable) third this_variable (inl (omega arith))
      ∙ (gives_other t one (variables_first + parameter) (variable_row s m.takes) this_variable (inl (omega arith))
      ∙ type_put t w this_variable no_span k size (omega arith) none-fits fk) in
      let own =
      other-variable t two (variables_first + result_variable) third parameter (inl (omega arith))
      ∙ variable-put t one parameter s m.takes n1 (omega arith) fs fm.takes in
      let result = type_put t two result_variable no_span m.gives n2 (omega arith) none-fits fm.gives in
      rw (e, z)
      (λ j. record {
        variables = record { name = bytes "this"; number = this_variable; type = this j } ∷ own j ∷ [];
        result = record { name = bytes "result"; number = result_variable; type = result j } ∷ [];
        locals = 0;
      })

  -- it leaves the declarations and the tables
  pub block-declarations : NamesFit c → declarations_in t (put_block t w k m s) c ≡ declarations_in t w c
  unfolding put_block
  block-declarations f =
      variable-row t _ c f (variables_first + result_variable) _ (omega arith)
      ∙ (variable-row t _ c f (variables_first + parameter) _ (omega arith) ∙ variable-row t _ c f (variables_first + this_variable) _ (omega arith))

  pub block-tables : SameTables w (put_block t w k m s)
  unfolding put_block
  block-tables = same-trans (row-tables t w _ _) (same-trans (row-tables t _ _ _) (row-tables t _ _ _))

-- THE VARIABLES THAT A LINE MAY NAME
-- one name more of what the lines above declare
pub names_more : (t w : List ℕ) (i n : ℕ) → names_from t w i (n + 1) ≡ names_from t w i n ++ ((entry_at t w (i + n)).name ∷ [])
unfolding names_from
names_more t w i n = rw add-one (run_more (λ j. (entry_at t w j).name) i n)
