-- The sides of a resolved atom fit their rows.
use Rattle.std.proofs.Common.{Result, Ok, Err}
use mathlib.Core.Path.{◌≡◌, refl, sym, ap, ap₂, subst, ◌∙◌}
use mathlib.Core.Bool.{Bool, true, false, not, cond, ◌&&◌, ◌||◌}
use mathlib.Core.List.{List, [], ◌∷◌, ◌++◌}
use mathlib.Core.Logic.{⊎_elim}
use Prim.Native.Nat.{ℕ, zero, suc, ◌+◌, ◌≤◌, ◌<◌}
use native.Mathlib.Omega.{arith}
use lib.Dec.{T, eqb}
use lib.ListN.{length}
use borrow.Author.Tests.{ltb-true, lt-ltb, le-ltb, ne_eqb, not-true}
use Rattle.resolve_atoms.specs.declared.AtomRow.{AtomRow}
use Rattle.rules.specs.Base.{Name, any, index, eq_name, Member}
use Rattle.rules.specs.Syntax.{Permit, Expr, is_path, num, null, var, path, acc, read, own, cmp}
use Rattle.rules.specs.Text.{number, numeral, has_stop, is_expr, expr_of, before_stop, after_stop, reserved, is_atom, atom_of}
use Rattle.rules.specs.Base as Base
use Rattle.rules.specs.Scope.{Declarations, Variable, FieldDeclaration}
use Rattle.rules.specs.Names as Names
use Rattle.rules.specs.Names.{known_expr, of_class_in, known_field, is_int, is_field_of, variable_type, variable_number, field_number, in_scope, look_up, missing_variable}
use Rattle.rules.specs.Items.{resolve_expr, resolve_atom}
use Rattle.rules.proofs.Signs.{number_small}
use Rattle.rules.proofs.Lists.{T_true, head-or, append-member, and_both, in-any, any-in, first_member}
use Rattle.read_bytes.proofs.Search.{both_true}
use Rattle.read_atoms.specs.Atoms.{atom_word}
use Rattle.read_atoms.proofs.Atoms.{atom-begins, kind-bounds, permission-of, comparison-of, comparison-form}
use Rattle.tables.specs.declared.Expr as Tables
use Rattle.tables.specs.Numbers.{read_atom, chain_atom, eq_atom, ne_atom}
use Rattle.tables.specs.Layout.{most_names, frame_variables}
use Rattle.tables.specs.declared.kinds.AtomKind.{AtomKind}
use Rattle.tables.specs.Kinds.{kind_number}
use Rattle.tables.specs.Decode as Decode
use Rattle.tables.specs.Stores.{meaning}
use Rattle.read_scopes.specs.declared.Names as Declared
use Rattle.read_types.specs.declared.Member as Member
use Rattle.read_types.specs.declared.Lookup as Lookup
use Rattle.read_types.specs.declared.Fault.{Fault}
use Rattle.read_types.specs.Verdicts.{Verdict, test, and_then, lower}
use Rattle.read_types.specs.Types.{expr_judged, chain_judged, type_meant, MemberIs, LookIs}
use Rattle.read_types.proofs.Verdicts.{lower-good, then-good, judged-good}
use Rattle.tables.specs.Decode.{run}
use Rattle.read_names.specs.Rows.{entry_at, fields_first}
use Rattle.read_scopes.specs.Meanings.{NamesFit, as_field, declarations_in, block_in, own_variables, variables_in, variable_at, this_in, result_in}
use Rattle.tables.proofs.Runs.{run_length}
use Rattle.read_names.proofs.Searches.{any-index}
use Rattle.write_rows.specs.Puts.{tag_of}
use Rattle.tables.specs.Tables.{SideFits}
use Rattle.write_rows.specs.Holds as Holds
use Rattle.write_rows.specs.Holds.{access_of}
use Rattle.resolve_atoms.specs.Good.{atom_judged}
use Rattle.resolve_atoms.specs.Written.{IsRelation, Resolved, AtomTried, row_if, permission_row}

-- the kind of `read`, that of `acc` or that of `chain`
abbrev pub IsAccess : ℕ → Type 0
IsAccess k = (read_atom ≤ k) × (k < eq_atom)

-- SIDES

-- a path is an access
path-access : (p : Permit) (e : Tables.Expr) (v n : ℕ) → meaning e ≡ path v n → (tag_of e ≡ 3) × (access_of p e ≡ own p v n)
unfolding meaning tag_of access_of
path-access p (Tables.Expr.Num k) v n m = absurd (let z : ◌≡◌ {A = ℕ} 0 1 = cc in omega arith)
path-access p Tables.Expr.Null v n m = absurd (let z : ◌≡◌ {A = ℕ} 0 1 = cc in omega arith)
path-access p (Tables.Expr.Var x) v n m = absurd (let z : ◌≡◌ {A = ℕ} 0 1 = cc in omega arith)
path-access p (Tables.Expr.Path x f) v n m = let q : x ≡ v = cc in let r : f ≡ n = cc in (refl, λ j. own p (q j) (r j))

number_read : (w : Name) (n : ℕ) → expr_of w ≡ num n → n < 4294967296
unfolding expr_of
number_read w n e = go (numeral w) (has_stop w) (Base.is "null" w) e
  where
    go : (p q r : Bool) → cond p (num (number w)) (cond q (path (before_stop w) (after_stop w)) (cond r null (var w))) ≡ num n → n < 4294967296
    go true q r i = let z : number w ≡ n = cc in omega (arith, z, number_small w)
    go false true r i = absurd (let z : ◌≡◌ {A = ℕ} 0 1 = cc in omega arith)
    go false false true i = absurd (let z : ◌≡◌ {A = ℕ} 0 1 = cc in omega arith)
    go false false false i = absurd (let z : ◌≡◌ {A = ℕ} 0 1 = cc in omega arith)

module _ (t w : List ℕ) (c : Declared.Names) (fits : NamesFit c) where
  -- VARIABLES
  Small : List Variable → Type 0
  Small vs = (v : Variable) → Member v vs → v.number < frame_variables

  small-rows : (i n : ℕ) → i + n ≤ 15 → Small (run (variable_at t w) i n)
  unfolding Small run variable_at
  small-rows i zero l v m = elim m [ ]
  small-rows i (suc n) l v m =
      ⊎_elim (λ k. small-rows (suc i) n (omega arith) v k) (λ e. let z : v.number ≡ i = ap (λ v. v.number) e in omega (arith, z)) (head-or m)

  small_one : (x : Variable) → x.number < frame_variables → Small (x ∷ [])
  unfolding Small
  small_one x l v m = ⊎_elim (λ k. elim k [ ]) (λ e. let z : v.number ≡ x.number = ap (λ v. v.number) e in omega (arith, z)) (head-or m)

  small-append : (a b : List Variable) → Small a → Small b → Small (a ++ b)
  unfolding Small
  small-append a b f g v m = ⊎_elim (λ k. f v k) (λ k. g v k) (append-member a b v m)

  small-cons : (x : Variable) (b : List Variable) → x.number < frame_variables → Small b → Small (x ∷ b)
  small-cons x b l g = small-append (x ∷ []) b (small_one x l) g

  small-none : Small []
  unfolding Small
  small-none v m = elim m [ ]

  small_all : Small (variables_in t w c)
  unfolding variables_in block_in own_variables
  small_all = small-append _ _ (block c.method) (result c.result)
    where
      own : (b : Bool) → Small (cond b (run (variable_at t w) 1 (suc c.locals)) (run (variable_at t w) 2 c.locals))
      own true = small-rows 1 (suc c.locals) (omega (arith, fits.locals))
      own false = small-rows 2 c.locals (omega (arith, fits.locals))

      block :
          (b : Bool) →
          Small
          (cond b (this_in t w ∷ cond b (run (variable_at t w) 1 (suc c.locals)) (run (variable_at t w) 2 c.locals))
          (cond b (run (variable_at t w) 1 (suc c.locals)) (run (variable_at t w) 2 c.locals)))
      block true = small-cons (this_in t w) _ (omega arith) (own true)
      block false = own false

      result : (b : Bool) → Small (cond b (result_in t w ∷ []) [])
      result true = small_one (result_in t w) (omega arith)
      result false = small-none

  pub variable-small : (x : Name) → in_scope (variables_in t w c) x ≡ true → variable_number (variables_in t w c) x < frame_variables
  unfolding in_scope variable_number look_up Small
  variable-small x e =
      small_all _ (first_member (λ v. eq_name v.name x) missing_variable (variables_in t w c) (subst T (sym e) tt))

  -- FIELDS
  field-small :
      (C f : Name) → any (is_field_of (declarations_in t w c) C f) (declarations_in t w c).fields ≡ true →
      field_number (declarations_in t w c) f < most_names
  unfolding is_field_of field_number declarations_in
  field-small C f e =
      let l : List FieldDeclaration = (declarations_in t w c).fields in
      let p : FieldDeclaration → Bool = λ d. eq_name d.name f in
      let a : T (any p l) =
      in-any (is_field_of (declarations_in t w c) C f) l (subst T (sym e) tt) (λ d i h. any-in p l d i (and_both (eqb d.owner (Names.class_number (declarations_in t w c) C)) (eq_name d.name f) h).1) in
      let b : index p l < length l = ltb-true _ _ (sym (any-index p l) ∙ T_true _ a) in
      let n : length l ≡ c.fields = run_length (λ j. as_field (entry_at t w j)) fields_first c.fields in
      omega (arith, b, n, fits.fields)

  abbrev Γ : Declarations
  Γ = declarations_in t w c

  abbrev vs : List Variable
  vs = variables_in t w c

  pub path-fits : (x f : Name) → expr_judged Γ vs (path x f) ≡ Ok tt → SideFits (resolve_expr Γ vs (path x f))
  unfolding expr_judged known_expr of_class_in known_field SideFits resolve_expr
  path-fits x f g =
      let a = judged-good (in_scope vs x && known_field Γ vs x f) (not (is_int vs x)) true g in
      let b = both_true (in_scope vs x) (known_field Γ vs x f) a.0 in
      let k = both_true (not (reserved f)) (is_int vs x || any (is_field_of Γ (variable_type vs x) f) Γ.fields) b.1 in
      let i : is_int vs x ≡ false = not-true _ a.1.0 in
      let m : any (is_field_of Γ (variable_type vs x) f) Γ.fields ≡ true =
      subst (λ q. (q || any (is_field_of Γ (variable_type vs x) f) Γ.fields) ≡ true) i k.1 in
      (variable-small x b.0, field-small (variable_type vs x) f m)

  expr-fits : (w : Name) → expr_judged Γ vs (expr_of w) ≡ Ok tt → SideFits (resolve_expr Γ vs (expr_of w))
  unfolding resolve_expr SideFits expr_judged known_expr of_class_in
  expr-fits w g = go (expr_of w) refl g
    where
      go : (e : Expr Name) → expr_of w ≡ e → expr_judged Γ vs e ≡ Ok tt → SideFits (resolve_expr Γ vs e)
      go (num n) i h = number_read w n i
      go null i h = tt
      go (var x) i h = variable-small x (judged-good (in_scope vs x) true true h).0
      go (path x f) i h = path-fits x f h

  -- ATOMS
  module _ (kind : AtomKind) (a : IsAccess (kind_number kind)) (x f : Name) where
    abbrev k : ℕ
    k = kind_number kind

    access-is :
        (l : Tables.Expr) → expr_judged Γ vs (path x f) ≡ Ok tt → meaning l ≡ resolve_expr Γ vs (path x f) →
        Resolved Γ vs (own (Decode.permit_of k) x f) (record { kind = kind; left = l; right = Tables.Expr.Null })
    unfolding resolve_expr resolve_atom Holds.atom_of Decode.is_permission meaning SideFits
    access-is l g m =
        let p = path-access (Decode.permit_of k) l _ _ m in
        record {
          is = rw (lt-ltb k eq_atom a.1) p.1;
          ok = record { least = a.0; kind = omega (arith, a.1); left = rw m (path-fits x f g); right = tt; access = λ e. p.0 };
        }

    -- m: what was looked up
    pub permission-tried :
        (m : Member.Member) (r : Result AtomRow Fault) {u : Verdict} → MemberIs t w Γ vs x f u m → u ≡ atom_judged Γ vs (own (Decode.permit_of k) x f) →
        r ≡ permission_row kind m → AtomTried Γ vs (own (Decode.permit_of k) x f) r
    unfolding permission_row row_if AtomTried atom_judged resolve_expr meaning
    permission-tried m r h i e = subst (AtomTried Γ vs (own (Decode.permit_of k) x f)) (sym e) (go m.verdict (sym (h.verdict ∙ i)))
      where
        go :
            (v : Verdict) → atom_judged Γ vs (own (Decode.permit_of k) x f) ≡ v →
            AtomTried Γ vs (own (Decode.permit_of k) x f)
            (row_if v (record { kind = kind; left = Tables.Expr.Path m.variable m.number; right = Tables.Expr.Null }))
        go (Ok u) g =
            (g, access-is (Tables.Expr.Path m.variable m.number) (then-good (expr_judged Γ vs (path x f)) _ g).0 (ap₂ path h.variable.number h.number))
        go (Err b) g = g

  pub compared_is :
      (kind : AtomKind) (a b : Name) (l r : Tables.Expr) → IsRelation (kind_number kind) →
      expr_judged Γ vs (expr_of a) ≡ Ok tt → expr_judged Γ vs (expr_of b) ≡ Ok tt → meaning l ≡ resolve_expr Γ vs (expr_of a) →
      meaning r ≡ resolve_expr Γ vs (expr_of b) →
      Resolved Γ vs (cmp (Decode.rel_of (kind_number kind)) (expr_of a) (expr_of b)) (record { kind = kind; left = l; right = r })
  unfolding resolve_atom Holds.atom_of Decode.is_permission
  compared_is kind a b l r i p q m n =
      record {
        is = rw (le-ltb (kind_number kind) eq_atom i.0, m, n);
        ok =
            record {
              least = omega (arith, i.0);
              kind = i.1;
              left = rw m (expr-fits a p);
              right = rw n (expr-fits b q);
              access = λ e. absurd (omega (arith, i.0));
            };
      }

  module _ (kind : AtomKind) (a b : Name) (l r : Lookup.Lookup) (p : LookIs t Γ vs (expr_of a) l) (q : LookIs t Γ vs (expr_of b) r) where
    -- the tests of a comparison, by what the look-ups of its sides say
    compared-judged :
        atom_judged Γ vs (cmp (Decode.rel_of (kind_number kind)) (expr_of a) (expr_of b))
        ≡ and_then (lower l.verdict r.verdict) (test (Names.agree (type_meant t l.is) (type_meant t r.is)) Fault.WrongType (Ok tt))
    unfolding atom_judged
    compared-judged = rw (p.verdict, q.verdict, p.is, q.is)

    -- v: the verdict of both
    module _ {v : Verdict} (e : v ≡ lower l.verdict r.verdict) where
      pub side-bad : {f : Fault} → v ≡ Err f → AtomTried Γ vs (cmp (Decode.rel_of (kind_number kind)) (expr_of a) (expr_of b)) (Err f)
      unfolding AtomTried and_then
      side-bad u = compared-judged ∙ rw (sym e ∙ u)

      module _ (good : v ≡ Ok tt) where
        pub apart-bad :
            Names.agree (type_meant t l.is) (type_meant t r.is) ≡ false →
            AtomTried Γ vs (cmp (Decode.rel_of (kind_number kind)) (expr_of a) (expr_of b)) (Err Fault.WrongType)
        unfolding AtomTried and_then test
        apart-bad y = compared-judged ∙ rw (sym e ∙ good, y)

        pub compared-row :
            IsRelation (kind_number kind) → Names.agree (type_meant t l.is) (type_meant t r.is) ≡ true →
            AtomTried Γ vs (cmp (Decode.rel_of (kind_number kind)) (expr_of a) (expr_of b)) (Ok (record { kind = kind; left = l.expr; right = r.expr }))
        unfolding AtomTried and_then test
        compared-row i y =
            let s = lower-good l.verdict r.verdict (sym e ∙ good) in (
              compared-judged ∙ rw (sym e ∙ good, y),
              compared_is kind a b l.expr r.expr i (sym p.verdict ∙ s.0) (sym q.verdict ∙ s.1) p.expr q.expr,
            )

-- THE ATOM OF A KIND
module _ (k : ℕ) (a b : Name) (form : is_atom (atom_word k) a b ≡ true) where
  kind-is : (read_atom ≤ k) × (k ≤ ne_atom)
  kind-is = kind-bounds k (atom-begins (atom_word k) a b form)

  pub is-access : k < eq_atom → IsAccess k
  is-access l = (kind-is.0, l)

  pub is-relation : eq_atom ≤ k → IsRelation k
  is-relation l = (l, kind-is.1)

  pub compared-form : eq_atom ≤ k → (is_expr a ≡ true) × (is_expr b ≡ true)
  compared-form l = comparison-form a b k l kind-is.1 form

  -- the tests of a permission, by its kind
  module _ (Γ : Declarations) (vs : List Variable) where
    pub access-judged : k < chain_atom → expr_judged Γ vs (path a b) ≡ atom_judged Γ vs (own (Decode.permit_of k) a b)
    unfolding atom_judged Decode.permit_of is_path test and_then
    access-judged l = rw (ne_eqb k chain_atom (λ e. omega arith)) (go (eqb k 2) (expr_judged Γ vs (path a b)))
      where
        go : (p : Bool) (v : Verdict) → v ≡ and_then v (test (is_path (cond p acc read) || Names.chains Γ vs a b) Fault.WrongType (Ok tt))
        go true (Ok u) = refl
        go true (Err f) = refl
        go false (Ok u) = refl
        go false (Err f) = refl

    pub chain-judged : k ≡ chain_atom → chain_judged Γ vs a b ≡ atom_judged Γ vs (own (Decode.permit_of k) a b)
    unfolding atom_judged chain_judged Decode.permit_of is_path
    chain-judged e = rw e

  module _ (Γ : Declarations) (vs : List Variable) (r : Result AtomRow Fault) where
    pub access-tried : k < eq_atom → AtomTried Γ vs (own (Decode.permit_of k) a b) r → AtomTried Γ vs (atom_of (atom_word k) a b) r
    access-tried l x = subst (λ y. AtomTried Γ vs y r) (sym (permission-of a b k kind-is.0 l)) x

    pub compared-tried :
        eq_atom ≤ k → AtomTried Γ vs (cmp (Decode.rel_of k) (expr_of a) (expr_of b)) r → AtomTried Γ vs (atom_of (atom_word k) a b) r
    compared-tried l x = subst (λ y. AtomTried Γ vs y r) (sym (comparison-of a b k l kind-is.1)) x
