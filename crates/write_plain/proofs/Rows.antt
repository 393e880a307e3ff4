-- A line without atoms that is good: its row fits, and means its statement.
use Rattle.std.proofs.Common.{Ok}
use mathlib.Core.Path.{◌≡◌, refl, sym, ap, ◌∙◌}
use mathlib.Core.Bool.{true, not, ◌&&◌}
use mathlib.Core.List.{List, []}
use mathlib.Core.Logic.{⊎_elim}
use Prim.Native.Nat.{ℕ, ◌+◌, ◌<◌}
use native.Mathlib.Omega.{arith}
use lib.ListN.{length, get_or, drop}
use lib.Seq.{get_or-drop}
use borrow.Author.Tests.{ltb-true}
use Rattle.rules.specs.Base.{Name, any, eq_name}
use Rattle.rules.specs.Limits.{most_statements}
use Rattle.rules.specs.Text.{reserved}
use Rattle.rules.specs.Grammar.{Kind, IsStatementNumber, statement_number, is_computing, statement, Set, New, Call, Return, Else, End, Again, Open, Shut}
use Rattle.rules.specs.Scope as Scopes
use Rattle.rules.specs.Scope.{Declarations, Variable}
use Rattle.rules.specs.Names.{in_scope, is_int, is_method_of, variable_type, variable_number, field_number, class_number, method_number}
use Rattle.rules.specs.Items as Items
use Rattle.rules.specs.Items.{item_of, resolve_expr}
use Rattle.read_bytes.proofs.Search.{both_true}
use Rattle.read_fields.specs.Cuts.{more}
use Rattle.read_scopes.specs.declared.Names as Counts
use Rattle.read_names.specs.declared.Span.{Span}
use Rattle.read_names.specs.Rows.{name_in}
use Rattle.read_scopes.specs.Meanings.{NamesFit, declarations_in, variables_in}
use Rattle.read_lookups.proofs.LookUps.{class-any, method-any}
use Rattle.tables.specs.Layout.{most_names, frame_variables}
use Rattle.rules.specs.Syntax.{Operation, sum, difference, Program, path}
use Rattle.rules.specs.Reading.{with_item}
use Rattle.tables.specs.declared.Operands.{Operands}
use Rattle.write_rows.specs.Puts.{put_row}
use Rattle.write_rows.specs.Holds.{Holds}
use Rattle.tables.specs.Decode.{operation_of}
use Rattle.tables.specs.Tables.{HasField, SideFits, OperandsFit}
use Rattle.tables.proofs.Statements.{set-means, new-means, call-means, return-means, else-means, again-means, end-means, compute-means, open-means, shut-means}
use Rattle.write_rows.proofs.Rows.{no_field, row_written}
use Rattle.resolve_pass.specs.Passes.{counts}
use Rattle.read_declarations.specs.Texts.{SpanAfter}
use Rattle.read_declarations.specs.Declares.{line_with}
use Rattle.read_types.specs.declared.Fault.{Fault}
use Rattle.read_types.specs.Types.{expr_judged, chain_judged}
use Rattle.read_types.proofs.Verdicts.{then-good, test_good}
use Rattle.resolve_atoms.proofs.Sides.{variable-small, path-fits}
use Rattle.write_plain.specs.Plain.{bare, set_row, new_row, call_row, return_row, compute_row, open_row, shut_row, set_judged, new_judged, method_judged, call_judged, return_judged, compute_judged, open_judged, shut_judged}
use Rattle.write_plain.proofs.Goods.{computing}

-- the fourth field of a line
pub fourth :
    {t : List ℕ} {r : ℕ} {a b c d : Span} → SpanAfter t r a → SpanAfter t (a.start + a.len) b → SpanAfter t (b.start + b.len) c →
    SpanAfter t (c.start + c.len) d → name_in t d ≡ get_or (more (drop r t)) 3 []
fourth {t} {r} x y z u =
    u.name
    ∙ (ap (λ ws. get_or ws 0 []) (z.rest ∙ ap (drop 1) (y.rest ∙ ap (drop 1) x.rest))
    ∙ (get_or-drop 1 (drop 1 (drop 1 (more (drop r t)))) 0 []
    ∙ (get_or-drop 1 (drop 1 (more (drop r t))) 1 [] ∙ get_or-drop 1 (more (drop r t)) 2 [])))

module _ (t w : List ℕ) (c : Counts.Names) (fits : NamesFit c) (n l : ℕ) where
  abbrev Γ : Declarations
  Γ = declarations_in t w c

  abbrev vs : List Variable
  vs = variables_in t w c

  -- a row of this kind without atoms
  bare-ok :
      (k x y z m : ℕ) → IsStatementNumber k → (k ≡ 9 → ⊥) → (k ≡ 15 → ⊥) → (k ≡ 21 → ⊥) → x < frame_variables → y < frame_variables →
      z < frame_variables → (HasField k → m < most_names) → (k ≡ 10 → m < c.classes) → (k ≡ 11 → m < c.methods) → OperandsFit (counts c) n (bare k x y z m l)
  bare-ok k x y z m is no-let no-if no_loop p q r f g h =
      record {
        kind = is;
        x = p;
        y = q;
        z = r;
        field = f;
        class = g;
        method = h;
        atoms = (omega arith, omega arith);
        one_atom = λ o. ⊎_elim (λ e. absurd (no-let e)) (λ e. absurd (no-if e)) o;
        condition = λ e. absurd (no_loop e);
      }

  -- WHAT IS KNOWN
  path-known : (x f : Name) → expr_judged Γ vs (path x f) ≡ Ok tt → (variable_number vs x < frame_variables) × (field_number Γ f < most_names)
  unfolding SideFits resolve_expr
  path-known x f g = path-fits t w c fits x f g

  chain-known : (x f : Name) → chain_judged Γ vs x f ≡ Ok tt → (variable_number vs x < frame_variables) × (field_number Γ f < most_names)
  unfolding chain_judged
  chain-known x f g = path-known x f (then-good (expr_judged Γ vs (path x f)) _ g).0

  small : (x : Name) → in_scope vs x ≡ true → variable_number vs x < frame_variables
  small = variable-small t w c fits

  -- BY THE KIND OF THE LINE
  pub set-ok : (ws : List Name) → set_judged Γ vs ws ≡ Ok tt → OperandsFit (counts c) n (set_row Γ vs ws l)
  unfolding set_judged set_row
  set-ok ws e =
      let a = test_good (in_scope vs (get_or ws 2 [])) Fault.Undeclared _ e in
      let p = path-known (get_or ws 0 []) (get_or ws 1 []) (then-good (expr_judged Γ vs (path (get_or ws 0 []) (get_or ws 1 []))) _ a.1).0 in
      bare-ok 8 _ _ _ _ (omega arith, omega arith) (λ e. omega arith) (λ e. omega arith) (λ e. omega arith) p.0
      (small (get_or ws 2 []) a.0) (omega arith) (λ i. p.1) (λ i. absurd (omega arith)) (λ i. absurd (omega arith))

  pub open-ok : (ws : List Name) → open_judged Γ vs ws ≡ Ok tt → OperandsFit (counts c) n (open_row Γ vs ws l)
  unfolding open_judged open_row
  open-ok ws e =
      let a = test_good (in_scope vs (get_or ws 0 [])) Fault.Undeclared _ e in
      let p = chain-known (get_or ws 1 []) (get_or ws 2 []) (then-good (chain_judged Γ vs (get_or ws 1 []) (get_or ws 2 [])) _ a.1).0 in
      bare-ok 23 _ _ _ _ (omega arith, omega arith) (λ e. omega arith) (λ e. omega arith) (λ e. omega arith)
      (small (get_or ws 0 []) a.0) p.0 (omega arith) (λ i. p.1) (λ i. absurd (omega arith)) (λ i. absurd (omega arith))

  pub shut_ok : (ws : List Name) → shut_judged Γ vs ws ≡ Ok tt → OperandsFit (counts c) n (shut_row Γ vs ws l)
  unfolding shut_judged shut_row
  shut_ok ws e =
      let p = chain-known (get_or ws 0 []) (get_or ws 1 []) e in
      bare-ok 24 _ _ _ _ (omega arith, omega arith) (λ e. omega arith) (λ e. omega arith) (λ e. omega arith) p.0
      (omega arith) (omega arith) (λ i. p.1) (λ i. absurd (omega arith)) (λ i. absurd (omega arith))

  pub new_ok : (ws : List Name) → new_judged Γ vs ws ≡ Ok tt → OperandsFit (counts c) n (new_row Γ vs ws l)
  unfolding new_judged new_row
  new_ok ws e =
      let a = test_good (in_scope vs (get_or ws 0 [])) Fault.Undeclared _ e in
      let r = test_good (not (reserved (get_or ws 1 []))) Fault.Undeclared _ a.1 in
      let k = test_good (any (eq_name (get_or ws 1 [])) Γ.classes) Fault.Undeclared _ r.1 in
      bare-ok 10 _ _ _ _ (omega arith, omega arith) (λ e. omega arith) (λ e. omega arith) (λ e. omega arith)
      (small (get_or ws 0 []) a.0) (omega arith) (omega arith) (no_field 10 (omega arith, omega arith))
      (λ i. ltb-true (class_number Γ (get_or ws 1 [])) c.classes (sym (class-any t w c (get_or ws 1 [])) ∙ k.0)) (λ i. absurd (omega arith))

  pub return-ok : (ws : List Name) → return_judged Γ vs ws ≡ Ok tt → OperandsFit (counts c) n (return_row Γ vs ws l)
  unfolding return_judged return_row
  return-ok ws e =
      let a = test_good (in_scope vs (get_or ws 0 [])) Fault.Undeclared _ e in
      bare-ok 12 _ _ _ _ (omega arith, omega arith) (λ e. omega arith) (λ e. omega arith) (λ e. omega arith) (small (get_or ws 0 []) a.0)
      (omega arith) (omega arith) (no_field 12 (omega arith, omega arith)) (λ i. absurd (omega arith)) (λ i. absurd (omega arith))

  pub call_ok : (ws : List Name) → call_judged Γ vs ws ≡ Ok tt → OperandsFit (counts c) n (call_row Γ vs ws l)
  unfolding call_judged method_judged call_row
  call_ok ws e =
      let y : Name = get_or ws 1 [] in
      let m : Name = get_or ws 2 [] in
      let a = test_good (in_scope vs (get_or ws 0 []) && (in_scope vs y && in_scope vs (get_or ws 3 []))) Fault.Undeclared _ e in
      let b = both_true (in_scope vs (get_or ws 0 [])) _ a.0 in
      let d = both_true (in_scope vs y) _ b.1 in
      let r = test_good (not (reserved m)) Fault.Undeclared _ (then-good (method_judged Γ vs ws) _ a.1).0 in
      let i = test_good (not (is_int vs y)) Fault.WrongType _ r.1 in
      let k = test_good (any (is_method_of Γ (variable_type vs y) m) Γ.methods) Fault.Undeclared _ i.1 in
      bare-ok 11 _ _ _ _ (omega arith, omega arith) (λ e. omega arith) (λ e. omega arith) (λ e. omega arith)
      (small (get_or ws 0 []) b.0) (small y d.0) (small (get_or ws 3 []) d.1) (no_field 11 (omega arith, omega arith)) (λ i. absurd (omega arith))
      (λ j. ltb-true (method_number Γ (variable_type vs y) m) c.methods (sym (method-any t w c (variable_type vs y) m) ∙ k.0))

  pub compute-ok :
      (o : Operation) (ws : List Name) → compute_judged Γ vs ws ≡ Ok tt →
      OperandsFit (counts c) n (compute_row Γ vs ws l (statement_number (computing o)))
  unfolding compute_judged compute_row statement_number
  compute-ok o ws e =
      let a = test_good (in_scope vs (get_or ws 0 []) && (in_scope vs (get_or ws 1 []) && in_scope vs (get_or ws 2 []))) Fault.Undeclared _ e in
      let b = both_true (in_scope vs (get_or ws 0 [])) _ a.0 in
      let d = both_true (in_scope vs (get_or ws 1 [])) _ b.1 in
      go o (small (get_or ws 0 []) b.0) (small (get_or ws 1 []) d.0) (small (get_or ws 2 []) d.1)
    where
      ok : (k x y z : ℕ) → IsStatementNumber k → (18 < k) × (k < 21) → x < frame_variables → y < frame_variables → z < frame_variables → OperandsFit (counts c) n (bare k x y z 0 l)
      ok k x y z is h p q r =
          bare-ok k x y z 0 is (λ e. omega arith) (λ e. omega arith) (λ e. omega arith) p q r (no_field k (omega arith, omega arith)) (λ i. absurd (omega arith))
          (λ i. absurd (omega arith))

      go :
          (o : Operation) {x y z : ℕ} → x < frame_variables → y < frame_variables → z < frame_variables →
          OperandsFit (counts c) n (bare (statement_number (computing o)) x y z 0 l)
      go sum = ok 19 _ _ _ (omega arith, omega arith) (omega arith, omega arith)
      go difference = ok 20 _ _ _ (omega arith, omega arith) (omega arith, omega arith)

  pub empty-ok : (k : ℕ) → IsStatementNumber k → (15 < k) × (k < 23) → (k ≡ 21 → ⊥) → OperandsFit (counts c) n (bare k 0 0 0 0 l)
  empty-ok k h d no_loop =
      bare-ok k 0 0 0 0 h (λ e. omega arith) (λ e. omega arith) no_loop (omega arith) (omega arith) (omega arith) (no_field k (omega arith, d.1))
      (λ i. absurd (omega arith)) (λ i. absurd (omega arith))

  -- WHAT IS WRITTEN: the row of a good line is the line's item
  module _ (F : Program) (room : length F.rows < most_statements) (h : Holds (counts c) w F n) where
    -- the row r is written
    abbrev Written : Operands → Kind → List Name → Type 0
    Written r k ws = Holds (counts c) (put_row w (length F.rows) r) (with_item F l (item_of Γ vs k (line_with k ws))) n

    pub set-written : (ws : List Name) → set_judged Γ vs ws ≡ Ok tt → Written (set_row Γ vs ws l) (statement Set) ws
    unfolding item_of Items.resolve_statement Items.resolve_set Scopes.operand set_row
    set-written ws x = row_written (counts c) w F n (set_row Γ vs ws l) _ room (set-ok ws x) (set-means w (set_row Γ vs ws l) refl) h

    pub new-written : (ws : List Name) → new_judged Γ vs ws ≡ Ok tt → Written (new_row Γ vs ws l) (statement New) ws
    unfolding item_of Items.resolve_statement Scopes.operand new_row
    new-written ws x = row_written (counts c) w F n (new_row Γ vs ws l) _ room (new_ok ws x) (new-means w (new_row Γ vs ws l) refl) h

    pub call-written : (ws : List Name) → call_judged Γ vs ws ≡ Ok tt → Written (call_row Γ vs ws l) (statement Call) ws
    unfolding item_of Items.resolve_statement Items.resolve_call Scopes.operand call_row
    call-written ws x = row_written (counts c) w F n (call_row Γ vs ws l) _ room (call_ok ws x) (call-means w (call_row Γ vs ws l) refl) h

    pub return-written : (ws : List Name) → return_judged Γ vs ws ≡ Ok tt → Written (return_row Γ vs ws l) (statement Return) ws
    unfolding item_of Items.resolve_statement Scopes.operand return_row
    return-written ws x =
        row_written (counts c) w F n (return_row Γ vs ws l) _ room (return-ok ws x) (return-means w (return_row Γ vs ws l) refl) h

    pub compute-written :
        (o : Operation) (ws : List Name) → compute_judged Γ vs ws ≡ Ok tt →
        Written (compute_row Γ vs ws l (statement_number (computing o))) (statement (computing o)) ws
    unfolding item_of Items.resolve_statement Items.resolve_compute Scopes.operand compute_row statement_number is_computing operation_of
    compute-written sum ws x =
        row_written (counts c) w F n (compute_row Γ vs ws l 19) _ room (compute-ok sum ws x) (compute-means w (compute_row Γ vs ws l 19) tt) h
    compute-written difference ws x =
        row_written (counts c) w F n (compute_row Γ vs ws l 20) _ room (compute-ok difference ws x) (compute-means w (compute_row Γ vs ws l 20) tt) h

    pub open-written : (ws : List Name) → open_judged Γ vs ws ≡ Ok tt → Written (open_row Γ vs ws l) (statement Open) ws
    unfolding item_of Items.resolve_statement Items.resolve_open Scopes.operand open_row
    open-written ws x = row_written (counts c) w F n (open_row Γ vs ws l) _ room (open-ok ws x) (open-means w (open_row Γ vs ws l) refl) h

    pub shut-written : (ws : List Name) → shut_judged Γ vs ws ≡ Ok tt → Written (shut_row Γ vs ws l) (statement Shut) ws
    unfolding item_of Items.resolve_statement Scopes.operand shut_row
    shut-written ws x = row_written (counts c) w F n (shut_row Γ vs ws l) _ room (shut_ok ws x) (shut-means w (shut_row Γ vs ws l) refl) h

    pub else-written : (ws : List Name) → Written (bare 16 0 0 0 0 l) (statement Else) ws
    unfolding item_of Items.resolve_statement
    else-written ws =
        row_written (counts c) w F n (bare 16 0 0 0 0 l) _ room (empty-ok 16 (omega arith, omega arith) (omega arith, omega arith) (λ e. omega arith))
        (else-means w (bare 16 0 0 0 0 l) refl) h

    pub again-written : (ws : List Name) → Written (bare 22 0 0 0 0 l) (statement Again) ws
    unfolding item_of Items.resolve_statement
    again-written ws =
        row_written (counts c) w F n (bare 22 0 0 0 0 l) _ room (empty-ok 22 (omega arith, omega arith) (omega arith, omega arith) (λ e. omega arith))
        (again-means w (bare 22 0 0 0 0 l) refl) h

    pub end-written : (ws : List Name) → Written (bare 18 0 0 0 0 l) (statement End) ws
    unfolding item_of Items.resolve_statement
    end-written ws =
        row_written (counts c) w F n (bare 18 0 0 0 0 l) _ room (empty-ok 18 (omega arith, omega arith) (omega arith, omega arith) (λ e. omega arith))
        (end-means w (bare 18 0 0 0 0 l) refl) h
