-- What the look-ups of a line say of its tests and of its row.
use Rattle.std.proofs.Common.{Result, Ok, Err}
use mathlib.Core.Path.{◌≡◌, sym, ap, subst, ◌∙◌}
use mathlib.Core.Bool.{Bool, true, false, not, ◌&&◌}
use mathlib.Core.List.{List, []}
use Prim.Native.Nat.{ℕ, ◌+◌}
use lib.Dec.{eqb, ltb}
use lib.ListN.{get_or, drop}
use Rattle.rules.specs.Base.{Name, bytes, is, eq_name, any}
use Rattle.rules.specs.Syntax.{path}
use Rattle.rules.specs.Text.{reserved}
use Rattle.rules.specs.Scope.{Declarations, Variable}
use Rattle.rules.specs.Names.{is_local, is_int, is_method_of, class_number, method_number, method_of_class, no_declaration, variable_type}
use Rattle.read_fields.specs.Cuts.{more}
use Rattle.read_scopes.specs.declared.Names.{Names}
use Rattle.read_names.specs.declared.Span.{Span}
use Rattle.read_types.specs.declared.Member.{Member}
use Rattle.read_names.specs.Rows.{name_in}
use Rattle.read_scopes.specs.Meanings.{declarations_in, variables_in}
use Rattle.read_lookups.specs.LookUps.{Looked, type_of}
use Rattle.read_types.specs.declared.Fault.{Fault}
use Rattle.read_types.specs.Verdicts.{Verdict, test, and_then}
use Rattle.read_types.specs.Types.{expr_judged, chain_judged, MemberIs}
use Rattle.read_lookups.proofs.LookUps.{class-any, method-any}
use Rattle.tables.specs.declared.Operands.{Operands}
use Rattle.read_declarations.specs.Texts.{SpanAfter}
use Rattle.read_declarations.proofs.Lines.{second, third}
use Rattle.write_plain.specs.Plain.{bare, set_row, new_row, call_row, return_row, compute_row, open_row, shut_row, set_judged, new_judged, method_judged, call_agrees, target_judged, call_judged, return_judged, compute_judged, open_judged, shut_judged, RowTried, may_set, may_hold, may_call, may_compute, may_open}
use Rattle.write_plain.proofs.Rows.{fourth}

pub row_as : (a b : Verdict) (o p : Operands) (q : Result Operands Fault) → a ≡ b → o ≡ p → RowTried a o q → RowTried b p q
row_as a b o p q e f h = subst (λ z. RowTried z p q) e (subst (λ z. RowTried a z q) f h)

module _ (t w : List ℕ) (c : Names) (r l : ℕ) where
  abbrev Γ : Declarations
  Γ = declarations_in t w c

  abbrev vs : List Variable
  vs = variables_in t w c

  abbrev ws : List Name
  ws = more (drop r t)

  -- the variable that is a field of the line
  looked-as : {u v : Name} (x : ℕ) → u ≡ v → Looked t w vs u x → Looked t w vs v x
  looked-as x e h = subst (λ u. Looked t w vs u x) e h

  -- what was looked up of two fields of the line
  member-as :
      (b : Name → Name → Verdict) {u v x f : Name} {m : Member} → u ≡ x → v ≡ f → MemberIs t w Γ vs u v (b u v) m → MemberIs t w Γ vs x f (b x f) m
  member-as b {u} {f = f} {m} p q h = subst (λ z. MemberIs t w Γ vs z f (b z f) m) p (subst (λ z. MemberIs t w Γ vs u z (b u z) m) q h)

  -- SET
  pub set-tried :
      {a b d : Span} {x f : Name} {m : Member} {y : ℕ} {g : Verdict} {o : Operands} (q : Result Operands Fault) → SpanAfter t r a →
      SpanAfter t (a.start + a.len) b → SpanAfter t (b.start + b.len) d → x ≡ name_in t a → f ≡ name_in t b →
      MemberIs t w Γ vs x f (expr_judged Γ vs (path x f)) m → Looked t w vs (name_in t d) y → g ≡ may_set t w m y →
      o ≡ bare 8 m.variable y 0 m.number l → RowTried g o q → RowTried (set_judged Γ vs ws) (set_row Γ vs ws l) q
  unfolding set_judged set_row
  set-tried {m = m} {y} {g} {o} q p p2 p3 X F i h e k n =
      let M = member-as (λ x f. expr_judged Γ vs (path x f)) (X ∙ p.name) (F ∙ second p p2) i in
      let Y : Looked t w vs (get_or ws 2 []) y = looked-as y (third p p2 p3) h in
      row_as g _ o _ q
      (e
      ∙ (λ j.
      test (sym Y.known j) Fault.Undeclared
      (and_then (M.verdict j) (test (eq_name (M.is j) (sym Y.type j)) Fault.WrongType (Ok tt)))))
      (k ∙ (λ j. bare 8 (M.variable.number j) (Y.number j) 0 (M.number j) l)) n

  -- OPEN, SHUT
  pub open-tried :
      {a b d : Span} {m : Member} {y : ℕ} {g : Verdict} {o : Operands} (q : Result Operands Fault) → SpanAfter t r a → SpanAfter t (a.start + a.len) b →
      SpanAfter t (b.start + b.len) d → MemberIs t w Γ vs (name_in t b) (name_in t d) (chain_judged Γ vs (name_in t b) (name_in t d)) m →
      Looked t w vs (name_in t a) y → g ≡ may_open t w m y → o ≡ bare 23 y m.variable 0 m.number l → RowTried g o q →
      RowTried (open_judged Γ vs ws) (open_row Γ vs ws l) q
  unfolding open_judged open_row
  open-tried {m = m} {y} {g} {o} q p p2 p3 i h e k n =
      let M = member-as (chain_judged Γ vs) (second p p2) (third p p2 p3) i in
      let X = M.variable in
      let Y : Looked t w vs (get_or ws 0 []) y = looked-as y p.name h in
      row_as g _ o _ q
      (e
      ∙ (λ j.
      test (sym Y.known j) Fault.Undeclared
      (and_then (M.verdict j)
      (test (eq_name (sym Y.type j) (sym X.type j)) Fault.WrongType
      (test (is_local (Y.number j)) Fault.WrongTarget (test (not (eqb (Y.number j) (X.number j))) Fault.WrongTarget (Ok tt)))))))
      (k ∙ (λ j. bare 23 (Y.number j) (X.number j) 0 (M.number j) l)) n

  pub shut-tried :
      {a b : Span} {m : Member} {o : Operands} (q : Result Operands Fault) → SpanAfter t r a → SpanAfter t (a.start + a.len) b →
      MemberIs t w Γ vs (name_in t a) (name_in t b) (chain_judged Γ vs (name_in t a) (name_in t b)) m → o ≡ bare 24 m.variable 0 0 m.number l →
      RowTried m.verdict o q → RowTried (shut_judged Γ vs ws) (shut_row Γ vs ws l) q
  unfolding shut_judged shut_row
  shut-tried {m = m} {o} q p p2 i k n =
      let M = member-as (chain_judged Γ vs) p.name (second p p2) i in
      row_as m.verdict _ o _ q M.verdict (k ∙ (λ j. bare 24 (M.variable.number j) 0 0 (M.number j) l)) n

  -- NEW
  pub new-tried :
      {a b : Span} {D : Name} {x k : ℕ} {g : Verdict} {o : Operands} (q : Result Operands Fault) → SpanAfter t r a → SpanAfter t (a.start + a.len) b →
      Looked t w vs (name_in t a) x → D ≡ name_in t b → k ≡ class_number Γ D → g ≡ may_hold t w c x k b → o ≡ bare 10 x 0 0 k l →
      RowTried g o q → RowTried (new_judged Γ vs ws) (new_row Γ vs ws l) q
  unfolding new_judged new_row
  new-tried {a} {b} {D} {x} {k} {g} {o} q p p2 h d n e f i =
      let X : Looked t w vs (get_or ws 0 []) x = looked-as x p.name h in
      let C : name_in t b ≡ get_or ws 1 [] = second p p2 in
      let K : k ≡ class_number Γ (get_or ws 1 []) = n ∙ ap (class_number Γ) (d ∙ C) in
      let known : ltb k c.classes ≡ any (eq_name (get_or ws 1 [])) Γ.classes =
      ap (λ z. ltb z c.classes) K ∙ sym (class-any t w c (get_or ws 1 [])) in
      row_as g _ o _ q
      (e
      ∙ (λ j.
      test (sym X.known j) Fault.Undeclared
      (test (not (reserved (C j))) Fault.Undeclared
      (test (known j) Fault.Undeclared
      (test (eq_name (sym X.type j) (C j)) Fault.WrongType (test (is_local (X.number j)) Fault.WrongTarget (Ok tt)))))))
      (f ∙ (λ j. bare 10 (X.number j) 0 0 (K j) l)) i

  -- CALL
  pub call-tried :
      {a b d e k : Span} {x y z i : ℕ} {M : Name} {g : Verdict} {o : Operands} (q : Result Operands Fault) → SpanAfter t r a →
      SpanAfter t (a.start + a.len) b → SpanAfter t (b.start + b.len) d → SpanAfter t (d.start + d.len) e → Looked t w vs (name_in t a) x →
      Looked t w vs (name_in t b) y → Looked t w vs (name_in t e) z → k ≡ type_of w y → M ≡ name_in t d → i ≡ method_number Γ (name_in t k) M →
      g ≡ may_call t w c x y z k d i → o ≡ bare 11 x y z i l → RowTried g o q → RowTried (call_judged Γ vs ws) (call_row Γ vs ws l) q
  unfolding call_judged method_judged call_agrees target_judged call_row is_int method_of_class
  call-tried {d = d} {k = k} {x} {y} {z} {i} {g = g} {o} q p p2 p3 p4 hx hy hz class m method u f h =
      let X : Looked t w vs (get_or ws 0 []) x = looked-as x p.name hx in
      let Y : Looked t w vs (get_or ws 1 []) y = looked-as y (second p p2) hy in
      let Z : Looked t w vs (get_or ws 3 []) z = looked-as z (fourth p p2 p3 p4) hz in
      let C : name_in t k ≡ variable_type vs (get_or ws 1 []) = ap (name_in t) class ∙ sym Y.type in
      let N : i ≡ method_number Γ (variable_type vs (get_or ws 1 [])) (get_or ws 2 []) =
      method ∙ (λ j. method_number Γ (C j) ((m ∙ third p p2 p3) j)) in
      let known : ltb i c.methods ≡ any (is_method_of Γ (variable_type vs (get_or ws 1 [])) (get_or ws 2 [])) Γ.methods =
      ap (λ z. ltb z c.methods) N ∙ sym (method-any t w c (variable_type vs (get_or ws 1 [])) (get_or ws 2 [])) in
      row_as g _ o _ q
      (u
      ∙ (λ j.
      test (sym X.known j && (sym Y.known j && sym Z.known j)) Fault.Undeclared
      (and_then
      (test (not (reserved (third p p2 p3 j))) Fault.Undeclared
      (test (not (is "int" (C j))) Fault.WrongType (test (known j) Fault.Undeclared (Ok tt))))
      (test
      (eq_name (sym X.type j) (get_or Γ.methods (N j) no_declaration).result
      && eq_name (sym Z.type j) (get_or Γ.methods (N j) no_declaration).parameter_type)
      Fault.WrongType
      (test (is_local (X.number j)) Fault.WrongTarget
      (test (not (eqb (X.number j) (Y.number j))) Fault.WrongTarget
      (test (not (eqb (X.number j) (Z.number j))) Fault.WrongTarget (Ok tt))))))))
      (f ∙ (λ j. bare 11 (X.number j) (Y.number j) (Z.number j) (N j) l)) h

  -- RETURN
  module _ {a : Span} {x : ℕ} (p : SpanAfter t r a) (h : Looked t w vs (name_in t a) x) where
    R : Looked t w vs (get_or ws 0 []) x
    R = looked-as x p.name h

    pub return-unknown : ltb x 15 ≡ false → return_judged Γ vs ws ≡ Err Fault.Undeclared
    unfolding return_judged test
    return-unknown e j =
        test ((R.known ∙ e) j) Fault.Undeclared
        (test (eq_name (variable_type vs (get_or ws 0 [])) (variable_type vs (bytes "result"))) Fault.WrongType (Ok tt))

    pub return-tried :
        {s : Span} (k : Span) {b : Bool} {g : Verdict} {o : Operands} (q : Result Operands Fault) → ltb x 15 ≡ true →
        name_in t k ≡ variable_type vs (bytes "result") → s ≡ type_of w x → b ≡ eq_name (name_in t s) (name_in t k) →
        g ≡ test b Fault.WrongType (Ok tt) → o ≡ bare 12 x 0 0 0 l → RowTried g o q →
        RowTried (return_judged Γ vs ws) (return_row Γ vs ws l) q
    unfolding return_judged return_row test
    return-tried {s} k {b} {g} {o} q u n z e v f i =
        row_as g _ o _ q
        (v
        ∙ (λ j.
        test (sym (R.known ∙ u) j) Fault.Undeclared
        (test ((e ∙ (λ i. eq_name ((ap (name_in t) z ∙ sym R.type) i) (n i))) j) Fault.WrongType (Ok tt))))
        (f ∙ (λ j. bare 12 (R.number j) 0 0 0 l)) i

  -- ADD, SUB
  pub compute-tried :
      {a b d : Span} {x y z k : ℕ} {g : Verdict} {o : Operands} (q : Result Operands Fault) → SpanAfter t r a → SpanAfter t (a.start + a.len) b →
      SpanAfter t (b.start + b.len) d → Looked t w vs (name_in t a) x → Looked t w vs (name_in t b) y → Looked t w vs (name_in t d) z →
      g ≡ may_compute t w x y z → o ≡ bare k x y z 0 l → RowTried g o q → RowTried (compute_judged Γ vs ws) (compute_row Γ vs ws l k) q
  unfolding compute_judged compute_row is_int
  compute-tried {k = k} {g = g} {o = o} q p p2 p3 hx hy hz e f h =
      let X : Looked t w vs (get_or ws 0 []) _ = looked-as _ p.name hx in
      let Y : Looked t w vs (get_or ws 1 []) _ = looked-as _ (second p p2) hy in
      let Z : Looked t w vs (get_or ws 2 []) _ = looked-as _ (third p p2 p3) hz in
      row_as g _ o _ q
      (e
      ∙ (λ j.
      test (sym X.known j && (sym Y.known j && sym Z.known j)) Fault.Undeclared
      (test (is "int" (sym X.type j)) Fault.WrongType
      (test (is "int" (sym Y.type j)) Fault.WrongType
      (test (is "int" (sym Z.type j)) Fault.WrongType (test (is_local (X.number j)) Fault.WrongTarget (Ok tt)))))))
      (f ∙ (λ j. bare k (X.number j) (Y.number j) (Z.number j) 0 l)) h
