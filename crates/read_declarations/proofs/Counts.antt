-- The counts of a text that pass 1 takes: what the limits leave room for.
use mathlib.Core.Path.{◌≡◌, refl, sym, ap, subst, ◌∙◌}
use mathlib.Core.Bool.{Bool, true, false, cond, ◌&&◌}
use Prim.Native.Nat.{suc, ◌+◌, ◌*◌, ◌-◌, ◌≤◌}
use native.Mathlib.Omega.{arith}
use native.Mathlib.Numerals.{add-one}
use lib.Dec.{leb, eqb}
use borrow.Author.Tests.{leb-true}
use Rattle.rules.specs.Grammar as Grammar
use Rattle.rules.specs.Grammar.{Kind}
use Rattle.rules.specs.Grammar.{Class, Field, Method, Requires, Ensures, Main, Var, statement, Return, End, is_kind, statement_number}
use Rattle.rules.specs.Places as Places
use Rattle.rules.specs.Places.{Place, first_place, stage_number, in_place, place_after, within_limits}
use Rattle.rules.specs.Base as Base
use Rattle.read_bytes.proofs.Search.{both_true}
use Rattle.read_grammar.specs.Coded.{coded}
use Rattle.read_grammar.proofs.Coded.{within-is, low}
use Rattle.read_scopes.specs.declared.Names.{Names}
use Rattle.read_scopes.specs.Meanings.{NamesFit, more_classes, more_fields, more_methods}
use Rattle.read_declarations.specs.Declares.{names_after, no_names, NameRoom}

-- the rows of what stands above a place
pub record Counted (p : Place) (c : Names) : Type 0 where
  pub classes : c.classes ≡ p.classes
  pub methods : c.methods ≡ p.methods
  pub fields : c.fields ≤ 8 * (p.classes - 1) + p.fields
  pub owned : p.fields ≤ 8 * p.classes
  pub stage : stage_number p.stage ≡ 1 → 1 ≤ p.classes
  pub method : c.method ≡ false
  pub locals : c.locals ≡ 0
  pub result : c.result ≡ false

pub counted-first : Counted first_place no_names
unfolding stage_number
counted-first =
    record {
      classes = refl;
      methods = refl;
      fields = omega arith;
      owned = omega arith;
      stage = λ e. absurd (omega arith);
      method = refl;
      locals = refl;
      result = refl;
    }

-- what the limits say of a place
record Small (p : Place) : Type 0 where
  classes : p.classes ≤ 16
  fields : p.fields ≤ 8
  methods : p.methods ≤ 64

small : (p : Place) → within_limits p ≡ true → Small p
unfolding coded
small p e =
    let l = low (coded p) (within-is p ∙ e) in
    record { classes = l.classes; fields = l.fields; methods = l.methods }

module _ {p : Place} {c : Names} (x : Counted p c) (w : within_limits p ≡ true) where
  pub counted-fits : NamesFit c
  counted-fits =
      let s = small p w in
      record {
        classes = omega (arith, s.classes, x.classes);
        fields = omega (arith, s.classes, s.fields, x.fields);
        methods = omega (arith, s.methods, x.methods);
        locals = omega (arith, x.locals);
      }

  module _ (k : Kind) (v : within_limits (place_after k p) ≡ true) where
    pub counted-room : NameRoom k c
    unfolding Places.opened Grammar.opened
    counted-room =
        let s = small p w in
        let z = small (place_after k p) v in
        record {
          class = λ e. let h = subst (λ q. (place_after q p).classes ≤ 16) e z.classes in omega (arith, h, x.classes);
          field = λ e.
              let h = subst (λ q. (place_after q p).fields ≤ 8) e z.fields in
              omega (arith, h, x.fields, s.classes);
          method = λ e. let h = subst (λ q. (place_after q p).methods ≤ 64) e z.methods in omega (arith, h, x.methods);
        }

  -- a line that declares nothing here
  other :
      (q : Place) (d : Names) → q.classes ≡ p.classes → q.fields ≡ p.fields → q.methods ≡ p.methods → d ≡ c →
      (stage_number q.stage ≡ 1 → ⊥) → Counted q d
  other q d a f m e n =
      subst (Counted q) (sym e)
      (record {
        classes = x.classes ∙ sym a;
        methods = x.methods ∙ sym m;
        fields = omega (arith, x.fields, a, f);
        owned = omega (arith, x.owned, a, f);
        stage = λ i. absurd (n i);
        method = x.method;
        locals = x.locals;
        result = x.result;
      })

  -- no class begins after a statement, be it an `end` or not
  statement-stage :
      (e m r : Bool) → stage_number (cond e (cond m Grammar.after_main Grammar.after_method) (cond r Grammar.after_return Grammar.in_body)) ≡ 1 → ⊥
  unfolding stage_number
  statement-stage true true r i = omega arith
  statement-stage true false r i = omega arith
  statement-stage false m true i = omega arith
  statement-stage false m false i = omega arith

  counted-class : Counted (place_after Class p) (names_after Class c)
  unfolding Places.opened Grammar.opened names_after more_classes
  counted-class =
      let s = small p w in
      record {
        classes = add-one c.classes ∙ ap suc x.classes;
        methods = x.methods;
        fields = omega (arith, x.fields, x.owned, s.fields);
        owned = omega arith;
        stage = λ i. omega arith;
        method = x.method;
        locals = x.locals;
        result = x.result;
      }

  counted-field : in_place Field p ≡ true → within_limits (place_after Field p) ≡ true → Counted (place_after Field p) (names_after Field c)
  unfolding Places.opened Grammar.opened Base.opened names_after more_fields
  counted-field i m =
      let s = small (place_after Field p) m in
      let u = leb 1 (stage_number p.stage) in
      let v = leb (stage_number p.stage) 1 in
      let b : (u ≡ true) × (v ≡ true) = both_true u v (both_true (u && v) true i).0 in
      let n : stage_number p.stage ≡ 1 = omega (arith, leb-true 1 (stage_number p.stage) b.0, leb-true (stage_number p.stage) 1 b.1) in
      let o = x.stage n in
      record {
        classes = x.classes;
        methods = x.methods;
        fields = omega (arith, x.fields);
        owned = omega (arith, o, s.fields);
        stage = λ i. o;
        method = x.method;
        locals = x.locals;
        result = x.result;
      }

  counted-method : Counted (place_after Method p) (names_after Method c)
  unfolding Places.opened Grammar.opened names_after more_methods
  counted-method =
      record {
        classes = x.classes;
        methods = add-one c.methods ∙ ap suc x.methods;
        fields = x.fields;
        owned = x.owned;
        stage = λ i. absurd (omega arith);
        method = x.method;
        locals = x.locals;
        result = x.result;
      }

  pub counted-on : (k : Kind) → in_place k p ≡ true → within_limits (place_after k p) ≡ true → Counted (place_after k p) (names_after k c)
  unfolding Places.opened Grammar.opened names_after
  counted-on Class i v = counted-class
  counted-on Field i v = counted-field i v
  counted-on Method i v = counted-method
  counted-on Requires i v = other _ _ refl refl refl refl (λ e. omega arith)
  counted-on Ensures i v = other _ _ refl refl refl refl (λ e. omega arith)
  counted-on Main i v = other _ _ refl refl refl refl (λ e. omega arith)
  counted-on Var i v = other _ _ refl refl refl refl (λ e. omega arith)
  counted-on (statement a) i v = other _ _ refl refl refl refl (statement-stage (is_kind (statement End) (statement a)) p.main (eqb (statement_number a) (statement_number Return)))
