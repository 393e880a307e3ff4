-- The rows of declarations in pass 2: those of the lines to come follow those of the lines above.
use mathlib.Core.Path.{◌≡◌, ap, sym, ◌∙◌}
use mathlib.Core.Bool.{Bool, true, false, cond}
use mathlib.Core.List.{List, [], ◌∷◌}
use Prim.Native.Nat.{ℕ, zero, suc, ◌+◌, ◌≤◌, ◌<◌}
use native.Mathlib.Omega.{arith}
use lib.ListN.{length, get_or, drop}
use Rattle.rules.specs.Grammar as Grammar
use Rattle.rules.specs.Grammar.{Line, Class, Field, Method, is_kind}
use Rattle.rules.specs.Places.{one_more_if}
use Rattle.rules.specs.Scope.{Declarations, operand, classes_of, classes_above, fields_of, methods_of, declarations}
use Rattle.read_scopes.specs.declared.Names.{Names}
use Rattle.read_scopes.specs.declared.Above.{Above}
use Rattle.tables.specs.Decode.{run}
use Rattle.read_names.specs.Rows.{entry_at, classes_first, fields_first, methods_first}
use Rattle.read_scopes.specs.Meanings.{NamesFit, AboveFits, as_field, as_method, names_from, declarations_in}
use Rattle.tables.proofs.Runs.{run_length, run-get}
use Rattle.resolve_pass.specs.Passes.{after, above_after}
use Rattle.resolve_pass.proofs.Counted.{above_on}

-- A LIST BY ITS REST

-- after n elements of l come those of r
pub record Rest {A : Type 0} (l : List A) (n : ℕ) (r : List A) : Type 0 where
  pub low : n ≤ length l
  pub are : drop n l ≡ r

module _ {A : Type 0} where
  rest-cons : (l : List A) (n : ℕ) (a : A) (r : List A) (d : A) → drop n l ≡ a ∷ r → (n < length l) × (get_or l n d ≡ a) × (drop (suc n) l ≡ r)
  rest-cons [] zero a r d e = absurd (let z : ◌≡◌ {A = ℕ} 0 1 = cc in omega arith)
  rest-cons [] (suc n) a r d e = absurd (let z : ◌≡◌ {A = ℕ} 0 1 = cc in omega arith)
  rest-cons (b ∷ l) zero a r d e = (omega arith, (cc), (cc))
  rest-cons (b ∷ l) (suc n) a r d e = let (x, y, z) = rest-cons l n a r d e in (omega arith, y, z)

  -- the next element, of the values of f at m numbers from i on
  pub rest-next :
      (f : ℕ → A) (i m n : ℕ) (b : Bool) (a : A) (r : List A) → b ≡ true → Rest (run f i m) n (cond b (a ∷ r) r) → (n < m) × (f (i + n) ≡ a)
  rest-next f i m n b a r e x =
      let (y, z, _) = rest-cons (run f i m) n a r a (rw e at x.are) in
      let h : n < m = omega (arith, run_length f i m) in
      (h, sym (run-get f i m n a h) ∙ z)

  -- with one element more above, or none
  pub rest-on : {l : List A} {n : ℕ} {r : List A} (b : Bool) (a : A) → Rest l n (cond b (a ∷ r) r) → Rest l (one_more_if b n) r
  unfolding one_more_if
  rest-on {l} {n} {r} true a x = let (y, _, z) = rest-cons l n a r a x.are in record { low = y; are = z }
  rest-on false a x = x

-- THE ROWS

-- after those of the lines above come those of the lines ls
pub record Follow (d : Declarations) (a : Above) (ls : List Line) : Type 0 where
  pub classes : Rest d.classes a.classes (classes_of ls)
  pub fields : Rest d.fields (after a.fields) (fields_of a.classes ls)
  pub methods : Rest d.methods (after a.methods) (methods_of a.classes ls)

pub follow-first :
    (d : Declarations) (a : Above) (ls : List Line) → d ≡ declarations ls → a.classes ≡ 0 → after a.fields ≡ 0 → after a.methods ≡ 0 →
    Follow d a ls
unfolding declarations
follow-first d a ls e c f m =
    record {
      classes = rw c (record { low = omega arith; are = ap (λ x. x.classes) e });
      fields = rw (f, c) (record { low = omega arith; are = ap (λ x. x.fields) e });
      methods = rw (m, c) (record { low = omega arith; are = ap (λ x. x.methods) e });
    }

pub follow-on : {d : Declarations} {a : Above} {l : Line} {ls : List Line} → Follow d a (l ∷ ls) → Follow d (above_after l.kind a) ls
unfolding classes_of classes_above fields_of methods_of one_more_if
follow-on {d} {a} {l} {ls} x =
    let y = above_on l.kind a in
    record {
      classes = rw y.classes (rest-on (is_kind Class l.kind) _ x.classes);
      fields = rw (y.fields, y.classes) (rest-on (is_kind Field l.kind) _ x.fields);
      methods = rw (y.methods, y.classes) (rest-on (is_kind Method l.kind) _ x.methods);
    }

module _ (t w : List ℕ) (c : Names) {a : Above} where
  pub above-fits : {ls : List Line} → NamesFit c → Follow (declarations_in t w c) a ls → AboveFits a
  unfolding declarations_in names_from
  above-fits f x =
      record {
        classes = omega (arith, f.classes, x.classes.low, run_length (λ j. (entry_at t w j).name) classes_first c.classes);
        fields = omega (arith, f.fields, x.fields.low, run_length (λ j. as_field (entry_at t w j)) fields_first c.fields);
        methods = omega (arith, f.methods, x.methods.low, run_length (λ j. as_method (entry_at t w j)) methods_first c.methods);
      }

  -- what the next line declares is in the next row of its kind
  module _ {l : Line} {ls : List Line} (x : Follow (declarations_in t w c) a (l ∷ ls)) where
    pub class-next : l.kind ≡ Class → (a.classes < c.classes) × ((entry_at t w (classes_first + a.classes)).name ≡ operand l 0)
    unfolding declarations_in names_from classes_of Grammar.opened
    class-next e =
        rest-next (λ j. (entry_at t w j).name) classes_first c.classes a.classes (is_kind Class l.kind) (operand l 0) (classes_of ls) (rw e) x.classes

    pub field_next :
        l.kind ≡ Field → (after a.fields < c.fields) × ((entry_at t w (fields_first + after a.fields)).name ≡ operand l 1)
    unfolding declarations_in fields_of as_field Grammar.opened
    field_next e =
        let (y, z) = rest-next (λ j. as_field (entry_at t w j)) fields_first c.fields (after a.fields) (is_kind Field l.kind) _ (fields_of (classes_above a.classes l) ls) (rw e) x.fields in
        (y, ap (λ d. d.name) z)

    pub method-next :
        l.kind ≡ Method → (after a.methods < c.methods) × ((entry_at t w (methods_first + after a.methods)).name ≡ operand l 1)
    unfolding declarations_in methods_of as_method Grammar.opened
    method-next e =
        let (y, z) = rest-next (λ j. as_method (entry_at t w j)) methods_first c.methods (after a.methods) (is_kind Method l.kind) _ (methods_of (classes_above a.classes l) ls) (rw e) x.methods in
        (y, ap (λ d. d.name) z)
