-- The rows after each line: what stands in them and what the lines that are left declare is what the text declares.
use mathlib.Core.Path.{◌≡◌, refl, sym, ap, ap₂, subst, ◌∙◌}
use mathlib.Core.Bool.{Bool, true, false, cond}
use mathlib.Core.List.{List, [], ◌∷◌, ◌++◌, append-nil, append_assoc}
use Prim.Native.Nat.{ℕ, suc, ◌+◌, ◌≤◌, ◌<◌}
use native.Mathlib.Omega.{arith}
use native.Mathlib.Numerals.{add-one}
use lib.ListN.{length, drop}
use Rattle.rules.specs.Limits.{work_bytes}
use Rattle.rules.specs.Text.{lines}
use Rattle.rules.specs.Grammar.{Kind, Line, Class, Field, Method, IsKindNumber, kind_number, is_kind}
use Rattle.rules.proofs.LineKinds.{kind-bounds}
use Rattle.rules.specs.Places.{Place, first_place, place_after}
use Rattle.rules.specs.Scope.{Declarations, classes_of, classes_above, fields_of, methods_of, declarations}
use Rattle.read_bytes.specs.Sets.{FirstInSet}
use Rattle.read_bytes.specs.declared.Set.TheVariants.{LineEnd}
use Rattle.tables.specs.Layout.{lines_at}
use Rattle.tables.specs.Stores.{Kept, SameTables}
use Rattle.tables.proofs.BytesRead.{same-trans, kept_trans}
use Rattle.read_scan.specs.declared.Word.{Word}
use Rattle.read_fields.specs.Cuts.{more}
use Rattle.read_grammar.specs.Rows.{kind_numbered}
use Rattle.read_scan.specs.Table.{WordAt, line_end}
use Rattle.read_grammar.proofs.Rows.{number-of-kind}
use Rattle.read_scan.proofs.Table.{found-end}
use Rattle.read_scopes.specs.declared.Names.{Names}
use Rattle.tables.specs.Decode.{run}
use Rattle.read_scopes.specs.Meanings.{NamesFit, declarations_in, names_from, more_classes, more_fields, more_methods}
use Rattle.read_declarations.specs.Texts.{lines_of, TextTaken, line_at, FormedAt}
use Rattle.read_declarations.specs.Declares.{joined, line_with, names_after, no_names, NameRoom, LineReady, Adds, Declares}
use Rattle.read_declarations.proofs.Walks.{Walking, walking-first, walking-done, walking-placed, walking-formed, walking-lines, walking_on}
use Rattle.read_declarations.proofs.Adds.{word-kind, kind-is, form-is, adds-line}
use Rattle.read_declarations.proofs.Counts.{Counted, counted-first, counted-fits, counted-room, counted-on}

-- LINES AND DECLARATIONS
one_on : {A : Type 0} (b : Bool) (x : A) (d r : List A) → d ++ cond b (x ∷ r) r ≡ (d ++ cond b (x ∷ []) []) ++ r
one_on true x d r = sym (append_assoc d (x ∷ []) r)
one_on false x d r = ap (λ z. z ++ r) (sym (append-nil d))

joined-on : (d : Declarations) (n : ℕ) (l : Line) (ls : List Line) → joined d n (l ∷ ls) ≡ joined (joined d n (l ∷ [])) (classes_above n l) ls
unfolding joined classes_of fields_of methods_of
joined-on d n l ls =
    let a = one_on (is_kind Class l.kind) _ d.classes (classes_of ls) in
    let b = one_on (is_kind Field l.kind) _ d.fields (fields_of (classes_above n l) ls) in
    let m = one_on (is_kind Method l.kind) _ d.methods (methods_of (classes_above n l) ls) in
    λ j. record { classes = a j; fields = b j; methods = m j }

joined-none : (d : Declarations) (n : ℕ) → joined d n [] ≡ d
unfolding joined classes_of fields_of methods_of
joined-none d n =
    λ j. record { classes = append-nil d.classes j; fields = append-nil d.fields j; methods = append-nil d.methods j }

classes-after : (c : Names) (l : Line) → (names_after l.kind c).classes ≡ classes_above c.classes l
unfolding names_after classes_above more_classes more_fields more_methods
classes-after c l = go (is_kind Class l.kind) (is_kind Field l.kind) (is_kind Method l.kind)
  where
    go :
        (x y z : Bool) →
        (cond x (more_classes c) (cond y (more_fields c) (cond z (more_methods c) c))).classes ≡ cond x (suc c.classes) c.classes
    go true y z = add-one c.classes
    go false true z = refl
    go false false true = refl
    go false false false = refl

-- THE LOOP

-- the lines before a have their rows
pub record Declaring (t v : List ℕ) (a : ℕ) (c : Names) (w : List ℕ) : Type 0 where
  pub place : Place
  pub above : ℕ
  pub walk : Walking t a place above
  pub counted : Counted place c
  pub declared : joined (declarations_in t w c) c.classes (lines_of (drop a t)) ≡ declarations (lines_of t)
  pub tables : SameTables v w
  pub lines : Kept lines_at work_bytes v w

pub declaring-first : (t w : List ℕ) (c : Names) → c ≡ no_names → TextTaken t → Declaring t w 0 c w
unfolding joined declarations_in names_from run declarations Rattle.rules.specs.Places.opened
declaring-first t w c e k =
    subst (λ d. Declaring t w 0 d w) (sym e)
    (record {
      place = first_place;
      above = 0;
      walk = walking-first k;
      counted = counted-first;
      declared = refl;
      tables = record { size = refl; bytes = λ i a b. refl };
      lines = λ i a b. refl;
    })

module _ {t v : List ℕ} {a : ℕ} {c : Names} {w : List ℕ} (x : Declaring t v a c w) where
  pub declaring-fits : NamesFit c
  declaring-fits = counted-fits x.counted x.walk.within

  pub declaring-done : length t ≤ a → Declares t v w c
  declaring-done h =
      record {
        are = sym (joined-none (declarations_in t w c) c.classes) ∙ rw (walking-done t a h) at x.declared;
        fits = declaring-fits;
        tables = x.tables;
        method = x.counted.method;
        locals = x.counted.locals;
        result = x.counted.result;
      }

  module _ {e : ℕ} (l : a < length t) (f : FirstInSet t a LineEnd e) where
    pub declaring-room : NameRoom (line_at t a).kind c
    declaring-room = counted-room x.counted x.walk.within (line_at t a).kind (walking-placed x.walk l f).room

    pub declaring-on : {d : Names} {u : List ℕ} → Adds t w c (line_at t a) u d → Declaring t v (e + 1) d u
    declaring-on {d} {u} y =
        let k : Kind = (line_at t a).kind in
        let m = walking-placed x.walk l f in
        let n : d.classes ≡ classes_above c.classes (line_at t a) = ap (λ n. n.classes) y.names ∙ classes-after c (line_at t a) in
        let ls : List Line = lines_of (drop (e + 1) t) in
        let z : joined (declarations_in t w c) c.classes (line_at t a ∷ ls) ≡ declarations (lines_of t) =
        subst (λ h. joined (declarations_in t w c) c.classes h ≡ declarations (lines_of t)) (walking-lines x.walk l f) x.declared in
        record {
          place = place_after k x.place;
          above = suc x.above;
          walk = walking_on x.walk l f;
          counted = subst (Counted (place_after k x.place)) (sym y.names) (counted-on x.counted x.walk.within k m.is_in_place m.room);
          declared = ap₂ (λ h i. joined h i ls) y.declared n ∙ (sym (joined-on (declarations_in t w c) c.classes (line_at t a) ls) ∙ z);
          tables = same-trans x.tables y.tables;
          lines = kept_trans lines_at work_bytes v w u x.lines y.lines;
        }

  -- the line here by its word
  module _ (l : a < length t) {r : Word} (y : WordAt t a r) where
    ends : FirstInSet t a LineEnd (line_end t a)
    ends = found-end t a (omega arith)

    formed : FormedAt t a
    formed = walking-formed x.walk l ends

    bounds : IsKindNumber r.kind
    bounds = omega (arith, word-kind formed y, kind-bounds (line_at t a).kind)

    numbered : r.kind ≡ kind_number (kind_numbered r.kind)
    numbered = sym (number-of-kind r.kind bounds)

    pub declaring-ready : LineReady t r.end r.kind c
    declaring-ready =
        record {
          high = y.high;
          kind = bounds;
          formed = form-is formed y (kind_numbered r.kind) numbered;
          room = subst (λ k. NameRoom k c) (kind-is formed y {k = kind_numbered r.kind} numbered) (declaring-room l ends);
        }

    pub declaring-next :
        {d : Names} {u : List ℕ} → Adds t w c (line_with (kind_numbered r.kind) (more (drop r.end t))) u d →
        Declaring t v (line_end t a + 1) d u
    declaring-next z = declaring-on l ends (adds-line formed y {k = kind_numbered r.kind} numbered z)
