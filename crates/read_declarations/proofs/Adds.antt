-- The row of one line: what the declarations are with it.
use mathlib.Core.Path.{◌≡◌, refl, sym, ap, subst, ◌∙◌}
use mathlib.Core.Bool.{true, false}
use mathlib.Core.List.{List, [], ◌∷◌, ◌++◌, append-nil}
use mathlib.Core.Logic.{inr}
use Prim.Native.Nat.{ℕ, pred, ◌+◌, ◌<◌}
use native.Mathlib.Omega.{arith}
use lib.ListN.{get_or, drop}
use Rattle.rules.specs.Base.{Name}
use Rattle.rules.specs.Limits.{work_bytes, most_classes, most_methods}
use Rattle.rules.specs.Grammar as Grammar
use Rattle.rules.specs.Grammar.{Kind, Line, Class, Field, Method, kind_number, is_kind}
use Rattle.rules.specs.Scope as Scope
use Rattle.rules.specs.Scope.{classes_of, fields_of, methods_of}
use Rattle.read_words.specs.Words.{kind_or0}
use Rattle.read_fields.specs.Cuts.{more}
use Rattle.read_grammar.specs.Rows.{kind_numbered}
use Rattle.read_scan.specs.declared.Word.{Word}
use Rattle.read_scan.specs.Table.{WordAt}
use Rattle.read_grammar.proofs.Rows.{kind-of-number}
use Rattle.tables.specs.Layout.{most_names, lines_at}
use Rattle.tables.specs.Stores.{Kept, SameTables}
use Rattle.read_names.specs.declared.Span.{Span}
use Rattle.read_names.specs.declared.Row.{Row}
use Rattle.read_scopes.specs.declared.Names.{Names}
use Rattle.read_names.specs.Rows.{name_in, entry_of, put_row, SpanFits, RowFits, most_rows, classes_first, fields_first, methods_first}
use Rattle.read_scopes.specs.Meanings.{declarations_in, as_field, as_method, class_row, field_row, more_classes, more_fields, more_methods}
use Rattle.read_names.proofs.Puts.{none-fits, row-tables, row_other}
use Rattle.read_scopes.proofs.Scopes.{class-put, field_put, method-put}
use Rattle.read_declarations.specs.Texts.{line_at, FormedAt}
use Rattle.read_declarations.specs.Declares.{joined, line_with, names_after, TextFits, NameRoom, LineReady, MethodRow, method_entry, Adds}

pub class_fits : {s : Span} → SpanFits s → RowFits (class_row s)
class_fits f = record { owner = omega arith; name = f; gives = none-fits; takes = none-fits }

pub field_fits : {o : ℕ} {s g : Span} → o < 256 → SpanFits s → SpanFits g → RowFits (field_row o s g)
field_fits l f g = record { owner = l; name = f; gives = g; takes = none-fits }

-- the table of lines stands above the rows
row-lines : (t w : List ℕ) {u : List ℕ} (i : ℕ) (r : Row) → i < most_rows → u ≡ put_row t w i r → Kept lines_at work_bytes w u
row-lines t w {u} i r l e = subst (Kept lines_at work_bytes w) (sym e) (λ j a b. row_other t w i r j (inr (omega arith)))

module _ {t w : List ℕ} {c : Names} (x : TextFits t w c) (ws : List Name) {u : List ℕ} {d : Names} where
  pub class-adds :
      (s : Span) → name_in t s ≡ get_or ws 0 [] → SpanFits s → c.classes < most_classes → d ≡ more_classes c →
      u ≡ put_row t w (classes_first + c.classes) (class_row s) → Adds t w c (line_with Class ws) u d
  unfolding names_after joined Scope.opened Grammar.opened
  class-adds s n f l e i =
      let a = class-put t w c x.fits (class_row s) x.whole (class_fits f) l in
      let D = declarations_in t w c in
      record {
        names = e;
        declared =
            (λ j. declarations_in t (i j) (e j))
            ∙ (a ∙ (λ j. record { classes = D.classes ++ (n j ∷ []); fields = sym (append-nil D.fields) j; methods = sym (append-nil D.methods) j }));
        tables = subst (SameTables w) (sym i) (row-tables t w _ _);
        lines = row-lines t w _ _ (omega (arith, x.fits.classes, x.fits.fields, x.fits.methods)) i;
      }

  pub field-adds :
      (o : ℕ) (s g : Span) → o ≡ pred c.classes → name_in t s ≡ get_or ws 1 [] → name_in t g ≡ get_or ws 0 [] → RowFits (field_row o s g) →
      c.fields < most_names → d ≡ more_fields c →
      u ≡ put_row t w (fields_first + c.fields) (field_row o s g) → Adds t w c (line_with Field ws) u d
  unfolding names_after joined Scope.opened Grammar.opened as_field entry_of
  field-adds o s g q n m f l e i =
      let a = field_put t w c x.fits (field_row o s g) x.whole f l in
      let D = declarations_in t w c in
      record {
        names = e;
        declared =
            (λ j. declarations_in t (i j) (e j))
            ∙ (a ∙ (λ j. record {
              classes = sym (append-nil D.classes) j;
              fields = D.fields ++ (record { owner = q j; name = n j; type = m j } ∷ []);
              methods = sym (append-nil D.methods) j;
            }));
        tables = subst (SameTables w) (sym i) (row-tables t w _ _);
        lines = row-lines t w _ _ (omega (arith, x.fits.classes, x.fits.fields, x.fits.methods)) i;
      }

  pub method-adds :
      (o : ℕ) (m : Row) → o ≡ pred c.classes → MethodRow t o ws m → c.methods < most_methods → d ≡ more_methods c →
      u ≡ put_row t w (methods_first + c.methods) m → Adds t w c (line_with Method ws) u d
  unfolding names_after joined Scope.opened Grammar.opened as_method method_entry
  method-adds o m q r l e i =
      let a = method-put t w c x.fits m x.whole r.fits l in
      let D = declarations_in t w c in
      let n : as_method (entry_of t m) ≡ as_method (method_entry (pred c.classes) ws) = ap as_method (r.is ∙ ap (λ o. method_entry o ws) q) in
      record {
        names = e;
        declared =
            (λ j. declarations_in t (i j) (e j))
            ∙ (a ∙ (λ j. record {
              classes = sym (append-nil D.classes) j;
              fields = sym (append-nil D.fields) j;
              methods = D.methods ++ (n j ∷ []);
            }));
        tables = subst (SameTables w) (sym i) (row-tables t w _ _);
        lines = row-lines t w _ _ (omega (arith, x.fits.classes, x.fits.fields, x.fits.methods)) i;
      }

-- a line of another kind
pub none-adds :
    (t w : List ℕ) (c : Names) (l : Line) → is_kind Class l.kind ≡ false → is_kind Field l.kind ≡ false →
    is_kind Method l.kind ≡ false → Adds t w c l w c
unfolding names_after joined classes_of fields_of methods_of
none-adds t w c l a b m =
    let D = declarations_in t w c in
    record {
      names = rw (a, b, m);
      declared = rw (a, b, m)
          (λ j. record {
            classes = sym (append-nil D.classes) j;
            fields = sym (append-nil D.fields) j;
            methods = sym (append-nil D.methods) j;
          });
      tables = record { size = refl; bytes = λ i p q. refl };
      lines = λ i p q. refl;
    }

-- THE LINE BY THE NUMBER OF ITS KIND
module _ {t : List ℕ} {r n : ℕ} {c : Names} (x : LineReady t r n c) (k : Kind) (e : n ≡ kind_number k) where
  numbered_is : kind_numbered n ≡ k
  numbered_is = ap kind_numbered e ∙ kind-of-number k

  pub ready-room : NameRoom k c
  ready-room = subst (λ j. NameRoom j c) numbered_is x.room

  pub ready-formed : Grammar.is_formed (Grammar.form k).operands (Grammar.form k).tail (more (drop r t)) ≡ true
  ready-formed = subst (λ j. Grammar.is_formed (Grammar.form j).operands (Grammar.form j).tail (more (drop r t)) ≡ true) numbered_is x.formed

  pub adds-numbered :
      {w u : List ℕ} {d : Names} → Adds t w c (line_with k (more (drop r t))) u d → Adds t w c (line_with (kind_numbered n) (more (drop r t))) u d
  adds-numbered {w} {u} {d} y = subst (λ j. Adds t w c (line_with j (more (drop r t))) u d) (sym numbered_is) y

-- THE LINE BY ITS WORD
module _ {t : List ℕ} {a : ℕ} {r : Word} (f : FormedAt t a) (x : WordAt t a r) where
  pub word-kind : r.kind ≡ kind_number (line_at t a).kind
  word-kind = x.kind ∙ ap kind_or0 f.known

  pub kind-is : {k : Kind} → r.kind ≡ kind_number k → (line_at t a).kind ≡ k
  kind-is {k} e = sym (kind-of-number (line_at t a).kind) ∙ (ap kind_numbered (sym word-kind ∙ e) ∙ kind-of-number k)

  pub line-is : {k : Kind} → r.kind ≡ kind_number k → line_with k (more (drop r.end t)) ≡ line_at t a
  unfolding line_at
  line-is e = let k = kind-is e in λ j. record { kind = sym k j; fields = x.fields j }

  pub form-is :
      (k : Kind) → r.kind ≡ kind_number k → Grammar.is_formed (Grammar.form k).operands (Grammar.form k).tail (more (drop r.end t)) ≡ true
  form-is k e =
      subst (λ (l : Line). Grammar.is_formed (Grammar.form l.kind).operands (Grammar.form l.kind).tail l.fields ≡ true) (sym (line-is {k = k} e)) f.formed

  pub adds-line :
      {k : Kind} {w u : List ℕ} {c d : Names} → r.kind ≡ kind_number k → Adds t w c (line_with k (more (drop r.end t))) u d →
      Adds t w c (line_at t a) u d
  adds-line {k} {w} {u} {c} {d} e x = subst (λ l. Adds t w c l u d) (line-is e) x
