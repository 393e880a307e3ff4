-- Laws of main's variables, and of what is written of them while the lines are walked.
use mathlib.Core.Path.{◌≡◌, refl, sym, ap, subst, ◌∙◌}
use mathlib.Core.Bool.{Bool, true, false, cond, ◌&&◌, ◌||◌}
use mathlib.Core.List.{List, [], ◌∷◌, ◌++◌, append-nil, append_assoc}
use Prim.Native.Nat.{ℕ, zero, suc, ◌+◌, ◌*◌, ◌-◌, ◌≤◌, ◌<◌}
use native.Mathlib.Omega.{arith}
use lib.Dec.{eqb}
use lib.ListN.{length, get_or, drop, take, length-append}
use lib.Seq.{take-take, take_at, length-take-le}
use borrow.Author.Tests.{leb-true}
use Rattle.rules.specs.Base.{Name, bytes}
use Rattle.rules.specs.Text.{is_name}
use Rattle.rules.specs.Grammar as Grammar
use Rattle.rules.specs.Grammar.{Line, Method, Main, Var, kind_number, is_statement, is_kind, is_formed, form}
use Rattle.rules.specs.Scope.{operand}
use Rattle.rules.specs.Places.{first_place, Place, place_after, within_limits, one_more_if}
use Rattle.rules.specs.Printed.{printed_line, signed, printed_variables}
use Rattle.read_bytes.specs.Sets.{FirstInSet}
use Rattle.read_bytes.specs.declared.Set.TheVariants.{LineEnd}
use Rattle.read_bytes.proofs.Search.{both_true, true-false}
use Rattle.read_fields.specs.Cuts.{part}
use Rattle.read_grammar.specs.Coded.{coded}
use Rattle.read_grammar.proofs.Coded.{within-is, low}
use Rattle.read_fields.proofs.Cuts.{no_lines}
use Rattle.tables.specs.Decode.{word_at}
use Rattle.read_names.specs.declared.Span.{Span}
use Rattle.read_names.specs.Rows.{name_in}
use Rattle.read_declarations.specs.Texts.{lines_of, TextTaken, line_at}
use Rattle.read_declarations.specs.Declares.{line_with}
use Rattle.printer.specs.declared.Shown.{Shown}
use Rattle.printer.specs.Writes.{Writes}
use Rattle.printer.specs.Answers.{words_from, values_in, variable_line}
use Rattle.printer.specs.Variables.{locals_by, locals, ShownRoom, Shows, Goes, ShowsLocal}
use Rattle.printer.proofs.Writes.{writes-none, writes-on, writes_as, signed-few}
use Rattle.read_declarations.proofs.Walks.{Walking, walking-first, walking-placed, walking-lines, walking_on}

-- VALUES
pub words-length : (n i : ℕ) (b : List ℕ) → length (words_from n i b) ≡ n
unfolding words_from
words-length zero i b = refl
words-length (suc n) i b = ap suc (words-length n (i + 4) b)

pub word_in : (n i k : ℕ) (b : List ℕ) → k < n → get_or (words_from n i b) k 0 ≡ word_at b (i + k * 4)
unfolding words_from
word_in zero i k b h = absurd (omega arith)
word_in (suc n) i zero b h = let e : i ≡ i + 0 * 4 = omega arith in ap (λ j. word_at b j) e
word_in (suc n) i (suc k) b h =
    let e : i + 4 + k * 4 ≡ i + suc k * 4 = omega arith in word_in n (i + 4) k b (omega arith) ∙ ap (λ j. word_at b j) e

-- LINES OF VARIABLES
pub printed-on :
    (xs : List Name) (x : Name) (vs : List ℕ) → length xs < length vs →
    printed_variables xs vs ++ variable_line x (get_or vs (length xs) 0) ≡ printed_variables (xs ++ (x ∷ [])) vs
unfolding printed_variables
printed-on [] x [] h = absurd (omega arith)
printed-on [] x (v ∷ vs) h = sym (append-nil (variable_line x v))
printed-on (y ∷ xs) x [] h = absurd (omega arith)
printed-on (y ∷ xs) x (v ∷ vs) h =
    append_assoc (variable_line y v) (printed_variables xs vs) (variable_line x (get_or vs (length xs) 0))
    ∙ ap (λ l. variable_line y v ++ l) (printed-on xs x vs (omega arith))

pub line-few : (x : Name) (v : ℕ) → length x ≤ 12 → length (variable_line x v) ≤ 29
unfolding printed_line bytes
line-few x v h =
    omega (arith, length-append x (9 ∷ (signed v ++ (10 ∷ []))), length-append (signed v) (10 ∷ []), signed-few v)

pub part-name : (t : List ℕ) (s : Span) → part s.start (s.start + s.len) t ≡ name_in t s
part-name t s = let e : s.start + s.len - s.start ≡ s.len = omega arith in ap (λ n. take n (drop s.start t)) e

pub name-few : (x : Name) → is_name x ≡ true → length x ≤ 12
unfolding is_name
name-few x e = leb-true _ _ (both_true _ _ e).0

pub var-named : (ws : List Name) → is_formed (form Var).operands (form Var).tail ws ≡ true → is_name (get_or ws 1 []) ≡ true
unfolding Grammar.opened
var-named [] e = true-false (sym e)
var-named (u ∷ []) e = true-false (sym (both_true (is_name u) false e).1)
var-named (u ∷ v ∷ ws) e =
    let f = both_true (is_name u) (is_name v && eqb (length ws) 0) e in (both_true (is_name v) (eqb (length ws) 0) f.1).0

-- ONE LINE
module _ {u : List ℕ} {a : ℕ} {bs o : List ℕ} {e : ℕ} (x : Writes u a bs o e) where
  -- what was written is given up
  writes-back : Writes u a [] o a
  writes-back =
      let h : a ≤ e = omega (arith, x.end) in
      let k : a ≤ length u = omega (arith, x.size, x.high) in
      record {
        size = x.size;
        end = omega arith;
        high = omega (arith, x.high);
        are =
            sym (take-take a e o h)
            ∙ (ap (take a) x.are ∙ (take_at (take a u) bs a (length-take-le a u k) ∙ sym (append-nil (take a u))));
      }

abbrev fresh : ℕ → Shown
fresh a = record { count = 0; end = a }

module _ (a : ℕ) (b : List ℕ) (l : Line) (o : List ℕ) (s : Shown) where
  goes-empty : ((xs : List Name) → locals_by xs l ≡ []) → Goes a b l o s o (fresh a)
  unfolding printed_variables
  goes-empty e =
      record {
        size = refl;
        on = λ u xs x.
            subst (λ ys. Shows u a b ys (fresh a) o) (sym (e xs))
            (record { count = refl; bytes = writes-back x.bytes; few = omega arith });
      }

  pub goes-method : l.kind ≡ Method → Goes a b l o s o (fresh a)
  unfolding locals_by is_kind is_statement kind_number
  goes-method e = goes-empty (λ xs. rw e)

  pub goes-main : l.kind ≡ Main → Goes a b l o s o (fresh a)
  unfolding locals_by is_kind is_statement kind_number
  goes-main e = goes-empty (λ xs. rw e)

  pub goes_none :
      is_kind Method l.kind ≡ false → is_kind Main l.kind ≡ false → is_kind Var l.kind ≡ false → Goes a b l o s o s
  unfolding locals_by
  goes_none e f g =
      record { size = refl; on = λ u xs x. let h : xs ≡ locals_by xs l = rw (e, f, g) in subst (λ ys. Shows u a b ys s o) h x }

pub goes-local :
    (a : ℕ) (b : List ℕ) (ws : List Name) (o : List ℕ) (s : Shown) (o' : List ℕ) (r : Shown) → s.count < 12 →
    ShowsLocal b (get_or ws 1 []) o s o' r → Goes a b (line_with Var ws) o s o' r
unfolding locals_by is_kind is_statement kind_number operand
goes-local a b ws o s o' r h y =
    record {
      size = y.bytes.size;
      on = λ u xs x.
          let n : get_or (values_in b) s.count 0 ≡ get_or (values_in b) (length xs) 0 = ap (λ k. get_or (values_in b) k 0) x.count in
          let m = printed-on xs (get_or ws 1 []) (values_in b) (omega (arith, x.count, words-length 12 4 b)) in
          record {
            count = omega (arith, y.count, x.count, length-append xs (get_or ws 1 [] ∷ []));
            bytes = writes_as (writes-on x.bytes y.bytes) (ap (λ v. printed_variables xs (values_in b) ++ variable_line (get_or ws 1 []) v) n ∙ m);
            few = omega (arith, y.few, y.count, x.few);
          };
    }

pub goes-line :
    {a : ℕ} {b : List ℕ} {l m : Line} {o : List ℕ} {s : Shown} {o' : List ℕ} {r : Shown} → l ≡ m → Goes a b l o s o' r → Goes a b m o s o' r
goes-line {a} {b} {l} {m} {o} {s} {o'} {r} e x = subst (λ k. Goes a b k o s o' r) e x

-- ALL LINES

-- the lines before p have been walked: the locals so far, and what the rest of the lines makes of them
pub record Showing (t b : List ℕ) (a : ℕ) (o : List ℕ) (p : ℕ) (s : Shown) (o' : List ℕ) : Type 0 where
  pub place : Place
  pub above : ℕ
  pub walk : Walking t p place above
  pub names : List Name
  pub shows : Shows o a b names s o'
  pub counted : length names ≡ place.locals
  pub rest : locals names (lines_of (drop p t)) ≡ locals [] (lines_of t)

pub showing-first : (t b : List ℕ) (a : ℕ) (o : List ℕ) → a ≤ length o → TextTaken t → Showing t b a o 0 (fresh a) o
unfolding printed_variables
showing-first t b a o h k =
    record {
      place = first_place;
      above = 0;
      walk = walking-first k;
      names = [];
      shows = record { count = refl; bytes = writes-none o a h; few = omega arith };
      counted = refl;
      rest = refl;
    }

locals-counted :
    (xs : List Name) (l : Line) (p : Place) → length xs ≡ p.locals → length (locals_by xs l) ≡ (place_after l.kind p).locals
unfolding locals_by place_after one_more_if
locals-counted xs l p e = go (is_kind Method l.kind || is_kind Main l.kind) (is_kind Var l.kind)
  where
    go :
        (x y : Bool) →
        length (cond x [] (cond y (xs ++ (operand l 1 ∷ [])) xs)) ≡ cond x 0 (cond y (suc p.locals) p.locals)
    go true y = refl
    go false true = omega (arith, length-append xs (operand l 1 ∷ []))
    go false false = e

one_local : (xs : List Name) (l : Line) → l.kind ≡ Var → length (locals_by xs l) ≡ length xs + 1
unfolding locals_by is_kind is_statement kind_number
one_local xs l e =
    ap (λ k. length (cond (is_kind Method k || is_kind Main k) [] (cond (is_kind Var k) (xs ++ (operand l 1 ∷ [])) xs))) e
    ∙ length-append xs (operand l 1 ∷ [])

few-locals : (p : Place) → within_limits p ≡ true → p.locals ≤ 12
unfolding coded
few-locals p e = (low (coded p) (within-is p ∙ e)).locals

module _ {t b : List ℕ} {a : ℕ} {o : List ℕ} {p : ℕ} {s : Shown} {o' : List ℕ} (x : Showing t b a o p s o') where
  pub showing-done : length t ≤ p → Writes o a (printed_variables (locals [] (lines_of t)) (values_in b)) o' s.end
  unfolding lines_of locals
  showing-done h =
      writes_as x.shows.bytes (ap (λ xs. printed_variables xs (values_in b)) (rw (no_lines t p h) at x.rest))

  module _ {e : ℕ} (l : p < length t) (f : FirstInSet t p LineEnd e) where
    pub showing-room : a + 348 ≤ length o → ShownRoom (line_at t p).kind s o'
    showing-room h =
        let m = locals-counted x.names (line_at t p) x.place x.counted in
        let n : length (locals_by x.names (line_at t p)) ≤ 12 =
        omega (arith, m, few-locals _ (walking-placed x.walk l f).room) in
        let small : (line_at t p).kind ≡ Var → s.count < 12 =
        λ k. omega (arith, x.shows.count, n, one_local x.names (line_at t p) k) in
        record { value = small; line = λ k. omega (arith, small k, x.shows.few, x.shows.bytes.size) }

    pub showing-on : {r : Shown} {o'' : List ℕ} → Goes a b (line_at t p) o' s o'' r → Showing t b a o (e + 1) r o''
    unfolding locals
    showing-on g =
        record {
          place = place_after (line_at t p).kind x.place;
          above = suc x.above;
          walk = walking_on x.walk l f;
          names = locals_by x.names (line_at t p);
          shows = g.on o x.names x.shows;
          counted = locals-counted x.names (line_at t p) x.place x.counted;
          rest = sym (ap (locals x.names) (walking-lines x.walk l f)) ∙ x.rest;
        }
