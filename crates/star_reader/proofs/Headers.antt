-- The star's method: headers of methods counted by the table of lines, and a header by its row of names.
use mathlib.Core.Path.{◌≡◌, refl, sym, ap, subst, ◌∙◌}
use mathlib.Core.Bool.{Bool, true, false, cond}
use mathlib.Core.List.{List, [], ◌∷◌, ◌++◌}
use Prim.Native.Nat.{ℕ, zero, suc, pred, ◌+◌, ◌≤◌, ◌<◌}
use native.Mathlib.Omega.{arith}
use native.Mathlib.Numerals.{add-one}
use lib.Dec.{eqb}
use lib.ListN.{length, get_or, take, drop, length-drop}
use borrow.Author.Tests.{eq-eqb, ne_eqb}
use Rattle.rules.specs.Base.{keep}
use Rattle.rules.specs.Grammar.{Method, method_kind, kind_number}
use Rattle.rules.specs.Places.{Place, first_place, place_after}
use Rattle.rules.specs.Scope.{MethodDeclaration, declarations}
use Rattle.rules.specs.Names.{no_declaration, class_number}
use Rattle.rules.proofs.LineKinds.{kind-is}
use Rattle.filling.specs.Sets.{is_header, method_of_line, header_of}
use Rattle.tables.specs.Decode.{method_count}
use Rattle.tables.proofs.Runs.{run-get}
use Rattle.read_bytes.specs.Sets.{FirstInSet}
use Rattle.read_bytes.specs.declared.Set.TheVariants.{LineEnd}
use Rattle.read_scan.specs.Table.{LineTable, word_in, line_end, start_of}
use Rattle.read_scan.proofs.Table.{found-end}
use Rattle.read_names.specs.Rows.{entry_at, name_in, owner_at, takes_at, methods_first}
use Rattle.read_scopes.specs.Meanings.{as_method, declarations_in}
use Rattle.read_declarations.specs.Texts.{lines_of, TextTaken, line_at}
use Rattle.read_declarations.proofs.Walks.{Walking, walking-first, walking-done, walking-formed, walking-lines, walking_on}
use Rattle.read_declarations.proofs.Adds.{word-kind}
use Rattle.star_reader.specs.StarRead.{headers_in, class_names, MethodHere, LineHere}

-- LISTS

keep-last : {A : Type 0} (p : A → Bool) (l : List A) (a : A) → length (keep p (l ++ (a ∷ []))) ≡ cond (p a) (suc (length (keep p l))) (length (keep p l))
unfolding keep
keep-last p [] a = go (p a)
  where
    go : (b : Bool) → length (cond b (a ∷ []) []) ≡ cond b 1 0
    go true = refl
    go false = refl
keep-last p (b ∷ l) a = go (p b) (p a) (keep-last p l a)
  where
    go :
        (x y : Bool) → length (keep p (l ++ (a ∷ []))) ≡ cond y (suc (length (keep p l))) (length (keep p l)) →
        length (cond x (b ∷ keep p (l ++ (a ∷ []))) (keep p (l ++ (a ∷ []))))
        ≡ cond y (suc (length (cond x (b ∷ keep p l) (keep p l)))) (length (cond x (b ∷ keep p l) (keep p l)))
    go true true e = ap suc e
    go true false e = ap suc e
    go false true e = e
    go false false e = e

take_more : {A : Type 0} (l : List A) (n : ℕ) (a : A) (r : List A) → drop n l ≡ a ∷ r → (take (suc n) l ≡ take n l ++ (a ∷ [])) × (drop (suc n) l ≡ r)
take_more [] zero a r e = absurd (let z : ◌≡◌ {A = ℕ} 0 1 = cc in omega arith)
take_more [] (suc n) a r e = absurd (let z : ◌≡◌ {A = ℕ} 0 1 = cc in omega arith)
take_more (b ∷ l) zero a r e = ((cc), (cc))
take_more (b ∷ l) (suc n) a r e = let (x, y) = take_more l n a r e in (ap (λ m. b ∷ m) x, y)

-- THE LINES, by their table

module _ {t w : List ℕ} {n : ℕ} (k : TextTaken t) (x : LineTable t w n) where
  -- at line i
  record Walked (i : ℕ) : Type 0 where
    place : Place
    walk : Walking t (start_of t i) place i
    rest : drop i (lines_of t) ≡ lines_of (drop (start_of t i) t)

  ends : (i : ℕ) → i < n → FirstInSet t (start_of t i) LineEnd (line_end t (start_of t i))
  ends i h = let l = x.within i h in found-end t (start_of t i) (omega arith)

  walked : (i : ℕ) → i ≤ n → Walked i
  unfolding start_of
  walked zero h = record { place = first_place; walk = walking-first k; rest = refl }
  walked (suc i) h =
      let y = walked i (omega arith) in
      let l = x.within i (omega arith) in
      let f = ends i (omega arith) in
      record {
        place = place_after (line_at t (start_of t i)).kind y.place;
        walk = walking_on y.walk l f;
        rest = (take_more (lines_of t) i (line_at t (start_of t i)) _ (y.rest ∙ walking-lines y.walk l f)).1;
      }

  -- one line more
  header_is : (i : ℕ) → i < n → eqb method_kind (word_in w i).kind ≡ is_header (line_at t (start_of t i))
  unfolding is_header kind_number
  header_is i h =
      let y = walked i (omega arith) in
      let f = walking-formed y.walk (x.within i h) (ends i h) in
      ap (eqb method_kind) (word-kind f (x.words i h)) ∙ sym (kind-is Method (line_at t (start_of t i)).kind)

  line-more : (i : ℕ) → i < n → take (suc i) (lines_of t) ≡ take i (lines_of t) ++ (line_at t (start_of t i) ∷ [])
  line-more i h =
      let y = walked i (omega arith) in
      (take_more (lines_of t) i (line_at t (start_of t i)) _ (y.rest ∙ walking-lines y.walk (x.within i h) (ends i h))).0

  pub headers-are : (i : ℕ) → i ≤ n → headers_in w i ≡ length (keep is_header (take i (lines_of t)))
  unfolding headers_in keep
  headers-are zero h = refl
  headers-are (suc i) h =
      let e = headers-are i (omega arith) in
      rw (header_is i (omega arith), e) (sym (ap (λ ls. length (keep is_header ls)) (line-more i (omega arith)) ∙ keep-last is_header (take i (lines_of t)) (line_at t (start_of t i))))

  -- the table has them all
  pub all_lines : length (lines_of t) ≤ n
  all_lines =
      let y = walked n (omega arith) in
      let e : length (drop n (lines_of t)) ≡ 0 = ap length (y.rest ∙ walking-done t (start_of t n) x.all) in
      omega (arith, e, length-drop n (lines_of t))

-- A HEADER BY ITS ROW

module _ {c w : List ℕ} {m : ℕ} (x : MethodHere c w m) where
  header_row : header_of (declarations (lines_of c)) m ≡ as_method (entry_at c w (methods_first + m))
  header_row =
      ap (λ ms. get_or ms m no_declaration) (sym x.noted.methods)
      ∙ run-get (λ j. as_method (entry_at c w j)) methods_first (method_count w) m no_declaration x.within

  pub owner-is : owner_at w (methods_first + m) ≡ (header_of (declarations (lines_of c)) m).owner
  unfolding as_method entry_at
  owner-is = sym (ap (λ (d : MethodDeclaration). d.owner) header_row)

  pub takes-is : name_in c (takes_at w (methods_first + m)) ≡ (header_of (declarations (lines_of c)) m).parameter_type
  unfolding as_method entry_at
  takes-is = sym (ap (λ (d : MethodDeclaration). d.parameter_type) header_row)

  pub class-is : (y : List ℕ) → class_number (declarations_in c w (class_names w)) y ≡ class_number (declarations (lines_of c)) y
  unfolding class_number declarations_in
  class-is y = rw x.noted.classes

-- COUNTING, one line more: n headers are above line i

module _ (w : List ℕ) (i n : ℕ) (are : n ≡ headers_in w i) where
  pub one-header : (word_in w i).kind ≡ method_kind → n + 1 ≡ headers_in w (i + 1)
  unfolding headers_in
  one-header e = rw (add-one i, eq-eqb method_kind _ (sym e)) (add-one n ∙ ap suc are)

  pub no_header : ((word_in w i).kind ≡ method_kind → ⊥) → n ≡ headers_in w (i + 1)
  unfolding headers_in
  no_header e = rw (add-one i, ne_eqb method_kind _ (λ j. e (sym j))) are

-- the last header above the star is that of its method
module _ {c w : List ℕ} {l m : ℕ} (x : LineHere c w l) (e : m ≡ pred (headers_in w l)) where
  pub method-is : m ≡ method_of_line (lines_of c) l
  method-is = e ∙ ap pred (headers-are x.method.noted.taken x.method.noted.table l x.high)

  pub method-here : MethodHere c w m
  method-here = subst (MethodHere c w) (sym method-is) x.method
