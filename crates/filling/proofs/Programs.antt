-- The program of items with another formula at the star is the program with that requires of the star's method; number 10 is not changed.
use mathlib.Core.Path.{◌≡◌, refl, sym, ap, subst, ◌∙◌}
use mathlib.Core.Bool.{Bool, true, false, cond}
use mathlib.Core.List.{List, [], ◌∷◌, ◌++◌}
use Prim.Native.Nat.{ℕ, zero, suc, ◌+◌, ◌≤◌, ◌<◌}
use native.Mathlib.Omega.{arith}
use lib.Dec.{T, eqb, leb, leb→le}
use lib.ListN.{length, length-append}
use Rattle.rules.specs.Base.{Name, between}
use Rattle.rules.specs.Syntax.{Formula, Method, Program}
use Rattle.rules.specs.Grammar.{Kind, Line, Class, Field, Requires, Ensures, Main, Var, statement, End, Return}
use Rattle.rules.specs.Grammar.{after_main, after_method, after_return, in_body, is_kind, statement_number}
use Rattle.rules.specs.Grammar as Grammar
use Rattle.rules.specs.Places.{Place, stage_number, in_place, place_after}
use Rattle.rules.specs.Places as Places
use Rattle.rules.specs.Scope.{Declarations, Variable, Scope, declarations, scope_after}
use Rattle.rules.specs.Items.{Item, item_of, a_method, a_requires}
use Rattle.rules.specs.Reading.{no_program, on_last, with_requires, with_ensures, with_item, with_items, program, framed_item, check_framed}
use Rattle.rules.proofs.Lists.{and_both}
use Rattle.rules.proofs.LinesTaken.{line_of, seen, Taken, TakenLines, none, line}
use Rattle.filling.specs.Sets.{methods_with, program_with}
use Rattle.filling.proofs.Listed.{last-length}

-- THE LAST METHOD

last-further : {A : Type 0} (f : A → A) (a : A) (l : List A) → 1 ≤ length l → on_last f (a ∷ l) ≡ a ∷ on_last f l
unfolding on_last
last-further f a [] h = absurd (omega arith)
last-further f a (b ∷ l) h = refl

with-length : (m : ℕ) (φ : Formula ℕ) (Ms : List Method) → length (methods_with m φ Ms) ≡ length Ms
unfolding methods_with
with-length m φ [] = refl
with-length zero φ (M ∷ Ms) = refl
with-length (suc m) φ (M ∷ Ms) = ap suc (with-length m φ Ms)

-- a change of a later one
with-later :
    (f : Method → Method) (m : ℕ) (φ : Formula ℕ) (Ms : List Method) → suc m < length Ms →
    on_last f (methods_with m φ Ms) ≡ methods_with m φ (on_last f Ms)
unfolding methods_with on_last
with-later f m φ [] h = absurd (omega arith)
with-later f m φ (M ∷ []) h = absurd (omega arith)
with-later f zero φ (M ∷ N ∷ Ms) h = refl
with-later f (suc m) φ (M ∷ N ∷ Ms) h =
    last-further f M (methods_with m φ (N ∷ Ms)) (omega (arith, with-length m φ (N ∷ Ms)))
    ∙ ap (λ r. M ∷ r) (with-later f m φ (N ∷ Ms) (omega arith))

-- its ensures is another part of it
with-ensures :
    (ψ : Formula ℕ) (m : ℕ) (φ : Formula ℕ) (Ms : List Method) →
    on_last (with_ensures ψ) (methods_with m φ Ms) ≡ methods_with m φ (on_last (with_ensures ψ) Ms)
unfolding methods_with on_last with_ensures with_requires
with-ensures ψ m φ [] = refl
with-ensures ψ zero φ (M ∷ []) = refl
with-ensures ψ (suc m) φ (M ∷ []) = refl
with-ensures ψ zero φ (M ∷ N ∷ Ms) = refl
with-ensures ψ (suc m) φ (M ∷ N ∷ Ms) =
    last-further (with_ensures ψ) M (methods_with m φ (N ∷ Ms)) (omega (arith, with-length m φ (N ∷ Ms)))
    ∙ ap (λ r. M ∷ r) (with-ensures ψ m φ (N ∷ Ms))

-- one more
with-more :
    (M : Method) (m : ℕ) (φ : Formula ℕ) (Ms : List Method) → m < length Ms →
    methods_with m φ Ms ++ (M ∷ []) ≡ methods_with m φ (Ms ++ (M ∷ []))
unfolding methods_with
with-more M m φ [] h = absurd (omega arith)
with-more M zero φ (N ∷ Ms) h = refl
with-more M (suc m) φ (N ∷ Ms) h = ap (λ r. N ∷ r) (with-more M m φ Ms (omega arith))

-- of the last itself
with-last :
    (φ : Formula ℕ) (Ms : List Method) (M : Method) →
    on_last (with_requires φ) (Ms ++ (M ∷ [])) ≡ methods_with (length Ms) φ (on_last (with_requires []) (Ms ++ (M ∷ [])))
unfolding methods_with on_last with_requires
with-last φ [] M = refl
with-last φ (N ∷ Ms) M =
    let h : 1 ≤ length (Ms ++ (M ∷ [])) = omega (arith, length-append Ms (M ∷ [])) in
    last-further (with_requires φ) N (Ms ++ (M ∷ [])) h ∙ ap (λ r. N ∷ r) (with-last φ Ms M)
    ∙ ap (methods_with (suc (length Ms)) φ) (sym (last-further (with_requires []) N (Ms ++ (M ∷ [])) h))

abbrev methods_in : Program → List Method → Program
methods_in P Ms = record { classes = P.classes; methods = Ms; rows = P.rows; main = P.main }

-- LINES BELOW: method m has its requires

-- no requires line comes for it again
pub record Passed (m : ℕ) (p : Place) (P : Program) : Type 0 where
  pub there : m < length P.methods
  pub later : T (eqb (stage_number p.stage) 3) → suc m < length P.methods

pub after-statement : (b c m : Bool) → T (eqb (stage_number (cond b (cond m after_main after_method) (cond c after_return in_body))) 3) → ⊥
unfolding stage_number
after-statement true c true t = t
after-statement true c false t = t
after-statement false true m t = t
after-statement false false m t = t

-- a requires line stands straight after its header
pub stands-after-header : (p : Place) → T (in_place Requires p) → T (eqb (stage_number p.stage) 3)
unfolding in_place between Grammar.opened stage_number
stands-after-header p t =
    let n : ℕ = stage_number p.stage in
    let (b, _) = and_both (between 3 3 n) _ t in
    let (i, j) = and_both (leb 3 n) (leb n 3) b in
    let e : n ≡ 3 = omega (arith, leb→le 3 n i, leb→le n 3 j) in
    subst (λ n. T (eqb n 3)) (sym e) tt

module _ (text : List Line) (m : ℕ) (φ : Formula ℕ) where
  abbrev Γ : Declarations
  Γ = declarations text

  module _ (p : Place) (s : Scope) (P : Program) (n : ℕ) (R : Passed m p P) where
    line-with :
        (vs : List Variable) (k : Kind) (ws : List Name) → Taken text p s (line_of k ws) →
        with_item (program_with m φ P) n (item_of Γ vs k (line_of k ws)) ≡ program_with m φ (with_item P n (item_of Γ vs k (line_of k ws)))
    unfolding with_item program_with item_of
    line-with vs Class ws t = refl
    line-with vs Field ws t = refl
    line-with vs Grammar.Method ws t = ap (methods_in P) (with-more _ m φ P.methods R.there)
    line-with vs Requires ws t =
        ap (methods_in P) (with-later _ m φ P.methods (R.later (stands-after-header p t.is_in_place)))
    line-with vs Ensures ws t = ap (methods_in P) (with-ensures _ m φ P.methods)
    line-with vs Main ws t = refl
    line-with vs Var ws t = refl
    line-with vs (statement a) ws t = refl

    line-passed : (vs : List Variable) (k : Kind) (ws : List Name) → Passed m (place_after k p) (with_item P n (item_of Γ vs k (line_of k ws)))
    unfolding with_item item_of Grammar.opened Places.opened
    line-passed vs Class ws = record { there = R.there; later = λ t. absurd t }
    line-passed vs Field ws = record { there = R.there; later = λ t. absurd t }
    line-passed vs Grammar.Method ws =
        let e = length-append P.methods (record { requires = []; ensures = []; first = length P.rows } ∷ []) in
        let i : m < length P.methods = R.there in
        record { there = omega arith; later = λ t. omega arith }
    line-passed vs Requires ws = record { there = subst (λ k. m < k) (sym (last-length _ P.methods)) R.there; later = λ t. absurd t }
    line-passed vs Ensures ws = record { there = subst (λ k. m < k) (sym (last-length _ P.methods)) R.there; later = λ t. absurd t }
    line-passed vs Main ws = record { there = R.there; later = λ t. absurd t }
    line-passed vs Var ws = record { there = R.there; later = λ t. absurd t }
    line-passed vs (statement a) ws =
        record {
          there = R.there;
          later =
              λ t.
              absurd
              (after-statement (is_kind (statement End) (statement a)) (eqb (statement_number a) (statement_number Return)) p.main t);
        }

  pub lines-with :
      (p : Place) (s : Scope) (ls : List Line) (items : List Item) → TakenLines text p s ls items → (P : Program) (n : ℕ) → Passed m p P →
      with_items (program_with m φ P) n items ≡ program_with m φ (with_items P n items)
  unfolding with_items
  lines-with p s ls items (none e) P n R = refl
  lines-with p s ls items (line {l = l} {ls = ms} {items = is} t ts) P n R =
      ap (λ Q. with_items Q (suc n) is) (line-with p s P (suc n) R (seen s l) l.kind l.fields t)
      ∙ lines-with (place_after l.kind p) (scope_after s l) ms is ts (with_item P (suc n) (item_of Γ (seen s l) l.kind l)) (suc n)
      (line-passed p s P (suc n) R (seen s l) l.kind l.fields)

  pub lines-passed :
      (p : Place) (s : Scope) (ls : List Line) (items : List Item) → TakenLines text p s ls items → (P : Program) (n : ℕ) → Passed m p P →
      m < length (with_items P n items).methods
  unfolding with_items
  lines-passed p s ls items (none e) P n R = R.there
  lines-passed p s ls items (line {l = l} {ls = ms} {items = is} t ts) P n R =
      lines-passed (place_after l.kind p) (scope_after s l) ms is ts (with_item P (suc n) (item_of Γ (seen s l) l.kind l)) (suc n)
      (line-passed p s P (suc n) R (seen s l) l.kind l.fields)

-- ITEMS ABOVE

items-after : (P : Program) (n : ℕ) (is js : List Item) → with_items P n (is ++ js) ≡ with_items (with_items P n is) (n + length is) js
unfolding with_items
items-after P n [] js = let e : n ≡ n + 0 = omega arith in ap (λ n. with_items P n js) e
items-after P n (a ∷ is) js =
    let e : suc n + length is ≡ n + suc (length is) = omega arith in
    items-after (with_item P (suc n) a) (suc n) is js
    ∙ ap (λ k. with_items (with_items (with_item P (suc n) a) (suc n) is) k js) e

-- the items from a header on, with its requires
abbrev pub from_header : Formula ℕ → List Item → List Item
from_header φ after = a_method ∷ a_requires φ ∷ after

header-last : (φ : Formula ℕ) (Q : Program) (j : ℕ) →
    with_item (with_item Q j a_method) (suc j) (a_requires φ)
    ≡ program_with (length Q.methods) φ (with_item (with_item Q j a_method) (suc j) (a_requires []))
unfolding with_item program_with
header-last φ Q j = ap (methods_in Q) (with-last φ Q.methods _)

header-passed :
    (p : Place) (Q : Program) (j : ℕ) → (T (eqb (stage_number p.stage) 3) → ⊥) →
    Passed (length Q.methods) p (with_item (with_item Q j a_method) (suc j) (a_requires []))
unfolding with_item
header-passed p Q j h =
    let e = length-append Q.methods (record { requires = []; ensures = []; first = length Q.rows } ∷ []) in
    let f = last-length (with_requires []) (Q.methods ++ (record { requires = []; ensures = []; first = length Q.rows } ∷ [])) in
    record { there = omega arith; later = λ t. absurd (h t) }

-- the program with a formula in the place of none, where lines of this text stand below
module _
    (text : List Line) (p : Place) (s : Scope) (below : List Line) (before after : List Item) (ts : TakenLines text p s below after)
    (past : T (eqb (stage_number p.stage) 3) → ⊥)
  where
    abbrev pub above : Program
    above = with_items no_program 0 before

    pub program-with :
        (φ : Formula ℕ) →
        program (before ++ from_header φ after) ≡ program_with (length above.methods) φ (program (before ++ from_header [] after))
    unfolding program with_items
    program-with φ =
        let j : ℕ = 0 + length before in
        let m : ℕ = length above.methods in
        items-after no_program 0 before (from_header φ after)
        ∙ ap (λ Q. with_items Q (suc (suc j)) after) (header-last φ above (suc j))
        ∙ lines-with text m φ p s below after ts (with_item (with_item above (suc j) a_method) (suc (suc j)) (a_requires [])) (suc (suc j))
        (header-passed p above (suc j) past)
        ∙ ap (program_with m φ) (sym (items-after no_program 0 before (from_header [] after)))

    pub method-there : length above.methods < length (program (before ++ from_header [] after)).methods
    unfolding program with_items
    method-there =
        let j : ℕ = 0 + length before in
        let m : ℕ = length above.methods in
        subst (λ (P : Program). m < length P.methods) (sym (items-after no_program 0 before (from_header [] after)))
        (lines-passed text m [] p s below after ts (with_item (with_item above (suc j) a_method) (suc (suc j)) (a_requires [])) (suc (suc j))
        (header-passed p above (suc j) past))

-- NUMBER 10: one item that passes for another
pub framed-with :
    (before after : List Item) (a b : Item) (n : ℕ) → framed_item a ≡ true → framed_item b ≡ true →
    check_framed (before ++ (a ∷ after)) n ≡ check_framed (before ++ (b ∷ after)) n
unfolding check_framed
framed-with [] after a b n i j = rw (i, j)
framed-with (c ∷ before) after a b n i j = let e = framed-with before after a b (suc n) i j in rw e
