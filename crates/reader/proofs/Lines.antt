-- One line of pass 2: what number 10 finds in it.
use Rattle.std.proofs.Common.{Option, Some, None, Result, Ok, Err}
use mathlib.Core.Path.{◌≡◌, refl, sym, ap, subst, ◌∙◌}
use mathlib.Core.Bool.{Bool, true, false, cond, ◌||◌}
use mathlib.Core.List.{List, []}
use Prim.Native.Nat.{ℕ, suc, ◌-◌}
use lib.Dec.{eqb}
use lib.ListN.{drop}
use mathlib.Core.Logic.{◌⊎◌, inl, inr, ⊎_elim}
use borrow.Author.Tests.{ne_eqb}
use borrow.Author.Rules.{rules}
use Rattle.rules.specs.declared.Kind as Numbered
use Rattle.rules.specs.declared.Kind.TheVariants as Variants
use Rattle.rules.specs.Numbered.{number}
use Rattle.rules.proofs.KindNumbers.{one_number, bounds, either}
use Rattle.rules.specs.Syntax.{Formula}
use Rattle.rules.specs.Grammar.{Kind, Line, Requires, Ensures, statement, Join, Loop, form, is_formed}
use Rattle.rules.specs.Grammar.{IsKindNumber, IsStatementNumber, kind_number, statement_number}
use Rattle.rules.specs.Reading.{framed, framed_item}
use Rattle.read_fields.specs.Cuts.{more}
use Rattle.read_grammar.specs.Rows.{kind_numbered}
use Rattle.read_grammar.proofs.Rows.{kind-of-number, kind-numbered}
use Rattle.tables.specs.Decode.{framed_from}
use Rattle.rules.specs.Syntax.{Program}
use Rattle.read_scan.specs.declared.Word.{Word}
use Rattle.read_types.specs.declared.Fault.{Fault}
use Rattle.resolve_pass.specs.declared.Pass.{Pass}
use Rattle.resolve_pass.specs.Passes.{is_framed, PassFits, Stands, LineRoom, LinePut, item, first_of, unframed_after, line_after, judged_here, BadLine, LineTried}
use Rattle.resolve_headers.specs.Headers.{is_declaration}
use Rattle.resolve_pass.proofs.Unframed.{framed-formula, framed-other}
use Rattle.reader.specs.Readings.{Between, Written, Begins, LineTaken, unframed_by, with_unframed}
use Rattle.resolve_bodies.specs.Bodies.{Follows}

-- the kinds that number 10 is about, by their numbers
pub framed-number : (n : ℕ) → IsKindNumber n → is_framed (kind_numbered n) ≡ (eqb 4 n || (eqb 5 n || (eqb 17 n || eqb 21 n)))
unfolding is_framed kind_number statement_number
framed-number n h = let is = kind-numbered n h in rw (is Requires, is Ensures, is (statement Join), is (statement Loop))

-- Is its number one of those four?
framed-test : Numbered.Kind → Bool
framed-test k = eqb 4 (number k) || (eqb 5 (number k) || (eqb 17 (number k) || eqb 21 (number k)))

pub framed-kind :
    {k : Numbered.Kind} → (k ≡ Variants.Requires) ⊎ ((k ≡ Variants.Ensures) ⊎ ((k ≡ Variants.Join) ⊎ (k ≡ Variants.Loop))) →
    is_framed (kind_numbered (number k)) ≡ true
unfolding framed-test
framed-kind {k} o = framed-number (number k) (bounds k) ∙ go o
  where
    go : (k ≡ Variants.Requires) ⊎ ((k ≡ Variants.Ensures) ⊎ ((k ≡ Variants.Join) ⊎ (k ≡ Variants.Loop))) → framed-test k ≡ true
    go (inl z) = ap framed-test z
    go (inr (inl z)) = ap framed-test z
    go (inr (inr (inl z))) = ap framed-test z
    go (inr (inr (inr z))) = ap framed-test z

pub other-kind :
    {k : Numbered.Kind} → (k ≡ Variants.Requires → ⊥) → (k ≡ Variants.Ensures → ⊥) → (k ≡ Variants.Join → ⊥) → (k ≡ Variants.Loop → ⊥) →
    is_framed (kind_numbered (number k)) ≡ false
other-kind {k} a b d e =
    framed-number (number k) (bounds k)
    ∙ rw (
      ne_eqb 4 (number k) (λ z. a (one_number k Variants.Requires (sym z))),
      ne_eqb 5 (number k) (λ z. b (one_number k Variants.Ensures (sym z))),
      ne_eqb 17 (number k) (λ z. d (one_number k Variants.Join (sym z))),
      ne_eqb 21 (number k) (λ z. e (one_number k Variants.Loop (sym z))),
    )

-- a statement's kind has a statement's number
pub has-statement :
    {k : Numbered.Kind} {n : ℕ} → number k ≡ n →
    (k ≡ Variants.Set) ⊎ ((k ≡ Variants.Let) ⊎ ((k ≡ Variants.New) ⊎ ((k ≡ Variants.Call) ⊎ ((k ≡ Variants.Return) ⊎ ((k ≡ Variants.Assert) ⊎ ((k ≡ Variants.Release) ⊎ ((k ≡ Variants.If) ⊎ (
    (k ≡ Variants.Else) ⊎ ((k ≡ Variants.Join) ⊎ ((k ≡ Variants.End) ⊎ ((k ≡ Variants.Add) ⊎ ((k ≡ Variants.Sub) ⊎ ((k ≡ Variants.Loop) ⊎ ((k ≡ Variants.Again) ⊎ ((k ≡ Variants.Open) ⊎ (k ≡ Variants.Shut)))))))))))))))) →
    IsStatementNumber n
has-statement e o = search rules

-- `class` and `main` are declarations
pub declares : {k : Numbered.Kind} {n : ℕ} → number k ≡ n → (k ≡ Variants.Class) ⊎ (k ≡ Variants.Main) → is_declaration n ≡ true
unfolding is_declaration
declares e o = ⊎_elim (λ z. rw z refl) (λ z. rw z refl) (either e o)

module _ {t w : List ℕ} {p : Pass} {l : Line} {w' : List ℕ} {q : Pass} (x : LinePut t w p l w' q) where
  -- the line's formula was tested
  pub unframed-is :
      (F : Program) → Stands t w p F →
      unframed_by (is_framed l.kind) (framed_from w' (kind_number l.kind) p.atoms (q.atoms - p.atoms)) p
      ≡ unframed_after p.unframed p.line (item t w p l)
  unfolding unframed_by unframed_after framed
  unframed-is F s = ap (first_of p.unframed) (go (is_framed l.kind) refl)
    where
      go :
          (b : Bool) → is_framed l.kind ≡ b →
          cond b (cond (framed [] (framed_from w' (kind_number l.kind) p.atoms (q.atoms - p.atoms))) None (Some (suc p.line))) None
          ≡ cond (framed_item (item t w p l)) None (Some (suc p.line))
      go true e = rw (x.formula e F s, framed-formula (item t w p l))
      go false e = sym (rw (framed-other _ _ l.kind l e))

  -- and is all that changes then
  pub put-unframed : (u : Option ℕ) → LinePut t w p l w' (with_unframed q u)
  unfolding with_unframed
  put-unframed u =
      record {
        counted =
            record {
              names = x.counted.names;
              above = x.counted.above;
              rows = x.counted.rows;
              grown = x.counted.grown;
              atoms = x.counted.atoms;
              condition = x.counted.condition;
              main = x.counted.main;
              line = x.counted.line;
            };
        built = λ F s.
            let y = x.built F s in
            record { holds = y.holds; rows = y.rows; classes = y.classes; methods = y.methods; main = y.main; fields = y.fields };
        formula = x.formula;
        declared = x.declared;
        scope = x.scope;
        lines = x.lines;
        size = x.size;
      }

  -- its atoms are written
  pub between :
      (k : ℕ) → IsKindNumber k → l.kind ≡ kind_numbered k → (F : Program) → Stands t w p F → PassFits t w p → LineRoom t w p l → Between w' k p q
  unfolding kind_number statement_number
  between k n i F s r m =
      record {
        kind = n;
        whole = x.size ∙ r.whole;
        line = m.line;
        low = x.counted.grown;
        high = (x.built F s).holds.atoms.few;
        condition = λ e. x.counted.condition (i ∙ (ap kind_numbered e ∙ kind-of-number (statement Loop)));
      }

  -- number 10 has its line
  pub line_taken :
      Written t w p → (k : ℕ) → kind_number l.kind ≡ k → (r : Pass) →
      r ≡ with_unframed q (unframed_by (is_framed l.kind) (framed_from w' k p.atoms (q.atoms - p.atoms)) p) → LineTaken t w p l w' r
  unfolding with_unframed
  line_taken s k e r i =
      let n : (u : ℕ) → Pass = λ u. with_unframed q (unframed_by (is_framed l.kind) (framed_from w' u p.atoms (q.atoms - p.atoms)) p) in
      subst (LineTaken t w p l w') (sym (i ∙ ap n (sym e))) (record { put = put-unframed _; unframed = unframed-is s.flat s.stands })

-- A LINE THAT IS TRIED
module _ {t w : List ℕ} {p : Pass} {r : Word} (x : Begins t w p r) where
  pub follows : LineRoom t w p (line_after t r.end r.kind) → Follows t w p r.kind r.end
  follows m = record { ready = x.ready; high = x.high; formed = x.formed; room = m }

module _ {t w : List ℕ} {p : Pass} {l : Line} {w' : List ℕ} {y : Result Pass Fault} (x : LineTried t w p l w' y) where
  pub tried-on : (q : Pass) → y ≡ Ok q → (judged_here t w p l ≡ Ok tt) × (LinePut t w p l w' q × (q.unframed ≡ p.unframed))
  unfolding LineTried
  tried-on q i = subst (LineTried t w p l w') i x

pub tried-bad :
    (t w : List ℕ) (p : Pass) (l : Line) (w' : List ℕ) (y : Result Pass Fault) (f : Fault) → LineTried t w p l w' y → y ≡ Err f → BadLine t w p l w' f
unfolding LineTried
tried-bad t w p l w' y f x i = subst (LineTried t w p l w') i x

-- a line of the kind K, by its number
module _ (t w : List ℕ) (p : Pass) {k : ℕ} (r : ℕ) (K : Kind) (e : k ≡ kind_number K) where
  pub kind-formed :
      is_formed (form (line_after t r k).kind).operands (form (line_after t r k).kind).tail (line_after t r k).fields ≡ true →
      is_formed (form K).operands (form K).tail (more (drop r t)) ≡ true
  kind-formed f =
      subst (λ (K : Kind). is_formed (form K).operands (form K).tail (more (drop r t)) ≡ true) (ap kind_numbered e ∙ kind-of-number K) f

  pub kind-room : LineRoom t w p (line_after t r k) → LineRoom t w p (line_after t r (kind_number K))
  kind-room m = subst (λ (k : ℕ). LineRoom t w p (line_after t r k)) e m

-- THE TEST, STEP BY STEP
module _ (p : Pass) (φ : Formula ℕ) (none : p.unframed ≡ None) (b r : Bool) (is : r ≡ b) where
  pub not-asked : r ≡ false → unframed_by b φ p ≡ None
  unfolding unframed_by
  not-asked e = rw (none, ← is, e)

  module _ (asked : r ≡ true) (f : Bool) (found : f ≡ framed [] φ) where
    pub all-framed : f ≡ true → unframed_by b φ p ≡ None
    unfolding unframed_by
    all-framed e = rw (none, ← is, asked, ← found, e)

    pub one-unframed : f ≡ false → unframed_by b φ p ≡ Some (suc p.line)
    unfolding unframed_by
    one-unframed e = rw (none, ← is, asked, ← found, e)
