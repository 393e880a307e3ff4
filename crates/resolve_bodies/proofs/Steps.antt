-- The whole step of a line: the counts after it, and what stands.
use mathlib.Core.Path.{◌≡◌, sym, ap, subst, ◌∙◌}
use mathlib.Core.Bool.{Bool, true, false, cond}
use mathlib.Core.List.{List}
use mathlib.Core.Logic.{⊎_elim}
use Prim.Native.Nat.{ℕ, suc, ◌+◌, ◌≤◌}
use native.Mathlib.Omega.{arith}
use native.Mathlib.Numerals.{add-one}
use lib.ListN.{length}
use Rattle.rules.specs.Grammar as Grammar
use Rattle.rules.specs.Grammar.{Kind, statement, first_statement, IsStatementNumber, is_kind, is_statement, kind_number}
use Rattle.rules.specs.Places.{one_more_if}
use Rattle.rules.specs.Scope.{Declarations, Variable}
use Rattle.rules.specs.Items.{item_of}
use Rattle.read_grammar.specs.Rows.{kind_numbered}
use Rattle.read_grammar.proofs.Rows.{number-of-kind}
use Rattle.read_scopes.specs.Meanings.{declarations_in, variables_in}
use Rattle.rules.specs.Syntax.{Program}
use Rattle.rules.specs.Reading.{with_item}
use Rattle.resolve_pass.specs.declared.Pass.{Pass}
use Rattle.resolve_pass.specs.Passes.{with_block, names_after, seen_by, item, Counts, LinePut, line_after}
use Rattle.resolve_bodies.specs.Bodies.{Follows, ItemPut}
use Rattle.resolve_bodies.proofs.Lines.{Quiet, statement-quiet, header-quiet, above-is, names-is, Grown, statement-grown, requires-grown, ensures-grown, line-put}
use Rattle.resolve_bodies.proofs.Items.{kind-as, statement-kind, is-statement, no-statement, header-kind}

module _ {t w : List ℕ} {p : Pass} {k r : ℕ} (x : Follows t w p k r) {v : List ℕ} (q : Pass) (y : ItemPut t w p (line_after t r k) v q.atoms) where
  -- the counts, where the kind declares nothing
  counted :
      (o : Quiet (kind_numbered k)) → q.names ≡ names_after (kind_numbered k) p.names → q.above ≡ p.above →
      q.rows ≡ one_more_if (is_statement (kind_numbered k)) p.rows → q.main ≡ p.main → q.line ≡ p.line + 1 → Counts p (kind_numbered k) q
  counted o n a r m l =
      record {
        names = n;
        above = a ∙ sym (above-is (kind_numbered k) o p.above);
        rows = r;
        grown = y.grown;
        atoms = y.count;
        condition = y.condition;
        main = m ∙ sym (ap (λ b. cond b p.rows p.main) o.main);
        line = l;
      }

  rows_are : (b : Bool) (n : ℕ) → is_statement (kind_numbered k) ≡ b → n ≡ cond b (suc p.rows) p.rows → n ≡ one_more_if (is_statement (kind_numbered k)) p.rows
  unfolding one_more_if
  rows_are b n e i = i ∙ sym (ap (λ b. cond b (suc p.rows) p.rows) e)

  pub statement-line :
      IsStatementNumber k → q.names ≡ names_after (kind_numbered k) p.names → q.above ≡ p.above → q.rows ≡ p.rows + 1 →
      q.main ≡ p.main → q.line ≡ p.line + 1 → LinePut t w p (line_after t r k) v q
  statement-line h n u rows m l =
      let big : first_statement ≤ kind_number (kind_numbered k) = omega (arith, number-of-kind k (statement-kind h)) in
      let o = statement-quiet (kind_numbered k) big in
      line-put t w v p (line_after t r k) o x.ready y.names q y
      (counted o n u (rows_are true q.rows (is-statement k h) (rows ∙ add-one p.rows)) m l)
      (λ F s.
      subst (Grown F (with_item F (suc p.line) (item t w p (line_after t r k)))) (let e : suc (length F.rows) ≡ q.rows = omega (arith, s.rows, rows) in e)
      (statement-grown (declarations_in t w p.names) (variables_in t w (seen_by (kind_numbered k) p.names)) (kind_numbered k) big F (suc p.line) (line_after t r k)))

  stays : 4 ≤ k → k ≤ 5 → (o : Quiet (kind_numbered k)) → names_after (kind_numbered k) p.names ≡ p.names
  unfolding is_kind is_statement kind_number
  stays a b o =
      names-is (kind_numbered k) o p.names
      ∙ ap (λ e. cond e (with_block false p.names) p.names)
      (⊎_elim (λ e. ap (is_kind (statement Grammar.End)) (kind-as Grammar.Requires k e)) (λ e. ap (is_kind (statement Grammar.End)) (kind-as Grammar.Ensures k e)) (header-kind k a b))

  header-grown :
      4 ≤ k → k ≤ 5 → (Γ : Declarations) (vs : List Variable) (F : Program) (n : ℕ) →
      Grown F (with_item F n (item_of Γ vs (kind_numbered k) (line_after t r k))) (length F.rows)
  unfolding kind_number
  header-grown a b Γ vs F n =
      let P : Kind → Type 0 = λ K. Grown F (with_item F n (item_of Γ vs K (line_after t r k))) (length F.rows) in
      ⊎_elim (λ e. subst P (sym (kind-as Grammar.Requires k e)) (requires-grown Γ vs F n (line_after t r k)))
      (λ e. subst P (sym (kind-as Grammar.Ensures k e)) (ensures-grown Γ vs F n (line_after t r k))) (header-kind k a b)

  pub header-line :
      4 ≤ k → k ≤ 5 → q.names ≡ p.names → q.above ≡ p.above → q.rows ≡ p.rows → q.main ≡ p.main → q.line ≡ p.line + 1 →
      LinePut t w p (line_after t r k) v q
  header-line a b n u rows m l =
      let e = number-of-kind k (omega arith, omega arith) in
      let o = header-quiet (kind_numbered k) (omega (arith, e)) (omega (arith, e)) in
      line-put t w v p (line_after t r k) o x.ready y.names q y
      (counted o (n ∙ sym (stays a b o)) u (rows_are false q.rows (no-statement k (omega arith) (omega arith)) rows) m l)
      (λ F s.
      subst (Grown F (with_item F (suc p.line) (item t w p (line_after t r k)))) (s.rows ∙ sym rows)
      (header-grown a b (declarations_in t w p.names) (variables_in t w (seen_by (kind_numbered k) p.names)) F (suc p.line)))
