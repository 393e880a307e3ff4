-- The row of a line without atoms, by the number of its kind.
use Rattle.std.proofs.Common.{Result, Ok, Err}
use Rattle.read_types.specs.Verdicts.{Verdict}
use mathlib.Core.Path.{◌≡◌, refl, sym, ap, subst, ◌∙◌}
use mathlib.Core.Bool.{Bool, true, false, ◌||◌}
use mathlib.Core.List.{List}
use mathlib.Core.Logic.{inl, inr}
use Prim.Native.Nat.{ℕ, ◌<◌}
use native.Mathlib.Omega.{arith}
use lib.Dec.{eqb}
use lib.ListN.{length, drop}
use borrow.Author.Tests.{eqb-true}
use Rattle.rules.specs.Base as Base
use Rattle.rules.specs.Base.{Name}
use Rattle.rules.specs.Limits.{most_statements}
use Rattle.rules.specs.Grammar as Grammar
use Rattle.rules.specs.Grammar.{form, is_formed, statement_number, is_computing}
use Rattle.rules.specs.Scope.{Declarations, Variable, Scope}
use Rattle.rules.specs.Items.{item_of}
use Rattle.read_words.specs.Words.{kind_at}
use Rattle.read_fields.specs.Cuts.{more}
use Rattle.read_grammar.specs.Rows.{kind_numbered}
use Rattle.tables.specs.Decode.{byte_at}
use Rattle.read_scopes.specs.declared.Names as Counts
use Rattle.read_scopes.specs.Meanings.{AreaFits, NamesFit, declarations_in, variables_in}
use Rattle.rules.specs.Syntax.{Operation, sum, difference, Program}
use Rattle.rules.specs.Reading.{with_item}
use Rattle.tables.specs.declared.Operands.{Operands}
use Rattle.write_rows.specs.Puts.{put_row, RowBytes}
use Rattle.tables.specs.Tables.{OperandsFit}
use Rattle.write_rows.specs.Holds.{Holds}
use Rattle.write_rows.proofs.Rows.{row_bytes, row-names, row-length}
use Rattle.read_types.specs.declared.Fault.{Fault}
use Rattle.resolve_pass.specs.Passes.{counts, line_judged}
use Rattle.read_declarations.specs.Declares.{line_with}
use Rattle.write_plain.specs.Plain.{set_row, new_row, call_row, return_row, compute_row, open_row, shut_row, plain_row, plain_judged, RowTried, is_plain, PlainFollows, PlainPut, PlainTried}
use Rattle.write_plain.proofs.Goods.{set-judged, new-judged, call-judged, return-judged, else-judged, end-judged, again-judged, compute-judged, open-judged, shut-judged, computing}
use Rattle.write_plain.proofs.Rows.{set-ok, new_ok, call_ok, return-ok, compute-ok, open-ok, shut_ok, empty-ok, set-written, new-written, call-written, return-written, compute-written, else-written, end-written, again-written, open-written, shut-written}

either : {A : Type 0} (k m : ℕ) (b : Bool) → (eqb k m || b) ≡ true → (k ≡ m → A) → (b ≡ true → A) → A
either {A} k m b e f g = go (eqb k m) refl e
  where
    go : (q : Bool) → eqb k m ≡ q → (q || b) ≡ true → A
    go true i h = f (eqb-true k m i)
    go false i h = g h

plain-kinds :
    (P : ℕ → Type 0) (k : ℕ) → is_plain k ≡ true → P 8 → P 10 → P 11 → P 12 → P 16 → P 18 → P 22 → P 23 → P 24 → ((o : Operation) → P (statement_number (computing o))) → P k
unfolding is_plain is_computing statement_number
plain-kinds P k e a b c d f g j m n h =
    either k 8 _ e (λ q. subst P (sym q) a)
    (λ e. either k 10 _ e (λ q. subst P (sym q) b)
    (λ e. either k 11 _ e (λ q. subst P (sym q) c)
    (λ e. either k 12 _ e (λ q. subst P (sym q) d)
    (λ e. either k 16 _ e (λ q. subst P (sym q) f)
    (λ e. either k 18 _ e (λ q. subst P (sym q) g)
    (λ e. either k 22 _ e (λ q. subst P (sym q) j)
    (λ e. either k 23 _ e (λ q. subst P (sym q) m)
    (λ e. either k 24 _ e (λ q. subst P (sym q) n)
    (λ e. either k 19 _ e (λ q. subst P (sym q) (h sum)) (λ e. subst P (sym (eqb-true k 20 e)) (h difference)))))))))))

module _ (t w : List ℕ) (c : Counts.Names) (fits : NamesFit c) (l : ℕ) (ws : List Name) where
  abbrev Γ : Declarations
  Γ = declarations_in t w c

  abbrev vs : List Variable
  vs = variables_in t w c

  abbrev row_of : ℕ → Operands
  row_of k = plain_row Γ vs ws l k

  abbrev GoodOf : ℕ → Type 0
  GoodOf k = plain_judged Γ vs ws k ≡ Ok tt

  -- the tests of a line that has its form
  pub plain-judged :
      (s : Scope) (k : ℕ) → is_plain k ≡ true → is_formed (form (kind_numbered k)).operands (form (kind_numbered k)).tail ws ≡ true →
      line_judged Γ vs s (line_with (kind_numbered k) ws) ≡ plain_judged Γ vs ws k
  unfolding kind_numbered kind_at Base.with_default Base.first Grammar.kind_number Grammar.statement_number is_computing plain_judged
  plain-judged s k e =
      plain-kinds
      (λ k.
      is_formed (form (kind_numbered k)).operands (form (kind_numbered k)).tail ws ≡ true →
      line_judged Γ vs s (line_with (kind_numbered k) ws) ≡ plain_judged Γ vs ws k)
      k e
      (set-judged Γ vs s ws)
      (new-judged Γ vs s ws)
      (call-judged Γ vs s ws)
      (return-judged Γ vs s ws)
      (else-judged Γ vs s ws)
      (end-judged Γ vs s ws)
      (again-judged Γ vs s ws)
      (open-judged Γ vs s ws)
      (shut-judged Γ vs s ws)
      (λ o. computes-judged o)
    where
      computes-judged :
          (o : Operation) →
          is_formed (form (kind_numbered (statement_number (computing o)))).operands (form (kind_numbered (statement_number (computing o)))).tail ws ≡ true →
          line_judged Γ vs s (line_with (kind_numbered (statement_number (computing o))) ws) ≡ plain_judged Γ vs ws (statement_number (computing o))
      computes-judged sum = compute-judged Γ vs s sum ws
      computes-judged difference = compute-judged Γ vs s difference ws

  pub plain-bytes : (k : ℕ) → is_plain k ≡ true → l < 65536 → GoodOf k → RowBytes (row_of k)
  unfolding plain_row plain_judged set_row new_row call_row return_row compute_row open_row shut_row is_computing statement_number
  plain-bytes k e line =
      let small : (r : Operands) → r.member < 256 → r.line < 65536 → OperandsFit (counts c) 0 r → RowBytes r =
      λ r. row_bytes (counts c) 0 r (omega arith) in
      plain-kinds (λ k. GoodOf k → RowBytes (row_of k)) k e
      (λ x. let o = set-ok t w c fits 0 l ws x in small (row_of 8) (omega (arith, o.field (inl refl))) line o)
      (λ x. let o = new_ok t w c fits 0 l ws x in small (row_of 10) (omega (arith, o.class refl, fits.classes)) line o)
      (λ x. let o = call_ok t w c fits 0 l ws x in small (row_of 11) (omega (arith, o.method refl, fits.methods)) line o)
      (λ x. small (row_of 12) (omega arith) line (return-ok t w c fits 0 l ws x))
      (λ x. small (row_of 16) (omega arith) line (empty-ok t w c fits 0 l 16 (omega arith, omega arith) (omega arith, omega arith) (λ e. omega arith)))
      (λ x. small (row_of 18) (omega arith) line (empty-ok t w c fits 0 l 18 (omega arith, omega arith) (omega arith, omega arith) (λ e. omega arith)))
      (λ x. small (row_of 22) (omega arith) line (empty-ok t w c fits 0 l 22 (omega arith, omega arith) (omega arith, omega arith) (λ e. omega arith)))
      (λ x. let o = open-ok t w c fits 0 l ws x in small (row_of 23) (omega (arith, o.field (inr (inl refl)))) line o)
      (λ x. let o = shut_ok t w c fits 0 l ws x in small (row_of 24) (omega (arith, o.field (inr (inr refl)))) line o)
      (λ o. computes-small small o)
    where
      computes-small :
          ((r : Operands) → r.member < 256 → r.line < 65536 → OperandsFit (counts c) 0 r → RowBytes r) → (o : Operation) →
          GoodOf (statement_number (computing o)) → RowBytes (row_of (statement_number (computing o)))
      computes-small small sum x = small (row_of 19) (omega arith) line (compute-ok t w c fits 0 l sum ws x)
      computes-small small difference x = small (row_of 20) (omega arith) line (compute-ok t w c fits 0 l difference ws x)

  plain-written :
      (F : Program) (n : ℕ) → length F.rows < most_statements → Holds (counts c) w F n → (k : ℕ) → is_plain k ≡ true → GoodOf k →
      Holds (counts c) (put_row w (length F.rows) (row_of k))
      (with_item F l (item_of Γ vs (kind_numbered k) (line_with (kind_numbered k) ws))) n
  unfolding kind_numbered kind_at Base.with_default Base.first Grammar.kind_number Grammar.statement_number is_computing plain_row plain_judged
  plain-written F n room h k e =
      plain-kinds
      (λ k.
      GoodOf k →
      Holds (counts c) (put_row w (length F.rows) (row_of k))
      (with_item F l (item_of Γ vs (kind_numbered k) (line_with (kind_numbered k) ws))) n)
      k e
      (set-written t w c fits n l F room h ws)
      (new-written t w c fits n l F room h ws)
      (call-written t w c fits n l F room h ws)
      (return-written t w c fits n l F room h ws)
      (λ x. else-written t w c fits n l F room h ws)
      (λ x. end-written t w c fits n l F room h ws)
      (λ x. again-written t w c fits n l F room h ws)
      (open-written t w c fits n l F room h ws)
      (shut-written t w c fits n l F room h ws)
      (λ o. computes-written o)
    where
      computes-written :
          (o : Operation) → GoodOf (statement_number (computing o)) →
          Holds (counts c) (put_row w (length F.rows) (row_of (statement_number (computing o))))
          (with_item F l
          (item_of Γ vs (kind_numbered (statement_number (computing o))) (line_with (kind_numbered (statement_number (computing o))) ws))) n
      computes-written sum = compute-written t w c fits n l F room h sum ws
      computes-written difference = compute-written t w c fits n l F room h difference ws

-- THE ANSWER
pub row_is : (v : Verdict) (o p : Operands) (q : Result Operands Fault) → q ≡ Ok p → RowTried v o q → (v ≡ Ok tt) × (p ≡ o)
unfolding RowTried
row_is v o p q e h = subst (RowTried v o) e h

pub row-none : (v : Verdict) (o : Operands) (q : Result Operands Fault) (f : Fault) → q ≡ Err f → RowTried v o q → v ≡ Err f
unfolding RowTried
row-none v o q f e h = subst (RowTried v o) e h

module _ (t w : List ℕ) (c : Counts.Names) (k r i l : ℕ) (v : List ℕ) (ready : AreaFits w c) (x : PlainFollows t k r) where
  abbrev fields : List Name
  fields = more (drop r t)

  plain-put :
      i < most_statements → plain_judged (declarations_in t w c) (variables_in t w c) fields k ≡ Ok tt →
      v ≡ put_row w i (plain_row (declarations_in t w c) (variables_in t w c) fields l k) → PlainPut t w c k r i l v
  plain-put room good e =
      let o : Operands = plain_row (declarations_in t w c) (variables_in t w c) fields l k in
      record {
        built = λ F n j h.
            subst
            (λ z.
            Holds (counts c) z
            (with_item F l (item_of (declarations_in t w c) (variables_in t w c) (kind_numbered k) (line_with (kind_numbered k) fields))) n)
            (sym (e ∙ ap (λ p. put_row w p o) (sym j)))
            (plain-written t w c ready.fits l fields F n (omega (arith, j)) h k x.kind good);
        names = λ p a d. ap (λ z. byte_at z p) e ∙ row-names w i o ready.whole room p a d;
        size = ap length e ∙ row-length w i o ready.whole room;
      }

  pub plain_done :
      i < most_statements → plain_judged (declarations_in t w c) (variables_in t w c) fields k ≡ Ok tt →
      v ≡ put_row w i (plain_row (declarations_in t w c) (variables_in t w c) fields l k) → PlainTried t w c k r i l v (Ok tt)
  unfolding PlainTried
  plain_done room good e = (λ s. plain-judged t w c ready.fits l fields s k x.kind x.formed ∙ good, plain-put room good e)

  pub plain-bad :
      (f : Fault) → plain_judged (declarations_in t w c) (variables_in t w c) fields k ≡ Err f → v ≡ w →
      PlainTried t w c k r i l v (Err f)
  unfolding PlainTried
  plain-bad f bad e = (λ s. plain-judged t w c ready.fits l fields s k x.kind x.formed ∙ bad, e)
