-- The parts of a branch, a loop's body, and a block.
use mathlib.Core.Path.{◌≡◌, refl, sym, ap, ◌∙◌, subst}
use mathlib.Core.Bool.{Bool, true, false}
use mathlib.Core.List.{List, [], ◌∷◌}
use mathlib.Core.Logic.{⊎_elim}
use mathlib.Core.Option.{none, some}
use Prim.Native.Nat.{ℕ, suc, ◌+◌, ◌-◌, ◌≤◌, ◌<◌}
use native.Mathlib.Omega.{arith}
use borrow.Author.Tests.{ne_eqb}
use Rattle.std.proofs.Common.{Result, Ok, Err, IfOk, IsErrAnd}
use Rattle.rules.specs.Limits.{most_branches}
use Rattle.rules.specs.Grammar.{Return, If, Loop, statement_number, is_closing_number, GoesOn}
use Rattle.rules.specs.Answers as Answers
use Rattle.rules.specs.Answers.{accepted, refused, then, malformed}
use Rattle.rules.specs.Syntax.{Formula}
use Rattle.rules.specs.State as Rules
use Rattle.rules.specs.Base.{ok, ◌>>=◌}
use Rattle.rules.specs.Rules.{End, Open, in_first, in_second, in_loop, return_rule, show_end, join_rule, loop_rule, check_from, check_method, check_blocks, check_program}
use Rattle.rules.proofs.Lists.{decide_eq}
use Rattle.tables.specs.Decode.{operands_at, run, kind_at, x_at, first_atom_at, left_at, right_at, if_at, loop_at, line_at, stmt_at, formula_at, row_count, program_in, method_at, methods_from, method_count, main_first, atoms_from, requires_at, ensures_at, first_row_at, byte_at, half_at, method_place}
use Rattle.check_formulas.specs.Formulas.{formula}
use Rattle.tables.specs.Tables.{Tables}
use Rattle.check_entailment.specs.declared.Refusal.{Refusal}
use Rattle.check_state.specs.States.{Wf, state_of}
use Rattle.check_entailment.specs.Answers.{Answer, answered, refusal_of, Adds}
use Rattle.check_statements.specs.Statements.{Parts, Says, end_of}
use Rattle.check_statements.proofs.Ruled.{adds_same, empty-add}
use Rattle.check_statements.proofs.Conditions.{loop-states}
use Rattle.checker.specs.declared.Reached.{Reached}
use Rattle.checker.specs.declared.RefusedRow.{RefusedRow}
use Rattle.checker.specs.declared.RefusedLine.{RefusedLine}
use Rattle.check_rows.specs.Rows.{RowIs, branches, condition_at, relation_at, body_starts, loop_leaves, Stepped}
use Rattle.checker.specs.Checked.{outcome, verdict_of, on_line, line_of, Nests, Stands, verdict_from, at_row, passed_at, row_of, from_there, Went, Ran, Passed, Returns, Ended, Turned, Closed, BodyClosed}
use Rattle.tables.proofs.Statements.{return-means, if-means, else-means, join-means, loop-means, again-means, end-means}
use Rattle.checker.proofs.Stepping.{closer, step-verdict, step-nests, return-verdict, return-nests, after-return, if-verdict, if-nests, else-verdict, else-out, else-alone, else-nests, join-verdict, join-out, join-alone, join-nests, loop-verdict, loop-nests, again-verdict, again-out, again_alone, again-nests, end-inside, end-verdict, at-line}

abbrev Verdict : Type 0
Verdict = Answers.Verdict (Unit {0})

-- OUTCOMES
pub done-outcome : (k : Answer) → k ≡ Ok tt → (l : ℕ) (v : Verdict) → outcome k l v ≡ v
unfolding outcome
done-outcome k e l v = rw e

-- what a `?` passes on
pub passed-on : {A E : Type 0} (r : Result A E) (e : E) → IsErrAnd r (λ x. x ≡ e) → r ≡ Err e
passed-on (Ok x) e p = absurd p
passed-on (Err x) e p = ap Err p

-- an answer to a line
pub line-verdict : (k : Answer) (l : ℕ) → verdict_of (on_line k l) ≡ outcome k l (accepted tt)
unfolding outcome verdict_of
line-verdict (Ok u) l = refl
line-verdict (Err e) l = refl

pub line-done : (k : Answer) (l : ℕ) (u : Unit {0}) → Ok u ≡ on_line k l → k ≡ Ok tt
line-done (Ok v) l u d = refl
line-done (Err e) l u d = absurd (cc)

pub line-refused : (k : Answer) (l : ℕ) (e : RefusedLine) → Err e ≡ on_line k l → (v : Verdict) → verdict_of (Err e) ≡ outcome k l v
unfolding outcome verdict_of
line-refused (Ok u) l e d v = absurd (cc)
line-refused (Err q) l e d v = ap verdict_of d

-- an answer to a row
row-outcome :
    {A : Type 0} (w : List ℕ) (k : Answer) (i : ℕ) (x : A) (f : A → Verdict) → outcome k (line_at w i) (f x) ≡ from_there w (at_row k i x) f
unfolding outcome from_there
row-outcome w (Ok u) i x f = refl
row-outcome w (Err e) i x f = refl

pub row-done : (k : Answer) (i : ℕ) (u : Unit {0}) → Ok u ≡ at_row k i tt → k ≡ Ok tt
row-done (Ok v) i u d = refl
row-done (Err e) i u d = absurd (cc)

row-refused :
    (w : List ℕ) (k : Answer) (i : ℕ) (e : RefusedRow) → Err e ≡ at_row {A = Unit {0}} k i tt →
    (e.row ≡ i) × ((v : Verdict) → outcome k (line_at w i) v ≡ refused (refusal_of e.why) (line_at w e.row))
unfolding outcome
row-refused w (Ok u) i e d = absurd (cc)
row-refused w (Err q) i e d =
    let z : record { why = q; row = i } ≡ e = cc in
    (ap (λ (x : RefusedRow). x.row) (sym z), λ v. ap (λ (x : RefusedRow). refused (refusal_of x.why) (line_at w x.row)) z)

pub going : (k : ℕ) → is_closing_number k ≡ false → (k ≡ 12 → ⊥) → (k ≡ 15 → ⊥) → (k ≡ 21 → ⊥) → GoesOn k
unfolding statement_number
going k a r n l = (a, n, l, r)

no_end : (k : ℕ) → GoesOn k → k ≡ 18 → ⊥
unfolding is_closing_number statement_number
no_end k (o, i, l, r) e = absurd (let p = rw e at o in let z : ◌≡◌ {A = ℕ} 0 1 = cc in omega arith)

-- ONE ROW ON
on-far : (k : Answer) (i : ℕ) → i ≤ row_of (passed_at k i)
on-far (Ok u) i = omega arith
on-far (Err e) i = omega arith

on-within : (k : Answer) (i n : ℕ) → i + 1 < n → row_of (passed_at k i) < n
on-within (Ok u) i n h = omega arith
on-within (Err e) i n h = omega arith

on-ok : {A : Type 0} (P : A → Type 0) (k : Answer) (i : ℕ) (x : A) → P x → IfOk (at_row k i x) P
on-ok P (Ok u) i x p = p
on-ok P (Err e) i x p = tt

ok-map : {A E : Type 0} (P Q : A → Type 0) (r : Result A E) → ((x : A) → P x → Q x) → IfOk r P → IfOk r Q
ok-map P Q (Ok x) f p = f x p
ok-map P Q (Err e) f p = tt

further : (r : Result Reached RefusedRow) (n i : ℕ) → i < n → n ≤ row_of r → IfOk r (λ x. i < x.at)
further (Ok x) n i h l = omega arith
further (Err e) n i h l = tt

module _ (w : List ℕ) (T : Tables w) where
  -- a row that closes a part is one of four, and any other stands there after a `return` alone
  out-of-place :
      (r : Reached) → Ended w r → (t : Rules.State) (φ : Formula ℕ) (os : List Open) →
      (kind_at w r.at ≡ 16 → verdict_from w r.at (end_of r.returned t) φ os ≡ refused malformed (line_at w r.at)) →
      (kind_at w r.at ≡ 17 → verdict_from w r.at (end_of r.returned t) φ os ≡ refused malformed (line_at w r.at)) →
      (kind_at w r.at ≡ 18 → verdict_from w r.at (end_of r.returned t) φ os ≡ refused malformed (line_at w r.at)) →
      (kind_at w r.at ≡ 22 → verdict_from w r.at (end_of r.returned t) φ os ≡ refused malformed (line_at w r.at)) →
      verdict_from w r.at (end_of r.returned t) φ os ≡ refused malformed (line_at w r.at)
  unfolding is_closing_number statement_number
  out-of-place r E t φ os a b c d =
      ⊎_elim a (λ na. ⊎_elim b (λ nb. ⊎_elim c (λ nc. ⊎_elim d (λ nd. other na nb nc nd r.returned refl) (decide_eq k 22)) (decide_eq k 18)) (decide_eq k 17)) (decide_eq k 16)
    where
      k : ℕ
      k = kind_at w r.at

      other :
          (k ≡ 16 → ⊥) → (k ≡ 17 → ⊥) → (k ≡ 18 → ⊥) → (k ≡ 22 → ⊥) → (q : Bool) → r.returned ≡ q →
          verdict_from w r.at (end_of r.returned t) φ os ≡ refused malformed (line_at w r.at)
      other na nb nc nd true d = rw d (after-return w r.at E.within (T.row_fits r.at E.within).operands.kind na nb nc nd φ os)
      other na nb nc nd false d =
          absurd (let g = rw (ne_eqb k 16 na, ne_eqb k 17 nb, ne_eqb k 18 nc, ne_eqb k 22 nd) at (E.closes d) in let z : ◌≡◌ {A = ℕ} 0 1 = cc in omega arith)

  -- the row at the end of a part is not the one that closes it
  wrong-closer :
      (r : Reached) → Ended w r → (t : Rules.State) (o : Open) → (kind_at w r.at ≡ closer o → ⊥) → (φ : Formula ℕ) (os : List Open) →
      verdict_from w r.at (end_of r.returned t) φ (o ∷ os) ≡ refused malformed (line_at w r.at)
  wrong-closer r E t o n φ os =
      out-of-place r E t φ (o ∷ os)
      (λ k. else-out w r.at E.within (else-means w (operands_at w r.at) k) _ o (λ q. n (k ∙ q)) φ os)
      (λ k. join-out w r.at E.within (formula_at w r.at) (join-means w (operands_at w r.at) k) _ o (λ q. n (k ∙ q)) φ os)
      (λ k. end-inside w r.at E.within (end-means w (operands_at w r.at) k) _ o φ os)
      (λ k. again-out w r.at E.within (again-means w (operands_at w r.at) k) _ o (λ q. n (k ∙ q)) φ os)

  pub goes_on : (i : ℕ) → i < row_count w → (kind_at w i ≡ 18 → ⊥) → i + 1 < row_count w
  goes_on i h g = ⊎_elim (λ e. absurd (g e)) (λ n. omega arith) (T.row_fits i h).follows.next

  -- THE FIRST PART'S END
  module _ (one : Reached) (E : Ended w one) where
    pub turned-else : kind_at w one.at ≡ 16 → Turned w one (Ok tt)
    unfolding from_there
    turned-else k =
        record {
          place = tt;
          next = goes_on one.at E.within (λ m. omega arith);
          nests = λ d t. else-nests w one.at E.within (else-means w (operands_at w one.at) k) d t;
          same = λ s s₂ φ os. else-verdict w one.at E.within (else-means w (operands_at w one.at) k) (end_of one.returned s) s₂ φ os;
        }

    pub turned-wrong : (kind_at w one.at ≡ 16 → ⊥) → Turned w one (Err (record { why = Refusal.Malformed; row = one.at }))
    unfolding closer from_there refusal_of
    turned-wrong n =
        record { place = refl; next = tt; nests = tt; same = λ s s₂ φ os. wrong-closer one E s (in_first s₂) n φ os }

  -- THE END OF A SECOND PART OR OF A BODY
  module _ (end : Reached) (E : Ended w end) (t : Rules.State) (o : Open) where
    -- by a row that closes it and gives k
    closed-by :
        (kind_at w end.at ≡ 18 → ⊥) → (k : Answer) (key b : List ℕ) → Wf key b →
        ((d : ℕ) → Nests w end.at (suc d) → Nests w (end.at + 1) d) →
        ((φ : Formula ℕ) (os : List Open) →
        verdict_from w end.at (end_of end.returned t) φ (o ∷ os)
        ≡ outcome k (line_at w end.at) (verdict_from w (end.at + 1) (some (state_of key b)) φ os)) →
        (r : Result Reached RefusedRow) → r ≡ passed_at k end.at → Closed w end t o r key b
    closed-by m k key b f nests verdict r er =
        rw er
        record {
          wf = f;
          on = on-far k end.at;
          within = on-within k end.at _ (goes_on end.at E.within m);
          nests = on-ok (λ (x : Reached). (d : ℕ) → Nests w end.at (suc d) → Nests w x.at d) k end.at _ nests;
          same = λ φ os.
              verdict φ os ∙ row-outcome w k end.at _ (λ (x : Reached). verdict_from w x.at (end_of x.returned (state_of key b)) φ os);
        }

    closed-wrong :
        (kind_at w end.at ≡ closer o → ⊥) → (key b : List ℕ) → Wf key b →
        Closed w end t o (Err (record { why = Refusal.Malformed; row = end.at })) key b
    unfolding from_there refusal_of
    closed-wrong n key b f =
        record { wf = f; on = omega arith; within = E.within; nests = tt; same = λ φ os. wrong-closer end E t o n φ os }

  module _ (end : Reached) (E : Ended w end) (t : Rules.State) where
    pub closed-join :
        (u : End) → kind_at w end.at ≡ 17 → (k : Answer) (key b : List ℕ) → Adds (join_rule (formula_at w end.at) u (end_of end.returned t)) k key b →
        (r : Result Reached RefusedRow) → r ≡ passed_at k end.at → Closed w end t (in_second u) r key b
    closed-join u q k key b A =
        let is = join-means w (operands_at w end.at) q in
        closed-by end E t (in_second u) (λ m. omega arith) k key b A.wf (join-nests w end.at E.within (formula_at w end.at) is)
        (λ φ os. join-verdict w end.at E.within (formula_at w end.at) is (end_of end.returned t) u k key b A φ os)

    pub closed-not-join :
        (u : End) → (kind_at w end.at ≡ 17 → ⊥) → (key b : List ℕ) → Wf key b →
        Closed w end t (in_second u) (Err (record { why = Refusal.Malformed; row = end.at })) key b
    unfolding closer
    closed-not-join u n = closed-wrong end E t (in_second u) n

    pub closed-again :
        (i : ℕ) → kind_at w end.at ≡ 22 → (k : Answer) (key b : List ℕ) → Adds (loop_leaves w i (end_of end.returned t)) k key b →
        (r : Result Reached RefusedRow) → r ≡ passed_at k end.at → BodyClosed w i end t r key b
    closed-again i q k key b A r er after l =
        let is = again-means w (operands_at w end.at) q in
        closed-by end E t (in_loop (formula_at w i) after) (λ m. omega arith) k key b A.wf (again-nests w end.at E.within is)
        (λ φ os. again-verdict w end.at E.within is (end_of end.returned t) (formula_at w i) after k key b (adds_same _ _ k key b (l _) A) φ os) r er

    pub closed-not-again :
        (i : ℕ) → (kind_at w end.at ≡ 22 → ⊥) → (key b : List ℕ) → Wf key b →
        BodyClosed w i end t (Err (record { why = Refusal.Malformed; row = end.at })) key b
    unfolding closer
    closed-not-again i n key b f after l = closed-wrong end E t (in_loop (formula_at w i) after) n key b f

  -- `return`
  module _ (i : ℕ) (h : i < row_count w) (q : RowIs w i Return) (φ : Formula ℕ) (s : Rules.State) (key b : List ℕ) (f : Wf key b) (x : ℕ) (ex : x ≡ x_at w i) (k : Answer) (S : Says (return_rule x φ s) k) where
    returned-verdict : (os : List Open) → verdict_from w i (some s) φ os ≡ outcome k (line_at w i) (verdict_from w (i + 1) none φ os)
    unfolding statement_number
    returned-verdict os = return-verdict w i h (x_at w i) (return-means w (operands_at w i) q) s φ k (rw (← ex) S) os

    pub return-stops : (e : RefusedRow) → Err e ≡ at_row {A = Unit {0}} k i tt → Returns w i φ s (Err e) key b
    unfolding from_there
    return-stops e d depth n =
        let (at, out) = row-refused w k i e d in
        record {
          went = record { wf = f; on = omega arith; within = omega (arith, h, at); nests = tt; same = λ os. returned-verdict os ∙ out _ };
          further = tt;
        }

    pub return-goes : (u : Unit {0}) → Ok u ≡ at_row k i tt → Returns w i φ s (Ok (record { at = i + 1; returned = true })) key b
    unfolding statement_number from_there
    return-goes u d depth n =
        record {
          went =
              record {
                wf = f;
                on = omega arith;
                within = goes_on i h (λ m. omega arith);
                nests = return-nests w i h (x_at w i) (return-means w (operands_at w i) q) _ n;
                same = λ os. returned-verdict os ∙ done-outcome k (row-done k i u d) _ _;
              };
          further = omega arith;
        }

-- a part that ran has an end
pub part-ends : {w : List ℕ} {depth i : ℕ} {φ : Formula ℕ} {s : Rules.State} {r : Reached} {key b : List ℕ} → Ran w depth i φ s (Ok r) key b → Ended w r
part-ends R = record { within = R.went.within; closes = R.closes }

-- A ROW
module _ {w : List ℕ} {depth i a n : ℕ} (Q : Stands w depth i a n) where
  abbrev φ : Formula ℕ
  φ = atoms_from w a n

  -- refused at row i or further on
  stops :
      (s : Rules.State) (e : RefusedRow) (key b : List ℕ) → Wf key b → i ≤ e.row → e.row < row_count w →
      ((os : List Open) → verdict_from w i (some s) φ os ≡ refused (refusal_of e.why) (line_at w e.row)) → Passed w depth i φ s (Err e) key b
  unfolding from_there
  stops s e key b f h g d = record { went = record { wf = f; on = h; within = g; nests = tt; same = d }; further = tt }

  -- a statement
  pub step-passes :
      {s : Rules.State} {k : Answer} {key b : List ℕ} → Stepped w i s k key b → GoesOn (kind_at w i) → {r : Result Reached RefusedRow} → r ≡ passed_at k i →
      Passed w depth i φ s r key b
  step-passes {s} {k} {key} {b} S l er =
      rw er
      record {
        went =
            record {
              wf = S.adds.wf;
              on = on-far k i;
              within = on-within k i _ (goes_on w Q.tables i Q.within (no_end _ l));
              nests = on-ok (λ (x : Reached). Nests w x.at (most_branches - depth)) k i _ (step-nests w i Q.within s k key b S _ Q.nests);
              same = λ os.
                  step-verdict w i Q.within s k key b S φ os
                  ∙ row-outcome w k i _ (λ (x : Reached). verdict_from w x.at (end_of x.returned (state_of key b)) φ os);
            };
        further = on-ok (λ (x : Reached). i < x.at) k i _ (omega arith);
      }

  -- one more is open
  abbrev Opens : Type 0
  Opens = (suc (most_branches - depth) ≤ 4) × Nests w (i + 1) (suc (most_branches - depth))

  deeper : Opens → 0 < depth
  deeper p = omega (arith, p.0, Q.deep)

  inner : Opens → (kind_at w i ≡ 18 → ⊥) → Stands w (depth - 1) (i + 1) a n
  inner p e =
      let h = deeper p in
      let d = Q.deep in
      let c : suc (most_branches - depth) ≡ most_branches - (depth - 1) = omega arith in
      record {
        tables = Q.tables;
        deep = omega arith;
        within = goes_on w Q.tables i Q.within e;
        nests = subst (λ (m : ℕ). Nests w (i + 1) m) c p.1;
        atoms = Q.atoms;
      }

  -- and is closed
  shallower : Opens → (j k : ℕ) → ((d : ℕ) → Nests w j (suc d) → Nests w k d) → Nests w j (most_branches - (depth - 1)) → Nests w k (most_branches - depth)
  shallower p j k f t =
      let h = deeper p in
      let d = Q.deep in
      let c : most_branches - (depth - 1) ≡ suc (most_branches - depth) = omega arith in
      f (most_branches - depth) (subst (λ (m : ℕ). Nests w j m) c t)

  -- a branch
  module _ (q : RowIs w i If) where
    is-if : stmt_at w i ≡ if_at w (first_atom_at w i)
    unfolding statement_number
    is-if = if-means w (operands_at w i) q

    if-opens : Opens
    if-opens = if-nests w i Q.within _ _ _ is-if (most_branches - depth) Q.nests

    pub if-deep : 0 < depth
    if-deep = deeper if-opens

    pub if-inner : Stands w (depth - 1) (i + 1) a n
    unfolding statement_number
    if-inner = inner if-opens (λ e. omega (arith, e, q))

    module _ (s : Rules.State) {k : Answer} {key₁ b₁ key₂ b₂ : List ℕ} (P : Parts (branches w i s) k key₁ b₁ key₂ b₂) where
      parts-verdict : (os : List Open) → verdict_from w i (some s) φ os ≡ outcome k (line_at w i) (verdict_from w (i + 1) (some (state_of key₁ b₁)) φ (in_first (state_of key₂ b₂) ∷ os))
      parts-verdict os = if-verdict w i Q.within _ _ _ is-if s k key₁ b₁ key₂ b₂ P φ os

      pub if-stops : {e : RefusedRow} → Err e ≡ at_row {A = Unit {0}} k i tt → Passed w depth i φ s (Err e) key₁ b₁
      if-stops {e} d =
          let (at, out) = row-refused w k i e d in
          stops s e key₁ b₁ P.first (omega arith) (omega (arith, Q.within, at)) (λ os. parts-verdict os ∙ out _)

      module _ (done : k ≡ Ok tt) where
        pub first-stops :
            {e : RefusedRow} {key₃ b₃ : List ℕ} → Ran w (depth - 1) (i + 1) φ (state_of key₁ b₁) (Err e) key₃ b₃ → Passed w depth i φ s (Err e) key₃ b₃
        unfolding from_there
        first-stops {e} {key₃} {b₃} R =
            stops s e key₃ b₃ R.went.wf (omega (arith, R.went.on)) R.went.within
            (λ os. parts-verdict os ∙ done-outcome k done _ _ ∙ R.went.same (in_first (state_of key₂ b₂) ∷ os))

        module _ {one : Reached} {key₃ b₃ : List ℕ} (R : Ran w (depth - 1) (i + 1) φ (state_of key₁ b₁) (Ok one) key₃ b₃) where
          -- the first part's end
          abbrev u₁ : End
          u₁ = end_of one.returned (state_of key₃ b₃)

          arrives : (os : List Open) → verdict_from w i (some s) φ os ≡ verdict_from w one.at u₁ φ (in_first (state_of key₂ b₂) ∷ os)
          unfolding from_there
          arrives os = parts-verdict os ∙ done-outcome k done _ _ ∙ R.went.same (in_first (state_of key₂ b₂) ∷ os)

          pub turn-stops : {e : RefusedRow} → Turned w one (Err e) → Passed w depth i φ s (Err e) key₃ b₃
          unfolding from_there
          turn-stops {e} U =
              stops s e key₃ b₃ R.went.wf (omega (arith, R.went.on, U.place)) (omega (arith, R.went.within, U.place))
              (λ os. arrives os ∙ U.same (state_of key₃ b₃) (state_of key₂ b₂) φ os)

          module _ {u : Unit {0}} (U : Turned w one (Ok u)) where
            first-verdict : (os : List Open) → verdict_from w i (some s) φ os ≡ verdict_from w (one.at + 1) (some (state_of key₂ b₂)) φ (in_second u₁ ∷ os)
            unfolding from_there
            first-verdict os = arrives os ∙ U.same (state_of key₃ b₃) (state_of key₂ b₂) φ os

            pub turn-inner : Stands w (depth - 1) (one.at + 1) a n
            turn-inner =
                record {
                  tables = Q.tables;
                  deep = if-inner.deep;
                  within = U.next;
                  nests = U.nests _ R.went.nests;
                  atoms = Q.atoms;
                }

            pub second-stops :
                {e : RefusedRow} {key₄ b₄ : List ℕ} → Ran w (depth - 1) (one.at + 1) φ (state_of key₂ b₂) (Err e) key₄ b₄ → Passed w depth i φ s (Err e) key₃ b₃
            unfolding from_there
            second-stops {e} S =
                stops s e key₃ b₃ R.went.wf (omega (arith, R.went.on, S.went.on)) S.went.within
                (λ os. first-verdict os ∙ S.went.same (in_second u₁ ∷ os))

            pub join-passes :
                {two : Reached} {fin : Result Reached RefusedRow} {key₄ b₄ key₅ b₅ : List ℕ} →
                Ran w (depth - 1) (one.at + 1) φ (state_of key₂ b₂) (Ok two) key₄ b₄ →
                Closed w two (state_of key₄ b₄) (in_second u₁) fin key₅ b₅ → Passed w depth i φ s fin key₅ b₅
            unfolding from_there
            join-passes {two} {fin} {key₄} {b₄} {key₅} {b₅} S J =
                let far : i < two.at = omega (arith, R.went.on, S.went.on) in
                record {
                  went =
                      record {
                        wf = J.wf;
                        on = omega (arith, far, J.on);
                        within = J.within;
                        nests = ok-map _ _ fin (λ x f. shallower if-opens two.at x.at f S.went.nests) J.nests;
                        same = λ os. first-verdict os ∙ S.went.same (in_second u₁ ∷ os) ∙ J.same φ os;
                      };
                  further = further fin two.at i far J.on;
                }

  -- a loop
  module _ (q : RowIs w i Loop) where
    is_loop_lem : stmt_at w i ≡ loop_at w (condition_at w i) (formula_at w i)
    unfolding statement_number
    is_loop_lem = loop-means w (operands_at w i) q

    loop-opens : Opens
    loop-opens = loop-nests w i Q.within _ _ _ _ is_loop_lem (most_branches - depth) Q.nests

    pub loop-deep : 0 < depth
    loop-deep = deeper loop-opens

    pub loop-inner : Stands w (depth - 1) (i + 1) a n
    unfolding statement_number
    loop-inner = inner loop-opens (λ e. omega (arith, e, q))

    module _ (s : Rules.State) {k : Answer} {key₁ b₁ : List ℕ} (A : Adds (body_starts w i s) k key₁ b₁) where
      -- the state after the loop, too
      abbrev states :
          (after : Rules.State)
          × (answered k (state_of key₁ b₁, after) ≡ loop_rule (relation_at w i) (left_at w (condition_at w i)) (right_at w (condition_at w i)) (formula_at w i) s)
          × (k ≡ Ok tt → (e : End) → loop_leaves w i e ≡ (show_end (formula_at w i) e >>= λ u. ok after))
      states = loop-states (relation_at w i) (left_at w (condition_at w i)) (right_at w (condition_at w i)) (formula_at w i) s k (state_of key₁ b₁) A.same

      body-verdict : (os : List Open) → verdict_from w i (some s) φ os ≡ outcome k (line_at w i) (verdict_from w (i + 1) (some (state_of key₁ b₁)) φ (in_loop (formula_at w i) states.0 ∷ os))
      body-verdict os = loop-verdict w i Q.within _ _ _ (formula_at w i) is_loop_lem s (state_of key₁ b₁) states.0 k states.1 φ os

      pub loop-stops : {e : RefusedRow} → Err e ≡ at_row {A = Unit {0}} k i tt → Passed w depth i φ s (Err e) key₁ b₁
      loop-stops {e} d =
          let (at, out) = row-refused w k i e d in
          stops s e key₁ b₁ A.wf (omega arith) (omega (arith, Q.within, at)) (λ os. body-verdict os ∙ out _)

      module _ (done : k ≡ Ok tt) where
        pub body-stops :
            {e : RefusedRow} {key₂ b₂ : List ℕ} → Ran w (depth - 1) (i + 1) φ (state_of key₁ b₁) (Err e) key₂ b₂ → Passed w depth i φ s (Err e) key₂ b₂
        unfolding from_there
        body-stops {e} {key₂} {b₂} R =
            stops s e key₂ b₂ R.went.wf (omega (arith, R.went.on)) R.went.within
            (λ os. body-verdict os ∙ done-outcome k done _ _ ∙ R.went.same (in_loop (formula_at w i) states.0 ∷ os))

        pub loop-passes :
            {end : Reached} {fin : Result Reached RefusedRow} {key₂ b₂ key₃ b₃ : List ℕ} → Ran w (depth - 1) (i + 1) φ (state_of key₁ b₁) (Ok end) key₂ b₂ →
            BodyClosed w i end (state_of key₂ b₂) fin key₃ b₃ → Passed w depth i φ s fin key₃ b₃
        unfolding from_there
        loop-passes {end} {fin} R B =
            let C = B states.0 (states.2 done) in
            let far : i < end.at = omega (arith, R.went.on) in
            record {
              went =
                  record {
                    wf = C.wf;
                    on = omega (arith, far, C.on);
                    within = C.within;
                    nests = ok-map _ _ fin (λ x f. shallower loop-opens end.at x.at f R.went.nests) C.nests;
                    same = λ os. body-verdict os ∙ done-outcome k done _ _ ∙ R.went.same (in_loop (formula_at w i) states.0 ∷ os) ∙ C.same φ os;
                  };
              further = further fin end.at i far C.on;
            }

-- A BLOCK
-- what the loop keeps
pub record Going (w : List ℕ) (depth from : ℕ) (φ : Formula ℕ) (start : Rules.State) (i : ℕ) (key b : List ℕ) : Type 0 where
  pub wf : Wf key b
  pub on : from ≤ i
  pub within : i < row_count w
  pub nests : Nests w i (most_branches - depth)
  pub same : (os : List Open) → verdict_from w from (some start) φ os ≡ verdict_from w i (some (state_of key b)) φ os

module _ {w : List ℕ} {depth from : ℕ} {φ : Formula ℕ} {start : Rules.State} {i : ℕ} {key b : List ℕ} (G : Going w depth from φ start i key b) where
  pub ends : is_closing_number (kind_at w i) ≡ true → Ran w depth from φ start (Ok (record { at = i; returned = false })) key b
  unfolding from_there
  ends k = record { went = record { wf = G.wf; on = G.on; within = G.within; nests = G.nests; same = G.same }; closes = λ _. k }

  went_on :
      {r : Result Reached RefusedRow} {key' b' : List ℕ} → Passed w depth i φ (state_of key b) r key' b' → Went w depth from φ start r key' b'
  went_on P =
      let Q = P.went in
      record { wf = Q.wf; on = omega (arith, G.on, Q.on); within = Q.within; nests = Q.nests; same = λ os. G.same os ∙ Q.same os }

  module _ {r : Reached} {key' b' : List ℕ} (P : Passed w depth i φ (state_of key b) (Ok r) key' b') where
    pub passed-goes : r.returned ≡ false → Going w depth from φ start r.at key' b'
    unfolding from_there
    passed-goes f =
        let W = went_on P in
        record {
          wf = W.wf;
          on = W.on;
          within = W.within;
          nests = W.nests;
          same = λ os. W.same os ∙ ap (λ (q : Bool). verdict_from w r.at (end_of q (state_of key' b')) φ os) f;
        }

-- A BLOCK TO ITS END
module _ (w : List ℕ) (T : Tables w) (from : ℕ) (φ : Formula ℕ) (s : Rules.State) (key b : List ℕ) where
  pub block_refused : (e : RefusedRow) → Ran w 4 from φ s (Err e) key b → verdict_of (Err (line_of w e)) ≡ verdict_from w from (some s) φ []
  unfolding verdict_of from_there
  block_refused e R = sym (R.went.same [])

  module _ (r : Reached) (R : Ran w 4 from φ s (Ok r) key b) (line : ℕ) (el : line ≡ line_at w r.at) where
    abbrev u : End
    u = end_of r.returned (state_of key b)

    arrived : verdict_from w from (some s) φ [] ≡ verdict_from w r.at u φ []
    unfolding from_there
    arrived = R.went.same []

    pub block-ended : kind_at w r.at ≡ 18 → (a : Answer) → Says (show_end φ u) a → verdict_of (on_line a line) ≡ verdict_from w from (some s) φ []
    block-ended k a A =
        line-verdict a line ∙ ap (λ (l : ℕ). outcome a l (accepted tt)) el
        ∙ sym (arrived ∙ end-verdict w r.at R.went.within (end-means w (operands_at w r.at) k) u φ a A)

    pub block-open :
        (kind_at w r.at ≡ 18 → ⊥) → verdict_of (Err (record { why = Refusal.Malformed; line = line })) ≡ verdict_from w from (some s) φ []
    unfolding verdict_of refusal_of
    block-open n =
        ap (λ (l : ℕ). refused malformed l) el
        ∙ sym (arrived ∙ out-of-place w T r (part-ends R) (state_of key b) φ []
        (λ k. else-alone w r.at R.went.within (else-means w (operands_at w r.at) k) u φ)
        (λ k. join-alone w r.at R.went.within (formula_at w r.at) (join-means w (operands_at w r.at) k) u φ) (λ k. absurd (n k))
        (λ k. again_alone w r.at R.went.within (again-means w (operands_at w r.at) k) u φ))

-- A METHOD
module _ (w : List ℕ) (m a n c o f : ℕ) (ea : a ≡ half_at w (method_place m)) (en : n ≡ byte_at w (method_place m + 2)) (s : Rules.State) (es : s ≡ Rules.empty) (k : Answer) (key b : List ℕ) (A : Adds (Rules.add (formula w 0 1 14 a n) s) k key b) where
  start-added : Adds (Rules.add (requires_at w m) Rules.empty) k key b
  unfolding requires_at
  start-added = adds_same _ _ k key b (empty-add w a n s es ∙ rw (ea, en)) A

  method-verdict : check_method (program_in w) (method_at w m) ≡ outcome k 0 (verdict_from w (first_row_at w m) (some (state_of key b)) (ensures_at w m) [])
  unfolding check_method method_at check_from program_in
  method-verdict = at-line 0 (Rules.add (requires_at w m) Rules.empty) k (state_of key b) start-added.same (λ s. verdict_from w (first_row_at w m) (some s) (ensures_at w m) [])

  pub method-refused : (e : RefusedLine) → Err e ≡ on_line k 0 → verdict_of (Err e) ≡ check_method (program_in w) (method_at w m)
  method-refused e d = line-refused k 0 e d _ ∙ sym method-verdict

  pub method-done :
      (u : Unit {0}) → Ok u ≡ on_line k 0 → c ≡ half_at w (method_place m + 4) → o ≡ byte_at w (method_place m + 3) → f ≡ first_row_at w m →
      verdict_from w f (some (state_of key b)) (atoms_from w c o) [] ≡ check_method (program_in w) (method_at w m)
  unfolding ensures_at
  method-done u d ec eo ef = rw (ec, eo, ef) (sym (method-verdict ∙ done-outcome k (line-done k 0 u d) _ _))

-- THE PROGRAM
module _ (w : List ℕ) where
  pub methods-all : (n : ℕ) → n ≡ method_count w → check_program (program_in w) ≡ check_blocks (program_in w) (methods_from w 0 (n - 0))
  unfolding check_program program_in
  methods-all n e = let d : method_count w ≡ n - 0 = omega arith in ap (λ (k : ℕ). check_blocks (program_in w) (methods_from w 0 k)) d

  methods-more : (n m : ℕ) → m < n → methods_from w m (n - m) ≡ method_at w m ∷ methods_from w (m + 1) (n - (m + 1))
  unfolding run
  methods-more n m h =
      let e : n - m ≡ suc (n - (m + 1)) = omega arith in
      let d : suc m ≡ m + 1 = omega arith in
      ap (λ (k : ℕ). methods_from w m k) e ∙ ap (λ (k : ℕ). method_at w m ∷ methods_from w k (n - (m + 1))) d

  blocks_more :
      (n m : ℕ) → m < n →
      check_blocks (program_in w) (methods_from w m (n - m))
      ≡ then (check_method (program_in w) (method_at w m)) (λ u. check_blocks (program_in w) (methods_from w (m + 1) (n - (m + 1))))
  unfolding check_blocks
  blocks_more n m h = rw (methods-more n m h)

  pub method-accepted :
      (n m : ℕ) → m < n → (v : Result (Unit {0}) RefusedLine) → verdict_of v ≡ check_method (program_in w) (method_at w m) → (u : Unit {0}) → v ≡ Ok u →
      check_blocks (program_in w) (methods_from w m (n - m)) ≡ check_blocks (program_in w) (methods_from w (m + 1) (n - (m + 1)))
  unfolding verdict_of then
  method-accepted n m h v e u d = rw (blocks_more n m h, ← e, d)

  pub method-stops :
      (n m : ℕ) → m < n → (v : Result (Unit {0}) RefusedLine) → verdict_of v ≡ check_method (program_in w) (method_at w m) → (e : RefusedLine) → v ≡ Err e →
      verdict_of (Err e) ≡ check_blocks (program_in w) (methods_from w m (n - m))
  unfolding verdict_of then
  method-stops n m h v d e q = rw (blocks_more n m h, ← d, q)

  pub main-alone : (f : ℕ) → f ≡ main_first w → (t : Rules.State) → t ≡ Rules.empty → verdict_from w f (some t) (atoms_from w 0 0) [] ≡ check_blocks (program_in w) []
  unfolding check_blocks check_from run program_in
  main-alone f e t d = rw (e, d)

  pub main-last : (n m : ℕ) → n ≤ m → check_blocks (program_in w) [] ≡ check_blocks (program_in w) (methods_from w m (n - m))
  unfolding run
  main-last n m h = let z : n - m ≡ 0 = omega arith in rw z
