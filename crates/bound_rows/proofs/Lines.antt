-- The kind of a row tells what it is to a bound, and what it is tells which block goes on after it.
use mathlib.Core.Path.{◌≡◌, refl, sym, ap, ◌∙◌, subst}
use mathlib.Core.Bool.{Bool, true, false, cond}
use mathlib.Core.List.{List, [], ◌∷◌, map}
use mathlib.Core.Logic.{◌⊎◌, inl, inr, ⊎_elim}
use mathlib.Core.Option.{some}
use Prim.Native.Nat.{ℕ, suc, ◌≤◌, ◌<◌}
use native.Mathlib.Omega.{arith}
use borrow.Author.Tests.{ne_eqb}
use lib.Dec.{eqb}
use lib.ListN.{length}
use Rattle.rules.specs.Base.{Member}
use Rattle.rules.specs.Grammar.{is_computing}
use Rattle.rules.specs.Syntax.{Row, Stmt, Method, no_row, row_numbered, set, assign, compute, new, call, assert, release, open_chain, shut_chain, simple, return, if, else, join, loop, again, end}
use Rattle.rules.specs.Bounds.{is_end, called, is_loop, block, blocks, callees}
use Rattle.rules.proofs.Lists.{came_from, decide_eq}
use Rattle.tables.specs.declared.Operands.{Operands}
use Rattle.tables.specs.Decode.{kind_at, member_at, operands_at, stmt_of, stmt_at, row_at, row_count, all_rows, method_count, method_at, first_row_at, program_in}
use Rattle.tables.specs.Tables.{Tables}
use Rattle.tables.proofs.Rows.{row_in, method-get}
use Rattle.tables.proofs.Runs.{less-or-not, run_past, run_length}
use Rattle.tables.proofs.Statements.{call-means, loop-means, end-means, not_end}
use Rattle.bound_laws.specs.Routes.{block_at}
use Rattle.bound_laws.proofs.Blocks.{block-member, method-block}
use Rattle.bound_rows.specs.declared.Line.{Line}
use Rattle.bound_rows.specs.declared.Line.TheVariants.{Plain, Call, Loop, End}
use Rattle.bound_rows.specs.Lines.{line_of, line_in, Says, blocks_in}

-- A STATEMENT
pub says : (s : Stmt) → Says (line_of s) s
unfolding line_of called is_loop is_end
says (simple (set x f y)) = (refl, refl, refl)
says (simple (assign x e)) = (refl, refl, refl)
says (simple (compute o x y z)) = (refl, refl, refl)
says (simple (new x c)) = (refl, refl, refl)
says (simple (call x y n z)) = (refl, refl, refl)
says (simple (assert φ)) = (refl, refl, refl)
says (simple (release φ)) = (refl, refl, refl)
says (simple (open_chain y x f)) = (refl, refl, refl)
says (simple (shut_chain x f)) = (refl, refl, refl)
says (return x) = (refl, refl, refl)
says (if n a b) = (refl, refl, refl)
says else = (refl, refl, refl)
says (join φ) = (refl, refl, refl)
says (loop n a b φ) = (refl, refl, refl)
says again = (refl, refl, refl)
says end = (refl, refl, refl)

pub line-of-call : (s : Stmt) (n : ℕ) → called s ≡ some n → line_of s ≡ Call n
unfolding line_of
line-of-call s n e = rw (e, line_of)

plain-call : {n : ℕ} → Plain ≡ Call n → ⊥
plain-call e = let z : ◌≡◌ {A = ℕ} 0 1 = cc in omega arith

loop-call : {n : ℕ} → Loop ≡ Call n → ⊥
loop-call e = let z : ◌≡◌ {A = ℕ} 0 1 = cc in omega arith

end-call : {n : ℕ} → End ≡ Call n → ⊥
end-call e = let z : ◌≡◌ {A = ℕ} 0 1 = cc in omega arith

-- BY ITS KIND
module _ (w : List ℕ) (r : Operands) where
  plain-or-end : (r.kind ≡ 11 → ⊥) → (r.kind ≡ 21 → ⊥) → (line_of (stmt_of w r) ≡ Plain) ⊎ (stmt_of w r ≡ end)
  unfolding stmt_of line_of called is_loop is_end
  plain-or-end a b =
      rw (ne_eqb r.kind 11 a, ne_eqb r.kind 21 b)
      (either (eqb r.kind 8) (inl refl)
      (either (eqb r.kind 9) (inl refl)
      (either (eqb r.kind 10) (inl refl)
      (either (eqb r.kind 12) (inl refl)
      (either (eqb r.kind 13) (inl refl)
      (either (eqb r.kind 14) (inl refl)
      (either (eqb r.kind 15) (inl refl)
      (either (eqb r.kind 16) (inl refl)
      (either (eqb r.kind 17) (inl refl)
      (either (is_computing r.kind) (inl refl)
      (either (eqb r.kind 22) (inl refl)
      (either (eqb r.kind 23) (inl refl)
      (either (eqb r.kind 24) (inl refl) (inr refl))))))))))))))
    where
      either :
          (b : Bool) {s t : Stmt} → (line_of s ≡ Plain) ⊎ (s ≡ end) → (line_of t ≡ Plain) ⊎ (t ≡ end) →
          (line_of (cond b s t) ≡ Plain) ⊎ (cond b s t ≡ end)
      either true p q = p
      either false p q = q

module _ (w : List ℕ) (tables : Tables w) (i : ℕ) (l : i < row_count w) where
  is_row : (row_numbered (program_in w) i).stmt ≡ stmt_at w i
  unfolding row_at
  is_row = ap (λ (r : Row). r.stmt) (row_in w i l)

  means : (v : Line) → line_of (stmt_at w i) ≡ v → v ≡ line_in w i
  means v e = sym (ap line_of is_row ∙ e)

  pub a_call : (n : ℕ) → n ≡ member_at w i → kind_at w i ≡ 11 → Call n ≡ line_in w i
  unfolding line_of called
  a_call n m e = means (Call n) (ap line_of (call-means w (operands_at w i) e) ∙ ap Call (sym m))

  pub a-loop : kind_at w i ≡ 21 → Loop ≡ line_in w i
  unfolding line_of called is_loop
  a-loop e = means Loop (ap line_of (loop-means w (operands_at w i) e))

  pub an-end : kind_at w i ≡ 18 → End ≡ line_in w i
  unfolding line_of called is_loop is_end
  an-end e = means End (ap line_of (end-means w (operands_at w i) e))

  pub a-plain : (kind_at w i ≡ 11 → ⊥) → (kind_at w i ≡ 18 → ⊥) → (kind_at w i ≡ 21 → ⊥) → Plain ≡ line_in w i
  a-plain a b c =
      means Plain
      (⊎_elim (λ e. e) (λ e. absurd (not_end w (operands_at w i) (tables.row_fits i l).operands.kind b e))
      (plain-or-end w (operands_at w i) a c))

  -- only an `end` has no row after it
  pub row-after : (line_in w i ≡ End → ⊥) → suc i < row_count w
  row-after n = ⊎_elim (λ k. absurd (n (sym (an-end k)))) (λ l. l) (tables.row_fits i l).follows.next

  -- a method that is called is there
  pub call-there : (c : ℕ) → line_in w i ≡ Call c → c < method_count w
  call-there c e =
      ⊎_elim
      (λ k. subst (λ n. n < method_count w) (same (a_call (member_at w i) refl k ∙ e)) ((tables.row_fits i l).operands.method k))
      (λ a.
      ⊎_elim (λ k. absurd (loop-call (a-loop k ∙ e)))
      (λ b.
      ⊎_elim (λ k. absurd (end-call (an-end k ∙ e))) (λ d. absurd (plain-call (a-plain a d b ∙ e))) (decide_eq (kind_at w i) 18))
      (decide_eq (kind_at w i) 21))
      (decide_eq (kind_at w i) 11)
    where
      same : {m n : ℕ} → Call m ≡ Call n → m ≡ n
      same e = cc

-- ROWS PAST THE LAST
module _ (w : List ℕ) (tables : Tables w) where
  -- each method that a block calls is there
  pub callees-there : (i c : ℕ) → Member c (callees (block (program_in w) i)) → c < method_count w
  unfolding callees line_of called is_loop is_end row_numbered program_in all_rows
  callees-there i c m =
      let (r, j, e) = came_from (λ (r : Row). called r.stmt) (block (program_in w) i) c m in
      let (k, is) = block-member (program_in w) i r j in
      at k (line-of-call (row_numbered (program_in w) k).stmt c (ap (λ (r : Row). called r.stmt) (sym is) ∙ e))
    where
      past : (k : ℕ) → row_count w ≤ k → End ≡ line_in w k
      past k l = sym (ap (λ (r : Row). line_of r.stmt) (run_past (row_at w) 0 (row_count w) k no_row l))

      at : (k : ℕ) → line_in w k ≡ Call c → c < method_count w
      at k e =
          ⊎_elim (λ l. call-there w tables k l c e) (λ l. absurd (end-call (past k l ∙ e))) (less-or-not k (row_count w) _ refl)

-- METHODS
pub blocks-count : (w : List ℕ) → length (blocks_in w) ≡ method_count w
unfolding blocks program_in
blocks-count w = map-length _ (program_in w).methods ∙ run_length (method_at w) 0 (method_count w)
  where
    map-length : {A B : Type 0} (f : A → B) (l : List A) → length (map f l) ≡ length l
    map-length f [] = refl
    map-length f (a ∷ l) = ap suc (map-length f l)

-- the block of a method starts at its first row
pub block-there : (w : List ℕ) (n : ℕ) → n < method_count w → block_at (blocks_in w) n ≡ block (program_in w) (first_row_at w n)
unfolding method_at
block-there w n l = method-block (program_in w) n ∙ ap (λ (M : Method). block (program_in w) M.first) (method-get w n l)
