-- What a row means, by its kind.
use mathlib.Core.Path.{◌≡◌, refl, sym, subst}
use mathlib.Core.Bool.{Bool, true, false, cond, ◌||◌}
use mathlib.Core.List.{List}
use mathlib.Core.Logic.{◌⊎◌, inl, inr, ⊎_elim}
use Prim.Native.Nat.{ℕ, suc, ◌-◌, ◌≤◌}
use native.Mathlib.Omega.{arith}
use lib.Dec.{T, eqb, eqb→eq}
use borrow.Author.Tests.{ne_eqb}
use Rattle.rules.specs.Grammar.{IsStatementNumber, statement_number, is_computing}
use Rattle.rules.specs.Syntax.{Simple, Stmt, set, assign, compute, new, call, return, assert, release, open_chain, shut_chain, simple, else, join, again, end}
use Rattle.tables.specs.declared.Operands.{Operands}
use Rattle.tables.specs.Decode.{right_at, if_at, loop_at, formula_of, operation_of, stmt_of}

module _ (w : List ℕ) (r : Operands) where
  pub set-means : r.kind ≡ 8 → stmt_of w r ≡ simple (set r.x r.member r.y)
  unfolding stmt_of
  set-means k = rw k

  pub let-means : r.kind ≡ 9 → stmt_of w r ≡ simple (assign r.x (right_at w r.first))
  unfolding stmt_of
  let-means k = rw k

  pub new-means : r.kind ≡ 10 → stmt_of w r ≡ simple (new r.x r.member)
  unfolding stmt_of
  new-means k = rw k

  pub call-means : r.kind ≡ 11 → stmt_of w r ≡ simple (call r.x r.y r.member r.z)
  unfolding stmt_of
  call-means k = rw k

  pub return-means : r.kind ≡ 12 → stmt_of w r ≡ return r.x
  unfolding stmt_of
  return-means k = rw k

  pub assert-means : r.kind ≡ 13 → stmt_of w r ≡ simple (assert (formula_of w r))
  unfolding stmt_of
  assert-means k = rw k

  pub release-means : r.kind ≡ 14 → stmt_of w r ≡ simple (release (formula_of w r))
  unfolding stmt_of
  release-means k = rw k

  pub if-means : r.kind ≡ 15 → stmt_of w r ≡ if_at w r.first
  unfolding stmt_of
  if-means k = rw k

  pub else-means : r.kind ≡ 16 → stmt_of w r ≡ else
  unfolding stmt_of
  else-means k = rw k

  pub join-means : r.kind ≡ 17 → stmt_of w r ≡ join (formula_of w r)
  unfolding stmt_of
  join-means k = rw k

  pub loop-means : r.kind ≡ 21 → stmt_of w r ≡ loop_at w (r.first - 1) (formula_of w r)
  unfolding stmt_of is_computing statement_number
  loop-means k = rw k

  pub again-means : r.kind ≡ 22 → stmt_of w r ≡ again
  unfolding stmt_of is_computing statement_number
  again-means k = rw k

  pub open-means : r.kind ≡ 23 → stmt_of w r ≡ simple (open_chain r.x r.y r.member)
  unfolding stmt_of is_computing statement_number
  open-means k = rw k

  pub shut-means : r.kind ≡ 24 → stmt_of w r ≡ simple (shut_chain r.x r.member)
  unfolding stmt_of is_computing statement_number
  shut-means k = rw k

  pub end-means : r.kind ≡ 18 → stmt_of w r ≡ end
  unfolding stmt_of is_computing statement_number
  end-means k = rw k

  pub compute-means : T (is_computing r.kind) → stmt_of w r ≡ simple (compute (operation_of r.kind) r.x r.y r.z)
  unfolding stmt_of is_computing statement_number
  compute-means t = ⊎_elim (λ k. rw k) (λ k. rw k) (one_of (eqb r.kind 19) refl t)
    where
      one_of : (b : Bool) → eqb r.kind 19 ≡ b → T (b || eqb r.kind 20) → (r.kind ≡ 19) ⊎ (r.kind ≡ 20)
      one_of true e u = inl (eqb→eq r.kind 19 (subst T (sym e) tt))
      one_of false e u = inr (eqb→eq r.kind 20 u)

  -- what holds of every statement that opens and closes no branch and no loop holds of a row of any other kind than `if`, `else`, `join`,
  -- `loop`, `again`
  pub no-branch :
      (Q : Stmt → Type 0) → ((p : Simple) → Q (simple p)) → ((x : ℕ) → Q (return x)) → Q end →
      (r.kind ≡ 15 → ⊥) → (r.kind ≡ 16 → ⊥) → (r.kind ≡ 17 → ⊥) → (r.kind ≡ 21 → ⊥) → (r.kind ≡ 22 → ⊥) →
      Q (stmt_of w r)
  unfolding stmt_of
  no-branch Q of-simple of-return of_end a b d e f =
      rw (ne_eqb r.kind 15 a, ne_eqb r.kind 16 b, ne_eqb r.kind 17 d, ne_eqb r.kind 21 e, ne_eqb r.kind 22 f)
      (either (eqb r.kind 8) (of-simple _)
      (either (eqb r.kind 9) (of-simple _)
      (either (eqb r.kind 10) (of-simple _)
      (either (eqb r.kind 11) (of-simple _)
      (either (eqb r.kind 12) (of-return _)
      (either (eqb r.kind 13) (of-simple _)
      (either (eqb r.kind 14) (of-simple _)
      (either (is_computing r.kind) (of-simple _)
      (either (eqb r.kind 23) (of-simple _)
      (either (eqb r.kind 24) (of-simple _) of_end))))))))))
    where
      either : (b : Bool) {s t : Stmt} → Q s → Q t → Q (cond b s t)
      either true p q = p
      either false p q = q

  pub not_end : IsStatementNumber r.kind → (r.kind ≡ 18 → ⊥) → stmt_of w r ≡ end → ⊥
  unfolding stmt_of is_computing statement_number
  not_end (a, b) n h =
      step 8 a (λ e. let z : ◌≡◌ {A = ℕ} 0 1 = (let g = rw e at h in cc) in omega arith) λ l8.
      step 9 l8 (λ e. let z : ◌≡◌ {A = ℕ} 0 1 = (let g = rw e at h in cc) in omega arith) λ l9.
      step 10 l9 (λ e. let z : ◌≡◌ {A = ℕ} 0 1 = (let g = rw e at h in cc) in omega arith) λ l10.
      step 11 l10 (λ e. let z : ◌≡◌ {A = ℕ} 0 1 = (let g = rw e at h in cc) in omega arith) λ l11.
      step 12 l11 (λ e. let z : ◌≡◌ {A = ℕ} 0 1 = (let g = rw e at h in cc) in omega arith) λ l12.
      step 13 l12 (λ e. let z : ◌≡◌ {A = ℕ} 0 1 = (let g = rw e at h in cc) in omega arith) λ l13.
      step 14 l13 (λ e. let z : ◌≡◌ {A = ℕ} 0 1 = (let g = rw e at h in cc) in omega arith) λ l14.
      step 15 l14 (λ e. let z : ◌≡◌ {A = ℕ} 0 1 = (let g = rw e at h in cc) in omega arith) λ l15.
      step 16 l15 (λ e. let z : ◌≡◌ {A = ℕ} 0 1 = (let g = rw e at h in cc) in omega arith) λ l16.
      step 17 l16 (λ e. let z : ◌≡◌ {A = ℕ} 0 1 = (let g = rw e at h in cc) in omega arith) λ l17.
      step 18 l17 n λ l18.
      step 19 l18 (λ e. let z : ◌≡◌ {A = ℕ} 0 1 = (let g = rw e at h in cc) in omega arith) λ l19.
      step 20 l19 (λ e. let z : ◌≡◌ {A = ℕ} 0 1 = (let g = rw e at h in cc) in omega arith) λ l20.
      step 21 l20 (λ e. let z : ◌≡◌ {A = ℕ} 0 1 = (let g = rw e at h in cc) in omega arith) λ l21.
      step 22 l21 (λ e. let z : ◌≡◌ {A = ℕ} 0 1 = (let g = rw e at h in cc) in omega arith) λ l22.
      step 23 l22 (λ e. let z : ◌≡◌ {A = ℕ} 0 1 = (let g = rw e at h in cc) in omega arith) λ l23.
      step 24 l23 (λ e. let z : ◌≡◌ {A = ℕ} 0 1 = (let g = rw e at h in cc) in omega arith) λ l24.
      omega (arith, b, l24)
    where
      -- it is not k, so it is more
      step : (k : ℕ) → k ≤ r.kind → (r.kind ≡ k → ⊥) → (suc k ≤ r.kind → ⊥) → ⊥
      step k l n g = g (omega (arith, l, n))
