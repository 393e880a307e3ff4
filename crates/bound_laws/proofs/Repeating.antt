-- Where no line is refused with 15, no method reaches itself and no block has a loop; and the other way round.
use mathlib.Core.Path.{◌≡◌, refl, sym, ap, ◌∙◌, subst}
use mathlib.Core.Bool.{Bool, ◌||◌}
use mathlib.Core.List.{List, [], ◌∷◌, map}
use mathlib.Core.Logic.{⊎_elim}
use mathlib.Core.Option.{Option, none, some}
use Prim.Native.Nat.{ℕ, zero, suc, ◌+◌}
use native.Mathlib.Omega.{arith}
use lib.Dec.{T, eqb, eqb→eq, eqb_refl}
use Rattle.rules.specs.Base.{first, Member}
use Rattle.rules.specs.Syntax.{Stmt, Row, Method, Program, row_numbered, simple, return, if, else, join, loop, again, end}
use Rattle.rules.specs.Bounds.{Block, no_block, called, block, blocks, callees, reaches, recursive, is_loop, repeats, or_later, first_in, first_from, first_repeating}
use Rattle.rules.proofs.Lists.{head-or, none-some, or_left, or_right, or_cases, option_cases, came_from, went_to, first-in, first_some}
use Rattle.bound_laws.specs.Routes.{Loopless, block_at, calls, Reaches, directly, through, Acyclic}
use Rattle.bound_laws.proofs.Blocks.{block-member}
use Rattle.bound_laws.proofs.Routes.{route-found, found-route}

-- A LINE
loop-repeats : (bs : List Block) (o : Option ℕ) (s : Stmt) → T (is_loop s) → T (repeats bs o s)
unfolding repeats is_loop called
loop-repeats bs o (simple p) t = absurd t
loop-repeats bs o (return x) t = absurd t
loop-repeats bs o (if n a b) t = absurd t
loop-repeats bs o else t = absurd t
loop-repeats bs o (join φ) t = absurd t
loop-repeats bs o (loop n a b φ) t = tt
loop-repeats bs o again t = absurd t
loop-repeats bs o end t = absurd t

pub call-repeats : (bs : List Block) (o : Option ℕ) (s : Stmt) (n : ℕ) → called s ≡ some n → repeats bs o s ≡ recursive bs o n
unfolding repeats
call-repeats bs o s n e = rw (e, repeats)

pub other-repeats : (bs : List Block) (o : Option ℕ) (s : Stmt) → called s ≡ none → repeats bs o s ≡ is_loop s
unfolding repeats
other-repeats bs o s e = rw (e, repeats)

pub none-loopless : Loopless no_block
unfolding is_loop
none-loopless r i t = ⊎_elim (λ j. elim j [ ]) (λ e. subst (λ (r : Row). T (is_loop r.stmt)) e t) (head-or i)

-- NO LINE
none_first : {A : Type 0} (t : A → Bool) (l : List A) → first t l ≡ none → (a : A) → Member a l → T (t a) → ⊥
none_first t l e a i y = let (b, q) = first_some t l a i y in none-some (sym e ∙ q)

later-none : {A : Type 0} (o p : Option A) → or_later o p ≡ none → (o ≡ none) × (p ≡ none)
unfolding or_later
later-none none p e = (refl, e)
later-none (some a) p e = none-some (sym e)

no-block : (bs : List Block) (o : Option ℕ) (r : Row) → Member r no_block → T (repeats bs o r.stmt) → ⊥
unfolding repeats called is_loop
no-block bs o r i t = ⊎_elim (λ j. elim j [ ]) (λ e. subst (λ (r : Row). T (repeats bs o r.stmt)) e t) (head-or i)

module _ (bs : List Block) (main : Block) where
  none_from :
      (a : ℕ) (rest : List Block) → first_from bs a rest main ≡ none → (i j : ℕ) → j ≡ a + i → (r : Row) →
      Member r (block_at rest i) → T (repeats bs (some j) r.stmt) → ⊥
  unfolding first_from first_in
  none_from a [] e i j q r m t = no-block bs (some j) r m t
  none_from a (b ∷ rest) e zero j q r m t =
      let (x, _) = later-none (first_in bs (some a) b) _ e in
      none_first _ b x r m (subst (λ j. T (repeats bs (some j) r.stmt)) (q ∙ omega arith) t)
  none_from a (b ∷ rest) e (suc i) j q r m t =
      let (_, y) = later-none (first_in bs (some a) b) _ e in none_from (suc a) rest y i j (omega arith) r m t

  none-main : (a : ℕ) (rest : List Block) → first_from bs a rest main ≡ none → (r : Row) → Member r main → T (repeats bs none r.stmt) → ⊥
  unfolding first_from first_in
  none-main a [] e = none_first _ main e
  none-main a (b ∷ rest) e = none-main (suc a) rest (later-none (first_in bs (some a) b) _ e).1

module _ (P : Program) (e : first_repeating P ≡ none) where
  none-of-method : (a : ℕ) (r : Row) → Member r (block_at (blocks P) a) → T (repeats (blocks P) (some a) r.stmt) → ⊥
  unfolding first_repeating
  none-of-method a = none_from (blocks P) (block P P.main) 0 (blocks P) e a a (omega arith)

  pub methods-loopless : (n : ℕ) → Loopless (block_at (blocks P) n)
  methods-loopless n r i t = none-of-method n r i (loop-repeats (blocks P) (some n) r.stmt t)

  pub main-loopless : Loopless (block P P.main)
  unfolding first_repeating
  main-loopless r i t =
      none-main (blocks P) (block P P.main) 0 (blocks P) e r i (loop-repeats (blocks P) none r.stmt t)

  pub no-ring : Acyclic (blocks P)
  unfolding recursive callees
  no-ring a r = go r refl
    where
      none-called : (c : ℕ) → Member c (calls (blocks P) a) → T (eqb c a || reaches (blocks P) a c) → ⊥
      none-called c m t =
          let (r, i, q) = came_from (λ (r : Row). called r.stmt) (block_at (blocks P) a) c m in
          none-of-method a r i (subst T (sym (call-repeats (blocks P) (some a) r.stmt c q)) t)

      go : {b : ℕ} → Reaches (blocks P) a b → b ≡ a → ⊥
      go (directly {b = b} m) q = none-called b m (or_left (eqb b a) _ (subst (λ c. T (eqb b c)) q (eqb_refl b)))
      go (through {c = c} m s) q =
          none-called c m (or_right (eqb c a) _ (route-found (blocks P) a c (subst (Reaches (blocks P) c) q s)))

-- A LINE THAT IS REFUSED
module _ (bs : List Block) (acyclic : Acyclic bs) where
  -- of a block whose calls are those of the method a
  not-repeating : (a : ℕ) (r : Row) → Loopless (block_at bs a) → Member r (block_at bs a) → T (repeats bs (some a) r.stmt) → ⊥
  unfolding recursive callees
  not-repeating a r h i t =
      ⊎_elim
      (λ e. h r i (subst T (other-repeats bs (some a) r.stmt e) t))
      (λ (c, e).
      let m : Member c (calls bs a) = went_to (λ (r : Row). called r.stmt) (block_at bs a) r c e i in
      ⊎_elim (λ s. acyclic a (directly (subst (λ c. Member c (calls bs a)) (eqb→eq c a s) m)))
      (λ s. acyclic a (through m (found-route bs a c s)))
      (or_cases (eqb c a) _ (subst T (call-repeats bs (some a) r.stmt c e) t)))
      (option_cases (called r.stmt))

  not-in-main : (main : Block) (r : Row) → Loopless main → Member r main → T (repeats bs none r.stmt) → ⊥
  unfolding recursive
  not-in-main main r h i t =
      ⊎_elim
      (λ e. h r i (subst T (other-repeats bs none r.stmt e) t))
      (λ (c, e). subst T (call-repeats bs none r.stmt c e) t)
      (option_cases (called r.stmt))

  first-none : {A : Type 0} (t : A → Bool) (l : List A) → ((a : A) → Member a l → T (t a) → ⊥) → first t l ≡ none
  first-none t l h = ⊎_elim (λ e. e) (λ (a, e). let (i, y) = first-in t l a e in absurd (h a i y)) (option_cases (first t l))

  none_left :
      (main : Block) → Loopless main → (a : ℕ) (rest : List Block) → ((i : ℕ) → block_at rest i ≡ block_at bs (a + i)) →
      ((n : ℕ) → Loopless (block_at bs n)) → first_from bs a rest main ≡ none
  unfolding first_from first_in or_later
  none_left main h a [] same g = first-none _ main (λ r. not-in-main main r h)
  none_left main h a (b ∷ rest) same g =
      let is : b ≡ block_at bs a = same 0 ∙ ap (block_at bs) (omega arith) in
      let x : first (λ r. repeats bs (some a) r.stmt) b ≡ none =
      first-none _ b (λ r i. not-repeating a r (g a) (subst (Member r) is i)) in
      rw x (none_left main h (suc a) rest (λ i. same (suc i) ∙ ap (block_at bs) (omega arith)) g)

pub no_line :
    (P : Program) → Acyclic (blocks P) → ((n : ℕ) → Loopless (block_at (blocks P) n)) → Loopless (block P P.main) →
    first_repeating P ≡ none
unfolding first_repeating
no_line P acyclic g h = none_left (blocks P) acyclic (block P P.main) h 0 (blocks P) (λ i. ap (block_at (blocks P)) (omega arith)) g

-- the line that is refused is a row
block-row-of : (bs : List Block) (o : Option ℕ) (P : Program) (i : ℕ) (r : Row) → first_in bs o (block P i) ≡ some r → (j : ℕ) × (r ≡ row_numbered P j)
unfolding first_in
block-row-of bs o P i r e = block-member P i r (first-in (λ r. repeats bs o r.stmt) (block P i) r e).0

pub repeating-row : (P : Program) (r : Row) → first_repeating P ≡ some r → (j : ℕ) × (r ≡ row_numbered P j)
unfolding first_repeating blocks first_from or_later
repeating-row P r e = go 0 P.methods e
  where
    go : (a : ℕ) (Ms : List Method) → first_from (blocks P) a (map (λ M. block P M.first) Ms) (block P P.main) ≡ some r → (j : ℕ) × (r ≡ row_numbered P j)
    go a [] e = block-row-of (blocks P) none P P.main r e
    go a (M ∷ Ms) e = one (first_in (blocks P) (some a) (block P M.first)) refl e (λ q. go (suc a) Ms q)
      where
        one :
            (o : Option Row) → first_in (blocks P) (some a) (block P M.first) ≡ o →
            or_later o (first_from (blocks P) (suc a) (map (λ M. block P M.first) Ms) (block P P.main)) ≡ some r →
            (first_from (blocks P) (suc a) (map (λ M. block P M.first) Ms) (block P P.main) ≡ some r → (j : ℕ) × (r ≡ row_numbered P j)) →
            (j : ℕ) × (r ≡ row_numbered P j)
        one none q e ih = ih e
        one (some x) q e ih = block-row-of (blocks P) (some a) P M.first r (q ∙ e)
