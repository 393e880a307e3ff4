-- "Each accepted one stands in the list a single time and no refused one does".
use mathlib.Core.Path.{◌≡◌, refl, sym, ◌∙◌, subst}
use mathlib.Core.Bool.{Bool, cond}
use mathlib.Core.List.{List, [], ◌∷◌, map}
use mathlib.Core.Logic.{◌⊎◌, inl, inr, ⊎_elim}
use Prim.Native.Nat.{ℕ, zero, suc, ◌≤◌}
use native.Mathlib.Omega.{arith}
use lib.Dec.{T, eqb, leb, ltb, leb→le, ltb→lt}
use lib.ListN.{length}
use Rattle.rules.specs.Base.{Member, at_head, further, eq_name, all, keep, between}
use Rattle.rules.proofs.Lists.{head-or, member-left, member_right, member-map, keep-member, member-keep, and_both, or_cases, decide_eq, T_true, F-false, same_name, name-same}
use Rattle.small_list.specs.Small.{Main, places, most_statements, accepted, each_first, mains, mains_to, candidates, small}
use Rattle.small_list.specs.Claims.{is_main, times_in, first_differs, comes_before, in_order, ListsAll}
use Rattle.small_list.proofs.Facts.{all-mains, small-ordered}

-- EVERY MAIN IS TRIED
in-places : (p : ℕ) → T (between 1 5 p) → Member p places
unfolding between
in-places zero t = absurd t
in-places (suc zero) t = at_head
in-places (suc (suc zero)) t = further at_head
in-places (suc (suc (suc zero))) t = further (further at_head)
in-places (suc (suc (suc (suc zero)))) t = further (further (further at_head))
in-places (suc (suc (suc (suc (suc zero))))) t = further (further (further (further at_head)))
in-places (suc (suc (suc (suc (suc (suc p)))))) t =
    absurd (omega (arith, leb→le (suc (suc (suc (suc (suc (suc p)))))) 5 (and_both (leb 1 (suc (suc (suc (suc (suc (suc p))))))) _ t).1))

in-each : (ps : List ℕ) (ms : List Main) (p : ℕ) (m : Main) → Member p ps → Member m ms → Member (p ∷ m) (each_first ps ms)
unfolding each_first
in-each [] ms p m i j = elim i [ ]
in-each (q ∷ ps) ms p m i j =
    ⊎_elim
    (λ k. member_right (map (λ n. q ∷ n) ms) (each_first ps ms) (p ∷ m) (in-each ps ms p m k j))
    (λ e.
    member-left (map (λ n. q ∷ n) ms) (each_first ps ms) (p ∷ m)
    (subst (λ (d : ℕ). Member (d ∷ m) (map (λ n. q ∷ n) ms)) (sym e) (member-map (λ (n : Main). q ∷ n) ms m j)))
    (head-or i)

in-mains : (m : Main) → T (all (between 1 5) m) → Member m (mains (length m))
unfolding mains all
in-mains [] t = at_head
in-mains (p ∷ m) t =
    let (a, b) = and_both (between 1 5 p) _ t in in-each places (mains (length m)) p m (in-places p a) (in-mains m b)

in-mains_to : (k n : ℕ) (m : Main) → n ≤ k → Member m (mains n) → Member m (mains_to k)
unfolding mains_to
in-mains_to zero zero m l i = i
in-mains_to zero (suc n) m l i = absurd (omega arith)
in-mains_to (suc k) n m l i =
    ⊎_elim
    (λ e. member_right (mains_to k) (mains (suc k)) m (subst (λ j. Member m (mains j)) e i))
    (λ d. member-left (mains_to k) (mains (suc k)) m (in-mains_to k n m (omega (arith, d)) i))
    (decide_eq n (suc k))

in-candidates : (m : Main) → T (is_main m) → Member m candidates
unfolding is_main
in-candidates m t =
    let (l, b) = and_both (leb (length m) most_statements) _ t in
    in-mains_to most_statements (length m) m (leb→le (length m) most_statements l) (in-mains m b)

-- ONCE
all-member : {A : Type 0} (t : A → Bool) (l : List A) (a : A) → Member a l → T (all t l) → T (t a)
unfolding all
all-member t [] a i h = elim i [ ]
all-member t (b ∷ l) a i h =
    let (x, y) = and_both (t b) _ h in
    ⊎_elim (λ j. all-member t l a j y) (λ e. subst (λ c. T (t c)) (sym e) x) (head-or i)

not-first-differs : (m : Main) → T (first_differs m m) → ⊥
unfolding first_differs
not-first-differs [] t = t
not-first-differs (p ∷ m) t =
    ⊎_elim (λ l. omega (arith, ltb→lt p p l)) (λ e. not-first-differs m (and_both (eqb p p) _ e).1) (or_cases (ltb p p) _ t)

not-before-itself : (m : Main) → T (comes_before m m) → ⊥
unfolding comes_before
not-before-itself m t =
    ⊎_elim (λ l. omega (arith, ltb→lt (length m) (length m) l)) (λ e. not-first-differs m (and_both (eqb (length m) (length m)) _ e).1)
    (or_cases (ltb (length m) (length m)) _ t)

keep-none : (t : Main → Bool) (l : List Main) → ((m : Main) → Member m l → T (t m) → ⊥) → keep t l ≡ []
unfolding keep
keep-none t [] h = refl
keep-none t (m ∷ l) h = rw (F-false (t m) (h m at_head)) (keep-none t l (λ n i. h n (further i)))

-- in a list in order nothing stands twice
ordered-once : (l : List Main) → T (in_order l) → (m : Main) → Member m l → times_in m l ≡ 1
unfolding in_order times_in keep
ordered-once [] o m i = elim i [ ]
ordered-once (n ∷ l) o m i = go (head-or i) (λ j. ordered-once l b m j)
  where
    a : T (all (comes_before n) l)
    a = (and_both (all (comes_before n) l) _ o).0

    b : T (in_order l)
    b = (and_both (all (comes_before n) l) _ o).1

    apart : (k : Main) → Member k l → n ≡ k → ⊥
    apart k j e = not-before-itself n (subst (λ k. T (comes_before n k)) (sym e) (all-member (comes_before n) l k j a))

    go :
        Member m l ⊎ (m ≡ n) → (Member m l → length (keep (eq_name m) l) ≡ 1) →
        length (cond (eq_name m n) (n ∷ keep (eq_name m) l) (keep (eq_name m) l)) ≡ 1
    go (inl j) ih = rw (F-false (eq_name m n) (λ t. apart m j (sym (same_name m n t)))) (ih j)
    go (inr e) ih =
        rw (
          T_true (eq_name m n) (subst (λ k. T (eq_name m k)) e (name-same m)),
          keep-none (eq_name m) l (λ k j t. apart k j (sym e ∙ same_name m k t)),
        )
        refl

-- THE LIST
pub small-lists-all : ListsAll
unfolding small
small-lists-all =
    record {
      once = λ m t a. ordered-once small small-ordered m (member-keep accepted candidates m a (in-candidates m t));
      only = λ m i. let (j, a) = keep-member accepted candidates m i in (all-member is_main candidates m j all-mains, a);
      ordered = small-ordered;
    }
