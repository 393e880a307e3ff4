-- Laws of the lines of the list: of mains one after the other, and how much room they take. Whether a main is accepted is asked nowhere.
use mathlib.Core.Path.{◌≡◌, refl, sym, ap, ap₂, subst, ◌∙◌}
use mathlib.Core.Bool.{Bool, true, false, cond}
use mathlib.Core.List.{List, [], ◌∷◌, ◌++◌, map, map-append, map-id, append_assoc, append-nil}
use Prim.Native.Nat.{ℕ, zero, suc, ◌+◌, ◌-◌, ◌≤◌, ◌<◌}
use native.Mathlib.Omega.{arith}
use native.Mathlib.Numerals.{add-one}
use lib.ListN.{length, get_or, take, drop, length-append, take-append-drop}
use lib.Seq.{take-suc}
use Rattle.rules.specs.Base.{keep}
use Rattle.printer.specs.Writes.{Writes, Prints}
use Rattle.printer.proofs.Writes.{writes-none, writes-on, writes_as}
use Rattle.check_labels.proofs.Rebuilding.{keep_append}
use Rattle.small_list.specs.Small.{Main, places, most_statements, accepted, each_first, mains, mains_to, small, line_of, lines_of, printed}
use Rattle.small_list.specs.Small as Small
use Rattle.small.specs.Listing.{out_bytes, after, room, Lists}

-- LINES OF ONE LIST AFTER ANOTHER
lines-append : (l m : List Main) → lines_of (l ++ m) ≡ lines_of l ++ lines_of m
unfolding lines_of
lines-append [] m = refl
lines-append (k ∷ l) m = ap (λ t. line_of k ++ t) (lines-append l m) ∙ sym (append_assoc (line_of k) (lines_of l) (lines_of m))

kept_append : (l m : List Main) → lines_of (keep accepted l) ++ lines_of (keep accepted m) ≡ lines_of (keep accepted (l ++ m))
kept_append l m = sym (ap lines_of (keep_append accepted l m) ∙ lines-append (keep accepted l) (keep accepted m))

room-append : (l m : List Main) → room (l ++ m) ≡ room l + room m
room-append l m = ap length (lines-append l m) ∙ length-append (lines_of l) (lines_of m)

-- those that are kept take no more
kept-room : (l : List Main) → length (lines_of (keep accepted l)) ≤ room l
unfolding keep lines_of
kept-room [] = omega arith
kept-room (k ∷ l) = go (accepted k) (kept-room l)
  where
    go :
        (b : Bool) → length (lines_of (keep accepted l)) ≤ room l →
        length (lines_of (cond b (k ∷ keep accepted l) (keep accepted l))) ≤ length (line_of k ++ lines_of l)
    go true h = omega (arith, length-append (line_of k) (lines_of (keep accepted l)), length-append (line_of k) (lines_of l))
    go false h = omega (arith, length-append (line_of k) (lines_of l))

-- room for l and m serves for m after the lines of l
room-left :
    (l m : List Main) {o p : List ℕ} {a e n : ℕ} → a + room (l ++ m) ≤ n → Lists l o a p e → e + room m ≤ n
room-left l m h x = omega (arith, h, x.end, kept-room l, room-append l m)

-- ONE MAIN
pub listed : (k : Main) {o o' : List ℕ} {a e : ℕ} → true ≡ accepted k → Writes o a (line_of k) o' e → Lists (k ∷ []) o a o' e
unfolding keep lines_of
listed k t x = writes_as x (sym (rw (sym t) (append-nil (line_of k))))

pub left_out : (k : Main) {o : List ℕ} {a : ℕ} → false ≡ accepted k → a ≤ length o → Lists (k ∷ []) o a o a
unfolding keep lines_of
left_out k {o} {a} t h = writes_as (writes-none o a h) (rw (sym t))

pub line-room : (k : Main) → room (k ∷ []) ≡ length (line_of k)
unfolding lines_of
line-room k = ap length (append-nil (line_of k))

-- MAINS THAT GO ON
abbrev pub going_on : Main → List Main → List Main
going_on m ks = map (λ k. m ++ k) ks

none_after : (m : Main) (n : ℕ) → n ≡ 0 → after m n ≡ m ∷ []
unfolding mains
none_after m n z = rw z (ap (λ k. k ∷ []) (append-nil m))

pub room-one : (m : Main) (n : ℕ) → n ≡ 0 → room (after m n) ≡ room (m ∷ [])
room-one m n z = ap room (none_after m n z)

pub lists-one : (m : Main) (n : ℕ) {o p : List ℕ} {a e : ℕ} → n ≡ 0 → Lists (m ∷ []) o a p e → Lists (after m n) o a p e
lists-one m n {o} {p} {a} {e} z x = subst (λ l. Lists l o a p e) (sym (none_after m n z)) x

-- those whose next statement is one of the first i
abbrev pub up_to : Main → ℕ → ℕ → List Main
up_to m n i = going_on m (each_first (take i places) (mains n))

pub all_after : (m : Main) (n : ℕ) → (n ≡ 0 → ⊥) → up_to m (n - 1) 5 ≡ after m n
unfolding mains
all_after m zero z = absurd (z refl)
all_after m (suc n) z = let e : suc n - 1 ≡ n = omega arith in rw e

pub lists-all :
    (m : Main) (n i : ℕ) {o p : List ℕ} {a e : ℕ} → (n ≡ 0 → ⊥) → i ≡ 5 → Lists (up_to m (n - 1) i) o a p e → Lists (after m n) o a p e
lists-all m n i {o} {p} {a} {e} z h x = subst (λ l. Lists l o a p e) (ap (up_to m (n - 1)) h ∙ all_after m n z) x

pub none_yet : (m : Main) (n : ℕ) {o : List ℕ} {a : ℕ} → a ≤ length o → Lists (up_to m n 0) o a o a
unfolding each_first keep lines_of
none_yet m n {o} {a} h = writes-none o a h

each_append : (ps qs : List ℕ) (ms : List Main) → each_first (ps ++ qs) ms ≡ each_first ps ms ++ each_first qs ms
unfolding each_first
each_append [] qs ms = refl
each_append (p ∷ ps) qs ms =
    ap (λ l. map (λ m. p ∷ m) ms ++ l) (each_append ps qs ms) ∙ sym (append_assoc (map (λ m. p ∷ m) ms) (each_first ps ms) (each_first qs ms))

first_on : (q : Main) (p : ℕ) (ms : List Main) → map (λ m. q ++ m) (map (λ m. p ∷ m) ms) ≡ map (λ m. (q ++ (p ∷ [])) ++ m) ms
first_on q p [] = refl
first_on q p (m ∷ ms) = ap₂ ◌∷◌ (sym (append_assoc q (p ∷ []) m)) (first_on q p ms)

place_at : (i : ℕ) → i < 5 → get_or places i 0 ≡ i + 1
place_at zero h = refl
place_at (suc zero) h = refl
place_at (suc (suc zero)) h = refl
place_at (suc (suc (suc zero))) h = refl
place_at (suc (suc (suc (suc zero)))) h = refl
place_at (suc (suc (suc (suc (suc i))))) h = absurd (omega arith)

first-places : (i : ℕ) → i < 5 → take (i + 1) places ≡ take i places ++ ((i + 1) ∷ [])
first-places i h = rw add-one (take-suc places i 0 h ∙ ap (λ p. take i places ++ (p ∷ [])) (place_at i h ∙ add-one i))

module _ (m r : Main) (n i : ℕ) (h : i < 5) (q : r ≡ m ++ ((i + 1) ∷ [])) where
  one_more : up_to m n (i + 1) ≡ up_to m n i ++ after r n
  unfolding each_first
  one_more =
      ap (λ ps. going_on m (each_first ps (mains n))) (first-places i h)
      ∙ (ap (going_on m) (each_append (take i places) ((i + 1) ∷ []) (mains n))
      ∙ (map-append (λ k. m ++ k) (each_first (take i places) (mains n)) (map (λ k. (i + 1) ∷ k) (mains n) ++ [])
      ∙ ap (λ l. up_to m n i ++ l)
      (ap (going_on m) (append-nil (map (λ k. (i + 1) ∷ k) (mains n)))
      ∙ (first_on m (i + 1) (mains n) ∙ ap (λ l. map (λ k. l ++ k) (mains n)) (sym q)))))

  pub lists-on :
      {o p o' : List ℕ} {a e f : ℕ} → Lists (up_to m n i) o a p e → Lists (after r n) p e o' f → Lists (up_to m n (i + 1)) o a o' f
  lists-on x y = writes_as (writes-on x y) (kept_append (up_to m n i) (after r n) ∙ ap (λ l. lines_of (keep accepted l)) (sym one_more))

-- the first places take no more room than all
first-room : (m : Main) (n i : ℕ) → room (up_to m n i) ≤ room (up_to m n 5)
first-room m n i =
    omega (arith, ap (λ ps. room (going_on m (each_first ps (mains n)))) (take-append-drop i places), ap (λ l. room (going_on m l)) (each_append (take i places) (drop i places) (mains n)), ap room (map-append (λ k. m ++ k) (each_first (take i places) (mains n)) (each_first (drop i places) (mains n))), room-append (up_to m n i) (going_on m (each_first (drop i places) (mains n))))

pub room-on :
    (m r : Main) (n i : ℕ) → i < 5 → r ≡ m ++ ((i + 1) ∷ []) →
    {o p : List ℕ} {a e k : ℕ} → a + room (up_to m n 5) ≤ k → Lists (up_to m n i) o a p e → e + room (after r n) ≤ k
room-on m r n i h q g x =
    room-left (up_to m n i) (after r n) (omega (arith, g, first-room m n (i + 1), ap room (one_more m r n i h q))) x

-- ALL
pub begun-none : (m : Main) (n : ℕ) → m ≡ [] → after m n ≡ mains n
begun-none m n e = ap (λ l. map (λ k. l ++ k) (mains n)) e ∙ map-id (mains n)

-- those of fewer than n statements
unfoldable pub below : ℕ → List Main
below zero = []
below (suc n) = mains_to n

below_more : (n : ℕ) → below (n + 1) ≡ below n ++ mains n
unfolding below mains_to
below_more zero = refl
below_more (suc n) = rw add-one refl

room-all : (n : ℕ) → n ≤ most_statements → room (below (n + 1)) ≤ out_bytes
unfolding below Small.opened
room-all zero h = omega arith
room-all (suc zero) h = omega arith
room-all (suc (suc zero)) h = omega arith
room-all (suc (suc (suc zero))) h = omega arith
room-all (suc (suc (suc (suc n)))) h = absurd (omega arith)

pub lists-none : (o : List ℕ) → Lists (below 0) o 0 o 0
unfolding below keep lines_of
lists-none o = writes-none o 0 (omega arith)

module _ (m : Main) (n : ℕ) (h : m ≡ []) where
  pub lists-longer :
      {o p o' : List ℕ} {a e f : ℕ} → Lists (below n) o a p e → Lists (after m n) p e o' f → Lists (below (n + 1)) o a o' f
  lists-longer x y =
      writes_as (writes-on x y)
      (kept_append (below n) (after m n)
      ∙ ap (λ l. lines_of (keep accepted l)) (ap (λ l. below n ++ l) (begun-none m n h) ∙ sym (below_more n)))

  pub room-longer : n ≤ most_statements → {o p : List ℕ} {e : ℕ} → Lists (below n) o 0 p e → e + room (after m n) ≤ out_bytes
  room-longer l x =
      room-left (below n) (after m n)
      (omega (arith, room-all n l, ap room (below_more n), ap (λ l. room (below n ++ l)) (begun-none m n h))) x

pub all_listed : {o o' : List ℕ} {n e : ℕ} → n ≡ 4 → Lists (below n) o 0 o' e → Prints printed o' e
unfolding below small
all_listed {o} {o'} {n} {e} h x =
    let y = subst (λ k. Lists (below k) o 0 o' e) h x in record { high = y.high; are = y.are }
