-- The sets by their sizes, smallest first: the first that passes, and what the area then holds.
use mathlib.Core.Path.{◌≡◌, refl, sym, ap, subst, ◌∙◌}
use mathlib.Core.Bool.{Bool, true, false, cond, ◌&&◌}
use mathlib.Core.List.{List, [], ◌∷◌, ◌++◌}
use mathlib.Core.Option.{Option, none, some}
use Prim.Native.Nat.{ℕ, zero, suc, ◌+◌, ◌-◌, ◌≤◌, ◌<◌}
use native.Mathlib.Omega.{arith}
use lib.ListN.{length, get_or, take, replicate, length-append}
use Rattle.rules.specs.Base.{first}
use Rattle.rules.specs.Limits.{most_filled, places_bytes, work_bytes}
use Rattle.rules.specs.Syntax.{Formula, this_variable, parameter}
use Rattle.rules.specs.Rules.{check_program}
use Rattle.rules.specs.Fill.{places_from, choose, choose_up_to, sets_of}
use Rattle.rules.specs.Calls.{is_accepted}
use Rattle.filling.specs.Sets.{fields_of, accesses_in, formula_of, program_with, is_accepted_with, set_in}
use Rattle.tables.specs.Decode.{run, byte_at, method_count, program_in}
use Rattle.tables.specs.Tables.{Tables}
use Rattle.fill_rows.specs.Rewrites.{SameBut}
use Rattle.fill_rows.proofs.Rewritten.{same-trans}
use Rattle.fill_blocks.specs.Blocks.{block_verdict, others_pass}
use Rattle.fill_blocks.proofs.Calling.{methods-are}
use Rattle.fill_blocks.proofs.Apart.{others_apart, count_same}
use Rattle.fill_blocks.proofs.Passing.{accepted-by-parts}
use Rattle.filler.specs.declared.Sought.{Sought}
use Rattle.filler.specs.Search.{accesses_of, Ready, places_in, passes_with, Seeking, Finds, Held, SetIs, Fills}
use Rattle.filler.proofs.Firsts.{first-left, first-right, first-same}
use Rattle.filler.proofs.Choosing.{fields-length}
use Rattle.filler.proofs.Keeping.{passes_same}

-- SMALLER SETS
unfoldable pub below : List ℕ → ℕ → List (List ℕ)
below ps zero = []
below ps (suc k) = choose_up_to k ps

grown : (ps : List ℕ) (k : ℕ) → choose_up_to k ps ≡ below ps k ++ choose k ps
unfolding below choose_up_to
grown ps zero = refl
grown ps (suc k) = refl

module _ (t : List ℕ → Bool) (ps : List ℕ) where
  pub none-of-size : (k : ℕ) → first t (below ps k) ≡ none → first t (choose k ps) ≡ none → first t (below ps (k + 1)) ≡ none
  unfolding below
  none-of-size k e f =
      let z : k + 1 ≡ suc k = omega arith in
      rw z (ap (first t) (grown ps k) ∙ (first-right t (below ps k) (choose k ps) e ∙ f))

  some_up : (d k : ℕ) (a : List ℕ) → first t (choose_up_to k ps) ≡ some a → first t (choose_up_to (d + k) ps) ≡ some a
  unfolding choose_up_to
  some_up zero k a e = let z : 0 + k ≡ k = omega arith in rw z e
  some_up (suc d) k a e =
      let z : suc d + k ≡ suc (d + k) = omega arith in
      rw z (first-left t (choose_up_to (d + k) ps) (choose (suc (d + k)) ps) a (some_up d k a e))

  pub some-of-size : (k n : ℕ) (a : List ℕ) → k ≤ n → first t (below ps k) ≡ none → first t (choose k ps) ≡ some a → first t (choose_up_to n ps) ≡ some a
  some-of-size k n a l e f =
      let z : n - k + k ≡ n = omega arith in
      subst (λ i. first t (choose_up_to i ps) ≡ some a) z
      (some_up (n - k) k a (ap (first t) (grown ps k) ∙ (first-right t (below ps k) (choose k ps) e ∙ f)))

-- NO SET, where a block that does not call the method is refused
none_passes : (t : List ℕ → Bool) (l : List (List ℕ)) → ((a : List ℕ) → t a ≡ false) → first t l ≡ none
unfolding first
none_passes t [] h = refl
none_passes t (a ∷ l) h = rw (h a) (none_passes t l h)

and-false : (a b : Bool) → (a && (b && false)) ≡ false
and-false true true = refl
and-false true false = refl
and-false false b = refl

refused-with :
    (w : List ℕ) (m : ℕ) (φ : Formula ℕ) → m < method_count w → others_pass (program_in w) m false ≡ false →
    is_accepted (check_program (program_with m φ (program_in w))) ≡ false
refused-with w m φ l e =
    let k : m < length (program_with m φ (program_in w)).methods = omega (arith, count_same (program_in w) m φ, methods-are w 0) in
    accepted-by-parts (program_with m φ (program_in w)) m k
    ∙ (ap (λ b. is_accepted (block_verdict (program_with m φ (program_in w)) m) && (others_pass (program_with m φ (program_in w)) m true && b)) (others_apart (program_in w) m φ ∙ e)
    ∙ and-false (is_accepted (block_verdict (program_with m φ (program_in w)) m)) (others_pass (program_with m φ (program_in w)) m true))

pub no-set :
    (w : List ℕ) (m c d : ℕ) → m < method_count w → others_pass (program_in w) m false ≡ false →
    set_in (program_in w) m (accesses_in (program_in w).classes c d) ≡ none
unfolding set_in is_accepted_with
no-set w m c d l e = none_passes _ (sets_of (length (accesses_in (program_in w).classes c d))) each
  where
    each : (ps : List ℕ) → is_accepted_with (program_in w) m (accesses_in (program_in w).classes c d) ps ≡ false
    each ps = refused-with w m (formula_of (accesses_in (program_in w).classes c d) ps) l e

-- THE WHOLE
module _ (w : List ℕ) (s : Sought) (r : Ready w s) where
  pub count-is : length (accesses_of w s) ≡ s.count
  unfolding accesses_in
  count-is =
      length-append (fields_of this_variable (get_or (program_in w).classes s.class [])) (fields_of parameter (get_or (program_in w).classes s.parameter []))
      ∙ ((λ i. fields-length this_variable (get_or (program_in w).classes s.class []) i + fields-length parameter (get_or (program_in w).classes s.parameter []) i)
      ∙ (ap (λ n. n + length (get_or (program_in w).classes s.parameter [])) (sym r.own) ∙ sym r.count))

  set_is : set_in (program_in w) s.method (accesses_of w s) ≡ first (passes_with w s []) (choose_up_to most_filled (places_from 1 s.count))
  unfolding set_in sets_of passes_with
  set_is = ap (λ n. first (is_accepted_with (program_in w) s.method (accesses_of w s)) (choose_up_to most_filled (places_from 1 n))) count-is

  abbrev tried : ℕ → Option (List ℕ)
  tried k = first (passes_with w s []) (below (places_from 1 s.count) k)

  pub none_tried : tried 0 ≡ none
  unfolding below first
  none_tried = refl

  pub seeks : (v : List ℕ) (b : List ℕ) (k : ℕ) → k ≤ most_filled → Ready v s → length b ≡ places_bytes → Seeking v s b k 0 1
  unfolding run formula_of
  seeks v b k l q four =
      record {
        ready = q;
        set = record { there = λ a p h. absurd (omega arith); atoms = refl };
        room = omega arith;
        low = omega arith;
        four = four;
      }

  module _ (v : List ℕ) (same : SameBut s.method w v) (b : List ℕ) (k : ℕ) (l : k ≤ most_filled) (before : tried k ≡ none) where
    size-answer :
        (found : Bool) (v' b' : List ℕ) → Finds v s b k 0 1 found v' b' →
        first (passes_with w s []) (choose k (places_from 1 s.count)) ≡ cond found (some (places_in b' 0 k)) none
    unfolding run
    size-answer found v' b' F =
        let z : suc s.count - 1 ≡ s.count = omega arith in
        sym (first-same _ _ (choose k (places_from 1 s.count)) (λ qs. passes_same w v s same [] qs)) ∙ (rw z at F.answer)

    pub size-fails : (found : Bool) (v' b' : List ℕ) → Finds v s b k 0 1 found v' b' → found ≡ false → tried (k + 1) ≡ none
    size-fails found v' b' F e =
        none-of-size (passes_with w s []) (places_from 1 s.count) k before
        (size-answer found v' b' F ∙ ap (λ c. cond c (some (places_in b' 0 k)) none) e)

    pub size-found :
        (found : Bool) (v' b' : List ℕ) → Finds v s b k 0 1 found v' b' → found ≡ true →
        set_in (program_in w) s.method (accesses_of w s) ≡ some (places_in b' 0 k)
    size-found found v' b' F e =
        set_is
        ∙ some-of-size (passes_with w s []) (places_from 1 s.count) k most_filled (places_in b' 0 k) l before
        (size-answer found v' b' F ∙ ap (λ c. cond c (some (places_in b' 0 k)) none) e)

  pub all-tried : (k : ℕ) → most_filled < k → k ≤ most_filled + 1 → tried k ≡ none → set_in (program_in w) s.method (accesses_of w s) ≡ none
  unfolding below
  all-tried k l h e = let z : k ≡ 5 = omega arith in set_is ∙ (rw z at e)

-- WHAT THE AREA HOLDS
zeros-after :
    (x y z u k : ℕ) → k ≤ places_bytes → ((j : ℕ) → k ≤ j → byte_at (x ∷ y ∷ z ∷ u ∷ []) j ≡ 0) →
    take places_bytes (places_in (x ∷ y ∷ z ∷ u ∷ []) 0 k ++ replicate places_bytes 0) ≡ x ∷ y ∷ z ∷ u ∷ []
unfolding run
zeros-after x y z u zero l h =
    λ i. sym (h 0 (omega arith)) i ∷ sym (h 1 (omega arith)) i ∷ sym (h 2 (omega arith)) i ∷ sym (h 3 (omega arith)) i ∷ []
zeros-after x y z u (suc zero) l h =
    λ i. x ∷ sym (h 1 (omega arith)) i ∷ sym (h 2 (omega arith)) i ∷ sym (h 3 (omega arith)) i ∷ []
zeros-after x y z u (suc (suc zero)) l h = λ i. x ∷ y ∷ sym (h 2 (omega arith)) i ∷ sym (h 3 (omega arith)) i ∷ []
zeros-after x y z u (suc (suc (suc zero))) l h = λ i. x ∷ y ∷ z ∷ sym (h 3 (omega arith)) i ∷ []
zeros-after x y z u (suc (suc (suc (suc zero)))) l h = refl
zeros-after x y z u (suc (suc (suc (suc (suc k))))) l h = absurd (omega arith)

pub padded : (b : List ℕ) (k : ℕ) → length b ≡ places_bytes → k ≤ places_bytes → ((j : ℕ) → k ≤ j → byte_at b j ≡ 0) → Held b (places_in b 0 k)
padded [] k f l h = absurd (omega arith)
padded (x ∷ []) k f l h = absurd (omega arith)
padded (x ∷ y ∷ []) k f l h = absurd (omega arith)
padded (x ∷ y ∷ z ∷ []) k f l h = absurd (omega arith)
padded (x ∷ y ∷ z ∷ u ∷ []) k f l h = record { is = zeros-after x y z u k l h }
padded (x ∷ y ∷ z ∷ u ∷ v ∷ b) k f l h = absurd (omega arith)

-- SIZE BY SIZE

-- the sets of fewer than k places are tried
pub record Going (w₀ : List ℕ) (s : Sought) (w b : List ℕ) (k : ℕ) : Type 0 where
  pub few : k ≤ most_filled + 1
  pub ready : Ready w s
  pub same : SameBut s.method w₀ w
  pub zeros : (j : ℕ) → k ≤ j → byte_at b j ≡ 0
  pub four : length b ≡ places_bytes
  pub size : length w ≡ work_bytes
  pub none_yet : first (passes_with w₀ s []) (below (places_from 1 s.count) k) ≡ none

no_byte : (j : ℕ) → byte_at (replicate places_bytes 0) j ≡ 0
no_byte zero = refl
no_byte (suc zero) = refl
no_byte (suc (suc zero)) = refl
no_byte (suc (suc (suc zero))) = refl
no_byte (suc (suc (suc (suc j)))) = refl

pub begins : (w : List ℕ) (s : Sought) (b : List ℕ) → Ready w s → b ≡ replicate places_bytes 0 → Going w s w b 0
begins w s b r e =
    record {
      few = omega arith;
      ready = r;
      same = λ φ. refl;
      zeros = λ j _. ap (λ b. byte_at b j) e ∙ no_byte j;
      four = ap length e;
      size = r.spared.tables.size;
      none_yet = none_tried w s r;
    }

module _ (w₀ : List ℕ) (s : Sought) (r : Ready w₀ s) (w b : List ℕ) (k : ℕ) (G : Going w₀ s w b k) where
  pub next-size :
      k ≤ most_filled → (found : Bool) (w' b' : List ℕ) → Finds w s b k 0 1 found w' b' → found ≡ false → Going w₀ s w' b' (k + 1)
  next-size l found w' b' F e =
      record {
        few = omega arith;
        ready = F.ready;
        same = same-trans s.method w₀ w w' G.same F.same;
        zeros = λ j h. F.later_kept j (omega arith) ∙ G.zeros j (omega arith);
        four = F.four;
        size = F.size ∙ G.size;
        none_yet = size-fails w₀ s r w G.same b k l G.none_yet found w' b' F e;
      }

  module _ (m c d : ℕ) (em : s.method ≡ m) (ec : s.class ≡ c) (ed : s.parameter ≡ d) where
    sets_same : set_in (program_in w₀) s.method (accesses_of w₀ s) ≡ set_in (program_in w₀) m (accesses_in (program_in w₀).classes c d)
    sets_same = λ i. set_in (program_in w₀) (em i) (accesses_in (program_in w₀).classes (ec i) (ed i))

    pub set_found_lem :
        k ≤ most_filled → (found : Bool) (w' b' : List ℕ) → Finds w s b k 0 1 found w' b' → found ≡ true → Fills w₀ m c d true w' b'
    unfolding SetIs
    set_found_lem l found w' b' F e =
        record {
          answer = (
            places_in b' 0 k,
            sym sets_same ∙ size-found w₀ s r w G.same b k l G.none_yet found w' b' F e,
            padded b' k F.four (omega arith) (λ j h. F.later_kept j (omega arith) ∙ G.zeros j h),
          );
          four = F.four;
          size = F.size ∙ G.size;
        }

    pub none_found : most_filled < k → Fills w₀ m c d false w b
    unfolding SetIs
    none_found l =
        record {
          answer = sym sets_same ∙ all-tried w₀ s r k l G.few G.none_yet;
          four = G.four;
          size = G.size;
        }

pub block_refused :
    (w : List ℕ) (m c d : ℕ) (b : List ℕ) → Tables w → m < method_count w → others_pass (program_in w) m false ≡ false →
    b ≡ replicate places_bytes 0 → Fills w m c d false w b
unfolding SetIs
block_refused w m c d b t l e z = record { answer = no-set w m c d l e; four = ap length z; size = t.size }
