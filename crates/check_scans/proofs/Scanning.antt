-- Facts before the first that forgetting may change.
use Rattle.std.proofs.Common.{◌≡◌, ℕ, ◌+◌, ◌*◌, ◌<◌, ◌≤◌, Bool, true, false, cond, not, ◌&&◌, ◌||◌, eqb, ltb, List, get_or, replicate, sym, refl, ◌∙◌, ⊎_elim, arith, ltb-false, ltb-true}
use lib.ListN.{length-replicate}
use Rattle.rules.proofs.Lists.{decide_eq}
use Rattle.check_equality.specs.Layout.{slots, left_sides, right_sides, relations_at}
use Rattle.check_equality.specs.Links.{Header, picked}
use Rattle.check_state.specs.States.{facts}
use Rattle.check_state.proofs.Entries.{no-flags}
use Rattle.check_inequality.proofs.Searches.{or-none-left, or-none-right}
use Rattle.check_entries.specs.PathsOut.{key_dropped, OutMarked}
use Rattle.check_entries.proofs.Marking.{unmarked-path}
use Rattle.check_scans.specs.Sides.{mentions_key, renamed_key, Dropped, MappedKeys}
use Rattle.check_scans.specs.Scans.{same_sides, trivial_at, touches, Scanned, marked_key, path_key_of, NoPath, Untouched}

pub and-true : (c : Bool) → (c && true) ≡ c
and-true true = refl
and-true false = refl

pub and-false : (c : Bool) → (c && false) ≡ false
and-false true = refl
and-false false = refl

-- ONE FACT
pub touches_none : (test : ℕ → Bool) (l r : ℕ) → test l ≡ false → test r ≡ false → eqb l r ≡ touches test l r
unfolding touches
touches_none test l r d e = rw (d, e)

-- ONE FACT MORE
pub scanned-more :
    (test : ℕ → Bool) (key b : List ℕ) (i : ℕ) → i < facts b → Scanned test key b i →
    touches test (get_or key (left_sides + 2 * i) 0) (get_or key (right_sides + 2 * i) 0) ≡ false → Scanned test key b (i + 1)
unfolding touches same_sides
scanned-more test key b i h S e =
    record {
      most = omega arith;
      sides =
          λ j a g.
          ⊎_elim (λ d. rw d left) (λ d. ⊎_elim (λ f. rw f right) (λ f. S.sides j a (omega arith)) (decide_eq j (right_sides + 2 * i)))
          (decide_eq j (left_sides + 2 * i));
      plain = λ c g. ⊎_elim (λ d. rw d plain) (λ d. S.plain c (omega arith)) (decide_eq c i);
    }
  where
    left : test (get_or key (left_sides + 2 * i) 0) ≡ false
    left = or-none-left (test (get_or key (left_sides + 2 * i) 0)) _ e

    one : Bool
    one = eqb (get_or key (left_sides + 2 * i) 0) (get_or key (right_sides + 2 * i) 0)

    others : (test (get_or key (right_sides + 2 * i) 0) || one) ≡ false
    others = or-none-right (test (get_or key (left_sides + 2 * i) 0)) _ e

    right : test (get_or key (right_sides + 2 * i) 0) ≡ false
    right = or-none-left (test (get_or key (right_sides + 2 * i) 0)) one others

    plain : trivial_at key b i ≡ false
    plain = rw (or-none-right (test (get_or key (right_sides + 2 * i) 0)) one others) (and-false (not (eqb (get_or b (relations_at + i) 0) 1)))

-- another test that passes no more
pub scanned-less : (test test' : ℕ → Bool) (key b : List ℕ) (i : ℕ) → ((k : ℕ) → test k ≡ false → test' k ≡ false) → Scanned test key b i → Scanned test' key b i
scanned-less test test' key b i w S = record { most = S.most; sides = λ j a h. w (get_or key j 0) (S.sides j a h); plain = S.plain }

-- WHAT IS BEFORE IT
module _ (test : ℕ → Bool) (key b : List ℕ) (i : ℕ) (S : Scanned test key b i) where
  pub scanned-dropped : Dropped test key (left_sides + 2 * i) (replicate slots false)
  scanned-dropped = record { size = length-replicate {A = Bool} slots false; at = λ j a h. no-flags slots j ∙ sym (S.sides j a h) }

  pub dropped-untouched : (gone : List Bool) → Dropped test key (left_sides + 2 * facts b) gone → Untouched key b gone i
  dropped-untouched gone D =
      record { most = S.most; flags = λ j a h. D.at j a (omega (arith, S.most)) ∙ S.sides j a h; plain = S.plain }

  -- the facts before it, where keys are mapped and those before it stay
  pub mapped-untouched :
      (map : ℕ → ℕ) (key' : List ℕ) → ((k : ℕ) → test k ≡ false → map k ≡ k) → MappedKeys map key (left_sides + 2 * facts b) key' →
      Untouched key' b (replicate slots false) i
  mapped-untouched map key' w M =
      record {
        most = S.most;
        flags = λ j a h. no-flags slots j;
        plain = λ c h. rw (same (left_sides + 2 * c) (omega arith) (omega arith), same (right_sides + 2 * c) (omega arith) (omega arith)) (S.plain c h);
      }
    where
      same : (j : ℕ) → left_sides ≤ j → j < left_sides + 2 * i → get_or key' j 0 ≡ get_or key j 0
      same j a h = M.at j a (omega (arith, S.most)) ∙ w (get_or key j 0) (S.sides j a h)

  pub mapped-start : (map : ℕ → ℕ) → Header key → ((k : ℕ) → test k ≡ false → map k ≡ k) → MappedKeys map key (left_sides + 2 * i) key
  mapped-start map H w = record { header = H; at = λ j a h. sym (w (get_or key j 0) (S.sides j a h)) }

-- TESTS
pub picked-other : (from to k : ℕ) → eqb k from ≡ false → picked from to k ≡ k
unfolding picked
picked-other from to k e = rw e

pub mentions-not : (x k : ℕ) → mentions_key x k ≡ false → eqb k x ≡ false
unfolding mentions_key
mentions-not x k e = or-none-left (eqb k x) _ e

pub renamed-not : (x to k : ℕ) → mentions_key x k ≡ false → renamed_key x to k ≡ k
unfolding mentions_key renamed_key
renamed-not x to k e = rw (or-none-left (eqb k x) _ e, or-none-right (eqb k x) _ e)

pub no-path-of : (x k : ℕ) → mentions_key x k ≡ false → path_key_of x k ≡ false
unfolding path_key_of
no-path-of x k e = rw e (and-false (not (eqb k x)))

-- a key that names x and is no path's is x's
pub sole-name : (x k : ℕ) → path_key_of x k ≡ false → mentions_key x k ≡ eqb k x
unfolding path_key_of mentions_key
sole-name x k e = go (eqb k x) _ e
  where
    go : (c d : Bool) → (not c && (c || d)) ≡ false → (c || d) ≡ c
    go true d e = refl
    go false d e = e

pub sole-renamed : (x to k : ℕ) → path_key_of x k ≡ false → renamed_key x to k ≡ picked x to k
unfolding path_key_of mentions_key renamed_key picked
sole-renamed x to k e = go (eqb k x) _ _ e
  where
    go : (c d : Bool) (l : ℕ) → (not c && (c || d)) ≡ false → cond c to (cond d l k) ≡ cond c to k
    go true d l e = refl
    go false d l e = rw e

pub unmarked-kept : (b : List ℕ) (out marks : List Bool) (k : ℕ) → OutMarked b out marks → marked_key marks k ≡ false → key_dropped b out k ≡ false
unmarked-kept b out marks k M e = rw (unmarked-path b out _ marks k _ M.1 refl e)

-- no path of x is a side
pub no-paths :
    (x : ℕ) (key b : List ℕ) (i : ℕ) → Scanned (mentions_key x) key b i → NoPath key (left_sides + 2 * i) (left_sides + 2 * facts b) x → (j : ℕ) → left_sides ≤ j →
    j < left_sides + 2 * facts b → path_key_of x (get_or key j 0) ≡ false
no-paths x key b i S N j a h = go (ltb j (left_sides + 2 * i)) refl
  where
    go : (c : Bool) → ltb j (left_sides + 2 * i) ≡ c → path_key_of x (get_or key j 0) ≡ false
    go true e = no-path-of x (get_or key j 0) (S.sides j a (ltb-true j (left_sides + 2 * i) e))
    go false e = N j (ltb-false j (left_sides + 2 * i) e) h
