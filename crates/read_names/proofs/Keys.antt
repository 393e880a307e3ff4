-- Laws of keys: a row that has another key is not named x, and one that has the key of x is named as it is written.
use mathlib.Core.Path.{◌≡◌, refl, sym, ap, ◌∙◌}
use mathlib.Core.Bool.{Bool, true, false, ◌||◌, and-false}
use mathlib.Core.List.{List, []}
use Prim.Native.Nat.{ℕ, ◌+◌, ◌≤◌, ◌<◌}
use native.Mathlib.Omega.{arith}
use lib.Dec.{eqb}
use lib.ListN.{length}
use borrow.Author.Tests.{eqb-true, eqb-false, eq-eqb, ne_eqb}
use Rattle.rules.specs.Base.{Name, eq_name}
use Rattle.read_bytes.proofs.Search.{not_same}
use Rattle.read_names.specs.Rows.{name_in, no_span, owner_at, written_at, key_of, key_at, name_at, entry_at, is_entry, NoKey, any_owner}
use Rattle.read_names.proofs.Searches.{At, past}

module _ (t w : List ℕ) (i : ℕ) where
  -- the name as it is written
  abbrev pub written : Name
  written = name_in t (written_at w i)

  pub named : key_at w i ≡ key_of written → name_at t w i ≡ written_at w i
  unfolding name_at
  named e = rw (eq-eqb (key_at w i) (key_of written) e)

  pub nameless : (key_at w i ≡ key_of written → ⊥) → name_at t w i ≡ no_span
  unfolding name_at
  nameless n = rw (ne_eqb (key_at w i) (key_of written) n)

  -- the name by its two cases
  by_key : (P : Name → Type 0) → (key_at w i ≡ key_of written → P written) → ((key_at w i ≡ key_of written → ⊥) → P []) → P (name_in t (name_at t w i))
  by_key P y n = go (eqb (key_at w i) (key_of written)) refl
    where
      go : (b : Bool) → eqb (key_at w i) (key_of written) ≡ b → P (name_in t (name_at t w i))
      go true e = let k = eqb-true _ _ e in rw (named k) (y k)
      go false e = let k = eqb-false _ _ e in rw (nameless k) (n k)

  module _ (x : Name) (some : 0 < length x) where
    no_name : eq_name [] x ≡ false
    no_name = not_same [] x (λ e. omega (arith, ap length e))

    other_name : (key_at w i ≡ key_of x → ⊥) → eq_name (name_in t (name_at t w i)) x ≡ false
    other_name o =
        by_key (λ y. eq_name y x ≡ false) (λ k. not_same written x (λ e. o (k ∙ ap key_of e))) (λ k. no_name)

    pub same_name : key_at w i ≡ key_of x → eq_name (name_in t (name_at t w i)) x ≡ eq_name written x
    same_name e =
        by_key (λ y. eq_name y x ≡ eq_name written x) (λ k. refl)
        (λ k. no_name ∙ sym (not_same written x (λ s. k (e ∙ ap key_of (sym s)))))

    pub other_key : (c : ℕ) → (key_at w i ≡ key_of x → ⊥) → is_entry c x (entry_at t w i) ≡ false
    unfolding is_entry entry_at
    other_key c o = rw (other_name o) (and-false (eqb c any_owner || eqb (owner_at w i) c))

-- THE SEARCH BY KEYS: rows that have another key are passed
pub keys_passed :
    (t w : List ℕ) (first n o : ℕ) (x : Name) (k : ℕ) → 0 < length x → k ≡ key_of x → (i j : ℕ) → i ≤ j → j ≤ n → NoKey w first i k j →
    At (is_entry o x) (entry_at t w) first n i → At (is_entry o x) (entry_at t w) first n j
keys_passed t w first n o x k some e i j l h y =
    past (is_entry o x) (entry_at t w) first n i j l h (λ m b c. other_key t w (first + m) x some o (λ z. y m c b (z ∙ sym e)))
