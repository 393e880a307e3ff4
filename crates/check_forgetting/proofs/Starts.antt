-- The state that knows nothing.
use mathlib.Core.Path.{◌≡◌, sym, ap₂, ◌∙◌, subst}
use mathlib.Core.List.{List}
use Prim.Native.Nat.{ℕ, ◌<◌}
use native.Mathlib.Omega.{arith}
use lib.ListN.{length, get_or, set, replicate, length-set, length-replicate, get_or-replicate}
use lib.Seq.{get_or-set_same, get_or-set_other}
use Rattle.rules.specs.State as Rules
use Rattle.check_equality.specs.Listing.{listed}
use Rattle.check_equality.specs.Links.{Header}
use Rattle.check_equality.specs.Layout.{left_sides, fact_count, entry_count, bytes}
use Rattle.check_state.specs.States.{facts_in, permissions_in, facts, entries, Linked}
use Rattle.check_labels.specs.Facts.{Fresh}
use Rattle.check_labels.proofs.FreshLabels.{fresh-linked}
use Rattle.check_forgetting.specs.Changes.{Becomes}

-- no facts, no entries
pub knows-nothing :
    (key b : List ℕ) → Header key → length b ≡ bytes → ((i : ℕ) → i < left_sides → get_or b i 0 ≡ i) → facts b ≡ 0 → entries b ≡ 0 → Becomes Rules.empty key b
unfolding listed
knows-nothing key b H size own none last =
    record {
      wf = record { linked = subst (λ (n : ℕ). Linked key b n) (sym none) (fresh-linked key b H size own); fit = omega (arith, last); kinds = λ i h. absurd (omega (arith, last)) };
      same = ap₂ (λ (n m : ℕ). record { permissions = permissions_in b n; facts = facts_in key b m }) last none;
    }

-- bytes that were all 0, with fresh labels
pub fresh-nothing : (key b : List ℕ) → Header key → Fresh (replicate bytes 0) b → Becomes Rules.empty key b
fresh-nothing key b H F =
    knows-nothing key b H (F.size ∙ length-replicate {A = ℕ} bytes 0) F.own
    (F.rest fact_count (omega arith) ∙ get_or-replicate bytes fact_count 0 0 (omega arith))
    (F.rest entry_count (omega arith) ∙ get_or-replicate bytes entry_count 0 0 (omega arith))

-- bytes whose counts were set
module _ (key b b' : List ℕ) (H : Header key) (l : length b ≡ bytes) (F : Fresh b b') where
  abbrev done : List ℕ
  done = set (set b' fact_count 0) entry_count 0

  size : length done ≡ bytes
  size = length-set (set b' fact_count 0) entry_count 0 ∙ length-set b' fact_count 0 ∙ F.size ∙ l

  at : (i : ℕ) → (i ≡ fact_count → ⊥) → (i ≡ entry_count → ⊥) → get_or done i 0 ≡ get_or b' i 0
  at i p q = get_or-set_other (set b' fact_count 0) entry_count i 0 0 q ∙ get_or-set_other b' fact_count i 0 0 p

  none : facts done ≡ 0
  none = get_or-set_other (set b' fact_count 0) entry_count fact_count 0 0 (omega arith) ∙ get_or-set_same b' fact_count 0 0 (omega (arith, F.size))

  last : entries done ≡ 0
  last = get_or-set_same (set b' fact_count 0) entry_count 0 0 (rw (length-set b' fact_count 0) (omega (arith, F.size)))

  pub cleared : Becomes Rules.empty key done
  cleared = knows-nothing key done H size (λ i h. at i (omega arith) (omega arith) ∙ F.own i h) none last
