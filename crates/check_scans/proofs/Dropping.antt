-- Sides dropped or renamed, one after the other.
use Rattle.std.proofs.Common.{◌≡◌, ℕ, ◌+◌, ◌<◌, ◌≤◌, Bool, false, List, get_or, set, ap, ◌∙◌, ⊎_elim, arith, length-set, get_or-set_other, get_or-set_same}
use Rattle.rules.proofs.Lists.{decide_eq}
use Rattle.check_equality.specs.Links.{Header}
use Rattle.check_equality.specs.Layout.{slots, left_sides}
use Rattle.check_equality.proofs.Labels.{header-set}
use Rattle.check_scans.specs.Sides.{Dropped}

-- SIDES DROPPED
pub dropped-more :
    (test : ℕ → Bool) (key : List ℕ) (i : ℕ) (gone : List Bool) (g : Bool) → i < slots → Dropped test key i gone → g ≡ test (get_or key i 0) →
    Dropped test key (i + 1) (set gone i g)
dropped-more test key i gone g h₀ D e =
    record {
      size = length-set gone i g ∙ D.size;
      at =
          λ j a h.
          ⊎_elim (λ d. rw d (get_or-set_same gone i g false (omega (arith, D.size)) ∙ e)) (λ d. get_or-set_other gone i j g false d ∙ D.at j a (omega arith))
          (decide_eq j i);
    }

-- SIDES BY A MAP OF KEYS: those before slot i are, the others are as they were
pub record MappedTo (map : ℕ → ℕ) (old : List ℕ) (i : ℕ) (key : List ℕ) : Type 0 where
  pub header : Header key
  pub done : (j : ℕ) → left_sides ≤ j → j < i → get_or key j 0 ≡ map (get_or old j 0)
  pub rest : (j : ℕ) → i ≤ j → get_or key j 0 ≡ get_or old j 0

pub mapped-more :
    (map : ℕ → ℕ) (old : List ℕ) (i : ℕ) (key : List ℕ) (l : ℕ) → left_sides ≤ i → i < slots → MappedTo map old i key → l ≡ map (get_or key i 0) →
    MappedTo map old (i + 1) (set key i l)
mapped-more map old i key l a h R e =
    record {
      header = header-set key i l R.header a;
      done =
          λ j b g.
          ⊎_elim (λ d. rw d (get_or-set_same key i l 0 (omega (arith, R.header.size)) ∙ e ∙ ap map (R.rest i (omega arith))))
          (λ d. get_or-set_other key i j l 0 d ∙ R.done j b (omega arith)) (decide_eq j i);
      rest = λ j g. get_or-set_other key i j l 0 (omega arith) ∙ R.rest j (omega arith);
    }
