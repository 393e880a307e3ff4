-- Where no fact names what is dropped or renamed, all stays as it is.
use mathlib.Core.Path.{◌≡◌, refl, ap, ◌∙◌}
use mathlib.Core.Bool.{Bool, false}
use mathlib.Core.List.{List}
use mathlib.Core.Option.{some}
use Prim.Native.Nat.{ℕ, ◌≤◌}
use native.Mathlib.Omega.{arith}
use lib.ListN.{get_or}
use Rattle.rules.specs.State.{becomes}
use Rattle.check_equality.specs.Keys.{term_of}
use Rattle.check_equality.specs.Links.{term_at}
use Rattle.check_state.specs.States.{Wf, facts, state_of}
use Rattle.check_scans.specs.Scans.{Scanned}
use Rattle.check_labels.proofs.Rebuilding.{facts-as}
use Rattle.check_dropping.specs.Dropping.{Forgot, Renamed}
use Rattle.check_dropping.proofs.GivingWay.{named}

module _ (test : ℕ → Bool) (key b : List ℕ) (i : ℕ) (S : Scanned test key b i) (w : Wf key b) (all : facts b ≤ i) where
  pub scanned-forgot : (skip : List Bool) (x : ℕ) → Forgot test key b skip x key b
  scanned-forgot skip x =
      record {
        wf = w;
        facts =
            λ ρ ps W D.
            facts-as key b key (becomes (state_of key b) ρ ps) (facts b) (λ c h. S.plain c (omega arith))
            (λ j a h. named (state_of key b) ρ ps (term_at key j) (term_at key j) (D j a h ∙ rw (S.sides j a (omega arith))));
        rest = λ c g d. refl;
      }

  pub scanned-renamed : (map : ℕ → ℕ) → ((k : ℕ) → test k ≡ false → map k ≡ k) → Renamed map key b key b
  scanned-renamed map m =
      record {
        wf = w;
        facts =
            λ ρ D.
            facts-as key b key ρ (facts b) (λ c h. S.plain c (omega arith))
            (λ j a h. D (get_or key j 0) ∙ ap (λ (k : ℕ). some (term_of k)) (m (get_or key j 0) (S.sides j a (omega arith))));
        rest = λ c g d. refl;
      }
