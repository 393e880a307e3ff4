-- What the calls return and leave, as `check_call`, `ran_call`, `bound_call` and `fill_call` say.
use mathlib.Core.Path.{◌≡◌, sym, ap, subst, ◌∙◌}
use mathlib.Core.Bool.{true, false}
use mathlib.Core.List.{List}
use Prim.Native.Nat.{ℕ}
use lib.Dec.{T, eqb}
use lib.ListN.{length, replicate}
use borrow.Author.Tests.{eq-eqb, ne_eqb, eqb-true}
use Rattle.rules.specs.Limits.{work_bytes, results_bytes, bounds_bytes, places_bytes}
use Rattle.rules.specs.Calls.{Result, Bounds, check_text, bound_text, fill_text}
use Rattle.rules.specs.Areas.{packed, cleared, result_bytes, bound_bytes, check_call, ran_call, bound_call, fill_call}
use Rattle.rules.proofs.Lists.{T_true, and_both}
use Rattle.station.specs.declared.Reply.{Reply}
use Rattle.areas.specs.Lengths.{areas_fit}
use Rattle.station.specs.Station.{Finding, numbers_in, numbers_found, run_numbers, FillAs, CheckLeaves, RunLeaves, BoundLeaves, FillLeaves}

pub pack-is : {f : Reply} {p : ℕ × ℕ} {r : ℕ} → numbers_in f ≡ p → r ≡ packed f.number f.line → r ≡ packed p.0 p.1
pack-is e i = i ∙ ap (λ (p : ℕ × ℕ). packed p.0 p.1) e

-- an area of this length, all zero
pub cleared-is : {n : ℕ} (w v : List ℕ) {u : List ℕ} → length w ≡ n → length v ≡ n → u ≡ cleared v → u ≡ cleared w
unfolding cleared
cleared-is w v a b e = e ∙ ap (λ (m : ℕ). replicate m 0) (b ∙ sym a)

-- CHECK
module _ (t w : List ℕ) where
  pub wrong-check : (length w ≡ work_bytes → ⊥) → CheckLeaves (check_call t w) 65536 w
  unfolding check_call packed
  wrong-check n = (sym (rw (ne_eqb (length w) work_bytes n)), sym (rw (ne_eqb (length w) work_bytes n)))

  pub right-check :
      length w ≡ work_bytes → {f : Reply} (v : List ℕ) {u : List ℕ} {r : ℕ} → numbers_in f ≡ check_text t → length v ≡ work_bytes → u ≡ cleared v →
      r ≡ packed f.number f.line → CheckLeaves (check_call t w) r u
  unfolding check_call
  right-check n v e s c p = rw (eq-eqb (length w) work_bytes n) (pack-is e p, cleared-is w v n s c)

-- THE LENGTHS OF THE WORK AREA AND ANOTHER ONE
pub fit-lengths : (w b : List ℕ) {n : ℕ} → areas_fit w b n ≡ true → (length w ≡ work_bytes) × (length b ≡ n)
unfolding areas_fit
fit-lengths w b {n} e =
    let (x, y) = and_both (eqb (length w) work_bytes) (eqb (length b) n) (subst T (sym e) tt) in
    (eqb-true _ _ (T_true _ x), eqb-true _ _ (T_true _ y))

-- RUN AND TRIAL, with the answer a
module _ (a : Result) (w b : List ℕ) where
  pub wrong-areas : areas_fit w b results_bytes ≡ false → RunLeaves (ran_call a w b) 65536 w b
  unfolding ran_call packed areas_fit
  wrong-areas n = (sym (rw n), sym (rw n), sym (rw n))

  pub right-areas :
      areas_fit w b results_bytes ≡ true → {x : Result} → x ≡ a → {f : Reply} (v : List ℕ) {u d : List ℕ} {r : ℕ} → numbers_in f ≡ run_numbers x →
      d ≡ result_bytes x → length v ≡ work_bytes → u ≡ cleared v → r ≡ packed f.number f.line → RunLeaves (ran_call a w b) r u d
  unfolding ran_call areas_fit
  right-areas m i v e d s c p =
      rw m (pack-is (e ∙ ap run_numbers i) p, cleared-is w v (fit-lengths w b m).0 s c, d ∙ ap result_bytes i)

-- BOUND
module _ (t w b : List ℕ) where
  pub wrong-bound : areas_fit w b bounds_bytes ≡ false → BoundLeaves (bound_call t w b) 65536 w b
  unfolding bound_call packed areas_fit
  wrong-bound n = (sym (rw n), sym (rw n), sym (rw n))

  pub right-bound :
      areas_fit w b bounds_bytes ≡ true → {x : Bounds} → x ≡ bound_text t → {f : Reply} (v : List ℕ) {u d : List ℕ} {r : ℕ} →
      numbers_in f ≡ (x.number, x.line) → d ≡ bound_bytes x → length v ≡ work_bytes → u ≡ cleared v → r ≡ packed f.number f.line →
      BoundLeaves (bound_call t w b) r u d
  unfolding bound_call areas_fit
  right-bound m i v e d s c p =
      rw m
      (pack-is (e ∙ ap (λ (x : Bounds). (x.number, x.line)) i) p, cleared-is w v (fit-lengths w b m).0 s c, d ∙ ap bound_bytes i)

-- FILL
module _ (t w b : List ℕ) where
  pub wrong-fill : areas_fit w b places_bytes ≡ false → FillLeaves (fill_call t w b) 65536 w b
  unfolding fill_call packed areas_fit
  wrong-fill n = (sym (rw n), sym (rw n), sym (rw n))

  pub right-fill :
      areas_fit w b places_bytes ≡ true → (o : Finding) {f : Reply} (v : List ℕ) {u d : List ℕ} {r : ℕ} → FillAs (fill_text t) o d →
      numbers_in f ≡ numbers_found o → length v ≡ work_bytes → u ≡ cleared v → r ≡ packed f.number f.line → FillLeaves (fill_call t w b) r u d
  unfolding fill_call areas_fit
  right-fill m o v (e, d) i s c p = rw m (pack-is (i ∙ e) p, cleared-is w v (fit-lengths w b m).0 s c, d)
