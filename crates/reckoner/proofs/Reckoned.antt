-- The walk's answer, and the first line where there is no bound, are those of the definition.
use mathlib.Core.Path.{◌≡◌, refl, sym, ap, ◌∙◌, subst}
use mathlib.Core.Bool.{Bool, true, false, cond}
use mathlib.Core.Option.{Option, none, some}
use Prim.Native.Nat.{ℕ}
use lib.Dec.{leb}
use Rattle.std.specs.Prelude as Std
use Rattle.std.specs.Prelude.{Result, Ok, Err}
use Rattle.rules.specs.Limits.{most_bound}
use Rattle.rules.specs.Answers.{Verdict, accepted, refused, unbounded, bound_passed}
use Rattle.rules.specs.Syntax.{Row, Program}
use Rattle.rules.specs.Bounds.{main_bound, main_frames, first_repeating, bound_of, bound_program}
use Rattle.bound_walk.specs.declared.Bound.{Bound}
use Rattle.bound_walk.specs.declared.Refusal as Declared
use Rattle.bound_walk.specs.declared.Refusal.TheVariants as Why
use Rattle.bound_walk.specs.Walk.{reckoned_by, reckoned}
use Rattle.bound_lines.specs.Lines.{place_of}
use Rattle.reckoner.specs.declared.Refusal.TheVariants.{Unbounded, Passed}
use Rattle.reckoner.specs.Reckoned.{verdict_of}

module _ (P : Program) where
  abbrev Walked : Type 0
  Walked = Result Bound Declared.Refusal

  -- by the answer, and by the first line
  abbrev Means : Walked → Option Row → Verdict (ℕ × ℕ) → Type 0
  Means (Ok b) o v = accepted (b.steps, b.frames) ≡ v
  Means (Err Why.Unbounded) none v = ⊥
  Means (Err Why.Unbounded) (some r) v = refused unbounded r.line ≡ v
  Means (Err Why.Passed) o v = refused bound_passed 0 ≡ v

  means : (o : Option Row) → Means (reckoned_by P o) o (bound_of P o)
  unfolding reckoned_by bound_of
  means (some r) = refl
  means none = go (leb (main_bound P) most_bound)
    where
      go :
          (b : Bool) →
          Means (cond b (Ok (record { steps = main_bound P; frames = main_frames P })) (Err Why.Passed)) none
          (cond b (accepted (main_bound P, main_frames P)) (refused bound_passed 0))
      go true = refl
      go false = refl

  module _ (a : Walked) (e : a ≡ reckoned P) where
    answered : Means a (first_repeating P) (bound_program P)
    unfolding reckoned bound_program
    answered = rw e (means (first_repeating P))

    pub is-given : (b : Bound) → a ≡ Ok b → verdict_of (Ok b) ≡ bound_program P
    unfolding verdict_of
    is-given b q = subst (λ a. Means a (first_repeating P) (bound_program P)) q answered

    pub is-passed : a ≡ Err Why.Passed → verdict_of (Err Passed) ≡ bound_program P
    unfolding verdict_of
    is-passed q = subst (λ a. Means a (first_repeating P) (bound_program P)) q answered

    -- the first line, where there is no bound
    module _ (q : a ≡ Err Why.Unbounded) (p : Std.Option ℕ) (h : p ≡ place_of (first_repeating P)) where
      line :
          (o : Option Row) → first_repeating P ≡ o → (l : ℕ) → p ≡ Std.Some l → Means (Err Why.Unbounded) o (bound_program P) →
          verdict_of (Err (Unbounded l)) ≡ bound_program P
      unfolding verdict_of place_of
      line none w l s m = absurd m
      line (some r) w l s m = ap (refused unbounded) (same (sym s ∙ h ∙ ap place_of w)) ∙ m
        where
          same : {i j : ℕ} → Std.Some i ≡ Std.Some j → i ≡ j
          same e = cc

      pub at-line : (l : ℕ) → p ≡ Std.Some l → verdict_of (Err (Unbounded l)) ≡ bound_program P
      at-line l s =
          line (first_repeating P) refl l s (subst (λ a. Means a (first_repeating P) (bound_program P)) q answered)

      pub there : Std.IsSome p
      unfolding place_of
      there = go (first_repeating P) h (subst (λ a. Means a (first_repeating P) (bound_program P)) q answered)
        where
          go : (o : Option Row) → p ≡ place_of o → Means (Err Why.Unbounded) o (bound_program P) → Std.IsSome p
          go none s m = absurd m
          go (some r) s m = rw s refl
