-- `return`: `end` with the result set; the old result is put back where that does not go on. `end` is the return of the result.
use mathlib.Core.Path.{◌≡◌, refl, sym, ap, ◌∙◌, subst}
use mathlib.Core.Bool.{Bool, true, false, cond}
use mathlib.Core.List.{List, [], ◌∷◌}
use Prim.Native.Nat.{ℕ, zero, suc, ◌+◌, ◌*◌, ◌-◌, ◌<◌}
use native.Mathlib.Omega.{arith}
use lib.Dec.{eqb, eqb→eq}
use lib.ListN.{length, get_or}
use Rattle.rules.specs.Limits.{work_bytes}
use Rattle.rules.specs.Base.{update}
use Rattle.rules.specs.Syntax.{result_variable}
use Rattle.rules.specs.Grammar.{End, statement_number}
use Rattle.rules.specs.Machine.{Config, value_of, bind, with_frame, return_step, end_step}
use Rattle.rules.specs.declared.Machine.{Machine}
use Rattle.rules.proofs.Lists.{F-false}
use Rattle.tables.specs.Layout.{frames_at, frame_variables}
use Rattle.tables.specs.Decode.{program_in, kind_at, x_at}
use Rattle.tables.specs.Stores.{SameTables, put_word}
use Rattle.tables.proofs.BytesRead.{same-trans}
use Rattle.tables.proofs.Decoding.{program-same}
use Rattle.run_heap.specs.declared.Fault.{Fault}
use Rattle.run_heap.specs.declared.View.{View}
use Rattle.run_heap.specs.Views.{frame_at, variable_at, view_of}
use Rattle.std.specs.Prelude.{Some, None, Ok, Err}
use Rattle.run_steps.specs.States.{Turn}
use Rattle.run_steps.specs.States.{Represents, Follows, Does, CanStep}
use Rattle.run_returns.specs.Returns.{source_of, back_here, end_here}
use Rattle.run_footprint.proofs.Regions.{only-word, only-tables}
use Rattle.run_steps.proofs.Moves.{running}
use Rattle.run_steps.proofs.Changes.{put-variable}
use Rattle.run_steps.proofs.Doing.{size, fits, frames-fit}

-- a value changed and put back
put_back : (l : List ℕ) (i a : ℕ) → i < length l → update 0 (update 0 l i a) i (get_or l i 0) ≡ l
unfolding update
put_back [] i a h = absurd (omega arith)
put_back (x ∷ l) zero a h = refl
put_back (x ∷ l) (suc i) a h = ap (λ (t : List ℕ). x ∷ t) (put_back l i a (omega arith))

-- where the result stands
abbrev result_at : Machine → ℕ
result_at c = frame_at (c.frames - 1) + result_variable * 4

-- a state with this result
abbrev resulting : ℕ → Config → Config
resulting v m = with_frame m (bind result_variable v m.frame)

-- the result put as it is
put_same : (l : List ℕ) (i : ℕ) → i < length l → update 0 l i (get_or l i 0) ≡ l
unfolding update
put_same [] i h = absurd (omega arith)
put_same (x ∷ l) zero h = refl
put_same (x ∷ l) (suc i) h = ap (λ (t : List ℕ). x ∷ t) (put_same l i (omega arith))

module _ {w : List ℕ} {c : Machine} {m : Config} (R : Represents w c m) where
  -- `end` is the return of the result
  pub end_returns : return_step (program_in w) result_variable m ≡ end_here w m
  unfolding return_step with_frame bind value_of
  end_returns =
      let e = put_same m.frame.values result_variable (omega (arith, R.frame.size)) in
      let same : resulting (value_of m.frame result_variable) m ≡ m =
      λ j. record {
        heap = m.heap;
        frame = record { values = e j; held = m.frame.held; row = m.frame.row; ensures = m.frame.ensures };
        callers = m.callers;
      } in
      ap (λ (n : Config). end_step (program_in w) n m.callers) same

  result-put : (v : ℕ) → v < 4294967296 → Represents (put_word w (result_at c) v) c (resulting v m)
  result-put v l =
      let e : c.frames - 1 ≡ length m.callers = omega (arith, R.frames) in
      rw e (put-variable R result_variable v (omega arith) l)

  -- put back, it is the state that it was
  as_before : (v : ℕ) → resulting (value_of m.frame result_variable) (resulting v m) ≡ m
  unfolding with_frame bind value_of
  as_before v =
      let e = put_back m.frame.values result_variable v (omega (arith, R.frame.size)) in
      λ j. record {
        heap = m.heap;
        frame = record { values = e j; held = m.frame.held; row = m.frame.row; ensures = m.frame.ensures };
        callers = m.callers;
      }

-- the variable that is the result, by the kind of the row
pub source-end : (w : List ℕ) (i k : ℕ) → k ≡ kind_at w i → k ≡ 18 → result_variable ≡ source_of w i
unfolding source_of statement_number
source-end w i k e z = rw (sym e ∙ z)

pub source-other : (w : List ℕ) (i k : ℕ) → k ≡ kind_at w i → (k ≡ 18 → ⊥) → x_at w i ≡ source_of w i
unfolding source_of statement_number
source-other w i k e n = rw (F-false (eqb (kind_at w i) 18) (λ t. n (e ∙ eqb→eq (kind_at w i) 18 t)))

module _ {w : List ℕ} {c : Machine} (ready : CanStep w c) where
  pub source_fits : source_of w c.row < frame_variables
  unfolding source_of
  source_fits = go (eqb (kind_at w c.row) (statement_number End))
    where
      go : (b : Bool) → cond b result_variable (x_at w c.row) < frame_variables
      go true = omega arith
      go false = (fits ready).x

  result-tables : {u : List ℕ} (v : ℕ) → SameTables u (put_word u (result_at c) v)
  result-tables {u} v =
      only-tables (only-word frames_at (frames_at + 8192) u (result_at c) v (omega arith) (omega (arith, (frames-fit ready).1))) (omega arith)

  -- the code reads x, and puts it as the result
  module _
      (v : View) (ev : v ≡ view_of c) (x n : ℕ) {w₁ : List ℕ} (ex : x ≡ source_of w c.row) (en : n ≡ variable_at w v.base x)
      (ln : n < 4294967296) (e₁ : w₁ ≡ put_word w (v.base + 56) n) where
    put_is : w₁ ≡ put_word w (result_at c) n
    put_is = e₁ ∙ rw ev

    same-put : SameTables w w₁
    same-put = subst (SameTables w) (sym put_is) (result-tables n)

    represented : (m : Config) → Represents w c m → Represents w₁ c (resulting n m)
    represented m R = subst (λ u. Represents u c (resulting n m)) (sym put_is) (result-put R n ln)

    pub end-ready : CanStep w₁ c
    end-ready =
        record { state = resulting n ready.state; represents = represented ready.state ready.represents; more = ready.more }

    -- the step is that of `end` there
    step_is : (m : Config) → Represents w c m → end_here w₁ (resulting n m) ≡ back_here w c m
    unfolding return_step with_frame
    step_is m R =
        let p : program_in w₁ ≡ program_in w = program-same w w₁ same-put ready.represents.tables in
        let e : n ≡ value_of m.frame (source_of w c.row) =
        en ∙ (rw (ev, ex) (sym ((running R).values (source_of w c.row) source_fits))) in
        rw (p, e) refl

    -- the code's answer r is that of `end`
    module _ {w₂ : List ℕ} {t : Turn} (D : Does w₁ c w₂ t (end_here w₁)) where
      pub followed : (m : Config) → Represents w c m → (r : Turn) → t ≡ r → Follows w₂ c r (resulting n m) (back_here w c m)
      followed m R r e =
          subst (Follows w₂ c r (resulting n m)) (step_is m R)
          (subst (λ (u : Turn). Follows w₂ c u (resulting n m) (end_here w₁ (resulting n m))) e (D.follows _ (represented m R)))

      same_after : SameTables w w₂
      same_after = same-trans same-put D.tables

      pub return-goes : (d : Machine) → t ≡ Ok (Some d) → Does w c w₂ (Ok (Some d)) (back_here w c)
      return-goes d e = record { tables = same_after; follows = λ m R. followed m R (Ok (Some d)) e }

      pub size-after : length w₂ ≡ work_bytes
      size-after = omega (arith, same_after.size, size ready)

      -- the old result is put back
      module _
          (old : ℕ) {w₃ : List ℕ} (eo : old ≡ variable_at w v.base result_variable) (lo : old < 4294967296)
          (e₃ : w₃ ≡ put_word w₂ (v.base + 56) old) where
        old-is : (m : Config) → Represents w c m → old ≡ value_of m.frame result_variable
        old-is m R = eo ∙ rw ev (sym ((running R).values result_variable (omega arith)))

        put-back-is : w₃ ≡ put_word w₂ (result_at c) old
        put-back-is = e₃ ∙ rw ev

        same-restored : SameTables w w₃
        same-restored = same-trans same_after (subst (SameTables w₂) (sym put-back-is) (result-tables old))

        restored : (m : Config) → Represents w c m → Represents w₂ c (resulting n m) → Represents w₃ c m
        restored m R S =
            let b = subst (λ (o : ℕ). resulting o (resulting n m) ≡ m) (sym (old-is m R)) (as_before R n) in
            subst (λ u. Represents u c m) (sym put-back-is) (subst (Represents (put_word w₂ (result_at c) old) c) b (result-put S old lo))

        pub return-stops : (s : Fault) → t ≡ Err s → Does w c w₃ (Err s) (back_here w c)
        return-stops s e =
            record {
              tables = same-restored;
              follows = λ m R. let F = followed m R (Err s) e in (F.0, restored m R F.1);
            }

        pub return-ends : t ≡ Ok None → Does w c w₃ (Ok None) (back_here w c)
        return-ends e =
            record { tables = same-restored; follows = λ m R. let F = followed m R (Ok None) e in (F.0, restored m R F.1) }
