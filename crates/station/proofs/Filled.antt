-- W11's promises for what `station::fill` and `station::check` return: by their contracts they return, and leave in the areas, what `fill_call` and
-- `check_call` say. The statements are those of specs/Promises.
use mathlib.Core.Path.{◌≡◌, sym, ap, subst, ◌∙◌}
use mathlib.Core.List.{List}
use Prim.Native.Nat.{ℕ, ◌/◌}
use native.Mathlib.Omega.{arith}
use lib.ListN.{length}
use borrow.Author.Tests.{eq-eqb}
use Rattle.rules.specs.Limits.{work_bytes, places_bytes}
use Rattle.rules.specs.Calls.{Filled, fill_numbers, fill_text}
use Rattle.rules.specs.Areas.{packed, fill_call}
use Rattle.filling.proofs.Search.{filled-is-accepted}
use Rattle.widths.proofs.Returned.{number-packed}
use Rattle.station.specs.Promises.{FillNumber, FillNumbered, FilledIn, FillReturned}
use Rattle.station.proofs.Demand3.{check-returned}
use Rattle.station.proofs.Refusals.{zero-returned}
use Rattle.station.proofs.Filling.{fill-number, fill-small, set-given-by, zero-given}

module _ (t work places : List ℕ) (m : length work ≡ work_bytes) (n : length places ≡ places_bytes) where
  returned : (fill_call t work places).returned ≡ packed (fill_text t).number (fill_text t).line
  unfolding fill_call
  returned = rw (eq-eqb (length work) work_bytes m, eq-eqb (length places) places_bytes n)

  written : (fill_call t work places).places ≡ (fill_text t).places
  unfolding fill_call
  written = rw (eq-eqb (length work) work_bytes m, eq-eqb (length places) places_bytes n)

  numbered : FillNumber ((fill_call t work places).returned / 65536)
  numbered = subst FillNumber (sym (ap (λ (r : ℕ). r / 65536) returned ∙ number-packed _ _ (fill-small t).1)) (fill-number t)

  filled : (fill_call t work places).returned ≡ 0 → FilledIn t (fill_call t work places).places
  unfolding packed fill_numbers
  filled e =
      let (ps, i, q) = zero-given t (omega (arith, (rw returned at e))) in
      let g = set-given-by t ps i in
      let a = filled-is-accepted t g.ks g.items g.line ps g.one i in
      record {
        ks = g.ks;
        items = g.items;
        line = g.line;
        set = ps;
        star = g.one;
        places = written ∙ ap (λ (f : Filled). f.places) q;
        first = a;
        checked = λ area l h. check-returned _ area l ∙ zero-returned _ (a.passes h);
      }

pub fill-numbered : FillNumbered
fill-numbered t work places m n = numbered t work places m n

pub fill-returned : FillReturned
fill-returned t work places m n e = filled t work places m n e
