-- The remainder: what a formula leaves is satisfied by the frame without the formula's footprint.
use mathlib.Core.Path.{◌≡◌, refl}
use mathlib.Core.List.{List}
use mathlib.Core.Logic.{inl, inr, ⊎_elim}
use Prim.Native.Nat.{ℕ}
use native.Mathlib.Omega.{arith}
use Rattle.rules.specs.Base.{ok}
use Rattle.rules.specs.Syntax.{Formula, path}
use Rattle.rules.specs.State.{Permission, State, show, drop_paths, unlisted, remainder}
use Rattle.rules.specs.Machine.{Frame, Heap, Location, without, value_of, holding}
use Rattle.rules.proofs.Sets.{halves-without}
use Rattle.rules.proofs.Dropping.{kept-or-unlisted}
use Rattle.soundness.proofs.Satisfied.{Knows, Satisfied, knows-by}
use Rattle.soundness.proofs.ShowSound.{AtMostTwo, Left, show-sound}
use Rattle.soundness.proofs.DropSound.{reads-listed, listed-reads, paths-dropped}

-- what is left while a formula is shown is a state that is true
pub remainder-knows :
    (h : Heap) (F : Frame) (s : State) (S : Satisfied h F s) (kept : List Permission) (A : List Location)
    (L : Left h F S.stock kept A) → Knows h F (remainder s kept) L.stock
unfolding remainder drop_paths
remainder-knows h F s S kept A L =
    record {
      stocked = L.stocked;
      facts =
          paths-dropped h h F s S kept (unlisted kept s.permissions)
          (λ x f r.
          ⊎_elim (λ l. inl (listed-reads kept x f l)) (λ l. inr l) (kept-or-unlisted s kept (path x f) (reads-listed s.permissions x f r)))
          (λ u n d. refl);
    }

pub remainder-sound :
    (h : Heap) (F : Frame) (s : State) (φ : Formula ℕ) (kept : List Permission) (S : Satisfied h F s) (most : AtMostTwo F)
    (e : show s φ ≡ ok kept) →
    Satisfied h (holding (without (show-sound h F s S most φ kept e).taken-all F.held) F) (remainder s kept)
unfolding holding value_of
remainder-sound h F s φ kept S most e =
    let L = (show-sound h F s S most φ kept e).left in
    let A : List Location = (show-sound h F s S most φ kept e).taken-all in
    record {
      stock = L.stock;
      knows =
          knows-by h h F (holding (without A F.held) F) (λ v. refl) _ L.stock (λ l i. refl)
          (remainder-knows h F s S kept A L);
      within = λ l. omega (arith, L.sum l, S.within l, halves-without A F.held l);
    }
