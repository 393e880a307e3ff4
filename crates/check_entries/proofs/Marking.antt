-- Marks of the paths that are out.
use mathlib.Core.Path.{◌≡◌, refl, sym, ap, ◌∙◌}
use mathlib.Core.Bool.{Bool, true, false, ◌&&◌}
use mathlib.Core.List.{List, [], ◌∷◌}
use mathlib.Core.Logic.{⊎_elim}
use Prim.Native.Nat.{ℕ, zero, suc, ◌+◌, ◌<◌}
use native.Mathlib.Omega.{arith}
use lib.ListN.{get_or}
use Rattle.rules.specs.Base.{any}
use Rattle.rules.specs.Syntax as Syntax
use Rattle.rules.specs.Syntax.{path}
use Rattle.rules.proofs.Closure.{same→≡}
use Rattle.rules.proofs.Lists.{decide_eq}
use Rattle.check_equality.specs.Keys.{term_of, key_of}
use Rattle.check_equality.specs.Links.{place_of, Marks}
use Rattle.check_equality.specs.Listing.{listed}
use Rattle.check_equality.proofs.Keys.{back}
use Rattle.check_equality.proofs.Listing.{any_append}
use Rattle.check_state.specs.States.{variable_at, field_at, is_path_at}
use Rattle.check_state.specs.Questions.{places}
use Rattle.check_entries.specs.PathsOut.{path_out, path_out_at, place_of_path, MarksOut}

clash : {A : Type 0} → false ≡ true → A
clash e = absurd (let z : ◌≡◌ {A = ℕ} 0 1 = cc in omega arith)

pub marks-next :
    (b : List ℕ) (out : List Bool) (n k : ℕ) (marks marks' : List Bool) → term_of k ≡ path (variable_at b n) (field_at b n) → MarksOut b out n marks →
    Marks (get_or out n false) k marks marks' → MarksOut b out (n + 1) marks'
marks-next b out n k marks marks' t M K =
    let p : place_of k ≡ place_of_path (variable_at b n) (field_at b n) = ap place_of (sym (ap key_of (sym t) ∙ back k)) in
    record {
      size = K.size ∙ M.size;
      at = λ i h e. ⊎_elim (λ d. rw d (ap (λ (z : ℕ). get_or marks' z false) (sym p) ∙ K.new (rw d at e))) (λ d. K.old _ (M.at i (omega arith) e)) (decide_eq i n);
    }

all-false : (p : ℕ → Bool) (m : ℕ) → ((i : ℕ) → i < m → p i ≡ false) → any p (places m) ≡ false
unfolding any listed
all-false p zero h = refl
all-false p (suc m) h = any_append p (listed (λ i. i) m) (m ∷ []) ∙ rw (all-false p m (λ i g. h i (omega arith)), h m (omega arith))

pub unmarked-path :
    (b : List ℕ) (out : List Bool) (n : ℕ) (marks : List Bool) (k p : ℕ) → MarksOut b out n marks → p ≡ place_of k → get_or marks p false ≡ false →
    any (path_out_at b out k) (places n) ≡ false
unfolding path_out
unmarked-path b out n marks k p M q e = all-false (path_out_at b out k) n (λ i h. at i h (get_or out i false) (is_path_at b i) (Syntax.same (path (variable_at b i) (field_at b i)) (term_of k)) refl refl)
  where
    at : (i : ℕ) → i < n → (o p s : Bool) → get_or out i false ≡ o → Syntax.same (path (variable_at b i) (field_at b i)) (term_of k) ≡ s → ((o && p) && s) ≡ false
    at i h false p s d g = refl
    at i h true false s d g = refl
    at i h true true false d g = refl
    at i h true true true d g =
        let r : key_of (path (variable_at b i) (field_at b i)) ≡ k = ap key_of (same→≡ _ _ (rw g tt)) ∙ back k in
        clash (sym e ∙ ap (λ (z : ℕ). get_or marks z false) (q ∙ ap place_of (sym r)) ∙ M.at i h d)
