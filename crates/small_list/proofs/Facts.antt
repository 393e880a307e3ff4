-- What is computed of the list: its order, and "1, 2, 7 and 29 of them, 39 together". Each of the 156 candidates is checked here, by the
-- definitions, once.
use mathlib.Core.Path.{◌≡◌, refl, sym, ap, subst}
use mathlib.Core.Bool.{Bool, true}
use mathlib.Core.List.{List, [], ◌∷◌}
use Prim.Native.Nat.{ℕ}
use lib.Dec.{T}
use lib.ListN.{length}
use Rattle.rules.specs.Base.{all}
use Rattle.rules.specs.Base as Base
use Rattle.rules.specs.Calls.{computing}
use Rattle.small_list.specs.Small.{Main, candidates, small}
use Rattle.small_list.specs.Small as Small
use Rattle.small_list.specs.Claims.{is_main, in_order, counts_of, Counts}
use Rattle.small_list.specs.Claims as Claims

-- THE CANDIDATES
pub tried : length candidates ≡ 156
unfolding Small.opened
tried = refl

pub all-mains : T (all is_main candidates)
unfolding Base.opened Small.opened Claims.opened
all-mains = tt

-- THE LIST
unfoldable told : List Main → List ℕ × ℕ × Bool
told ms = (counts_of ms, length ms, in_order ms)

-- all at once, so that the list is made once
small-told : told small ≡ (1 ∷ 2 ∷ 7 ∷ 29 ∷ [], 39, true)
unfolding computing Small.opened Claims.opened told
small-told = refl

pub counts : Counts
unfolding told
counts = (ap (λ t. t.0) small-told, ap (λ t. t.1) small-told)

pub small-ordered : T (in_order small)
unfolding told
small-ordered = subst T (sym (ap (λ t. t.2) small-told)) tt
