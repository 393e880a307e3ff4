use Prim.Native.Nat.{ℕ, ◌+◌, ◌*◌}
use Rattle.check_equality.proofs.Keys.{of-path}
use Rattle.rules.specs.Syntax.{path}
use mathlib.Core.Path.{ap₂, ◌∙◌}
use native.Mathlib.Omega.{arith}
use Rattle.check_equality.proofs.terms.path_key.Goals as goal

pub returns : goal.returns
returns c =
    (of-path _ _ (omega arith) (omega arith) ∙ ap₂ path c.from.ensures c.from-2.ensures, ap₂ (λ (m n : ℕ). 257 + m * 256 + n) c.from.ensures c.from-2.ensures, omega arith)
