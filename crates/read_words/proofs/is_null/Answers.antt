use Rattle.read_words.proofs.Words.{spelled}
use Rattle.rules.specs.Base.{bytes}
use mathlib.Core.Path.{refl}
use native.Mathlib.Omega.{arith}
use Rattle.rules.specs.Base as Base
use Rattle.read_words.specs.Words as Words
use Rattle.read_words.proofs.is_null.Goals as goal

pub returns : goal.returns
unfolding Base.opened Words.opened
returns c = rw c.pack.ensures (spelled c.args.w.now (bytes "null") c.if-w-ne-NULL_BYTES.false (λ i. omega (arith, c.type_inv.w i)) refl)
