use Rattle.check_equality.specs.Links.{place_of}
use mathlib.Core.Path.{refl}
use native.Mathlib.Omega.{arith}
use Rattle.check_equality.proofs.marks.place.Goals as goal

pub returns : goal.returns
unfolding place_of
returns c =
    (refl, omega arith)
