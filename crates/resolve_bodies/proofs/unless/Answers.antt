use mathlib.Core.Path.{◌≡◌, refl}
use mathlib.Core.Bool.{Bool, true, false, not, ◌&&◌}
use Rattle.resolve_bodies.proofs.unless.Goals as goal

-- `resolve_bodies::unless` meets its contract. Assumes nothing.
when : (a b : Bool) → b ≡ true → false ≡ (a && not b)
when true true e = refl
when false b e = refl
when true false e = e

otherwise : (a b : Bool) → b ≡ false → a ≡ (a && not b)
otherwise true false e = refl
otherwise false b e = refl
otherwise true true e = e

pub returns-then-b : goal.returns-then-b
returns-then-b c = when c.args.a c.args.b c.if-b.true

pub returns-else-b : goal.returns-else-b
returns-else-b c = otherwise c.args.a c.args.b c.if-b.false
