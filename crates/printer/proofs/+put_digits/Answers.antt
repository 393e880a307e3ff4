use mathlib.Core.Path.{ap, ◌∙◌}
use mathlib.Core.List.{[], ◌∷◌, ◌++◌}
use Rattle.rules.specs.Printed.{digits_before}
use native.Mathlib.Omega.{arith}
use Rattle.printer.proofs.Writes.{writes-on, writes_as, digits_last, digits-one, digits_more, digits-few}
use Prim.Native.Nat.{◌-◌, ◌/◌}
use Rattle.printer.proofs.+put_digits.Goals as goal

pub put-requires : goal.put-requires
put-requires t c =
    omega (arith, c.requires)

pub shape_of-out-then-k-eq0 : goal.shape_of-out-then-k-eq0
shape_of-out-then-k-eq0 t c =
    c.put.ensures.size

pub returns-then-k-eq0 : goal.returns-then-k-eq0
returns-then-k-eq0 t c =
    writes_as c.put.ensures (ap (λ d. d ∷ []) c.low_digit-low.ensures ∙ digits_last c.args.k c.args.n c.if-k-eq0.true)

pub put-requires-then-n-lt-BASE : goal.put-requires-then-n-lt-BASE
put-requires-then-n-lt-BASE t c =
    omega (arith, c.requires)

pub shape_of-out-then-n-lt-BASE : goal.shape_of-out-then-n-lt-BASE
shape_of-out-then-n-lt-BASE t c =
    c.put-then-n-lt-BASE.ensures.size

pub returns-then-n-lt-BASE : goal.returns-then-n-lt-BASE
returns-then-n-lt-BASE t c =
    writes_as c.put-then-n-lt-BASE.ensures (ap (λ d. d ∷ []) c.low_digit-low.ensures ∙ digits-one c.args.k c.args.n c.if-n-lt-BASE.true)

pub put_digits-e-requires : goal.put_digits-e-requires
put_digits-e-requires t c =
    (omega (arith, c.if-k-eq0.false), omega (arith, c.requires, c.if-k-eq0.false))

pub put-requires-2 : goal.put-requires-2
put-requires-2 t c =
    omega (arith, c.requires, c.put_digits-e.ensures.end, c.put_digits-e.ensures.size, digits-few (c.args.k - 1) (c.args.n / 10), c.if-k-eq0.false)

pub shape_of-out : goal.shape_of-out
shape_of-out t c =
    c.put-2.ensures.size ∙ c.put_digits-e.ensures.size

pub returns : goal.returns
returns t c =
    writes_as (writes-on c.put_digits-e.ensures c.put-2.ensures) (ap (λ d. digits_before (c.args.k - 1) (c.args.n / 10) [] ++ (d ∷ [])) c.low_digit-low.ensures ∙ digits_more c.args.k c.args.n c.if-k-eq0.false c.if-n-lt-BASE.false)
