use Prim.Native.Nat.{◌+◌, ◌<◌}
use Rattle.read_numbers.proofs.Numbers.{begun-small, begun-on, begun-ends, digit-is}
use lib.ListN.{length, take, drop}
use mathlib.Core.Path.{◌≡◌, sym, ◌∙◌}
use native.Mathlib.Omega.{arith}
use Rattle.read_bytes.specs.Sets.{no_digit}
use Rattle.read_bytes.proofs.Search.{up_to-within}
use Rattle.read_numbers.specs.Numbers.{digits_in}
use Rattle.read_numbers.proofs.digits_from.Goals as goal

pub returns-then-not-is_digit : goal.returns-then-not-is_digit
returns-then-not-is_digit c =
    begun-ends c.args.l.now c.args.at c.loop-end.value c.loop-end.end c.loop-end.invariant (λ h. sym c.is_digit.ensures ∙ c.if-not-is_digit.true)

pub overflow_mul-value : goal.overflow_mul-value
overflow_mul-value c =
    let h : c.loop-end.end < c.args.at + length (take 10 (drop c.args.at c.args.l.now)) = omega (arith, c.digits_stop-stop.ensures) in omega (arith, begun-small c.args.l.now c.args.at c.loop-end.value c.loop-end.end c.loop-end.invariant h)

pub overflow_sub-value : goal.overflow_sub-value
overflow_sub-value c = (digit-is _ (sym c.is_digit.ensures ∙ c.if-not-is_digit.false)).0

pub overflow_add-value : goal.overflow_add-value
overflow_add-value c =
    let h : c.loop-end.end < c.args.at + length (take 10 (drop c.args.at c.args.l.now)) = omega (arith, c.digits_stop-stop.ensures) in omega (arith, begun-small c.args.l.now c.args.at c.loop-end.value c.loop-end.end c.loop-end.invariant h, digit-is _ (sym c.is_digit.ensures ∙ c.if-not-is_digit.false))

pub loop-end-preserved : goal.loop-end-preserved
loop-end-preserved c =
    let h : c.loop-end.end < c.args.at + length (take 10 (drop c.args.at c.args.l.now)) = omega (arith, c.digits_stop-stop.ensures) in begun-on c.args.l.now c.args.at c.loop-end.value c.loop-end.end c.loop-end.invariant h (sym c.is_digit.ensures ∙ c.if-not-is_digit.false)

pub returns : goal.returns
unfolding digits_in
returns c =
    let x = c.loop-end.invariant in
    let w = up_to-within no_digit (take 10 (drop c.args.at c.args.l.now)) in
    let e : c.loop-end.end ≡ c.digits_stop-stop.result = omega (arith, c.digits_stop-stop.ensures, x.high, w, c.first_digits-first.ensures.high) in
    rw e at (begun-ends c.args.l.now c.args.at c.loop-end.value c.loop-end.end x (λ h. absurd (omega (arith, c.digits_stop-stop.ensures))))
