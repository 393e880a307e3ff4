use Prim.Native.Nat.{◌+◌, ◌*◌, ◌%◌}
use Rattle.read_numbers.proofs.Numbers.{known-digits, product_small, sign-within}
use mathlib.Core.Path.{sym, ap, ◌∙◌}
use native.Mathlib.Omega.{arith}
use Rattle.read_numbers.proofs.known_number.Goals as goal

pub slice_bounds-value_of-count : goal.slice_bounds-value_of-count
slice_bounds-value_of-count c = let h = sign-within c.args.w.now 0 c.minuses_at-minuses.result (omega arith) c.minuses_at-minuses.ensures in omega (arith, h)

pub slice_bounds-value_of-start : goal.slice_bounds-value_of-start
slice_bounds-value_of-start c = let h = sign-within c.args.w.now 0 c.minuses_at-minuses.result (omega arith) c.minuses_at-minuses.ensures in omega arith

pub value_of-digits-requires : goal.value_of-digits-requires
value_of-digits-requires c = let k = known-digits c.args.w.now c.minuses_at-minuses.result c.requires c.minuses_at-minuses.ensures in (k.digits, k.small)

pub overflow_mul-result : goal.overflow_mul-result
overflow_mul-result c =
    let k = known-digits c.args.w.now c.minuses_at-minuses.result c.requires c.minuses_at-minuses.ensures in
    omega (arith, product_small c.minuses_at-minuses.result c.value_of-digits.result k.few (omega (arith, k.small, c.value_of-digits.ensures)))

pub returns : goal.returns
returns c =
    let k = known-digits c.args.w.now c.minuses_at-minuses.result c.requires c.minuses_at-minuses.ensures in
    ap (λ n. ((1 + c.minuses_at-minuses.result * 4294967294) * n) % 4294967296) c.value_of-digits.ensures ∙ sym k.bits
