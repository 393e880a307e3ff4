use mathlib.Core.List.{[]}
use mathlib.Core.Path.{◌≡◌, sym, ap, subst, ◌∙◌}
use Prim.Native.Nat.{ℕ, ◌+◌, ◌-◌}
use native.Mathlib.Omega.{arith}
use lib.ListN.{get_or, drop}
use Rattle.read_fields.specs.Cuts.{more}
use Rattle.read_fields.proofs.Formulas.{more-on}
use Rattle.read_declarations.proofs.field_from.Goals as goal

pub returns-then-e-r : goal.returns-then-e-r
returns-then-e-r c =
    let n = c.next_field-e.ensures.none c.if-e-r.true in
    record {
      high = omega (arith, c.requires);
      name = rw n;
      rest = subst (λ k. more (drop k c.args.text.now) ≡ drop 1 (more (drop c.args.r c.args.text.now))) (same c.args.r) (n ∙ sym (ap (drop 1) n));
    }
  where
    same : (r : ℕ) → r ≡ r + 0
    same r = omega arith

pub returns : goal.returns
returns c =
    let n = more-on c.next_field-e.ensures c.if-e-r.false in
    let m : c.args.r + 1 + (c.next_field-e.result - (c.args.r + 1)) ≡ c.next_field-e.result = omega (arith, c.next_field-e.ensures.low, c.if-e-r.false) in
    record {
      high = omega (arith, m, c.next_field-e.ensures.high);
      name = ap (λ ws. get_or ws 0 []) (sym n);
      rest = ap (λ k. more (drop k c.args.text.now)) m ∙ sym (ap (drop 1) n);
    }
