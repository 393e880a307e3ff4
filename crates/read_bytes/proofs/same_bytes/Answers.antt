use Prim.Native.Nat.{◌-◌}
use Rattle.read_bytes.proofs.Search.{not_same, same_refl}
use Rattle.rules.specs.Base.{eq_name}
use lib.ListN.{get_or}
use mathlib.Core.Path.{◌≡◌, sym, ap, ◌∙◌}
use native.Mathlib.Omega.{arith}
use Rattle.read_bytes.proofs.same_bytes.Goals as goal

pub returns-then-a-i : goal.returns-then-a-i
returns-then-a-i c = sym (not_same _ _ (λ e. c.if-a-i.true (ap (λ l. get_or l (c.loop-i.i - 1) 0) e)))

pub returns : goal.returns
returns c =
    let z : c.loop-i.i ≡ 0 = omega arith in
    let e : c.args.a.now ≡ c.args.b.now = rw z at c.loop-i.invariant in
    sym (ap (eq_name c.args.a.now) (sym e) ∙ same_refl c.args.a.now)
