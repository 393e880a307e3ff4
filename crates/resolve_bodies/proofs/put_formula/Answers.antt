use mathlib.Core.Path.{◌≡◌, ap}
use native.Mathlib.Omega.{arith}
use Rattle.rules.specs.declared.Kind.TheVariants as Kind
use Rattle.rules.specs.Numbered.{number}
use Rattle.rules.proofs.KindNumbers.{one_number}
use Rattle.rules.specs.Grammar as Grammar
use Rattle.rules.specs.Grammar.{kind_number}
use Rattle.tables.specs.Layout.{atom_limit}
use Rattle.resolve_bodies.proofs.Items.{kind-as, requires-is, ensures-is, method-room, area-fits, follows-as, header-tried}
use Rattle.resolve_bodies.proofs.put_formula.Goals as goal

pub overflow_sub-m : goal.overflow_sub-m
overflow_sub-m c =
    omega (arith, method-room c.requires.0 c.requires.1.0 c.requires.1.1)

pub put_requires-requires : goal.put_requires-requires
unfolding kind_number atom_limit
put_requires-requires c =
    (area-fits c.requires.0 c.seen-c.ensures, follows-as c.requires.0 c.seen-c.ensures requires-is (kind-as Grammar.Requires _ (ap number c.in-Requires.is)), omega (arith, method-room c.requires.0 c.requires.1.0 c.requires.1.1))

pub put_ensures-requires : goal.put_ensures-requires
unfolding kind_number atom_limit
put_ensures-requires c =
    (area-fits c.requires.0 c.seen-c.ensures, follows-as c.requires.0 c.seen-c.ensures ensures-is (kind-as Grammar.Ensures _ (let n : (number c.args.kind ≡ 4 → ⊥) = λ z. c.in_default.not-Requires (one_number _ Kind.Requires z) in let e : number c.args.kind ≡ 5 = omega (arith, c.requires.1.0, c.requires.1.1, n) in e)), omega (arith, method-room c.requires.0 c.requires.1.0 c.requires.1.1))

pub returns-in-Requires : goal.returns-in-Requires
unfolding kind_number
returns-in-Requires c =
    header-tried c.requires.0 c.seen-c.ensures requires-is (kind-as Grammar.Requires _ (ap number c.in-Requires.is)) _ (omega (arith, method-room c.requires.0 c.requires.1.0 c.requires.1.1)) _ c.put_requires.result c.put_requires.ensures

pub returns-in_default : goal.returns-in_default
unfolding kind_number
returns-in_default c =
    header-tried c.requires.0 c.seen-c.ensures ensures-is (kind-as Grammar.Ensures _ (let n : (number c.args.kind ≡ 4 → ⊥) = λ z. c.in_default.not-Requires (one_number _ Kind.Requires z) in let e : number c.args.kind ≡ 5 = omega (arith, c.requires.1.0, c.requires.1.1, n) in e)) _ (omega (arith, method-room c.requires.0 c.requires.1.0 c.requires.1.1)) _ c.put_ensures.result c.put_ensures.ensures
