use Rattle.check_state.proofs.Entries.{path-kind}
use Rattle.check_state.specs.States.{permit_of}
use Rattle.rules.specs.Syntax.{is_path}
use mathlib.Core.Bool.{Bool, true, false, ◌&&◌}
use mathlib.Core.Path.{◌≡◌, refl, sym, ◌∙◌}
use Rattle.check_inequality.proofs.is_object.Goals as goal

and-true : (a : Bool) → a ≡ (a && true)
and-true true = refl
and-true false = refl

and-false : (a : Bool) → false ≡ (a && false)
and-false true = refl
and-false false = refl

pub returns-then-variable_is : goal.returns-then-variable_is
returns-then-variable_is c =
    λ fs D. rw (sym (c.variable_is.ensures fs D) ∙ c.if-variable_is.true) (sym (path-kind c.args.c) ∙ and-true (is_path (permit_of c.args.c)))
