use Rattle.read_lookups.proofs.LookUps.{looked-this, looked-on}
use Rattle.read_lookups.specs.LookUps.{own_in}
use Rattle.read_scopes.specs.Meanings.{variables_in, block_in, own_variables}
use Rattle.rules.specs.Base.{bytes}
use borrow.Author.Tests.{not-false}
use mathlib.Core.Path.{sym, ◌∙◌}
use native.Mathlib.Numerals.{add-one}
use Rattle.read_lookups.proofs.variable.Goals as goal

pub returns-then-same : goal.returns-then-same
unfolding variables_in block_in own_variables bytes
returns-then-same c = rw (not-false c.args.c.method c.if-not-c.false) (looked-this _ _ _ _ (sym c.same.ensures ∙ c.if-same.true))

pub returns : goal.returns
unfolding variables_in block_in own_variables own_in bytes
returns c = rw (not-false c.args.c.method c.if-not-c.false) (looked-on _ _ _ _ _ _ (sym c.same.ensures ∙ c.if-same.false) (rw (← add-one c.args.c.locals) c.own_variable-2.ensures))
