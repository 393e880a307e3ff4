use Rattle.check_inequality.proofs.Pairs.{pair-links, pair_reads}
use Rattle.check_state.specs.States.{permission_at}
use Rattle.rules.specs.State.{representative, equal_by, differ}
use borrow.Author.Tests.{ne_eqb}
use mathlib.Core.Bool.{Bool, ◌&&◌, ◌||◌}
use mathlib.Core.Path.{sym, ap₂, ◌∙◌}
use Rattle.check_inequality.proofs.pair.Goals as goal

pub returns-then-known-j : goal.returns-then-known-j
unfolding differ
returns-then-known-j c = λ fs D e d. rw (ne_eqb _ _ c.if-known-j.true)

pub returns-then-exceed : goal.returns-then-exceed
returns-then-exceed c =
    λ fs D e d. ap₂ (λ (x z : Bool). (x && c.args.q) || (z && c.args.p)) (c.variable_is-c.ensures fs D) (c.variable_is-d.ensures fs D)
    ∙ pair-links (equal_by (representative fs)) c.args.t c.args.u (permission_at c.args.known.now.bytes c.args.j) (permission_at c.args.known.now.bytes c.args.i) c.args.p c.args.q c.if-known-j.false (sym c.if-exceed.true ∙ c.exceed.ensures) e d

pub returns : goal.returns
returns c =
    λ fs D e d. pair_reads (equal_by (representative fs)) c.args.t c.args.u (permission_at c.args.known.now.bytes c.args.j) (permission_at c.args.known.now.bytes c.args.i) (sym c.if-exceed.false ∙ c.exceed.ensures)
