use Rattle.check_state.proofs.Whole.{whole, slots-of}
use mathlib.Core.Path.{sym, ap, ◌∙◌}
use mathlib.Core.Option.{some}
use Rattle.check_equality.proofs.Keys.{of-null}
use Rattle.check_inequality.proofs.Searches.{null-like}
use Rattle.check_successors.specs.Successors.{term_or}
use Rattle.check_successors.proofs.InOrder.{is-variable, is-path, is-null, is_number, key-number}
use Rattle.check_successors.proofs.successor.Goals as goal

pub returns-then-v-lt-VARIABLE_COUNT : goal.returns-then-v-lt-VARIABLE_COUNT
unfolding term_or
returns-then-v-lt-VARIABLE_COUNT c =
    λ ρ ps W.
    ap some c.variable_key.ensures.0
    ∙ is-variable c.args.known.now.keys c.args.known.now.bytes c.args.skip.now c.args.x c.args.t ρ ps W
    c.first_variable-v.result (c.first_variable-v.ensures _ (whole c.args.known.now.sound).linked.decides) c.if-v-lt-VARIABLE_COUNT.true

pub returns-then-i-p : goal.returns-then-i-p
unfolding term_or
returns-then-i-p c =
    λ ρ ps W.
    ap some c.path_key.ensures.0
    ∙ is-path c.args.known.now.keys c.args.known.now.bytes c.args.skip.now c.args.x c.args.t ρ ps W
    c.first_variable-v.result (c.first_variable-v.ensures _ (whole c.args.known.now.sound).linked.decides) c.if-v-lt-VARIABLE_COUNT.false c.first_entry-i.result
    (c.first_entry-i.ensures _ (whole c.args.known.now.sound).linked.decides) c.if-i-p.true

pub returns-then-alike : goal.returns-then-alike
unfolding term_or
returns-then-alike c =
    λ ρ ps W.
    ap some of-null
    ∙ is-null c.args.known.now.keys c.args.known.now.bytes c.args.skip.now c.args.x c.args.t ρ ps W
    c.first_variable-v.result (c.first_variable-v.ensures _ (whole c.args.known.now.sound).linked.decides) c.if-v-lt-VARIABLE_COUNT.false c.first_entry-i.result
    (c.first_entry-i.ensures _ (whole c.args.known.now.sound).linked.decides) c.if-i-p.false
    (null-like (slots-of (whole c.args.known.now.sound)) (whole c.args.known.now.sound).linked.decides _ _ c.requires ∙ sym c.alike.ensures ∙ c.if-alike.true)

pub returns : goal.returns
returns c =
    λ ρ ps W.
    key-number c.least_number.result c.least_number.ensures.0
    ∙ is_number c.args.known.now.keys c.args.known.now.bytes c.args.skip.now c.args.x c.args.t ρ ps W
    c.first_variable-v.result (c.first_variable-v.ensures _ (whole c.args.known.now.sound).linked.decides) c.if-v-lt-VARIABLE_COUNT.false c.first_entry-i.result
    (c.first_entry-i.ensures _ (whole c.args.known.now.sound).linked.decides) c.if-i-p.false
    (null-like (slots-of (whole c.args.known.now.sound)) (whole c.args.known.now.sound).linked.decides _ _ c.requires ∙ sym c.alike.ensures ∙ c.if-alike.false)
    c.least_number.result
    (c.least_number.ensures.1 _ (whole c.args.known.now.sound).linked.decides)
