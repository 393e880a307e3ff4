use Rattle.check_state.proofs.Whole.{whole}
use Rattle.check_state.proofs.Entries.{stand-in-none, stand-in-found}
use Rattle.check_state.specs.Questions.{variable_or}
use Rattle.check_state.proofs.stand_in.Goals as goal

pub returns-then-v-lt-VARIABLE_COUNT : goal.returns-then-v-lt-VARIABLE_COUNT
unfolding variable_or
returns-then-v-lt-VARIABLE_COUNT c =
    stand-in-found c.args.known.now.keys c.args.known.now.bytes c.args.x _ _ c.variable_key-k.ensures.0 (c.first_variable-v.ensures _ (whole c.args.known.now.sound).linked.decides) c.if-v-lt-VARIABLE_COUNT.true

pub returns : goal.returns
unfolding variable_or
returns c =
    stand-in-none c.args.known.now.keys c.args.known.now.bytes c.args.x _ _ c.variable_key-k.ensures.0 (c.first_variable-v.ensures _ (whole c.args.known.now.sound).linked.decides) c.if-v-lt-VARIABLE_COUNT.false
