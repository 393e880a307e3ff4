use Rattle.check_state.proofs.Whole.{whole}
use Rattle.check_entailment.specs.Answers.{answered, refusal_of}
use Rattle.check_state.proofs.Entries.{own-kinds}
use Rattle.check_statements.proofs.Ruled.{adds_same, adds-no, set-refused, set-path, set_found_lem}
use mathlib.Core.Path.{sym}
use Rattle.check_equality.specs.Links.{rel_of}
use Rattle.check_entailment.specs.declared.Refusal.TheVariants.{NoPermission}
use Rattle.std.specs.Prelude.{Err}
use Rattle.check_statements.proofs.set_rule.Goals as goal

pub without_path-requires : goal.without_path-requires
without_path-requires c =
    let found = rw c.variable_key-v.ensures.0 at c.listed_entry-i.ensures in
    (set-path _ _ (whole c.args.known.now.sound) _ (own-kinds c.args.known.now.bytes (whole c.args.known.now.sound).linked.size) _ _ c.args.y _ found c.if-i-known.true, c.path_key-path.ensures.0)

pub returns-then-i-known : goal.returns-then-i-known
unfolding rel_of
returns-then-i-known c =
    let found = rw c.variable_key-v.ensures.0 at c.listed_entry-i.ensures in
    adds_same _ _ _ _ _ (rw (c.path_key-path.ensures.0, c.variable_key.ensures.0, c.without_path.ensures.same)
    (sym (set_found_lem c.args.known.now.keys c.args.known.now.bytes (whole c.args.known.now.sound) _ (own-kinds c.args.known.now.bytes (whole c.args.known.now.sound).linked.size) _ _ _ _ found c.if-i-known.true)))
    c.add_fact.ensures

pub returns : goal.returns
unfolding answered refusal_of
returns c =
    let found = rw c.variable_key-v.ensures.0 at c.listed_entry-i.ensures in
    adds-no (Err NoPermission) _ _ (whole c.args.known.now.sound) _ (set-refused c.args.known.now.keys c.args.known.now.bytes (whole c.args.known.now.sound) _ (own-kinds c.args.known.now.bytes (whole c.args.known.now.sound).linked.size) _ _ _ _ found c.if-i-known.false)
