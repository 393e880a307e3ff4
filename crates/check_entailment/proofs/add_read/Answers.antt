use mathlib.Core.Path.{refl}
use Rattle.std.proofs.lemmas.Grind.{merely}
use Rattle.check_state.proofs.Whole.{whole}
use Rattle.check_entailment.proofs.Adding.{read-joined, read-apart}
use Rattle.check_state.proofs.Entries.{own-kinds}
use Rattle.check_entailment.proofs.add_read.Goals as goal

pub invariant_of-known : goal.invariant_of-known
invariant_of-known c =
    let w = whole c.args.known.now.sound in
    record { sound = merely (read-joined _ _ w _ _ _ _ (own-kinds c.args.known.now.bytes w.linked.size) (rw c.variable_key-k.ensures.0 at c.listed_entry-i.ensures) c.if-n-i.false).wf }

pub returns-then-n-i : goal.returns-then-n-i
returns-then-n-i c =
    let w = whole c.args.known.now.sound in (
      read-apart _ _ w _ _ _ _ (own-kinds c.args.known.now.bytes w.linked.size)
          (rw c.variable_key-k.ensures.0 at c.listed_entry-i.ensures) c.if-n-i.true _ _ _
          c.add_entry.ensures.0,
      c.add_entry.ensures.1,
    )

pub returns : goal.returns
returns c =
    let w = whole c.args.known.now.sound in
    (read-joined _ _ w _ _ _ _ (own-kinds c.args.known.now.bytes w.linked.size) (rw c.variable_key-k.ensures.0 at c.listed_entry-i.ensures) c.if-n-i.false, refl)
