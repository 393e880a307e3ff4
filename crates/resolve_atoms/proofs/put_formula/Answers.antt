use mathlib.Core.Path.{sym, ◌∙◌}
use Rattle.std.proofs.lemmas.Result.{err_from_is_err_and}
use Rattle.resolve_atoms.proofs.Formulas.{writing-first, still-ready, writing-done, writing-bad, writing-follows, writing-on, writing-room}
use Rattle.resolve_atoms.proofs.put_formula.Goals as goal

pub loop-c-init : goal.loop-c-init
loop-c-init c =
    writing-first c.requires.1

pub put_next_atom-p-requires : goal.put_next_atom-p-requires
put_next_atom-p-requires c =
    let tab = sym c.byte_at.ensures ∙ c.loop-c-test.true in (
      still-ready c.loop-c.invariant c.requires.0,
      writing-follows c.loop-c.invariant
          c.requires.0 tab,
      writing-room c.loop-c.invariant
          c.requires.0 tab c.requires.1.room,
    )

pub loop-c-preserved : goal.loop-c-preserved
loop-c-preserved c =
    writing-on c.loop-c.invariant c.requires.0
    (sym c.byte_at.ensures ∙ c.loop-c-test.true) _ _ _ c.put_next_atom-p.ensures
    c.lower-v.ensures

pub returns : goal.returns
returns c = writing-done c.loop-c.invariant c.requires.0 (λ e. c.loop-c-test.false (c.byte_at.ensures ∙ e)) c.in_ok-v.was

pub returns-in_err-v : goal.returns-in_err-v
returns-in_err-v c =
    let p = err_from_is_err_and c.from_residual.result c.from_residual.ensures.1 in
    rw (p.1, p.2) (writing-bad c.loop-c.invariant c.requires.0 (λ e. c.loop-c-test.false (c.byte_at.ensures ∙ e)) _ c.in_err-v.was)
