use mathlib.Core.Path.{refl, sym, ◌∙◌}
use mathlib.Core.Logic.{⊎_elim}
use Rattle.bound_lines.proofs.Seeks.{gather-start, gather-plain, gather-loop, called-small, gather-call, gather-end}
use Rattle.bound_lines.proofs.queue.gather.Goals as goal
use Rattle.bound_lines.proofs.queue.gather.Goals.{in-Plain, in-Call}

pub loop-d-init : goal.loop-d-init
loop-d-init c =
    (c.requires.0, gather-start _ c.requires.0 _ _ _ c.requires.1.0 c.requires.1.1.0 c.requires.1.1.1 _ c.first_row_at-row.ensures.0)

pub add-k-requires : goal.add-k-requires
add-k-requires c =
    called-small _ c.loop-d.invariant.0 _ _ _ _ _ c.loop-d.invariant.1 _ (sym c.in-Call.is ∙ c.line_at.ensures)

pub loop-d-preserved : goal.loop-d-preserved
loop-d-preserved c =
    elim c.match-line_at.branch [
      | in-Plain w ↦ (
        c.loop-d.invariant.0,
        rw w.k-is (⊎_elim
            (λ e. gather-plain _ c.loop-d.invariant.0 _ _ _ _ _ c.loop-d.invariant.1 _ refl (sym e ∙ c.line_at.ensures))
            (λ e. gather-loop _ c.loop-d.invariant.0 _ _ _ _ _ c.loop-d.invariant.1 _ refl (sym e ∙ c.line_at.ensures))
            w.in-Plain.is),
      )
      | in-Call w ↦
          (c.loop-d.invariant.0, rw w.k-is (gather-call _ c.loop-d.invariant.0 _ _ _ _ _ c.loop-d.invariant.1 _ refl _ (sym w.in-Call.is ∙ c.line_at.ensures) _ w.add-k.ensures))
    ]

pub returns-in-End : goal.returns-in-End
returns-in-End c =
    gather-end _ c.loop-d.invariant.0 _ _ _ _ _ c.loop-d.invariant.1 (sym c.in-End.is ∙ c.line_at.ensures)
