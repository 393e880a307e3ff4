use Rattle.run_steps.proofs.Doing.{row-atoms, row-takes, view-readable}
use mathlib.Core.Path.{◌∙◌}
use Rattle.run_steps.proofs.row_footprint.Goals as goal

pub footprint-requires : goal.footprint-requires
footprint-requires c =
    let r = row-atoms c.requires _ _ _ c.view_of-v.ensures c.first_atom_at-first.ensures.0 c.atom_count_at-n.ensures.0 in ((view-readable c.requires c.view_of-v.ensures, r.0), r.1)

pub returns : goal.returns
returns c =
    record { took = c.footprint.ensures.took ∙ row-takes c.requires _ _ _ c.view_of-v.ensures c.first_atom_at-first.ensures.0 c.atom_count_at-n.ensures.0; count = c.footprint.ensures.count; size = c.footprint.ensures.size }
