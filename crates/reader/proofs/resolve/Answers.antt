use Rattle.std.proofs.lemmas.Result.{err_from_is_err_and}
use mathlib.Core.Path.{◌∙◌}
use Rattle.reader.specs.Readings.{ReadingIs}
use Rattle.reader.proofs.Texts.{read-resolved, lines-refused, all_read, finish-fits, ended, tabled}
use Rattle.reader.proofs.resolve.Goals as goal

pub finish-requires : goal.finish-requires
finish-requires c =
    finish-fits (all_read _ _ _ c.read_lines.ensures _ c.in_ok-p.was)

pub returns-in_err-p : goal.returns-in_err-p
unfolding ReadingIs
returns-in_err-p c =
    let p = err_from_is_err_and c.from_residual.result c.from_residual.ensures.1 in
    rw (p.1, p.2) (read-resolved _ c.requires.0 c.requires.1 ∙ lines-refused _ _ _ c.read_lines.ensures _ c.in_err-p.was)

pub returns : goal.returns
unfolding ReadingIs ended
returns c =
    tabled (all_read _ _ _ c.read_lines.ensures _ c.in_ok-p.was) c.requires.1 c.requires.0 c.finish.ensures
