use Rattle.std.proofs.lemmas.Result.{err_from_is_err_and}
use mathlib.Core.Path.{sym, ap, subst, ◌∙◌}
use Rattle.read_scan.specs.Scans.{verdict_of}
use Rattle.read_scan.specs.Table.{TableOf}
use Rattle.reader.specs.Readings.{refusal_of, ReadingIs}
use Rattle.reader.proofs.Texts.{too_long, scan-refused, scan-taken}
use Rattle.reader.proofs.read.Goals as goal

-- `reader::read` meets its contract. Assumes nothing.
pub returns-then-text-gt-TEXT_BYTES : goal.returns-then-text-gt-TEXT_BYTES
unfolding ReadingIs refusal_of
returns-then-text-gt-TEXT_BYTES c = too_long _ c.if-text-gt-TEXT_BYTES.true

pub resolve-requires : goal.resolve-requires
resolve-requires c =
    (c.if-text-gt-TEXT_BYTES.false, scan-taken _ c.if-text-gt-TEXT_BYTES.false _ (ap verdict_of (sym c.in_ok-n.was) ∙ c.scan.ensures.0), subst (TableOf _ _) c.in_ok-n.was c.scan.ensures.1)

pub returns-in_err-n : goal.returns-in_err-n
unfolding ReadingIs
returns-in_err-n c =
    let p = err_from_is_err_and c.from_residual.result c.from_residual.ensures.1 in
    rw (p.1, p.2.1)
    (scan-refused _ c.if-text-gt-TEXT_BYTES.false p.2.0 (ap verdict_of (sym c.in_err-n.was) ∙ c.scan.ensures.0))
