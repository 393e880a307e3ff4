use Rattle.std.proofs.lemmas.Result.{err_from_is_err_and}
use mathlib.Core.Path.{refl}
use Rattle.read_grammar.proofs.Rows.{number-of-kind}
use Rattle.resolve_headers.proofs.Lines.{stands-held}
use Rattle.reader.specs.Readings.{StepIs}
use Rattle.reader.proofs.Judged.{good-resolved, bad-resolved}
use Rattle.reader.proofs.Lines.{follows, tried-on, tried-bad, line_taken, between}
use Rattle.reader.proofs.read_line.Goals as goal

-- `reader::read_line` meets its contract. Assumes nothing.
pub numbered-kind-requires : goal.numbered-kind-requires
numbered-kind-requires c = c.requires.0.kind

pub try_line-requires : goal.try_line-requires
try_line-requires c =
    rw c.numbered-kind.ensures (follows c.requires.0 c.requires.1, stands-held _ _ _ _ c.requires.2.stands)

pub take_line-requires : goal.take_line-requires
take_line-requires c =
    let z = tried-on (rw c.numbered-kind.ensures at c.try_line.ensures) _ c.in_ok-q.was in
    rw c.numbered-kind.ensures (between z.1.0 _ c.requires.0.kind refl c.requires.2.flat c.requires.2.stands c.requires.0.ready c.requires.1)

pub returns-in_err-q : goal.returns-in_err-q
unfolding StepIs
returns-in_err-q c =
    let z = tried-bad _ _ _ _ _ _ _ (rw c.numbered-kind.ensures at c.try_line.ensures) c.in_err-q.was in
    let p = err_from_is_err_and c.from_residual.result c.from_residual.ensures.1 in
    rw p.1 (bad-resolved _ _ c.args.p _ _ p.0 z.0 p.2, z.1)

pub returns : goal.returns
unfolding StepIs
returns c =
    let z = tried-on (rw c.numbered-kind.ensures at c.try_line.ensures) _ c.in_ok-q.was in
    record {
      taken = line_taken z.1.0 c.requires.2 _ (number-of-kind _ c.requires.0.kind) _ (rw c.numbered-kind.ensures at c.take_line.ensures);
      resolved = good-resolved _ _ c.args.p _ z.0;
    }
