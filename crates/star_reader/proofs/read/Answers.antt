use Rattle.reader.specs.Readings.{refusal_of}
use Rattle.star_reader.specs.StarRead.{StarredIs}
use Rattle.star_reader.proofs.Copied.{too_long, copy_of}
use Rattle.star_reader.proofs.read.Goals as goal

-- `star_reader::read` meets its contract. Assumes nothing.
pub returns-then-text-gt-TEXT_BYTES : goal.returns-then-text-gt-TEXT_BYTES
unfolding StarredIs refusal_of
returns-then-text-gt-TEXT_BYTES c = too_long _ c.if-text-gt-TEXT_BYTES.true

pub returns : goal.returns
returns c =
    c.read_copy.ensures _ (copy_of c.if-text-gt-TEXT_BYTES.false c.unstar-s.ensures c.unstar-s.array_long)
