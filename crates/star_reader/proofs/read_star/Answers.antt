use Rattle.star_reader.specs.StarRead.{StarredIs}
use Rattle.star_reader.proofs.Copied.{none-there, second-there, line-here, star-read}
use Rattle.star_reader.proofs.read_star.Goals as goal

-- `star_reader::read_star` meets its contract. Assumes nothing.
pub returns-in_default : goal.returns-in_default
unfolding StarredIs
returns-in_default c = λ t x. none-there x c.requires.1 c.in_default.is

pub returns-in-Some-second : goal.returns-in-Some-second
unfolding StarredIs
returns-in-Some-second c = λ t x. second-there x c.requires.1 c.in-Some-second.is

pub star_at-requires : goal.star_at-requires
star_at-requires c =
    line-here c.requires.0.copy c.requires.1 c.in-Some.is c.in_default-second.is

pub returns : goal.returns
unfolding StarredIs
returns c = λ t x. star-read x c.requires.1 c.in-Some.is c.in_default-second.is c.star_at.ensures
