use Rattle.rules.proofs.KindNumbers.{other}
use Rattle.read_grammar.specs.Coded.{fits}
use Rattle.read_grammar.proofs.places.fits.Goals as goal

-- `fits` meets its contract. Assumes nothing.
pub returns-in-Return : goal.returns-in-Return
unfolding fits
returns-in-Return c = rw c.in-Return.is

pub returns-in-Else : goal.returns-in-Else
unfolding fits
returns-in-Else c = rw c.in-Else.is

pub returns-in-Join : goal.returns-in-Join
unfolding fits
returns-in-Join c = rw c.in-Join.is

pub returns-in-Again : goal.returns-in-Again
unfolding fits
returns-in-Again c = rw c.in-Again.is

pub returns-in-End : goal.returns-in-End
unfolding fits
returns-in-End c = rw c.in-End.is

pub returns-in_default : goal.returns-in_default
unfolding fits
returns-in_default c =
    rw (other c.in_default.not-Return, other c.in_default.not-Else, other c.in_default.not-Join, other c.in_default.not-Again, other c.in_default.not-End)
