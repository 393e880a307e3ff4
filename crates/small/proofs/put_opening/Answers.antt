use Rattle.rules.specs.Base.{bytes}
use Rattle.small_list.specs.Small.{opening}
use Rattle.small.proofs.put_opening.Goals as goal

pub returns : goal.returns
unfolding opening bytes
returns c =
    c.put_word.ensures
