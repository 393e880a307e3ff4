use Rattle.std.proofs.lemmas.Result.{err_from_is_err_and}
use Rattle.star_reader.specs.StarRead.{StarredIs}
use Rattle.star_reader.proofs.Copied.{copy-tabled, copy-why, copy-refused}
use Rattle.star_reader.proofs.read_copy.Goals as goal

pub read_star-requires : goal.read_star-requires
read_star-requires c =
    (c.requires, copy-tabled _ _ c.read.ensures c.in_ok-unframed.was)

pub returns-in_err-unframed : goal.returns-in_err-unframed
unfolding StarredIs
returns-in_err-unframed c =
    let p = err_from_is_err_and c.from_residual.result c.from_residual.ensures.1 in
    rw (p.1, p.2) (λ t x. copy-refused x (copy-why _ _ c.read.ensures c.in_err-unframed.was))
