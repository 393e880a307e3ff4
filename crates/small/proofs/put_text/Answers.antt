use native.Mathlib.Omega.{arith}
use Rattle.rules.specs.Base.{bytes}
use Rattle.small_list.specs.Small.{closing}
use Rattle.small.specs.Listing.{places_in}
use Rattle.small.proofs.Texts.{places_count, body-short, opening-length, whole-text}
use Rattle.small.proofs.put_text.Goals as goal

pub put_body-b-requires : goal.put_body-b-requires
put_body-b-requires c =
    (c.requires, omega (arith, c.told-text, c.put_opening-a.ensures.end, c.put_opening-a.ensures.size, opening-length))

pub put_word-requires : goal.put_word-requires
put_word-requires c =
    omega (arith, c.told-text, c.requires.few, c.put_opening-a.ensures.end, c.put_opening-a.ensures.size, c.put_body-b.ensures.end, c.put_body-b.ensures.size, opening-length, body-short (places_in c.args.m), places_count c.requires)

pub returns : goal.returns
unfolding closing bytes
returns c =
    whole-text _ c.put_opening-a.ensures c.put_body-b.ensures c.put_word.ensures
