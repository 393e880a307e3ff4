use lib.ListN.{take}
use Rattle.printer.specs.Writes.{Writes}
use Rattle.small_list.specs.Small.{body}
use Rattle.small.specs.Listing.{places_in}
use Rattle.small.proofs.put_body.Given as goal

-- `small::put_body` meets its contract. Assumes nothing.
abbrev pub invariant-loop-d : goal.invariant-loop-d
invariant-loop-d l = Writes l.initial.text l.at (body (take l.d-index (places_in l.fn.m))) l.text l.e
