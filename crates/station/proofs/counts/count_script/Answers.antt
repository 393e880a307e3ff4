use mathlib.Core.Path.{ap, ◌∙◌}
use Rattle.station.specs.Station.{run_numbers}
use Rattle.station.proofs.Texts.{found-share, fits-as, share-fits}
use Rattle.station.proofs.Parts.{rest-length, script-written}
use Rattle.station.proofs.counts.count_script.Goals as goal

pub run_found-f-requires : goal.run_found-f-requires
run_found-f-requires c =
    (λ z. (c.check_text-found.ensures.taken z).1.tables, c.requires.0, rest-length c.args.part.now c.requires.1)

pub pack-returned-requires : goal.pack-returned-requires
pack-returned-requires c =
    fits-as (c.run_found-f.ensures.0 ∙ ap run_numbers (found-share c.args.rounds c.args.share c.check_text-found.ensures)) (share-fits c.args.share c.requires.0 c.args.text.now c.args.rounds).numbers

pub returns : goal.returns
returns c =
    c.put_word.ensures ∙ script-written c.args.part.now c.requires.1 (found-share c.args.rounds c.args.share c.check_text-found.ensures) (share-fits c.args.share c.requires.0 c.args.text.now c.args.rounds).shown c.run_found-f.ensures.0 c.run_found-f.ensures.1 c.pack-returned.ensures
