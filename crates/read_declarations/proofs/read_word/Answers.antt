use mathlib.Core.List.{[]}
use mathlib.Core.Path.{sym, ap, ◌∙◌}
use lib.ListN.{get_or, drop}
use Rattle.rules.specs.Grammar.{kind_of}
use Rattle.read_words.specs.Words.{kind_or0}
use Rattle.read_fields.proofs.Cuts.{fields-from}
use Rattle.read_declarations.proofs.read_word.Goals as goal

pub returns : goal.returns
returns c =
    let x = c.first_word.ensures in
    let f = fields-from _ _ _ x.end in
    record {
      kind = x.kind ∙ ap (λ ws. kind_or0 (kind_of (get_or ws 0 []))) (sym f);
      high = x.end.high;
      fields = ap (drop 1) (sym f);
    }
