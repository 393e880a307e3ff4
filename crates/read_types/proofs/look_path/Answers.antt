use mathlib.Core.Path.{◌∙◌}
use Rattle.read_types.proofs.Types.{path-type, path-judged}
use Rattle.read_types.proofs.look_path.Goals as goal

pub returns : goal.returns
returns c =
    record {
      variable = c.variable-v.ensures;
      number = c.field_number-number.ensures.0;
      is = c.field_gives-is.ensures _ ∙ path-type _ _ _ _ _ _ _ _ _ c.variable-v.ensures c.type_of-class.ensures c.owned_field-i.ensures;
      verdict = c.judge_member-verdict.ensures ∙ path-judged _ _ _ _ _ _ _ _ _ c.variable-v.ensures c.type_of-class.ensures c.owned_field-i.ensures;
    }
