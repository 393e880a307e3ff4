use Rattle.read_tokens.proofs.Exprs.{numeral-number, known-number, known-stop, known-path, known-null, known-var}
use mathlib.Core.Path.{sym, ◌∙◌}
use native.Mathlib.Omega.{arith}
use Rattle.read_tokens.proofs.known_expr.Goals as goal

pub known_number-n-requires : goal.known_number-n-requires
known_number-n-requires c =
    numeral-number c.args.w.now c.requires (sym c.is_numeral.ensures ∙ c.if-is_numeral.true)

pub returns-then-is_numeral : goal.returns-then-is_numeral
returns-then-is_numeral c =
    record { means = known-number c.args.w.now _ (sym c.is_numeral.ensures ∙ c.if-is_numeral.true) c.known_number-n.ensures; place = tt }

pub returns-then-d-w : goal.returns-then-d-w
returns-then-d-w c =
    record { means = known-path c.args.w.now (sym c.is_numeral.ensures ∙ c.if-is_numeral.false) c.find-d.result c.find-d.ensures.is c.if-d-w.true; place = (known-stop c.args.w.now (sym c.is_numeral.ensures ∙ c.if-is_numeral.false) c.find-d.result c.find-d.ensures.is, c.if-d-w.true) }

pub returns-then-is_null : goal.returns-then-is_null
returns-then-is_null c =
    record { means = known-null c.args.w.now (sym c.is_numeral.ensures ∙ c.if-is_numeral.false) c.find-d.result c.find-d.ensures.is (omega arith) (sym c.is_null.ensures ∙ c.if-is_null.true); place = tt }

pub returns : goal.returns
returns c =
    record { means = known-var c.args.w.now (sym c.is_numeral.ensures ∙ c.if-is_numeral.false) c.find-d.result c.find-d.ensures.is (omega arith) (sym c.is_null.ensures ∙ c.if-is_null.false); place = tt }
