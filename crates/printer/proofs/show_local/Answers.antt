use mathlib.Core.List.{[]}
use mathlib.Core.Path.{◌≡◌, refl, sym, ap, ap₂, ◌∙◌}
use Rattle.printer.specs.Answers.{values_in, variable_line}
use Rattle.printer.proofs.Writes.{writes_as}
use Prim.Native.Nat.{ℕ, ◌+◌}
use lib.ListN.{length, get_or, drop}
use Rattle.rules.specs.Base.{Name}
use Rattle.read_fields.specs.Cuts.{part, more}
use Rattle.read_declarations.proofs.Lines.{second}
use native.Mathlib.Omega.{arith}
use Rattle.printer.proofs.Variables.{word_in, part-name, name-few, line-few}
use Rattle.printer.proofs.show_local.Goals as goal

pub put_variable-end-requires : goal.put_variable-end-requires
put_variable-end-requires c =
    let x : Name = get_or (more (drop c.args.r c.args.text.now)) 1 [] in
    let n : part c.span_after-name.result.start (c.span_after-name.result.start + c.span_after-name.result.len) c.args.text.now ≡ x =
    part-name _ c.span_after-name.result ∙ second c.span_after-class.ensures c.span_after-name.ensures in
    omega (arith, name-few x c.requires.4, ap length n, c.requires.3)

pub returns : goal.returns
returns c =
    let n = part-name _ c.span_after-name.result ∙ second c.span_after-class.ensures c.span_after-name.ensures in
    let x : Name = get_or (more (drop c.args.r c.args.text.now)) 1 [] in
    let k : ℕ = get_or (values_in c.args.results.now) c.args.s.count 0 in
    let e : c.word_at-v.result ≡ k = c.word_at-v.ensures ∙ sym (word_in 12 4 c.args.s.count c.args.results.now c.requires.2) in
    let y = writes_as c.put_variable-end.ensures (ap₂ variable_line n e) in
    record {
      count = refl;
      bytes = y;
      few = omega (arith, y.end, line-few x k (name-few x c.requires.4));
    }
