use Rattle.std.proofs.Common.{◌≡◌, ◌+◌, ◌*◌, sym, ◌∙◌, arith}
use Rattle.check_scans.proofs.Renaming.{renamed-variable, renamed-below, renamed-path, renamed-above}
use Rattle.check_scans.proofs.keys.rename.Goals as goal

pub returns-then-k-variable_key : goal.returns-then-k-variable_key
returns-then-k-variable_key c =
    c.variable_key-then-k-variable_key.ensures.1 ∙ sym (renamed-variable _ _ _ (c.if-k-variable_key.true ∙ c.variable_key.ensures.1))

pub returns-then-k-first : goal.returns-then-k-first
returns-then-k-first c =
    sym (renamed-below _ _ _ (λ e. c.if-k-variable_key.false (e ∙ sym c.variable_key.ensures.1)) (omega (arith, c.path_key-first.ensures.1, c.if-k-first.true)))

pub returns-then-k-first-lt-PATHS : goal.returns-then-k-first-lt-PATHS
returns-then-k-first-lt-PATHS c =
    let e : c.path_key-first.result ≡ 257 + c.args.x * 256 = omega arith in
    let d : c.path_key.result ≡ 257 + c.args.to * 256 = omega arith in
    sym (renamed-path _ _ _ (λ e. c.if-k-variable_key.false (e ∙ sym c.variable_key.ensures.1)) (omega (arith, c.if-k-first.false)) (omega (arith, c.if-k-first-lt-PATHS.true)) ∙ rw (e, d))

pub returns : goal.returns
returns c =
    sym (renamed-above _ _ _ (λ e. c.if-k-variable_key.false (e ∙ sym c.variable_key.ensures.1)) (omega (arith, c.path_key-first.ensures.1, c.if-k-first.false)) (omega (arith, c.path_key-first.ensures.1, c.if-k-first-lt-PATHS.false)))
