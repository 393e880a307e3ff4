-- Where `if`, `else`, `loop` and `again` should go on.
use Rattle.std.specs.Prelude.{◌≡◌, List, ◌⊎◌, ℕ, suc, ◌<◌, length}
use Rattle.rules.specs.Grammar.{if_kind, else_kind, loop_kind, again_kind}
use Rattle.rules.specs.Syntax.{Row}
use Rattle.rules.specs.Machine.{closing, loop_of}
use Rattle.tables.specs.Decode.{kind_at, target_at}

-- row i of the rows rs goes on where it should: a false `if` and a false `loop` past what closes them
pub record TargetRight (w : List ℕ) (rs : List Row) (i : ℕ) : Type 0 where
  pub past : (kind_at w i ≡ if_kind) ⊎ (kind_at w i ≡ loop_kind) → (target_at w i < length rs) × (target_at w i ≡ suc (closing rs i))
  pub to_join : kind_at w i ≡ else_kind → (target_at w i < length rs) × (target_at w i ≡ closing rs i)
  pub to_loop : kind_at w i ≡ again_kind → (target_at w i < length rs) × (target_at w i ≡ loop_of rs i)
