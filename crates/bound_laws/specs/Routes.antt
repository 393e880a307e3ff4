-- Routes of calls among the blocks of methods.
use Rattle.std.specs.Prelude.{List, ℕ, T, get_or}
use Rattle.rules.specs.Base.{Member}
use Rattle.rules.specs.Syntax.{Row}
use Rattle.rules.specs.Bounds.{Block, no_block, callees, is_loop}

-- the block of the method n
abbrev pub block_at : List Block → ℕ → Block
block_at bs n = get_or bs n no_block

abbrev pub calls : List Block → ℕ → List ℕ
calls bs n = callees (block_at bs n)

-- a route of one call or more
pub data Reaches (bs : List Block) : ℕ → ℕ → Type 0 where
  directly : {a b : ℕ} → Member b (calls bs a) → Reaches bs a b
  through : {a b c : ℕ} → Member c (calls bs a) → Reaches bs c b → Reaches bs a b

-- no method reaches itself
abbrev pub Acyclic : List Block → Type 0
Acyclic bs = (a : ℕ) → Reaches bs a a → ⊥

-- neither n nor what it reaches reaches itself
pub record Clear (bs : List Block) (n : ℕ) : Type 0 where
  pub itself : Reaches bs n n → ⊥
  pub others : (a : ℕ) → Reaches bs n a → Reaches bs a a → ⊥

-- no line of a block is a loop
abbrev pub Loopless : Block → Type 0
Loopless b = (r : Row) → Member r b → T (is_loop r.stmt) → ⊥
