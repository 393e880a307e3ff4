use mathlib.Core.Path.{sym}
use native.Mathlib.Omega.{arith}
use Rattle.read_words.proofs.Words.{reserved-is, not-reserved}
use Rattle.read_words.proofs.is_reserved.Goals as goal

-- `is_reserved` meets its contract. Assumes nothing.
pub returns-then-w-lt-SHORTEST_RESERVED : goal.returns-then-w-lt-SHORTEST_RESERVED
returns-then-w-lt-SHORTEST_RESERVED c = sym (not-reserved c.args.w.now (λ h. omega arith))

pub returns-then-w-gt-LONGEST_RESERVED : goal.returns-then-w-gt-LONGEST_RESERVED
returns-then-w-gt-LONGEST_RESERVED c = sym (not-reserved c.args.w.now (λ h. omega arith))

pub returns : goal.returns
returns c = rw c.word.ensures (sym (reserved-is c.args.w.now))
