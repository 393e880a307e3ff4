-- The blocks of a program, the methods by number and then main: which are accepted, and which call a method.
use Rattle.std.specs.Prelude.{Bool, false, not, cond, ◌||◌, [], ℕ, suc, eqb, ltb, length}
use Rattle.rules.specs.Base.{any, all}
use Rattle.rules.specs.Answers.{Verdict}
use Rattle.rules.specs.Syntax.{Program, method_numbered}
use Rattle.rules.specs.Rules.{check_method, check_blocks}
use Rattle.rules.specs.Bounds.{block, callees}
use Rattle.rules.specs.Fill.{places_from}
use Rattle.rules.specs.Calls.{is_accepted}

unfoldable pub block_verdict : Program → ℕ → Verdict (Unit {0})
block_verdict P j = cond (ltb j (length P.methods)) (check_method P (method_numbered P j)) (check_blocks P [])

unfoldable pub first_row : Program → ℕ → ℕ
first_row P j = cond (ltb j (length P.methods)) (method_numbered P j).first P.main

-- the block from row i on calls the method m
unfoldable pub calls_from : Program → ℕ → ℕ → Bool
calls_from P m i = any (eqb m) (callees (block P i))

-- the block j is not the method m, and calls it just if b is true
unfoldable pub is_looked_at : Program → ℕ → Bool → ℕ → Bool
is_looked_at P m b j = let c : Bool = calls_from P m (first_row P j) in cond (eqb j m) false (cond b c (not c))

-- it is accepted, if it is looked at
unfoldable pub passes : Program → ℕ → Bool → ℕ → Bool
passes P m b j = not (is_looked_at P m b j) || is_accepted (block_verdict P j)

unfoldable pub others_pass : Program → ℕ → Bool → Bool
others_pass P m b = all (passes P m b) (places_from 0 (suc (length P.methods)))
