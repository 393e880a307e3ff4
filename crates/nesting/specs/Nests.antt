-- Rows whose branches and loops nest, and in which nothing stands after a `return`: what the places of a read text give.
use Rattle.std.specs.Prelude.{Bool, true, false, not, ◌&&◌, ◌||◌, List, [], ◌∷◌, ltb, length}
use Rattle.rules.specs.Limits.{most_branches}
use Rattle.rules.specs.Syntax.{Stmt, Row, simple, return, if, else, join, loop, again, end}

-- what an open branch or loop waits for
pub data Wait : Type 0 where
  for_else : Wait
  for_join : Wait
  for_again : Wait

-- ws: the open branches and loops, innermost first; then k, with true where a block has just ended
unfoldable pub row_nests : Stmt → List Wait → (Bool → List Wait → Bool) → Bool
row_nests (simple p) ws k = k false ws
row_nests (return x) ws k = k false ws
row_nests (if n a b) ws k = ltb (length ws) most_branches && k false (for_else ∷ ws)
row_nests else [] k = false
row_nests else (for_else ∷ ws) k = k false (for_join ∷ ws)
row_nests else (for_join ∷ ws) k = false
row_nests else (for_again ∷ ws) k = false
row_nests (join φ) [] k = false
row_nests (join φ) (for_else ∷ ws) k = false
row_nests (join φ) (for_join ∷ ws) k = k false ws
row_nests (join φ) (for_again ∷ ws) k = false
row_nests (loop n a b φ) ws k = ltb (length ws) most_branches && k false (for_again ∷ ws)
row_nests again [] k = false
row_nests again (for_else ∷ ws) k = false
row_nests again (for_join ∷ ws) k = false
row_nests again (for_again ∷ ws) k = k false ws
row_nests end [] k = k true []
row_nests end (v ∷ ws) k = false

-- the rows of whole blocks, one after the other; b: whether they begin one
unfoldable pub rows_nest : Bool → List Wait → List Row → Bool
rows_nest b [] [] = b
rows_nest b (v ∷ ws) [] = false
rows_nest b ws (r ∷ rs) = row_nests r.stmt ws (λ b ws. rows_nest b ws rs)

unfoldable pub is_return : Stmt → Bool
is_return (simple p) = false
is_return (return x) = true
is_return (if n a b) = false
is_return else = false
is_return (join φ) = false
is_return (loop n a b φ) = false
is_return again = false
is_return end = false

-- may it stand straight after a `return`?
unfoldable pub may_follow : Stmt → Bool
may_follow (simple p) = false
may_follow (return x) = false
may_follow (if n a b) = false
may_follow else = true
may_follow (join φ) = true
may_follow (loop n a b φ) = false
may_follow again = true
may_follow end = true

-- "A statement between [`return`] and the next `else`, `join` or `end` is number 4." "A `return` may also stand last before `again`". b:
-- whether the row before these is a `return`
unfoldable pub returns_last : Bool → List Row → Bool
returns_last b [] = true
returns_last b (r ∷ rs) = (not b || may_follow r.stmt) && returns_last (is_return r.stmt) rs
