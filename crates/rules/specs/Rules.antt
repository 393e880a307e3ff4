-- The checker's rules: each statement, branches, loops, methods and main.
use Rattle.std.specs.Prelude.{cond, List, [], ◌∷◌, map, ℕ, eqb, get_or, drop}
use Rattle.std.proofs.Math.Option.{Option, none, some}
use Rattle.rules.specs.Base.{Try, ok, ◌>>=◌, ◌>>◌, check, or_else, first}
use Rattle.rules.specs.Answers.{Refusal, Verdict, accepted, refused, at_line, then, malformed, text_ends, no_permission, not_shown}
use Rattle.rules.specs.Syntax.{Rel, Atom, Formula, Simple, Stmt, Row, Field, Method, Program, method_numbered, same, this_variable, parameter, result_variable}
use Rattle.rules.specs.Syntax.{eq, ne, num, null, var, path, acc, chain, own, cmp, set, assign, compute, new, call, return, assert, release, open_chain, shut_chain, simple, if, else, join, loop, again, end}
use Rattle.rules.specs.State.{Term, State, empty, entry, path_of, equal_in, names, giving, resolve, holds_in, split, take_own, show, drop_paths, remainder, stand_in, removed_term, remove_to, remove, add_permission, add_fact, add}

-- y, z and x for `this`, w and `result`
unfoldable pub actual : ℕ → ℕ → ℕ → ℕ → ℕ
actual y z x v = cond (eqb v this_variable) y (cond (eqb v parameter) z (cond (eqb v result_variable) x v))

unfoldable pub subst_term : (ℕ → ℕ) → Term → Term
subst_term σ (num n) = num n
subst_term σ null = null
subst_term σ (var v) = var (σ v)
subst_term σ (path v f) = path (σ v) f

unfoldable pub subst_atom : (ℕ → ℕ) → Atom ℕ → Atom ℕ
subst_atom σ (own k v f) = own k (σ v) f
subst_atom σ (cmp n a b) = cmp n (subst_term σ a) (subst_term σ b)

-- "if r is left, add x = r"
unfoldable pub add_equal : ℕ → Option Term → State → Try Refusal State
add_equal x none s = ok s
add_equal x (some r) s = add_fact eq (var x) r s

-- "`let x e`: e resolves to r. If r is x, no change. Otherwise remove x, with r renamed likewise; if r is left, add x = r." With W3,
-- "`let` takes the successor for its r".
unfoldable pub assign_rule : ℕ → Term → State → Try Refusal State
assign_rule x e s = do
  r ← resolve (equal_in s) s.permissions e
  let to : Option ℕ = stand_in s x in
      cond (same r (var x)) (ok s) (add_equal x (removed_term x to s r) (remove_to x to s))

-- "add its permissions"
unfoldable pub add_fields : ℕ → List Field → State → Try Refusal State
add_fields x [] s = ok s
add_fields x (f ∷ fs) s = add_permission (entry acc x f.name) s >>= λ s. add_fields x fs s

-- "null, or 0 for int"
unfoldable pub initial : Field → Term
initial f = cond f.int (num 0) null

-- "each field = null, or 0 for int"
unfoldable pub add_initial : ℕ → List Field → State → Try Refusal State
add_initial x [] s = ok s
add_initial x (f ∷ fs) s = add_fact eq (path x f.name) (initial f) s >>= λ s. add_initial x fs s

-- "`new`: remove x; add its permissions, x ≠ null, and each field = null, or 0 for int"
unfoldable pub new_rule : ℕ → List Field → State → Try Refusal State
new_rule x fs s = add_fields x fs (remove x s) >>= λ s. add_fact ne (var x) null s >>= λ s. add_initial x fs s

-- "`set`: `acc x f` shown by a path p; drop facts that name p; add p = y." With W3, "the old value of the path counts as dropped".
unfoldable pub set_rule : ℕ → ℕ → ℕ → State → Try Refusal State
set_rule x f y s = do
  c ← or_else (split (giving (equal_in s) acc (var x) f) s.permissions) no_permission
  add_fact eq (path_of c.taken) (var y) (drop_paths (c.taken ∷ []) s.permissions s)

-- "`call`: show y ≠ null, then requires with y, z for `this`, w. Take the remainder, remove x, add ensures with x for `result`."
unfoldable pub call_rule : ℕ → ℕ → Method → ℕ → State → Try Refusal State
call_rule x y M z s = do
  check (holds_in (equal_in s) s ne (var y) null) not_shown
  r ← show s (map (subst_atom (actual y z x)) M.requires)
  add (map (subst_atom (actual y z x)) M.ensures) (remove x (remainder s r))

-- W9: "`open y x f` takes x ≠ null and `chain x f`; y becomes `x.f`, and the state gets `x.f`, `x.f` = y and the chain of y."
unfoldable pub open_rule : ℕ → ℕ → ℕ → State → Try Refusal State
open_rule y x f s = do
  check (holds_in (equal_in s) s ne (var x) null) not_shown
  r ← take_own (equal_in s) chain (var x) f s.permissions
  s₁ ← add_permission (entry acc x f) (remove y (remainder s r))
  s₂ ← add_fact eq (path x f) (var y) s₁
  add_permission (entry chain y f) s₂

-- W9: "`shut x f` takes a chain of the value of `x.f`, shown by a chain, by the same f, of a variable ~ to `x.f` or else by `x.f` ~
-- null, then the whole permission to `x.f`, and gives the chain of x." "What these lines fail to show is 12, an unlisted `x.f` too"
unfoldable pub shut_rule : ℕ → ℕ → State → Try Refusal State
shut_rule x f s = do
  p ← or_else (first (names (equal_in s) x f) s.permissions) no_permission
  r ← take_own (equal_in s) chain (path_of p) f s.permissions
  r' ← take_own (equal_in s) acc (var x) f r
  add_permission (entry chain x f) (remainder s r')

unfoldable pub opposite : Rel → Rel
opposite eq = ne
opposite ne = eq

-- "`if`: both sides resolve; the first branch has the condition added, the second its opposite."
unfoldable pub if_rule : Rel → Term → Term → State → Try Refusal (State × State)
if_rule n a b s = do
  t ← resolve (equal_in s) s.permissions a
  u ← resolve (equal_in s) s.permissions b
  s₁ ← add_fact n t u s
  s₂ ← add_fact (opposite n) t u s
  ok (s₁, s₂)

-- "`return x` does this for `result`"; with W2, "The checker shows ensures at that line", and "Return ends the method"
unfoldable pub return_rule : ℕ → Formula ℕ → State → Try Refusal (Unit {0})
return_rule x φ s = assign_rule result_variable (var x) s >>= λ s'. show s' φ >>= λ r. ok tt

-- What is known after a line: a state, or none straight after a `return`. "A branch whose last line is a `return` has no end to show
-- at `join`; an `end` straight after a `return` shows nothing."
abbrev pub End : Type 0
End = Option State

unfoldable pub show_end : Formula ℕ → End → Try Refusal (Unit {0})
show_end φ none = ok tt
show_end φ (some s) = show s φ >>= λ r. ok tt

-- "At `join` the first end, then the second, shows the formula; the state after is that formula alone."
unfoldable pub join_rule : Formula ℕ → End → End → Try Refusal State
join_rule φ e₁ e₂ = show_end φ e₁ >>= λ u. show_end φ e₂ >>= λ u. add φ empty

-- "At `loop` the state shows the invariant. The body starts from the invariant and the condition alone"; "The state afterwards is the
-- invariant and the opposite alone." These two states are the result.
unfoldable pub loop_rule : Rel → Term → Term → Formula ℕ → State → Try Refusal (State × State)
loop_rule n a b φ s = show s φ >>= λ r. add φ empty >>= λ s₀. if_rule n a b s₀

-- a branch that is open: in its first part, with the state in which the second starts; in its second, with the first's end; or a loop
-- that is open, with its invariant and the state afterwards
pub data Open : Type 0 where
  in_first : State → Open
  in_second : End → Open
  in_loop : Formula ℕ → State → Open

-- what follows a line of a block
abbrev pub Following : Type 0
Following = End → List Open → Verdict (Unit {0})

-- Lines out of place do not come from the reader; they are refused. After a `return` only `else`, `join`, `again` and `end` are in place.
unfoldable pub reached : ℕ → End → (State → Verdict (Unit {0})) → Verdict (Unit {0})
reached l none k = refused malformed l
reached l (some s) k = k s

unfoldable pub else_row : ℕ → Following → End → List Open → Verdict (Unit {0})
else_row l k e [] = refused malformed l
else_row l k e (in_first s₂ ∷ os) = k (some s₂) (in_second e ∷ os)
else_row l k e (in_second e₁ ∷ os) = refused malformed l
else_row l k e (in_loop φ s ∷ os) = refused malformed l

unfoldable pub join_row : ℕ → Formula ℕ → Following → End → List Open → Verdict (Unit {0})
join_row l φ k e [] = refused malformed l
join_row l φ k e (in_first s₂ ∷ os) = refused malformed l
join_row l φ k e (in_second e₁ ∷ os) = at_line l (join_rule φ e₁ e) λ s'. k (some s') os
join_row l φ k e (in_loop ψ s ∷ os) = refused malformed l

-- "its end shows the invariant at `again`"; "A `return` may also stand last before `again`, which then shows nothing."
unfoldable pub again_row : ℕ → Following → End → List Open → Verdict (Unit {0})
again_row l k e [] = refused malformed l
again_row l k e (in_first s₂ ∷ os) = refused malformed l
again_row l k e (in_second e₁ ∷ os) = refused malformed l
again_row l k e (in_loop φ s ∷ os) = at_line l (show_end φ e) λ u. k (some s) os

-- "its `end` must show ensures"; "an `end` straight after a `return` shows nothing"
unfoldable pub end_row : ℕ → Formula ℕ → End → List Open → Verdict (Unit {0})
end_row l φ e [] = at_line l (show_end φ e) λ u. accepted tt
end_row l φ e (o ∷ os) = refused malformed l

module _ (P : Program) where
  -- "`assert` shows its formula, no more. `release` leaves the remainder." Of `add` and `sub`: "The checker removes x and keeps no fact
  -- of the new value."
  unfoldable pub rule : Simple → State → Try Refusal State
  rule (set x f y) s = set_rule x f y s
  rule (assign x e) s = assign_rule x e s
  rule (compute o x y z) s = ok (remove x s)
  rule (new x c) s = new_rule x (get_or P.classes c []) s
  rule (call x y m z) s = call_rule x y (method_numbered P m) z s
  rule (assert φ) s = show s φ >>= λ r. ok s
  rule (release φ) s = show s φ >>= λ r. ok (remainder s r)
  rule (open_chain y x f) s = open_rule y x f s
  rule (shut_chain x f) s = shut_rule x f s

  -- one line of a block with the ensures φ, and then k; os: the branches and loops that are open, innermost first
  unfoldable pub check_row : Stmt → ℕ → Formula ℕ → Following → End → List Open → Verdict (Unit {0})
  check_row (simple p) l φ k e os = reached l e λ s. at_line l (rule p s) λ s'. k (some s') os
  check_row (return x) l φ k e os = reached l e λ s. at_line l (return_rule x φ s) λ u. k none os
  check_row (if n a b) l φ k e os = reached l e λ s. at_line l (if_rule n a b s) λ c. k (some c.0) (in_first c.1 ∷ os)
  check_row else l φ k e os = else_row l k e os
  check_row (join ψ) l φ k e os = join_row l ψ k e os
  check_row (loop n a b ψ) l φ k e os =
      reached l e λ s. at_line l (loop_rule n a b ψ s) λ c. k (some c.0) (in_loop ψ c.1 ∷ os)
  check_row again l φ k e os = again_row l k e os
  check_row end l φ k e os = end_row l φ e os

  unfoldable pub check_rows : Formula ℕ → List Row → End → List Open → Verdict (Unit {0})
  check_rows φ [] e os = refused text_ends 0
  check_rows φ (r ∷ rs) e os = check_row r.stmt r.line φ (λ e os. check_rows φ rs e os) e os

  -- from row i on
  unfoldable pub check_from : Formula ℕ → ℕ → End → List Open → Verdict (Unit {0})
  check_from φ i e os = check_rows φ (drop i P.rows) e os

  -- "A method starts with its requires": after number 10, and with 8 atoms at most, adding it to nothing is never refused
  unfoldable pub check_method : Method → Verdict (Unit {0})
  check_method M = at_line 0 (add M.requires empty) (λ s. check_from M.ensures M.first (some s) [])

  -- "Main starts empty."
  unfoldable pub check_blocks : List Method → Verdict (Unit {0})
  check_blocks [] = check_from [] P.main (some empty) []
  check_blocks (M ∷ Ms) = then (check_method M) λ u. check_blocks Ms

  unfoldable pub check_program : Verdict (Unit {0})
  check_program = check_blocks P.methods

-- Everything above computes where this unfolds.
unfoldable pub opened : Unit {0}
unfolding actual subst_term subst_atom add_equal assign_rule add_fields initial add_initial new_rule set_rule call_rule open_rule shut_rule opposite if_rule return_rule show_end join_rule loop_rule reached else_row join_row again_row end_row rule check_row check_rows check_from check_method check_blocks check_program
opened = tt
