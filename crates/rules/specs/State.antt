-- What the checker knows: a state, ~, showing, dropping, the remainder, removing, adding.
use Rattle.std.specs.Prelude.{Bool, true, false, not, cond, ◌&&◌, ◌||◌, List, [], ◌∷◌, ◌++◌, map, ℕ, eqb, ltb, leb, length}
use Rattle.std.proofs.Math.Option.{Option, none, some}
use Rattle.rules.specs.Base.{Try, ok, ◌>>=◌, ◌>>◌, check, or_else, bind_option, any, keep, first, map_option}
use Rattle.rules.specs.Limits.{most_permissions, most_facts}
use Rattle.rules.specs.Answers.{Refusal, unresolved, no_permission, not_shown, state_full}
use Rattle.rules.specs.Syntax.{Rel, Permit, Expr, Formula, offset, same, eq, ne, num, null, var, path, acc, read, chain, own, cmp, is_path}

abbrev pub Term : Type 0
Term = Expr ℕ

-- an entry of a state's list: the permission to `x.f`, or half of it; or the chain of x by f, which is no path
pub record Permission : Type 0 where
  pub permit : Permit
  pub variable : ℕ
  pub field : ℕ

abbrev pub entry : Permit → ℕ → ℕ → Permission
entry k x f = record { permit = k; variable = x; field = f }

-- an equality or an inequality
pub record Fact : Type 0 where
  pub rel : Rel
  pub left : Term
  pub right : Term

-- "A state is an ordered list of permissions `x.f` and a list of equalities and inequalities over variables, constants and
-- listed paths." W9: "A chain counts as one of the 64 permissions."
pub record State : Type 0 where
  pub permissions : List Permission
  pub facts : List Fact

abbrev pub empty : State
empty = record { permissions = []; facts = [] }

unfoldable pub path_of : Permission → Term
path_of p = path p.variable p.field

-- "Two terms are equal (~) if they are the same or the equalities link them." Each term has a representative; an equality gives
-- all terms with the representative a of its left side the representative b of its right side.
unfoldable pub linked_by : Rel → (Term → Term) → Term → Term → Term → Term
linked_by eq r a b t = cond (same (r t) a) b (r t)
linked_by ne r a b t = r t

unfoldable pub representative : List Fact → Term → Term
representative [] = λ t. t
representative (f ∷ fs) =
    let r : Term → Term = representative fs in
    let a : Term = r f.left in
    let b : Term = r f.right in
    linked_by f.rel r a b

abbrev pub Equality : Type 0
Equality = Term → Term → Bool

unfoldable pub equal_by : (Term → Term) → Equality
equal_by r t u = same (r t) (r u)

unfoldable pub equal_in : State → Equality
equal_in s = equal_by (representative s.facts)

-- do two entries own more halves than one location has? One of them is an `acc`.
unfoldable pub exceed : Permit → Permit → Bool
exceed acc acc = true
exceed acc read = true
exceed acc chain = false
exceed read acc = true
exceed read read = false
exceed read chain = false
exceed chain k = false

-- the numbers among the terms
unfoldable pub numbers : List Term → List ℕ
numbers [] = []
numbers (num n ∷ ts) = n ∷ numbers ts
numbers (null ∷ ts) = numbers ts
numbers (var x ∷ ts) = numbers ts
numbers (path x f ∷ ts) = numbers ts

unfoldable pub terms_of : List Fact → List Term
terms_of [] = []
terms_of (f ∷ fs) = f.left ∷ f.right ∷ terms_of fs

unfoldable pub is_ne : Rel → Bool
is_ne eq = false
is_ne ne = true

module _ (◌~◌ : Equality) where
  infixl 40 ◌~◌
  -- an entry by f of a variable ~ t
  unfoldable pub entry_of : Term → ℕ → Permission → Bool
  entry_of t f p = eqb p.field f && (var p.variable ~ t)

  -- a listed `x.f` with x ~ y
  unfoldable pub names : ℕ → ℕ → Permission → Bool
  names y f p = is_path p.permit && entry_of (var y) f p

  -- "A path `y.f` resolves to the first listed `x.f` with x ~ y; other expressions to themselves."
  unfoldable pub resolve : List Permission → Term → Try Refusal Term
  resolve ps (num n) = ok (num n)
  resolve ps null = ok null
  resolve ps (var x) = ok (var x)
  resolve ps (path y f) = or_else (first (names y f) ps) unresolved >>= λ p. ok (path_of p)

  -- a and b are ~ t and u, either way round
  unfoldable pub links : Term → Term → Term → Term → Bool
  links a b t u = ((a ~ t) && (b ~ u)) || ((a ~ u) && (b ~ t))

  -- "(a) a listed inequality links them, either way round"
  unfoldable pub listed_unequal : List Fact → Term → Term → Bool
  listed_unequal fs t u = any (λ f. is_ne f.rel && links f.left f.right t u) fs

  -- "(b) they are ~ to different numbers"
  unfoldable pub different_numbers : List Fact → Term → Term → Bool
  different_numbers fs t u =
      let ns : List ℕ = numbers (t ∷ u ∷ terms_of fs) in
      any (λ m. (num m ~ t) && any (λ n. not (eqb m n) && (num n ~ u)) ns) ns

  -- "(c) one is ~ null and the other ~ x with some `x.f` listed": t is the one
  unfoldable pub null_and_object : List Permission → Term → Term → Bool
  null_and_object ps t u = (null ~ t) && any (λ p. is_path p.permit && (var p.variable ~ u)) ps

  -- "(d) they are ~ x and ~ y with `x.f` and `y.f` two entries of the list for one f"; W8: "Way (d) .. needs an `acc` among the two"
  unfoldable pub differ : Permission → Permission → Term → Term → Bool
  differ p q t u =
      eqb p.field q.field
      && (exceed p.permit q.permit && links (var p.variable) (var q.variable) t u)

  unfoldable pub two_entries : List Permission → Term → Term → Bool
  two_entries [] t u = false
  two_entries (p ∷ ps) t u = let r : Bool = two_entries ps t u in any (λ q. differ p q t u) ps || r

  -- is this relation of resolved terms shown?
  unfoldable pub holds_in : State → Rel → Term → Term → Bool
  holds_in s eq t u = t ~ u
  holds_in s ne t u =
      listed_unequal s.facts t u
      || (different_numbers s.facts t u
      || (null_and_object s.permissions t u || (null_and_object s.permissions u t || two_entries s.permissions t u)))

-- the first entry that gives way, what comes in its place, and the list with that
pub record Split : Type 0 where
  pub taken : Permission
  pub left : List Permission
  pub list : List Permission

unfoldable pub split : (Permission → Option (List Permission)) → List Permission → Option Split
split t [] = none
split t (p ∷ ps) =
    elim (t p) [
      | some l ↦ some (record { taken = p; left = l; list = l ++ ps })
      | none ↦ bind_option (split t ps) (λ c. some (record { taken = c.taken; left = c.left; list = p ∷ c.list }))
    ]

-- what an atom leaves of the entry that shows it. W8: "`acc` is shown by an unconsumed `acc` alone"; "`read` is shown by the first
-- listed, unconsumed `acc` or `read`; taken from an `acc` it leaves a `read` of that path". W9: a chain "by an unconsumed chain"
unfoldable pub leaves : Permit → Permit → Option (List Permit)
leaves acc acc = some []
leaves acc read = none
leaves acc chain = none
leaves read acc = some (read ∷ [])
leaves read read = some []
leaves read chain = none
leaves chain acc = none
leaves chain read = none
leaves chain chain = some []

-- the same path with another permit
unfoldable pub with_permit : Permission → Permit → Permission
with_permit p k = entry k p.variable p.field

-- what the atom k by f of t leaves of an entry, if that shows the atom
unfoldable pub giving : Equality → Permit → Term → ℕ → Permission → Option (List Permission)
giving ◌~◌ k t f p =
    cond (entry_of ◌~◌ t f p) (bind_option (leaves k p.permit) (λ ks. some (map (with_permit p) ks))) none

-- the entries that are left. W9: a chain is shown "else by x ~ null", which takes none
unfoldable pub shown_by : Bool → List Permission → Option Split → Try Refusal (List Permission)
shown_by at_null kept (some c) = ok c.list
shown_by at_null kept none = check at_null no_permission >> ok kept

-- "`acc y f` by the first listed, not yet consumed `x.f` with x ~ y, which it consumes", and so `read`; W9: "The checker shows it by an
-- unconsumed chain, by the same f, of an equal variable, else by x ~ null." kept: the entries not yet consumed
unfoldable pub take_own : Equality → Permit → Term → ℕ → List Permission → Try Refusal (List Permission)
take_own ◌~◌ k t f kept = shown_by (not (is_path k) && ◌~◌ null t) kept (split (giving ◌~◌ k t f) kept)

-- "`eq` if both sides resolve and are ~; `ne` if both resolve and (a) .. (d)"; "Atoms go in order; `eq` and `ne` read the whole state."
unfoldable pub show_from : Equality → State → Formula ℕ → List Permission → Try Refusal (List Permission)
show_from ◌~◌ s [] kept = ok kept
show_from ◌~◌ s (own k y f ∷ φ) kept = take_own ◌~◌ k (var y) f kept >>= λ kept. show_from ◌~◌ s φ kept
show_from ◌~◌ s (cmp n a b ∷ φ) kept = do
  t ← resolve ◌~◌ s.permissions a
  u ← resolve ◌~◌ s.permissions b
  check (holds_in ◌~◌ s n t u) not_shown
  show_from ◌~◌ s φ kept

-- what is left of the state's entries
unfoldable pub show : State → Formula ℕ → Try Refusal (List Permission)
show s φ = show_from (equal_in s) s φ s.permissions

-- DROPPING
-- W3: "When paths or a variable are dropped, two terms that are left shall be ~ exactly if they were ~ before." (The laws are in
-- `proofs/Dropping`.) What is dropped is told by a function on terms: a term that is left to itself, a renamed one to its new name, a dropped one to none.
abbrev pub Renaming : Type 0
Renaming = Term → Option Term

-- "(order: `this`, w, locals, `result`)"
abbrev pub variables : List ℕ
variables = 0 ∷ 1 ∷ 2 ∷ 3 ∷ 4 ∷ 5 ∷ 6 ∷ 7 ∷ 8 ∷ 9 ∷ 10 ∷ 11 ∷ 12 ∷ 13 ∷ 14 ∷ []

-- into numbers that rise, as signed numbers
unfoldable pub insert : ℕ → List ℕ → List ℕ
insert n [] = n ∷ []
insert n (m ∷ ms) = let r : List ℕ = m ∷ insert n ms in cond (leb (offset n) (offset m)) (n ∷ m ∷ ms) r

-- "numbers rising"
unfoldable pub rising : List ℕ → List ℕ
rising [] = []
rising (n ∷ ns) = insert n (rising ns)

-- the entries that are listed paths: chains are not
unfoldable pub paths : List Permission → List Permission
paths ps = keep (λ p. is_path p.permit) ps

-- "The order is variables as in document 01, listed paths, null, numbers rising." ps: the permissions that are left
unfoldable pub in_order : List Permission → List Fact → List Term
in_order ps fs = map var variables ++ (map path_of (paths ps) ++ (null ∷ map num (rising (numbers (terms_of fs)))))

-- is the term left, as it is?
unfoldable pub is_left : Renaming → Term → Bool
is_left ρ t = elim (ρ t) [ none ↦ false | some u ↦ same u t ]

-- "the first term left that was ~ to it"
unfoldable pub successor : Equality → Renaming → List Permission → List Fact → Term → Option Term
successor ◌~◌ ρ ps fs t = first (λ u. is_left ρ u && ◌~◌ u t) (in_order ps fs)

-- "For this each dropped term gives way, in every fact, to" its successor. A renamed one is not dropped.
unfoldable pub gives_way : Equality → Renaming → List Permission → List Fact → Renaming
gives_way ◌~◌ ρ ps fs t = elim (ρ t) [ none ↦ successor ◌~◌ ρ ps fs t | some u ↦ some u ]

-- what becomes of the terms of a state
unfoldable pub becomes : State → Renaming → List Permission → Renaming
becomes s ρ ps = gives_way (equal_in s) ρ ps s.facts

-- "A fact with a dropped term that has no such successor goes."
unfoldable pub rename_fact : Renaming → Fact → Option Fact
rename_fact ρ f =
    bind_option (ρ f.left) λ a.
    bind_option (ρ f.right) λ b.
    some (record { rel = f.rel; left = a; right = b })

-- has it one term on both sides?
unfoldable pub trivial : Fact → Bool
trivial f = not (is_ne f.rel) && same f.left f.right

-- "An equality that now has one term on both sides goes too; all other facts keep their order."
unfoldable pub rename_facts : Renaming → List Fact → List Fact
rename_facts ρ fs = keep (λ f. not (trivial f)) (map_option (rename_fact ρ) fs)

-- is t the path of an entry, by its very name?
unfoldable pub lists : List Permission → Term → Bool
lists ps t = any (λ p. same (path_of p) t) (paths ps)

unfoldable pub without_paths : List Permission → Renaming
without_paths gone t = cond (lists gone t) none (some t)

-- the paths of the entries `gone` dropped, with ps the permissions that are left. Where nothing is dropped all facts stay.
unfoldable pub facts_without : List Permission → List Permission → State → List Fact
facts_without [] ps s = s.facts
facts_without (p ∷ gone) ps s = rename_facts (becomes s (without_paths (p ∷ gone)) ps) s.facts

unfoldable pub drop_paths : List Permission → List Permission → State → State
drop_paths gone ps s = record { permissions = ps; facts = facts_without gone ps s }

-- the paths of us whose name ps does not list: "but, `set` apart, a name still listed is not dropped"
unfoldable pub unlisted : List Permission → List Permission → List Permission
unlisted ps us = keep (λ p. not (lists ps (path_of p))) (paths us)

-- "The remainder is the state without consumed paths and without facts that name them": with W3 these paths are dropped. kept: what is
-- left of the entries. W8: what is left of an `acc` is "a `read` of that path with its facts".
unfoldable pub remainder : State → List Permission → State
remainder s kept = drop_paths (unlisted kept s.permissions) kept s

-- REMOVING
-- x renamed to the variable `to`, or nothing where that is none
unfoldable pub rename_variable : ℕ → Option ℕ → ℕ → Option ℕ
rename_variable x to v = cond (eqb v x) to (some v)

unfoldable pub rename_term : ℕ → Option ℕ → Renaming
rename_term x to (num n) = some (num n)
rename_term x to null = some null
rename_term x to (var v) = bind_option (rename_variable x to v) (λ w. some (var w))
rename_term x to (path v f) = bind_option (rename_variable x to v) (λ w. some (path w f))

unfoldable pub rename_permission : ℕ → Option ℕ → Permission → Option Permission
rename_permission x to p =
    bind_option (rename_variable x to p.variable) (λ w. some (entry p.permit w p.field))

unfoldable pub rename_permissions : ℕ → Option ℕ → List Permission → List Permission
rename_permissions x to ps = map_option (rename_permission x to) ps

-- "if another variable is ~ x, the first such"
unfoldable pub stand_in : State → ℕ → Option ℕ
stand_in s x = first (λ v. not (eqb v x) && equal_in s (var v) (var x)) variables

-- What becomes of a term when x is removed. Where a variable takes its place, x and its paths are renamed, and nothing gives way. "A path
-- renamed onto a listed one counts as ~ to it before": both have one name then.
unfoldable pub removed_term : ℕ → Option ℕ → State → Renaming
removed_term x to s = becomes s (rename_term x to) (rename_permissions x to s.permissions)

-- "Removing x: .. takes its place everywhere; otherwise all that names x goes": with W3, x and its paths are dropped.
unfoldable pub remove_to : ℕ → Option ℕ → State → State
remove_to x to s =
    record { permissions = rename_permissions x to s.permissions; facts = rename_facts (removed_term x to s) s.facts }

unfoldable pub remove : ℕ → State → State
remove x s = remove_to x (stand_in s x) s

-- "A checker's state has at most 64 permissions": one more is number 14
unfoldable pub add_permission : Permission → State → Try Refusal State
add_permission p s =
    check (ltb (length s.permissions) most_permissions) state_full
    >> ok (record { permissions = s.permissions ++ (p ∷ []); facts = s.facts })

-- "and 64 facts": one more is number 14
unfoldable pub add_fact : Rel → Term → Term → State → Try Refusal State
add_fact n t u s =
    check (ltb (length s.facts) most_facts) state_full
    >> ok (record { permissions = s.permissions; facts = s.facts ++ (record { rel = n; left = t; right = u } ∷ []) })

-- W8: "A `read` added .. where a `read` of an equal path is listed turns the first such into `acc`."
unfoldable pub joining : Permit → Permission → Option (List Permission)
joining acc p = none
joining read p = some (with_permit p acc ∷ [])
joining chain p = none

unfoldable pub joins : Equality → ℕ → ℕ → Permission → Option (List Permission)
joins ◌~◌ x f p = cond (entry_of ◌~◌ (var x) f p) (joining p.permit p) none

unfoldable pub add_read : ℕ → ℕ → State → Option Split → Try Refusal State
add_read x f s none = add_permission (entry read x f) s
add_read x f s (some c) = ok (record { permissions = c.list; facts = s.facts })

unfoldable pub add_own : Permit → ℕ → ℕ → State → Try Refusal State
add_own acc x f s = add_permission (entry acc x f) s
add_own chain x f s = add_permission (entry chain x f) s
add_own read x f s = add_read x f s (split (joins (equal_in s) x f) s.permissions)

-- "Adding a formula lists its permissions and its resolved facts, in order."
unfoldable pub add : Formula ℕ → State → Try Refusal State
add [] s = ok s
add (own k x f ∷ φ) s = add_own k x f s >>= λ s. add φ s
add (cmp n a b ∷ φ) s = do
  t ← resolve (equal_in s) s.permissions a
  u ← resolve (equal_in s) s.permissions b
  s' ← add_fact n t u s
  add φ s'

-- Everything above computes where this unfolds.
unfoldable pub opened : Unit {0}
unfolding path_of linked_by representative equal_by equal_in exceed numbers terms_of is_ne entry_of names resolve links listed_unequal
    different_numbers null_and_object differ two_entries holds_in split leaves with_permit giving shown_by take_own show_from show paths insert
    rising in_order is_left successor gives_way becomes rename_fact trivial rename_facts lists without_paths facts_without drop_paths unlisted
    remainder rename_variable rename_term rename_permission rename_permissions stand_in removed_term remove_to remove add_permission add_fact
    joining joins add_read add_own add
opened = tt
