-- What a formula takes, as shares of cells and as chains of them: comparisons, shares taken, who holds them then.
use Rattle.std.specs.Prelude.{Bool, true, false, cond, not, ◌&&◌, ◌||◌, List, [], ◌∷◌, ◌++◌, map, ◌≡◌, ℕ, zero, suc, ◌+◌, ◌*◌, ◌/◌, ◌%◌, ◌≤◌, ◌<◌, T, eqb, leb, length, take, get_or, Result, Ok, Err}
use Rattle.rules.specs.Limits.{most_atoms, heap_fields}
use Rattle.rules.specs.Base.{Try, ok, no, ◌>>=◌, ◌>>◌, check, any}
use Rattle.rules.specs.Answers.{Stop, permission_missing, formula_false}
use Rattle.rules.specs.Syntax.{Permit, Formula, acc, read, chain, own, cmp}
use Rattle.rules.specs.Machine.{compared}
use Rattle.tables.specs.Numbers.{chain_atom, word_values}
use Rattle.tables.specs.Layout.{most_names}
use Rattle.tables.specs.Decode.{byte_at, left_at, right_at, rel_of, atom_place}
use Rattle.run_heap.specs.declared.View.{View}
use Rattle.run_heap.specs.declared.Fault.{Fault}
use Rattle.run_heap.specs.Views.{whole, variable_at, cell_value, cell_of, read_in, found, halves_at, handed, stop_of}
use Rattle.run_heap.specs.Chains.{walk_in, at_cell, cells_by}

-- a comparison whose left side is known
unfoldable pub right_test : List ℕ → View → ℕ → ℕ → Try Stop Bool
right_test w v a l = read_in w v (right_at w a) >>= λ r. ok (compared (rel_of (byte_at w (atom_place a))) l r)

-- is the comparison of the atom a true?
unfoldable pub test_in : List ℕ → View → ℕ → Try Stop Bool
test_in w v a = read_in w v (left_at w a) >>= right_test w v a

-- SHARES

-- a share is one number: a cell times this, and how many halves of it
abbrev pub share_size : ℕ
share_size = 4

abbrev pub share_of : ℕ → ℕ → ℕ
share_of k n = k * share_size + n

abbrev pub cell_in : ℕ → ℕ
cell_in s = s / share_size

abbrev pub halves_in : ℕ → ℕ
halves_in s = s % share_size

-- how many halves of the cell k a share of a cell is
unfoldable pub part_of : ℕ → ℕ → ℕ
part_of k s = cond (eqb (cell_in s) k) (halves_in s) 0

-- how many of it are taken by shares of cells
unfoldable pub taken : ℕ → List ℕ → ℕ
taken k [] = 0
taken k (s ∷ ss) = part_of k s + taken k ss

-- A CHAIN is a share too: for the halves it has the kind of its atom, for the cell the object and the field from and by which it goes

abbrev pub chain_of : ℕ → ℕ → ℕ
chain_of o f = share_of (o * most_names + f) chain_atom

unfoldable pub is_chain : ℕ → Bool
is_chain s = eqb (halves_in s) chain_atom

abbrev pub start_in : ℕ → ℕ
start_in s = cell_in s / most_names % word_values

abbrev pub field_in : ℕ → ℕ
field_in s = cell_in s % most_names

-- of n objects: its cells
abbrev pub cells_in : List ℕ → ℕ → ℕ → List ℕ
cells_in w n s = cells_by w n (field_in s) n (start_in s)

-- what it stands for: each cell whole
unfoldable pub spread_one : List ℕ → ℕ → ℕ → List ℕ
spread_one w n s = cond (is_chain s) (map (λ k. share_of k whole) (cells_in w n s)) (s ∷ [])

unfoldable pub spread : List ℕ → ℕ → List ℕ → List ℕ
spread w n [] = []
spread w n (s ∷ ss) = spread_one w n s ++ spread w n ss

-- TAKING

-- of n objects: how many halves of the cell k, which is of a field f, a chain takes
unfoldable pub chain_part : List ℕ → ℕ → ℕ → ℕ → ℕ → ℕ
chain_part w n f k s = cond (eqb (field_in s) f && any (eqb k) (cells_in w n s)) whole 0

-- and a share
unfoldable pub part_by : List ℕ → ℕ → ℕ → ℕ → ℕ → ℕ
part_by w n f k s = cond (is_chain s) (chain_part w n f k s) (part_of k s)

unfoldable pub taken_by : List ℕ → ℕ → ℕ → ℕ → List ℕ → ℕ
taken_by w n f k [] = 0
taken_by w n f k (s ∷ ss) = part_by w n f k s + taken_by w n f k ss

-- m halves of the cell k of a field f more, if the view's number holds them beside those taken: "a location not in A or already taken" is 24
unfoldable pub new_share : List ℕ → View → ℕ → ℕ → List ℕ → ℕ → Try Stop (List ℕ)
new_share w v f m ss k =
    check (leb (m + taken_by w v.objects f k ss) (halves_at w v.holder k)) permission_missing >> ok (ss ++ (share_of k m ∷ []))

unfoldable pub share_in : List ℕ → View → ℕ → ℕ → ℕ → List ℕ → Try Stop (List ℕ)
share_in w v m x f ss = found w v x f >>= new_share w v f m ss

-- is a share of the cell k?
unfoldable pub share_at : ℕ → ℕ → Bool
share_at k s = not (is_chain s) && eqb (cell_in s) k

-- nothing of the cell k is taken by shares of cells
unfoldable pub free_of : List ℕ → ℕ → Bool
free_of ss k = not (any (share_at k) ss)

-- is this where a walk ends?
unfoldable pub end_matches : ℕ → Try Stop ℕ → Bool
end_matches last (ok l) = eqb l last
end_matches last (no s) = false

-- is a share a chain by f whose last object is this?
unfoldable pub ends_by : List ℕ → View → ℕ → ℕ → ℕ → Bool
ends_by w v f last s =
    (is_chain s && eqb (field_in s) f) && end_matches last (walk_in w v (λ _. true) f (suc v.objects) (start_in s) 0)

-- The chain s, whose walk came to null from this object. Two walks to null share their last object or nothing: "24 at one .. taken by
-- an earlier atom".
unfoldable pub new_chain : List ℕ → View → List ℕ → ℕ → ℕ → Try Stop (List ℕ)
new_chain w v ss s last = check (not (any (ends_by w v (field_in s) last) ss)) permission_missing >> ok (ss ++ (s ∷ []))

-- by f from the object o; that of null takes nothing
unfoldable pub chain_in : List ℕ → View → ℕ → ℕ → List ℕ → Try Stop (List ℕ)
chain_in w v f o ss =
    let r : Try Stop (List ℕ) = walk_in w v (free_of ss) f (suc v.objects) o 0 >>= new_chain w v ss (chain_of o f) in
    cond (eqb o 0) (ok ss) r

-- W8: "`acc` is both" halves, `read` one
unfoldable pub own_in : List ℕ → View → Permit → ℕ → ℕ → List ℕ → Try Stop (List ℕ)
own_in w v acc x f ss = share_in w v whole x f ss
own_in w v read x f ss = share_in w v 1 x f ss
own_in w v chain x f ss = chain_in w v f (variable_at w v.base x) ss

-- what a formula takes, as shares, the first first
unfoldable pub take_in : List ℕ → View → Formula ℕ → List ℕ → Try Stop (List ℕ)
take_in w v [] ss = ok ss
take_in w v (own k x f ∷ φ) ss = own_in w v k x f ss >>= take_in w v φ
take_in w v (cmp n a b ∷ φ) ss = do
  l ← read_in w v a
  r ← read_in w v b
  check (compared n l r) formula_false
  take_in w v φ ss

-- each of these shares of cells goes from one number to another
unfoldable pub marked : List ℕ → List ℕ → ℕ → ℕ → List ℕ
marked w [] from to = w
marked w (s ∷ ss) from to = marked (handed w (cell_in s) (halves_in s) from to) ss from to

-- of n objects: the cells by f from the object o, at most m, go from one number to another
unfoldable pub chain_marked : List ℕ → ℕ → ℕ → ℕ → ℕ → ℕ → ℕ → List ℕ
chain_marked w n f zero o from to = w
chain_marked w n f (suc m) o from to =
    at_cell w (cell_of w n o f) (λ k. chain_marked (handed w k whole from to) n f m (cell_value w k) from to)

-- ANSWERS

-- how many shares a formula took
unfoldable pub count_of : Result ℕ Fault → ℕ
count_of (Ok n) = n
count_of (Err s) = 0

-- so many of these shares
unfoldable pub took_is : Result ℕ Fault → List ℕ → Try Stop (List ℕ)
took_is (Ok n) ss = ok (take n ss)
took_is (Err s) ss = no (stop_of s)

-- how many shares a footprint can have: each atom of a formula takes one at most
abbrev pub footprint_shares : ℕ
footprint_shares = most_atoms

-- what a formula took is in the first of these shares, at most n
pub record TookUpTo (r : Result ℕ Fault) (ss : List ℕ) (n : ℕ) (t : Try Stop (List ℕ)) : Type 0 where
  pub took : took_is r ss ≡ t
  pub count : count_of r ≤ n
  pub size : length ss ≡ footprint_shares

-- the bytes that say which remainders the cells of the shares taken have
abbrev pub sieve_bytes : ℕ
sieve_bytes = 64

-- may a share take something of the cell k?
unfoldable pub touches : ℕ → ℕ → Bool
touches k s = is_chain s || eqb (cell_in s) k

-- where the byte for a cell's remainder is 0, no share takes of the cell
pub record Sieve (ss seen : List ℕ) : Type 0 where
  pub size : length seen ≡ sieve_bytes
  pub clear : (k : ℕ) → get_or seen (k % sieve_bytes) 0 ≡ 0 → any (touches k) ss ≡ false

-- every byte is set
abbrev pub AllSeen : List ℕ → Type 0
AllSeen seen = (length seen ≡ sieve_bytes) × ((i : ℕ) → i < sieve_bytes → get_or seen i 0 ≡ 1)

-- n shares are taken, and there is room for one more
abbrev pub RoomAfter : List ℕ → List ℕ → ℕ → Type 0
RoomAfter ss seen n = ((n < footprint_shares) × (length ss ≡ footprint_shares)) × Sieve (take n ss) seen

-- after n shares at most one more was taken, and the bytes go on saying which remainders they have
abbrev pub TookOne : Result ℕ Fault → List ℕ → List ℕ → ℕ → Try Stop (List ℕ) → Type 0
TookOne r ss seen n t = TookUpTo r ss (n + 1) t × Sieve (take (count_of r) ss) seen

-- a share of a cell of the heap, of at least one half
abbrev pub ShareFits : ℕ → Type 0
ShareFits s = (cell_in s < heap_fields) × (1 ≤ halves_in s)

abbrev pub SharesFit : List ℕ → Type 0
SharesFit ss = (s : ℕ) → T (any (eqb s) ss) → ShareFits s
