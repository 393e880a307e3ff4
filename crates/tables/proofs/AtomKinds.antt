-- A byte of an atom means what its kind does.
use mathlib.Core.Path.{◌≡◌}
use Prim.Native.Nat.{ℕ, ◌≤◌}
use native.Mathlib.Omega.{arith}
use Rattle.tables.specs.Numbers.{read_atom, ne_atom}
use Rattle.tables.specs.Decode.{is_permission, permit_of, rel_of}
use Rattle.tables.specs.Kinds.{kind_of, kind_number}

pub permission-kind : (b : ℕ) → is_permission (kind_number (kind_of b)) ≡ is_permission b
unfolding kind_of is_permission
permission-kind b = grind arith

pub permit-kind : (b : ℕ) → permit_of (kind_number (kind_of b)) ≡ permit_of b
unfolding kind_of permit_of
permit-kind b = grind arith

pub rel-kind : (b : ℕ) → rel_of (kind_number (kind_of b)) ≡ rel_of b
unfolding kind_of rel_of
rel-kind b = grind arith

-- a byte that is a kind's number is that of the kind read from it
pub kind-same : (b : ℕ) → read_atom ≤ b → b ≤ ne_atom → kind_number (kind_of b) ≡ b
unfolding kind_of
kind-same b l h = grind arith
