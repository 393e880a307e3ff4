-- The accesses of a formula that its atoms before a place name.
use Rattle.std.specs.Prelude.{Bool, cond, ◌&&◌, List, [], ◌∷◌, ℕ, zero, suc, ◌+◌, eqb}
use Rattle.rules.specs.Syntax.{is_path}
use Rattle.rules.specs.Reading.{Access, framed_expr}
use Rattle.tables.specs.Decode.{atom_kind_at, is_permission, permit_of, acc_variable_at, acc_field_at, left_at, right_at}

-- the variable and the field of the atom i, an `acc` or a `read`
abbrev pub access_at : List ℕ → ℕ → Access
access_at w i = record { variable = acc_variable_at w i; field = acc_field_at w i }

-- a chain is none
abbrev pub is_access : List ℕ → ℕ → Bool
is_access w i = is_permission (atom_kind_at w i) && is_path (permit_of (atom_kind_at w i))

-- is it `x.f`?
abbrev pub is_of : ℕ → ℕ → Access → Bool
is_of x f a = eqb a.variable x && eqb a.field f

-- those of n atoms from atom i on, the last of them first
unfoldable pub accesses : List ℕ → ℕ → ℕ → List Access
accesses w i zero = []
accesses w i (suc n) = let r : List Access = accesses w i n in cond (is_access w (i + n)) (access_at w (i + n) ∷ r) r

-- both sides of the atom a, after these
abbrev pub sides_framed : List ℕ → List Access → ℕ → Bool
sides_framed w rs a = framed_expr rs (left_at w a) && framed_expr rs (right_at w a)
