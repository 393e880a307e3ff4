-- The requires of one method written anew in the tables: its atoms stand in rows after those of all other formulas.
use Rattle.std.specs.Prelude.{◌≡◌, List, ℕ, ◌+◌, ◌≤◌, ◌<◌, length}
use Rattle.rules.specs.Limits.{most_filled}
use Rattle.rules.specs.Syntax.{Formula}
use Rattle.filling.specs.Sets.{program_with}
use Rattle.tables.specs.Layout.{most_atom_rows, atoms_at, names_at}
use Rattle.tables.specs.Decode.{operands_at, row_count, atom_count, method_count, ensures_first_at, ensures_count_at, atoms_from, program_in}
use Rattle.tables.specs.Tables.{AtomFitsAt, AtomsFit, OperandsFit, FormulasFit, declared_in, Tables}
use Rattle.tables.specs.Stores.{Kept}

-- the tables of a text in which only the requires of the method m has atoms from the row n on
pub record Spared (w : List ℕ) (m n : ℕ) : Type 0 where
  pub tables : Tables w
  pub method : m < method_count w
  pub low : n ≤ atom_count w
  pub room : n + most_filled ≤ most_atom_rows
  pub rows : (i : ℕ) → i < row_count w → OperandsFit (declared_in w) n (operands_at w i)
  pub others : (j : ℕ) → j < method_count w → (j ≡ m → ⊥) → FormulasFit w n j
  pub ensures : AtomsFit n (ensures_first_at w m) (ensures_count_at w m)

-- k atoms from the row n on are written
abbrev pub AtomsThere : List ℕ → ℕ → ℕ → Type 0
AtomsThere w n k = (a : ℕ) → n ≤ a → a < n + k → AtomFitsAt w a

-- the same program but for the requires of the method m
abbrev pub SameBut : ℕ → List ℕ → List ℕ → Type 0
SameBut m w w' = (φ : Formula ℕ) → program_with m φ (program_in w') ≡ program_with m φ (program_in w)

-- the requires of the method m is k atoms from the row n on
pub record SetPut (w : List ℕ) (m n k : ℕ) (w' : List ℕ) : Type 0 where
  pub spared : Spared w' m n
  pub program : program_in w' ≡ program_with m (atoms_from w n k) (program_in w)
  pub atoms : Kept atoms_at names_at w w'
  pub size : length w' ≡ length w
