-- Formulas of the tables, with other variables for some.
use Rattle.std.specs.Prelude.{◌≡◌, true, List, map, ℕ}
use Rattle.rules.specs.Syntax.{Atom, Formula}
use Rattle.rules.specs.State as Rules
use Rattle.rules.specs.State.{equal_in, show_from}
use Rattle.rules.specs.Rules.{actual, subst_atom}
use Rattle.tables.specs.Decode as Decode
use Rattle.tables.specs.Decode.{is_permission, atom_at, atoms_from}
use Rattle.check_state.specs.States.{state_of, permit_of, IsKind}
use Rattle.check_entries.specs.Entries.{left_of}
use Rattle.check_entailment.specs.Answers.{Answer, answered}

-- the bytes of a side
abbrev pub side_bytes : ℕ
side_bytes = 4

-- the atom a, with y, z and x for `this`, w and `result`
abbrev pub actual_atom : List ℕ → ℕ → ℕ → ℕ → ℕ → Atom ℕ
actual_atom w y z x a = subst_atom (actual y z x) (atom_at w a)

-- e is the kind of the entries for a permission of the kind k of atoms
abbrev pub EntryKind : ℕ → ℕ → Type 0
EntryKind k e = (is_permission k ≡ true) × (IsKind e × (permit_of e ≡ Decode.permit_of k))

-- n atoms from the atom a on, with y, z and x for `this`, w and `result`
unfoldable pub formula : List ℕ → ℕ → ℕ → ℕ → ℕ → ℕ → Formula ℕ
formula w y z x a n = map (subst_atom (actual y z x)) (atoms_from w a n)

-- the state shows the whole formula, and what is left of its entries then; or why it does not
abbrev pub Shows : List ℕ → List ℕ → Formula ℕ → Answer → List ℕ → Type 0
Shows key b φ answer left = answered answer (left_of b left) ≡ Rules.show (state_of key b) φ

-- what is still to show, by what is left of the entries
abbrev pub Showing : List ℕ → List ℕ → Formula ℕ → Formula ℕ → List ℕ → Type 0
Showing key b φ rest left = show_from (equal_in (state_of key b)) (state_of key b) rest (left_of b left) ≡ Rules.show (state_of key b) φ
