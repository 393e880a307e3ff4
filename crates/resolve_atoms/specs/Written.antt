-- An atom and a formula of a line, resolved and written.
use Rattle.std.specs.Prelude.{Result, Ok, Err, ◌≡◌, true, List, [], ◌∷◌, ◌++◌, map, ℕ, suc, ◌+◌, ◌≤◌, ◌<◌, length, get_or, drop}
use Rattle.read_types.specs.declared.Fault.{Fault}
use Rattle.rules.specs.Base.{Name}
use Rattle.rules.specs.Limits.{work_bytes}
use Rattle.rules.specs.Syntax.{Atom, Formula}
use Rattle.rules.specs.Text.{tab, is_formula, formula_of}
use Rattle.rules.specs.Scope.{Declarations, Variable}
use Rattle.rules.specs.Items.{resolve_atom}
use Rattle.read_fields.specs.Cuts.{more}
use Rattle.tables.specs.declared.Expr.{Expr}
use Rattle.tables.specs.declared.kinds.AtomKind.{AtomKind}
use Rattle.tables.specs.Kinds.{kind_number}
use Rattle.tables.specs.Numbers.{eq_atom, ne_atom}
use Rattle.tables.specs.Layout.{names_at, most_atom_rows}
use Rattle.tables.specs.Stores.{Kept}
use Rattle.read_scopes.specs.declared.Names.{Names}
use Rattle.read_scopes.specs.Meanings.{declarations_in, variables_in}
use Rattle.read_types.specs.declared.Member.{Member}
use Rattle.read_types.specs.Verdicts.{Verdict, lower}
use Rattle.rules.specs.Syntax.{Program}
use Rattle.tables.specs.Tables.{Declared}
use Rattle.write_rows.specs.Holds.{AtomOk, atom_of, Holds, Building}
use Rattle.resolve_atoms.specs.declared.AtomRow.{AtomRow}
use Rattle.resolve_atoms.specs.declared.NextAtom.{NextAtom}
use Rattle.resolve_atoms.specs.Good.{atom_judged, atoms_judged}

-- the kind of `eq` or that of `ne`
abbrev pub IsRelation : ℕ → Type 0
IsRelation k = (eq_atom ≤ k) × (k ≤ ne_atom)

-- the row r is the atom x, resolved
pub record Resolved (Γ : Declarations) (vs : List Variable) (x : Atom Name) (r : AtomRow) : Type 0 where
  pub is : atom_of (kind_number r.kind) r.left r.right ≡ resolve_atom Γ vs x
  pub ok : AtomOk (kind_number r.kind) r.left r.right

-- it has a row just if it is good
unfoldable pub AtomTried : Declarations → List Variable → Atom Name → Result AtomRow Fault → Type 0
AtomTried Γ vs x (Ok r) = (atom_judged Γ vs x ≡ Ok tt) × Resolved Γ vs x r
AtomTried Γ vs x (Err f) = atom_judged Γ vs x ≡ Err f

unfoldable pub row_if : Verdict → AtomRow → Result AtomRow Fault
row_if (Ok u) r = Ok r
row_if (Err f) r = Err f

-- the permission of the kind k to what was looked up, if that is good
unfoldable pub permission_row : AtomKind → Member → Result AtomRow Fault
permission_row k m = row_if m.verdict (record { kind = k; left = Expr.Path m.variable m.number; right = Expr.Null })

-- by the rows of names in w
abbrev pub AtomTriedIn : List ℕ → List ℕ → Names → Atom Name → Result AtomRow Fault → Type 0
AtomTriedIn t w c x q = AtomTried (declarations_in t w c) (variables_in t w c) x q

-- after the field that ends at r stands an atom of a formula
pub record AtomFollows (t : List ℕ) (r : ℕ) : Type 0 where
  pub high : r ≤ length t
  pub byte : get_or t r 0 ≡ tab
  pub most : ℕ
  pub form : is_formula (suc most) (more (drop r t)) ≡ true

module _ (t w : List ℕ) (c : Names) where
  -- the formula of the fields after r, resolved
  unfoldable pub formula_after : ℕ → Formula ℕ
  formula_after r = map (resolve_atom (declarations_in t w c) (variables_in t w c)) (formula_of (more (drop r t)))

  -- what the tests of 6 and 7 say of its atoms
  unfoldable pub judged_after : ℕ → Verdict
  judged_after r = atoms_judged (declarations_in t w c) (variables_in t w c) (formula_of (more (drop r t)))

  -- the atom after r is tried, and is written as the atom n if it is good
  pub record NextTried (r n : ℕ) (w' : List ℕ) (x : NextAtom) : Type 0 where
    pub atom : Atom ℕ
    pub low : r < x.end
    pub high : x.end ≤ length t
    pub form : (m : ℕ) → is_formula (suc m) (more (drop r t)) ≡ is_formula m (more (drop x.end t))
    pub judged : judged_after r ≡ lower x.verdict (judged_after x.end)
    pub is : formula_after r ≡ atom ∷ formula_after x.end
    pub built :
        x.verdict ≡ Ok tt → (D : Declared) (F : Program) (a : ℕ) (φ : Formula ℕ) → Building D w F a n φ →
        Building D w' F a (n + 1) (φ ++ (atom ∷ []))
    pub names : Kept names_at work_bytes w w'
    pub size : length w' ≡ length w

  -- the fields after r are a formula of at most so many atoms, and there is room for them from n on
  pub record FormulaFollows (most r n : ℕ) : Type 0 where
    pub high : r ≤ length t
    pub form : is_formula most (more (drop r t)) ≡ true
    pub room : n + length (formula_after r) ≤ most_atom_rows

  -- it is written as the atoms from n up to m
  pub record FormulaPut (r n : ℕ) (w' : List ℕ) (m : ℕ) : Type 0 where
    pub count : m ≡ n + length (formula_after r)
    pub built : (D : Declared) (F : Program) → Holds D w F n → Building D w' F n m (formula_after r)
    pub names : Kept names_at work_bytes w w'
    pub size : length w' ≡ length w

  -- it is written just if its atoms are good
  unfoldable pub FormulaTried : (r n : ℕ) (w' : List ℕ) → Result ℕ Fault → Type 0
  FormulaTried r n w' (Ok m) = (judged_after r ≡ Ok tt) × FormulaPut r n w' m
  FormulaTried r n w' (Err f) = (judged_after r ≡ Err f) × (length w' ≡ length w)
