-- Lines that declare and add no statement row: `class`, `main`, `field`, `method` and `var`.
use Rattle.std.specs.Prelude.{◌≡◌, Bool, true, ◌||◌, List, ℕ, pred, ◌+◌, ◌≤◌, eqb}
use Rattle.rules.specs.Limits.{most_statements}
use Rattle.rules.specs.Grammar.{Line, class_kind, main_kind}
use Rattle.read_grammar.specs.Rows.{kind_numbered}
use Rattle.tables.specs.Decode.{field_count_at}
use Rattle.read_scopes.specs.declared.Names.{Names}
use Rattle.read_scopes.specs.declared.Above.{Above}
use Rattle.read_declarations.specs.Declares.{FormedAfter}
use Rattle.resolve_pass.specs.declared.Pass.{Pass}
use Rattle.resolve_pass.specs.Passes.{LinePut}

-- `class` or `main`, by the number of the kind
unfoldable pub is_declaration : ℕ → Bool
is_declaration k = eqb k class_kind || eqb k main_kind

-- the line of this kind, `class` or `main`, whose word ends at r has its form
abbrev pub DeclarationFollows : List ℕ → ℕ → ℕ → Type 0
DeclarationFollows t k r = FormedAfter t r (kind_numbered k) × (is_declaration k ≡ true)

-- The rows that are written fit, and the last class has as many fields as are counted. Where the tables stand, they do.
pub record Held (w : List ℕ) (p : Pass) : Type 0 where
  pub rows : p.rows ≤ most_statements
  pub fields : 1 ≤ p.above.classes → field_count_at w (pred p.above.classes) ≡ p.above.fields.count

-- one line further, without a row or an atom more
abbrev pub moved : Pass → Names → Above → ℕ → Pass
moved p c a m =
    record { names = c; above = a; rows = p.rows; atoms = p.atoms; main = m; line = p.line + 1; unframed = p.unframed }

-- The line is in the tables, and number 10 says nothing about it.
pub record DeclarationPut (t w : List ℕ) (p : Pass) (l : Line) (w' : List ℕ) (q : Pass) : Type 0 where
  pub put : LinePut t w p l w' q
  pub unframed : q.unframed ≡ p.unframed
