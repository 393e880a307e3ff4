-- A line that writes a statement or a formula of a method: what it needs, and what it writes.
use Rattle.read_types.specs.declared.Fault.{Fault}
use Rattle.read_types.specs.Verdicts.{Verdict}
use Rattle.std.specs.Prelude.{Result, Ok, Err, ◌≡◌, true, List, ℕ, suc, ◌+◌, ◌-◌, ◌≤◌, ◌<◌, length}
use Rattle.rules.specs.Limits.{work_bytes}
use Rattle.rules.specs.Grammar.{Line, statement, Loop, kind_number, requires_kind, ensures_kind}
use Rattle.read_grammar.specs.Rows.{kind_numbered}
use Rattle.tables.specs.Layout.{names_at}
use Rattle.tables.specs.Decode.{framed_from}
use Rattle.tables.specs.Stores.{Kept}
use Rattle.rules.specs.Syntax.{Program}
use Rattle.rules.specs.Reading.{with_item}
use Rattle.read_declarations.specs.Declares.{FormedAfter}
use Rattle.write_rows.specs.Holds.{Holds}
use Rattle.resolve_pass.specs.declared.Pass.{Pass}
use Rattle.resolve_pass.specs.Passes.{counts, atoms_at_most, is_framed, framed_formula, item, PassFits, Stands, LineRoom, line_after, judged_here, BadLine}

-- the number of `requires` or of `ensures`
abbrev pub IsHeader : ℕ → Type 0
IsHeader k = (requires_kind ≤ k) × (k ≤ ensures_kind)

-- the line of this kind, whose word ends at r, may be tried
pub record Follows (t w : List ℕ) (p : Pass) (k r : ℕ) : Type 0 where
  pub ready : PassFits t w p
  pub high : r ≤ length t
  pub formed : FormedAfter t r (kind_numbered k)
  pub room : LineRoom t w p (line_after t r k)

-- its item is in the tables, and m atoms are written
pub record ItemPut (t w : List ℕ) (p : Pass) (l : Line) (w' : List ℕ) (m : ℕ) : Type 0 where
  pub grown : p.atoms ≤ m
  pub count : m ≤ p.atoms + atoms_at_most l.kind
  pub condition : l.kind ≡ statement Loop → p.atoms < m
  pub built : (F : Program) → Stands t w p F → Holds (counts p.names) w' (with_item F (suc p.line) (item t w p l)) m
  pub formula :
      is_framed l.kind ≡ true → (F : Program) → Stands t w p F →
      framed_from w' (kind_number l.kind) p.atoms (m - p.atoms) ≡ framed_formula (item t w p l)
  pub names : Kept names_at work_bytes w w'
  pub size : length w' ≡ length w

-- it is written just if it is good
unfoldable pub ItemTried : (t w : List ℕ) (p : Pass) (l : Line) (w' : List ℕ) → Result ℕ Fault → Type 0
ItemTried t w p l w' (Ok m) = (judged_here t w p l ≡ Ok tt) × ItemPut t w p l w' m
ItemTried t w p l w' (Err f) = BadLine t w p l w' f

-- by what is said of a row without atoms
unfoldable pub done_if : Verdict → ℕ → Result ℕ Fault
done_if (Ok u) n = Ok n
done_if (Err f) n = Err f
