-- Statements with one atom: the atom, then its row.
use mathlib.Core.Path.{◌≡◌, ◌∙◌}
use mathlib.Core.List.{List, []}
use Prim.Native.Nat.{ℕ, ◌+◌, ◌<◌}
use lib.ListN.{length}
use Rattle.rules.specs.Limits.{most_statements}
use Rattle.rules.specs.Syntax.{assign, simple, if}
use Rattle.rules.specs.Items.{a_statement}
use Rattle.rules.specs.Syntax.{Program}
use Rattle.rules.specs.Reading.{with_item}
use Rattle.tables.specs.declared.Expr as Tables
use Rattle.tables.specs.declared.Operands.{Operands}
use Rattle.tables.specs.Layout.{most_atom_rows}
use Rattle.tables.specs.Decode.{rel_of}
use Rattle.tables.specs.Tables.{Declared, OperandsFit}
use Rattle.tables.specs.Stores.{meaning}
use Rattle.tables.proofs.Statements.{let-means, if-means}
use Rattle.write_rows.specs.Puts.{put_atom, put_row}
use Rattle.write_rows.specs.Holds.{AtomOk, Holds}
use Rattle.write_rows.proofs.Atoms.{building, atom-written, right-written, condition-written}
use Rattle.write_rows.proofs.Rows.{row_written}

module _
    (D : Declared) (w : List ℕ) (F : Program) (n k : ℕ) (a b : Tables.Expr) (r : Operands) (room : n < most_atom_rows)
    (few : length F.rows < most_statements) (atom : AtomOk k a b) (row : OperandsFit D (n + 1) r) (first : r.first ≡ n)
    (h : Holds D w F n) where
  with-atom : Holds D (put_atom w n k a b) F (n + 1)
  with-atom = (atom-written D w F n n [] k a b room atom (building D w F n h)).holds

  -- `let x e`, with e on the right
  pub let-written :
      r.kind ≡ 9 →
      Holds D (put_row (put_atom w n k a b) (length F.rows) r)
      (with_item F r.line (a_statement (simple (assign r.x (meaning b))))) (n + 1)
  let-written e =
      row_written D _ F (n + 1) r _ few row (let-means _ r e ∙ rw (first, right-written w n k a b h.size room atom)) with-atom

  pub if-written :
      r.kind ≡ 15 →
      Holds D (put_row (put_atom w n k a b) (length F.rows) r)
      (with_item F r.line (a_statement (if (rel_of k) (meaning a) (meaning b)))) (n + 1)
  if-written e =
      row_written D _ F (n + 1) r _ few row (if-means _ r e ∙ rw first (condition-written w n k a b h.size room atom))
      with-atom
