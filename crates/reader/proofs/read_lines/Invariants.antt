use Rattle.read_scan.specs.Table.{start_of, LineTable}
use Rattle.reader.proofs.Loop.{Resolving}
use Rattle.reader.proofs.read_lines.Given as goal

-- `reader::read_lines` meets its contract. Assumes nothing.
abbrev pub invariant-loop-i : goal.invariant-loop-i
invariant-loop-i l = Resolving l.text (start_of l.text l.i) l.p l.work × LineTable l.text l.work l.n
