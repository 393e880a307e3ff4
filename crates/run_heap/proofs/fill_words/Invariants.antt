use Rattle.std.proofs.Common.{◌≡◌, ◌+◌, ◌-◌, ◌*◌, length}
use Rattle.run_heap.specs.Views.{fill}
use Rattle.run_heap.proofs.fill_words.Given as goal

abbrev pub invariant-loop-i : goal.invariant-loop-i
invariant-loop-i l = (length l.work ≡ length l.initial.work) × (fill l.work (l.at + l.i * 4) (l.n - l.i) l.v ≡ fill l.initial.work l.at l.n l.v)
