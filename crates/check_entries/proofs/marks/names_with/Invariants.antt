use Rattle.std.proofs.Common.{◌≡◌, Bool, false, cond, not}
use Rattle.check_entries.specs.PathsOut.{path_with}
use Rattle.check_state.specs.Questions.{places}
use Rattle.rules.specs.Base.{any}
use Rattle.check_entries.proofs.marks.names_with.Given as goal

abbrev pub invariant-loop-i : goal.invariant-loop-i
invariant-loop-i g l =
    (kept : Bool) → ((o r : Bool) → goal.F-post g l.counts o r → r ≡ cond kept (not o) o) → any (path_with l.b l.out kept l.k) (places l.i) ≡ false
