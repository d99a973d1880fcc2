use Rattle.std.proofs.Common.{length, ◌≡◌, ◌≤◌}
use Rattle.std.specs.Str.Iter.{lines_rest}
use Rattle.rc_case.proofs.cases.CasesIterator.next.Given as goal

abbrev pub invariant-loop-line : goal.invariant-loop-line
invariant-loop-line l =
    (length (lines_rest l.self.lines) ≤ length (lines_rest l.initial.self.lines)) × (l.self.is_ended ≡ l.initial.self.is_ended)

abbrev pub decreases-loop-line : goal.decreases-loop-line
decreases-loop-line l = length (lines_rest l.self.lines)
