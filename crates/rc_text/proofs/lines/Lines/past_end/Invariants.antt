use Rattle.std.proofs.Common.{◌≡◌, ◌+◌, length}
use Rattle.rc_text.specs.Lines.{lines_of, past_end_of}
use Rattle.rc_text.proofs.lines.Lines.past_end.Given as goal

abbrev pub invariant-loop-rest : goal.invariant-loop-rest
invariant-loop-rest l = l.line + length (lines_of l.rest) ≡ past_end_of l.self.text

abbrev pub decreases-loop-rest : goal.decreases-loop-rest
decreases-loop-rest l = length l.rest
