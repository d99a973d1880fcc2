use Rattle.std.proofs.Common.{◌≡◌, ◌+◌, drop}
use Rattle.rc_text.specs.LinesLaws.{first_length}
use Rattle.rc_text.proofs.lines.first_line_length.Given as goal

abbrev pub invariant-loop-i : goal.invariant-loop-i
invariant-loop-i l = l.i + first_length (drop l.i l.text) ≡ first_length l.text
