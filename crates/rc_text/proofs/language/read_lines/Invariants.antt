use Rattle.std.proofs.Common.{◌≡◌, length, List, Option, Result}
use Rattle.rc_text.specs.Lines.{ContentLine, content_from}
use Rattle.rc_text.specs.Reads.{Reads}
use Rattle.rc_text.specs.declared.language.Unread.{Unread}
use Rattle.rc_text.specs.declared.lines.Line.{Line}
use Rattle.rc_text.proofs.language.read_lines.Given as goal

-- what the lines that are left answer from the state so far is what all lines answer
abbrev pub invariant-loop-line : goal.invariant-loop-line
invariant-loop-line g l = record {
  whole :
      (answer : Result (Option Line) (Unread g.row.L-Fault.Denot)) (next : g.row.L-State.Denot) (others : List ContentLine)
      → Reads (g.L.Language.reads l.language) (g.L.Language.fails l.language) l.state (content_from l.lines) answer next others
      → Reads (g.L.Language.reads l.language) (g.L.Language.fails l.language) l.fn.state (content_from l.fn.lines) answer next others;
  can : g.L.Language.can l.language l.state;
  text : l.lines.text ≡ l.fn.lines.text;
}

abbrev pub decreases-loop-line : goal.decreases-loop-line
decreases-loop-line g l = length (content_from l.lines)
