use Rattle.std.proofs.Common.{◌≡◌, length}
use Rattle.rc_handplan.proofs.Imports.{IsLineStart, content_from, past_end_of, rest_place, hands_from, hands_reading_to}
use Rattle.rc_handplan.proofs.reading.read_plans.Given as goal

-- what the lines that are left give behind the plans so far is what all lines give
abbrev pub invariant-loop-line : goal.invariant-loop-line
invariant-loop-line l = record {
  gives :
      hands_from l.closing l.accepted (past_end_of l.bytes) l.hands.items (content_from l.lines)
      ≡ hands_reading_to l.closing l.accepted (rest_place l.bytes l.fn.rest);
  others : content_from (rest_place l.bytes l.behind) ≡ content_from l.lines;
  start : IsLineStart (rest_place l.bytes l.behind);
  version : l.behind.version ≡ l.fn.rest.version;
  text : l.lines.text ≡ l.bytes;
}

abbrev pub decreases-loop-line : goal.decreases-loop-line
decreases-loop-line l = length (content_from l.lines)
