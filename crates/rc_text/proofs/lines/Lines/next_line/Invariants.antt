use Rattle.std.proofs.Common.{◌≡◌, ◌-◌, ◌≤◌, ◌^◌, length}
use Rattle.rc_text.specs.Lines.{content_from, IsLineStart}
use Rattle.rc_text.specs.Reader.{place_of}
use Rattle.rc_text.proofs.lines.Lines.next_line.Given as goal

-- the lines passed so far have no content
abbrev pub invariant-loop-self : goal.invariant-loop-self
invariant-loop-self l = record {
  short : length l.self-inside.bytes.now ≤ 2 ^ 24;
  start : IsLineStart (place_of l.self-inside);
  text : l.self-inside.bytes.now ≡ l.fn.self.text;
  content : content_from (place_of l.self-inside) ≡ content_from l.fn.self;
}

abbrev pub decreases-loop-self : goal.decreases-loop-self
decreases-loop-self l = length l.self-inside.bytes.now - l.self-inside.at
