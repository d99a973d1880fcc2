use Rattle.std.proofs.Common.{arith}
use Rattle.std.proofs.lemmas.Grind.{common_steps}
use Rattle.rc_text.proofs.LineLemmas.{reader_passes}
use Rattle.rc_text.proofs.lines.Lines.next_line.Goals as goal

pub overflow_add-self-in-loop-self : goal.overflow_add-self-in-loop-self
overflow_add-self-in-loop-self c =
    let found = c.first_line_length-length in
    let passed = reader_passes c.loop-self.self-inside found.result c.loop-self.invariant.start found.ensures.within.1 found.ensures.first in
    omega (arith, passed.number, c.loop-self.invariant.short)

pub invariant_of-self-then-is_content : goal.invariant_of-self-then-is_content
invariant_of-self-then-is_content c =
    let found = c.first_line_length-length in
    let passed = reader_passes c.loop-self.self-inside found.result c.loop-self.invariant.start found.ensures.within.1 found.ensures.first in
    record { short = c.loop-self.invariant.short; start = passed.start }

pub returns-then-is_content-clause-number : goal.returns-then-is_content-clause-number
returns-then-is_content-clause-number c =
    let found = c.first_line_length-length in
    let passed = reader_passes c.loop-self.self-inside found.result c.loop-self.invariant.start found.ensures.within.1 found.ensures.first in
    omega (arith, passed.number, c.loop-self.invariant.short)

pub returns-then-is_content-clause-start : goal.returns-then-is_content-clause-start
returns-then-is_content-clause-start c =
    let found = c.first_line_length-length in
    let passed = reader_passes c.loop-self.self-inside found.result c.loop-self.invariant.start found.ensures.within.1 found.ensures.first in
    passed.start

pub loop-self-preserved : goal.loop-self-preserved
loop-self-preserved c =
    let found = c.first_line_length-length in
    let passed = reader_passes c.loop-self.self-inside found.result c.loop-self.invariant.start found.ensures.within.1 found.ensures.first in
    record {
      short = c.loop-self.invariant.short;
      start = passed.start;
      text = c.loop-self.invariant.text;
      content = grind (arith, common_steps);
    }
