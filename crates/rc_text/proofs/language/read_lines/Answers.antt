use Rattle.std.proofs.Common.{List, [], Some, Ok, Err, subst, sym, ◌∙◌}
use Rattle.rc_text.specs.Lines.{ContentLine, content_of, content_from}
use Rattle.rc_text.specs.Reads.{Reads}
use Rattle.rc_text.specs.ReadsLaws.{reads-more, last_here, stops_here}
use Rattle.rc_text.proofs.language.read_lines.Goals as goal

pub returns-in-Ok-true-clause-lines : goal.returns-in-Ok-true-clause-lines
returns-in-Ok-true-clause-lines g c =
    c.loop-line.invariant.whole (Ok (Some c.in-Some.line)) c.read_line.new.state (content_from c.next_line.new.self)
    (last_here (g.L.Language.reads c.args.language.now) (g.L.Language.fails c.args.language.now) _ _ c.in-Some.line _ _ _
    c.in-Some.ensures.line c.in-Ok-true.ensures.ok c.in-Ok-true.field-0-test)

pub loop-line-preserved : goal.loop-line-preserved
loop-line-preserved g c = record {
  whole = λ answer next others read.
      c.loop-line.invariant.whole answer next others
      (subst
      (λ (lines : List ContentLine).
      Reads (g.L.Language.reads c.args.language.now) (g.L.Language.fails c.args.language.now) c.loop-line.state lines answer next others)
      (sym c.in-Some.ensures.line)
      (reads-more (g.L.Language.reads c.args.language.now) (g.L.Language.fails c.args.language.now) _ _ (content_of c.in-Some.line) _
      answer next others
      (subst (λ ended. g.L.Language.reads c.args.language.now c.loop-line.state c.in-Some.line.bytes.now ended c.read_line.new.state)
      c.in-Ok-false.field-0-test c.in-Ok-false.ensures.ok) read));
  can = c.in-Ok-false.ensures.can;
  text = c.next_line.ensures.text ∙ c.loop-line.invariant.text;
}

pub returns-in-Err-clause-lines : goal.returns-in-Err-clause-lines
returns-in-Err-clause-lines g c =
    c.loop-line.invariant.whole (Err (record { fault = c.in-Err.fault; line = c.in-Some.line.number })) c.loop-line.state []
    (stops_here (g.L.Language.reads c.args.language.now) (g.L.Language.fails c.args.language.now) _ _ c.in-Some.line _ _
    c.loop-line.state []
    c.in-Some.ensures.line c.in-Err.ensures.err)
