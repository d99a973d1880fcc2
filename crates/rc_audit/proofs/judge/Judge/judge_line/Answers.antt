use Rattle.rc_audit.proofs.JudgeLemmas.{passed_line}
use Rattle.rc_audit.proofs.judge.Judge.judge_line.Goals as goal

pub returns-clause-begins : goal.returns-clause-begins
returns-clause-begins c = λ front passed.
    passed_line c.args.self.now c.pass_line.new.self front c.args.line.now c.pass_line.result c.pass_line.ensures.same (c.pass_line.ensures.judged front passed)
