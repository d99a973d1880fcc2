use Rattle.std.proofs.Common.{◌≡◌, ◌++◌, map, take, drop}
use Rattle.rc_work.proofs.Imports.{printed_lines, StepsFit, step_line}
use Rattle.rc_work.proofs.report.Report.push_steps.Given as goal

abbrev pub invariant-loop-step : goal.invariant-loop-step
invariant-loop-step l = record {
  so_far : l.text.items ≡ l.fn.text.items
      ++ printed_lines (map (step_line l.self.spec.now l.self.ranks.now l.place l.thread) (take l.step-index l.steps));
  fit : StepsFit l.self.spec.now (drop l.step-index l.steps);
}
