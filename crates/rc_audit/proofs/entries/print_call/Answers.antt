use Rattle.std.proofs.Common.{◌≡◌, ◌++◌, ◌∙◌}
use Rattle.rc_work.specs.Report.{step_line}
use Rattle.rc_audit.proofs.entries.print_call.Goals as goal

pub returns : goal.returns
returns c = λ r keeps few.
    let made = c.in_ok-reply.ensures r keeps few in
    let copied = c.in_ok-copy.ensures in
    let empty = c.new-line.ensures.items in
    let same : c.spec-spec.result.now ≡ c.args.compiled.now.spec = c.spec-spec.ensures.value ∙ c.accepted.ensures.value in (
      c.in_ok-push_step_line.ensures
          ∙ (λ i. empty i ++ step_line (same i) c.args.work.now.ranks c.args.place c.args.thread (record { call = copied i; reply = made.0 i })),
      made.1,
    )
