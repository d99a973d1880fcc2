use Rattle.std.proofs.Common.{subst, sym}
use Rattle.rc_plan.specs.Compiled.{SpecWithPlans}
use Rattle.rc_rel.specs.History.{replay}
use Rattle.rc_instance.specs.Instance.{IsOfRelation}
use Rattle.rc_row.specs.Passes.{spec_of}
use Rattle.rc_scheduler.proofs.processes.close.Goals as goal

-- the rows are those of the history's relation
pub returns : goal.returns
returns c =
    let is = c.in_ok-closed.ensures.closed in
    let relation = replay (spec_of c.args.store.store.row) is.history in
    record {
      closed = c.in_ok-closed.closed;
      is = is;
      rows = c.in_ok-rows.ensures relation
          (subst (λ (z : SpecWithPlans). IsOfRelation z.spec c.in_ok-closed.closed.instance relation) (sym is.compiled) is.leaves.relation);
    }
