use Rattle.std.specs.Prelude.{◌≡◌}
use Rattle.rc_store.proofs.Imports.{Holding, told_answer_counts, told_answer_err, told_answer_fault, told_answer_from_ok, told_answer_ok, spec_of, IsLentBy, IsUnrefused, lending, answered_so, busy_so, lent_run, none_waits_so, of_row_so, replied_so, stopped_so, unrefused_so, way_so}
use Rattle.rc_machine.specs.declared.stop.Stop.TheVariants as stop
use Rattle.rc_store.proofs.run.run_holder.Given as given
use Rattle.rc_store.proofs.run.run_holder.Goals as goal

lent : (g : given.Over) (c : goal.After-run_statements g)
    → IsLentBy g.T.Takes.waits
    (record { row = c.args.lender.now.row.now; begun = c.args.lender.now.pass.now }) c.run_statements.new.holder.row.now
    c.run_statements.new.holder.pass.now c.run_statements.new.holder.refused.now (spec_of c.args.lender.now.row.now)
lent g c =
    lent_run g.T.Takes.waits g.L.Lends.lent c.args.lender.now.row.now c.run_statements.new.holder.row.now
    c.args.lender.now.pass.now c.run_statements.new.holder.pass.now
    c.args.lender.now.refused.now c.run_statements.new.holder.refused.now c.requires.lent c.requires.none
    c.held_agrees.ensures c.requires.idle c.run_statements.ensures.sound

-- what the holder told before and after
abbrev before : (g : given.Over) (c : goal.After-run_statements g) → Holding
before g c = lending c.args.lender.now.row.now c.args.lender.now.pass.now c.args.lender.now.refused.now c.args.lender.now.pass.ghost_name

abbrev after : (g : given.Over) (c : goal.After-run_statements g) → Holding
after g c = lending c.run_statements.new.holder.row.now c.run_statements.new.holder.pass.now c.run_statements.new.holder.refused.now c.run_statements.new.holder.pass.ghost_name

quiet : (g : given.Over) (c : goal.After-run_statements g) → (after g c).refusals ≡ (before g c).refusals → IsUnrefused g.T.Takes.waits c.args.lender.now.pass.now c.run_statements.new.holder.pass.now
quiet g c =
    unrefused_so _ _ _ _ _ _ (lent g c) c.args.lender.now.refused.now c.args.lender.now.pass.ghost_name c.run_statements.new.holder.pass.ghost_name c.requires.none

pub returns-clause-run : goal.returns-clause-run
returns-clause-run g c =
    let answer = c.run_statements.result in
    let reply = c.run_statements.new.reply in
    let counted = told_answer_counts answer reply (before g c) (after g c) c.run_statements.ensures.run.counted in
    record {
      of_row = of_row_so _ _ _ _ _ _ (lent g c) c.run_statements.new.holder.of_row;
      way = way_so _ _ _ _ _ _ (lent g c);
      answered =
          told_answer_ok _ answer reply
          (replied_so _ _ _ _ _ _
          (lent g c) c.args.compiled.now c.requires.compiled c.args.call.now c.run_statements.new.holder.pass.ghost_name reply)
          (told_answer_from_ok _ answer reply c.run_statements.ensures.run.answered);
      unrefused =
          told_answer_ok _ answer reply (λ unrefused. unrefused)
          (answered_so g.T.Takes.waits c.args.lender.now.row.now c.args.call.now c.args.lender.now.pass.now
          c.run_statements.new.holder.pass.now (before g c) (after g c) (quiet g c) answer counted);
      stopped =
          told_answer_fault _ answer reply
          (stopped_so g.T.Takes.waits c.args.lender.now.row.now c.args.call.now c.args.lender.now.pass.now
          c.run_statements.new.holder.pass.now (before g c) (after g c) (quiet g c) answer counted
          (λ h e. (
            none_waits_so _ _ _ _ _ _ (lent g c) c.args.compiled.now c.requires.compiled c.args.call.now
                c.args.lender.now.refused.now
                c.args.lender.now.pass.ghost_name c.run_statements.new.holder.pass.ghost_name c.requires.none h
                (c.run_statements.ensures.run.refused h (told_answer_err answer reply (stop.Held h) e)),
            busy_so _ _ _ _ _ _ (lent g c) c.args.compiled.now c.requires.compiled c.args.call.now
                c.args.lender.now.refused.now
                c.args.lender.now.pass.ghost_name c.run_statements.new.holder.pass.ghost_name
                (record { sealed = c.accepted.ensures.sealed; planned = c.accepted.ensures.planned }) c.requires.fits
                c.requires.none h (c.run_statements.ensures.run.refused h (told_answer_err answer reply (stop.Held h) e)),
          )));
    }
