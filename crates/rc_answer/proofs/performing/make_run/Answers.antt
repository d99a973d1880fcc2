use Rattle.rc_answer.proofs.RanLemmas.{run_fits, run_is_of_store, run_of}
use Rattle.rc_answer.proofs.performing.make_run.Goals as goal

pub returns-clause-run : goal.returns-clause-run
returns-clause-run g c =
    run_of c.args.compiled c.args.work.now c.in_ok-closed.closed c.in-Ok.last c.in_ok-closed.ensures.run c.in_ok-closed.ensures.compiled
    c.in-Ok.ensures

pub returns-clause-fit : goal.returns-clause-fit
returns-clause-fit g c = run_fits c.args.compiled c.args.work.now c.in_ok-closed.closed c.in-Ok.last c.in_ok-closed.ensures.run

pub returns-clause-store : goal.returns-clause-store
returns-clause-store g c =
    run_is_of_store c.args.compiled c.args.work.now c.in_ok-closed.closed c.in-Ok.last c.in_ok-closed.ensures.run c.in_ok-closed.ensures.compiled
    c.accepted.ensures.planned c.has_one_history.ensures
