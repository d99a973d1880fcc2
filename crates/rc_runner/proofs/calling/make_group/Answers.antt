use Rattle.rc_runner.proofs.Imports.{subst, sym, OnOk, Result, HasCalled, stand_of, group_called_so}
use Rattle.rc_runner.proofs.calling.make_group.Goals.{in-Ok, in-Err-Memory}
use Rattle.rc_runner.proofs.calling.make_group.Goals as goal

pub returns-clause-called : goal.returns-clause-called
returns-clause-called g c =
    let old = c.args.pass.now in
    let new = c.call_group.new.pass in
    elim c.match-call_group.branch [
      | in-Ok w ↦
          subst (λ r. OnOk r (HasCalled c.args.calls.now (stand_of old) (stand_of new))) (sym w.result-is)
          (group_called_so c.args.store.now c.args.calls.now w.in-Ok.ensures.made.0 old new _ w.in-Ok.ensures.made.1)
      | in-Err-Memory w ↦ subst (λ r. OnOk r (HasCalled c.args.calls.now (stand_of old) (stand_of new))) (sym w.result-is) tt
    ]
