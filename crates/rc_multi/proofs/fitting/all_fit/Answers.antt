use Rattle.rc_multi.proofs.Imports.{rules, tests, YieldsList-from_slice, each_in, in_each, Fits}
use Rattle.rc_multi.proofs.AnswerLemmas.{all_said}
use Rattle.rc_multi.proofs.fitting.all_fit.Goals as goal

pub returns : goal.returns
returns c =
    let all = all_said (Fits c.args.spec.now) _ _ c.all.result c.all.ensures.ran (YieldsList-from_slice c.args.calls.now c.iter.ensures.rest) (λ x b q k. search (rules, tests)) in
    (λ t. in_each (Fits c.args.spec.now) c.args.calls.now (all.0 t), λ fit. all.1 (each_in (Fits c.args.spec.now) c.args.calls.now fit))
