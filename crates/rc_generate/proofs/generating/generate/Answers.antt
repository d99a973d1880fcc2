use Rattle.std.proofs.Common.{◌≡◌, ap, ◌∙◌, subst}
use Rattle.rc_values.specs.Ranks.{texts_of}
use Rattle.rc_work.specs.declared.work.Work.{Work}
use Rattle.rc_work.specs.Fitting.{RoundsFit, HasThreads}
use Rattle.rc_work.specs.Limits.{HasSingleTurns, KeepsLimits}
use Rattle.rc_generate.specs.Sample.{sample_graph}
use Rattle.rc_generate.specs.Generated.{generated}
use Rattle.rc_generate.specs.GeneratedLaws.{generated_fits, generated_has_single_turns, generated_has_threads, generated_keeps_limits}
use Rattle.rc_generate.proofs.GeneratingLemmas.{generated_from}
use Rattle.rc_generate.proofs.generating.generate.Goals as goal

same_work : (c : goal.In_ok-build) → (let w : Work = record { threads = 4; rounds = c.rounds-2.inside.items.items; ranks = c.in_ok-build.field-0 } in generated c.args.seed c.args.calls ≡ w)
same_work c = generated_from c.args.seed c.args.calls c.rounds-2.inside.items.items _ _ c.in_ok-build.field-0
    (c.rounds-2.view_is ∙ c.in_ok-push.ensures.ok) c.new-rounds.ensures c.in_ok-generated_round.ensures (c.in_ok-build.ensures ∙ ap texts_of c.new.ensures.items)

pub returns-clause-fit : goal.returns-clause-fit
returns-clause-fit c = subst (λ (w : Work). RoundsFit sample_graph w.rounds) (same_work c) (generated_fits c.args.seed c.args.calls)

pub returns-clause-threads : goal.returns-clause-threads
returns-clause-threads c = subst HasThreads (same_work c) (generated_has_threads c.args.seed c.args.calls)

pub returns-clause-limits : goal.returns-clause-limits
returns-clause-limits c = subst KeepsLimits (same_work c) (generated_keeps_limits c.args.seed c.args.calls c.requires.few)

pub returns-clause-single : goal.returns-clause-single
returns-clause-single c = subst HasSingleTurns (same_work c) (generated_has_single_turns c.args.seed c.args.calls)
