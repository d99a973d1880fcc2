use Rattle.rc_check.proofs.Imports.{ap, ProgressSets}
use Rattle.rc_check.proofs.RuleLemmas.{key_bound}
use Rattle.rc_check.proofs.cover.is_key_bound.Goals as goal

pub returns-in-Keyed : goal.returns-in-Keyed
returns-in-Keyed c = λ p e.
    key_bound c.args.spec.now c.args.class c.args.which c.striping.result c.args.before.now.columns p.columns c.within.result c.in-Keyed.is c.striping.ensures
    (ap (λ (s : ProgressSets). s.columns) e) c.within.ensures.found
