use Rattle.rc_check.proofs.RuleLemmas.{findable}
use Rattle.rc_check.proofs.steps.is_findable.Goals as goal

pub returns-in-Lookup : goal.returns-in-Lookup
returns-in-Lookup c = findable c.args.mode c.args.key c.args.columns c.within.result c.in-Lookup.is c.within.ensures.found
