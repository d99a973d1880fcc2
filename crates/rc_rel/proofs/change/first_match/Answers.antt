use Rattle.rc_rel.proofs.Imports.{rules, tests, YieldsList-from_slice, position_from_yields_List, matches}
use Rattle.rc_rel.proofs.ChangeLemmas.{first_found}
use Rattle.rc_rel.proofs.change.first_match.Goals as goal

pub returns : goal.returns
returns c =
    first_found (matches c.args.pattern.now) c.args.tuples.now c.position.result
    (position_from_yields_List (matches c.args.pattern.now) _ _ _ c.position.ensures.ran (YieldsList-from_slice c.args.tuples.now cc) (λ x b q k. search (rules, tests)))
