use Rattle.rc_rel.proofs.Imports.{rules, tests, YieldsList-from_slice, serves_from_places, position_from_yields_List, agree_on, cols_of}
use Rattle.rc_rel.proofs.ChangeLemmas.{first_found, over_at}
use Rattle.rc_rel.proofs.change.first_agreeing.Goals as goal

pub position-requires-clause-callable : goal.position-requires-clause-callable
position-requires-clause-callable c =
    serves_from_places (YieldsList-from_slice c.args.tuples.now cc) (λ x q k. search (rules, tests))
    (λ x k within is. search (rules, over_at (cols_of c.args.tuple.now) c.args.tuples.now k x.now c.requires within is))

pub returns : goal.returns
returns c =
    first_found (agree_on c.args.cols c.args.tuple.now) c.args.tuples.now c.position.result
    (position_from_yields_List (agree_on c.args.cols c.args.tuple.now) _ _ _ c.position.ensures.ran (YieldsList-from_slice c.args.tuples.now cc) (λ x b q k. search (rules, tests)))
