use Rattle.rc_rel.proofs.Imports.{rules, tests, YieldsList-from_slice, serves_from_places, cols_of}
use Rattle.rc_rel.proofs.ChangeLemmas.{over_at}
use Rattle.rc_rel.proofs.dependencies.breaks_with.Goals as goal

pub any-requires-clause-callable : goal.any-requires-clause-callable
any-requires-clause-callable c =
    serves_from_places (YieldsList-from_slice c.args.tuples.now cc) (λ x q k. search (rules, tests))
    (λ x k within is. search (rules, over_at (cols_of c.args.tuple.now) c.args.tuples.now k x.now c.requires within is))
