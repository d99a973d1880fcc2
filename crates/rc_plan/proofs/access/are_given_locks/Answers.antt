use Rattle.rc_plan.proofs.Imports.{rules, tests, subst, sym, YieldsList-from_slice, serves_from_places, In, get_or_in, IsKnown, Statement}
use Rattle.rc_plan.proofs.access.are_given_locks.Goals as goal

pub all-requires-clause-callable : goal.all-requires-clause-callable
all-requires-clause-callable c =
    let statements = c.args.statements.now in
    serves_from_places (YieldsList-from_slice statements cc) (λ x q k. search (rules, tests)) (λ x k within is.
    let known : IsKnown c.args.spec.now x.now = c.requires x.now (subst (λ (s : Statement). In s statements) (sym is) (get_or_in statements k x.now within)) in
    search (rules, known))
