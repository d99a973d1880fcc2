use Rattle.rc_rel.proofs.Imports.{sym, subst, In, get_or_in, Dep}
use Rattle.rc_rel.proofs.dependencies.first_broken_dependency.Goals as goal

pub breaks_with_one_more-requires-clause-satisfied : goal.breaks_with_one_more-requires-clause-satisfied
breaks_with_one_more-requires-clause-satisfied c =
    λ e. c.requires.satisfied e c.index-deps-at.result
    (subst (λ (d : Dep). In d c.args.deps.now) (sym c.index-deps-at.is) (get_or_in c.args.deps.now c.loop-at.at c.index-deps-at.result c.loop-at-test.true))
