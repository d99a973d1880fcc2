use Rattle.rc_cache.proofs.cache.PlanCache.find.Given as goal

abbrev pub invariant-loop-cached : goal.invariant-loop-cached
invariant-loop-cached g l =
    (goal.iterator-loop-cached g).can_next l.cached-iterator ×
    (goal.iterator-loop-cached g).is_finite l.cached-iterator
