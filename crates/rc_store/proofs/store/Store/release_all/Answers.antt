use Rattle.std.proofs.Common.{ap, ◌∙◌}
use Rattle.rc_store.proofs.Imports.{PassSeen, idle, idle_already}
use Rattle.rc_store.proofs.store.Store.release_all.Goals as goal

pub returns-clause-value : goal.returns-clause-value
returns-clause-value g c =
    idle_already c.release_last.new.pass
    (ap (λ (q : PassSeen). q.held) c.in_default.ensures.none.1 ∙ c.in_default.ensures.none.0) c.held_agrees.ensures
    ∙ ap idle c.in_default.ensures.none.1
    ∙ c.loop-stripe.invariant.2
