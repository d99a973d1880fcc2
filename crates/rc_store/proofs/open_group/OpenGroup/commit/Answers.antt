use Rattle.rc_store.proofs.Imports.{List, subst, sym, StripeLock, HasMadeOpenGroup, IsOpenOn, OpenGroupSeen, open_group, open_group_seen, steps_in}
use Rattle.rc_store.proofs.open_group.OpenGroup.commit.Goals as goal

pub returns-clause-made : goal.returns-clause-made
returns-clause-made g c =
    let i = c.self.inside in
    let store = c.args.store.now in
    let new = c.commit_open-receipt.new.pass in
    let here : IsOpenOn store (open_group_seen i) = subst (λ (o : OpenGroupSeen). IsOpenOn store o) (sym c.self.view_is) c.requires in
    let over : IsOpenOn store (open_group i.begun.value i.pass c.deref.result.now c.deref-2.result.now (steps_in i.prepared)) =
    subst (λ (x : List StripeLock × List StripeLock). IsOpenOn store (open_group i.begun.value i.pass x.0 x.1 (steps_in i.prepared)))
    (λ j. (sym c.deref.ensures.value j, sym c.deref-2.ensures.value j)) here in
    subst (λ (o : OpenGroupSeen). HasMadeOpenGroup store o.steps o.locks o.begun new c.commit_open-receipt.result) c.self.view_is
    (subst (λ (l : List StripeLock). HasMadeOpenGroup store (steps_in i.prepared) l i.begun.value new c.commit_open-receipt.result) c.deref.ensures.value
    (c.commit_open-receipt.ensures.made i.begun.value over))
