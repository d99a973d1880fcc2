use Rattle.rc_fragment.proofs.Imports.{[], sym, subst, List, now_in, AreNoted, IsFragment, EdgeRows}
use Rattle.rc_fragment.proofs.ChangeLemmas.{same_listing}
use Rattle.rc_fragment.proofs.PlaceLemmas.{fragment_clear}
use Rattle.rc_fragment.proofs.RowLemmas.{filed_now}
use Rattle.rc_fragment.proofs.changes.settle_noted.Goals as goal

pub sweep_places-requires-clause-noted : goal.sweep_places-requires-clause-noted
sweep_places-requires-clause-noted c =
    let edges : List EdgeRows = c.args.edges.now.items in
    subst (λ z. AreNoted edges z c.deref.result.now) (sym c.deref-2.ensures.value) (subst (AreNoted edges c.args.values.now.items) (sym c.deref.ensures.value) c.requires.noted)

pub returns-clause-fragment : goal.returns-clause-fragment
returns-clause-fragment c =
    let new : List EdgeRows = c.sweep_places.new.edges.items in
    subst (λ z. IsFragment new z c.forget.new.values.items) (sym c.forget.ensures.notes) (subst (IsFragment new []) (sym c.forget.ensures.values)
    (fragment_clear new c.sweep_places.ensures.stored c.sweep_places.ensures.swept c.sweep_places.ensures.emptied))

pub returns-clause-now : goal.returns-clause-now
returns-clause-now c =
    let edges : List EdgeRows = c.args.edges.now.items in
    let new : List EdgeRows = c.sweep_places.new.edges.items in
    same_listing now_in now_in new edges (filed_now new c.sweep_places.ensures.stored) (filed_now edges c.requires.stored) c.sweep_places.ensures.shapes c.sweep_places.ensures.now
