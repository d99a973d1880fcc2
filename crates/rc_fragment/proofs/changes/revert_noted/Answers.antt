use Rattle.std.proofs.Common.{[], sym, subst, ◌∙◌}
use Rattle.rc_fragment.proofs.Imports.{List, now_in, AreNoted, IsFragment, taken_rows, EdgeRows}
use Rattle.rc_fragment.proofs.ChangeLemmas.{same_listing}
use Rattle.rc_fragment.proofs.PlaceLemmas.{fragment_clear}
use Rattle.rc_fragment.proofs.RowLemmas.{filed_now}
use Rattle.rc_fragment.proofs.changes.revert_noted.Goals as goal

pub sweep_places-requires-clause-noted : goal.sweep_places-requires-clause-noted
sweep_places-requires-clause-noted c =
    let mid : List EdgeRows = c.put_back_places.new.edges.items in
    subst (λ z. AreNoted mid z c.deref-3.result.now) (c.deref-2.ensures.value ∙ sym c.deref-4.ensures.value) (subst (AreNoted mid c.deref-2.result.now) (c.deref.ensures.value ∙ sym c.deref-3.ensures.value) c.put_back_places.ensures.noted)

pub returns-clause-fragment : goal.returns-clause-fragment
returns-clause-fragment c =
    let new : List EdgeRows = c.sweep_places.new.edges.items in
    subst (λ z. IsFragment new z c.forget.new.values.items) (sym c.forget.ensures.notes) (subst (IsFragment new []) (sym c.forget.ensures.values)
    (fragment_clear new c.sweep_places.ensures.stored c.sweep_places.ensures.swept c.sweep_places.ensures.emptied))

pub returns-clause-now : goal.returns-clause-now
returns-clause-now c =
    let mid : List EdgeRows = c.put_back_places.new.edges.items in
    let new : List EdgeRows = c.sweep_places.new.edges.items in
    same_listing now_in now_in new mid (filed_now new c.sweep_places.ensures.stored) (filed_now mid c.put_back_places.ensures.stored) c.sweep_places.ensures.shapes c.sweep_places.ensures.now
    ∙ c.put_back_places.ensures.now ∙ (λ i. taken_rows c.args.edges.now.items (c.deref.ensures.value i) (c.deref-2.ensures.value i))
