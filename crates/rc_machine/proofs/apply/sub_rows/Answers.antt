use Rattle.std.proofs.Common.{◌≡◌, ap, map, subst, sym, ◌∙◌}
use Rattle.rc_machine.proofs.Imports.{lowered, edge_numbers, Holding, held_of, lowered_all, HasTuple, CanChange, all_changed, place_in, classes_of}
use Rattle.rc_machine.proofs.ClassLemmas.{all_among, are_places, can_remove_place, changed_by_class, each_place, each_lowered}
use Rattle.rc_machine.proofs.ReadLemmas.{on_ok}
use Rattle.rc_machine.proofs.apply.sub_rows.Given.{Over}
use Rattle.rc_machine.proofs.apply.sub_rows.Goals.{After-deref}
use Rattle.rc_machine.proofs.apply.sub_rows.Goals as goal

-- the places are those of the classes of all edges
placed : (g : Over) (c : After-deref g) → c.deref.result.now ≡ map (place_in c.args.compiled.now.spec c.args.tuple.now) (classes_of c.args.compiled.now.spec (edge_numbers c.args.compiled.now.spec))
placed g c = c.deref.ensures.value ∙ c.in_ok-place_classes.ensures

pub sub_placed-requires-clause-places : goal.sub_placed-requires-clause-places
sub_placed-requires-clause-places g c =
    let spec = c.args.compiled.now.spec in are_places spec c.requires.sealed c.args.tuple.now (edge_numbers spec) (λ e m. m) c.deref.result.now (placed g c)

pub sub_placed-requires-clause-can : goal.sub_placed-requires-clause-can
sub_placed-requires-clause-can g c =
    let spec = c.args.compiled.now.spec in
    let t = c.args.tuple.now in
    let s : Holding = g.H.Holder.seen c.args.holder.now in
    each_place spec c.requires.sealed t (edge_numbers spec) (λ e m. m) c.deref.result.now (placed g c) (CanChange HasTuple s.table (held_of s) t)
    (λ k m among. subst (λ z. CanChange HasTuple z (held_of s) t (place_in spec t k)) (sym c.requires.table) (can_remove_place spec c.requires.sealed t c.requires.can.whole (held_of s) k c.requires.can among))

pub returns-clause-ok : goal.returns-clause-ok
returns-clause-ok g c =
    let spec = c.args.compiled.now.spec in
    let t = c.args.tuple.now in
    let s : Holding = g.H.Holder.seen c.args.holder.now in
    on_ok c.sub_placed.result (λ is.
    changed_by_class lowered lowered_all each_lowered spec t c.requires.sealed c.requires.can.whole (edge_numbers spec) s.table c.deref.result.now (held_of s) (held_of (g.H.Holder.seen c.sub_placed.new.holder)) is
    c.requires.table (placed g (goal.at.returns-clause-ok g c).After-deref) c.requires.can.counted
    ∙ ap (λ edges. all_changed lowered spec t edges (held_of s)) (all_among spec (edge_numbers spec) (λ e m. m))) c.sub_placed.ensures.ok
