use Rattle.std.proofs.Common.{◌≡◌, ap, map, subst, sym, ◌∙◌}
use Rattle.rc_machine.proofs.Imports.{raised, edge_numbers, Holding, held_of, raised_all, CanAddTuple, CanChange, all_changed, place_in, classes_of}
use Rattle.rc_machine.proofs.ClassLemmas.{all_among, are_places, can_insert_place, changed_by_class, each_place, each_raised}
use Rattle.rc_machine.proofs.ReadLemmas.{on_ok}
use Rattle.rc_machine.proofs.apply.add_rows.Given.{Over}
use Rattle.rc_machine.proofs.apply.add_rows.Goals.{After-deref}
use Rattle.rc_machine.proofs.apply.add_rows.Goals as goal

-- the places are those of the classes of all edges
placed : (g : Over) (c : After-deref g) → c.deref.result.now ≡ map (place_in c.args.compiled.now.spec c.args.tuple.now) (classes_of c.args.compiled.now.spec (edge_numbers c.args.compiled.now.spec))
placed g c = c.deref.ensures.value ∙ c.in_ok-place_classes.ensures

pub add_placed-requires-clause-places : goal.add_placed-requires-clause-places
add_placed-requires-clause-places g c =
    let spec = c.args.compiled.now.spec in are_places spec c.requires.sealed c.args.tuple.now (edge_numbers spec) (λ e m. m) c.deref.result.now (placed g c)

pub add_placed-requires-clause-can : goal.add_placed-requires-clause-can
add_placed-requires-clause-can g c =
    let spec = c.args.compiled.now.spec in
    let t = c.args.tuple.now in
    let s : Holding = g.H.Holder.seen c.args.holder.now in
    each_place spec c.requires.sealed t (edge_numbers spec) (λ e m. m) c.deref.result.now (placed g c) (CanChange CanAddTuple s.table (held_of s) t)
    (λ k m among. subst (λ z. CanChange CanAddTuple z (held_of s) t (place_in spec t k)) (sym c.requires.table) (can_insert_place spec c.requires.sealed t c.requires.can.whole (held_of s) k c.requires.can among))

pub returns-clause-ok : goal.returns-clause-ok
returns-clause-ok g c =
    let spec = c.args.compiled.now.spec in
    let t = c.args.tuple.now in
    let s : Holding = g.H.Holder.seen c.args.holder.now in
    on_ok c.add_placed.result (λ is.
    changed_by_class raised raised_all each_raised spec t c.requires.sealed c.requires.can.whole (edge_numbers spec) s.table c.deref.result.now (held_of s) (held_of (g.H.Holder.seen c.add_placed.new.holder)) is
    c.requires.table (placed g (goal.at.returns-clause-ok g c).After-deref) c.requires.can.counted
    ∙ ap (λ edges. all_changed raised spec t edges (held_of s)) (all_among spec (edge_numbers spec) (λ e m. m))) c.add_placed.ensures.ok
