use Rattle.std.proofs.Common.{◌≡◌, ◌+◌, [], ap, arith, subst, sym, ◌∙◌}
use Rattle.rc_machine.proofs.Imports.{range_with_len, range_with_len_more, Class, class_at, class_of, placed_total, band_start, held_of, with_tuples, HasMergedOn, TakesMerges, Spec, All}
use Rattle.rc_machine.proofs.LockLemmas.{locked_known}
use Rattle.rc_machine.proofs.ReadLemmas.{class_known, in_band_from, on_more, same_takes}
use Rattle.rc_machine.proofs.read.push_from_band.Goals as goal

pub overflow_add-start : goal.overflow_add-start
overflow_add-start g c =
    let spec : Spec = c.args.read.now.spec.now in
    let class = class_of spec c.args.read.now.edge in
    let placed = c.requires.read.sealed.accepted.placed in
    let there = in_band_from spec class c.args.read.now.class.now c.args.read.now.resolved.now.start c.loop-place.place c.requires.read.resolved.class c.requires.read.resolved.edge.start c.loop-place-test.true in
    let below = locked_known spec placed class All [] (class_known spec c.requires.read.sealed c.args.read.now.edge c.requires.read.known) (c.args.read.now.resolved.now.start + c.loop-place.place) there in
    let total = placed_total spec placed in
    omega (arith, below, total)

pub push_found-requires-clause-held : goal.push_found-requires-clause-held
push_found-requires-clause-held g c =
    c.requires.held (c.args.read.now.resolved.now.start + c.loop-place.place)
    (in_band_from c.args.read.now.spec.now (class_of c.args.read.now.spec.now c.args.read.now.edge) c.args.read.now.class.now c.args.read.now.resolved.now.start c.loop-place.place c.requires.read.resolved.class c.requires.read.resolved.edge.start c.loop-place-test.true)

pub push_found-requires-clause-takes : goal.push_found-requires-clause-takes
push_found-requires-clause-takes g c = subst (TakesMerges c.args.read.now.spec.now c.args.read.now.edge c.args.binding.now) (sym c.loop-place.invariant.same) (same_takes c.args.read.now.spec.now c.args.read.now.edge c.args.binding.now c.args.found.now c.loop-place.found.tuples c.requires.takes)

pub loop-place-preserved : goal.loop-place-preserved
loop-place-preserved g c = record {
  merged = subst (λ z. HasMergedOn c.args.binding.now.tuple c.args.read.now.edge (held_of (g.H.Holder.seen c.args.holder.now)) z c.args.found.now.tuples c.push_found.new.found.tuples) (sym (range_with_len_more c.args.read.now.resolved.now.start c.loop-place.place))
      (on_more c.args.binding.now.tuple c.args.read.now.edge (held_of (g.H.Holder.seen c.args.holder.now)) (range_with_len c.args.read.now.resolved.now.start c.loop-place.place) (c.args.read.now.resolved.now.start + c.loop-place.place)
      c.args.found.now.tuples c.loop-place.found.tuples c.push_found.new.found.tuples c.loop-place.invariant.merged c.in_ok-push_found.ensures.merged);
  same = c.in_ok-push_found.ensures.same ∙ ap (λ z. with_tuples z c.push_found.new.found.tuples) c.loop-place.invariant.same;
}

pub returns-clause-merged : goal.returns-clause-merged
returns-clause-merged g c =
    let class : Class = class_at c.args.read.now.spec.now (class_of c.args.read.now.spec.now c.args.read.now.edge) in
    let stripes : c.args.read.now.class.now.stripes ≡ class.stripes = ap (λ (z : Class). z.stripes) c.requires.read.resolved.class in
    let place : c.loop-place.place ≡ class.stripes = let l = c.loop-place-test.false in let k = c.loop-place.auto.place-end in omega (arith, l, k, stripes) in
    subst (λ z. HasMergedOn c.args.binding.now.tuple c.args.read.now.edge (held_of (g.H.Holder.seen c.args.holder.now)) z c.args.found.now.tuples c.loop-place.found.tuples)
    (ap (λ k. range_with_len k c.loop-place.place) c.requires.read.resolved.edge.start ∙ ap (range_with_len (band_start c.args.read.now.spec.now (class_of c.args.read.now.spec.now c.args.read.now.edge))) place) c.loop-place.invariant.merged
