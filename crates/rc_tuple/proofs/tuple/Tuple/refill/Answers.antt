use Rattle.std.proofs.Common.{◌≡◌, ◌<◌, ◌^◌, take, sym, ◌∙◌, ap, subst, arith}
use Rattle.rc_tuple.proofs.Imports.{zip, take_all, IsRising, put, in_from_places, rising_gather, IsTuple, pair_cmp, tuple_of, IsTuple-tuple_of, pair_order, tuple_of_next}
use Rattle.rc_tuple.proofs.tuple.Tuple.refill.Goals as goal

pub put_reserved-requires-clause-rising : goal.put_reserved-requires-clause-rising
put_reserved-requires-clause-rising c =
    subst (IsRising pair_cmp) (sym c.loop-place.invariant.items)
    (rising_gather pair_cmp pair_order (zip (take c.loop-place.place c.args.cols.now) (take c.loop-place.place c.args.vals.now)))

pub loop-place-preserved : goal.loop-place-preserved
loop-place-preserved c = record {
  items =
      c.put_reserved.ensures.items ∙ ap (put pair_cmp _) c.loop-place.invariant.items
      ∙ sym (tuple_of_next c.args.cols.now c.args.vals.now c.loop-place.place c.requires.fits (omega arith));
  len = let more = c.put_reserved.ensures.len in let few = c.loop-place.invariant.len in omega arith;
  room = let more = c.put_reserved.ensures.capacity in let room = c.loop-place.invariant.room in omega arith;
}

pub invariant_of-self-in-loop-place : goal.invariant_of-self-in-loop-place
invariant_of-self-in-loop-place c =
    let whole : c.loop-place.self-inside.pairs.items ≡ tuple_of c.args.cols.now c.args.vals.now =
    c.loop-place.invariant.items
    ∙ ap (λ l. tuple_of l (take c.loop-place.place c.args.vals.now)) (take_all c.loop-place.place c.args.cols.now (omega arith))
    ∙ ap (tuple_of c.args.cols.now) (take_all c.loop-place.place c.args.vals.now (let e = c.requires.fits in omega arith)) in
    subst IsTuple (sym whole)
    (IsTuple-tuple_of c.args.cols.now c.args.vals.now c.requires.distinct c.requires.below
    (in_from_places (λ v. v < 2 ^ 64) 0 c.args.vals.now (λ i h. let f = c.type_inv.vals i in omega arith)))
