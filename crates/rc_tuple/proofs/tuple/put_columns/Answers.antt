use Rattle.std.proofs.Common.{◌≡◌, ◌+◌, ◌<◌, true, ℕ, List, sym, ◌∙◌, ap, subst, arith, refl, get_or, length, vec_capacity, vec_len}
use Rattle.rc_tuple.proofs.Imports.{cond, has, rank, rank-le, rank_more, rank_within, IsRising, put, in_has, Pairs, merge, pair_cmp, merge_none, merge_with, rising_merge, zip_below, zip_below_all, zip_below_with, zip_below_without}
use Rattle.rc_tuple.proofs.tuple.put_columns.Goals.{Then-has, then-has, else-has}
use Rattle.rc_tuple.proofs.tuple.put_columns.Goals as goal

pub loop-col-init : goal.loop-col-init
loop-col-init c = record {
  items = sym (merge_none c.args.pairs.now.items c.requires.rising);
  place = refl;
  room = let room = c.requires.room in omega (arith, room);
}

-- at a column of the set there is a next value
there : (c : Then-has) → has c.args.cols c.loop-col.col ≡ true
there c = sym c.has.ensures.found ∙ c.if-has.true

within : (c : Then-has) → (c.loop-col.place < length c.args.vals.now) × (c.loop-col.place < 32)
within c =
    let place = c.loop-col.invariant.place in
    let next = rank_within c.args.cols c.loop-col.col c.has.ensures.set (there c) in
    let below : c.loop-col.col < 32 = c.has.ensures.set.below c.loop-col.col (in_has c.args.cols c.loop-col.col (there c)) in
    (omega (arith, next, c.requires.fits, place), omega (arith, place, rank-le c.args.cols c.loop-col.col, below))

pub offset_bounds-vals-place : goal.offset_bounds-vals-place
offset_bounds-vals-place c = let w = (within (goal.at.offset_bounds-vals-place c).Then-has).1 in omega (arith, w)

pub bounds-vals-place : goal.bounds-vals-place
bounds-vals-place c = (within (goal.at.bounds-vals-place c).Then-has).0

pub put_reserved-requires-clause-rising : goal.put_reserved-requires-clause-rising
put_reserved-requires-clause-rising c =
    subst (IsRising pair_cmp) (sym c.loop-col.invariant.items) (rising_merge c.args.pairs.now.items (zip_below c.args.cols c.args.vals.now c.loop-col.col))

pub put_reserved-requires-clause-room : goal.put_reserved-requires-clause-room
put_reserved-requires-clause-room c =
    let w = (within (goal.at.put_reserved-requires-clause-room c).Then-has).0 in let room = c.loop-col.invariant.room in omega (arith, w, room)

pub overflow_add-place : goal.overflow_add-place
overflow_add-place c = let w = (within (goal.at.overflow_add-place c).Then-has).1 in omega (arith, w)

pub loop-col-preserved : goal.loop-col-preserved
loop-col-preserved c =
    let cols : List ℕ = c.args.cols in
    let vals : List ℕ = c.args.vals.now in
    let before : Pairs = c.args.pairs.now.items in
    let col : ℕ = c.loop-col.col in
    let was = c.loop-col.invariant in
    let more = rank_more cols col in
    elim c.if-has.branch [
      | then-has w ↦
          let there : has cols col ≡ true = sym c.has.ensures.found ∙ w.if-has.true in
          let next = rank_within cols col c.has.ensures.set there in
          let one : rank cols (col + 1) ≡ rank cols col + 1 = more ∙ ap (λ b. rank cols col + cond b 1 0) there in
          record {
            items =
                ap (λ v. v.items) w.pairs-is ∙ w.put_reserved.ensures.items
                ∙ (λ i. put pair_cmp (col, get_or vals (was.place i) 0) (was.items i))
                ∙ sym (merge_with before (zip_below cols vals col) (col, get_or vals (rank cols col) 0))
                ∙ ap (merge before) (zip_below_with cols vals col c.has.ensures.set c.requires.fits there);
            place = omega (arith, w.place-is, was.place, one);
            room = omega (arith, was.room, was.place, next, c.requires.fits, w.place-is, ap vec_len w.pairs-is, ap vec_capacity w.pairs-is, w.put_reserved.ensures.len, w.put_reserved.ensures.capacity);
          }
      | else-has w ↦
          let none = sym c.has.ensures.found ∙ w.if-has.false in
          let same : rank cols (col + 1) ≡ rank cols col + 0 = more ∙ ap (λ b. rank cols col + cond b 1 0) none in
          record {
            items = ap (λ v. v.items) w.pairs-is ∙ was.items ∙ ap (merge before) (zip_below_without cols vals col none);
            place = omega (arith, w.place-is, was.place, same);
            room = omega (arith, was.room, w.place-is, ap vec_len w.pairs-is, ap vec_capacity w.pairs-is);
          }
    ]

pub returns-clause-items : goal.returns-clause-items
returns-clause-items c =
    let end : c.loop-col.col ≡ 32 = omega arith in
    c.loop-col.invariant.items ∙ ap (λ n. merge c.args.pairs.now.items (zip_below c.args.cols c.args.vals.now n)) end
    ∙ ap (merge c.args.pairs.now.items) (zip_below_all c.args.cols c.args.vals.now c.within.ensures.set c.requires.fits)
