use Rattle.std.proofs.Common.{◌≡◌, true, ◌<◌, ◌^◌, ◌∙◌, ◌∷◌, ◌++◌, [], ap, sym, subst, length, get_or, arith}
use Rattle.rc_tuple.proofs.Imports.{zip, has, rank, rank_within, in_from_places, IsTuple, IsTuple-zip, zip_below, length-zip_below, zip_below_all, zip_below_with, zip_below_without}
use Rattle.rc_tuple.proofs.tuple.zipped.Goals as goal
use Rattle.rc_tuple.proofs.tuple.zipped.Goals.{then-has+in_ok-push, else-has}

pub bounds-vals-len : goal.bounds-vals-len
bounds-vals-len c =
    let same : length c.args.vals.now ≡ length c.args.cols = c.requires in
    let below : rank c.args.cols c.loop-col.col < length c.args.cols = rank_within c.args.cols c.loop-col.col c.has.ensures.set (sym c.has.ensures.found ∙ c.if-has.true) in
    let pairs : length c.loop-col.pairs.items ≡ rank c.args.cols c.loop-col.col =
    ap length c.loop-col.invariant ∙ length-zip_below c.args.cols c.args.vals.now c.loop-col.col same (omega arith) in
    omega (arith, c.len-then-has.ensures, pairs)

pub offset_bounds-vals-len : goal.offset_bounds-vals-len
offset_bounds-vals-len c =
    let same : length c.args.vals.now ≡ length c.args.cols = c.requires in
    let below : rank c.args.cols c.loop-col.col < length c.args.cols = rank_within c.args.cols c.loop-col.col c.has.ensures.set (sym c.has.ensures.found ∙ c.if-has.true) in
    let pairs : length c.loop-col.pairs.items ≡ rank c.args.cols c.loop-col.col =
    ap length c.loop-col.invariant ∙ length-zip_below c.args.cols c.args.vals.now c.loop-col.col same (omega arith) in
    omega (arith, c.len-then-has.ensures, pairs, c.len.ensures.value, c.len.ensures.bound)

pub loop-col-preserved : goal.loop-col-preserved
loop-col-preserved c =
    elim c.if-has.branch [
      | then-has+in_ok-push w ↦
          let has : has c.args.cols c.loop-col.col ≡ true = sym c.has.ensures.found ∙ w.if-has.true in
          let same : length c.args.vals.now ≡ length c.args.cols = c.requires in
          let below : rank c.args.cols c.loop-col.col < length c.args.cols = rank_within c.args.cols c.loop-col.col c.has.ensures.set has in
          let place : w.len-then-has.result ≡ rank c.args.cols c.loop-col.col =
          omega (arith, w.len-then-has.ensures, ap length c.loop-col.invariant ∙ length-zip_below c.args.cols c.args.vals.now c.loop-col.col same (omega arith)) in
          ap (λ v. v.items) w.pairs-is ∙ w.in_ok-push.ensures.items
          ∙ (λ i. c.loop-col.invariant i ++ (c.loop-col.col, get_or c.args.vals.now (place i) 0) ∷ [])
          ∙ zip_below_with c.args.cols c.args.vals.now c.loop-col.col c.has.ensures.set same has
      | else-has w ↦
          ap (λ v. v.items) w.pairs-is ∙ c.loop-col.invariant ∙ zip_below_without c.args.cols c.args.vals.now c.loop-col.col (sym c.has.ensures.found ∙ w.if-has.false)
    ]

pub returns : goal.returns
returns c =
    let end : c.loop-col.col ≡ 32 = omega arith in
    c.loop-col.invariant ∙ ap (zip_below c.args.cols c.args.vals.now) end ∙ zip_below_all c.args.cols c.args.vals.now c.len.ensures.set c.requires

pub invariant_of-result : goal.invariant_of-result
invariant_of-result c =
    let same : length c.args.vals.now ≡ length c.args.cols = c.requires in
    let end : c.loop-col.col ≡ 32 = omega arith in
    let whole : c.loop-col.pairs.items ≡ zip c.args.cols c.args.vals.now =
    c.loop-col.invariant ∙ ap (zip_below c.args.cols c.args.vals.now) end ∙ zip_below_all c.args.cols c.args.vals.now c.len.ensures.set same in
    subst IsTuple (sym whole)
    (IsTuple-zip c.args.cols c.args.vals.now same c.len.ensures.set
    (in_from_places (λ v. v < 2 ^ 64) 0 c.args.vals.now (λ i h. let f = c.type_inv.vals i in omega arith)))
