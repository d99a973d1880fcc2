use Rattle.std.proofs.Common.{◌≡◌, ◌<◌, ℕ, List, length, map, take, length-set, sym, ap, ◌∙◌, subst, arith}
use Rattle.rc_embed.proofs.Imports.{AllByRecursion, length-map, take_more_set, Call, Fits, spec_of, call_of, written_columns_at, written_columns_at-few, AskedCall}
use Rattle.rc_embed.proofs.FaultLemmas.{all_more, one_filled, taken_here}
use Rattle.rc_embed.proofs.shared.Shared.refill_all.Goals as goal

pub values-requires : goal.values-requires
values-requires g c =
    let asked = g.A.Asks.asked in
    let spec = spec_of c.args.self.now.row in
    let call = asked c.index-asked-at.result in
    let taken = taken_here asked spec c.args.asked.now c.loop-at.at c.index-asked-at.result
    c.loop-at-test.true c.index-asked-at.is c.requires (length-map c.args.asked.now asked) in
    let few = written_columns_at-few spec call.op c.spec.ensures.known in
    let count = taken.1 in
    omega (arith, few, count)

pub refill_call-requires : goal.refill_call-requires
refill_call-requires g c =
    let asked = g.A.Asks.asked in
    let spec = spec_of c.args.self.now.row in
    let taken = taken_here asked spec c.args.asked.now c.loop-at.at c.index-asked-at.result
    c.loop-at-test.true c.index-asked-at.is c.requires (length-map c.args.asked.now asked) in
    record {
      known = subst (λ (k : ℕ). k < length spec.ops) (sym c.op.ensures) taken.0;
      count =
          c.values.ensures.count ∙ taken.1
          ∙ ap (λ (k : ℕ). length (written_columns_at spec k)) (sym c.op.ensures);
    }

pub loop-at-preserved : goal.loop-at-preserved
loop-at-preserved g c =
    let asked = g.A.Asks.asked in
    let spec = spec_of c.args.self.now.row in
    let xs = c.args.asked.now in
    let calls = c.loop-at.calls.items in
    let at = c.loop-at.at in
    let x = c.index-asked-at.result in
    let made = c.refill_call.new.call in
    let many = length-map xs asked in
    let all = length-map (map asked xs) (λ (a : AskedCall). call_of spec a.op a.values) in
    let call : made ≡ call_of spec (asked x).op (asked x).values =
    c.in_ok-refill_call.ensures.call
    ∙ ap (λ (k : ℕ). call_of spec k c.values.result.now) c.op.ensures
    ∙ ap (call_of spec (asked x).op) c.values.ensures.values in
    let same = length-set calls at made in
    let room = c.loop-at.invariant.0 in
    let below = c.loop-at-test.true in
    let within : at < length calls = omega (arith, room, below) in (
      omega (arith, same, room),
      one_filled asked spec xs at x below c.index-asked-at.is calls made within (omega (arith, many, all)) many
          c.loop-at.invariant.1 call,
      subst (λ (l : List Call). AllByRecursion (Fits spec) l) (sym (take_more_set calls at made within))
          (all_more (Fits spec) (take at calls) made c.loop-at.invariant.2 c.in_ok-refill_call.ensures.fits),
    )
