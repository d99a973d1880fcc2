use Rattle.std.proofs.Common.{Err, ◌<◌, ℕ, get_or, length, refl, subst, sym, ap, ◌∙◌}
use Rattle.rc_machine.proofs.Imports.{get_or_in, IsAbove, MayTake, held_of, goes_on_again, goes_on_same}
use Rattle.rc_machine.proofs.LockLemmas.{counted_on, counted_since, locked_more, locked_none, next_above, refused_one}
use Rattle.rc_machine.proofs.lock.take_all.Given.{Over}
use Rattle.rc_machine.proofs.lock.take_all.Goals.{In-loop-stripe}
use Rattle.rc_machine.proofs.lock.take_all.Goals as goal

-- the next stripe is above those held
above : (g : Over) (c : In-loop-stripe g) → IsAbove (held_of (g.H.Holder.seen c.loop-stripe.holder)) (get_or c.args.stripes.now c.loop-stripe.stripe-index 0)
above g c =
    next_above (g.H.Holder.seen c.args.holder.now) (g.H.Holder.seen c.loop-stripe.holder) c.args.stripes.now c.loop-stripe.stripe-index c.args.mode c.loop-stripe-test.true c.loop-stripe.invariant.locked c.requires.rising c.requires.above

pub loop-stripe-init : goal.loop-stripe-init
loop-stripe-init g c = record {
  locked = locked_none (g.H.Holder.seen c.args.holder.now) c.args.mode;
  goes_on = goes_on_same (g.H.Holder.seen c.args.holder.now);
  counted = λ spec h. refl;
  sound = λ spec h. h;
}

pub take-requires-clause-known : goal.take-requires-clause-known
take-requires-clause-known g c =
    let s : ℕ = get_or c.args.stripes.now c.loop-stripe.stripe-index 0 in
    subst (λ offered. s < length offered) (sym c.loop-stripe.invariant.goes_on.offered) (c.requires.known s (get_or_in c.args.stripes.now c.loop-stripe.stripe-index 0 c.loop-stripe-test.true))

pub take-requires-clause-lent : goal.take-requires-clause-lent
take-requires-clause-lent g c =
    let s : ℕ = get_or c.args.stripes.now c.loop-stripe.stripe-index 0 in
    subst (λ lends. MayTake lends s c.args.mode) (sym c.loop-stripe.invariant.goes_on.lends) (c.requires.lent s (get_or_in c.args.stripes.now c.loop-stripe.stripe-index 0 c.loop-stripe-test.true))

pub take-requires-clause-above : goal.take-requires-clause-above
take-requires-clause-above g c = above g (goal.at.take-requires-clause-above g c).In-loop-stripe

pub returns-in_err-take-clause-refused : goal.returns-in_err-take-clause-refused
returns-in_err-take-clause-refused g c h e =
    let s : ℕ = get_or c.args.stripes.now c.loop-stripe.stripe-index 0 in
    let given = c.from_residual.ensures.1 in
    let is = rw e at given in
    refused_one (g.H.Holder.seen c.args.holder.now) (g.H.Holder.seen c.loop-stripe.holder) (g.H.Holder.seen c.take.new.self) c.args.stripes.now s c.args.mode h c.loop-stripe.invariant.goes_on c.in_err-take.ensures.err
    (above g (goal.at.returns-in_err-take-clause-refused g c).In-loop-stripe) (get_or_in c.args.stripes.now c.loop-stripe.stripe-index 0 c.loop-stripe-test.true) (c.in_err-take.ensures.refused h (ap Err (sym is)))

pub loop-stripe-preserved : goal.loop-stripe-preserved
loop-stripe-preserved g c = record {
  locked = locked_more (g.H.Holder.seen c.args.holder.now) (g.H.Holder.seen c.loop-stripe.holder) c.args.stripes.now c.loop-stripe.stripe-index c.args.mode c.loop-stripe-test.true
      c.loop-stripe.invariant.locked (g.H.Holder.seen c.take.new.self) c.loop-stripe.invariant.goes_on c.in_ok-take.ensures.ok;
  goes_on = goes_on_again (g.H.Holder.seen c.args.holder.now) (g.H.Holder.seen c.loop-stripe.holder) (g.H.Holder.seen c.take.new.self) c.loop-stripe.invariant.goes_on c.in_ok-take.ensures.ok.goes_on;
  counted = λ spec h. c.in_ok-take.ensures.counted spec (c.loop-stripe.invariant.sound spec h) ∙ c.loop-stripe.invariant.counted spec h;
  sound = λ spec h. c.in_ok-take.ensures.sound spec (c.loop-stripe.invariant.sound spec h);
}

pub returns-in_err-take-clause-counted : goal.returns-in_err-take-clause-counted
returns-in_err-take-clause-counted g c spec h =
    let old = g.H.Holder.seen c.loop-stripe.holder in
    let new = g.H.Holder.seen c.take.new.self in
    counted_since c.from_residual.result (g.H.Holder.seen c.args.holder.now) old new (c.loop-stripe.invariant.counted spec h)
    (counted_on c.from_residual.result c.in_err-take.field-0.0 old new c.from_residual.ensures.0 c.from_residual.ensures.1
    (c.in_err-take.ensures.counted spec (c.loop-stripe.invariant.sound spec h)))
