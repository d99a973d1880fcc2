use Rattle.std.proofs.Common.{◌∙◌, refl, sym, subst, arith}
use Rattle.rc_multi.proofs.Imports.{get_or_in, In, Call, held_of, plan_at, IsGroupAt, first_at, next_at, now_at, suffice_still, all_taken, lent_again}
use Rattle.rc_multi.proofs.group.run_group.Goals as goal

pub loop-call-init : goal.loop-call-init
loop-call-init g c =
    let held = held_of (g.H.Holder.seen c.args.holder.now) in
    record {
      at = subst (IsGroupAt c.args.compiled.now.spec c.args.calls.now 0 (all_taken held) held) (sym c.clear.ensures.items)
          (first_at c.args.compiled.now.spec c.args.calls.now held c.requires.unchanged c.requires.relation c.requires.rising);
      sound = c.requires.sound;
      lent = refl;
    }

pub run_in_group-requires-clause-covered : goal.run_in_group-requires-clause-covered
run_in_group-requires-clause-covered g c =
    suffice_still c.args.compiled.now c.args.calls.now (held_of (g.H.Holder.seen c.args.holder.now)) (held_of (g.H.Holder.seen c.loop-call.holder)) c.loop-call.invariant.at.taken c.requires.covered
    c.call-item.result (subst (λ (x : Call). In x c.args.calls.now) (sym c.call-item.is) (get_or_in c.args.calls.now c.loop-call.call-index c.call-item.result c.loop-call-test.true))

pub run_in_group-requires-clause-now : goal.run_in_group-requires-clause-now
run_in_group-requires-clause-now g c =
    now_at c.args.compiled.now.spec c.args.calls.now c.requires.fit (all_taken (held_of (g.H.Holder.seen c.args.holder.now))) c.loop-call.call-index
    (held_of (g.H.Holder.seen c.loop-call.holder)) c.loop-call.replies.items (let l = c.loop-call-test.true in omega (arith, l)) c.loop-call.invariant.at

pub loop-call-preserved : goal.loop-call-preserved
loop-call-preserved g c =
    let first = all_taken (held_of (g.H.Holder.seen c.args.holder.now)) in
    let new = held_of (g.H.Holder.seen c.run_in_group.new.holder) in
    record {
      at = subst (IsGroupAt c.args.compiled.now.spec c.args.calls.now _ first new) (sym c.in_ok-push.ensures.items)
          (next_at c.args.compiled.now.spec c.args.calls.now c.requires.fit first c.loop-call.call-index (held_of (g.H.Holder.seen c.loop-call.holder)) new c.loop-call.replies.items
          (plan_at c.args.compiled.now.plans c.call-item.result.op) c.call-item.result c.in_ok-reply.reply c.loop-call-test.true c.call-item.is c.loop-call.invariant.at c.in_ok-reply.ensures.ran.ran);
      sound = c.run_in_group.ensures.sound;
      lent = lent_again (g.H.Holder.seen c.args.holder.now) (g.H.Holder.seen c.loop-call.holder) (g.H.Holder.seen c.run_in_group.new.holder) c.loop-call.invariant.lent c.run_in_group.ensures.lent;
    }
