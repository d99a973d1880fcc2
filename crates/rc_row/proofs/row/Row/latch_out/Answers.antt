use Rattle.std.proofs.Common.{◌≤◌, subst, arith}
use Rattle.rc_row.specs.Passes.{RowSeen}
use Rattle.rc_row.proofs.FoundLemmas.{has_latched, is_latched_out}
use Rattle.rc_row.proofs.ShareLemmas.{free_left, free_may_leave, free_shares, free_slots, free_view, latch_there, lent_copy, lies_there, out_left, out_may_leave, out_shares, slot_there}
use Rattle.rc_row.proofs.row.Row.latch_out.Goals as goal

-- ---- another pass has the latch

pub overflow_cast-result : goal.overflow_cast-result
overflow_cast-result c =
    let told = is_latched_out c.args.self.now.key c.args.seat.now.me c.latch_step-owner.new.seat.me c.args.stripe c.latch_step-owner.result c.if-owner-ne0.true c.latch_step-owner.ensures.told in
    let below = told.keeps_out.0 in
    let few = subst (λ (r : RowSeen). r.key.passes ≤ 255) c.self.view_is c.self.invariant.passes in
    omega arith

pub leave_step-requires-clause-pass : goal.leave_step-requires-clause-pass
leave_step-requires-clause-pass c = out_may_leave c.args.self.now.key c.args.seat.now.me c.latch_step-owner.new.seat.me c.args.stripe c.args.number c.requires.own c.requires.number c.requires.held c.latch_step-owner.result (is_latched_out c.args.self.now.key c.args.seat.now.me c.latch_step-owner.new.seat.me c.args.stripe c.latch_step-owner.result c.if-owner-ne0.true c.latch_step-owner.ensures.told)

pub leave_step-requires-clause-held : goal.leave_step-requires-clause-held
leave_step-requires-clause-held c = out_shares c.args.self.now.key c.args.seat.now.me c.latch_step-owner.new.seat.me c.args.stripe c.args.number c.requires.own c.requires.number c.requires.held c.latch_step-owner.result (is_latched_out c.args.self.now.key c.args.seat.now.me c.latch_step-owner.new.seat.me c.args.stripe c.latch_step-owner.result c.if-owner-ne0.true c.latch_step-owner.ensures.told)

pub returns-then-owner-ne0-clause-missed : goal.returns-then-owner-ne0-clause-missed
returns-then-owner-ne0-clause-missed c = out_left c.args.self.now.key c.args.seat.now.me c.latch_step-owner.new.seat.me c.args.stripe c.args.number c.requires.own c.requires.number c.requires.held c.latch_step-owner.result (is_latched_out c.args.self.now.key c.args.seat.now.me c.latch_step-owner.new.seat.me c.args.stripe c.latch_step-owner.result c.if-owner-ne0.true c.latch_step-owner.ensures.told) c.leave_step.new.seat.me c.leave_step.ensures.told

-- ---- the latch is the pass's

pub share_out-copy-requires-clause-slot : goal.share_out-copy-requires-clause-slot
share_out-copy-requires-clause-slot c = lies_there c.args.self.now.key c.args.seat.now.me c.latch_step-owner.new.seat.me c.args.stripe c.args.number c.requires.own c.requires.number c.requires.held (has_latched c.args.self.now.key c.args.seat.now.me c.latch_step-owner.new.seat.me c.args.stripe c.latch_step-owner.result c.if-owner-ne0.false c.latch_step-owner.ensures.told)

pub unlatch_step-requires-clause-latch : goal.unlatch_step-requires-clause-latch
unlatch_step-requires-clause-latch c = latch_there c.args.self.now.key c.args.seat.now.me c.latch_step-owner.new.seat.me c.args.stripe c.args.number c.requires.own c.requires.number c.requires.held (has_latched c.args.self.now.key c.args.seat.now.me c.latch_step-owner.new.seat.me c.args.stripe c.latch_step-owner.result c.if-owner-ne0.false c.latch_step-owner.ensures.told) c.share_out-copy.new.seat.me c.share_out-copy.ensures.seat.2 c.share_out-copy.ensures.slot

pub unlatch_step-requires-clause-slot : goal.unlatch_step-requires-clause-slot
unlatch_step-requires-clause-slot c = slot_there c.args.self.now.key c.args.seat.now.me c.latch_step-owner.new.seat.me c.args.stripe c.args.number c.requires.own c.requires.number c.requires.held (has_latched c.args.self.now.key c.args.seat.now.me c.latch_step-owner.new.seat.me c.args.stripe c.latch_step-owner.result c.if-owner-ne0.false c.latch_step-owner.ensures.told) c.share_out-copy.new.seat.me c.share_out-copy.ensures.seat.2 c.share_out-copy.ensures.slot

pub returns-in-Some-clause-ok : goal.returns-in-Some-clause-ok
returns-in-Some-clause-ok c = (
  free_view c.args.self.now.key c.args.seat.now.me c.latch_step-owner.new.seat.me c.args.stripe c.args.number c.requires.own c.requires.number c.requires.held (has_latched c.args.self.now.key c.args.seat.now.me c.latch_step-owner.new.seat.me c.args.stripe c.latch_step-owner.result c.if-owner-ne0.false c.latch_step-owner.ensures.told) c.share_out-copy.new.seat.me c.share_out-copy.ensures.seat.2 c.share_out-copy.ensures.slot c.unlatch_step.new.seat.me c.unlatch_step.ensures.told,
  free_slots c.args.self.now.key c.args.seat.now.me c.latch_step-owner.new.seat.me c.args.stripe c.args.number c.requires.own c.requires.number c.requires.held (has_latched c.args.self.now.key c.args.seat.now.me c.latch_step-owner.new.seat.me c.args.stripe c.latch_step-owner.result c.if-owner-ne0.false c.latch_step-owner.ensures.told) c.share_out-copy.new.seat.me c.share_out-copy.ensures.seat.2 c.share_out-copy.ensures.slot c.unlatch_step.new.seat.me c.unlatch_step.ensures.told,
  lent_copy c.args.self.now.key c.args.seat.now.me c.latch_step-owner.new.seat.me c.args.stripe c.args.number c.requires.own c.requires.number c.requires.held (has_latched c.args.self.now.key c.args.seat.now.me c.latch_step-owner.new.seat.me c.args.stripe c.latch_step-owner.result c.if-owner-ne0.false c.latch_step-owner.ensures.told) c.in-Some.keep c.in-Some.ensures.copy,
)

pub leave_step-requires-in-None-clause-pass : goal.leave_step-requires-in-None-clause-pass
leave_step-requires-in-None-clause-pass c = free_may_leave c.args.self.now.key c.args.seat.now.me c.latch_step-owner.new.seat.me c.args.stripe c.args.number c.requires.own c.requires.number c.requires.held (has_latched c.args.self.now.key c.args.seat.now.me c.latch_step-owner.new.seat.me c.args.stripe c.latch_step-owner.result c.if-owner-ne0.false c.latch_step-owner.ensures.told) c.share_out-copy.new.seat.me c.share_out-copy.ensures.seat.2 c.share_out-copy.ensures.slot c.unlatch_step.new.seat.me c.unlatch_step.ensures.told

pub leave_step-requires-in-None-clause-held : goal.leave_step-requires-in-None-clause-held
leave_step-requires-in-None-clause-held c = free_shares c.args.self.now.key c.args.seat.now.me c.latch_step-owner.new.seat.me c.args.stripe c.args.number c.requires.own c.requires.number c.requires.held (has_latched c.args.self.now.key c.args.seat.now.me c.latch_step-owner.new.seat.me c.args.stripe c.latch_step-owner.result c.if-owner-ne0.false c.latch_step-owner.ensures.told) c.share_out-copy.new.seat.me c.share_out-copy.ensures.seat.2 c.share_out-copy.ensures.slot c.unlatch_step.new.seat.me c.unlatch_step.ensures.told

pub returns-in-None-clause-memory : goal.returns-in-None-clause-memory
returns-in-None-clause-memory c = free_left c.args.self.now.key c.args.seat.now.me c.latch_step-owner.new.seat.me c.args.stripe c.args.number c.requires.own c.requires.number c.requires.held (has_latched c.args.self.now.key c.args.seat.now.me c.latch_step-owner.new.seat.me c.args.stripe c.latch_step-owner.result c.if-owner-ne0.false c.latch_step-owner.ensures.told) c.share_out-copy.new.seat.me c.share_out-copy.ensures.seat.2 c.share_out-copy.ensures.slot c.unlatch_step.new.seat.me c.unlatch_step.ensures.told c.leave_step-in-None.new.seat.me c.leave_step-in-None.ensures.told
