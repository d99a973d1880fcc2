-- A prepared call, a prepared group and an open one may go to another thread.
use denote.Param.Send.{IsSend, sendable}
use Rattle.std.proofs.Crossing.{crosses}
use Rattle.rc_row.proofs.pass.Pass.TheSendSync as pass
use Rattle.rc_rel.proofs.entry.Step.TheSendSync as step
use Rattle.rc_rel.proofs.entry.Entry.TheSendSync as entry
use Rattle.rc_spec.proofs.call.Call.TheSendSync as call
use Rattle.rc_spec.proofs.call.Reply.TheSendSync as reply
use Rattle.rc_store.specs.contracts.open_group.OpenGroup as open_group
use Rattle.rc_store.specs.contracts.running.Prepared as prepared
use Rattle.rc_store.specs.contracts.running_group.PreparedGroup as prepared_group
use Rattle.rc_store.specs.contracts.running_group.RunningGroup as running_group
use Rattle.rc_store.specs.contracts.running.Running as running
use Rattle.rc_embed.specs.contracts.session.Last as last
use Rattle.rc_embed.specs.contracts.session.State as state

prepared_field_sends : IsSend prepared.the_field.row
prepared_field_sends = search (step.the_field_send, step.the_send, entry.the_field_send, entry.the_send, sendable) depth 20

prepared_sends : IsSend prepared.the_row
prepared_sends = search (step.the_field_send, step.the_send, entry.the_field_send, entry.the_send, sendable) depth 20

pub running_sends : IsSend running.the_row
running_sends = search (pass.the_send, step.the_field_send, step.the_send, prepared_sends, prepared_field_sends, sendable, crosses) depth 20

prepared_group_field_sends : IsSend prepared_group.the_field.row
prepared_group_field_sends = search (call.the_field_send, call.the_send, reply.the_send, entry.the_field_send, entry.the_send, sendable, crosses) depth 20

prepared_group_sends : IsSend prepared_group.the_row
prepared_group_sends = search (call.the_field_send, call.the_send, reply.the_send, entry.the_field_send, entry.the_send, sendable, crosses) depth 20

pub running_group_sends : IsSend running_group.the_row
running_group_sends = search (pass.the_send, prepared_group_sends, prepared_group_field_sends, sendable, crosses) depth 20

pub open_group_sends : IsSend open_group.the_row
open_group_sends = search (pass.the_send, prepared_group_sends, prepared_group_field_sends, sendable, crosses) depth 20

-- what a session does, and what its last receipt gave
pub last_field_sends : IsSend last.the_field.row
last_field_sends = search (reply.the_field_send, reply.the_send, sendable, crosses) depth 20

pub last_sends : IsSend last.the_row
last_sends = search (reply.the_field_send, reply.the_send, last_field_sends, sendable, crosses) depth 20

pub state_field_sends : IsSend state.the_field.row
state_field_sends = search (pass.the_send, running_sends, running_group_sends, open_group_sends, sendable, crosses) depth 20

pub state_sends : IsSend state.the_row
state_sends = search (pass.the_send, running_sends, running_group_sends, open_group_sends, state_field_sends, sendable, crosses) depth 20
