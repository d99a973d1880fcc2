use denote.Param.Send.{sendable}
use Rattle.std.proofs.Crossing.{crosses}
use Rattle.rc_spec.proofs.call.Call.TheSendSync as call
use Rattle.rc_embed.proofs.shared.Shared.TheSendSync as shared
use Rattle.rc_embed.proofs.SendLemmas.{last_field_sends, last_sends, state_field_sends, state_sends}
use Rattle.rc_embed.proofs.laws.sessions_are_send.Goals as goal

pub sent-requires-send-T : goal.sent-requires-send-T
sent-requires-send-T c κs =
    search (shared.the_send, shared.the_sync, call.the_field_send, call.the_send, last_field_sends, last_sends, state_field_sends, state_sends, sendable, crosses) depth 24
