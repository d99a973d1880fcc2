use Rattle.std.proofs.Common.{◌≡◌}
use Rattle.rc_embed.specs.Session.{replies_of}
use Rattle.rc_embed.proofs.FrameLemmas.{told_so_far}
use Rattle.rc_embed.proofs.frame.tell_replies.Given as goal

abbrev pub invariant-loop-at : goal.invariant-loop-at
invariant-loop-at l = l.frames ≡ told_so_far (replies_of l.session) l.fn.frames l.at
