use Rattle.std.proofs.Common.{◌∙◌, sym, ap, set, arith}
use Rattle.rc_embed.specs.Session.{replies_of}
use Rattle.rc_embed.proofs.FrameLemmas.{told_all, told_more, told_none}
use Rattle.rc_embed.proofs.frame.tell_replies.Goals.{in-Some, in_default}
use Rattle.rc_embed.proofs.frame.tell_replies.Goals as goal

pub loop-at-preserved : goal.loop-at-preserved
loop-at-preserved c =
    elim c.match-reply_at.branch [
      | in-Some w ↦
          w.frames-is
          ∙ ap (set c.loop-at.frames c.loop-at.at) w.tell_reply.ensures
          ∙ told_more (replies_of c.args.session.now) c.args.frames.now c.loop-at.frames c.loop-at.at w.in-Some.reply.now _
          c.requires c.loop-at-test.true (sym w.in-Some.ensures.reply) c.loop-at.invariant
      | in_default w ↦
          absurd (told_none (replies_of c.args.session.now) c.args.frames.now c.loop-at.at c.requires c.loop-at-test.true
          (sym w.in_default.ensures.reply))
    ]

pub returns : goal.returns
returns c =
    let many = c.loop-at.auto.at-end in
    let end = c.loop-at-test.false in
    c.loop-at.invariant ∙ told_all (replies_of c.args.session.now) c.args.frames.now c.loop-at.at c.requires (omega (arith, many, end))
