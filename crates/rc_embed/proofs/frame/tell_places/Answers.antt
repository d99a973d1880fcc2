use Rattle.std.proofs.Common.{◌∙◌, ap, set}
use Rattle.rc_embed.specs.Frames.{with_place}
use Rattle.rc_embed.proofs.FrameLemmas.{placed_more}
use Rattle.rc_embed.proofs.frame.tell_places.Goals as goal

pub loop-frame-preserved : goal.loop-frame-preserved
loop-frame-preserved c =
    let all = c.loop-frame.frames in
    let at = c.loop-frame.frame-index in
    ap (set all at) c.tell_place.ensures
    ∙ placed_more (with_place c.args.at) c.args.frames.now all at _ c.loop-frame-test.true c.loop-frame.auto.frames c.loop-frame.invariant
