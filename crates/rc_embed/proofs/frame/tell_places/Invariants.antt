use Rattle.std.proofs.Common.{◌≡◌, ◌++◌, drop, map, take}
use Rattle.rc_embed.specs.Frames.{with_place}
use Rattle.rc_embed.proofs.frame.tell_places.Given as goal

abbrev pub invariant-loop-frame : goal.invariant-loop-frame
invariant-loop-frame l =
    l.frames ≡ map (with_place l.at) (take l.frame-index l.initial.frames) ++ drop l.frame-index l.initial.frames
