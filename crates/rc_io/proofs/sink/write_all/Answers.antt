use Rattle.std.proofs.Common.{◌∙◌, arith, length-drop}
use Rattle.rc_io.proofs.Pieces.{adds_next}
use Rattle.rc_io.proofs.sink.write_all.Goals as goal

pub loop-at-preserved : goal.loop-at-preserved
loop-at-preserved g c =
    let wrote = c.in_ok-at.ensures in
    let some = wrote.some in
    let rest = length-drop c.loop-at.at c.args.bytes.now in
    record {
      within = omega arith;
      so_far = adds_next _ _ _ c.args.bytes.now c.loop-at.at c.in_ok-at.field-0 c.loop-at.invariant.so_far wrote.bytes;
      quiet = wrote.quiet ∙ c.loop-at.invariant.quiet;
    }
