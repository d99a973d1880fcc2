use Rattle.std.proofs.Common.{◌≡◌, take}
use Rattle.rc_open.specs.ShapeText.{shapes_text}
use Rattle.rc_open.proofs.printing.print_shapes.Given as goal

abbrev pub invariant-loop-shape : goal.invariant-loop-shape
invariant-loop-shape l = l.text.items ≡ shapes_text l.spec (take l.shape-index l.shapes)
