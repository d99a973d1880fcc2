use Rattle.std.proofs.Common.{◌≡◌, ◌++◌, take}
use Rattle.rc_open.specs.ShapeText.{columns_text}
use Rattle.rc_open.proofs.printing.push_columns.Given as goal

abbrev pub invariant-loop-col : goal.invariant-loop-col
invariant-loop-col l = l.text.items ≡ l.fn.text.items ++ columns_text l.spec (take l.col-index l.cols)
