use Rattle.std.proofs.Common.{◌≡◌, ◌++◌, take}
use Rattle.rc_dot.specs.Dot.{columns_text}
use Rattle.rc_dot.proofs.words.push_columns.Given as goal

abbrev pub invariant-loop-place : goal.invariant-loop-place
invariant-loop-place l = l.text.items ≡ l.fn.text.items ++ columns_text l.spec (take l.place l.cols)
