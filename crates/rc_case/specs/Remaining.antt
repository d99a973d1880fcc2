-- How much of a file is left to be read.
use Rattle.std.specs.Prelude.{ℕ, ◌+◌, cond, length}
use Rattle.std.specs.Str.Iter.{lines_rest}
use Rattle.rc_case.specs.declared.cases.Cases.{Cases}

-- no more items come than bytes are left, and one for the end of the file
abbrev pub most_left : Cases → ℕ
most_left s = length (lines_rest s.lines) + cond s.is_ended 0 1
