use Rattle.std.proofs.Common.{◌≡◌, ◌+◌, drop}
use Rattle.std.specs.List.{position_or_len}
use Rattle.rc_reader.specs.declared.sections.LineKind.{LineKind}
use Rattle.rc_reader.specs.declared.sections.Limit.{Limit}
use Rattle.rc_reader.specs.Sections.{is_kind}
use Rattle.rc_reader.proofs.sections.row_among.Given as goal

abbrev pub invariant-loop-place : goal.invariant-loop-place
invariant-loop-place l =
    let is_row : LineKind × Limit → _ = λ row. is_kind l.kind row.0 in
    l.place + position_or_len is_row (drop l.place l.rows) ≡ position_or_len is_row l.rows
