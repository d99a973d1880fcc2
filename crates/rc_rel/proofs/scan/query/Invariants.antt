use Rattle.std.proofs.Common.{◌≡◌, take}
use Rattle.rc_rel.proofs.Imports.{filter, is_asked, rows_of}
use Rattle.rc_rel.proofs.scan.query.Given as goal

abbrev pub invariant-loop-tuple : goal.invariant-loop-tuple
invariant-loop-tuple l = l.rows ≡ rows_of l.outs (filter (is_asked l.pattern l.ranges) (take l.tuple-index l.tuples))
