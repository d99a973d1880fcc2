use Rattle.rc_instance.proofs.Imports.{take, IsIndexed}
use Rattle.rc_instance.proofs.index.index_by.Given as goal

abbrev pub invariant-loop-tuple : goal.invariant-loop-tuple
invariant-loop-tuple l = IsIndexed l.columns (take l.tuple-index l.tuples) l.index.entries
