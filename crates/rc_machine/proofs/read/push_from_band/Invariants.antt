use Rattle.rc_machine.proofs.Imports.{range_with_len, held_of, HasMergedOn, HasMoreTuples}
use Rattle.rc_machine.proofs.read.push_from_band.Given as goal

abbrev pub invariant-loop-place : goal.invariant-loop-place
invariant-loop-place g l = record {
  merged : HasMergedOn l.binding.tuple l.read.edge (held_of (g.H.Holder.seen l.holder)) (range_with_len l.start l.place) l.fn.found.tuples l.found.tuples;
  same : HasMoreTuples l.fn.found l.found;
}
