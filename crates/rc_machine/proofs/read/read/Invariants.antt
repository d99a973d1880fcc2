use Rattle.std.proofs.Common.{◌≡◌, take}
use Rattle.rc_machine.proofs.Imports.{held_of, AreMerges, HasMoreTuples}
use Rattle.rc_machine.proofs.read.read.Given as goal

abbrev pub invariant-loop-at : goal.invariant-loop-at
invariant-loop-at g l = record {
  merged : AreMerges (take l.at l.fn.space.bindings.tuples) l.edge (held_of (g.H.Holder.seen l.holder)) l.space.found.tuples;
  bindings : l.space.bindings ≡ l.fn.space.bindings;
  old : l.space.old_tuple ≡ l.fn.space.old_tuple;
  same : HasMoreTuples l.initial.space.found l.space.found;
}
