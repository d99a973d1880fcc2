use Rattle.rc_instance.proofs.Imports.{take, In, Within, Pairs, IsTuple, cols_of}
use Rattle.rc_instance.proofs.hash_join.shared_columns.Given as goal

abbrev pub invariant-loop-tuple : goal.invariant-loop-tuple
invariant-loop-tuple l = record {
  shared : (t : Pairs) → In t (take l.tuple-index l.tuples) → Within l.columns (cols_of t);
  tuples : (t : Pairs) → In t (take l.tuple-index l.tuples) → IsTuple t;
}
