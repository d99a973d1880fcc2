use Rattle.std.proofs.Common.{◌≡◌, drop}
use Rattle.rc_fragment.proofs.Imports.{map, entries_of, has_one_column, pair_of}
use Rattle.rc_fragment.proofs.CopyLemmas.{IsCopied}
use Rattle.rc_fragment.proofs.source_table.copy_of.Given as goal

abbrev pub invariant-loop-source : goal.invariant-loop-source
invariant-loop-source l = record {
  copied : IsCopied (entries_of l.sources) (map pair_of (drop l.source-index l.source-items)) (entries_of l.copy);
  width : has_one_column l.copy ≡ l.one_column;
}
