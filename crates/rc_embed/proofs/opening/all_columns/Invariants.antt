use Rattle.std.proofs.Common.{◌≡◌, map}
use Rattle.rc_embed.proofs.Imports.{range_with_len, written_columns_at}
use Rattle.rc_embed.proofs.opening.all_columns.Given as goal

abbrev pub invariant-loop-op : goal.invariant-loop-op
invariant-loop-op l = l.columns.items ≡ map (written_columns_at l.spec) (range_with_len 0 l.op)
