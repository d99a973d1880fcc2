use Rattle.std.proofs.Common.{◌≡◌, ◌+◌, List}
use Rattle.rc_bindings.proofs.Imports.{flat_map, chunks_exact_rest, chunks_exact_size, In, Pairs, IsGivenBy, key_and_extra, with_tuples, HasPushed}
use Rattle.rc_bindings.proofs.bindings.Bindings.push_rows.Given as goal

abbrev pub invariant-loop-row : goal.invariant-loop-row
invariant-loop-row l = record {
  size : chunks_exact_size l.row-iterator ≡ l.keys + l.extras;
  same : l.self ≡ with_tuples l.fn.self l.self.tuples;
  pushed : (rows : List Pairs) → l.values ≡ flat_map (key_and_extra l.key l.extra) rows → ((row : Pairs) → In row rows → IsGivenBy l.binding.tuple l.key l.extra row)
      → HasPushed l.binding.tuple l.key l.extra (chunks_exact_rest l.row-iterator) l.fn.self l.self rows;
}
