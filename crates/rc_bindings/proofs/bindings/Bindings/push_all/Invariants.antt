use Rattle.std.proofs.Common.{◌≡◌, ◌+◌, ◌*◌, ◌/◌, ◌≤◌, List, length}
use Rattle.rc_bindings.proofs.Imports.{flat_map, chunks_exact_rest, chunks_exact_size, vec_len, vec_capacity, In, Pairs, AreBindings, IsGivenBy, key_and_extra, seen_list, HasPushed}
use Rattle.rc_bindings.proofs.bindings.Bindings.push_all.Given as goal

abbrev pub invariant-loop-row : goal.invariant-loop-row
invariant-loop-row l = record {
  size : chunks_exact_size l.row-iterator ≡ l.keys + l.extras;
  columns : l.self-inside.cols ≡ l.fn.self.columns;
  width : l.self-inside.width ≡ l.fn.self.width;
  bindings : AreBindings l.self-inside.cols l.self-inside.width l.self-inside.count l.self-inside.registers.items;
  room : vec_len l.self-inside.registers + length (chunks_exact_rest l.row-iterator) / (l.keys + l.extras) * l.self-inside.width ≤ vec_capacity l.self-inside.registers;
  pushed : (rows : List Pairs) → l.values ≡ flat_map (key_and_extra l.key l.extra) rows → ((row : Pairs) → In row rows → IsGivenBy l.binding.tuple l.key l.extra row)
      → HasPushed l.binding.tuple l.key l.extra (chunks_exact_rest l.row-iterator) l.fn.self (seen_list l.self-inside.cols l.self-inside.width l.self-inside.count l.self-inside.registers.items) rows;
}
