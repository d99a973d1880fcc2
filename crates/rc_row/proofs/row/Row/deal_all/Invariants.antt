use Rattle.std.proofs.Common.{◌≡◌, ◌+◌, ◌≤◌, ◌++◌, drop, length}
use Rattle.rc_row.proofs.Imports.{into_iter_items, into_iter_len, resumed_from, history_by, passes_view, starts, stripes_of, AreRooms}
use Rattle.rc_row.proofs.row.Row.deal_all.Given as goal

-- those that were dealt, and those that are left
abbrev pub invariant-loop-one : goal.invariant-loop-one
invariant-loop-one l = record {
  dealt : l.dealt.items ++ resumed_from l.self (length l.dealt.items) (into_iter_items l.one-iterator) ≡ resumed_from l.self 0 l.fn.ended.items;
  left : into_iter_items l.one-iterator ≡ drop (length l.dealt.items) l.fn.ended.items;
  count : into_iter_len l.one-iterator ≡ length (into_iter_items l.one-iterator);
  sum : length l.dealt.items + length (into_iter_items l.one-iterator) ≡ length l.fn.ended.items;
  held : length l.held.items ≡ length (into_iter_items l.one-iterator);
  rooms : AreRooms (stripes_of l.self) l.held.items;
  room : length l.fn.ended.items ≤ l.dealt.cap;
  seat : l.seat.table_id ≡ l.self.table;
  view : l.seat.me.0 ≡ passes_view (starts (history_by l.self.key) (length l.dealt.items) (length (into_iter_items l.one-iterator)));
}
