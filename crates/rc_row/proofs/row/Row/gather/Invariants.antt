use Rattle.std.proofs.Common.{◌≡◌, ◌≤◌, drop, length, take}
use Rattle.rc_row.proofs.Imports.{All, AreEnded, passes_view}
use Rattle.rc_row.proofs.ClosingLemmas.{IsIdle, standings_of}
use Rattle.rc_row.proofs.row.Row.gather.Given as goal

-- those that were gathered, and those that are left
abbrev pub invariant-loop-passes : goal.invariant-loop-passes
invariant-loop-passes l =
    (l.seat.table_id ≡ l.self.table)
    × (l.seat.me.0 ≡ passes_view (standings_of (take (length l.ended.items) l.fn.passes.items)))
    × (l.passes.items ≡ drop (length l.ended.items) l.fn.passes.items)
    × AreEnded (take (length l.ended.items) l.fn.passes.items) l.ended.items
    × All IsIdle (take (length l.ended.items) l.fn.passes.items)
    × (length l.fn.passes.items ≤ l.ended.cap)

abbrev pub decreases-loop-passes : goal.decreases-loop-passes
decreases-loop-passes l = length l.passes.items
