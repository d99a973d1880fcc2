use Rattle.rc_embed.proofs.Imports.{AllByRecursion, Fits, spec_of, calls_by}
use Rattle.std.proofs.Common.{◌≡◌, ◌≤◌, length, map, take}
use Rattle.rc_embed.proofs.shared.Shared.refill_all.Given as goal

abbrev pub invariant-loop-at : goal.invariant-loop-at
invariant-loop-at g l =
    (length l.asked ≤ length l.calls.items)
    × (take l.at l.calls.items ≡ take l.at (calls_by (spec_of l.self.row) (map g.A.Asks.asked l.asked)))
    × AllByRecursion (Fits (spec_of l.self.row)) (take l.at l.calls.items)
