use Rattle.std.proofs.Common.{◌≡◌, ◌≤◌, length, map, take}
use Rattle.rc_embed.proofs.Imports.{spec_of, declared_by}
use Rattle.rc_embed.proofs.shared.Shared.declare_all.Given as goal

abbrev pub invariant-loop-at : goal.invariant-loop-at
invariant-loop-at g l =
    (length l.declared ≤ length l.calls.items)
    × (take l.at l.calls.items ≡ take l.at (declared_by (spec_of l.self.row) (map g.A.Asks.asked l.declared)))
