use Rattle.std.proofs.Common.{◌≡◌, drop, map}
use Rattle.rc_embed.proofs.Imports.{spec_of, first_declared_fault}
use Rattle.rc_embed.proofs.shared.Shared.first_declared_fault.Given as goal

abbrev pub invariant-loop-one : goal.invariant-loop-one
invariant-loop-one g l =
    first_declared_fault (spec_of l.self.row) (map g.A.Asks.asked l.declared)
    ≡ first_declared_fault (spec_of l.self.row) (map g.A.Asks.asked (drop l.one-index l.declared))
