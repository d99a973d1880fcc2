use Rattle.std.proofs.Common.{◌≡◌, drop, map}
use Rattle.rc_embed.proofs.Imports.{spec_of, first_fault}
use Rattle.rc_embed.proofs.shared.Shared.first_fault.Given as goal

abbrev pub invariant-loop-call : goal.invariant-loop-call
invariant-loop-call g l =
    first_fault (spec_of l.self.row) (map g.A.Asks.asked l.calls)
    ≡ first_fault (spec_of l.self.row) (map g.A.Asks.asked (drop l.call-index l.calls))
