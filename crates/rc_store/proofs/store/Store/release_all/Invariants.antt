use Rattle.std.proofs.Common.{◌≡◌, length}
use Rattle.rc_row.specs.Passes.{AreAtRest, IsPassOf, idle}
use Rattle.rc_store.proofs.store.Store.release_all.Given as goal

abbrev pub invariant-loop-stripe : goal.invariant-loop-stripe
invariant-loop-stripe g l = IsPassOf l.fn.self.row l.pass × AreAtRest l.pass.held × (idle l.pass ≡ idle l.fn.pass)

abbrev pub decreases-loop-stripe : goal.decreases-loop-stripe
decreases-loop-stripe g l = length l.pass.held
