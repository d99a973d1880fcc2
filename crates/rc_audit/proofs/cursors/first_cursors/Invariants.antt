use Rattle.rc_audit.specs.Cursors.{HaveBegun}
use Rattle.rc_audit.proofs.cursors.first_cursors.Given as goal

abbrev pub invariant-loop-thread : goal.invariant-loop-thread
invariant-loop-thread l = HaveBegun l.round l.thread l.cursors.items
