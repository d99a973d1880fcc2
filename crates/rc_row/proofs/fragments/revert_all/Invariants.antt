use Rattle.std.proofs.Common.{◌≡◌, ◌++◌, take, drop}
use Rattle.rc_row.proofs.Imports.{rolled_back, all_with}
use Rattle.rc_row.proofs.fragments.revert_all.Given as goal

abbrev pub invariant-loop-i : goal.invariant-loop-i
invariant-loop-i l = (l.held.items ≡ all_with rolled_back (take l.i l.fn.held.items) ++ drop l.i l.fn.held.items) × (l.held.cap ≡ l.fn.held.cap)
