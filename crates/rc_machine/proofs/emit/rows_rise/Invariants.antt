use Rattle.std.proofs.Common.{◌≡◌, ℕ, ◌+◌, ◌<◌, [], get_or}
use Rattle.rc_machine.proofs.Imports.{Less, pick, row_cmp}
use Rattle.rc_machine.proofs.emit.rows_rise.Given as goal

abbrev pub invariant-loop-at : goal.invariant-loop-at
invariant-loop-at l = (i : ℕ) → i + 1 < l.at → row_cmp (pick l.outs (get_or l.bindings.tuples i [])) (pick l.outs (get_or l.bindings.tuples (i + 1) [])) ≡ Less
