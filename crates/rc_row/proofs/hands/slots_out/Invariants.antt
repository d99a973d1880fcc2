use Rattle.std.proofs.Common.{◌≡◌, ◌*◌, ◌≤◌, ℕ, length, take}
use Rattle.rc_row.specs.Own.{hands_out}
use Rattle.rc_row.proofs.hands.slots_out.Given as goal

abbrev pub invariant-loop-one : goal.invariant-loop-one
invariant-loop-one l = ((k : ℕ) → l.count ≡ length (hands_out l.passes k (take l.one-index l.held))) × (l.count ≤ 256 * l.one-index)
