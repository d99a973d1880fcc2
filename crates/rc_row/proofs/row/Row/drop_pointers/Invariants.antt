use Rattle.std.proofs.Common.{◌≡◌, ◌-◌, ◌≤◌, ℕ, List, [], ◌∷◌, ◌++◌}
use Rattle.rc_row.proofs.Imports.{Empty, Slot, slot_place, own_hands}
use Rattle.rc_row.proofs.OwnLemmas.{emptying}
use Rattle.rc_row.proofs.row.Row.drop_pointers.Given as goal

abbrev pub invariant-loop-pass : goal.invariant-loop-pass
invariant-loop-pass l =
    (l.seat.table_id ≡ l.fn.seat.table_id) × (l.seat.id ≡ l.fn.seat.id) × (l.seat.me.0 ≡ l.fn.seat.me.0) × (l.pass ≤ l.self.key.passes)
    × ((owns : ℕ → Slot) (more : List (ℕ × Slot)) → l.fn.seat.me.1 ≡ (slot_place l.stripe, Empty) ∷ own_hands l.self.key.passes l.stripe owns ++ more
    → l.seat.me.1 ≡ emptying l.self.key.passes l.stripe owns Empty (more ++ (slot_place l.stripe, Empty) ∷ []) (l.self.key.passes - l.pass))
