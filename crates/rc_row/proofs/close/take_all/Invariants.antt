use Rattle.std.proofs.Common.{◌≡◌, ℕ, ◌+◌, ◌*◌, ◌<◌, ◌≤◌, Bool, false, get_or, length, Some}
use mathlib.Core.Option.{some}
use lib.ListN.{get_elem?}
use Rattle.rc_row.proofs.Imports.{slice_get, slots_items, slots_filled, slots_len, Filled, KeptRows, kept_in, slot_place}
use Rattle.rc_row.proofs.close.take_all.Given as goal

abbrev pub invariant-loop-i : goal.invariant-loop-i
invariant-loop-i l =
    (slots_len l.closed.slots ≡ slots_len l.fn.closed.slots)
    × (slots_items l.closed.slots ≡ slots_items l.fn.closed.slots)
    × Filled (slots_filled l.closed.slots) l.i (slots_len l.closed.slots)
    × ((k : ℕ) → k < l.i → get_or (slots_filled l.closed.slots) k false ≡ false)
    × (length l.fragments.items ≤ l.stripes)
    × (4 * length l.fragments.items < l.i + 4)
    × (length l.fragments.items < l.stripes → l.i ≤ 4 * length l.fragments.items)
    × (l.stripes ≤ l.fragments.cap)
    × ((p : ℕ) (handed : Bool) (keep : KeptRows) → p < length l.fragments.items → get_elem? (slots_items l.fn.closed.slots) (slot_place p) ≡ some (kept_in handed keep) → slice_get l.fragments.items p ≡ Some keep)
